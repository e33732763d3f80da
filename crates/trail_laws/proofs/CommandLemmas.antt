-- A command that waits for a connection is to check one out there; and its selection began in time.
use Rattle.std.proofs.Common.{◌≡◌, inl, inr, ℕ, ◌+◌, Bool, true, false, List, Option, None, Some, refl, sym, ap, ◌∙◌, subst}
use Rattle.std.specs.Prelude.{slice_get, slice_set, if◌then◌else◌}
use Rattle.std.specs.Option.{option_and_then}
use Rattle.std.proofs.lemmas.Bool.Decides.{eqb_tells}
use Rattle.topo_rules.specs.declared.event.TopoEvent.{TopoEvent}
use Rattle.topo_book.specs.Fresh.{is_accepted_verdict}
use Rattle.desk_trail.specs.declared.entry.LookedHow.{LookedHow}
use Rattle.desk_trail.specs.declared.entry.LookedHow.TheVariants as looked
use Rattle.desk_trail.specs.declared.request.Purpose.{Purpose}
use Rattle.desk_trail.specs.declared.request.Purpose.TheVariants as purpose
use Rattle.desk_trail.specs.Attempts.{OfCommand, asked_by, commands_after, end_by, finished, with_event}
use Rattle.desk_trail.specs.Checks.{kept_at, stream_taken}
use Rattle.desk_trail.specs.Clients.{Client}
use Rattle.desk_trail.specs.Facts.{Fact}
use Rattle.desk_trail.specs.Facts as fact
use Rattle.desk_trail.specs.Legal.{changed_by, ends_by, pool_after, stays_at}
use Rattle.desk_trail.specs.Looks.{look_asks, look_by}
use Rattle.desk_trail.specs.Pools.{OfHost, conn_streams_after, dials_now, has_by, pool_step, pools_after, waits_now}
use Rattle.desk_trail.specs.Requests.{farewell_by}
use Rattle.desk_trail.specs.States.{ClientState, CommandState, Nothing, changed, changed_at, number_of}
use Rattle.desk_trail.specs.Topologies.{asked_at, asks_of, verdict_on, with_ask}
use Rattle.trail_laws.proofs.ListLemmas.{slice_get-set_other, slice_get-set_same}

-- ---- Commands of which one changes

-- each command has some property
abbrev pub Each : (CommandState → Type 0) → List CommandState → Type 0
Each P cs = (op : ℕ) (c : CommandState) → slice_get cs op ≡ Some c → P c

pub each-same : (P : CommandState → Type 0) (cs ds : List CommandState) → ds ≡ cs → Each P cs → Each P ds
each-same P cs ds e h = subst (Each P) (sym e) h

pub each-changed : (P : CommandState → Type 0) (cs : List CommandState) (k : ℕ) (g : CommandState → CommandState) →
    ((c : CommandState) → slice_get cs k ≡ Some c → P c → P (g c)) → Each P cs → Each P (changed cs k g)
each-changed P cs k g keeps h = by (slice_get cs k) refl
  where
    by : (o : Option CommandState) → slice_get cs k ≡ o → Each P (changed_at cs k o g)
    by None e = h
    by (Some c) e = λ op d there. elim (eqb_tells k op) [
      | inl w ↦
          let here : Some (g c) ≡ Some d = sym (slice_get-set_same cs k (g c) c e) ∙ ap (slice_get (slice_set cs k (g c))) w.1 ∙ there in
          let same : g c ≡ d = (cc) in
          subst P same (keeps c e (h k c e))
      | inr w ↦ h op d (sym (slice_get-set_other cs k op (g c) w.1) ∙ there)
    ]

-- the command at that place behind it
pub there-changed : (cs : List CommandState) (k : ℕ) (g : CommandState → CommandState) (d : CommandState) → slice_get (changed cs k g) k ≡ Some d →
    (c : CommandState) × (slice_get cs k ≡ Some c) × (d ≡ g c)
there-changed cs k g d h = by (slice_get cs k) refl h
  where
    by : (o : Option CommandState) → slice_get cs k ≡ o → slice_get (changed_at cs k o g) k ≡ Some d → (c : CommandState) × (slice_get cs k ≡ Some c) × (d ≡ g c)
    by None e i = let no : None ≡ Some d = sym e ∙ i in absurd (cc)
    by (Some c) e i =
        let here : Some (g c) ≡ Some d = sym (slice_get-set_same cs k (g c) c e) ∙ i in
        let same : g c ≡ d = (cc) in
        (c, e, sym same)

-- ---- Entries that change servers, sessions and the topology alone leave the commands

pools-commands : (w : ClientState) (moment : ℕ) (o : Option OfHost) → (pools_after w moment o).commands ≡ w.commands
pools-commands w moment None = refl
pools-commands w moment (Some e) = refl

streams-commands : (w : ClientState) (f : Fact) → (conn_streams_after w f).commands ≡ w.commands
streams-commands w (fact.Dialled op host conn (Some stream)) = refl
streams-commands w (fact.Dialled op host conn None) = refl
streams-commands w f = refl

ahead-commands : (w : ClientState) (moment : ℕ) (f : Fact) → (conn_streams_after (pools_after w moment (pool_step w f)) f).commands ≡ w.commands
ahead-commands w moment f = streams-commands (pools_after w moment (pool_step w f)) f ∙ pools-commands w moment (pool_step w f)

ends-commands : (host : ℕ) (w v : ClientState) → (ends_by host w v).commands ≡ v.commands
ends-commands host w v = by (stays_at (slice_get w.servers host))
  where
    by : (b : Bool) → (if b then record v { is_ending = true } else v).commands ≡ v.commands
    by true = refl
    by false = refl

taken-commands : (o : Option ℕ) (stream : ℕ) (w : ClientState) → (stream_taken o stream w).commands ≡ w.commands
taken-commands None stream w = refl
taken-commands (Some kept) stream w = refl

look-commands : (moment : ℕ) (h : LookedHow) (w : ClientState) → (look_asks moment h w).commands ≡ w.commands
look-commands moment looked.NoneFits w = refl
look-commands moment (looked.Chosen host) w = refl
look-commands moment looked.Failed w = refl
look-commands moment (looked.Incompatible host) w = refl

farewell-commands : (p : Purpose) (stream : ℕ) (w : ClientState) → (farewell_by p stream w).commands ≡ w.commands
farewell-commands (purpose.Command op) stream w = refl
farewell-commands (purpose.Check host) stream w = refl
farewell-commands (purpose.Greeting host conn) stream w = refl
farewell-commands purpose.Farewell stream w = refl

offered-commands : (moment : ℕ) (e : TopoEvent) (w : ClientState) → (if is_accepted_verdict (verdict_on w e) then with_ask moment e w else w).commands ≡ w.commands
offered-commands moment e w = by (is_accepted_verdict (verdict_on w e)) (asks (option_and_then (number_of w) (asks_of e)))
  where
    asks : (o : Option ℕ) → (asked_at moment o w).commands ≡ w.commands
    asks None = refl
    asks (Some host) = refl

    by : (b : Bool) → (with_ask moment e w).commands ≡ w.commands → (if b then with_ask moment e w else w).commands ≡ w.commands
    by true h = h
    by false h = refl

-- ---- What each entry does to a command, its event aside

-- a change of the command at a place; none where it changes no command
pub data Change : Type 0 where
  Still : Change
  Of : (op : ℕ) (g : CommandState → CommandState) → Change

abbrev pub asked_change : ℕ → Purpose → Change
asked_change moment (purpose.Command op) = Of op (λ c. record c { asked = Some moment })
asked_change moment p = Still

abbrev pub change_of : ℕ → ClientState → Fact → Change
change_of moment w (fact.Looked op a b kept picked) = Of op (look_by w moment picked)
change_of moment w (fact.Entered op host ticket) = Of op (waits_now host ticket)
change_of moment w (fact.Lent op host conn) = Of op (λ c. record c { check_out = has_by conn c.check_out })
change_of moment w (fact.Dialled op host conn stream) = Of op (dials_now moment conn)
change_of moment w (fact.NotLent op host why) = Of op (λ c. record c { check_out = Nothing })
change_of moment w (fact.CheckedIn op host conn errored) = Of op (λ c. record c { check_out = Nothing })
change_of moment w (fact.Leased op place lsid fresh) = Of op (λ c. record c { session = Some place })
change_of moment w (fact.Drew op number) = Of op (λ c. record c { number = Some number })
change_of moment w (fact.Returned op dirty kept) = Of op (λ c. record c { session = None })
change_of moment w (fact.Asked place request) = asked_change moment request.purpose
change_of moment w (fact.Ended op end) = Of op (end_by end)
change_of moment w (fact.Finished op outcome) = Of op finished
change_of moment w f = Still

-- the command behind it, and its place
abbrev pub run : Change → CommandState → CommandState
run Still c = c
run (Of op g) c = g c

abbrev pub place_of : Change → ℕ
place_of Still = 0
place_of (Of op g) = op

abbrev pub with_change : Change → List CommandState → List CommandState
with_change Still cs = cs
with_change (Of op g) cs = changed cs op g

at-changed : (op : ℕ) (g : CommandState → CommandState) (cs ds : List CommandState) → ds ≡ cs → changed ds op g ≡ changed cs op g
at-changed op g cs ds e = ap (λ xs. changed xs op g) e

asked-change : (moment : ℕ) (p : Purpose) (stream : ℕ) (w : ClientState) → (asked_by moment p (farewell_by p stream w)).commands ≡ with_change (asked_change moment p) w.commands
asked-change moment (purpose.Command op) stream w = refl
asked-change moment (purpose.Check host) stream w = refl
asked-change moment (purpose.Greeting host conn) stream w = refl
asked-change moment purpose.Farewell stream w = refl

pub changes : (client : Client) (moment : ℕ) (w : ClientState) (f : Fact) → (changed_by client moment w f).commands ≡ with_change (change_of moment w f) w.commands
changes client moment w (fact.Named host address) = refl
changes client moment w (fact.Dropped host) = refl
changes client moment w (fact.Offered place e taken) = offered-commands moment e w
changes client moment w (fact.PoolReady host) = ahead-commands w moment (fact.PoolReady host)
changes client moment w (fact.PoolClear host) = ahead-commands w moment (fact.PoolClear host)
changes client moment w (fact.PoolShut host) = ends-commands host w (pool_after w moment (fact.PoolShut host)) ∙ ahead-commands w moment (fact.PoolShut host)
changes client moment w (fact.CheckBegan host stream) = taken-commands (kept_at w host) stream w
changes client moment w (fact.CheckDry host) = refl
changes client moment w (fact.CheckEnded host h) = refl
changes client moment w (fact.Looked op a b kept picked) =
    at-changed op (look_by w moment picked) w.commands (look_asks moment picked w).commands (look-commands moment picked w)
changes client moment w (fact.Entered op host ticket) = at-changed op (waits_now host ticket) w.commands _ (ahead-commands w moment (fact.Entered op host ticket))
changes client moment w (fact.Lent op host conn) =
    at-changed op (λ c. record c { check_out = has_by conn c.check_out }) w.commands _ (ahead-commands w moment (fact.Lent op host conn))
changes client moment w (fact.Dialled op host conn stream) =
    at-changed op (dials_now moment conn) w.commands _ (ahead-commands w moment (fact.Dialled op host conn stream))
changes client moment w (fact.Settled op host conn stale) = ahead-commands w moment (fact.Settled op host conn stale)
changes client moment w (fact.NotLent op host why) =
    at-changed op (λ c. record c { check_out = Nothing }) w.commands _ (ahead-commands w moment (fact.NotLent op host why))
changes client moment w (fact.CheckedIn op host conn errored) =
    at-changed op (λ c. record c { check_out = Nothing }) w.commands _ (ahead-commands w moment (fact.CheckedIn op host conn errored))
changes client moment w (fact.ConnShut host conn reason) = ahead-commands w moment (fact.ConnShut host conn reason)
changes client moment w (fact.Leased op place lsid fresh) = refl
changes client moment w (fact.Drew op number) = refl
changes client moment w (fact.Returned op dirty kept) = refl
changes client moment w (fact.Asked place r) = asked-change moment r.purpose r.stream (record w { requests = w.requests + 1 })
changes client moment w (fact.Ended op end) = refl
changes client moment w (fact.Time stamp) = refl
changes client moment w (fact.Finished op outcome) = refl

-- each command keeps a property that the change of one keeps
pub each-behind : (P : CommandState → Type 0) (client : Client) (moment : ℕ) (w : ClientState) (f : Fact) →
    ((c : CommandState) → slice_get w.commands (place_of (change_of moment w f)) ≡ Some c → P c → P (run (change_of moment w f) c)) →
    Each P w.commands → Each P (changed_by client moment w f).commands
each-behind P client moment w f keeps h =
    each-same P (with_change (change_of moment w f) w.commands) (changed_by client moment w f).commands (changes client moment w f) (by (change_of moment w f) keeps)
  where
    by : (d : Change) → ((c : CommandState) → slice_get w.commands (place_of d) ≡ Some c → P c → P (run d c)) → Each P (with_change d w.commands)
    by Still k = h
    by (Of op g) k = each-changed P w.commands op g k h

-- the events of commands
pub each-event : (P : CommandState → Type 0) (o : Option OfCommand) (v : ClientState) →
    ((e : OfCommand) → o ≡ Some e → (c : CommandState) → slice_get v.commands e.0 ≡ Some c → P c → P (with_event e.1 c)) → Each P v.commands → Each P (commands_after o v).commands
each-event P None v keeps h = h
each-event P (Some e) v keeps h = each-changed P v.commands e.0 (with_event e.1) (keeps e refl) h
