-- What each entry does to each command.
use Rattle.std.proofs.Common.{◌≡◌, inl, inr, ℕ, ◌+◌, Bool, true, false, cond, eqb, List, Option, None, Some, refl, sym, ap, ◌∙◌, subst}
use Rattle.std.specs.Prelude.{slice_get, if◌then◌else◌}
use Rattle.std.specs.Option.{option_and_then, option_map}
use Rattle.std.proofs.lemmas.Bool.Decides.{eqb_tells}
use Rattle.topo_rules.specs.declared.event.TopoEvent.{TopoEvent}
use Rattle.write_retry.specs.Machine.{allows}
use Rattle.write_retry.specs.Machine as machine
use Rattle.write_retry.specs.declared.attempt_end.AttemptEnd.{AttemptEnd}
use Rattle.write_retry.specs.declared.events.OpEvent.{OpEvent}
use Rattle.write_retry.specs.declared.events.OpEvent.TheVariants as event
use Rattle.hello_reply.specs.declared.server_description.ServerDescription.{ServerDescription}
use Rattle.desk_trail.specs.declared.entry.LookedHow.{LookedHow}
use Rattle.desk_trail.specs.declared.entry.LookedHow.TheVariants as looked
use Rattle.desk_trail.specs.declared.request.Purpose.{Purpose}
use Rattle.desk_trail.specs.declared.request.Purpose.TheVariants as purpose
use Rattle.desk_trail.specs.declared.request.Request.{Request}
use Rattle.desk_trail.specs.Attempts.{CommandAllows, OfCommand, asked_by, asked_event, command_step, commands_after, end_by, end_event, finished, look_event, misfit_event, to_command, with_event}
use Rattle.desk_trail.specs.Checks.{kept_at, stream_taken}
use Rattle.desk_trail.specs.Clients.{Client}
use Rattle.desk_trail.specs.Facts.{Fact}
use Rattle.desk_trail.specs.Facts as fact
use Rattle.desk_trail.specs.Legal.{changed_by, client_after, ends_by, pool_after, stays_at}
use Rattle.desk_trail.specs.Looks.{is_numbered_at, look_asks, look_by}
use Rattle.desk_trail.specs.Pools.{OfHost, conn_streams_after, dials_by, dials_now, has_by, pool_step, pools_after, waits_now}
use Rattle.desk_trail.specs.Requests.{farewell_by}
use Rattle.desk_trail.specs.States.{CheckOut, ClientState, CommandState, Dials, Has, Nothing, Waits, changed, description_of, number_of}
use Rattle.desk_trail.specs.Topologies.{asked_at, asks_of, offered_after, with_ask}
use Rattle.answer_laws.proofs.ListLemmas.{changed-other, changed-same}

-- ---- Entries that change servers, sessions and the topology alone leave the commands

pools-commands : (w : ClientState) (moment : ℕ) (o : Option OfHost) → (pools_after w moment o).commands ≡ w.commands
pools-commands w moment None = refl
pools-commands w moment (Some e) = refl

streams-commands : (w : ClientState) (f : Fact) → (conn_streams_after w f).commands ≡ w.commands
streams-commands w (fact.Dialled op host conn (Some stream)) = refl
streams-commands w (fact.Dialled op host conn None) = refl
streams-commands w f = refl

ahead-commands : (w : ClientState) (moment : ℕ) (f : Fact) → (conn_streams_after (pools_after w moment (pool_step w f)) f).commands ≡ w.commands
ahead-commands w moment f = streams-commands (pools_after w moment (pool_step w f)) f ∙ pools-commands w moment (pool_step w f)

ends-commands : (host : ℕ) (w v : ClientState) → (ends_by host w v).commands ≡ v.commands
ends-commands host w v = by (stays_at (slice_get w.servers host))
  where
    by : (b : Bool) → (if b then record v { is_ending = true } else v).commands ≡ v.commands
    by true = refl
    by false = refl

taken-commands : (o : Option ℕ) (stream : ℕ) (w : ClientState) → (stream_taken o stream w).commands ≡ w.commands
taken-commands None stream w = refl
taken-commands (Some kept) stream w = refl

look-commands : (moment : ℕ) (h : LookedHow) (w : ClientState) → (look_asks moment h w).commands ≡ w.commands
look-commands moment looked.NoneFits w = refl
look-commands moment (looked.Chosen host) w = refl
look-commands moment looked.Failed w = refl
look-commands moment (looked.Incompatible host) w = refl

farewell-commands : (p : Purpose) (stream : ℕ) (w : ClientState) → (farewell_by p stream w).commands ≡ w.commands
farewell-commands (purpose.Command op) stream w = refl
farewell-commands (purpose.Check host) stream w = refl
farewell-commands (purpose.Greeting host conn) stream w = refl
farewell-commands purpose.Farewell stream w = refl

asked_at-commands : (moment : ℕ) (o : Option ℕ) (w : ClientState) → (asked_at moment o w).commands ≡ w.commands
asked_at-commands moment None w = refl
asked_at-commands moment (Some host) w = refl

if-commands : (b : Bool) (v w : ClientState) → v.commands ≡ w.commands → (if b then v else w).commands ≡ w.commands
if-commands true v w e = e
if-commands false v w e = refl

offered-commands : (moment : ℕ) (e : TopoEvent) (w : ClientState) → (offered_after moment e w).commands ≡ w.commands
offered-commands moment e w = if-commands _ (with_ask moment e w) w (asked_at-commands moment (option_and_then (number_of w) (asks_of e)) w)

-- ---- What each entry does to a command, its event aside

-- a change of the command at a place; none where it changes no command
pub data Change : Type 0 where
  Still : Change
  Of : (op : ℕ) (g : CommandState → CommandState) → Change

abbrev pub asked_change : ℕ → Purpose → Change
asked_change moment (purpose.Command op) = Of op (λ c. record c { asked = Some moment })
asked_change moment p = Still

abbrev pub change_of : ℕ → ClientState → Fact → Change
change_of moment w (fact.Looked op a b kept picked) = Of op (look_by w moment picked)
change_of moment w (fact.Entered op host ticket) = Of op (waits_now host ticket)
change_of moment w (fact.Lent op host conn) = Of op (λ c. record c { check_out = has_by conn c.check_out })
change_of moment w (fact.Dialled op host conn stream) = Of op (dials_now moment conn)
change_of moment w (fact.NotLent op host why) = Of op (λ c. record c { check_out = Nothing })
change_of moment w (fact.CheckedIn op host conn errored) = Of op (λ c. record c { check_out = Nothing })
change_of moment w (fact.Leased op place lsid fresh) = Of op (λ c. record c { session = Some place })
change_of moment w (fact.Drew op number) = Of op (λ c. record c { number = Some number })
change_of moment w (fact.Returned op dirty kept) = Of op (λ c. record c { session = None })
change_of moment w (fact.Asked place request) = asked_change moment request.purpose
change_of moment w (fact.Ended op end) = Of op (end_by end)
change_of moment w (fact.Finished op outcome) = Of op finished
change_of moment w f = Still

abbrev pub with_change : Change → List CommandState → List CommandState
with_change Still cs = cs
with_change (Of op g) cs = changed cs op g

at-changed : (op : ℕ) (g : CommandState → CommandState) (cs ds : List CommandState) → ds ≡ cs → changed ds op g ≡ changed cs op g
at-changed op g cs ds e = ap (λ xs. changed xs op g) e

asked-change : (moment : ℕ) (p : Purpose) (stream : ℕ) (w : ClientState) → (asked_by moment p (farewell_by p stream w)).commands ≡ with_change (asked_change moment p) w.commands
asked-change moment (purpose.Command op) stream w = refl
asked-change moment (purpose.Check host) stream w = refl
asked-change moment (purpose.Greeting host conn) stream w = refl
asked-change moment purpose.Farewell stream w = refl

pub changes : (client : Client) (moment : ℕ) (w : ClientState) (f : Fact) → (changed_by client moment w f).commands ≡ with_change (change_of moment w f) w.commands
changes client moment w (fact.Named host address) = refl
changes client moment w (fact.Dropped host) = refl
changes client moment w (fact.Offered place e taken) = offered-commands moment e w
changes client moment w (fact.PoolReady host) = ahead-commands w moment (fact.PoolReady host)
changes client moment w (fact.PoolClear host) = ahead-commands w moment (fact.PoolClear host)
changes client moment w (fact.PoolShut host) = ends-commands host w (pool_after w moment (fact.PoolShut host)) ∙ ahead-commands w moment (fact.PoolShut host)
changes client moment w (fact.CheckBegan host stream) = taken-commands (kept_at w host) stream w
changes client moment w (fact.CheckDry host) = refl
changes client moment w (fact.CheckEnded host h) = refl
changes client moment w (fact.Looked op a b kept picked) =
    at-changed op (look_by w moment picked) w.commands (look_asks moment picked w).commands (look-commands moment picked w)
changes client moment w (fact.Entered op host ticket) = at-changed op (waits_now host ticket) w.commands _ (ahead-commands w moment (fact.Entered op host ticket))
changes client moment w (fact.Lent op host conn) =
    at-changed op (λ c. record c { check_out = has_by conn c.check_out }) w.commands _ (ahead-commands w moment (fact.Lent op host conn))
changes client moment w (fact.Dialled op host conn stream) =
    at-changed op (dials_now moment conn) w.commands _ (ahead-commands w moment (fact.Dialled op host conn stream))
changes client moment w (fact.Settled op host conn stale) = ahead-commands w moment (fact.Settled op host conn stale)
changes client moment w (fact.NotLent op host why) =
    at-changed op (λ c. record c { check_out = Nothing }) w.commands _ (ahead-commands w moment (fact.NotLent op host why))
changes client moment w (fact.CheckedIn op host conn errored) =
    at-changed op (λ c. record c { check_out = Nothing }) w.commands _ (ahead-commands w moment (fact.CheckedIn op host conn errored))
changes client moment w (fact.ConnShut host conn reason) = ahead-commands w moment (fact.ConnShut host conn reason)
changes client moment w (fact.Leased op place lsid fresh) = refl
changes client moment w (fact.Drew op number) = refl
changes client moment w (fact.Returned op dirty kept) = refl
changes client moment w (fact.Asked place r) = asked-change moment r.purpose r.stream (record w { requests = w.requests + 1 })
changes client moment w (fact.Ended op end) = refl
changes client moment w (fact.Time stamp) = refl
changes client moment w (fact.Finished op outcome) = refl

-- ---- The command at a place behind an entry

abbrev pub change_run : Change → ℕ → CommandState → CommandState
change_run Still op c = c
change_run (Of k g) op c = cond (eqb k op) (g c) c

abbrev pub event_run : Option OfCommand → ℕ → CommandState → CommandState
event_run None op c = c
event_run (Some e) op c = cond (eqb e.0 op) (with_event e.1 c) c

-- it was there
pub record Was (cs : List CommandState) (op : ℕ) (g : CommandState → CommandState) (d : CommandState) : Type 0 where
  pub old : CommandState
  pub there : slice_get cs op ≡ Some old
  pub is : d ≡ g old

mapped : (o : Option CommandState) (g : CommandState → CommandState) (d : CommandState) → option_map g o ≡ Some d → (c : CommandState) × (o ≡ Some c) × (d ≡ g c)
mapped None g d e = absurd (cc)
mapped (Some c) g d e = (c, refl, let same : g c ≡ d = (cc) in sym same)

changed-was : (cs : List CommandState) (k op : ℕ) (g : CommandState → CommandState) (d : CommandState) → slice_get (changed cs k g) op ≡ Some d →
    Was cs op (λ c. cond (eqb k op) (g c) c) d
changed-was cs k op g d h = elim (eqb_tells k op) [
  | inl w ↦
      let m = mapped (slice_get cs k) g d (sym (changed-same cs k g) ∙ ap (slice_get (changed cs k g)) w.1 ∙ h) in
      record { old = m.0; there = ap (slice_get cs) (sym w.1) ∙ m.1; is = rw w.0 m.2 }
  | inr w ↦ record { old = d; there = sym (changed-other cs k op g w.1) ∙ h; is = rw w.0 refl }
]

change-was : (ch : Change) (cs : List CommandState) (op : ℕ) (d : CommandState) → slice_get (with_change ch cs) op ≡ Some d → Was cs op (change_run ch op) d
change-was Still cs op d h = record { old = d; there = h; is = refl }
change-was (Of k g) cs op d h = changed-was cs k op g d h

event-was : (o : Option OfCommand) (v : ClientState) (op : ℕ) (d : CommandState) → slice_get (commands_after o v).commands op ≡ Some d → Was v.commands op (event_run o op) d
event-was None v op d h = record { old = d; there = h; is = refl }
event-was (Some e) v op d h = changed-was v.commands e.0 op (with_event e.1) d h

pub was : (client : Client) (moment : ℕ) (w : ClientState) (f : Fact) (op : ℕ) (d : CommandState) → slice_get (client_after client moment w f).commands op ≡ Some d →
    Was w.commands op (λ c. event_run (command_step client w f) op (change_run (change_of moment w f) op c)) d
was client moment w f op d h =
    let v = changed_by client moment w f in
    let a = event-was (command_step client w f) v op d h in
    let b = change-was (change_of moment w f) w.commands op a.old (ap (λ cs. slice_get cs op) (sym (changes client moment w f)) ∙ a.there) in
    record { old = b.old; there = b.there; is = a.is ∙ ap (event_run (command_step client w f) op) b.is }

-- ---- What became of it, as far as its answer goes

-- it looked for a server, or was lent a connection
abbrev pub is_move : OpEvent → Bool
is_move (event.Chosen host numbered) = true
is_move event.NoServer = true
is_move (event.Incompatible host min max) = true
is_move event.Lent = true
is_move e = false

-- the entry ends an attempt of it
abbrev pub ends_of : Fact → ℕ → Bool
ends_of (fact.Ended k end) op = eqb k op
ends_of f op = false

pub data Becomes (f : Fact) (op : ℕ) (c d : CommandState) : Type 0 where
  stays : ends_of f op ≡ false → d.asked ≡ c.asked → d.op ≡ c.op → ((host ticket conn : ℕ) → d.check_out ≡ Has host ticket conn → c.check_out ≡ Has host ticket conn) →
      Becomes f op c d
  moves : (e : OpEvent) → allows c.op.next e ≡ true → is_move e ≡ true → d.asked ≡ c.asked → d.op ≡ machine.after c.op e → Becomes f op c d
  asks : (place : ℕ) (r : Request) → f ≡ fact.Asked place r → r.purpose ≡ purpose.Command op → d.op ≡ machine.after c.op event.Sent → d.check_out ≡ c.check_out →
      Becomes f op c d
  ends : (end : AttemptEnd) → f ≡ fact.Ended op end → d.asked ≡ None → d.op ≡ machine.after c.op (end_event end) → Becomes f op c d

still : (f : Fact) (op : ℕ) (c : CommandState) → ends_of f op ≡ false → Becomes f op c c
still f op c n = stays n refl refl (λ host ticket conn h. h)

plain : (f : Fact) (op k : ℕ) (c : CommandState) (g : CommandState → CommandState) → ends_of f op ≡ false → (g c).asked ≡ c.asked → (g c).op ≡ c.op →
    ((host ticket conn : ℕ) → (g c).check_out ≡ Has host ticket conn → c.check_out ≡ Has host ticket conn) → Becomes f op c (cond (eqb k op) (g c) c)
plain f op k c g n a o h = by (eqb k op)
  where
    by : (b : Bool) → Becomes f op c (cond b (g c) c)
    by true = stays n a o h
    by false = still f op c n

-- what it answers is what was to be done next
allowed : (w : ClientState) (k op : ℕ) (c : CommandState) (e : OpEvent) → slice_get w.commands op ≡ Some c → k ≡ op → CommandAllows w (Some (k, e)) → allows c.op.next e ≡ true
allowed w k op c e there same a =
    let one : Some a.0 ≡ Some c = sym a.1 ∙ ap (slice_get w.commands) same ∙ there in
    let is : a.0 ≡ c = (cc) in
    subst (λ (x : CommandState). allows x.op.next e ≡ true) is a.2

moved : (w : ClientState) (f : Fact) (k op : ℕ) (c : CommandState) (g : CommandState → CommandState) (e : OpEvent) → slice_get w.commands op ≡ Some c → CommandAllows w (Some (k, e)) →
    is_move e ≡ true → ends_of f op ≡ false → (g c).asked ≡ c.asked → (g c).op ≡ c.op →
    Becomes f op c (cond (eqb k op) (with_event e (cond (eqb k op) (g c) c)) (cond (eqb k op) (g c) c))
moved w f k op c g e there a m n same o = elim (eqb_tells k op) [
  | inl x ↦ rw x.0 (moves e (allowed w k op c e there x.1 a) m same (ap (λ y. machine.after y e) o))
  | inr x ↦ rw x.0 (still f op c n)
]

look-plain : (w : ClientState) (moment : ℕ) (picked : LookedHow) (c : CommandState) →
    ((look_by w moment picked c).asked ≡ c.asked) × ((look_by w moment picked c).op ≡ c.op) × ((look_by w moment picked c).check_out ≡ c.check_out)
look-plain w moment looked.NoneFits c = (refl, refl, refl)
look-plain w moment (looked.Chosen host) c = (refl, refl, refl)
look-plain w moment looked.Failed c = (refl, refl, refl)
look-plain w moment (looked.Incompatible host) c = (refl, refl, refl)

looked-becomes : (w : ClientState) (moment op k a b : ℕ) (kept : List ℕ) (picked : LookedHow) (c : CommandState) (o : Option OpEvent) → slice_get w.commands op ≡ Some c →
    ((e : OpEvent) → o ≡ Some e → is_move e ≡ true) → CommandAllows w (to_command k o) →
    Becomes (fact.Looked k a b kept picked) op c (event_run (to_command k o) op (cond (eqb k op) (look_by w moment picked c) c))
looked-becomes w moment op k a b kept picked c None there m al =
    let p = look-plain w moment picked c in
    plain (fact.Looked k a b kept picked) op k c (look_by w moment picked) refl p.0 p.1 (λ host ticket conn h. sym p.2 ∙ h)
looked-becomes w moment op k a b kept picked c (Some e) there m al =
    let p = look-plain w moment picked c in
    moved w (fact.Looked k a b kept picked) k op c (look_by w moment picked) e there al (m e refl) refl p.0 p.1

misfit-moves : (host : ℕ) (o : Option ServerDescription) (e : OpEvent) → misfit_event host o ≡ Some e → is_move e ≡ true
misfit-moves host None e h = absurd (cc)
misfit-moves host (Some d) e h = let same : event.Incompatible host d.min_wire d.max_wire ≡ e = (cc) in ap is_move (sym same)

look-moves : (client : Client) (w : ClientState) (picked : LookedHow) (e : OpEvent) → look_event client w picked ≡ Some e → is_move e ≡ true
look-moves client w (looked.Chosen host) e h = let same : event.Chosen host (is_numbered_at client w host) ≡ e = (cc) in ap is_move (sym same)
look-moves client w looked.NoneFits e h = absurd (cc)
look-moves client w looked.Failed e h = let same : event.NoServer ≡ e = (cc) in ap is_move (sym same)
look-moves client w (looked.Incompatible host) e h = misfit-moves host (option_and_then (description_of w) (slice_get w.servers host)) e h

asked-becomes : (w : ClientState) (moment op place : ℕ) (r : Request) (c : CommandState) (p : Purpose) → r.purpose ≡ p →
    Becomes (fact.Asked place r) op c (event_run (asked_event p) op (change_run (asked_change moment p) op c))
asked-becomes w moment op place r c (purpose.Command k) e = elim (eqb_tells k op) [
  | inl x ↦ rw x.0 (asks place r refl (e ∙ ap (λ n. purpose.Command n) x.1) refl refl)
  | inr x ↦ rw x.0 (still (fact.Asked place r) op c refl)
]
asked-becomes w moment op place r c (purpose.Check host) e = still (fact.Asked place r) op c refl
asked-becomes w moment op place r c (purpose.Greeting host conn) e = still (fact.Asked place r) op c refl
asked-becomes w moment op place r c purpose.Farewell e = still (fact.Asked place r) op c refl

ended-becomes : (op k : ℕ) (end : AttemptEnd) (c : CommandState) →
    Becomes (fact.Ended k end) op c (cond (eqb k op) (with_event (end_event end) (cond (eqb k op) (end_by end c) c)) (cond (eqb k op) (end_by end c) c))
ended-becomes op k end c = elim (eqb_tells k op) [
  | inl x ↦ rw x.0 (ends end (ap (λ n. fact.Ended n end) x.1) refl refl)
  | inr x ↦ rw x.0 (still (fact.Ended k end) op c x.0)
]

dials-has : (conn : ℕ) (h : CheckOut) (host ticket n : ℕ) → dials_by conn h ≡ Has host ticket n → h ≡ Has host ticket n
dials-has conn Nothing host ticket n e = e
dials-has conn (Waits x t) host ticket n e = absurd (cc)
dials-has conn (Dials x t m) host ticket n e = e
dials-has conn (Has x t m) host ticket n e = e

pub becomes : (client : Client) (moment : ℕ) (w : ClientState) (f : Fact) (op : ℕ) (c : CommandState) → slice_get w.commands op ≡ Some c →
    CommandAllows w (command_step client w f) → Becomes f op c (event_run (command_step client w f) op (change_run (change_of moment w f) op c))
becomes client moment w (fact.Looked k a b kept picked) op c there al =
    looked-becomes w moment op k a b kept picked c (look_event client w picked) there (look-moves client w picked) al
becomes client moment w (fact.Entered k host ticket) op c there al =
    plain (fact.Entered k host ticket) op k c (waits_now host ticket) refl refl refl (λ x t n h. absurd (cc))
becomes client moment w (fact.Lent k host conn) op c there al =
    moved w (fact.Lent k host conn) k op c (λ (x : CommandState). record x { check_out = has_by conn x.check_out }) event.Lent there al refl refl refl refl
becomes client moment w (fact.Dialled k host conn stream) op c there al =
    plain (fact.Dialled k host conn stream) op k c (dials_now moment conn) refl refl refl (λ x t n h. dials-has conn c.check_out x t n h)
becomes client moment w (fact.NotLent k host why) op c there al =
    plain (fact.NotLent k host why) op k c (λ (x : CommandState). record x { check_out = Nothing }) refl refl refl (λ x t n h. absurd (cc))
becomes client moment w (fact.CheckedIn k host conn errored) op c there al =
    plain (fact.CheckedIn k host conn errored) op k c (λ (x : CommandState). record x { check_out = Nothing }) refl refl refl (λ x t n h. absurd (cc))
becomes client moment w (fact.Leased k place lsid fresh) op c there al =
    plain (fact.Leased k place lsid fresh) op k c (λ (x : CommandState). record x { session = Some place }) refl refl refl (λ x t n h. h)
becomes client moment w (fact.Drew k number) op c there al =
    plain (fact.Drew k number) op k c (λ (x : CommandState). record x { number = Some number }) refl refl refl (λ x t n h. h)
becomes client moment w (fact.Returned k dirty kept) op c there al =
    plain (fact.Returned k dirty kept) op k c (λ (x : CommandState). record x { session = None }) refl refl refl (λ x t n h. h)
becomes client moment w (fact.Asked place r) op c there al = asked-becomes w moment op place r c r.purpose refl
becomes client moment w (fact.Ended k end) op c there al = ended-becomes op k end c
becomes client moment w (fact.Finished k outcome) op c there al = plain (fact.Finished k outcome) op k c finished refl refl refl (λ x t n h. h)
becomes client moment w f op c there al = still f op c refl
