-- The session of a command is out.
use Rattle.std.proofs.Common.{◌≡◌, ◌≢◌, ◌<◌, inl, inr, ℕ, ◌+◌, ℤ, pos, zero, suc, Bool, true, false, List, [], ◌∷◌, ◌++◌, length, Option, None, Some, map, refl, sym, ap, ◌∙◌, subst, arith}
use Rattle.std.specs.Prelude.{slice_get, slice_set, if◌then◌else◌}
use Rattle.std.specs.Option.{option_and_then, option_map}
use Rattle.std.proofs.lemmas.Bool.Decides.{eqb_tells}
use Rattle.entry_judge.specs.Judge.{Legal, state_after}
use Rattle.entry_judge.specs.LegalLaws.{Legal-append, state_after-append}
use Rattle.entry_judge.specs.declared.timed.Timed.{Timed}
use Rattle.bson_doc.specs.declared.ids.Lsid.{Lsid}
use Rattle.cmd_build.specs.declared.command.Command.{Command}
use Rattle.sess_book.specs.Entries as session
use Rattle.sess_book.specs.Entries.{SessEntry, set_at, with_session}
use Rattle.sess_book.specs.Sessions.{Sessions}
use Rattle.sess_book.specs.declared.session.Holding.TheVariants as holding
use Rattle.sess_book.specs.declared.session.Session.{Session}
use Rattle.desk_trail.specs.declared.entry.LookedHow.{LookedHow}
use Rattle.desk_trail.specs.declared.entry.LookedHow.TheVariants as looked
use Rattle.desk_trail.specs.declared.request.Purpose.{Purpose}
use Rattle.desk_trail.specs.declared.request.Purpose.TheVariants as purpose
use Rattle.topo_rules.specs.declared.event.TopoEvent.{TopoEvent}
use Rattle.topo_book.specs.Fresh.{is_accepted_verdict}
use Rattle.desk_trail.specs.Attempts.{OfCommand, asked_by, command_step, commands_after, with_event}
use Rattle.desk_trail.specs.Checks.{kept_at, stream_taken}
use Rattle.desk_trail.specs.Clients.{Client}
use Rattle.desk_trail.specs.Facts.{Fact}
use Rattle.desk_trail.specs.Facts as fact
use Rattle.desk_trail.specs.Leases.{IsDraw, IsIdAt, IsLease, IsReturn, SessionAllows, lease_step, minutes_needed, session_held, session_step_of, sessions_by}
use Rattle.desk_trail.specs.Legal.{AreLegal, Point, StandsAt, beginning, changed_by, client_after, ends_by, point_after, point_behind, pool_after, stays_at}
use Rattle.desk_trail.specs.Looks.{look_asks, look_by}
use Rattle.desk_trail.specs.Pools.{OfHost, check_out_after, conn_streams_after, pool_step, pools_after}
use Rattle.desk_trail.specs.Requests.{farewell_by}
use Rattle.desk_trail.specs.States.{ClientState, CommandState, changed, changed_at, fresh_command, number_of}
use Rattle.desk_trail.specs.Topologies.{asked_at, asks_of, verdict_on, with_ask}
use Rattle.trail_laws.specs.Holding.{IsHeldFor}
use Rattle.trail_laws.proofs.CommandLemmas.{Change, Of, Still, asked_change, change_of, changes, run, there-changed, with_change}
use Rattle.trail_laws.proofs.ListLemmas.{changed-other, slice_get-set_other, slice_get-set_same}

-- ---- At a place of a trail

-- each command's session is held for it
abbrev pub AreHeld : ClientState → Type 0
AreHeld w = (op : ℕ) (c : CommandState) (place : ℕ) → slice_get w.commands op ≡ Some c → c.session ≡ Some place → IsHeldFor w.sessions place c.number

-- no session is two commands'
abbrev pub IsOnce : ClientState → Type 0
IsOnce w = (a b : ℕ) (x y : CommandState) (place : ℕ) → slice_get w.commands a ≡ Some x → slice_get w.commands b ≡ Some y → x.session ≡ Some place → y.session ≡ Some place → a ≡ b

-- ---- Entries that are not of sessions

abbrev is_aside : Fact → Bool
is_aside (fact.Leased op place lsid fresh) = false
is_aside (fact.Drew op number) = false
is_aside (fact.Returned op dirty kept) = false
is_aside f = true

check_out-sessions : (moment : ℕ) (w : ClientState) (f : Fact) → (check_out_after moment w f).sessions ≡ w.sessions
check_out-sessions moment w (fact.Entered op host ticket) = refl
check_out-sessions moment w (fact.Lent op host conn) = refl
check_out-sessions moment w (fact.Dialled op host conn stream) = refl
check_out-sessions moment w (fact.NotLent op host why) = refl
check_out-sessions moment w (fact.CheckedIn op host conn errored) = refl
check_out-sessions moment w f = refl

streams-sessions : (w : ClientState) (f : Fact) → (conn_streams_after w f).sessions ≡ w.sessions
streams-sessions w (fact.Dialled op host conn (Some stream)) = refl
streams-sessions w (fact.Dialled op host conn None) = refl
streams-sessions w f = refl

pools-sessions : (w : ClientState) (moment : ℕ) (o : Option OfHost) → (pools_after w moment o).sessions ≡ w.sessions
pools-sessions w moment None = refl
pools-sessions w moment (Some e) = refl

pool-sessions : (w : ClientState) (moment : ℕ) (f : Fact) → (pool_after w moment f).sessions ≡ w.sessions
pool-sessions w moment f =
    let v = pools_after w moment (pool_step w f) in
    check_out-sessions moment (conn_streams_after v f) f ∙ streams-sessions v f ∙ pools-sessions w moment (pool_step w f)

ends-sessions : (host : ℕ) (w v : ClientState) → (ends_by host w v).sessions ≡ v.sessions
ends-sessions host w v = by (stays_at (slice_get w.servers host))
  where
    by : (b : Bool) → (if b then record v { is_ending = true } else v).sessions ≡ v.sessions
    by true = refl
    by false = refl

taken-sessions : (o : Option ℕ) (stream : ℕ) (w : ClientState) → (stream_taken o stream w).sessions ≡ w.sessions
taken-sessions None stream w = refl
taken-sessions (Some kept) stream w = refl

look-sessions : (moment : ℕ) (h : LookedHow) (w : ClientState) → (look_asks moment h w).sessions ≡ w.sessions
look-sessions moment looked.NoneFits w = refl
look-sessions moment (looked.Chosen host) w = refl
look-sessions moment looked.Failed w = refl
look-sessions moment (looked.Incompatible host) w = refl

asked-sessions : (moment : ℕ) (p : Purpose) (stream : ℕ) (w : ClientState) → (asked_by moment p (farewell_by p stream w)).sessions ≡ w.sessions
asked-sessions moment (purpose.Command op) stream w = refl
asked-sessions moment (purpose.Check host) stream w = refl
asked-sessions moment (purpose.Greeting host conn) stream w = refl
asked-sessions moment purpose.Farewell stream w = refl

offered-sessions : (moment : ℕ) (e : TopoEvent) (w : ClientState) → (if is_accepted_verdict (verdict_on w e) then with_ask moment e w else w).sessions ≡ w.sessions
offered-sessions moment e w = by (is_accepted_verdict (verdict_on w e)) (asks (option_and_then (number_of w) (asks_of e)))
  where
    asks : (o : Option ℕ) → (asked_at moment o w).sessions ≡ w.sessions
    asks None = refl
    asks (Some host) = refl

    by : (b : Bool) → (with_ask moment e w).sessions ≡ w.sessions → (if b then with_ask moment e w else w).sessions ≡ w.sessions
    by true h = h
    by false h = refl

aside-sessions : (client : Client) (moment : ℕ) (w : ClientState) (f : Fact) → is_aside f ≡ true → (changed_by client moment w f).sessions ≡ w.sessions
aside-sessions client moment w (fact.Leased op place lsid fresh) q = absurd (cc)
aside-sessions client moment w (fact.Drew op number) q = absurd (cc)
aside-sessions client moment w (fact.Returned op dirty kept) q = absurd (cc)
aside-sessions client moment w (fact.Offered place e taken) q = offered-sessions moment e w
aside-sessions client moment w (fact.PoolReady host) q = pool-sessions w moment (fact.PoolReady host)
aside-sessions client moment w (fact.PoolClear host) q = pool-sessions w moment (fact.PoolClear host)
aside-sessions client moment w (fact.PoolShut host) q = ends-sessions host w (pool_after w moment (fact.PoolShut host)) ∙ pool-sessions w moment (fact.PoolShut host)
aside-sessions client moment w (fact.CheckBegan host stream) q = taken-sessions (kept_at w host) stream w
aside-sessions client moment w (fact.Looked op a b kept picked) q = look-sessions moment picked w
aside-sessions client moment w (fact.Entered op host ticket) q = pool-sessions w moment (fact.Entered op host ticket)
aside-sessions client moment w (fact.Lent op host conn) q = pool-sessions w moment (fact.Lent op host conn)
aside-sessions client moment w (fact.Dialled op host conn stream) q = pool-sessions w moment (fact.Dialled op host conn stream)
aside-sessions client moment w (fact.Settled op host conn stale) q = pool-sessions w moment (fact.Settled op host conn stale)
aside-sessions client moment w (fact.NotLent op host why) q = pool-sessions w moment (fact.NotLent op host why)
aside-sessions client moment w (fact.CheckedIn op host conn errored) q = pool-sessions w moment (fact.CheckedIn op host conn errored)
aside-sessions client moment w (fact.ConnShut host conn reason) q = pool-sessions w moment (fact.ConnShut host conn reason)
aside-sessions client moment w (fact.Asked place r) q = asked-sessions moment r.purpose r.stream (record w { requests = w.requests + 1 })
aside-sessions client moment w f q = refl

events-sessions : (o : Option OfCommand) (v : ClientState) → (commands_after o v).sessions ≡ v.sessions
events-sessions None v = refl
events-sessions (Some e) v = refl

-- ---- Each command behind them

-- what it has of a session
abbrev holds : CommandState → Option ℕ × Option ℤ
holds c = (c.session, c.number)

looked-holds : (w : ClientState) (moment : ℕ) (h : LookedHow) (c : CommandState) → holds (look_by w moment h c) ≡ holds c
looked-holds w moment (looked.Chosen host) c = refl
looked-holds w moment looked.NoneFits c = refl
looked-holds w moment looked.Failed c = refl
looked-holds w moment (looked.Incompatible host) c = refl

aside-holds : (moment : ℕ) (w : ClientState) (f : Fact) (c : CommandState) → is_aside f ≡ true → holds (run (change_of moment w f) c) ≡ holds c
aside-holds moment w (fact.Leased op place lsid fresh) c q = absurd (cc)
aside-holds moment w (fact.Drew op number) c q = absurd (cc)
aside-holds moment w (fact.Returned op dirty kept) c q = absurd (cc)
aside-holds moment w (fact.Looked op a b ks picked) c q = looked-holds w moment picked c
aside-holds moment w (fact.Asked place r) c q = by r.purpose
  where
    by : (p : Purpose) → holds (run (asked_change moment p) c) ≡ holds c
    by (purpose.Command op) = refl
    by (purpose.Check host) = refl
    by (purpose.Greeting host conn) = refl
    by purpose.Farewell = refl
aside-holds moment w f c q = refl

-- the command at a place, behind a change of one and behind its event, and what it was ahead
pub record WasSo (cs : List CommandState) (op : ℕ) (d : CommandState) (g : CommandState → CommandState) : Type 0 where
  pub command : CommandState
  pub there : slice_get cs op ≡ Some command
  pub same : holds d ≡ holds (g command)

event-was : (o : Option OfCommand) (v : ClientState) (op : ℕ) (d : CommandState) → slice_get (commands_after o v).commands op ≡ Some d → WasSo v.commands op d (λ c. c)
event-was None v op d there = record { command = d; there = there; same = refl }
event-was (Some e) v op d there = elim (eqb_tells e.0 op) [
  | inl same ↦
      let b = there-changed v.commands e.0 (with_event e.1) d (ap (slice_get (changed v.commands e.0 (with_event e.1))) same.1 ∙ there) in
      record { command = b.0; there = ap (slice_get v.commands) (sym same.1) ∙ b.1; same = ap holds b.2 }
  | inr other ↦ record { command = d; there = sym (changed-other v.commands e.0 op (with_event e.1) other.1) ∙ there; same = refl }
]

-- where the entry does the same to each command at that place, in these
was-behind : (client : Client) (moment : ℕ) (w : ClientState) (f : Fact) (op : ℕ) (d : CommandState) → slice_get (client_after client moment w f).commands op ≡ Some d →
    WasSo (changed_by client moment w f).commands op d (λ c. c)
was-behind client moment w f op d there = event-was (command_step client w f) (changed_by client moment w f) op d there

-- by an entry that is not of sessions
aside-was : (client : Client) (moment : ℕ) (w : ClientState) (f : Fact) → is_aside f ≡ true → (op : ℕ) (d : CommandState) →
    slice_get (client_after client moment w f).commands op ≡ Some d → (c : CommandState) × (slice_get w.commands op ≡ Some c) × (holds d ≡ holds c)
aside-was client moment w f q op d there =
    let e = was-behind client moment w f op d there in
    let b = by (change_of moment w f) (λ c. aside-holds moment w f c q) e.command (ap (λ cs. slice_get cs op) (sym (changes client moment w f)) ∙ e.there) in
    (b.0, b.1, e.same ∙ b.2)
  where
    by : (x : Change) → ((c : CommandState) → holds (run x c) ≡ holds c) → (b : CommandState) → slice_get (with_change x w.commands) op ≡ Some b →
        (c : CommandState) × (slice_get w.commands op ≡ Some c) × (holds b ≡ holds c)
    by Still same b i = (b, i, refl)
    by (Of n g) same b i = elim (eqb_tells n op) [
      | inl here ↦
          let c = there-changed w.commands n g b (ap (slice_get (changed w.commands n g)) here.1 ∙ i) in
          (c.0, ap (slice_get w.commands) (sym here.1) ∙ c.1, ap holds c.2 ∙ same c.0)
      | inr other ↦ (b, sym (changed-other w.commands n op g other.1) ∙ i, refl)
    ]

first-part : (c d : CommandState) → holds c ≡ holds d → c.session ≡ d.session
first-part c d h = ap (λ (p : Option ℕ × Option ℤ). p.0) h

second-part : (c d : CommandState) → holds c ≡ holds d → c.number ≡ d.number
second-part c d h = ap (λ (p : Option ℕ × Option ℤ). p.1) h

aside-step : (client : Client) (p : Point) (moment : ℕ) (f : Fact) → is_aside f ≡ true → AreHeld p.state → AreHeld (point_after client p (record { at = moment; what = f })).state
aside-step client p moment f q h op d place there has =
    let c = aside-was client moment p.state f q op d there in
    let now = events-sessions (command_step client p.state f) (changed_by client moment p.state f) ∙ aside-sessions client moment p.state f q in
    let was = h op c.0 place c.1 (sym (first-part d c.0 c.2) ∙ has) in
    subst (λ s. IsHeldFor s place d.number) (sym now) (subst (λ n. IsHeldFor p.state.sessions place n) (sym (second-part d c.0 c.2)) was)

-- ---- Sessions

held-more : (s : Sessions) (x : Session) (place : ℕ) (number : Option ℤ) (t : Sessions) → t.made ≡ s.made ++ x ∷ [] → IsHeldFor s place number → IsHeldFor t place number
held-more s x place number t more h = record {
  session = h.session;
  there = ap (λ xs. slice_get xs place) more ∙ left s.made place h.session h.there;
  is_out = h.is_out;
  undrawn = h.undrawn;
}
  where
    left : (xs : List Session) (k : ℕ) (y : Session) → slice_get xs k ≡ Some y → slice_get (xs ++ x ∷ []) k ≡ Some y
    left [] k y i = absurd (cc)
    left (z ∷ zs) zero y i = i
    left (z ∷ zs) (suc k) y i = left zs k y i

last-there : (xs : List Session) (x : Session) → slice_get (xs ++ x ∷ []) (length xs) ≡ Some x
last-there [] x = refl
last-there (z ∷ zs) x = last-there zs x

-- another session changes
held-other : (s : Sessions) (k place : ℕ) (f : Session → Session) (number : Option ℤ) (t : Sessions) → t.made ≡ with_session s.made k f → (k ≡ place → ⊥) →
    IsHeldFor s place number → IsHeldFor t place number
held-other s k place f number t made other h = record {
  session = h.session;
  there = ap (λ xs. slice_get xs place) made ∙ by (slice_get s.made k) ∙ h.there;
  is_out = h.is_out;
  undrawn = h.undrawn;
}
  where
    by : (o : Option Session) → slice_get (set_at s.made k o f) place ≡ slice_get s.made place
    by None = refl
    by (Some x) = slice_get-set_other s.made k place (f x) other

-- the session itself
at-place : (made : List Session) (k : ℕ) (f : Session → Session) (x : Session) → slice_get made k ≡ Some x → slice_get (with_session made k f) k ≡ Some (f x)
at-place made k f x there = ap (λ o. slice_get (set_at made k o f) k) there ∙ slice_get-set_same made k (f x) x there

-- ---- A lease, a draw and a return

-- the command of that number behind it, and each other
other-was : (cs : List CommandState) (k op : ℕ) (g : CommandState → CommandState) (d : CommandState) → (k ≡ op → ⊥) → slice_get (changed cs k g) op ≡ Some d → slice_get cs op ≡ Some d
other-was cs k op g d other i = sym (changed-other cs k op g other) ∙ i

by-made : (s : Sessions) (moment place : ℕ) (lsid : Lsid) (minutes : ℤ) (number : Option ℤ) → place ≡ length s.made → IsHeldFor (session.after s moment (session.Made place lsid minutes)) place number
by-made s moment place lsid minutes number is = record {
  session = record { lsid = lsid; number = pos 0; holding = holding.Leased };
  there = ap (slice_get (s.made ++ record { lsid = lsid; number = pos 0; holding = holding.Leased } ∷ [])) is ∙ last-there s.made (record { lsid = lsid; number = pos 0; holding = holding.Leased });
  is_out = λ e. absurd (cc);
  undrawn = λ none. refl;
}

by-reused : (s : Sessions) (moment place : ℕ) (minutes : ℤ) (number : Option ℤ) (x : Session) → slice_get s.made place ≡ Some x →
    IsHeldFor (session.after s moment (session.Reused place minutes)) place number
by-reused s moment place minutes number x there = record {
  session = record x { holding = holding.Leased };
  there = at-place s.made place (λ y. record y { holding = holding.Leased }) x there;
  is_out = λ e. absurd (cc);
  undrawn = λ none. refl;
}

-- a lease by its kind
leased-own : (s : Sessions) (moment place : ℕ) (lsid : Lsid) (fresh : Bool) (minutes : ℤ) (number : Option ℤ) → session.MayStand s moment (lease_step place lsid fresh minutes) →
    IsIdAt s place lsid fresh → IsHeldFor (session.after s moment (lease_step place lsid fresh minutes)) place number
leased-own s moment place lsid true minutes number may id = by-made s moment place lsid minutes number may.1
leased-own s moment place lsid false minutes number may id = by-reused s moment place minutes number id.0 id.1

leased-other : (s : Sessions) (moment place : ℕ) (lsid : Lsid) (fresh : Bool) (minutes : ℤ) (other : ℕ) (number : Option ℤ) → (place ≡ other → ⊥) → IsHeldFor s other number →
    IsHeldFor (session.after s moment (lease_step place lsid fresh minutes)) other number
leased-other s moment place lsid true minutes other number apart h =
    held-more s (record { lsid = lsid; number = pos 0; holding = holding.Leased }) other number (session.after s moment (session.Made place lsid minutes)) refl h
leased-other s moment place lsid false minutes other number apart h =
    held-other s place other (λ y. record y { holding = holding.Leased }) number (session.after s moment (session.Reused place minutes)) refl apart h

-- the sessions behind an entry of a command that is there
held-is : (w : ClientState) (op : ℕ) (f : Fact) (c : CommandState) (e : SessEntry) → slice_get w.commands op ≡ Some c → session_step_of c f ≡ Some e → session_held w op f ≡ Some e
held-is w op f c e there is = ap (λ (o : Option CommandState). option_and_then (λ x. session_step_of x f) o) there ∙ is

-- an option that allows is there
allowed : (w : ClientState) (moment : ℕ) (o : Option SessEntry) → SessionAllows w moment o → (e : SessEntry) × (o ≡ Some e) × session.MayStand w.sessions moment e
allowed w moment None a = absurd a
allowed w moment (Some e) a = (e, refl, a)

minutes-of : (place : ℕ) (lsid : Lsid) (fresh : Bool) (o : Option ℤ) (e : SessEntry) → option_map (lease_step place lsid fresh) o ≡ Some e → (m : ℤ) × (e ≡ lease_step place lsid fresh m)
minutes-of place lsid fresh None e h = absurd (cc)
minutes-of place lsid fresh (Some m) e h = let same : lease_step place lsid fresh m ≡ e = (cc) in (m, sym same)

place-of : (f : ℕ → SessEntry) (o : Option ℕ) (e : SessEntry) → option_map f o ≡ Some e → (k : ℕ) × (o ≡ Some k) × (e ≡ f k)
place-of f None e h = absurd (cc)
place-of f (Some k) e h = let same : f k ≡ e = (cc) in (k, refl, sym same)

lease-step : (client : Client) (w : ClientState) (moment op place : ℕ) (lsid : Lsid) (fresh : Bool) → IsLease w moment op place lsid fresh →
    IsOnce (changed_by client moment w (fact.Leased op place lsid fresh)) → AreHeld w → AreHeld (changed_by client moment w (fact.Leased op place lsid fresh))
lease-step client w moment op place lsid fresh s once h =
    let f = fact.Leased op place lsid fresh in
    let v = changed_by client moment w f in
    let a = allowed w moment (session_step_of s.running f) s.session in
    let m = minutes-of place lsid fresh (minutes_needed s.running) a.0 a.1 in
    let now : v.sessions ≡ session.after w.sessions moment (lease_step place lsid fresh m.0) =
    ap (λ o. sessions_by moment o w.sessions) (held-is w op f s.running a.0 s.there a.1) ∙ ap (session.after w.sessions moment) m.1 in
    let may = subst (session.MayStand w.sessions moment) m.1 a.2 in
    λ x d p there has. elim (eqb_tells op x) [
      | inl same ↦
          let b = there-changed w.commands op (λ c. record c { session = Some place }) d (ap (slice_get v.commands) same.1 ∙ there) in
          let own : Some place ≡ Some p = sym (ap (λ (c : CommandState). c.session) b.2) ∙ has in
          let is : place ≡ p = (cc) in
          subst (λ t. IsHeldFor t p d.number) (sym now) (subst (λ k. IsHeldFor (session.after w.sessions moment (lease_step place lsid fresh m.0)) k d.number) is
          (leased-own w.sessions moment place lsid fresh m.0 d.number may s.id))
      | inr other ↦
          let was = other-was w.commands op x (λ c. record c { session = Some place }) d other.1 there in
          let mine = mine-there w.commands op (λ c. record c { session = Some place }) s.running s.there in
          let apart : place ≡ p → ⊥ = λ e. other.1 (once op x (record s.running { session = Some place }) d p mine there (ap (λ k. Some k) e) has) in
          subst (λ t. IsHeldFor t p d.number) (sym now) (leased-other w.sessions moment place lsid fresh m.0 p d.number apart (h x d p was has))
    ]
  where
    mine-there : (cs : List CommandState) (k : ℕ) (g : CommandState → CommandState) (c : CommandState) → slice_get cs k ≡ Some c → slice_get (changed cs k g) k ≡ Some (g c)
    mine-there cs k g c i = ap (λ o. slice_get (changed_at cs k o g) k) i ∙ slice_get-set_same cs k (g c) c i

draw-step : (client : Client) (w : ClientState) (moment op : ℕ) (number : ℤ) → IsDraw w moment op number → IsOnce w → AreHeld w → AreHeld (changed_by client moment w (fact.Drew op number))
draw-step client w moment op number s once h =
    let f = fact.Drew op number in
    let v = changed_by client moment w f in
    let a = allowed w moment (session_step_of s.running f) s.session in
    let k = place-of (λ place. session.Drew place number) s.running.session a.0 a.1 in
    let now : v.sessions ≡ session.after w.sessions moment (session.Drew k.0 number) =
    ap (λ o. sessions_by moment o w.sessions) (held-is w op f s.running a.0 s.there a.1) ∙ ap (session.after w.sessions moment) k.2 in
    let may = subst (session.MayStand w.sessions moment) k.2 a.2 in
    λ x d p there has. elim (eqb_tells op x) [
      | inl same ↦
          let b = there-changed w.commands op (λ c. record c { number = Some number }) d (ap (slice_get v.commands) same.1 ∙ there) in
          let both : Some b.0 ≡ Some s.running = sym b.1 ∙ s.there in
          let run : b.0 ≡ s.running = (cc) in
          let own : Some k.0 ≡ Some p = sym k.1 ∙ ap (λ (c : CommandState). c.session) (sym run) ∙ sym (ap (λ (c : CommandState). c.session) b.2) ∙ has in
          let is : k.0 ≡ p = (cc) in
          let drawn : d.number ≡ Some number = ap (λ (c : CommandState). c.number) b.2 in
          subst (λ t. IsHeldFor t p d.number) (sym now) (subst (λ n. IsHeldFor (session.after w.sessions moment (session.Drew k.0 number)) n d.number) is (record {
            session = record may.0 { number = number; holding = holding.Drawn };
            there = at-place w.sessions.made k.0 (λ y. record y { number = number; holding = holding.Drawn }) may.0 may.1;
            is_out = λ e. absurd (cc);
            undrawn = λ none. let no : Some number ≡ None = sym drawn ∙ none in absurd (cc);
          }))
      | inr other ↦
          let was = other-was w.commands op x (λ c. record c { number = Some number }) d other.1 there in
          let apart : k.0 ≡ p → ⊥ = λ e. other.1 (once op x s.running d p s.there was (k.1 ∙ ap (λ n. Some n) e) has) in
          subst (λ t. IsHeldFor t p d.number) (sym now)
          (held-other w.sessions k.0 p (λ y. record y { number = number; holding = holding.Drawn }) d.number (session.after w.sessions moment (session.Drew k.0 number)) refl apart (h x d p was has))
    ]

return-step : (client : Client) (w : ClientState) (moment op : ℕ) (dirty kept : Bool) → IsReturn w moment op dirty kept → IsOnce w → AreHeld w →
    AreHeld (changed_by client moment w (fact.Returned op dirty kept))
return-step client w moment op dirty kept s once h =
    let f = fact.Returned op dirty kept in
    let v = changed_by client moment w f in
    let a = allowed w moment (session_step_of s.running f) s.session in
    let k = place-of (λ place. session.Returned place dirty kept) s.running.session a.0 a.1 in
    let now : v.sessions ≡ session.after w.sessions moment (session.Returned k.0 dirty kept) =
    ap (λ o. sessions_by moment o w.sessions) (held-is w op f s.running a.0 s.there a.1) ∙ ap (session.after w.sessions moment) k.2 in
    λ x d p there has. elim (eqb_tells op x) [
      | inl same ↦
          let b = there-changed w.commands op (λ c. record c { session = None }) d (ap (slice_get v.commands) same.1 ∙ there) in
          let no : None ≡ Some p = sym (ap (λ (c : CommandState). c.session) b.2) ∙ has in absurd (cc)
      | inr other ↦
          let was = other-was w.commands op x (λ c. record c { session = None }) d other.1 there in
          let apart : k.0 ≡ p → ⊥ = λ e. other.1 (once op x s.running d p s.there was (k.1 ∙ ap (λ n. Some n) e) has) in
          subst (λ t. IsHeldFor t p d.number) (sym now)
          (held-other w.sessions k.0 p (λ y. record y { holding = holding.Nobody }) d.number (session.after w.sessions moment (session.Returned k.0 dirty kept)) refl apart (h x d p was has))
    ]

-- ---- Each entry

step : (client : Client) (p : Point) (moment : ℕ) (f : Fact) → StandsAt client p (record { at = moment; what = f }) → IsOnce p.state →
    IsOnce (point_after client p (record { at = moment; what = f })).state → AreHeld p.state → AreHeld (point_after client p (record { at = moment; what = f })).state
step client p moment (fact.Leased op place lsid fresh) s once next h = lease-step client p.state moment op place lsid fresh s.rule next h
step client p moment (fact.Drew op number) s once next h = draw-step client p.state moment op number s.rule once h
step client p moment (fact.Returned op dirty kept) s once next h = return-step client p.state moment op dirty kept s.rule once h
step client p moment f s once next h = aside-step client p moment f refl h

-- the law that no session is two commands'
abbrev pub Once : Type 0
Once = (client : Client) (ts : List (Timed Fact)) (a b : ℕ) (x y : CommandState) (place : ℕ) → AreLegal client ts
    → slice_get (point_behind client ts).state.commands a ≡ Some x → slice_get (point_behind client ts).state.commands b ≡ Some y
    → x.session ≡ Some place → y.session ≡ Some place → a ≡ b

held-from : Once → (client : Client) (xs ys : List (Timed Fact)) → AreLegal client xs → Legal (StandsAt client) (point_after client) (point_behind client xs) ys →
    AreHeld (point_behind client xs).state → AreHeld (state_after (point_after client) (point_behind client xs) ys).state
held-from once client xs [] l m h = h
held-from once client xs (y ∷ ys) l m h =
    let all = Legal-append (StandsAt client) (point_after client) (beginning client) xs (y ∷ []) l (m.0, tt) in
    let to : point_behind client (xs ++ y ∷ []) ≡ point_after client (point_behind client xs) y = state_after-append (point_after client) (beginning client) xs (y ∷ []) in
    let now : IsOnce (point_behind client xs).state = λ a b x z place. once client xs a b x z place l in
    let next : IsOnce (point_after client (point_behind client xs) y).state =
    subst (λ (q : Point). IsOnce q.state) to (λ a b x z place. once client (xs ++ y ∷ []) a b x z place all) in
    let held = step client (point_behind client xs) y.at y.what m.0 now next h in
    subst (λ (q : Point). AreHeld (state_after (point_after client) q ys).state) to
    (held-from once client (xs ++ y ∷ []) ys all (subst (λ q. Legal (StandsAt client) (point_after client) q ys) (sym to) m.1) (subst (λ (q : Point). AreHeld q.state) (sym to) held))

none-held : (cs : List Command) (op : ℕ) (c : CommandState) (place : ℕ) → slice_get (map fresh_command cs) op ≡ Some c → c.session ≡ Some place → ⊥
none-held [] op c place there has = absurd (cc)
none-held (x ∷ xs) zero c place there has =
    let same : fresh_command x ≡ c = (cc) in
    let no : None ≡ Some place = ap (λ (d : CommandState). d.session) same ∙ has in absurd (cc)
none-held (x ∷ xs) (suc op) c place there has = none-held xs op c place there has

pub held-behind : Once → (client : Client) (ts : List (Timed Fact)) → AreLegal client ts → AreHeld (point_behind client ts).state
held-behind once client ts l = held-from once client [] ts tt l (λ op c place there has. absurd (none-held client.commands op c place there has))
