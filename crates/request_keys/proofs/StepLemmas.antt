-- What each entry keeps of a command.
use Rattle.std.proofs.Common.{◌≡◌, ◌⊎◌, inl, inr, ℕ, ℤ, Bool, true, false, not, ◌&&◌, cond, eqb, List, Option, None, Some, refl, sym, ap, ◌∙◌, subst}
use Rattle.std.specs.Prelude.{slice_get}
use Rattle.std.specs.Option.{option_and_then, option_map}
use Rattle.std.proofs.lemmas.Bool.Decides.{eqb_tells}
use Rattle.entry_judge.specs.declared.timed.Timed.{Timed}
use Rattle.hello_reply.specs.declared.server_description.ServerDescription.{ServerDescription}
use Rattle.pool_book.specs.Entries as pool
use Rattle.write_retry.specs.Histories.{is_select}
use Rattle.write_retry.specs.Machine.{Op, after, allows}
use Rattle.write_retry.specs.declared.attempt_end.AttemptEnd.{AttemptEnd}
use Rattle.write_retry.specs.declared.attempt_end.AttemptEnd.TheVariants as attempt
use Rattle.write_retry.specs.declared.events.OpEvent.{OpEvent}
use Rattle.write_retry.specs.declared.events.OpEvent.TheVariants as event
use Rattle.desk_trail.specs.declared.entry.LookedHow.{LookedHow}
use Rattle.desk_trail.specs.declared.entry.LookedHow.TheVariants as looked
use Rattle.desk_trail.specs.declared.request.Purpose.{Purpose}
use Rattle.desk_trail.specs.declared.request.Purpose.TheVariants as purpose
use Rattle.desk_trail.specs.Attempts.{CommandAllows, IsToEnter, OfCommand, asked_event, command_step, end_by, end_event, finished, look_event, misfit_event, to_command, with_event}
use Rattle.desk_trail.specs.Clients.{Client}
use Rattle.desk_trail.specs.Facts.{Fact}
use Rattle.desk_trail.specs.Facts as fact
use Rattle.desk_trail.specs.Legal.{MayStand, Point, StandsAt}
use Rattle.desk_trail.specs.Looks.{is_numbered_at, look_by}
use Rattle.desk_trail.specs.Pools.{PoolAllows, at_host, check_out_of, dials_by, dials_now, has_by, ticket_with, waits_now}
use Rattle.desk_trail.specs.States.{CheckOut, ClientState, CommandState, Dials, Has, Nothing, Waits, description_of}
use Rattle.request_keys.proofs.ChangeLemmas.{asked_change, change_of, change_to, event_to, moves}
use Rattle.request_keys.proofs.MachineLemmas.{Ready, is_answer, is_lending, is_out, goes-on, lacks, ready-event}

-- ---- What stays

pub at-cond : {B : Type 0} (r : CommandState → B) (b : Bool) (g : CommandState → CommandState) (c : CommandState) → ((d : CommandState) → r (g d) ≡ r d) → r (cond b (g c) c) ≡ r c
at-cond r true g c keeps = keeps c
at-cond r false g c keeps = refl

event-keeps : {B : Type 0} (r : CommandState → B) (op : ℕ) (o : Option OfCommand) (c : CommandState) → ((e : OpEvent) (d : CommandState) → r (with_event e d) ≡ r d) → r (event_to op o c) ≡ r c
event-keeps r op None c keeps = refl
event-keeps r op (Some e) c keeps = at-cond r (eqb e.0 op) (with_event e.1) c (keeps e.1)

look-op : (w : ClientState) (moment : ℕ) (h : LookedHow) (c : CommandState) → (look_by w moment h c).op ≡ c.op
look-op w moment looked.NoneFits c = refl
look-op w moment (looked.Chosen x) c = refl
look-op w moment looked.Failed c = refl
look-op w moment (looked.Incompatible x) c = refl

asked-op : (op moment : ℕ) (p : Purpose) (c : CommandState) → (change_to op (asked_change moment p) c).op ≡ c.op
asked-op op moment (purpose.Command k) c = at-cond (λ (d : CommandState). d.op) (eqb k op) (λ d. record d { asked = Some moment }) c (λ d. refl)
asked-op op moment (purpose.Check host) c = refl
asked-op op moment (purpose.Greeting host conn) c = refl
asked-op op moment purpose.Farewell c = refl

pub change-op : (op moment : ℕ) (w : ClientState) (f : Fact) (c : CommandState) → (change_to op (change_of moment w f) c).op ≡ c.op
change-op op moment w (fact.Looked k a b kept picked) c = at-cond (λ (d : CommandState). d.op) (eqb k op) (look_by w moment picked) c (look-op w moment picked)
change-op op moment w (fact.Entered k host ticket) c = at-cond (λ (d : CommandState). d.op) (eqb k op) (waits_now host ticket) c (λ d. refl)
change-op op moment w (fact.Lent k host conn) c = at-cond (λ (d : CommandState). d.op) (eqb k op) (λ d. record d { check_out = has_by conn d.check_out }) c (λ d. refl)
change-op op moment w (fact.Dialled k host conn stream) c = at-cond (λ (d : CommandState). d.op) (eqb k op) (dials_now moment conn) c (λ d. refl)
change-op op moment w (fact.NotLent k host why) c = at-cond (λ (d : CommandState). d.op) (eqb k op) (λ d. record d { check_out = Nothing }) c (λ d. refl)
change-op op moment w (fact.CheckedIn k host conn errored) c = at-cond (λ (d : CommandState). d.op) (eqb k op) (λ d. record d { check_out = Nothing }) c (λ d. refl)
change-op op moment w (fact.Leased k place lsid fresh) c = at-cond (λ (d : CommandState). d.op) (eqb k op) (λ d. record d { session = Some place }) c (λ d. refl)
change-op op moment w (fact.Drew k number) c = at-cond (λ (d : CommandState). d.op) (eqb k op) (λ d. record d { number = Some number }) c (λ d. refl)
change-op op moment w (fact.Returned k dirty kept) c = at-cond (λ (d : CommandState). d.op) (eqb k op) (λ d. record d { session = None }) c (λ d. refl)
change-op op moment w (fact.Asked place request) c = asked-op op moment request.purpose c
change-op op moment w (fact.Ended k end) c = at-cond (λ (d : CommandState). d.op) (eqb k op) (end_by end) c (λ d. refl)
change-op op moment w (fact.Finished k outcome) c = at-cond (λ (d : CommandState). d.op) (eqb k op) finished c (λ d. refl)
change-op op moment w f c = refl

-- what it has of a session, where the entry is none of sessions
abbrev pub is_aside : Fact → Bool
is_aside (fact.Leased op place lsid fresh) = false
is_aside (fact.Drew op number) = false
is_aside (fact.Returned op dirty kept) = false
is_aside f = true

abbrev pub holds : CommandState → Option ℕ × Option ℤ
holds c = (c.session, c.number)

look-holds : (w : ClientState) (moment : ℕ) (h : LookedHow) (c : CommandState) → holds (look_by w moment h c) ≡ holds c
look-holds w moment looked.NoneFits c = refl
look-holds w moment (looked.Chosen x) c = refl
look-holds w moment looked.Failed c = refl
look-holds w moment (looked.Incompatible x) c = refl

asked-holds : (op moment : ℕ) (p : Purpose) (c : CommandState) → holds (change_to op (asked_change moment p) c) ≡ holds c
asked-holds op moment (purpose.Command k) c = at-cond holds (eqb k op) (λ d. record d { asked = Some moment }) c (λ d. refl)
asked-holds op moment (purpose.Check host) c = refl
asked-holds op moment (purpose.Greeting host conn) c = refl
asked-holds op moment purpose.Farewell c = refl

change-holds : (op moment : ℕ) (w : ClientState) (f : Fact) (c : CommandState) → is_aside f ≡ true → holds (change_to op (change_of moment w f) c) ≡ holds c
change-holds op moment w (fact.Leased k place lsid fresh) c q = absurd (cc)
change-holds op moment w (fact.Drew k number) c q = absurd (cc)
change-holds op moment w (fact.Returned k dirty kept) c q = absurd (cc)
change-holds op moment w (fact.Looked k a b kept picked) c q = at-cond holds (eqb k op) (look_by w moment picked) c (look-holds w moment picked)
change-holds op moment w (fact.Entered k host ticket) c q = at-cond holds (eqb k op) (waits_now host ticket) c (λ d. refl)
change-holds op moment w (fact.Lent k host conn) c q = at-cond holds (eqb k op) (λ d. record d { check_out = has_by conn d.check_out }) c (λ d. refl)
change-holds op moment w (fact.Dialled k host conn stream) c q = at-cond holds (eqb k op) (dials_now moment conn) c (λ d. refl)
change-holds op moment w (fact.NotLent k host why) c q = at-cond holds (eqb k op) (λ d. record d { check_out = Nothing }) c (λ d. refl)
change-holds op moment w (fact.CheckedIn k host conn errored) c q = at-cond holds (eqb k op) (λ d. record d { check_out = Nothing }) c (λ d. refl)
change-holds op moment w (fact.Asked place request) c q = asked-holds op moment request.purpose c
change-holds op moment w (fact.Ended k end) c q = at-cond holds (eqb k op) (end_by end) c (λ d. refl)
change-holds op moment w (fact.Finished k outcome) c q = at-cond holds (eqb k op) finished c (λ d. refl)
change-holds op moment w f c q = refl

pub moves-holds : (client : Client) (moment : ℕ) (w : ClientState) (f : Fact) (op : ℕ) (c : CommandState) → is_aside f ≡ true → holds (moves client moment w f op c) ≡ holds c
moves-holds client moment w f op c q =
    event-keeps holds op (command_step client w f) (change_to op (change_of moment w f) c) (λ e d. refl) ∙ change-holds op moment w f c q

-- ---- Its events

pub same-command : (cs : List CommandState) (op : ℕ) (c d : CommandState) → slice_get cs op ≡ Some c → slice_get cs op ≡ Some d → c ≡ d
same-command cs op c d e f = cc

-- an event that it allows
pub record Moved (c d : Op) : Type 0 where
  pub event : OpEvent
  pub allowed : allows c.next event ≡ true
  pub is : d ≡ after c event

event-moved : (w : ClientState) (op : ℕ) (o : Option OfCommand) (c x : CommandState) → x.op ≡ c.op → slice_get w.commands op ≡ Some c → CommandAllows w o →
    ((event_to op o x).op ≡ c.op) ⊎ Moved c.op (event_to op o x).op
event-moved w op None c x same there a = inl same
event-moved w op (Some e) c x same there a = elim (eqb_tells e.0 op) [
  | inl y ↦
      let at : slice_get w.commands op ≡ Some a.0 = subst (λ n. slice_get w.commands n ≡ Some a.0) y.1 a.1 in
      let one : a.0 ≡ c = same-command w.commands op a.0 c at there in
      rw y.0 (inr (record {
        event = e.1;
        allowed = subst (λ (z : CommandState). allows z.op.next e.1 ≡ true) one a.2;
        is = ap (λ z. after z e.1) same;
      }))
  | inr y ↦ rw y.0 (inl same)
]

pub moves-op : (client : Client) (moment : ℕ) (w : ClientState) (f : Fact) (op : ℕ) (c : CommandState) → slice_get w.commands op ≡ Some c → CommandAllows w (command_step client w f) →
    ((moves client moment w f op c).op ≡ c.op) ⊎ Moved c.op (moves client moment w f op c).op
moves-op client moment w f op c there a =
    event-moved w op (command_step client w f) c (change_to op (change_of moment w f) c) (change-op op moment w f c) there a

-- one that is not answered behind an entry was not ahead of it
pub unanswered : (client : Client) (moment : ℕ) (w : ClientState) (f : Fact) (op : ℕ) (c : CommandState) → slice_get w.commands op ≡ Some c → CommandAllows w (command_step client w f) →
    is_answer (moves client moment w f op c).op.next ≡ false → is_answer c.op.next ≡ false
unanswered client moment w f op c there a n = elim (moves-op client moment w f op c there a) [
  | inl same ↦ subst (λ (o : Op). is_answer o.next ≡ false) same n
  | inr m ↦ goes-on c.op.next m.event m.allowed
]

-- ---- It has its number once it holds a connection

abbrev pub IsReady : CommandState → Type 0
IsReady c = Ready c.op c.check_out c.number

ready-cond : (b : Bool) (g : CommandState → CommandState) (c : CommandState) → (b ≡ true → IsReady (g c)) → IsReady c → IsReady (cond b (g c) c)
ready-cond true g c k h = k refl
ready-cond false g c k h = h

ready-look : (w : ClientState) (moment : ℕ) (h : LookedHow) (c : CommandState) → IsReady c → IsReady (look_by w moment h c)
ready-look w moment looked.NoneFits c h = h
ready-look w moment (looked.Chosen x) c h = h
ready-look w moment looked.Failed c h = h
ready-look w moment (looked.Incompatible x) c h = h

has-out : (conn : ℕ) (h : CheckOut) → is_out (has_by conn h) ≡ is_out h
has-out conn Nothing = refl
has-out conn (Waits host ticket) = refl
has-out conn (Dials host ticket n) = refl
has-out conn (Has host ticket n) = refl

dials-out : (conn : ℕ) (h : CheckOut) → is_out (dials_by conn h) ≡ is_out h
dials-out conn Nothing = refl
dials-out conn (Waits host ticket) = refl
dials-out conn (Dials host ticket n) = refl
dials-out conn (Has host ticket n) = refl

ready-as : (o : Op) (h k : CheckOut) (n : Option ℤ) → is_out k ≡ is_out h → (h ≡ Nothing → k ≡ Nothing) → Ready o h n → Ready o k n
ready-as o h k n same none r = record { idle = λ x y. none (r.idle x y); out = λ x. r.out (sym same ∙ x); sent = r.sent }

ready-free : (o : Op) (h : CheckOut) (n : Option ℤ) → Ready o h n → Ready o Nothing n
ready-free o h n r = record { idle = λ x y. refl; out = λ x. absurd (cc); sent = r.sent }

lacks-none : (o : Op) (number : ℤ) → lacks o (Some number) ≡ false
lacks-none o number = by o.drew
  where
    by : (b : Bool) → (b && not true) ≡ false
    by true = refl
    by false = refl

ready-drawn : (o : Op) (h : CheckOut) (n : Option ℤ) (number : ℤ) → Ready o h n → Ready o h (Some number)
ready-drawn o h n number r = record { idle = r.idle; out = λ x. lacks-none o number; sent = λ x. lacks-none o number }

ready-enters : (w : ClientState) (k op host ticket : ℕ) (c : CommandState) → slice_get w.commands op ≡ Some c → (a : CommandState) → slice_get w.commands k ≡ Some a → IsToEnter host a →
    IsReady c → eqb k op ≡ true → IsReady (waits_now host ticket c)
ready-enters w k op host ticket c there a at enters h same = elim (eqb_tells k op) [
  | inl y ↦
      let here : slice_get w.commands op ≡ Some a = subst (λ n. slice_get w.commands n ≡ Some a) y.1 at in
      let one : a ≡ c = same-command w.commands op a c here there in
      let e = subst (IsToEnter host) one enters in
      record {
        idle = λ x z. absurd (let wrong = ap (λ n. is_select n) (sym e.chose) ∙ z in cc);
        out = λ x. e.equipped.number;
        sent = h.sent;
      }
  | inr y ↦ absurd (let wrong : true ≡ false = sym same ∙ y.0 in cc)
]

ready-change : (client : Client) (p : Point) (moment : ℕ) (f : Fact) (op : ℕ) (c : CommandState) → MayStand client p moment f → slice_get p.state.commands op ≡ Some c → IsReady c →
    IsReady (change_to op (change_of moment p.state f) c)
ready-change client p moment (fact.Looked k a b kept picked) op c m there h = ready-cond (eqb k op) (look_by p.state moment picked) c (λ y. ready-look p.state moment picked c h) h
ready-change client p moment (fact.Entered k host ticket) op c m there h =
    ready-cond (eqb k op) (waits_now host ticket) c (λ y. ready-enters p.state k op host ticket c there m.0.0 m.0.1 m.0.2 h y) h
ready-change client p moment (fact.Lent k host conn) op c m there h =
    ready-cond (eqb k op) (λ d. record d { check_out = has_by conn d.check_out }) c
    (λ y. ready-as c.op c.check_out (has_by conn c.check_out) c.number (has-out conn c.check_out) (λ e. ap (has_by conn) e) h) h
ready-change client p moment (fact.Dialled k host conn stream) op c m there h =
    ready-cond (eqb k op) (dials_now moment conn) c
    (λ y. ready-as c.op c.check_out (dials_by conn c.check_out) c.number (dials-out conn c.check_out) (λ e. ap (dials_by conn) e) h) h
ready-change client p moment (fact.NotLent k host why) op c m there h =
    ready-cond (eqb k op) (λ d. record d { check_out = Nothing }) c (λ y. ready-free c.op c.check_out c.number h) h
ready-change client p moment (fact.CheckedIn k host conn errored) op c m there h =
    ready-cond (eqb k op) (λ d. record d { check_out = Nothing }) c (λ y. ready-free c.op c.check_out c.number h) h
ready-change client p moment (fact.Leased k place lsid fresh) op c m there h = ready-cond (eqb k op) (λ d. record d { session = Some place }) c (λ y. h) h
ready-change client p moment (fact.Drew k number) op c m there h =
    ready-cond (eqb k op) (λ d. record d { number = Some number }) c (λ y. ready-drawn c.op c.check_out c.number number h) h
ready-change client p moment (fact.Returned k dirty kept) op c m there h = ready-cond (eqb k op) (λ d. record d { session = None }) c (λ y. h) h
ready-change client p moment (fact.Asked place r) op c m there h = by r.purpose
  where
    by : (u : Purpose) → IsReady (change_to op (asked_change moment u) c)
    by (purpose.Command k) = ready-cond (eqb k op) (λ d. record d { asked = Some moment }) c (λ y. h) h
    by (purpose.Check host) = h
    by (purpose.Greeting host conn) = h
    by purpose.Farewell = h
ready-change client p moment (fact.Ended k end) op c m there h = ready-cond (eqb k op) (end_by end) c (λ y. h) h
ready-change client p moment (fact.Finished k outcome) op c m there h = ready-cond (eqb k op) finished c (λ y. h) h
ready-change client p moment f op c m there h = h

-- a connection is lent to one that asked for it
look-lends : (client : Client) (w : ClientState) (h : LookedHow) (e : OpEvent) → look_event client w h ≡ Some e → is_lending e ≡ false
look-lends client w (looked.Chosen host) e q = let same : event.Chosen host (is_numbered_at client w host) ≡ e = (cc) in ap is_lending (sym same)
look-lends client w looked.NoneFits e q = absurd (cc)
look-lends client w looked.Failed e q = let same : event.NoServer ≡ e = (cc) in ap is_lending (sym same)
look-lends client w (looked.Incompatible host) e q = by (option_and_then (description_of w) (slice_get w.servers host)) q
  where
    by : (o : Option ServerDescription) → misfit_event host o ≡ Some e → is_lending e ≡ false
    by None x = absurd (cc)
    by (Some d) x = let same : event.Incompatible host d.min_wire d.max_wire ≡ e = (cc) in ap is_lending (sym same)

end-lends : (end : AttemptEnd) → is_lending (end_event end) ≡ false
end-lends (attempt.Replied reading) = refl
end-lends attempt.Cut = refl
end-lends attempt.Fault = refl
end-lends attempt.TimedOut = refl
end-lends (attempt.Bad at) = refl
end-lends (attempt.Unsent u) = refl

no-lending : (e : OpEvent) → is_lending e ≡ false → is_lending e ≡ true → ⊥
no-lending e a b = let wrong : false ≡ true = sym a ∙ b in absurd (cc)

lent-out : (w : ClientState) (moment op host conn : ℕ) (c : CommandState) → slice_get w.commands op ≡ Some c →
    PoolAllows w moment (at_host host (option_map (λ t. pool.Lent t conn) (option_and_then (ticket_with host) (check_out_of w op)))) → is_out c.check_out ≡ true
lent-out w moment op host conn c there a =
    by c.check_out (subst (λ (o : Option CommandState). PoolAllows w moment (at_host host (option_map (λ t. pool.Lent t conn) (option_and_then (ticket_with host) (option_map (λ (d : CommandState). d.check_out) o))))) there a)
  where
    by : (h : CheckOut) → PoolAllows w moment (at_host host (option_map (λ t. pool.Lent t conn) (ticket_with host h))) → is_out h ≡ true
    by Nothing x = absurd x
    by (Waits y ticket) x = refl
    by (Dials y ticket n) x = refl
    by (Has y ticket n) x = refl

-- the event at the command, with what it asks of it
ready-at : (op : ℕ) (o : Option OfCommand) (x : CommandState) → ((e : OfCommand) → o ≡ Some e → eqb e.0 op ≡ true → (allows x.op.next e.1 ≡ true) × (is_lending e.1 ≡ true → is_out x.check_out ≡ true)) →
    IsReady x → IsReady (event_to op o x)
ready-at op None x k h = h
ready-at op (Some e) x k h = by (eqb e.0 op) (k e refl)
  where
    by : (b : Bool) → (b ≡ true → (allows x.op.next e.1 ≡ true) × (is_lending e.1 ≡ true → is_out x.check_out ≡ true)) → IsReady (cond b (with_event e.1 x) x)
    by true a = ready-event x.op x.check_out x.number e.1 (a refl).0 (a refl).1 h
    by false a = h

lends-to : (client : Client) (p : Point) (moment : ℕ) (f : Fact) (op : ℕ) (c : CommandState) → MayStand client p moment f → slice_get p.state.commands op ≡ Some c →
    (e : OfCommand) → command_step client p.state f ≡ Some e → eqb e.0 op ≡ true → is_lending e.1 ≡ true → is_out (change_to op (change_of moment p.state f) c).check_out ≡ true
lends-to client p moment (fact.Lent k host conn) op c m there e s same l = elim (eqb_tells k op) [
  | inl y ↦
      let here : slice_get p.state.commands k ≡ Some c = subst (λ n. slice_get p.state.commands n ≡ Some c) (sym y.1) there in
      subst (λ (b : Bool). is_out (cond b (record c { check_out = has_by conn c.check_out }) c).check_out ≡ true) (sym y.0) (has-out conn c.check_out ∙ lent-out p.state moment k host conn c here m)
  | inr y ↦ absurd (let one : k ≡ e.0 = (cc) in let wrong : true ≡ false = sym same ∙ ap (λ n. eqb n op) (sym one) ∙ y.0 in cc)
]
lends-to client p moment (fact.Looked k a b kept picked) op c m there e s same l = absurd (by (look_event client p.state picked) refl s)
  where
    by : (o : Option OpEvent) → look_event client p.state picked ≡ o → to_command k o ≡ Some e → ⊥
    by None x q = absurd (cc)
    by (Some v) x q = let one : v ≡ e.1 = (cc) in no-lending v (look-lends client p.state picked v x) (ap is_lending one ∙ l)
lends-to client p moment (fact.Asked place r) op c m there e s same l = absurd (by r.purpose s)
  where
    by : (u : Purpose) → asked_event u ≡ Some e → ⊥
    by (purpose.Command k) q = let one : event.Sent ≡ e.1 = (cc) in no-lending event.Sent refl (ap is_lending one ∙ l)
    by (purpose.Check host) q = absurd (cc)
    by (purpose.Greeting host conn) q = absurd (cc)
    by purpose.Farewell q = absurd (cc)
lends-to client p moment (fact.Ended k end) op c m there e s same l = absurd (let one : end_event end ≡ e.1 = (cc) in no-lending (end_event end) (end-lends end) (ap is_lending one ∙ l))
lends-to client p moment f op c m there e s same l = absurd (cc)

allows-to : (w : ClientState) (op : ℕ) (o : Option OfCommand) (c x : CommandState) → x.op ≡ c.op → slice_get w.commands op ≡ Some c → CommandAllows w o → (e : OfCommand) → o ≡ Some e → eqb e.0 op ≡ true →
    allows x.op.next e.1 ≡ true
allows-to w op None c x same there a e s q = absurd (cc)
allows-to w op (Some v) c x same there a e s q =
    let b : CommandAllows w (Some e) = subst (CommandAllows w) s a in
    elim (eqb_tells e.0 op) [
      | inl y ↦
          let at : slice_get w.commands op ≡ Some b.0 = subst (λ n. slice_get w.commands n ≡ Some b.0) y.1 b.1 in
          let one : b.0 ≡ c = same-command w.commands op b.0 c at there in
          subst (λ (z : Op). allows z.next e.1 ≡ true) (sym same) (subst (λ (z : CommandState). allows z.op.next e.1 ≡ true) one b.2)
      | inr y ↦ absurd (let wrong : true ≡ false = sym q ∙ y.0 in cc)
    ]

pub ready-step : (client : Client) (p : Point) (t : Timed Fact) (op : ℕ) (c : CommandState) → StandsAt client p t → slice_get p.state.commands op ≡ Some c → IsReady c →
    IsReady (moves client t.at p.state t.what op c)
ready-step client p t op c s there h =
    let x = change_to op (change_of t.at p.state t.what) c in
    ready-at op (command_step client p.state t.what) x
    (λ e y q. (allows-to p.state op (command_step client p.state t.what) c x (change-op op t.at p.state t.what c) there s.command e y q, λ l. lends-to client p t.at t.what op c s.rule there e y q l))
    (ready-change client p t.at t.what op c s.rule there h)
