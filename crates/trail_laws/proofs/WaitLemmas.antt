-- A command that waits for a connection is to check one out there.
use Rattle.std.proofs.Common.{◌≡◌, ◌⊎◌, inl, inr, ℕ, zero, suc, Bool, true, false, List, [], ◌∷◌, ◌++◌, map, Option, None, Some, refl, sym, ap, ◌∙◌, subst}
use Rattle.std.specs.Prelude.{slice_get, filter_map, if◌then◌else◌}
use Rattle.std.specs.Option.{option_and_then}
use Rattle.entry_judge.specs.Judge.{Legal, state_after}
use Rattle.entry_judge.specs.declared.timed.Timed.{Timed}
use Rattle.cmd_build.specs.declared.command.Command.{Command}
use Rattle.write_retry.specs.Machine.{Op, allows, answers_send}
use Rattle.write_retry.specs.declared.attempt_end.AttemptEnd.{AttemptEnd}
use Rattle.write_retry.specs.declared.attempt_end.AttemptEnd.TheVariants as attempt
use Rattle.write_retry.specs.declared.events.Next.{Next}
use Rattle.write_retry.specs.declared.events.Next.TheVariants as next
use Rattle.write_retry.specs.declared.events.OpEvent.{OpEvent}
use Rattle.write_retry.specs.declared.events.OpEvent.TheVariants as event
use Rattle.write_retry.specs.declared.events.Unsent.{Unsent}
use Rattle.write_retry.specs.declared.events.Unsent.TheVariants as unsent
use Rattle.desk_trail.specs.declared.entry.LookedHow.{LookedHow}
use Rattle.desk_trail.specs.declared.entry.LookedHow.TheVariants as looked
use Rattle.desk_trail.specs.declared.request.Purpose.{Purpose}
use Rattle.desk_trail.specs.declared.request.Purpose.TheVariants as purpose
use Rattle.hello_reply.specs.declared.server_description.ServerDescription.{ServerDescription}
use Rattle.desk_trail.specs.Attempts.{CommandAllows, OfCommand, asked_event, command_step, commands_after, end_by, end_event, look_event, misfit_event, to_command, with_event}
use Rattle.desk_trail.specs.Clients.{Client}
use Rattle.desk_trail.specs.Facts.{Fact}
use Rattle.desk_trail.specs.Facts as fact
use Rattle.desk_trail.specs.Legal.{AreLegal, Point, StandsAt, beginning, changed_by, owes, point_after, point_behind}
use Rattle.desk_trail.specs.Looks.{is_numbered_at, look_by}
use Rattle.desk_trail.specs.Owed.{InTurn, IsHead, IsOwed, Owed, left_owed}
use Rattle.desk_trail.specs.Owed as owed
use Rattle.desk_trail.specs.Pools.{dials_by, has_by}
use Rattle.desk_trail.specs.States.{CheckOut, ClientState, CommandState, Dials, Has, Nothing, Waits, changed, description_of, fresh_command, number_of}
use Rattle.desk_trail.specs.Topologies.{cleared, is_paused_at, offered_owes, owed_by_change, readied, verdict_on}
use Rattle.topo_book.specs.Fresh.{is_accepted_verdict}
use Rattle.topo_rules.specs.Changes.{cleared_after, hosts_beyond, ready_after}
use Rattle.topo_rules.specs.Rules as rules
use Rattle.topo_rules.specs.declared.event.TopoEvent.{TopoEvent}
use Rattle.host_name.specs.Addresses.{Address}
use Rattle.trail_laws.specs.Waiting.{WaitsAtItsServer, WaitsBy}
use Rattle.trail_laws.proofs.CommandLemmas.{Change, Each, Of, Still, asked_change, change_of, changes, each-behind, each-event, place_of, run, there-changed, with_change}
use Rattle.std.proofs.lemmas.Bool.Decides.{eqb_tells}
use Rattle.trail_laws.proofs.ListLemmas.{changed-other}
use Rattle.trail_laws.proofs.OwedLemmas.{IsIn, in-split, other-owes, other-refused_op, paid-left}

-- ---- One command

-- it has no connection, and waits for one
abbrev pub is_waiting : CheckOut → Bool
is_waiting (Waits host ticket) = true
is_waiting (Dials host ticket conn) = true
is_waiting h = false

waits-not : (h : CheckOut) (n : Next) → is_waiting h ≡ false → WaitsBy h n
waits-not Nothing n q = tt
waits-not (Has host ticket conn) n q = tt
waits-not (Waits host ticket) n q = absurd (cc)
waits-not (Dials host ticket conn) n q = absurd (cc)

-- an event that may tell a command that checks a connection out
abbrev is_of_check_out : OpEvent → Bool
is_of_check_out event.Lent = true
is_of_check_out (event.Unsent u) = true
is_of_check_out e = false

none-else : (host : ℕ) (e : OpEvent) → is_of_check_out e ≡ false → allows (next.CheckOut host) e ≡ true → ⊥
none-else host event.Lent q h = absurd (cc)
none-else host (event.Unsent u) q h = absurd (cc)
none-else host e q h = absurd (cc)

-- another event comes only where it does not wait
waits-for_none : (h : CheckOut) (n : Next) (e : OpEvent) → WaitsBy h n → allows n e ≡ true → is_of_check_out e ≡ false → is_waiting h ≡ false
waits-for_none Nothing n e w a q = refl
waits-for_none (Has host ticket conn) n e w a q = refl
waits-for_none (Waits host ticket) n e w a q = absurd (none-else host e q (subst (λ x. allows x e ≡ true) w a))
waits-for_none (Dials host ticket conn) n e w a q = absurd (none-else host e q (subst (λ x. allows x e ≡ true) w a))

-- nor where its attempt ends since it is too large
waits-too_large : (h : CheckOut) (n : Next) (u : Unsent) → WaitsBy h n → allows n (event.Unsent u) ≡ true → answers_send u ≡ true → is_waiting h ≡ false
waits-too_large Nothing n u w a q = refl
waits-too_large (Has host ticket conn) n u w a q = refl
waits-too_large (Waits host ticket) n u w a q = absurd (no u q (subst (λ x. allows x (event.Unsent u) ≡ true) w a))
  where
    no : (u : Unsent) → answers_send u ≡ true → allows (next.CheckOut host) (event.Unsent u) ≡ true → ⊥
    no (unsent.TooLarge size most) q h = absurd (cc)
    no u q h = absurd (cc)
waits-too_large (Dials host ticket conn) n u w a q = absurd (no u q (subst (λ x. allows x (event.Unsent u) ≡ true) w a))
  where
    no : (u : Unsent) → answers_send u ≡ true → allows (next.CheckOut host) (event.Unsent u) ≡ true → ⊥
    no (unsent.TooLarge size most) q h = absurd (cc)
    no u q h = absurd (cc)

has-not : (conn : ℕ) (h : CheckOut) → is_waiting (has_by conn h) ≡ false
has-not conn Nothing = refl
has-not conn (Waits host ticket) = refl
has-not conn (Dials host ticket n) = refl
has-not conn (Has host ticket n) = refl

dials-waits : (conn : ℕ) (h : CheckOut) (n : Next) → WaitsBy h n → WaitsBy (dials_by conn h) n
dials-waits conn Nothing n w = tt
dials-waits conn (Waits host ticket) n w = w
dials-waits conn (Dials host ticket m) n w = w
dials-waits conn (Has host ticket m) n w = tt

looked-out : (w : ClientState) (moment : ℕ) (h : LookedHow) (c : CommandState) → (look_by w moment h c).check_out ≡ c.check_out
looked-out w moment (looked.Chosen host) c = refl
looked-out w moment looked.NoneFits c = refl
looked-out w moment looked.Failed c = refl
looked-out w moment (looked.Incompatible host) c = refl

looked-op : (w : ClientState) (moment : ℕ) (h : LookedHow) (c : CommandState) → (look_by w moment h c).op ≡ c.op
looked-op w moment (looked.Chosen host) c = refl
looked-op w moment looked.NoneFits c = refl
looked-op w moment looked.Failed c = refl
looked-op w moment (looked.Incompatible host) c = refl

-- ---- What holds of all commands at a point

-- each waits where it is to check out; and one whose attempt is to end is with no pool
pub record AreWaiting (w : ClientState) (os : List Owed) : Type 0 where
  pub waits : Each WaitsAtItsServer w.commands
  pub ends : (op : ℕ) (why : Unsent) (c : CommandState) → IsIn (owed.Ended op why) os → slice_get w.commands op ≡ Some c → c.check_out ≡ Nothing

-- what an entry does to a command keeps it waiting where it is to check out
waits-run : (client : Client) (p : Point) (moment : ℕ) (f : Fact) → StandsAt client p (record { at = moment; what = f }) → (c : CommandState) →
    slice_get p.state.commands (place_of (change_of moment p.state f)) ≡ Some c → WaitsAtItsServer c → WaitsAtItsServer (run (change_of moment p.state f) c)
waits-run client p moment (fact.Looked op a b ks picked) s c there h =
    subst (λ (n : Next). WaitsBy (look_by p.state moment picked c).check_out n) (sym (ap (λ (o : Op). o.next) (looked-op p.state moment picked c)))
    (subst (λ (k : CheckOut). WaitsBy k c.op.next) (sym (looked-out p.state moment picked c)) h)
waits-run client p moment (fact.Entered op host ticket) s c there h =
    let both : Some s.rule.0.0 ≡ Some c = sym s.rule.0.1 ∙ there in
    let same : s.rule.0.0 ≡ c = (cc) in
    ap (λ (d : CommandState). d.op.next) (sym same) ∙ s.rule.0.2.chose
waits-run client p moment (fact.Lent op host conn) s c there h = waits-not (has_by conn c.check_out) c.op.next (has-not conn c.check_out)
waits-run client p moment (fact.Dialled op host conn stream) s c there h = dials-waits conn c.check_out c.op.next h
waits-run client p moment (fact.NotLent op host why) s c there h = tt
waits-run client p moment (fact.CheckedIn op host conn errored) s c there h = tt
waits-run client p moment (fact.Asked place r) s c there h = by r.purpose
  where
    by : (q : Purpose) → WaitsAtItsServer (run (asked_change moment q) c)
    by (purpose.Command op) = h
    by (purpose.Check host) = h
    by (purpose.Greeting host conn) = h
    by purpose.Farewell = h
waits-run client p moment f s c there h = h

-- ---- An event of a command

-- the end of an attempt that was not sent is of one that is too large, or was owed
ended-turn : (os : List Owed) (op : ℕ) (u : Unsent) → InTurn os (fact.Ended op (attempt.Unsent u)) → (answers_send u ≡ true) ⊎ IsIn (owed.Ended op u) os
ended-turn [] op u h = inl h
ended-turn (owed.Ended o v ∷ ds) op u h =
    let same : u ≡ v = let e = h.1 in (cc) in
    inr (inl (ap (λ x. owed.Ended x v) (sym h.0) ∙ ap (λ x. owed.Ended op x) (sym same)))
ended-turn (d ∷ ds) op u h = absurd h

misfit-none : (client : Client) (w : ClientState) (h : LookedHow) (e : OpEvent) → look_event client w h ≡ Some e → is_of_check_out e ≡ false
misfit-none client w (looked.Chosen host) e h = let same : event.Chosen host (is_numbered_at client w host) ≡ e = (cc) in ap is_of_check_out (sym same)
misfit-none client w looked.NoneFits e h = absurd (cc)
misfit-none client w looked.Failed e h = let same : event.NoServer ≡ e = (cc) in ap is_of_check_out (sym same)
misfit-none client w (looked.Incompatible host) e h = by (option_and_then (description_of w) (slice_get w.servers host)) h
  where
    by : (o : Option ServerDescription) → misfit_event host o ≡ Some e → is_of_check_out e ≡ false
    by None i = absurd (cc)
    by (Some d) i = let same : event.Incompatible host d.min_wire d.max_wire ≡ e = (cc) in ap is_of_check_out (sym same)

allowed : (w : ClientState) (e : OfCommand) (o : Option OfCommand) (c : CommandState) → CommandAllows w o → o ≡ Some e → slice_get w.commands e.0 ≡ Some c → allows c.op.next e.1 ≡ true
allowed w e o c a is there =
    let h = subst (CommandAllows w) is a in
    let both : Some h.0 ≡ Some c = sym h.1 ∙ there in
    let same : h.0 ≡ c = (cc) in
    ap (λ (d : CommandState). allows d.op.next e.1) (sym same) ∙ h.2

-- the event that an entry tells a command, and the command behind the rest of the entry
event-of : (op : ℕ) (o : Option OpEvent) (e : OfCommand) → to_command op o ≡ Some e → (op ≡ e.0) × (o ≡ Some e.1)
event-of op None e h = absurd (cc)
event-of op (Some x) e h = let same : (op, x) ≡ e = (cc) in (ap (λ (y : OfCommand). y.0) same, ap (λ (y : OfCommand). Some y.1) same)

quiet : (client : Client) (p : Point) (moment : ℕ) (f : Fact) → StandsAt client p (record { at = moment; what = f }) → AreWaiting p.state p.owed → (e : OfCommand) →
    command_step client p.state f ≡ Some e → (c : CommandState) → slice_get p.state.commands e.0 ≡ Some c →
    is_waiting (run (change_of moment p.state f) c).check_out ≡ false
quiet client p moment (fact.Looked op a b ks picked) s h e is c there =
    let told = event-of op (look_event client p.state picked) e is in
    let may = allowed p.state e (command_step client p.state (fact.Looked op a b ks picked)) c s.command is there in
    ap is_waiting (looked-out p.state moment picked c)
    ∙ waits-for_none c.check_out c.op.next e.1 (h.waits e.0 c there) may (misfit-none client p.state picked e.1 told.1)
quiet client p moment (fact.Lent op host conn) s h e is c there = has-not conn c.check_out
quiet client p moment (fact.Asked place r) s h e is c there =
    by r.purpose is (allowed p.state e (command_step client p.state (fact.Asked place r)) c s.command is there)
  where
    by : (q : Purpose) → asked_event q ≡ Some e → allows c.op.next e.1 ≡ true → is_waiting (run (asked_change moment q) c).check_out ≡ false
    by (purpose.Command op) i a =
        let same : (op, event.Sent) ≡ e = (cc) in
        waits-for_none c.check_out c.op.next e.1 (h.waits e.0 c there) a (ap (λ (y : OfCommand). is_of_check_out y.1) (sym same))
    by (purpose.Check host) i a = absurd (cc)
    by (purpose.Greeting host conn) i a = absurd (cc)
    by purpose.Farewell i a = absurd (cc)
quiet client p moment (fact.Ended op end) s h e is c there =
    let same : (op, end_event end) ≡ e = (cc) in
    let may : allows c.op.next (end_event end) ≡ true =
    ap (λ (y : OfCommand). allows c.op.next y.1) same ∙ allowed p.state e (command_step client p.state (fact.Ended op end)) c s.command is there in
    let here : slice_get p.state.commands op ≡ Some c = ap (λ (y : OfCommand). slice_get p.state.commands y.0) same ∙ there in
    by end s.turn may here
  where
    by : (x : AttemptEnd) → InTurn p.owed (fact.Ended op x) → allows c.op.next (end_event x) ≡ true → slice_get p.state.commands op ≡ Some c → is_waiting c.check_out ≡ false
    by (attempt.Unsent u) turn may here = elim (ended-turn p.owed op u turn) [
      | inl large ↦ waits-too_large c.check_out c.op.next u (h.waits op c here) may large
      | inr owes ↦ ap is_waiting (h.ends op u c owes here)
    ]
    by (attempt.Replied reading) turn may here = waits-for_none c.check_out c.op.next (event.Replied reading) (h.waits op c here) may refl
    by attempt.Cut turn may here = waits-for_none c.check_out c.op.next event.Cut (h.waits op c here) may refl
    by attempt.Fault turn may here = waits-for_none c.check_out c.op.next event.Fault (h.waits op c here) may refl
    by attempt.TimedOut turn may here = waits-for_none c.check_out c.op.next event.TimedOut (h.waits op c here) may refl
    by (attempt.Bad at) turn may here = waits-for_none c.check_out c.op.next (event.Bad at) (h.waits op c here) may refl
quiet client p moment f s h e is c there = absurd (cc)

-- the place of the event is that of the change
told-place : (client : Client) (moment : ℕ) (w : ClientState) (f : Fact) (e : OfCommand) → command_step client w f ≡ Some e →
    (g : CommandState → CommandState) × (change_of moment w f ≡ Of e.0 g)
told-place client moment w (fact.Looked op a b ks picked) e is =
    let told = event-of op (look_event client w picked) e is in
    (look_by w moment picked, ap (λ n. Of n (look_by w moment picked)) told.0)
told-place client moment w (fact.Lent op host conn) e is =
    let same : (op, event.Lent) ≡ e = (cc) in
    ((λ c. record c { check_out = has_by conn c.check_out }), ap (λ (y : OfCommand). Of y.0 (λ c. record c { check_out = has_by conn c.check_out })) same)
told-place client moment w (fact.Asked place r) e is = by r.purpose is
  where
    by : (q : Purpose) → asked_event q ≡ Some e → (g : CommandState → CommandState) × (asked_change moment q ≡ Of e.0 g)
    by (purpose.Command op) i =
        let same : (op, event.Sent) ≡ e = (cc) in
        ((λ c. record c { asked = Some moment }), ap (λ (y : OfCommand). Of y.0 (λ c. record c { asked = Some moment })) same)
    by (purpose.Check host) i = absurd (cc)
    by (purpose.Greeting host conn) i = absurd (cc)
    by purpose.Farewell i = absurd (cc)
told-place client moment w (fact.Ended op end) e is =
    let same : (op, end_event end) ≡ e = (cc) in
    (end_by end, ap (λ (y : OfCommand). Of y.0 (end_by end)) same)
told-place client moment w f e is = absurd (cc)

quiet-behind : (client : Client) (p : Point) (moment : ℕ) (f : Fact) → StandsAt client p (record { at = moment; what = f }) → AreWaiting p.state p.owed → (e : OfCommand) →
    command_step client p.state f ≡ Some e → (d : CommandState) → slice_get (changed_by client moment p.state f).commands e.0 ≡ Some d → is_waiting d.check_out ≡ false
quiet-behind client p moment f s h e is d there =
    let t = told-place client moment p.state f e is in
    let b = there-changed p.state.commands e.0 t.0 d
    (ap (λ cs. slice_get cs e.0) (sym (changes client moment p.state f ∙ ap (λ x. with_change x p.state.commands) t.1)) ∙ there) in
    let same : run (change_of moment p.state f) b.0 ≡ d = ap (λ x. run x b.0) t.1 ∙ sym b.2 in
    ap (λ (x : CommandState). is_waiting x.check_out) (sym same) ∙ quiet client p moment f s h e is b.0 b.1

waits-behind : (client : Client) (p : Point) (moment : ℕ) (f : Fact) → StandsAt client p (record { at = moment; what = f }) → AreWaiting p.state p.owed →
    Each WaitsAtItsServer (point_after client p (record { at = moment; what = f })).state.commands
waits-behind client p moment f s h =
    let v = changed_by client moment p.state f in
    each-event WaitsAtItsServer (command_step client p.state f) v
    (λ e is d there w. waits-not d.check_out (with_event e.1 d).op.next (quiet-behind client p moment f s h e is d there))
    (each-behind WaitsAtItsServer client moment p.state f (waits-run client p moment f s) h.waits)

-- ---- Attempts that are to end

-- one that is with no pool is with none behind another entry than that it asks one
out-run : (moment : ℕ) (w : ClientState) (f : Fact) (c : CommandState) → ((op host ticket : ℕ) → f ≡ fact.Entered op host ticket → ⊥) → c.check_out ≡ Nothing →
    (run (change_of moment w f) c).check_out ≡ Nothing
out-run moment w (fact.Entered op host ticket) c other h = absurd (other op host ticket refl)
out-run moment w (fact.Looked op a b ks picked) c other h = looked-out w moment picked c ∙ h
out-run moment w (fact.Lent op host conn) c other h = ap (has_by conn) h
out-run moment w (fact.Dialled op host conn stream) c other h = ap (dials_by conn) h
out-run moment w (fact.NotLent op host why) c other h = refl
out-run moment w (fact.CheckedIn op host conn errored) c other h = refl
out-run moment w (fact.Asked place r) c other h = by r.purpose
  where
    by : (q : Purpose) → (run (asked_change moment q) c).check_out ≡ Nothing
    by (purpose.Command op) = h
    by (purpose.Check host) = h
    by (purpose.Greeting host conn) = h
    by purpose.Farewell = h
out-run moment w f c other h = h

no-end_named : (op : ℕ) (why : Unsent) (ks : List Address) → IsIn (owed.Ended op why) (map (λ k. owed.Named k) ks) → ⊥
no-end_named op why [] h = h
no-end_named op why (k ∷ ks) (inl e) = absurd (cc)
no-end_named op why (k ∷ ks) (inr h) = no-end_named op why ks h

no-end_dropped : (op : ℕ) (why : Unsent) (ns : List ℕ) → IsIn (owed.Ended op why) (map (λ n. owed.Dropped n) ns) → ⊥
no-end_dropped op why [] h = h
no-end_dropped op why (n ∷ ns) (inl e) = absurd (cc)
no-end_dropped op why (n ∷ ns) (inr h) = no-end_dropped op why ns h

no-end_readied : (op : ℕ) (why : Unsent) (w : ClientState) (o : Option ℕ) → IsIn (owed.Ended op why) (readied w o) → ⊥
no-end_readied op why w None h = h
no-end_readied op why w (Some host) h = by (is_paused_at w host) h
  where
    by : (b : Bool) → IsIn (owed.Ended op why) (if b then owed.PoolReady host ∷ [] else []) → ⊥
    by true (inl e) = absurd (cc)
    by true (inr i) = i
    by false i = i

no-end_cleared : (op : ℕ) (why : Unsent) (o : Option ℕ) → IsIn (owed.Ended op why) (cleared o) → ⊥
no-end_cleared op why None h = h
no-end_cleared op why (Some host) (inl e) = absurd (cc)
no-end_cleared op why (Some host) (inr i) = i

no-end_offered : (op : ℕ) (why : Unsent) (w : ClientState) (x : TopoEvent) → IsIn (owed.Ended op why) (offered_owes w x) → ⊥
no-end_offered op why w x h = by (is_accepted_verdict (verdict_on w x)) h
  where
    by : (b : Bool) → IsIn (owed.Ended op why) (if b then owed_by_change w x (rules.after w.topology x) else []) → ⊥
    by false i = i
    by true i =
        let new = rules.after w.topology x in
        let names = map (λ a. owed.Named a) (hosts_beyond new.servers w.topology.servers) in
        let removed = map (λ n. owed.Dropped n) (filter_map (number_of w) (hosts_beyond w.topology.servers new.servers)) in
        let ready = readied w (option_and_then (number_of w) (ready_after x new)) in
        let clear = cleared (option_and_then (number_of w) (cleared_after x new)) in
        elim (in-split (owed.Ended op why) names (removed ++ (ready ++ clear)) i) [
          | inl l ↦ no-end_named op why (hosts_beyond new.servers w.topology.servers) l
          | inr r ↦ elim (in-split (owed.Ended op why) removed (ready ++ clear) r) [
            | inl l ↦ no-end_dropped op why (filter_map (number_of w) (hosts_beyond w.topology.servers new.servers)) l
            | inr m ↦ elim (in-split (owed.Ended op why) ready clear m) [
              | inl l ↦ no-end_readied op why w (option_and_then (number_of w) (ready_after x new)) l
              | inr l ↦ no-end_cleared op why (option_and_then (number_of w) (cleared_after x new)) l
            ]
          ]
        ]

-- what an entry owes says of an attempt's end only that of a command that gets no connection
owes-end : (client : Client) (moment : ℕ) (w : ClientState) (f : Fact) (op : ℕ) (why : Unsent) → IsIn (owed.Ended op why) (owes client moment w f) →
    (host : ℕ) × (f ≡ fact.NotLent op host why)
owes-end client moment w (fact.NotLent k host u) op why (inl e) =
    let same : owed.Ended k u ≡ owed.Ended op why = e in
    (host, ap (told-by host) same)
  where
    told-by : ℕ → Owed → Fact
    told-by h (owed.Ended o v) = fact.NotLent o h v
    told-by h d = fact.NotLent k host u
owes-end client moment w (fact.NotLent k host u) op why (inr i) = let no : true ≡ false = other-refused_op w k host u (owed.Ended op why) i in absurd (cc)
owes-end client moment w (fact.Named host address) op why i = absurd i
owes-end client moment w (fact.Dropped host) op why (inl e) = absurd (cc)
owes-end client moment w (fact.Dropped host) op why (inr i) = absurd i
owes-end client moment w (fact.Offered place x taken) op why i = absurd (no-end_offered op why w x i)
owes-end client moment w (fact.Time stamp) op why i = absurd i
owes-end client moment w f op why i = let no : true ≡ false = other-owes client moment w f refl (owed.Ended op why) i in absurd (cc)

-- a command asks a pool only where nothing must come next
entered-turn : (os : List Owed) (op host ticket : ℕ) → InTurn os (fact.Entered op host ticket) → os ≡ []
entered-turn [] op host ticket h = refl
entered-turn (d ∷ ds) op host ticket h = absurd (not-owed d h)
  where
    not-owed : (d : Owed) → IsOwed d (fact.Entered op host ticket) → ⊥
    not-owed (owed.OfPool x) h = h
    not-owed d h = h

still-out : (client : Client) (p : Point) (moment : ℕ) (f : Fact) → StandsAt client p (record { at = moment; what = f }) → (op : ℕ) (why : Unsent) → IsIn (owed.Ended op why) p.owed →
    (k host ticket : ℕ) → f ≡ fact.Entered k host ticket → ⊥
still-out client p moment f s op why i k host ticket e =
    let none = entered-turn p.owed k host ticket (subst (InTurn p.owed) e s.turn) in
    subst (IsIn (owed.Ended op why)) none i

-- one command behind an entry, its event aside
out-behind : (P : CommandState → Type 0) (client : Client) (moment : ℕ) (w : ClientState) (f : Fact) (op : ℕ) →
    ((c : CommandState) → slice_get w.commands op ≡ Some c → P c) →
    ((c : CommandState) → op ≡ place_of (change_of moment w f) → slice_get w.commands op ≡ Some c → P (run (change_of moment w f) c)) →
    (d : CommandState) → slice_get (changed_by client moment w f).commands op ≡ Some d → P d
out-behind P client moment w f op stays keeps d there = by (change_of moment w f) keeps (ap (λ cs. slice_get cs op) (sym (changes client moment w f)) ∙ there)
  where
    by : (x : Change) → ((c : CommandState) → op ≡ place_of x → slice_get w.commands op ≡ Some c → P (run x c)) → slice_get (with_change x w.commands) op ≡ Some d → P d
    by Still k i = stays d i
    by (Of n g) k i = elim (eqb_tells n op) [
      | inl same ↦
          let b = there-changed w.commands n g d (ap (slice_get (changed w.commands n g)) same.1 ∙ i) in
          subst P (sym b.2) (k b.0 (sym same.1) (ap (slice_get w.commands) (sym same.1) ∙ b.1))
      | inr other ↦ stays d (sym (changed-other w.commands n op g other.1) ∙ i)
    ]

event-out : (o : Option OfCommand) (v : ClientState) (op : ℕ) (d : CommandState) → slice_get (commands_after o v).commands op ≡ Some d →
    ((b : CommandState) → slice_get v.commands op ≡ Some b → b.check_out ≡ Nothing) → d.check_out ≡ Nothing
event-out None v op d there h = h d there
event-out (Some e) v op d there h = elim (eqb_tells e.0 op) [
  | inl same ↦
      let b = there-changed v.commands e.0 (with_event e.1) d (ap (slice_get (changed v.commands e.0 (with_event e.1))) same.1 ∙ there) in
      ap (λ (x : CommandState). x.check_out) b.2 ∙ h b.0 (ap (slice_get v.commands) (sym same.1) ∙ b.1)
  | inr other ↦ h d (sym (changed-other v.commands e.0 op (with_event e.1) other.1) ∙ there)
]

abbrev is_change : Change → Bool
is_change Still = false
is_change (Of op g) = true

refused-kind : (moment : ℕ) (w : ClientState) (f : Fact) (op host : ℕ) (why : Unsent) → f ≡ fact.NotLent op host why → is_change (change_of moment w f) ≡ true
refused-kind moment w f op host why e = ap (λ x. is_change (change_of moment w x)) e

refused-out : (moment : ℕ) (w : ClientState) (f : Fact) (op host : ℕ) (why : Unsent) → f ≡ fact.NotLent op host why → (c : CommandState) → (run (change_of moment w f) c).check_out ≡ Nothing
refused-out moment w f op host why e c = ap (λ x. (run (change_of moment w x) c).check_out) e

refused-place : (moment : ℕ) (w : ClientState) (f : Fact) (op host : ℕ) (why : Unsent) → f ≡ fact.NotLent op host why → place_of (change_of moment w f) ≡ op
refused-place moment w f op host why e = ap (λ x. place_of (change_of moment w x)) e

ends-behind : (client : Client) (p : Point) (moment : ℕ) (f : Fact) → StandsAt client p (record { at = moment; what = f }) → AreWaiting p.state p.owed →
    (op : ℕ) (why : Unsent) (d : CommandState) → IsIn (owed.Ended op why) (owes client moment p.state f ++ left_owed p.owed f) →
    slice_get (point_after client p (record { at = moment; what = f })).state.commands op ≡ Some d → d.check_out ≡ Nothing
ends-behind client p moment f s h op why d i there =
    let w = p.state in
    let v = changed_by client moment w f in
    event-out (command_step client w f) v op d there
    (elim (in-split (owed.Ended op why) (owes client moment w f) (left_owed p.owed f) i) [
      | inl l ↦
          let n = owes-end client moment w f op why l in
          λ b at. refused client moment w f op why n.0 n.1 b at
      | inr r ↦
          let was = paid-left (owed.Ended op why) p.owed f r in
          λ b at.
          out-behind (λ (c : CommandState). c.check_out ≡ Nothing) client moment w f op (λ c here. h.ends op why c was here)
          (λ c place here. out-run moment w f c (still-out client p moment f s op why was) (h.ends op why c was here)) b at
    ])
  where
    refused : (client : Client) (moment : ℕ) (w : ClientState) (f : Fact) (op : ℕ) (why : Unsent) (host : ℕ) → f ≡ fact.NotLent op host why → (b : CommandState) →
        slice_get (changed_by client moment w f).commands op ≡ Some b → b.check_out ≡ Nothing
    refused client moment w f op why host e b at = by (change_of moment w f) (refused-place moment w f op host why e) (refused-out moment w f op host why e)
        (ap (λ cs. slice_get cs op) (sym (changes client moment w f)) ∙ at) (refused-kind moment w f op host why e)
      where
        by : (x : Change) → place_of x ≡ op → ((c : CommandState) → (run x c).check_out ≡ Nothing) → slice_get (with_change x w.commands) op ≡ Some b → is_change x ≡ true → b.check_out ≡ Nothing
        by Still place out i q = absurd (cc)
        by (Of n g) place out i q =
            let c = there-changed w.commands n g b (ap (slice_get (changed w.commands n g)) place ∙ i) in
            ap (λ (x : CommandState). x.check_out) c.2 ∙ out c.0

-- ---- Each entry

waiting-step : (client : Client) (p : Point) (moment : ℕ) (f : Fact) → StandsAt client p (record { at = moment; what = f }) → AreWaiting p.state p.owed →
    AreWaiting (point_after client p (record { at = moment; what = f })).state (point_after client p (record { at = moment; what = f })).owed
waiting-step client p moment f s h = record { waits = waits-behind client p moment f s h; ends = ends-behind client p moment f s h }

waiting-from : (client : Client) (p : Point) (ts : List (Timed Fact)) → Legal (StandsAt client) (point_after client) p ts → AreWaiting p.state p.owed →
    AreWaiting (state_after (point_after client) p ts).state (state_after (point_after client) p ts).owed
waiting-from client p [] l h = h
waiting-from client p (t ∷ ts) l h = waiting-from client (point_after client p t) ts l.1 (waiting-step client p t.at t.what l.0 h)

fresh-waits : (cs : List Command) → Each WaitsAtItsServer (map fresh_command cs)
fresh-waits [] op c there = absurd (cc)
fresh-waits (x ∷ xs) zero c there = let same : fresh_command x ≡ c = (cc) in subst WaitsAtItsServer same tt
fresh-waits (x ∷ xs) (suc op) c there = fresh-waits xs op c there

pub waits-of : (client : Client) (ts : List (Timed Fact)) → AreLegal client ts → Each WaitsAtItsServer (point_behind client ts).state.commands
waits-of client ts l =
    (waiting-from client (beginning client) ts l
    (record { waits = fresh-waits client.commands; ends = λ op why c i there. absurd (no-end_named op why client.settings.hosts i) })).waits
