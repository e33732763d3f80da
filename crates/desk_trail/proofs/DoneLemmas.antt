-- Behind its answer no entry is of a command, the return of its session aside; and a command draws once.
use Rattle.std.proofs.Common.{◌≡◌, ℕ, Bool, true, false, not, ◌&&◌, cond, eqb, List, [], ◌∷◌, ◌++◌, Option, None, Some, refl, sym, ap, ◌∙◌, subst, inl, inr}
use Rattle.std.specs.Prelude.{ℤ, slice_get, is_some}
use Rattle.std.specs.Option.{option_map, option_and_then}
use Rattle.std.proofs.lemmas.Bool.{eq-eqb}
use Rattle.std.proofs.lemmas.Bool.Decides.{eqb_tells}
use Rattle.entry_judge.specs.declared.timed.Timed.{Timed}
use Rattle.entry_judge.specs.Judge.{Legal}
use Rattle.std.proofs.lemmas.Iterator.Adapters.{option_map_id}
use Rattle.entry_judge.specs.LegalLaws.{Legal-rest}
use Rattle.pool_book.specs.Entries.{PoolEntry}
use Rattle.pool_book.specs.Entries as pool
use Rattle.write_retry.specs.Machine.{Op, allows}
use Rattle.write_retry.specs.declared.events.OpEvent.TheVariants as op_event
use Rattle.write_retry.specs.declared.events.Next.{Next}
use Rattle.write_retry.specs.declared.events.Next.TheVariants as next
use Rattle.write_retry.specs.declared.events.OpEvent.{OpEvent}
use Rattle.write_retry.specs.declared.events.Unsent.{Unsent}
use Rattle.write_retry.specs.declared.events.Unsent.TheVariants as unsent
use Rattle.write_retry.specs.declared.outcome.Outcome.{Outcome}
use Rattle.desk_trail.specs.declared.entry.LookedHow.{LookedHow}
use Rattle.desk_trail.specs.declared.entry.LookedHow.TheVariants as looked
use Rattle.desk_trail.specs.declared.request.Purpose.{Purpose}
use Rattle.desk_trail.specs.declared.request.Purpose.TheVariants as purpose
use Rattle.desk_trail.specs.Attempts.{CommandAllows, OfCommand, asked_event, command_step, commands_after, end_event, finished, look_event, to_command, with_event}
use Rattle.desk_trail.specs.Clients.{Client}
use Rattle.desk_trail.specs.Facts.{Fact}
use Rattle.desk_trail.specs.Facts as fact
use Rattle.desk_trail.specs.Leases.{is_at_choice}
use Rattle.desk_trail.specs.Legal.{AreLegal, MayStand, Point, StandsAt, beginning, changed_by, client_after, point_after, point_behind}
use Rattle.desk_trail.specs.Looks.{look_by}
use Rattle.desk_trail.specs.Orders.{asks_for, is_of}
use Rattle.desk_trail.specs.Pools.{PoolAllows, at_host, not_lent_with, ticket_dialling, ticket_having, ticket_with}
use Rattle.desk_trail.specs.States.{CheckOut, ClientState, CommandState, Nothing, changed}
use Rattle.desk_trail.proofs.CheckOutLemmas.{acts_as, moved_by, out-step, out_at}
use Rattle.desk_trail.proofs.CommandLemmas.{changed-op, op_at, op_in}
use Rattle.desk_trail.proofs.FieldLemmas.{Apart, kept, plain-kept, read}
use Rattle.desk_trail.proofs.ListLemmas.{changed-other, changed-same}

-- ---- What an answered command is

abbrev pub fin : CommandState → Bool
fin c = c.is_finished

look_by-fin : (w : ClientState) (moment : ℕ) (h : LookedHow) (c : CommandState) → fin (look_by w moment h c) ≡ fin c
look_by-fin w moment looked.NoneFits c = refl
look_by-fin w moment (looked.Chosen x) c = refl
look_by-fin w moment looked.Failed c = refl
look_by-fin w moment (looked.Incompatible x) c = refl

Apart-fin : Apart fin
Apart-fin = record { outs = λ c h. refl; dials = λ m n c. refl; asks = λ c m. refl; looks = look_by-fin; ends = λ e c. refl; events = λ e c. refl }

-- it was answered, and holds nothing
pub record Done (w : ClientState) (op : ℕ) : Type 0 where
  pub cmd : Op
  pub ops : op_at w.commands op ≡ Some cmd
  pub outcome : Outcome
  pub answered : cmd.next ≡ next.Answer outcome
  pub free : out_at w.commands op ≡ Some Nothing
  pub over : read fin w.commands op ≡ Some true

-- ---- No entry is of it

never : (k op : ℕ) → (k ≡ op → ⊥) → eqb k op ≡ false
never k op n = elim (eqb_tells k op) [ inl w ↦ absurd (n w.1) | inr w ↦ w.0 ]

-- what it is to do next
at-answer : (w : ClientState) (k op : ℕ) (c : CommandState) (d : Done w op) → slice_get w.commands k ≡ Some c → k ≡ op → c.op.next ≡ next.Answer d.outcome
at-answer w k op c d there same =
    let h : op_at w.commands op ≡ Some c.op = subst (λ n. op_at w.commands n ≡ Some c.op) same (ap op_in there) in
    let o = d.ops in
    let one : c.op ≡ d.cmd = cc in
    ap (λ (x : Op). x.next) one ∙ d.answered

answer-shut : (o : Outcome) (e : OpEvent) → allows (next.Answer o) e ≡ true → ⊥
answer-shut o e h = absurd (cc)

no-event : (w : ClientState) (op : ℕ) (e : OfCommand) → Done w op → CommandAllows w (Some e) → e.0 ≡ op → ⊥
no-event w op e d (c, there, allowed) same =
    answer-shut d.outcome e.1 (subst (λ x. allows x e.1 ≡ true) (at-answer w e.0 op c d there same) allowed)

no-choice : (w : ClientState) (k op : ℕ) (c : CommandState) → Done w op → slice_get w.commands k ≡ Some c → is_at_choice c.op.next ≡ true → k ≡ op → ⊥
no-choice w k op c d there chose same =
    let wrong : is_at_choice (next.Answer d.outcome) ≡ true = subst (λ x. is_at_choice x ≡ true) (at-answer w k op c d there same) chose in
    absurd (cc)

no-next : (w : ClientState) (k op : ℕ) (c : CommandState) (n : Next) (d : Done w op) → slice_get w.commands k ≡ Some c → c.op.next ≡ n → k ≡ op → n ≡ next.Answer d.outcome
no-next w k op c n d there e same = sym e ∙ at-answer w k op c d there same

nothing-out : (w : ClientState) (k op : ℕ) → Done w op → k ≡ op → out_at w.commands k ≡ Some Nothing
nothing-out w k op d same = subst (λ n. out_at w.commands n ≡ Some Nothing) (sym same) d.free

not_lent-none : (x : ℕ) (why : Unsent) → not_lent_with x why Nothing ≡ None
not_lent-none x unsent.PoolLate = refl
not_lent-none x (unsent.PoolCleared generation) = refl
not_lent-none x (unsent.PoolClosed host) = elim (eqb host x) as (λ b. cond {A = Option PoolEntry} b None None ≡ None) [ true ↦ refl | false ↦ refl ]
not_lent-none x (unsent.Dial bad) = refl
not_lent-none x (unsent.Greeting code) = refl
not_lent-none x (unsent.TooLarge size most) = refl

no-ticket : (w : ClientState) (moment x : ℕ) (g : CheckOut → Option ℕ) (mk : ℕ → PoolEntry) (o : Option CheckOut) → g Nothing ≡ None → o ≡ Some Nothing →
    PoolAllows w moment (at_host x (option_map mk (option_and_then g o))) → ⊥
no-ticket w moment x g mk o n e a =
    subst (λ r. PoolAllows w moment (at_host x (option_map mk r))) n (subst (λ r. PoolAllows w moment (at_host x (option_map mk (option_and_then g r)))) e a)

no-refusal : (w : ClientState) (moment x : ℕ) (why : Unsent) (o : Option CheckOut) → o ≡ Some Nothing →
    PoolAllows w moment (at_host x (option_and_then (not_lent_with x why) o)) → ⊥
no-refusal w moment x why o e a =
    subst (λ r. PoolAllows w moment (at_host x r)) (not_lent-none x why) (subst (λ r. PoolAllows w moment (at_host x (option_and_then (not_lent_with x why) r))) e a)

no-asking : (w : ClientState) (op : ℕ) (u : Purpose) → Done w op → CommandAllows w (asked_event u) → asks_for op u ≡ false
no-asking w op (purpose.Command k) d a = never k op (no-event w op (k, op_event.Sent) d a)
no-asking w op (purpose.Check host) d a = refl
no-asking w op (purpose.Greeting host conn) d a = refl
no-asking w op purpose.Farewell d a = refl

no-finish : (w : ClientState) (k op : ℕ) (c : CommandState) → Done w op → slice_get w.commands k ≡ Some c → c.is_finished ≡ false → k ≡ op → ⊥
no-finish w k op c d there once same =
    let h : read fin w.commands op ≡ Some c.is_finished = subst (λ n. read fin w.commands n ≡ Some c.is_finished) same (ap (λ o. option_map fin o) there) in
    let o = d.over in
    absurd (let wrong : false ≡ true = cc in cc)

no-more : (client : Client) (p : Point) (moment : ℕ) (f : Fact) (op : ℕ) → MayStand client p moment f → CommandAllows p.state (command_step client p.state f) →
    Done p.state op → is_of op f ≡ false
no-more client p moment (fact.Looked k x y ks picked) op m a d =
    never k op (λ same. let e = no-next p.state k op m.0.0 next.Select d m.0.1 m.0.2 same in absurd (cc))
no-more client p moment (fact.Entered k x ticket) op m a d =
    never k op (λ same. let e = no-next p.state k op m.0.0 (next.CheckOut x) d m.0.1 m.0.2.chose same in absurd (cc))
no-more client p moment (fact.Lent k x conn) op m a d = never k op (no-event p.state op (k, op_event.Lent) d a)
no-more client p moment (fact.Dialled k x conn stream) op m a d =
    never k op (λ same. no-ticket p.state moment x (ticket_with x) (λ t. pool.Dialled t conn) (out_at p.state.commands k) refl (nothing-out p.state k op d same) m.1)
no-more client p moment (fact.Settled k x conn stale) op m a d =
    never k op (λ same. no-ticket p.state moment x (ticket_dialling x conn) (λ t. pool.Settled t conn stale) (out_at p.state.commands k) refl (nothing-out p.state k op d same) m)
no-more client p moment (fact.NotLent k x why) op m a d =
    never k op (λ same. no-refusal p.state moment x why (out_at p.state.commands k) (nothing-out p.state k op d same) m)
no-more client p moment (fact.CheckedIn k x conn errored) op m a d =
    never k op (λ same. no-ticket p.state moment x (ticket_having x conn) (λ t. pool.CheckedIn t conn errored) (out_at p.state.commands k) refl (nothing-out p.state k op d same) m)
no-more client p moment (fact.Leased k place lsid fresh) op m a d = never k op (no-choice p.state k op m.running d m.there m.chose)
no-more client p moment (fact.Drew k number) op m a d = never k op (no-choice p.state k op m.running d m.there m.chose)
no-more client p moment (fact.Asked place r) op m a d = no-asking p.state op r.purpose d a
no-more client p moment (fact.Ended k end) op m a d = never k op (no-event p.state op (k, end_event end) d a)
no-more client p moment (fact.Finished k outcome) op m a d = never k op (no-finish p.state k op m.0 d m.1 m.2.once)
no-more client p moment f op m a d = refl

-- ---- It stays so

event-other : (o : Option OfCommand) (v : ClientState) (op : ℕ) → ((e : OfCommand) → o ≡ Some e → eqb e.0 op ≡ false) → op_at (commands_after o v).commands op ≡ op_at v.commands op
event-other None v op h = refl
event-other (Some e) v op h = elim (eqb_tells e.0 op) [
  | inl w ↦ let n = h e refl in absurd (let wrong : true ≡ false = sym w.0 ∙ n in cc)
  | inr w ↦ ap op_in (changed-other v.commands e.0 op (with_event e.1) w.1)
]

to-other : (k op : ℕ) (o : Option OpEvent) → eqb k op ≡ false → (e : OfCommand) → to_command k o ≡ Some e → eqb e.0 op ≡ false
to-other k op None n e h = absurd (cc)
to-other k op (Some x) n e h = let y : OfCommand = (k, x) in let same : y ≡ e = cc in subst (λ (z : OfCommand). eqb z.0 op ≡ false) same n

asked-other : (op : ℕ) (u : Purpose) → asks_for op u ≡ false → (e : OfCommand) → asked_event u ≡ Some e → eqb e.0 op ≡ false
asked-other op (purpose.Command k) n e h = to-other k op (Some op_event.Sent) n e h
asked-other op (purpose.Check host) n e h = absurd (cc)
asked-other op (purpose.Greeting host conn) n e h = absurd (cc)
asked-other op purpose.Farewell n e h = absurd (cc)

step-other : (client : Client) (w : ClientState) (f : Fact) (op : ℕ) → is_of op f ≡ false → (e : OfCommand) → command_step client w f ≡ Some e → eqb e.0 op ≡ false
step-other client w (fact.Looked k x y ks picked) op n e h = to-other k op (look_event client w picked) n e h
step-other client w (fact.Lent k x conn) op n e h = to-other k op (Some op_event.Lent) n e h
step-other client w (fact.Asked place r) op n e h = asked-other op r.purpose n e h
step-other client w (fact.Ended k end) op n e h = to-other k op (Some (end_event end)) n e h
step-other client w f op n e h = absurd (cc)

acts-not : (f : Fact) (op : ℕ) → is_of op f ≡ false → acts_as f op ≡ false
acts-not (fact.Entered k host ticket) op n = n
acts-not (fact.Lent k host conn) op n = n
acts-not (fact.Dialled k host conn stream) op n = n
acts-not (fact.NotLent k host why) op n = n
acts-not (fact.CheckedIn k host conn errored) op n = n
acts-not f op n = refl

fin-after : (client : Client) (moment : ℕ) (w : ClientState) (f : Fact) (op : ℕ) → is_of op f ≡ false → read fin (client_after client moment w f).commands op ≡ read fin w.commands op
fin-after client moment w (fact.Leased k place lsid fresh) op n = kept fin w.commands k op (λ c. record c { session = Some place }) (λ c. refl)
fin-after client moment w (fact.Drew k number) op n = kept fin w.commands k op (λ c. record c { number = Some number }) (λ c. refl)
fin-after client moment w (fact.Returned k dirty ks) op n = kept fin w.commands k op (λ c. record c { session = None }) (λ c. refl)
fin-after client moment w (fact.Finished k outcome) op n = elim (eqb_tells k op) [
  | inl x ↦ absurd (let wrong : true ≡ false = sym x.0 ∙ n in cc)
  | inr x ↦ ap (λ o. option_map fin o) (changed-other w.commands k op finished x.1)
]
fin-after client moment w f op n = plain-kept fin Apart-fin client moment w f op refl

done-keeps : (client : Client) (p : Point) (t : Timed Fact) (op : ℕ) → Done p.state op → is_of op t.what ≡ false → Done (point_after client p t).state op
done-keeps client p t op d n = record {
  cmd = d.cmd;
  ops = event-other (command_step client p.state t.what) (changed_by client t.at p.state t.what) op (step-other client p.state t.what op n)
      ∙ changed-op client t.at p.state t.what op ∙ d.ops;
  outcome = d.outcome;
  answered = d.answered;
  free = out-step client t.at p.state t.what op
      ∙ subst (λ b. option_map (λ h. cond b (moved_by t.what h) h) (out_at p.state.commands op) ≡ Some Nothing) (sym (acts-not t.what op n))
      (option_map_id (out_at p.state.commands op) ∙ d.free);
  over = fin-after client t.at p.state t.what op n ∙ d.over;
}

done-begins : (client : Client) (p : Point) (moment op : ℕ) (outcome : Outcome) → MayStand client p moment (fact.Finished op outcome) →
    Done (client_after client moment p.state (fact.Finished op outcome)) op
done-begins client p moment op outcome (c, there, is) = record {
  cmd = c.op;
  ops = changed-op client moment p.state (fact.Finished op outcome) op ∙ ap op_in there;
  outcome = outcome;
  answered = is.answers;
  free = out-step client moment p.state (fact.Finished op outcome) op ∙ option_map_id (out_at p.state.commands op)
      ∙ ap (λ o. option_map (λ (x : CommandState). x.check_out) o) there ∙ ap (λ h. Some h) is.free;
  over = ap (λ o. option_map fin o) (changed-same p.state.commands op finished ∙ ap (λ o. option_map finished o) there);
}

done-from : (client : Client) (p : Point) (ys : List (Timed Fact)) (t : Timed Fact) (op : ℕ) → Done p.state op →
    Legal (StandsAt client) (point_after client) p (ys ++ t ∷ []) → is_of op t.what ≡ false
done-from client p [] t op d l = no-more client p t.at t.what op l.0.rule l.0.command d
done-from client p (y ∷ ys) t op d l =
    done-from client (point_after client p y) ys t op (done-keeps client p y op d (no-more client p y.at y.what op l.0.rule l.0.command d)) l.1

pub no-more-behind : (client : Client) (xs ys : List (Timed Fact)) (moment op : ℕ) (outcome : Outcome) (t : Timed Fact) →
    AreLegal client (xs ++ record { at = moment; what = fact.Finished op outcome } ∷ (ys ++ t ∷ [])) → is_of op t.what ≡ false
no-more-behind client xs ys moment op outcome t l =
    let e : Timed Fact = record { at = moment; what = fact.Finished op outcome } in
    let p = point_behind client xs in
    let m = Legal-rest (StandsAt client) (point_after client) (beginning client) xs (e ∷ (ys ++ t ∷ [])) l in
    done-from client (point_after client p e) ys t op (done-begins client p moment op outcome m.0.rule) m.1

pub finished-once : (client : Client) (xs ys : List (Timed Fact)) (first second op : ℕ) (outcome other : Outcome) →
    AreLegal client (xs ++ record { at = first; what = fact.Finished op outcome } ∷ (ys ++ record { at = second; what = fact.Finished op other } ∷ [])) → ⊥
finished-once client xs ys first second op outcome other l =
    let no : eqb op op ≡ false = no-more-behind client xs ys first op outcome (record { at = second; what = fact.Finished op other }) l in
    let yes : eqb op op ≡ true = eq-eqb op op refl in
    absurd (let wrong : true ≡ false = sym yes ∙ no in cc)

-- ---- A command draws once

abbrev pub drawn : CommandState → Bool
drawn c = is_some c.number

look_by-drawn : (w : ClientState) (moment : ℕ) (h : LookedHow) (c : CommandState) → drawn (look_by w moment h c) ≡ drawn c
look_by-drawn w moment looked.NoneFits c = refl
look_by-drawn w moment (looked.Chosen x) c = refl
look_by-drawn w moment looked.Failed c = refl
look_by-drawn w moment (looked.Incompatible x) c = refl

Apart-drawn : Apart drawn
Apart-drawn = record { outs = λ c h. refl; dials = λ m n c. refl; asks = λ c m. refl; looks = look_by-drawn; ends = λ e c. refl; events = λ e c. refl }

drawn-same : (w : ClientState) (op : ℕ) (number : ℤ) (o : Option CommandState) → option_map drawn o ≡ Some true →
    option_map drawn (option_map (λ (c : CommandState). record c { number = Some number }) o) ≡ Some true
drawn-same w op number None h = absurd (cc)
drawn-same w op number (Some c) h = refl

drawn-keeps : (client : Client) (moment : ℕ) (w : ClientState) (f : Fact) (op : ℕ) → read drawn w.commands op ≡ Some true →
    read drawn (client_after client moment w f).commands op ≡ Some true
drawn-keeps client moment w (fact.Leased k place lsid fresh) op h = kept drawn w.commands k op (λ c. record c { session = Some place }) (λ c. refl) ∙ h
drawn-keeps client moment w (fact.Drew k number) op h = elim (eqb_tells k op) [
  | inl x ↦
      let at : read drawn w.commands k ≡ Some true = subst (λ n. read drawn w.commands n ≡ Some true) (sym x.1) h in
      subst (λ n. read drawn (changed w.commands k (λ c. record c { number = Some number })) n ≡ Some true) x.1
      (ap (λ o. option_map drawn o) (changed-same w.commands k (λ c. record c { number = Some number })) ∙ drawn-same w k number (slice_get w.commands k) at)
  | inr x ↦ ap (λ o. option_map drawn o) (changed-other w.commands k op (λ c. record c { number = Some number }) x.1) ∙ h
]
drawn-keeps client moment w (fact.Returned k dirty ks) op h = kept drawn w.commands k op (λ c. record c { session = None }) (λ c. refl) ∙ h
drawn-keeps client moment w (fact.Finished k outcome) op h = kept drawn w.commands k op finished (λ c. refl) ∙ h
drawn-keeps client moment w f op h = plain-kept drawn Apart-drawn client moment w f op refl ∙ h

drawn-begins : (client : Client) (p : Point) (moment op : ℕ) (number : ℤ) → MayStand client p moment (fact.Drew op number) →
    read drawn (client_after client moment p.state (fact.Drew op number)).commands op ≡ Some true
drawn-begins client p moment op number m =
    ap (λ o. option_map drawn o) (changed-same p.state.commands op (λ c. record c { number = Some number })
    ∙ ap (λ o. option_map (λ (c : CommandState). record c { number = Some number }) o) m.there)

not-again : (p : Point) (moment op : ℕ) (number : ℤ) (client : Client) → read drawn p.state.commands op ≡ Some true → MayStand client p moment (fact.Drew op number) → ⊥
not-again p moment op number client h m =
    let at : Some (drawn m.running) ≡ Some true = sym (ap (λ o. option_map drawn o) m.there) ∙ h in
    let has : drawn m.running ≡ true = cc in
    shut m.running.op.drew (drawn m.running) has m.needs where
      shut : (a b : Bool) → b ≡ true → (a && not b) ≡ true → ⊥
      shut true true e n = absurd (cc)
      shut true false e n = absurd (cc)
      shut false b e n = absurd (cc)

drawn-from : (client : Client) (p : Point) (ys : List (Timed Fact)) (moment op : ℕ) (number : ℤ) → read drawn p.state.commands op ≡ Some true →
    Legal (StandsAt client) (point_after client) p (ys ++ record { at = moment; what = fact.Drew op number } ∷ []) → ⊥
drawn-from client p [] moment op number h l = not-again p moment op number client h l.0.rule
drawn-from client p (y ∷ ys) moment op number h l =
    drawn-from client (point_after client p y) ys moment op number (drawn-keeps client y.at p.state y.what op h) l.1

pub draws-once : (client : Client) (xs ys : List (Timed Fact)) (op first second : ℕ) (m n : ℤ) →
    AreLegal client (xs ++ record { at = first; what = fact.Drew op m } ∷ (ys ++ record { at = second; what = fact.Drew op n } ∷ [])) → ⊥
draws-once client xs ys op first second m n l =
    let e : Timed Fact = record { at = first; what = fact.Drew op m } in
    let t : Timed Fact = record { at = second; what = fact.Drew op n } in
    let p = point_behind client xs in
    let k = Legal-rest (StandsAt client) (point_after client) (beginning client) xs (e ∷ (ys ++ t ∷ [])) l in
    drawn-from client (point_after client p e) ys second op n (drawn-begins client p first op m k.0.rule) k.1
