-- A command without a number asks once.
use Rattle.std.proofs.Common.{◌≡◌, ◌≤◌, ◌⊎◌, inl, inr, ℕ, zero, suc, ◌+◌, ℤ, Bool, true, false, not, ◌&&◌, cond, eqb, List, [], ◌∷◌, ◌++◌, Option, None, Some, refl, sym, ap, ◌∙◌, subst, arith}
use Rattle.std.specs.Prelude.{fold, is_some, slice_get}
use Rattle.std.specs.Option.{option_map_or}
use Rattle.std.proofs.lemmas.Bool.{eq-eqb, eqb-true}
use Rattle.std.proofs.lemmas.List.{append_assoc}
use Rattle.entry_judge.specs.declared.timed.Timed.{Timed}
use Rattle.cmd_build.specs.declared.command.Command.{Command}
use Rattle.write_retry.specs.Histories.{one_if}
use Rattle.write_retry.specs.Machine.{Op, after}
use Rattle.write_retry.specs.declared.events.Next.{Next}
use Rattle.write_retry.specs.declared.events.Next.TheVariants as next
use Rattle.write_retry.specs.declared.events.OpEvent.TheVariants as event
use Rattle.desk_trail.specs.declared.request.Purpose.{Purpose}
use Rattle.desk_trail.specs.declared.request.Purpose.TheVariants as purpose
use Rattle.desk_trail.specs.declared.request.Request.{Request}
use Rattle.desk_trail.specs.Attempts.{CommandAllows, asked_event, with_event}
use Rattle.desk_trail.specs.Clients.{Client}
use Rattle.desk_trail.specs.Facts.{Fact}
use Rattle.desk_trail.specs.Facts as fact
use Rattle.desk_trail.specs.Legal.{AreLegal, beginning, point_behind}
use Rattle.desk_trail.specs.Orders.{asks_for}
use Rattle.desk_trail.specs.States.{ClientState, CommandState, fresh_command}
use Rattle.desk_trail.specs.Streams.{Told, account, no_account, with_fact}
use Rattle.request_keys.specs.Requests.{last_of, requests_in, requests_on}
use Rattle.request_keys.proofs.ChangeLemmas.{change_of, change_to, event_to, moves}
use Rattle.request_keys.proofs.DrawnLemmas.{fresh-get}
use Rattle.request_keys.proofs.ListLemmas.{Between}
use Rattle.request_keys.proofs.MachineLemmas.{Shut, is_over, is_sent, lacks, sends, shut-event, shut-sent}
use Rattle.request_keys.proofs.StepLemmas.{IsReady, at-cond, change-op, moves-holds, moves-op, ready-step, same-command}
use Rattle.request_keys.proofs.StreamLemmas.{Comes, answered_in, asked_in, told-fact}
use Rattle.request_keys.proofs.TrailLemmas.{Further, along, further, was}

-- ---- A command is ready

ready-begins : (c : CommandState) → (x : Command) × (c ≡ fresh_command x) → IsReady c
ready-begins c (x, is) = subst IsReady (sym is) (record { idle = λ a b. refl; out = λ a. absurd (cc); sent = λ a. absurd (cc) })

pub ready-behind : (client : Client) (op : ℕ) (ts : List (Timed Fact)) → AreLegal client ts → (c : CommandState) → slice_get (point_behind client ts).state.commands op ≡ Some c → IsReady c
ready-behind client op ts l =
    along client (λ xs. (c : CommandState) → slice_get (point_behind client xs).state.commands op ≡ Some c → IsReady c)
    (λ xs t f h d there.
    let b = was client xs t op d f there in
    subst IsReady (sym b.is) (ready-step client (point_behind client xs) t op b.command f.stands b.there (h b.command b.there)))
    [] ts l (λ c there. ready-begins c (fresh-get client.commands op c there))

-- ---- Where a request of a command was asked

abbrev pub asks : ℕ → ℕ → Request → Timed Fact
asks moment place r = record { at = moment; what = fact.Asked place r }

pub record Asking (facts : List (Timed Fact)) (op : ℕ) : Type 0 where
  pub front : List (Timed Fact)
  pub moment : ℕ
  pub place : ℕ
  pub request : Request
  pub behind : List (Timed Fact)
  pub split : facts ≡ front ++ asks moment place request ∷ behind
  pub is_for : request.purpose ≡ purpose.Command op

-- the command there is to send
pub record Sending (client : Client) (xs : List (Timed Fact)) (op : ℕ) : Type 0 where
  pub command : CommandState
  pub there : slice_get (point_behind client xs).state.commands op ≡ Some command
  pub next : command.op.next ≡ next.Send
  pub equipped : lacks command.op command.number ≡ false

pub sending : (client : Client) (op : ℕ) (xs : List (Timed Fact)) (moment place : ℕ) (r : Request) → Further client xs (asks moment place r) → r.purpose ≡ purpose.Command op → Sending client xs op
sending client op xs moment place r f is =
    let w = (point_behind client xs).state in
    let a : CommandAllows w (Some (op, event.Sent)) = subst (λ u. CommandAllows w (asked_event u)) is f.stands.command in
    let n = sends a.0.op.next a.2 in
    record {
      command = a.0;
      there = a.1;
      next = n;
      equipped = (ready-behind client op xs f.front a.0 a.1).sent (ap (λ x. is_sent x) n);
    }

-- ---- Behind a request without a number there is none

undrawn : (o : Op) → lacks o None ≡ false → o.drew ≡ false
undrawn o h = by o.drew h
  where
    by : (b : Bool) → (b && not false) ≡ false → b ≡ false
    by true x = absurd (cc)
    by false x = refl

sent-moves : (op : ℕ) (u : Purpose) (x : CommandState) → u ≡ purpose.Command op → (event_to op (asked_event u) x).op ≡ after x.op event.Sent
sent-moves op u x e =
    subst (λ v. (event_to op (asked_event v) x).op ≡ after x.op event.Sent) (sym e)
    (subst (λ (b : Bool). (cond b (with_event event.Sent x) x).op ≡ after x.op event.Sent) (sym (eq-eqb op op refl)) refl)

abbrev IsShut : Client → ℕ → List (Timed Fact) → Type 0
IsShut client op xs = (c : CommandState) → slice_get (point_behind client xs).state.commands op ≡ Some c → Shut c.op

shut-begins : (client : Client) (op : ℕ) (xs : List (Timed Fact)) (moment place : ℕ) (r : Request) → Further client xs (asks moment place r) → r.purpose ≡ purpose.Command op →
    (s : Sending client xs op) → s.command.number ≡ None → IsShut client op (xs ++ asks moment place r ∷ [])
shut-begins client op xs moment place r f is s none d there =
    let w = (point_behind client xs).state in
    let t = asks moment place r in
    let b = was client xs t op d f there in
    let one : b.command ≡ s.command = same-command w.commands op b.command s.command b.there s.there in
    let x = change_to op (change_of moment w t.what) b.command in
    let now : d.op ≡ after s.command.op event.Sent =
    ap (λ (y : CommandState). y.op) b.is ∙ sent-moves op r.purpose x is ∙ ap (λ o. after o event.Sent) (change-op op moment w t.what b.command ∙ ap (λ (y : CommandState). y.op) one) in
    subst Shut (sym now) (shut-sent s.command.op (undrawn s.command.op (subst (λ n. lacks s.command.op n ≡ false) none s.equipped)))

shut-step : (client : Client) (op : ℕ) (xs : List (Timed Fact)) (t : Timed Fact) → Further client xs t → IsShut client op xs → IsShut client op (xs ++ t ∷ [])
shut-step client op xs t f h d there =
    let b = was client xs t op d f there in
    subst (λ (y : CommandState). Shut y.op) (sym b.is) (elim (moves-op client t.at (point_behind client xs).state t.what op b.command b.there f.stands.command) [
      | inl same ↦ subst Shut (sym same) (h b.command b.there)
      | inr m ↦ subst Shut (sym m.is) (shut-event b.command.op m.event m.allowed (h b.command b.there))
    ])

-- ---- A number stays

abbrev IsNumbered : Client → ℕ → List (Timed Fact) → Type 0
IsNumbered client op xs = (c : CommandState) → slice_get (point_behind client xs).state.commands op ≡ Some c → is_some c.number ≡ true

numbered-cond : (b : Bool) (number : ℤ) (c : CommandState) → is_some c.number ≡ true → is_some (cond b (record c { number = Some number }) c).number ≡ true
numbered-cond true number c h = refl
numbered-cond false number c h = h

numbered-moves : (client : Client) (moment : ℕ) (w : ClientState) (f : Fact) (op : ℕ) (c : CommandState) → is_some c.number ≡ true → is_some (moves client moment w f op c).number ≡ true
numbered-moves client moment w (fact.Drew k number) op c h = numbered-cond (eqb k op) number c h
numbered-moves client moment w (fact.Leased k place lsid fresh) op c h = at-cond (λ (d : CommandState). is_some d.number) (eqb k op) (λ d. record d { session = Some place }) c (λ d. refl) ∙ h
numbered-moves client moment w (fact.Returned k dirty kept) op c h = at-cond (λ (d : CommandState). is_some d.number) (eqb k op) (λ d. record d { session = None }) c (λ d. refl) ∙ h
numbered-moves client moment w f op c h = ap (λ (p : Option ℕ × Option ℤ). is_some p.1) (moves-holds client moment w f op c refl) ∙ h

numbered-step : (client : Client) (op : ℕ) (xs : List (Timed Fact)) (t : Timed Fact) → Further client xs t → IsNumbered client op xs → IsNumbered client op (xs ++ t ∷ [])
numbered-step client op xs t f h d there =
    let b = was client xs t op d f there in
    ap (λ (y : CommandState). is_some y.number) b.is ∙ numbered-moves client t.at (point_behind client xs).state t.what op b.command (h b.command b.there)

-- ---- Two requests of a command

pub record Numbers (client : Client) (xs ys : List (Timed Fact)) (op : ℕ) : Type 0 where
  pub first : (c : CommandState) → slice_get (point_behind client xs).state.commands op ≡ Some c → is_some c.number ≡ true
  pub second : (c : CommandState) → slice_get (point_behind client ys).state.commands op ≡ Some c → is_some c.number ≡ true

send-open : (n : Next) → n ≡ next.Send → is_over n ≡ true → ⊥
send-open n e h = let wrong : false ≡ true = sym (ap is_over e) ∙ h in absurd (cc)

pub two-askings : (client : Client) (op : ℕ) (facts : List (Timed Fact)) → AreLegal client facts → (a b : Asking facts op) → Between a.front (asks a.moment a.place a.request) b.front →
    Numbers client a.front b.front op
two-askings client op facts l a b between =
    let t = asks a.moment a.place a.request in
    let f = further client a.front t a.behind (subst (AreLegal client) a.split l) in
    let s = sending client op a.front a.moment a.place a.request f a.is_for in
    let g = further client b.front (asks b.moment b.place b.request) b.behind (subst (AreLegal client) b.split l) in
    let u = sending client op b.front b.moment b.place b.request g b.is_for in
    let more : (a.front ++ t ∷ []) ++ between.mid ≡ b.front = append_assoc a.front (t ∷ []) between.mid ∙ sym between.is in
    let legal : AreLegal client ((a.front ++ t ∷ []) ++ between.mid) = subst (AreLegal client) (sym more) g.front in
    let has : is_some s.command.number ≡ true = by s f u more legal s.command.number refl in
    let first : IsNumbered client op a.front = λ c there. ap (λ (y : CommandState). is_some y.number) (same-command (point_behind client a.front).state.commands op c s.command there s.there) ∙ has in
    record {
      first = first;
      second = subst (IsNumbered client op) more (along client (IsNumbered client op) (numbered-step client op) (a.front ++ t ∷ []) between.mid legal (numbered-step client op a.front t f first));
    }
  where
    by : (s : Sending client a.front op) → Further client a.front (asks a.moment a.place a.request) → (u : Sending client b.front op) →
        (a.front ++ asks a.moment a.place a.request ∷ []) ++ between.mid ≡ b.front → AreLegal client ((a.front ++ asks a.moment a.place a.request ∷ []) ++ between.mid) →
        (o : Option ℤ) → s.command.number ≡ o → is_some s.command.number ≡ true
    by s f u more legal (Some n) e = ap is_some e
    by s f u more legal None e =
        let t = asks a.moment a.place a.request in
        let shut = subst (IsShut client op) more
        (along client (IsShut client op) (shut-step client op) (a.front ++ t ∷ []) between.mid legal (shut-begins client op a.front a.moment a.place a.request f a.is_for s e)) in
        absurd (send-open u.command.op.next u.next (shut u.command u.there).over)

-- ---- How many requests of a command stand on a stream

abbrev pub counted : (Request → Bool) → List Request → ℕ
counted p [] = 0
counted p (r ∷ rs) = one_if (p r) + counted p rs

abbrev pub counted_in : (Request → Bool) → List (Timed Fact) → ℕ
counted_in p [] = 0
counted_in p (t ∷ ts) = one_if (option_map_or p (asked_in t.what) false) + counted_in p ts

counted-more : (p : Request → Bool) (xs ys : List Request) → counted p (xs ++ ys) ≡ counted p xs + counted p ys
counted-more p [] ys = omega arith
counted-more p (x ∷ xs) ys = omega (arith, counted-more p xs ys)

counted-told : (p : Request → Bool) (client : Client) (stream : ℕ) (s : Told) (ts : List (Timed Fact)) →
    counted p (requests_in (fold (with_fact client stream) s ts).account) ≤ counted p (requests_in s.account) + counted_in p ts
counted-told p client stream s [] = omega arith
counted-told p client stream s (t ∷ ts) =
    let n = with_fact client stream s t in
    let rest = counted-told p client stream n ts in
    let here = now (told-fact client stream s t) in
    omega (arith, rest, here)
  where
    now : (requests_in (with_fact client stream s t).account ≡ requests_in s.account) ⊎ Comes stream s.account (requests_in (with_fact client stream s t).account) (asked_in t.what) →
        counted p (requests_in (with_fact client stream s t).account) ≤ counted p (requests_in s.account) + one_if (option_map_or p (asked_in t.what) false)
    now (inl same) = rw same (omega arith)
    now (inr c) =
        let more = ap (counted p) c.now ∙ counted-more p (answered_in s.account) (c.request ∷ []) in
        let old = counted-more p (answered_in s.account) (last_of s.account.last) in
        let asked : one_if (option_map_or p (asked_in t.what) false) ≡ one_if (p c.request) = ap (λ o. one_if (option_map_or p o false)) c.asks in
        omega (arith, more, old, asked)

pub counted-on : (p : Request → Bool) (client : Client) (facts : List (Timed Fact)) (stream : ℕ) → counted p (requests_on client facts stream) ≤ counted_in p facts
unfolding account
counted-on p client facts stream =
    let h : counted p (requests_on client facts stream) ≤ 0 + counted_in p facts = counted-told p client stream (record { point = beginning client; account = no_account }) facts in
    omega (arith, h)

one-counted : (p : Request → Bool) (xs : List Request) (n : ℕ) (r : Request) → slice_get xs n ≡ Some r → p r ≡ true → 1 ≤ counted p xs
one-counted p [] n r e h = absurd (cc)
one-counted p (x ∷ xs) zero r e h = let one : x ≡ r = (cc) in let is : one_if (p x) ≡ 1 = ap one_if (ap p one ∙ h) in omega (arith, is)
one-counted p (x ∷ xs) (suc n) r e h = omega (arith, one-counted p xs n r e h)

pub two-counted : (p : Request → Bool) (xs : List Request) (n m : ℕ) (r q : Request) → slice_get xs n ≡ Some r → slice_get xs m ≡ Some q → p r ≡ true → p q ≡ true → counted p xs ≤ 1 → n ≡ m
two-counted p [] n m r q e f h k le = absurd (cc)
two-counted p (x ∷ xs) zero zero r q e f h k le = refl
two-counted p (x ∷ xs) zero (suc m) r q e f h k le =
    let one : x ≡ r = (cc) in let is : one_if (p x) ≡ 1 = ap one_if (ap p one ∙ h) in absurd (omega (arith, is, one-counted p xs m q f k))
two-counted p (x ∷ xs) (suc n) zero r q e f h k le =
    let one : x ≡ q = (cc) in let is : one_if (p x) ≡ 1 = ap one_if (ap p one ∙ k) in absurd (omega (arith, is, one-counted p xs n r e h))
two-counted p (x ∷ xs) (suc n) (suc m) r q e f h k le = ap suc (two-counted p xs n m r q e f h k (omega (arith, le)))

-- two of a trail stand one behind another
abbrev pub is_one : ℕ → Request → Bool
is_one op r = asks_for op r.purpose

asks-for : (op : ℕ) (u : Purpose) → asks_for op u ≡ true → u ≡ purpose.Command op
asks-for op (purpose.Command k) h = ap (λ n. purpose.Command n) (eqb-true k op h)
asks-for op (purpose.Check host) h = absurd (cc)
asks-for op (purpose.Greeting host conn) h = absurd (cc)
asks-for op purpose.Farewell h = absurd (cc)

here : (op : ℕ) (t : Timed Fact) (ts : List (Timed Fact)) (f : Fact) → t.what ≡ f → option_map_or (is_one op) (asked_in f) false ≡ true → Asking (t ∷ ts) op
here op t ts (fact.Asked place r) e h = record {
  front = [];
  moment = t.at;
  place = place;
  request = r;
  behind = ts;
  split = ap (λ (x : Fact). record { at = t.at; what = x } ∷ ts) e;
  is_for = asks-for op r.purpose h;
}
here op t ts f e h = absurd (cc)

abbrev pub past : (op : ℕ) (t : Timed Fact) (ts : List (Timed Fact)) → Asking ts op → Asking (t ∷ ts) op
past op t ts a = record {
  front = t ∷ a.front;
  moment = a.moment;
  place = a.place;
  request = a.request;
  behind = a.behind;
  split = ap (λ xs. t ∷ xs) a.split;
  is_for = a.is_for;
}

one-asking : (op : ℕ) (ts : List (Timed Fact)) → 1 ≤ counted_in (is_one op) ts → Asking ts op
one-asking op [] le = absurd (omega arith)
one-asking op (t ∷ ts) le = by (option_map_or (is_one op) (asked_in t.what) false) refl (λ k. one-asking op ts k)
  where
    by : (b : Bool) → option_map_or (is_one op) (asked_in t.what) false ≡ b → (1 ≤ counted_in (is_one op) ts → Asking ts op) → Asking (t ∷ ts) op
    by true e rest = here op t ts t.what refl e
    by false e rest = let none : one_if (option_map_or (is_one op) (asked_in t.what) false) ≡ 0 = ap one_if e in past op t ts (rest (omega (arith, le, none)))

pub record Two (facts : List (Timed Fact)) (op : ℕ) : Type 0 where
  pub first : Asking facts op
  pub second : Asking facts op
  pub between : Between first.front (asks first.moment first.place first.request) second.front

two-here : (op : ℕ) (t : Timed Fact) (ts : List (Timed Fact)) (f : Fact) → t.what ≡ f → option_map_or (is_one op) (asked_in f) false ≡ true → Asking ts op → Two (t ∷ ts) op
two-here op t ts (fact.Asked place r) e h a = record {
  first = record {
    front = [];
    moment = t.at;
    place = place;
    request = r;
    behind = ts;
    split = ap (λ (x : Fact). record { at = t.at; what = x } ∷ ts) e;
    is_for = asks-for op r.purpose h;
  };
  second = past op t ts a;
  between = record { mid = a.front; is = ap (λ (x : Fact). record { at = t.at; what = x } ∷ a.front) e };
}
two-here op t ts f e h a = absurd (cc)

pub two-of : (op : ℕ) (ts : List (Timed Fact)) → 2 ≤ counted_in (is_one op) ts → Two ts op
two-of op [] le = absurd (omega arith)
two-of op (t ∷ ts) le = by (option_map_or (is_one op) (asked_in t.what) false) refl (λ k. two-of op ts k)
  where
    by : (b : Bool) → option_map_or (is_one op) (asked_in t.what) false ≡ b → (2 ≤ counted_in (is_one op) ts → Two ts op) → Two (t ∷ ts) op
    by true e rest =
        let some : one_if (option_map_or (is_one op) (asked_in t.what) false) ≡ 1 = ap one_if e in
        two-here op t ts t.what refl e (one-asking op ts (omega (arith, le, some)))
    by false e rest =
        let none : one_if (option_map_or (is_one op) (asked_in t.what) false) ≡ 0 = ap one_if e in
        let w = rest (omega (arith, le, none)) in
        record {
          first = past op t ts w.first;
          second = past op t ts w.second;
          between = record { mid = w.between.mid; is = ap (λ xs. t ∷ xs) w.between.is };
        }
