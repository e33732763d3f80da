-- An index has the commands of the requests that a trail's entries say were asked; and counts by it are the effects.
use Rattle.std.proofs.Common.{◌≡◌, ◌≤◌, ◌<◌, ◌^◌, inl, inr, ℕ, zero, suc, ◌+◌, Bool, true, false, cond, List, [], ◌∷◌, ◌++◌, get_or, length, map, take, Option, None, Some, refl, sym, ap, ◌∙◌, subst, arith}
use Rattle.std.specs.Prelude.{◌==◌, ◌≢◌, filter, filter_map, slice_get}
use Rattle.std.specs.List.{cons_option}
use Rattle.std.specs.Prelude.{Result, Ok, Err, OnOk}
use Rattle.std.specs.Option.{option_and_then, option_map, option_map_or}
use Rattle.std.proofs.lemmas.Bool.Decides.{eqb_tells}
use Rattle.std.proofs.lemmas.List.{append-nil, map-append, take_more}
use Rattle.std.proofs.lemmas.List.Elements.{filter-append, filter_agree, filter_map-append}
use Rattle.std.proofs.lemmas.Option.{slice_get-map}
use Rattle.entry_judge.specs.declared.timed.Timed.{Timed}
use Rattle.cmd_build.specs.declared.command.Command.{Command}
use Rattle.member_core.specs.declared.log.LogEntry.{LogEntry}
use Rattle.desk_trail.specs.declared.entry.Entry.{Entry}
use Rattle.desk_trail.specs.declared.entry.Entry.TheVariants as entry
use Rattle.desk_trail.specs.declared.request.Purpose.{Purpose}
use Rattle.desk_trail.specs.declared.request.Purpose.TheVariants as purpose
use Rattle.desk_trail.specs.declared.request.Request.{Request}
use Rattle.desk_trail.specs.declared.step.Step.{Step}
use Rattle.desk_trail.specs.Clients.{Client}
use Rattle.desk_trail.specs.Facts.{Fact, Lists, fact_of, facts_of}
use Rattle.desk_trail.specs.Legal.{AreLegal}
use Rattle.desk_trail.specs.Orders.{asks_for}
use Rattle.request_keys.specs.Requests.{requests_on}
use Rattle.write_effects.specs.Effects.{effects, names}
use Rattle.effect_count.specs.Counts.{ByStream, IsIndexOf, asked_in, asked_on, asks_at, effects_by, effects_from, op_of, row_of}
use Rattle.effect_count.specs.Inside.{AreCounts, CountsOne, HasRequests, asked_by, command_at, counted, is_command, requests_by, with_asked}

-- ---- The requests that entries say were asked

-- by its place, or by what stands there
asked-map : {A : Type 0} (mk : A → Fact) (o : Option A) → ((x : A) → asked_in (mk x) ≡ None) → option_and_then asked_in (option_map mk o) ≡ None
asked-map mk None h = refl
asked-map mk (Some x) h = h x

asked-same : (o : Option Request) (mk : Request → Fact) → ((r : Request) → asked_in (mk r) ≡ Some r) → option_and_then asked_in (option_map mk o) ≡ o
asked-same None mk h = refl
asked-same (Some r) mk h = h r

asked-entry : (l : Lists) (e : Entry) → option_and_then asked_in (fact_of l e) ≡ asked_by l.requests e
asked-entry l (entry.Asked request) = asked-same (slice_get l.requests request) _ (λ r. refl)
asked-entry l (entry.Named host) = asked-map _ (slice_get l.names host) (λ x. refl)
asked-entry l (entry.Offered event taken) = asked-map _ (slice_get l.events event) (λ x. refl)
asked-entry l (entry.Leased op session fresh) = asked-map _ (slice_get l.sessions session) (λ x. refl)
asked-entry l e = refl

abbrev told : List (Timed Fact) → List Request
told ts = filter_map (λ (t : Timed Fact). asked_in t.what) ts

asked-first : (o : Option Fact) (moment : ℕ) (rest : List (Timed Fact)) →
    told (cons_option (option_map (λ (f : Fact). record { at = moment; what = f }) o) rest) ≡ cons_option (option_and_then asked_in o) (told rest)
asked-first None moment rest = refl
asked-first (Some f) moment rest = refl

asked-steps : (l : Lists) (steps : List Step) → told (facts_of l steps) ≡ requests_by l.requests steps
asked-steps l [] = refl
asked-steps l (s ∷ ss) =
    asked-first (fact_of l s.entry) s.moment (facts_of l ss) ∙ ap (λ o. cons_option o (told (facts_of l ss))) (asked-entry l s.entry)
    ∙ ap (cons_option (asked_by l.requests s.entry)) (asked-steps l ss)

pub index-of : (index : ByStream) (l : Lists) (steps : List Step) → HasRequests index (requests_by l.requests steps) → IsIndexOf index (facts_of l steps)
index-of index l steps h stream =
    h stream ∙ ap (λ (rs : List Request). map (λ (r : Request). op_of r.purpose) (filter (λ (r : Request). r.stream == stream) rs)) (sym (asked-steps l steps))

-- ---- Entry by entry

one-more : (xs : List Request) (o : Option Request) → xs ++ cons_option o [] ≡ with_asked xs o
one-more xs None = append-nil xs
one-more xs (Some r) = refl

pub requests-more : (requests : List Request) (xs : List Step) (s : Step) → requests_by requests (xs ++ s ∷ []) ≡ with_asked (requests_by requests xs) (asked_by requests s.entry)
requests-more requests xs s =
    filter_map-append (λ (x : Step). asked_by requests x.entry) xs (s ∷ []) ∙ one-more (requests_by requests xs) (asked_by requests s.entry)

-- of two things that a result's success says
pub both-ok : {T E P Q R : Type 0} (r : Result T E) → (P → Q → R) → OnOk r P → OnOk r Q → OnOk r R
both-ok (Ok x) f p q = f p q
both-ok (Err e) f p q = tt

-- no request more
pub has-same : (index : ByStream) (before : List Request) (o : Option Request) → o ≡ None → HasRequests index before → HasRequests index (with_asked before o)
has-same index before o e h = subst (λ x. HasRequests index (with_asked before x)) (sym e) h

abbrev ops_on : ℕ → List Request → List (Option ℕ)
ops_on stream rs = map (λ (r : Request). op_of r.purpose) (filter (λ (r : Request). r.stream == stream) rs)

ops-more : (stream : ℕ) (before : List Request) (r : Request) → ops_on stream (before ++ r ∷ []) ≡ ops_on stream before ++ ops_on stream (r ∷ [])
ops-more stream before r =
    ap (map (λ (x : Request). op_of x.purpose)) (filter-append (λ (x : Request). x.stream == stream) before (r ∷ []))
    ∙ map-append (λ (x : Request). op_of x.purpose) (filter (λ (x : Request). x.stream == stream) before) (filter (λ (x : Request). x.stream == stream) (r ∷ []))

ops-own : (stream : ℕ) (r : Request) → (r.stream == stream) ≡ true → ops_on stream (r ∷ []) ≡ op_of r.purpose ∷ []
ops-own stream r e = ap (λ (b : Bool). map (λ (x : Request). op_of x.purpose) (cond b (r ∷ []) [])) e

ops-other : (stream : ℕ) (r : Request) → (r.stream == stream) ≡ false → ops_on stream (r ∷ []) ≡ []
ops-other stream r e = ap (λ (b : Bool). map (λ (x : Request). op_of x.purpose) (cond b (r ∷ []) [])) e

-- one more
pub has-more : (old new : ByStream) (before : List Request) (r : Request) (o : Option Request) → o ≡ Some r → row_of new r.stream ≡ row_of old r.stream ++ op_of r.purpose ∷ [] →
    ((other : ℕ) → other ≢ r.stream → row_of new other ≡ row_of old other) → HasRequests old before → HasRequests new (with_asked before o)
has-more old new before r o e own others h stream =
    subst (λ x. row_of new stream ≡ ops_on stream (with_asked before x)) (sym e) (elim (eqb_tells r.stream stream) [
      | inl w ↦
          subst (λ n. row_of new n ≡ row_of old n ++ op_of r.purpose ∷ []) w.1 own
          ∙ ap (λ xs. xs ++ op_of r.purpose ∷ []) (h stream) ∙ ap (λ xs. ops_on stream before ++ xs) (sym (ops-own stream r w.0)) ∙ sym (ops-more stream before r)
      | inr w ↦
          others stream (λ same. w.1 (sym same))
          ∙ h stream ∙ sym (append-nil (ops_on stream before)) ∙ ap (λ xs. ops_on stream before ++ xs) (sym (ops-other stream r w.0)) ∙ sym (ops-more stream before r)
    ])

-- ---- Counts

filter-most : (q : LogEntry → Bool) (xs : List LogEntry) → length (filter q xs) ≤ length xs
filter-most q [] = omega arith
filter-most q (x ∷ xs) = by (q x) (filter-most q xs)
  where
    by : (b : Bool) → length (filter q xs) ≤ length xs → length (cond b (x ∷ filter q xs) (filter q xs)) ≤ length (x ∷ xs)
    by true h = omega (arith, h)
    by false h = omega (arith, h)

pub counted-most : (index : ByStream) (op : ℕ) (log : List LogEntry) → counted index op log ≤ length log
counted-most index op log = filter-most (λ (e : LogEntry). is_command op (command_at index e.stream e.nth)) log

abbrev one_if : Bool → ℕ
one_if b = cond b 1 0

counted-more : (index : ByStream) (op : ℕ) (xs : List LogEntry) (e : LogEntry) →
    counted index op (xs ++ e ∷ []) ≡ counted index op xs + one_if (is_command op (command_at index e.stream e.nth))
counted-more index op xs e = by xs
  where
    q : LogEntry → Bool
    q x = is_command op (command_at index x.stream x.nth)

    last : (b : Bool) → length (cond b (e ∷ []) []) ≡ one_if b
    last true = refl
    last false = refl

    first : (b : Bool) (x : LogEntry) (ys zs : List LogEntry) (n : ℕ) → length zs ≡ length ys + n → length (cond b (x ∷ zs) zs) ≡ length (cond b (x ∷ ys) ys) + n
    first true x ys zs n h = omega (arith, h)
    first false x ys zs n h = h

    by : (ys : List LogEntry) → length (filter q (ys ++ e ∷ [])) ≡ length (filter q ys) + one_if (q e)
    by [] = let h = last (q e) in omega (arith, h)
    by (y ∷ ys) = first (q y) y (filter q ys) (filter q (ys ++ e ∷ [])) (one_if (q e)) (by ys)

-- an entry that names no command
pub counts-same : (index : ByStream) (xs : List LogEntry) (e : LogEntry) (old new : List ℕ) → command_at index e.stream e.nth ≡ None → new ≡ old →
    AreCounts index xs old → AreCounts index (xs ++ e ∷ []) new
counts-same index xs e old new none same h op n there =
    let was = h op n (ap (λ ns. slice_get ns op) (sym same) ∙ there) in
    let more = counted-more index op xs e in
    let few : one_if (is_command op (command_at index e.stream e.nth)) ≡ 0 = ap (λ o. one_if (is_command op o)) none in
    omega (arith, was, more, few)

-- one that names one
pub counts-one : (index : ByStream) (xs : List LogEntry) (e : LogEntry) (k : ℕ) (old new : List ℕ) → command_at index e.stream e.nth ≡ Some k → CountsOne k old new →
    AreCounts index xs old → AreCounts index (xs ++ e ∷ []) new
counts-one index xs e k old new is one h op n there = elim (eqb_tells k op) [
  | inl w ↦
      let now : slice_get new op ≡ option_map (λ (m : ℕ). m + 1) (slice_get old op) = subst (λ x. slice_get new x ≡ option_map (λ (m : ℕ). m + 1) (slice_get old x)) w.1 one.there in
      risen (slice_get old op) refl (sym now ∙ there) (ap (λ o. one_if (is_command op o)) is ∙ ap one_if w.0)
  | inr w ↦
      let was = h op n (sym (one.others op (λ same. w.1 (sym same))) ∙ there) in
      let more = counted-more index op xs e in
      let few : one_if (is_command op (command_at index e.stream e.nth)) ≡ 0 = ap (λ o. one_if (is_command op o)) is ∙ ap one_if w.0 in
      omega (arith, was, more, few)
] where
  risen : (o : Option ℕ) → slice_get old op ≡ o → option_map (λ (m : ℕ). m + 1) o ≡ Some n → one_if (is_command op (command_at index e.stream e.nth)) ≡ one_if true →
      n ≡ counted index op (xs ++ e ∷ [])
  risen None at up here = absurd (cc)
  risen (Some m) at up here =
      let same : m + 1 ≡ n = (cc) in
      let was = h op m at in
      let more = counted-more index op xs e in
      omega (arith, same, was, more, here)

-- whichever it is
pub counts-next : (index : ByStream) (log : List LogEntry) (i : ℕ) (d : LogEntry) (old new : List ℕ) → i < length log →
    (command_at index (get_or log i d).stream (get_or log i d).nth ≡ None → new ≡ old) →
    ((op : ℕ) → command_at index (get_or log i d).stream (get_or log i d).nth ≡ Some op → CountsOne op old new) →
    AreCounts index (take i log) old → (length new ≡ length old) × AreCounts index (take (i + 1) log) new
counts-next index log i d old new below none one h = by (command_at index (get_or log i d).stream (get_or log i d).nth) refl
  where
    front : take (i + 1) log ≡ take i log ++ get_or log i d ∷ []
    front = take_more log i d below

    by : (o : Option ℕ) → command_at index (get_or log i d).stream (get_or log i d).nth ≡ o → (length new ≡ length old) × AreCounts index (take (i + 1) log) new
    by None is = (
      ap (λ (ns : List ℕ). length ns) (none is),
      subst (λ (xs : List LogEntry). AreCounts index xs new) (sym front) (counts-same index (take i log) (get_or log i d) old new is (none is) h),
    )
    by (Some k) is = (
      (one k is).count,
      subst (λ (xs : List LogEntry). AreCounts index xs new) (sym front) (counts-one index (take i log) (get_or log i d) k old new is (one k is) h),
    )

-- there is room for one more
pub counts-room : (index : ByStream) (log : List LogEntry) (i : ℕ) (counts : List ℕ) → i < length log → length log < 2 ^ 64 → AreCounts index (take i log) counts →
    (k n : ℕ) → slice_get counts k ≡ Some n → n + 1 < 2 ^ 64
counts-room index log i counts below few h k n there =
    let is = h k n there in
    let most = counted-most index k (take i log) in
    let front = length-take i log in
    omega (arith, is, most, front, below, few)
  where
    length-take : (m : ℕ) (xs : List LogEntry) → length (take m xs) ≤ m
    length-take zero xs = omega arith
    length-take (suc m) [] = omega arith
    length-take (suc m) (x ∷ xs) = let rest = length-take m xs in omega (arith, rest)

-- ---- Effects

abbrev pub SameCommands : Type 0
SameCommands = (client : Client) (facts : List (Timed Fact)) (stream nth op : ℕ) → AreLegal client facts →
    asks_at (requests_on client facts stream) nth op ≡ asks_at (asked_on facts stream) nth op

asks-op : (op : ℕ) (p : Purpose) → asks_for op p ≡ is_command op (op_of p)
asks-op op (purpose.Command k) = refl
asks-op op (purpose.Check host) = refl
asks-op op (purpose.Greeting host conn) = refl
asks-op op purpose.Farewell = refl

asks-by : (op : ℕ) (o : Option Request) →
    option_map_or (λ (r : Request). asks_for op r.purpose) o false ≡ is_command op (option_and_then (λ (x : Option ℕ). x) (option_map (λ (r : Request). op_of r.purpose) o))
asks-by op None = refl
asks-by op (Some r) = asks-op op r.purpose

names-by : SameCommands → (client : Client) (facts : List (Timed Fact)) (index : ByStream) (op : ℕ) (e : LogEntry) → AreLegal client facts → IsIndexOf index facts →
    names client facts op e ≡ is_command op (command_at index e.stream e.nth)
names-by same client facts index op e l is =
    same client facts e.stream e.nth op l ∙ asks-by op (slice_get (asked_on facts e.stream) e.nth)
    ∙ ap (λ o. is_command op (option_and_then (λ (x : Option ℕ). x) o)) (sym (slice_get-map (λ (r : Request). op_of r.purpose) (asked_on facts e.stream) e.nth))
    ∙ ap (λ xs. is_command op (option_and_then (λ (x : Option ℕ). x) (slice_get xs e.nth))) (sym (is e.stream))

counted-effects : SameCommands → (client : Client) (facts : List (Timed Fact)) (index : ByStream) (op : ℕ) (log : List LogEntry) → AreLegal client facts → IsIndexOf index facts →
    counted index op log ≡ effects client facts op log
counted-effects same client facts index op log l is =
    ap (λ (xs : List LogEntry). length xs)
    (sym (filter_agree (names client facts op) (λ (e : LogEntry). is_command op (command_at index e.stream e.nth)) (λ e. names-by same client facts index op e l is) log))

from-counts : (client : Client) (facts : List (Timed Fact)) (log : List LogEntry) (op : ℕ) (cs : List Command) (ns : List ℕ) → length cs ≡ length ns →
    ((k n : ℕ) → slice_get ns k ≡ Some n → n ≡ effects client facts (op + k) log) → ns ≡ effects_from client facts log op cs
from-counts client facts log op [] [] count h = refl
from-counts client facts log op [] (n ∷ ns) count h = absurd (let never : ⊥ = omega (arith, count) in never)
from-counts client facts log op (c ∷ cs) [] count h = absurd (let never : ⊥ = omega (arith, count) in never)
from-counts client facts log op (c ∷ cs) (n ∷ ns) count h =
    let at : op + 0 ≡ op = omega arith in
    let first : n ≡ effects client facts op log = h zero n refl ∙ ap (λ k. effects client facts k log) at in
    let rest = from-counts client facts log (op + 1) cs ns (let same : length cs ≡ length ns = omega (arith, count) in same)
    (λ k m e. h (suc k) m e ∙ ap (λ x. effects client facts x log) (let on : op + suc k ≡ op + 1 + k = omega arith in on)) in
    ap (λ (x : ℕ). x ∷ ns) first ∙ ap (λ (xs : List ℕ). effects client facts op log ∷ xs) rest

pub are-effects : SameCommands → (client : Client) (facts : List (Timed Fact)) (index : ByStream) (log : List LogEntry) (counts : List ℕ) → AreLegal client facts → IsIndexOf index facts →
    length client.commands ≡ length counts → AreCounts index log counts → counts ≡ effects_by client facts log
are-effects same client facts index log counts l is count h =
    from-counts client facts log 0 client.commands counts count
    (λ k n e. h k n e ∙ counted-effects same client facts index k log l is ∙ ap (λ x. effects client facts x log) (let on : k ≡ 0 + k = omega arith in on))
