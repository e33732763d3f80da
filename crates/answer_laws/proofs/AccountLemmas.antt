-- What a trail says of a stream, behind more entries.
use Rattle.std.proofs.Common.{◌≡◌, inl, inr, ℕ, Bool, true, false, List, [], ◌∷◌, ◌++◌, Option, None, Some, length, refl, sym, ap, ◌∙◌, subst}
use Rattle.std.specs.Prelude.{◌==◌, fold, slice_get, if◌then◌else◌}
use Rattle.std.specs.Option.{option_map_or}
use Rattle.std.proofs.lemmas.Bool.{eq-eqb}
use Rattle.std.proofs.lemmas.Bool.Decides.{eqb_tells}
use Rattle.std.proofs.lemmas.List.{append-nil, append_assoc}
use Rattle.std.proofs.lemmas.List.Sums.{fold-append}
use Rattle.entry_judge.specs.declared.timed.Timed.{Timed}
use Rattle.entry_judge.specs.Judge.{state_after}
use Rattle.desk_trail.specs.declared.request.Request.{Request}
use Rattle.desk_trail.specs.Clients.{Client}
use Rattle.desk_trail.specs.Facts.{Fact}
use Rattle.desk_trail.specs.Legal.{beginning, point_after, point_behind}
use Rattle.desk_trail.specs.Streams.{Account, Exchange, Mention, Result, Says, Told, Unanswered, account, exchange_of, mention_of, no_account, with_fact, with_mention, with_result}
use Rattle.desk_trail.specs.Streams as told
use Rattle.answer_laws.specs.Answers.{HasOkReply}
use Rattle.answer_laws.proofs.ListLemmas.{slice_get-front, slice_get-last}

-- ---- One entry more

fold-point : (client : Client) (stream : ℕ) (x : Told) (ts : List (Timed Fact)) →
    (fold (with_fact client stream) x ts).point ≡ state_after (point_after client) x.point ts
fold-point client stream x [] = refl
fold-point client stream x (t ∷ ts) = fold-point client stream (with_fact client stream x t) ts

pub account-with : (client : Client) (stream : ℕ) (ts : List (Timed Fact)) (t : Timed Fact) →
    account client stream (ts ++ t ∷ []) ≡ with_mention stream (account client stream ts) (mention_of client (point_behind client ts).state t.at t.what)
unfolding account
account-with client stream ts t =
    let start : Told = record { point = beginning client; account = no_account } in
    let ahead : Told = fold (with_fact client stream) start ts in
    ap (λ (x : Told). x.account) (fold-append (with_fact client stream) start ts (t ∷ []))
    ∙ ap (λ p. with_mention stream ahead.account (mention_of client p.state t.at t.what)) (fold-point client stream start ts)

-- ---- What was answered stays so

record Longer (a b : Account) : Type 0 where
  pub more : List Exchange
  pub is : b.answered ≡ a.answered ++ more

longer-same : (a b : Account) → b.answered ≡ a.answered → Longer a b
longer-same a b e = record { more = []; is = e ∙ sym (append-nil a.answered) }

longer-result : (a : Account) (r : Result) → Longer a (with_result a r)
longer-result a (told.Answered says) = record { more = exchange_of says a.last; is = refl }
longer-result a (told.Ended how) = longer-same a (with_result a (told.Ended how)) refl

longer-mention : (stream : ℕ) (a : Account) (m : Mention) → Longer a (with_mention stream a m)
longer-mention stream a (told.Asks r) = by (r.stream == stream)
  where
    by : (b : Bool) → Longer a (if b then record a { last = Some r; how = None } else a)
    by true = longer-same a (record a { last = Some r; how = None }) refl
    by false = longer-same a a refl
longer-mention stream a (told.Tells s result) = by (option_map_or (λ n. n == stream) s false)
  where
    by : (b : Bool) → Longer a (if b then with_result a result else a)
    by true = longer-result a result
    by false = longer-same a a refl
longer-mention stream a told.Silent = longer-same a a refl

longer-one : (client : Client) (stream : ℕ) (ts : List (Timed Fact)) (t : Timed Fact) → Longer (account client stream ts) (account client stream (ts ++ t ∷ []))
longer-one client stream ts t =
    subst (Longer (account client stream ts)) (sym (account-with client stream ts t))
    (longer-mention stream (account client stream ts) (mention_of client (point_behind client ts).state t.at t.what))

longer-there : (a b : Account) (nth : ℕ) (x : Exchange) → Longer a b → slice_get a.answered nth ≡ Some x → slice_get b.answered nth ≡ Some x
longer-there a b nth x l h = subst (λ xs. slice_get xs nth ≡ Some x) (sym l.is) (slice_get-front a.answered l.more nth x h)

pub reply-kept : (client : Client) (ts : List (Timed Fact)) (t : Timed Fact) (op : ℕ) → HasOkReply client ts op → HasOkReply client (ts ++ t ∷ []) op
reply-kept client ts t op h = record {
  stream = h.stream;
  nth = h.nth;
  exchange = h.exchange;
  there = longer-there (account client h.stream ts) (account client h.stream (ts ++ t ∷ [])) h.nth h.exchange (longer-one client h.stream ts t) h.there;
  is_for = h.is_for;
  reading = h.reading;
  says = h.says;
  n = h.n;
  modified = h.modified;
  ok = h.ok;
}

pub reply-stays : (client : Client) (xs ys : List (Timed Fact)) (op : ℕ) → HasOkReply client xs op → HasOkReply client (xs ++ ys) op
reply-stays client xs [] op h = subst (λ ts. HasOkReply client ts op) (sym (append-nil xs)) h
reply-stays client xs (y ∷ ys) op h =
    subst (λ ts. HasOkReply client ts op) (append_assoc xs (y ∷ []) ys) (reply-stays client (xs ++ y ∷ []) ys op (reply-kept client xs y op h))

-- ---- What a mention leaves of the last request

-- one of another stream
pub tells-other : (stream : ℕ) (a : Account) (s : Option ℕ) (r : Result) → (s ≡ Some stream → ⊥) → (with_mention stream a (told.Tells s r)).last ≡ a.last
tells-other stream a None r n = refl
tells-other stream a (Some x) r n = elim (eqb_tells x stream) [
  | inl w ↦ absurd (n (ap (λ y. Some y) w.1))
  | inr w ↦ rw w.0 refl
]

pub asks-other : (stream : ℕ) (a : Account) (r : Request) → (r.stream ≡ stream → ⊥) → (with_mention stream a (told.Asks r)).last ≡ a.last
asks-other stream a r n = elim (eqb_tells r.stream stream) [
  | inl w ↦ absurd (n w.1)
  | inr w ↦ rw w.0 refl
]

-- an end without an answer
pub ended-last : (stream : ℕ) (a : Account) (s : Option ℕ) (how : Unanswered) → (with_mention stream a (told.Tells s (told.Ended how))).last ≡ a.last
ended-last stream a s how = by (option_map_or (λ n. n == stream) s false)
  where
    by : (b : Bool) → (if b then with_result a (told.Ended how) else a).last ≡ a.last
    by true = refl
    by false = refl

-- a request
pub asks-last : (stream : ℕ) (a : Account) (r : Request) → r.stream ≡ stream → (with_mention stream a (told.Asks r)).last ≡ Some r
asks-last stream a r e = rw (eq-eqb r.stream stream e) refl

-- a reply
pub replied : (stream : ℕ) (a : Account) (s : Option ℕ) (says : Says) (r : Request) → s ≡ Some stream → a.last ≡ Some r →
    slice_get (with_mention stream a (told.Tells s (told.Answered says))).answered (length a.answered) ≡ Some (record { request = r; says = says })
replied stream a s says r e last =
    let x : Exchange = record { request = r; says = says } in
    let own : option_map_or (λ n. n == stream) s false ≡ true = ap (λ o. option_map_or (λ n. n == stream) o false) e ∙ eq-eqb stream stream refl in
    let more : exchange_of says a.last ≡ x ∷ [] = ap (exchange_of says) last in
    let now : with_mention stream a (told.Tells s (told.Answered says)) ≡ with_result a (told.Answered says) =
    ap (λ b. if b then with_result a (told.Answered says) else a) own in
    ap (λ (b : Account). slice_get b.answered (length a.answered)) now
    ∙ ap (λ xs. slice_get (a.answered ++ xs) (length a.answered)) more ∙ slice_get-last a.answered x
