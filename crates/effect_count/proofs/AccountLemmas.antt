-- What one entry more says of a stream.
use Rattle.std.proofs.Common.{◌≡◌, inl, inr, ℕ, Bool, true, false, cond, eqb, ◌||◌, List, [], ◌∷◌, ◌++◌, map, Option, None, Some, refl, sym, ap, ◌∙◌}
use Rattle.std.specs.Prelude.{◌==◌, filter, filter_map, fold, if◌then◌else◌}
use Rattle.std.specs.Option.{option_map_or}
use Rattle.std.proofs.lemmas.Bool.{eq-eqb}
use Rattle.std.proofs.lemmas.Bool.Decides.{eqb_tells}
use Rattle.std.proofs.lemmas.List.{append-nil, map-append}
use Rattle.std.proofs.lemmas.List.Elements.{filter-append, filter_map-append}
use Rattle.std.proofs.lemmas.List.Folds.{list_any-append}
use Rattle.std.proofs.lemmas.List.Sums.{fold-append}
use Rattle.entry_judge.specs.declared.timed.Timed.{Timed}
use Rattle.entry_judge.specs.Judge.{state_after}
use Rattle.write_retry.specs.declared.attempt_end.AttemptEnd.{AttemptEnd}
use Rattle.write_retry.specs.declared.attempt_end.AttemptEnd.TheVariants as attempt
use Rattle.write_retry.specs.declared.events.Unsent.{Unsent}
use Rattle.write_retry.specs.declared.events.Unsent.TheVariants as unsent
use Rattle.topo_rules.specs.declared.event.TopoEvent.{TopoEvent}
use Rattle.topo_rules.specs.declared.event.TopoEvent.TheVariants as topo_event
use Rattle.desk_trail.specs.declared.entry.CheckHow.{CheckHow}
use Rattle.desk_trail.specs.declared.entry.CheckHow.TheVariants as check
use Rattle.desk_trail.specs.declared.request.Request.{Request}
use Rattle.desk_trail.specs.Clients.{Client}
use Rattle.desk_trail.specs.Facts.{Fact}
use Rattle.desk_trail.specs.Facts as fact
use Rattle.desk_trail.specs.Legal.{beginning, point_after, point_behind}
use Rattle.desk_trail.specs.States.{ClientState}
use Rattle.desk_trail.specs.Streams.{Account, Mention, Result, Says, Told, account, exchange_of, mention_of, no_account, of_check, of_end, of_not_lent, of_offered, with_fact, with_mention, with_result}
use Rattle.desk_trail.specs.Streams as told
use Rattle.request_keys.specs.Requests.{last_of, requests_in}
use Rattle.effect_count.specs.Counts.{asked_in, asked_on, begins_check, has_checks}

fold-point : (client : Client) (stream : ℕ) (x : Told) (ts : List (Timed Fact)) →
    (fold (with_fact client stream) x ts).point ≡ state_after (point_after client) x.point ts
fold-point client stream x [] = refl
fold-point client stream x (t ∷ ts) = fold-point client stream (with_fact client stream x t) ts

pub account-with : (client : Client) (stream : ℕ) (ts : List (Timed Fact)) (t : Timed Fact) →
    account client stream (ts ++ t ∷ []) ≡ with_mention stream (account client stream ts) (mention_of client (point_behind client ts).state t.at t.what)
unfolding account
account-with client stream ts t =
    let start : Told = record { point = beginning client; account = no_account } in
    let ahead : Told = fold (with_fact client stream) start ts in
    ap (λ (x : Told). x.account) (fold-append (with_fact client stream) start ts (t ∷ []))
    ∙ ap (λ p. with_mention stream ahead.account (mention_of client p.state t.at t.what)) (fold-point client stream start ts)

pub account-begins : (client : Client) (stream : ℕ) → account client stream [] ≡ no_account
unfolding account
account-begins client stream = refl

-- ---- What an entry asks

abbrev asks_of : Mention → Option Request
asks_of (told.Asks r) = Some r
asks_of (told.Tells stream result) = None
asks_of told.Silent = None

check-asks : (w : ClientState) (host : ℕ) (h : CheckHow) → asks_of (of_check w host h) ≡ None
check-asks w host (check.Reply sample) = refl
check-asks w host (check.Refused code) = refl
check-asks w host check.Cut = refl
check-asks w host check.Fault = refl
check-asks w host check.Late = refl
check-asks w host (check.Bad at) = refl
check-asks w host check.NoDial = refl

offered-asks : (w : ClientState) (e : TopoEvent) → asks_of (of_offered w e) ≡ None
offered-asks w (topo_event.Reply description sample) = refl
offered-asks w e = refl

end-asks : (w : ClientState) (op : ℕ) (end : AttemptEnd) → asks_of (of_end w op end) ≡ None
end-asks w op (attempt.Replied reading) = refl
end-asks w op attempt.Cut = refl
end-asks w op attempt.Fault = refl
end-asks w op attempt.TimedOut = refl
end-asks w op (attempt.Bad at) = refl
end-asks w op (attempt.Unsent u) = refl

not_lent-asks : (client : Client) (w : ClientState) (moment op : ℕ) (u : Unsent) → asks_of (of_not_lent client w moment op u) ≡ None
not_lent-asks client w moment op (unsent.Greeting code) = refl
not_lent-asks client w moment op (unsent.Dial bad) = refl
not_lent-asks client w moment op u = refl

mention-asks : (client : Client) (w : ClientState) (moment : ℕ) (f : Fact) → asks_of (mention_of client w moment f) ≡ asked_in f
mention-asks client w moment (fact.Asked place r) = refl
mention-asks client w moment (fact.CheckEnded host h) = check-asks w host h
mention-asks client w moment (fact.Offered place e taken) = offered-asks w e
mention-asks client w moment (fact.Settled op host conn stale) = refl
mention-asks client w moment (fact.NotLent op host why) = not_lent-asks client w moment op why
mention-asks client w moment (fact.Ended op end) = end-asks w op end
mention-asks client w moment f = refl

fact-of : (f : Fact) (r : Request) → asked_in f ≡ Some r → (place : ℕ) × (f ≡ fact.Asked place r)
fact-of (fact.Asked place x) r e = let same : x ≡ r = cc in (place, ap (fact.Asked place) same)
fact-of f r e = absurd (cc)

-- ---- It is a request on the stream, or it is none

pub data Speaks (stream : ℕ) (f : Fact) : Type 0 where
  on : (place : ℕ) (r : Request) → f ≡ fact.Asked place r → r.stream ≡ stream → Speaks stream f
  off : ((place : ℕ) (r : Request) → f ≡ fact.Asked place r → r.stream ≡ stream → ⊥) → Speaks stream f

pub speaks : (stream : ℕ) (f : Fact) → Speaks stream f
speaks stream (fact.Asked place r) = elim (eqb_tells r.stream stream) [
  | inl w ↦ on place r refl w.1
  | inr w ↦ off (λ p q e s. let same : r ≡ q = (cc) in w.1 (ap (λ (x : Request). x.stream) same ∙ s))
]
speaks stream f = off (λ place r e s. absurd (cc))

abbrev pub IsOff : ℕ → Fact → Type 0
IsOff stream f = (place : ℕ) (r : Request) → f ≡ fact.Asked place r → r.stream ≡ stream → ⊥

abbrev answered_in : Account → List Request
answered_in a = map (λ x. x.request) a.answered

told-one : (says : Says) (o : Option Request) → map (λ (x : told.Exchange). x.request) (exchange_of says o) ≡ last_of o
told-one says None = refl
told-one says (Some r) = refl

told-result : (a : Account) (r : Result) → requests_in (with_result a r) ≡ requests_in a
told-result a (told.Answered says) =
    append-nil (map (λ (x : told.Exchange). x.request) (a.answered ++ exchange_of says a.last)) ∙ map-append (λ (x : told.Exchange). x.request) a.answered (exchange_of says a.last)
    ∙ ap (λ ys. answered_in a ++ ys) (told-one says a.last)
told-result a (told.Ended how) = refl

none-result : (a : Account) (r : Result) → a.last ≡ None → (with_result a r).last ≡ None
none-result a (told.Answered says) h = refl
none-result a (told.Ended how) h = h

-- what is no request on it leaves the requests, and nothing waits where nothing did
pub record Leaves (a b : Account) : Type 0 where
  pub requests : requests_in b ≡ requests_in a
  pub none : a.last ≡ None → b.last ≡ None

leaves-mention : (stream : ℕ) (a : Account) (m : Mention) → ((r : Request) → asks_of m ≡ Some r → r.stream ≡ stream → ⊥) → Leaves a (with_mention stream a m)
leaves-mention stream a (told.Asks r) n = elim (eqb_tells r.stream stream) [
  | inl w ↦ absurd (n r refl w.1)
  | inr w ↦ rw w.0 (record { requests = refl; none = λ h. h })
]
leaves-mention stream a (told.Tells s result) n = by (option_map_or (λ m. eqb m stream) s false)
  where
    by : (b : Bool) → Leaves a (cond b (with_result a result) a)
    by true = record { requests = told-result a result; none = none-result a result }
    by false = record { requests = refl; none = λ h. h }
leaves-mention stream a told.Silent n = record { requests = refl; none = λ h. h }

pub leaves : (client : Client) (w : ClientState) (moment stream : ℕ) (f : Fact) (a : Account) → IsOff stream f → Leaves a (with_mention stream a (mention_of client w moment f))
leaves client w moment stream f a n =
    leaves-mention stream a (mention_of client w moment f) (λ r e s.
    let x = fact-of f r (sym (mention-asks client w moment f) ∙ e) in
    n x.0 r x.1 s)

-- a request on it comes behind those that were answered
pub asks-on : (client : Client) (w : ClientState) (moment stream : ℕ) (f : Fact) (a : Account) (place : ℕ) (r : Request) → f ≡ fact.Asked place r → r.stream ≡ stream → a.last ≡ None →
    requests_in (with_mention stream a (mention_of client w moment f)) ≡ requests_in a ++ r ∷ []
asks-on client w moment stream f a place r is own none =
    let now : with_mention stream a (mention_of client w moment f) ≡ record a { last = Some r; how = None } =
    ap (λ g. with_mention stream a (mention_of client w moment g)) is ∙ ap (λ (b : Bool). if b then record a { last = Some r; how = None } else a) (eq-eqb r.stream stream own) in
    let was : requests_in a ≡ answered_in a = ap (λ o. answered_in a ++ last_of o) none ∙ append-nil (answered_in a) in
    ap requests_in now ∙ ap (λ xs. xs ++ r ∷ []) (sym was)

-- whatever waited
pub asks-any : (client : Client) (w : ClientState) (moment stream : ℕ) (f : Fact) (a : Account) (place : ℕ) (r : Request) → f ≡ fact.Asked place r → r.stream ≡ stream →
    requests_in (with_mention stream a (mention_of client w moment f)) ≡ answered_in a ++ r ∷ []
asks-any client w moment stream f a place r is own =
    let now : with_mention stream a (mention_of client w moment f) ≡ record a { last = Some r; how = None } =
    ap (λ g. with_mention stream a (mention_of client w moment g)) is ∙ ap (λ (b : Bool). if b then record a { last = Some r; how = None } else a) (eq-eqb r.stream stream own) in
    ap requests_in now

-- an answer
pub tells-none : (stream : ℕ) (a : Account) (s : Option ℕ) (says : Says) → s ≡ Some stream → (with_mention stream a (told.Tells s (told.Answered says))).last ≡ None
tells-none stream a s says e =
    let own : option_map_or (λ n. n == stream) s false ≡ true = ap (λ o. option_map_or (λ n. n == stream) o false) e ∙ eq-eqb stream stream refl in
    ap (λ (b : Bool). (if b then with_result a (told.Answered says) else a).last) own

-- nothing waits where no request stands
pub none-waits : (a : Account) → requests_in a ≡ [] → a.last ≡ None
none-waits a e = by (map (λ (x : told.Exchange). x.request) a.answered) a.last e
  where
    by : (xs : List Request) (o : Option Request) → xs ++ last_of o ≡ [] → o ≡ None
    by xs None h = refl
    by [] (Some r) h = absurd (cc)
    by (x ∷ xs) (Some r) h = absurd (cc)

-- ---- The requests that entries say were asked on a stream

abbrev pub one_asked : ℕ → Fact → List Request
one_asked stream f = filter (λ (r : Request). r.stream == stream) (filter_map (λ (t : Timed Fact). asked_in t.what) (record { at = 0; what = f } ∷ []))

pub asked-with : (ts : List (Timed Fact)) (t : Timed Fact) (stream : ℕ) → asked_on (ts ++ t ∷ []) stream ≡ asked_on ts stream ++ one_asked stream t.what
asked-with ts t stream =
    ap (filter (λ (r : Request). r.stream == stream)) (filter_map-append (λ (x : Timed Fact). asked_in x.what) ts (t ∷ []))
    ∙ filter-append (λ (r : Request). r.stream == stream) (filter_map (λ (x : Timed Fact). asked_in x.what) ts) (filter_map (λ (x : Timed Fact). asked_in x.what) (t ∷ []))

pub asked-off : (stream : ℕ) (f : Fact) → IsOff stream f → one_asked stream f ≡ []
asked-off stream (fact.Asked place r) n = elim (eqb_tells r.stream stream) [
  | inl w ↦ absurd (n place r refl w.1)
  | inr w ↦ rw w.0 refl
]
asked-off stream f n = refl

pub asked-own : (stream : ℕ) (f : Fact) (place : ℕ) (r : Request) → f ≡ fact.Asked place r → r.stream ≡ stream → one_asked stream f ≡ r ∷ []
asked-own stream f place r is own = ap (one_asked stream) is ∙ ap (λ (b : Bool). if b then r ∷ [] else []) (eq-eqb r.stream stream own)

-- ---- The entries that begin checks

pub checks-with : (ts : List (Timed Fact)) (t : Timed Fact) (stream : ℕ) → has_checks (ts ++ t ∷ []) stream ≡ has_checks ts stream || begins_check stream t.what
checks-with ts t stream = list_any-append (λ (x : Timed Fact). begins_check stream x.what) ts (t ∷ []) ∙ ap (λ b. has_checks ts stream || b) (or-none (begins_check stream t.what))
  where
    or-none : (b : Bool) → (b || false) ≡ b
    or-none true = refl
    or-none false = refl
