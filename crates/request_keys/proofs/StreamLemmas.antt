-- Each request of a stream stands where it was asked.
use Rattle.std.proofs.Common.{◌≡◌, ◌⊎◌, inl, inr, ℕ, Bool, true, false, cond, eqb, List, [], ◌∷◌, ◌++◌, map, Option, None, Some, refl, sym, ap, ◌∙◌, subst}
use Rattle.std.specs.Prelude.{fold, slice_get}
use Rattle.std.specs.List.{AllByRecursion}
use Rattle.std.specs.Option.{option_map_or}
use Rattle.std.proofs.lemmas.Bool.Decides.{eqb_tells}
use Rattle.entry_judge.specs.declared.timed.Timed.{Timed}
use Rattle.write_retry.specs.declared.attempt_end.AttemptEnd.{AttemptEnd}
use Rattle.write_retry.specs.declared.attempt_end.AttemptEnd.TheVariants as attempt
use Rattle.write_retry.specs.declared.events.Unsent.{Unsent}
use Rattle.write_retry.specs.declared.events.Unsent.TheVariants as unsent
use Rattle.topo_rules.specs.declared.event.TopoEvent.{TopoEvent}
use Rattle.topo_rules.specs.declared.event.TopoEvent.TheVariants as event
use Rattle.desk_trail.specs.declared.entry.CheckHow.{CheckHow}
use Rattle.desk_trail.specs.declared.entry.CheckHow.TheVariants as check
use Rattle.desk_trail.specs.declared.request.Request.{Request}
use Rattle.desk_trail.specs.Clients.{Client}
use Rattle.desk_trail.specs.Facts.{Fact}
use Rattle.desk_trail.specs.Facts as fact
use Rattle.desk_trail.specs.Legal.{beginning}
use Rattle.desk_trail.specs.States.{ClientState}
use Rattle.desk_trail.specs.Streams.{Account, Asks, Answered, Ended, Exchange, Mention, Result, Says, Silent, Tells, Told, account, exchange_of, mention_of, no_account, of_check, of_end, of_not_lent, of_offered, with_fact, with_mention, with_result}
use Rattle.request_keys.specs.Requests.{last_of, requests_in, requests_on}
use Rattle.request_keys.proofs.ListLemmas.{all-at, all-front, all-more}

-- ---- What an entry asks

abbrev asks_of : Mention → Option Request
asks_of (Asks r) = Some r
asks_of (Tells stream result) = None
asks_of Silent = None

abbrev pub asked_in : Fact → Option Request
asked_in (fact.Asked place r) = Some r
asked_in f = None

check-asks : (w : ClientState) (host : ℕ) (h : CheckHow) → asks_of (of_check w host h) ≡ None
check-asks w host (check.Reply sample) = refl
check-asks w host (check.Refused code) = refl
check-asks w host check.Cut = refl
check-asks w host check.Fault = refl
check-asks w host check.Late = refl
check-asks w host (check.Bad at) = refl
check-asks w host check.NoDial = refl

offered-asks : (w : ClientState) (e : TopoEvent) → asks_of (of_offered w e) ≡ None
offered-asks w (event.Reply description sample) = refl
offered-asks w e = refl

end-asks : (w : ClientState) (op : ℕ) (end : AttemptEnd) → asks_of (of_end w op end) ≡ None
end-asks w op (attempt.Replied reading) = refl
end-asks w op attempt.Cut = refl
end-asks w op attempt.Fault = refl
end-asks w op attempt.TimedOut = refl
end-asks w op (attempt.Bad at) = refl
end-asks w op (attempt.Unsent u) = refl

not_lent-asks : (client : Client) (w : ClientState) (moment op : ℕ) (u : Unsent) → asks_of (of_not_lent client w moment op u) ≡ None
not_lent-asks client w moment op (unsent.Greeting code) = refl
not_lent-asks client w moment op (unsent.Dial bad) = refl
not_lent-asks client w moment op u = refl

mention-asks : (client : Client) (w : ClientState) (moment : ℕ) (f : Fact) → asks_of (mention_of client w moment f) ≡ asked_in f
mention-asks client w moment (fact.Asked place r) = refl
mention-asks client w moment (fact.CheckEnded host h) = check-asks w host h
mention-asks client w moment (fact.Offered place e taken) = offered-asks w e
mention-asks client w moment (fact.Settled op host conn stale) = refl
mention-asks client w moment (fact.NotLent op host why) = not_lent-asks client w moment op why
mention-asks client w moment (fact.Ended op end) = end-asks w op end
mention-asks client w moment f = refl

-- ---- What it does to the requests of a stream

abbrev pub answered_in : Account → List Request
answered_in a = map (λ x. x.request) a.answered

map-more : (xs ys : List Exchange) → map (λ (x : Exchange). x.request) (xs ++ ys) ≡ map (λ (x : Exchange). x.request) xs ++ map (λ (x : Exchange). x.request) ys
map-more [] ys = refl
map-more (x ∷ xs) ys = ap (λ zs. x.request ∷ zs) (map-more xs ys)

append-none : (xs : List Request) → xs ++ [] ≡ xs
append-none [] = refl
append-none (x ∷ xs) = ap (λ zs. x ∷ zs) (append-none xs)

told-one : (says : Says) (o : Option Request) → map (λ (x : Exchange). x.request) (exchange_of says o) ≡ last_of o
told-one says None = refl
told-one says (Some r) = refl

-- what became of the last one leaves them
told-result : (a : Account) (r : Result) → requests_in (with_result a r) ≡ requests_in a
told-result a (Answered says) =
    append-none (map (λ (x : Exchange). x.request) (a.answered ++ exchange_of says a.last)) ∙ map-more a.answered (exchange_of says a.last)
    ∙ ap (λ ys. answered_in a ++ ys) (told-one says a.last)
told-result a (Ended how) = refl

-- they stay, or one comes to those that were answered
pub record Comes (stream : ℕ) (a : Account) (rs : List Request) (o : Option Request) : Type 0 where
  pub request : Request
  pub asks : o ≡ Some request
  pub on : request.stream ≡ stream
  pub now : rs ≡ answered_in a ++ request ∷ []

told-mention : (stream : ℕ) (a : Account) (m : Mention) →
    (requests_in (with_mention stream a m) ≡ requests_in a) ⊎ Comes stream a (requests_in (with_mention stream a m)) (asks_of m)
told-mention stream a (Asks r) = elim (eqb_tells r.stream stream) [
  | inl w ↦ rw w.0 (inr (record { request = r; asks = refl; on = w.1; now = refl }))
  | inr w ↦ rw w.0 (inl refl)
]
told-mention stream a (Tells s result) = inl (by (option_map_or (λ n. eqb n stream) s false)) where
  by : (b : Bool) → requests_in (cond b (with_result a result) a) ≡ requests_in a
  by true = told-result a result
  by false = refl
told-mention stream a Silent = inl refl

pub told-fact : (client : Client) (stream : ℕ) (s : Told) (t : Timed Fact) →
    (requests_in (with_fact client stream s t).account ≡ requests_in s.account) ⊎ Comes stream s.account (requests_in (with_fact client stream s t).account) (asked_in t.what)
told-fact client stream s t =
    let m = mention_of client s.point.state t.at t.what in
    subst (λ o. (requests_in (with_mention stream s.account m) ≡ requests_in s.account) ⊎ Comes stream s.account (requests_in (with_mention stream s.account m)) o)
    (mention-asks client s.point.state t.at t.what) (told-mention stream s.account m)

-- ---- Where each was asked

pub record AskedAt (facts : List (Timed Fact)) (stream : ℕ) (r : Request) : Type 0 where
  pub front : List (Timed Fact)
  pub moment : ℕ
  pub place : ℕ
  pub behind : List (Timed Fact)
  pub split : facts ≡ front ++ record { at = moment; what = fact.Asked place r } ∷ behind
  pub on : r.stream ≡ stream

pub fact-of : (f : Fact) (r : Request) → asked_in f ≡ Some r → (place : ℕ) × (f ≡ fact.Asked place r)
fact-of (fact.Asked place x) r e = let same : x ≡ r = cc in (place, ap (fact.Asked place) same)
fact-of f r e = absurd (cc)

later : (t : Timed Fact) (ts : List (Timed Fact)) (stream : ℕ) (r : Request) → AskedAt ts stream r → AskedAt (t ∷ ts) stream r
later t ts stream r a = record { front = t ∷ a.front; moment = a.moment; place = a.place; behind = a.behind; split = ap (λ xs. t ∷ xs) a.split; on = a.on }

pub all-told : (Q : Request → Type 0) (client : Client) (stream : ℕ) (s : Told) (ts : List (Timed Fact)) → AllByRecursion Q (requests_in s.account) →
    ((r : Request) → AskedAt ts stream r → Q r) → AllByRecursion Q (requests_in (fold (with_fact client stream) s ts).account)
all-told Q client stream s [] h each = h
all-told Q client stream s (t ∷ ts) h each =
    all-told Q client stream (with_fact client stream s t) ts (now (told-fact client stream s t)) (λ r a. each r (later t ts stream r a))
  where
    now : (requests_in (with_fact client stream s t).account ≡ requests_in s.account) ⊎ Comes stream s.account (requests_in (with_fact client stream s t).account) (asked_in t.what) →
        AllByRecursion Q (requests_in (with_fact client stream s t).account)
    now (inl same) = subst (AllByRecursion Q) (sym same) h
    now (inr c) =
        let f = fact-of t.what c.request c.asks in
        let here : AskedAt (t ∷ ts) stream c.request = record {
          front = [];
          moment = t.at;
          place = f.0;
          behind = ts;
          split = ap (λ (x : Fact). record { at = t.at; what = x } ∷ ts) f.1;
          on = c.on;
        } in
        subst (AllByRecursion Q) (sym c.now)
        (all-more Q (answered_in s.account) (c.request ∷ []) (all-front Q (answered_in s.account) (last_of s.account.last) h) (each c.request here, tt))

pub asked-at : (client : Client) (facts : List (Timed Fact)) (stream nth : ℕ) (r : Request) → slice_get (requests_on client facts stream) nth ≡ Some r → AskedAt facts stream r
unfolding account
asked-at client facts stream nth r e =
    all-at (AskedAt facts stream) (requests_on client facts stream) nth r
    (all-told (AskedAt facts stream) client stream (record { point = beginning client; account = no_account }) facts tt (λ x a. a)) e
