-- What a trail says of a stream, of dials and of times, behind one more entry.
use Rattle.std.proofs.Common.{◌≡◌, ℕ, ◌+◌, Bool, true, false, List, [], ◌∷◌, ◌++◌, Option, None, Some, length, refl, sym, ap, ◌∙◌, arith, cond, length-append}
use Rattle.std.specs.Prelude.{filter, fold, All}
use Rattle.std.proofs.lemmas.List.Elements.{All-append, All-cons, filter-append}
use Rattle.std.proofs.lemmas.List.Sums.{fold-append}
use Rattle.entry_judge.specs.declared.timed.Timed.{Timed}
use Rattle.entry_judge.specs.Judge.{state_after}
use Rattle.net_link.specs.declared.event.NetEvent.{NetEvent}
use Rattle.write_retry.specs.declared.attempt_end.AttemptEnd.{AttemptEnd}
use Rattle.write_retry.specs.declared.attempt_end.AttemptEnd.TheVariants as attempt
use Rattle.write_retry.specs.declared.events.Unsent.{Unsent}
use Rattle.write_retry.specs.declared.events.Unsent.TheVariants as unsent
use Rattle.desk_trail.specs.declared.entry.CheckHow.{CheckHow}
use Rattle.desk_trail.specs.declared.entry.CheckHow.TheVariants as check
use Rattle.desk_trail.specs.declared.entry.Entry.{Entry}
use Rattle.desk_trail.specs.declared.room.Room.{Room}
use Rattle.desk_trail.specs.Clients.{Client}
use Rattle.desk_trail.specs.Facts.{Fact, Lists}
use Rattle.desk_trail.specs.Facts as fact
use Rattle.desk_trail.specs.Legal.{beginning, point_after, point_behind, tells_reply}
use Rattle.desk_trail.specs.States.{ClientState}
use Rattle.desk_trail.specs.Streams.{Mention, Result, Told, account, mention_of, no_account, with_fact, with_mention}
use Rattle.desk_trail.specs.Streams as told
use Rattle.legal_trail.specs.Recorded.{Adds, Recorded, told_in}
use Rattle.wired_trail.specs.Hearing.{IsOf, IsPlain, SpeaksOf, told_of}
use Rattle.wired_trail.specs.Lines.{Lines}
use Rattle.wired_trail.specs.Standing.{UsesGiven}
use Rattle.wired_trail.specs.Wired.{IfTime, no_dials_told, says_no_dial}

-- ---- The account of a stream

fold-point : (client : Client) (stream : ℕ) (x : Told) (ts : List (Timed Fact)) →
    (fold (with_fact client stream) x ts).point ≡ state_after (point_after client) x.point ts
fold-point client stream x [] = refl
fold-point client stream x (t ∷ ts) = fold-point client stream (with_fact client stream x t) ts

account-with : (client : Client) (stream : ℕ) (ts : List (Timed Fact)) (t : Timed Fact) →
    account client stream (ts ++ t ∷ []) ≡ with_mention stream (account client stream ts) (mention_of client (point_behind client ts).state t.at t.what)
unfolding account
account-with client stream ts t =
    let start : Told = record { point = beginning client; account = no_account } in
    let ahead : Told = fold (with_fact client stream) start ts in
    ap (λ (x : Told). x.account) (fold-append (with_fact client stream) start ts (t ∷ []))
    ∙ ap (λ p. with_mention stream ahead.account (mention_of client p.state t.at t.what)) (fold-point client stream start ts)

-- what the trail says of a stream behind an entry
pub told-adds : (used : Room) (lists : Lists) (moment : ℕ) (e : Entry) (f : Fact) (old new : Recorded) → Adds used lists moment e f old new → (stream : ℕ) →
    told_of new stream ≡ with_mention stream (told_of old stream) (mention_of old.client old.point.state moment f)
told-adds used lists moment e f old new adds stream =
    ap (λ c. account c stream (told_in new)) adds.same_client ∙ ap (account old.client stream) adds.told_now
    ∙ account-with old.client stream (told_in old) (record { at = moment; what = f })
    ∙ ap (λ p. with_mention stream (told_of old stream) (mention_of old.client p.state moment f)) (sym adds.point_was)

pub told-same : (old new : Recorded) (stream : ℕ) → new.client ≡ old.client → new.lists ≡ old.lists → new.steps ≡ old.steps → told_of new stream ≡ told_of old stream
told-same old new stream c l s = rw (c, l, s) refl

pub told-nothing : (client : Client) (stream : ℕ) → account client stream [] ≡ no_account
unfolding account
told-nothing client stream = refl

-- ---- What kinds of entries say

-- an entry that says nothing of a stream, of a dial without one or of a time
pub record SaysNothing (client : Client) (w : ClientState) (moment : ℕ) (lines : Lines) (h : List NetEvent) (f : Fact) : Type 0 where
  pub silent : mention_of client w moment f ≡ told.Silent
  pub no_dial : says_no_dial f ≡ false
  pub time : IfTime h f
  pub uses : UsesGiven lines f

plain-check : (client : Client) (w : ClientState) (moment : ℕ) (lines : Lines) (h : List NetEvent) (host : ℕ) (how : CheckHow) →
    IsPlain lines (fact.CheckEnded host how) → SaysNothing client w moment lines h (fact.CheckEnded host how)
plain-check client w moment lines h host (check.Reply sample) p = record { silent = refl; no_dial = refl; time = tt; uses = tt }
plain-check client w moment lines h host (check.Refused code) p = absurd p
plain-check client w moment lines h host check.Cut p = absurd p
plain-check client w moment lines h host check.Fault p = absurd p
plain-check client w moment lines h host check.Late p = absurd p
plain-check client w moment lines h host (check.Bad at) p = absurd p
plain-check client w moment lines h host check.NoDial p = absurd p

plain-dialled : (client : Client) (w : ClientState) (moment : ℕ) (lines : Lines) (h : List NetEvent) (op host conn : ℕ) (stream : Option ℕ) →
    IsPlain lines (fact.Dialled op host conn stream) → SaysNothing client w moment lines h (fact.Dialled op host conn stream)
plain-dialled client w moment lines h op host conn None p = absurd p
plain-dialled client w moment lines h op host conn (Some stream) p = record { silent = refl; no_dial = refl; time = tt; uses = p }

plain-not_lent : (client : Client) (w : ClientState) (moment : ℕ) (lines : Lines) (h : List NetEvent) (op host : ℕ) (why : Unsent) →
    IsPlain lines (fact.NotLent op host why) → SaysNothing client w moment lines h (fact.NotLent op host why)
plain-not_lent client w moment lines h op host unsent.PoolLate p = record { silent = refl; no_dial = refl; time = tt; uses = tt }
plain-not_lent client w moment lines h op host (unsent.PoolCleared g) p = record { silent = refl; no_dial = refl; time = tt; uses = tt }
plain-not_lent client w moment lines h op host (unsent.PoolClosed x) p = record { silent = refl; no_dial = refl; time = tt; uses = tt }
plain-not_lent client w moment lines h op host (unsent.Dial bad) p = absurd p
plain-not_lent client w moment lines h op host (unsent.Greeting code) p = absurd p
plain-not_lent client w moment lines h op host (unsent.TooLarge size most) p = record { silent = refl; no_dial = refl; time = tt; uses = tt }

plain-ended : (client : Client) (w : ClientState) (moment : ℕ) (lines : Lines) (h : List NetEvent) (op : ℕ) (end : AttemptEnd) →
    IsPlain lines (fact.Ended op end) → SaysNothing client w moment lines h (fact.Ended op end)
plain-ended client w moment lines h op (attempt.Replied reading) p = absurd p
plain-ended client w moment lines h op attempt.Cut p = absurd p
plain-ended client w moment lines h op attempt.Fault p = absurd p
plain-ended client w moment lines h op attempt.TimedOut p = absurd p
plain-ended client w moment lines h op (attempt.Bad at) p = absurd p
plain-ended client w moment lines h op (attempt.Unsent u) p = record { silent = refl; no_dial = refl; time = tt; uses = tt }

pub plain : (client : Client) (w : ClientState) (moment : ℕ) (lines : Lines) (h : List NetEvent) (f : Fact) → IsPlain lines f → SaysNothing client w moment lines h f
plain client w moment lines h (fact.CheckBegan x stream) p = record { silent = refl; no_dial = refl; time = tt; uses = p }
plain client w moment lines h (fact.CheckEnded x how) p = plain-check client w moment lines h x how p
plain client w moment lines h (fact.Dialled op x conn stream) p = plain-dialled client w moment lines h op x conn stream p
plain client w moment lines h (fact.NotLent op x why) p = plain-not_lent client w moment lines h op x why p
plain client w moment lines h (fact.Ended op end) p = plain-ended client w moment lines h op end p
plain client w moment lines h (fact.Offered place e taken) p = absurd p
plain client w moment lines h (fact.Settled op x conn stale) p = absurd p
plain client w moment lines h (fact.Asked place request) p = absurd p
plain client w moment lines h (fact.Time stamp) p = absurd p
plain client w moment lines h (fact.Named x address) p = record { silent = refl; no_dial = refl; time = tt; uses = tt }
plain client w moment lines h (fact.Dropped x) p = record { silent = refl; no_dial = refl; time = tt; uses = tt }
plain client w moment lines h (fact.PoolReady x) p = record { silent = refl; no_dial = refl; time = tt; uses = tt }
plain client w moment lines h (fact.PoolClear x) p = record { silent = refl; no_dial = refl; time = tt; uses = tt }
plain client w moment lines h (fact.PoolShut x) p = record { silent = refl; no_dial = refl; time = tt; uses = tt }
plain client w moment lines h (fact.CheckDry x) p = record { silent = refl; no_dial = refl; time = tt; uses = tt }
plain client w moment lines h (fact.Looked op a b kept picked) p = record { silent = refl; no_dial = refl; time = tt; uses = tt }
plain client w moment lines h (fact.Entered op x ticket) p = record { silent = refl; no_dial = refl; time = tt; uses = tt }
plain client w moment lines h (fact.Lent op x conn) p = record { silent = refl; no_dial = refl; time = tt; uses = tt }
plain client w moment lines h (fact.CheckedIn op x conn errored) p = record { silent = refl; no_dial = refl; time = tt; uses = tt }
plain client w moment lines h (fact.ConnShut x conn reason) p = record { silent = refl; no_dial = refl; time = tt; uses = tt }
plain client w moment lines h (fact.Leased op place lsid fresh) p = record { silent = refl; no_dial = refl; time = tt; uses = tt }
plain client w moment lines h (fact.Drew op number) p = record { silent = refl; no_dial = refl; time = tt; uses = tt }
plain client w moment lines h (fact.Returned op dirty kept) p = record { silent = refl; no_dial = refl; time = tt; uses = tt }
plain client w moment lines h (fact.Finished op outcome) p = record { silent = refl; no_dial = refl; time = tt; uses = tt }

-- an entry that tells of a dial without a stream says nothing of a stream
pub record SaysNoDial (client : Client) (w : ClientState) (moment : ℕ) (lines : Lines) (h : List NetEvent) (f : Fact) : Type 0 where
  pub silent : mention_of client w moment f ≡ told.Silent
  pub time : IfTime h f
  pub uses : UsesGiven lines f

no_dial-check : (client : Client) (w : ClientState) (moment : ℕ) (lines : Lines) (h : List NetEvent) (host : ℕ) (how : CheckHow) →
    says_no_dial (fact.CheckEnded host how) ≡ true → SaysNoDial client w moment lines h (fact.CheckEnded host how)
no_dial-check client w moment lines h host check.NoDial e = record { silent = refl; time = tt; uses = tt }
no_dial-check client w moment lines h host (check.Reply sample) e = absurd cc
no_dial-check client w moment lines h host (check.Refused code) e = absurd cc
no_dial-check client w moment lines h host check.Cut e = absurd cc
no_dial-check client w moment lines h host check.Fault e = absurd cc
no_dial-check client w moment lines h host check.Late e = absurd cc
no_dial-check client w moment lines h host (check.Bad at) e = absurd cc

no_dial-dialled : (client : Client) (w : ClientState) (moment : ℕ) (lines : Lines) (h : List NetEvent) (op host conn : ℕ) (stream : Option ℕ) →
    says_no_dial (fact.Dialled op host conn stream) ≡ true → SaysNoDial client w moment lines h (fact.Dialled op host conn stream)
no_dial-dialled client w moment lines h op host conn None e = record { silent = refl; time = tt; uses = tt }
no_dial-dialled client w moment lines h op host conn (Some stream) e = absurd cc

pub no_dial : (client : Client) (w : ClientState) (moment : ℕ) (lines : Lines) (h : List NetEvent) (f : Fact) → says_no_dial f ≡ true → SaysNoDial client w moment lines h f
no_dial client w moment lines h (fact.CheckEnded x how) e = no_dial-check client w moment lines h x how e
no_dial client w moment lines h (fact.Dialled op x conn stream) e = no_dial-dialled client w moment lines h op x conn stream e
no_dial client w moment lines h f e = absurd cc

-- an entry that tells what became of a request
abbrev pub answers_in : Mention → Bool
answers_in (told.Tells stream (told.Answered says)) = true
answers_in m = false

pub record SaysResult (client : Client) (w : ClientState) (moment : ℕ) (stream : Option ℕ) (lines : Lines) (h : List NetEvent) (f : Fact) : Type 0 where
  pub of : IsOf stream (mention_of client w moment f)
  pub kind : tells_reply f ≡ answers_in (mention_of client w moment f)
  pub no_dial : says_no_dial f ≡ false
  pub time : IfTime h f
  pub uses : UsesGiven lines f

result-check : (client : Client) (w : ClientState) (moment : ℕ) (stream : Option ℕ) (lines : Lines) (h : List NetEvent) (host : ℕ) (how : CheckHow) →
    SpeaksOf client w moment stream (fact.CheckEnded host how) → SaysResult client w moment stream lines h (fact.CheckEnded host how)
result-check client w moment stream lines h host (check.Reply sample) s = absurd s
result-check client w moment stream lines h host check.NoDial s = absurd s
result-check client w moment stream lines h host (check.Refused code) s = record { of = s; kind = refl; no_dial = refl; time = tt; uses = tt }
result-check client w moment stream lines h host check.Cut s = record { of = s; kind = refl; no_dial = refl; time = tt; uses = tt }
result-check client w moment stream lines h host check.Fault s = record { of = s; kind = refl; no_dial = refl; time = tt; uses = tt }
result-check client w moment stream lines h host check.Late s = record { of = s; kind = refl; no_dial = refl; time = tt; uses = tt }
result-check client w moment stream lines h host (check.Bad at) s = record { of = s; kind = refl; no_dial = refl; time = tt; uses = tt }

result-not_lent : (client : Client) (w : ClientState) (moment : ℕ) (stream : Option ℕ) (lines : Lines) (h : List NetEvent) (op host : ℕ) (why : Unsent) →
    SpeaksOf client w moment stream (fact.NotLent op host why) → SaysResult client w moment stream lines h (fact.NotLent op host why)
result-not_lent client w moment stream lines h op host (unsent.Dial bad) s = record { of = s; kind = refl; no_dial = refl; time = tt; uses = tt }
result-not_lent client w moment stream lines h op host (unsent.Greeting code) s = record { of = s; kind = refl; no_dial = refl; time = tt; uses = tt }
result-not_lent client w moment stream lines h op host unsent.PoolLate s = absurd s
result-not_lent client w moment stream lines h op host (unsent.PoolCleared g) s = absurd s
result-not_lent client w moment stream lines h op host (unsent.PoolClosed x) s = absurd s
result-not_lent client w moment stream lines h op host (unsent.TooLarge size most) s = absurd s

result-ended : (client : Client) (w : ClientState) (moment : ℕ) (stream : Option ℕ) (lines : Lines) (h : List NetEvent) (op : ℕ) (end : AttemptEnd) →
    SpeaksOf client w moment stream (fact.Ended op end) → SaysResult client w moment stream lines h (fact.Ended op end)
result-ended client w moment stream lines h op (attempt.Replied reading) s = record { of = s; kind = refl; no_dial = refl; time = tt; uses = tt }
result-ended client w moment stream lines h op attempt.Cut s = record { of = s; kind = refl; no_dial = refl; time = tt; uses = tt }
result-ended client w moment stream lines h op attempt.Fault s = record { of = s; kind = refl; no_dial = refl; time = tt; uses = tt }
result-ended client w moment stream lines h op attempt.TimedOut s = record { of = s; kind = refl; no_dial = refl; time = tt; uses = tt }
result-ended client w moment stream lines h op (attempt.Bad at) s = record { of = s; kind = refl; no_dial = refl; time = tt; uses = tt }
result-ended client w moment stream lines h op (attempt.Unsent u) s = absurd s

pub result : (client : Client) (w : ClientState) (moment : ℕ) (stream : Option ℕ) (lines : Lines) (h : List NetEvent) (f : Fact) →
    SpeaksOf client w moment stream f → SaysResult client w moment stream lines h f
result client w moment stream lines h (fact.CheckEnded x how) s = result-check client w moment stream lines h x how s
result client w moment stream lines h (fact.NotLent op x why) s = result-not_lent client w moment stream lines h op x why s
result client w moment stream lines h (fact.Ended op end) s = result-ended client w moment stream lines h op end s
result client w moment stream lines h (fact.Settled op x conn stale) s = record { of = s; kind = refl; no_dial = refl; time = tt; uses = tt }
result client w moment stream lines h (fact.Offered place e taken) s = absurd s
result client w moment stream lines h f s = absurd s

-- a mention of that stream
pub record TellsOf (stream : Option ℕ) (m : Mention) : Type 0 where
  pub result : Result
  pub is : m ≡ told.Tells stream result

pub tells-of : (stream : Option ℕ) (m : Mention) → IsOf stream m → TellsOf stream m
tells-of stream (told.Tells s result) is = record { result = result; is = ap (λ x. told.Tells x result) is }
tells-of stream (told.Asks request) is = absurd is
tells-of stream told.Silent is = absurd is

-- ---- Dials and times

-- one for an entry that tells of such a dial
abbrev pub one_if : Bool → ℕ
one_if true = 1
one_if false = 0

pub no_dials-with : (ts : List (Timed Fact)) (t : Timed Fact) → no_dials_told (ts ++ t ∷ []) ≡ no_dials_told ts + one_if (says_no_dial t.what)
no_dials-with ts t =
    ap length (filter-append (λ (x : Timed Fact). says_no_dial x.what) ts (t ∷ []))
    ∙ length-append (filter (λ (x : Timed Fact). says_no_dial x.what) ts) (filter (λ (x : Timed Fact). says_no_dial x.what) (t ∷ []))
    ∙ ap (λ n. no_dials_told ts + n) (elim (says_no_dial t.what) as (λ b. length (cond b (t ∷ []) []) ≡ one_if b) [ true ↦ refl | false ↦ refl ])

pub times-with : (h : List NetEvent) (ts : List (Timed Fact)) (t : Timed Fact) → All (λ (x : Timed Fact). IfTime h x.what) ts → IfTime h t.what →
    All (λ (x : Timed Fact). IfTime h x.what) (ts ++ t ∷ [])
times-with h ts t all one =
    All-append (λ (x : Timed Fact). IfTime h x.what) ts (t ∷ []) all
    (All-cons (λ (x : Timed Fact). IfTime h x.what) t [] one (λ k d q. absurd (omega (arith, q))))
