-- What a command that waited for a connection got: as entries of a trail, and what must come next.
use Rattle.std.proofs.Common.{◌≡◌, ◌≤◌, ◌<◌, ◌==◌, ℕ, ◌+◌, true, false, List, [], ◌∷◌, ◌++◌, map, length, Option, None, Some, IsSome, refl, sym, ap, ◌∙◌, subst, arith}
use Rattle.std.specs.Prelude.{IfOk, OnErr, drop, slice_get, if◌then◌else◌}
use Rattle.std.specs.declared.result.Result.{Result}
use Rattle.std.specs.declared.result.Result.TheVariants.{Ok, Err}
use Rattle.std.specs.Option.{option_and_then, option_map}
use Rattle.host_name.specs.Addresses.{Address}
use Rattle.pool_book.specs.Entries as pool
use Rattle.pool_book.specs.Entries.{PoolEntry}
use Rattle.pool_book.specs.Answers.{IsWaitLimit}
use Rattle.pool_book.specs.Pool.{Pool, ticket_of}
use Rattle.pool_book.specs.declared.ticket.Ticket.{Ticket}
use Rattle.write_retry.specs.declared.attempt_end.AttemptEnd.TheVariants as attempt
use Rattle.write_retry.specs.declared.events.Unsent.{Unsent}
use Rattle.write_retry.specs.declared.events.Unsent.TheVariants as unsent
use Rattle.desk_trail.specs.declared.entry.Entry.TheVariants as entry
use Rattle.desk_trail.specs.Attempts.{end_owes, endpoint_at, not_lent_offers}
use Rattle.desk_trail.specs.Checks.{AtServer}
use Rattle.desk_trail.specs.Clients.{Client}
use Rattle.desk_trail.specs.Facts as fact
use Rattle.desk_trail.specs.Facts.{Fact}
use Rattle.desk_trail.specs.Holds.{WaitsAt}
use Rattle.desk_trail.specs.Legal.{Point}
use Rattle.desk_trail.specs.Owed.{Owed, left_owed}
use Rattle.desk_trail.specs.Owed as owed
use Rattle.desk_trail.specs.Pools.{at_host, check_out_of, not_lent_with, owed_in, owed_of, pool_owes, ticket_with}
use Rattle.desk_trail.specs.States.{CheckOut, ClientState, CommandState, ServerState, Waits}
use Rattle.desk_trail.specs.Written.{an_entry}
use Rattle.legal_trail.specs.Recorded.{Adds, Recorded}
use Rattle.trail_laws.specs.Waiting.{WaitsAtItsServer, WaitsBy}
use Rattle.wired_trail.specs.Lines.{Lines as WireLines}
use Rattle.net_link.specs.Causes.{Rose}
use Rattle.cmd_step.specs.Answers.{IsAnswer, IsInLine}
use Rattle.cmd_step.specs.Closed.{AreSame}
use Rattle.cmd_step.specs.Losses.{IsLost}
use Rattle.cmd_step.specs.Places.{AreAt}
use Rattle.cmd_step.specs.Times.{TellsTime}
use Rattle.cmd_step.specs.declared.got.Answer.{Answer}
use Rattle.cmd_step.specs.declared.got.Answer.TheVariants as answer
use Rattle.cmd_step.specs.declared.losing.Loss.{Loss}
use Rattle.cmd_step.specs.declared.place.At.{At}
use Rattle.desk_core.specs.Appends.{AppendsAside, AppendsOf, IsOfOp}
use Rattle.desk_core.specs.CheckLines.{KeepsCheckLines}
use Rattle.desk_core.specs.CheckOuts.{IsBehindAnswer, IsBroken, IsOfLine, IsPlain, IsToWait, KeepsAddress}
use Rattle.desk_core.specs.State.{Core}
use Rattle.desk_core.specs.Steps.{IsWaiting, in_line}
use Rattle.desk_core.proofs.AppendsLemmas.{Plain-aside, grown-plain, grown-trans, grown-weaken}
use Rattle.desk_core.proofs.BesideLemmas.{KeepsCheckLines-free, KeepsCheckLines-same}
use Rattle.desk_core.proofs.ComesLemmas.{Comes, Comes-dialled, Comes-greeting, Comes-lent, Comes-none, Comes-not_lent, Comes-shut, Comes-time, Comes-trans, Comes-unsent, IsMoved, IsMoved-both, IsMoved-none}
use Rattle.desk_core.proofs.ServerLemmas.{slice_get-set_same}

-- ---- How many entries come

pub record Came (failed : Type 0) (says : Fact → Type 0) (most moment : ℕ) (old new : Recorded) : Type 0 where
  pub n : ℕ
  pub few : n ≤ most
  pub comes : Comes failed says n moment old new

pub came : {R : Type 0} {P : Fact → Type 0} (n most moment : ℕ) (old new : Recorded) → n ≤ most → Comes R P n moment old new → Came R P most moment old new
came {R} {P} n most moment old new few h = record { n = n; few = few; comes = h }

pub Came-trans : {R : Type 0} {P : Fact → Type 0} (j k moment : ℕ) (old between new : Recorded) → Came R P j moment old between → Came R P k moment between new → Came R P (j + k) moment old new
Came-trans {R} {P} j k moment old between new a b = record {
  n = a.n + b.n;
  few = let x = a.few in let y = b.few in omega arith;
  comes = Comes-trans a.n b.n moment old between new a.comes b.comes;
}

pub Came-news : {R : Type 0} {op : ℕ} (moment : ℕ) (news : Option ℕ) (old new : Recorded) → TellsTime moment news old new → Came R (IsOfOp op) 1 moment old new
Came-news {R} {op} moment None old new told = came 0 1 moment old new (omega arith) (Comes-none moment old new told)
Came-news {R} {op} moment (Some stamp) old new told = came 1 1 moment old new (omega arith) (Comes-time moment stamp old new told)

pub Came-lost : {R : Type 0} (at : At) (loss : Loss) (old new : Recorded) (t : ServerState) (d : CommandState) → IsLost at loss old new t d → Came R (IsOfOp at.op) 4 at.moment old new
Came-lost {R} at loss old new t d h =
    let m = at.moment in
    let told : Came R (IsOfOp at.op) 1 m old h.mid = came 1 1 m old h.mid (omega arith) (Comes-not_lent m at.op at.host loss.why old h.mid h.told) in
    let ends : Came R (IsOfOp at.op) 1 m h.heard h.ended = came 1 1 m h.heard h.ended (omega arith) (Comes-unsent m at.op loss.why h.heard h.ended h.ends) in
    let shuts : Came R (IsOfOp at.op) 1 m h.ended new = came 1 1 m h.ended new (omega arith) (Comes-shut m at.host loss.conn _ h.ended new (Plain-aside at.op _ (λ o. refl)) h.shuts) in
    Came-trans 3 1 m old h.ended new (Came-trans 2 1 m old h.heard h.ended (Came-trans 1 1 m old h.mid h.heard told (Came-news m loss.news h.mid h.heard h.news)) ends) shuts

pub Came-answer : {R : Type 0} (at : At) (a : Answer) (old new : Recorded) (before after : WireLines) (s t : ServerState) (c d : CommandState) →
    ((conn : ℕ) → a ≡ answer.Failed conn → R) → IsAnswer at a old new before after s t c d → Came R (IsOfOp at.op) 5 at.moment old new
Came-answer {R} at (answer.Lent conn) old new before after s t c d f h =
    came 1 5 at.moment old new (omega arith) (Comes-lent at.moment at.op at.host conn old new h.0.adds)
Came-answer {R} at (answer.Refused why) old new before after s t c d f h =
    came 2 5 at.moment old new (omega arith)
    (Comes-trans 1 1 at.moment old h.0.mid new (Comes-not_lent at.moment at.op at.host why old h.0.mid h.0.told) (Comes-unsent at.moment at.op why h.0.mid new h.0.ends))
Came-answer {R} at (answer.Dials conn hello) old new before after s t c d f h =
    let g = h.greeted in
    came 2 5 at.moment old new (omega arith)
    (Comes-trans 1 1 at.moment old g.mid new (Comes-dialled at.moment at.op at.host conn (Some h.request.stream) old g.mid (λ e. absurd (cc)) g.dialled)
    (Comes-greeting at.moment (length g.mid.lists.requests) at.host conn h.request g.mid new g.greets.is_for g.asked))
Came-answer {R} at (answer.Failed conn) old new before after s t c d f h =
    Came-trans 1 4 at.moment old h.mid new
    (came 1 1 at.moment old h.mid (omega arith) (Comes-dialled at.moment at.op at.host conn None old h.mid (λ e. f conn refl) h.dialled))
    (Came-lost at _ h.mid new t d h.lost)
Came-answer {R} at answer.Wait old new before after s t c d f h =
    came 0 5 at.moment old new (omega arith) (Comes-none at.moment old new h.0.unwritten)

-- whatever it was told
pub Appends-told : {R E : Type 0} (at : At) (r : Result Answer E) (old new : Recorded) (before after : WireLines) (s t : ServerState) (c d : CommandState) →
    ((conn : ℕ) → r ≡ Ok (answer.Failed conn) → R) → IfOk r (λ a. IsAnswer at a old new before after s t c d) → OnErr r ((new ≡ old) × AreSame before after) →
    AppendsOf R (IsOfOp at.op) at.moment old new
Appends-told {R} {E} at (Ok a) old new before after s t c d f h e =
    (Came-answer {R = R} at a old new before after s t c d (λ conn is. f conn (ap (λ x. Ok x) is)) h).comes.appends
Appends-told {R} {E} at (Err x) old new before after s t c d f h e = (Comes-none {R = R} at.moment old new e.0).appends

-- behind and ahead of entries aside
pub Rose-wider : (a b c d : ℕ) → a ≤ b → c ≤ d → Rose b c → Rose a d
Rose-wider a b c d before later rose = omega arith

pub Appends-behind : {op : ℕ} (a b c moment : ℕ) (old mid new : Recorded) → a ≤ b → AppendsAside ⊥ moment old mid → AppendsOf (Rose b c) (IsOfOp op) moment mid new →
    AppendsOf (Rose a c) (IsOfOp op) moment old new
Appends-behind {op} a b c moment old mid new later x y =
    grown-trans {R = Rose a c} moment old mid new (grown-weaken moment old mid (λ e. absurd e) (grown-plain moment op old mid x))
    (grown-weaken moment mid new (λ (r : Rose b c). Rose-wider a b c c later (omega arith) r) y)

pub Appends-ahead : {op : ℕ} (a b c moment : ℕ) (old mid new : Recorded) → b ≤ c → AppendsOf (Rose a b) (IsOfOp op) moment old mid → AppendsAside ⊥ moment mid new →
    AppendsOf (Rose a c) (IsOfOp op) moment old new
Appends-ahead {op} a b c moment old mid new later x y =
    grown-trans {R = Rose a c} moment old mid new (grown-weaken moment old mid (λ (r : Rose a b). Rose-wider a a b c (omega arith) later r) x)
    (grown-weaken moment mid new (λ e. absurd e) (grown-plain moment op mid new y))

-- ---- The client behind them

pub IsMoved-answer : (at : At) (a : Answer) (old new : Recorded) (before after : WireLines) (s t : ServerState) (c d : CommandState) → AreAt old.point.state at s c →
    IsAnswer at a old new before after s t c d → IsMoved old new at t d
IsMoved-answer at (answer.Lent conn) old new before after s t c d places h = IsMoved-both old new at t d h.0.moved
IsMoved-answer at (answer.Refused why) old new before after s t c d places h = IsMoved-both old new at t d h.0.moved
IsMoved-answer at (answer.Dials conn hello) old new before after s t c d places h =
    let m = h.greeted.moved in
    record { servers = ap (λ (w : ClientState). w.servers) m; commands = ap (λ (w : ClientState). w.commands) m; sessions = ap (λ (w : ClientState). w.sessions) m }
IsMoved-answer at (answer.Failed conn) old new before after s t c d places h = IsMoved-both old new at t d h.moved
IsMoved-answer at answer.Wait old new before after s t c d places h =
    let e = h.0.server in
    let f = h.0.command in
    IsMoved-none old new at t d h.0.unwritten (record { server = places.server ∙ ap (λ x. Some x) (sym e); command = places.command ∙ ap (λ x. Some x) (sym f) })

time-news : (moment : ℕ) (news : Option ℕ) (old new : Recorded) → news ≡ None → TellsTime moment news old new → new.point.time ≡ old.point.time
time-news moment None old new e told = ap (λ (r : Recorded). r.point.time) told
time-news moment (Some stamp) old new e told = absurd (cc)

pub time-answer : (at : At) (a : Answer) (old new : Recorded) (before after : WireLines) (s t : ServerState) (c d : CommandState) →
    IsAnswer at a old new before after s t c d → new.point.time ≡ old.point.time
time-answer at (answer.Lent conn) old new before after s t c d h = ap (λ (p : Point). p.time) h.0.adds.point_now
time-answer at (answer.Refused why) old new before after s t c d h = ap (λ (p : Point). p.time) h.0.ends.point_now ∙ ap (λ (p : Point). p.time) h.0.told.point_now
time-answer at (answer.Dials conn hello) old new before after s t c d h =
    ap (λ (p : Point). p.time) h.greeted.asked.point_now ∙ ap (λ (p : Point). p.time) h.greeted.dialled.point_now
time-answer at (answer.Failed conn) old new before after s t c d h =
    ap (λ (p : Point). p.time) h.lost.shuts.point_now ∙ ap (λ (p : Point). p.time) h.lost.ends.point_now
    ∙ time-news at.moment None h.lost.mid h.lost.heard refl h.lost.news ∙ ap (λ (p : Point). p.time) h.lost.told.point_now ∙ ap (λ (p : Point). p.time) h.dialled.point_now
time-answer at answer.Wait old new before after s t c d h = ap (λ (r : Recorded). r.point.time) h.0.unwritten

pub check-lines-answer : (at : At) (a : Answer) (old new : Recorded) (before after : WireLines) (s t : ServerState) (c d : CommandState) →
    IsAnswer at a old new before after s t c d → KeepsCheckLines before after
check-lines-answer at (answer.Lent conn) old new before after s t c d h = KeepsCheckLines-same before after h.1
check-lines-answer at (answer.Refused why) old new before after s t c d h = KeepsCheckLines-same before after h.1
check-lines-answer at (answer.Dials conn hello) old new before after s t c d h = KeepsCheckLines-free h.request.stream before after h.unused h.others
check-lines-answer at (answer.Failed conn) old new before after s t c d h = KeepsCheckLines-same before after h.lines
check-lines-answer at answer.Wait old new before after s t c d h = KeepsCheckLines-same before after h.1

-- ---- What must come next

-- an entry of a pool that owes none
abbrev OwesNone : Option PoolEntry → Type 0
OwesNone None = Unit {0}
OwesNone (Some e) = (p : Pool) → pool.owes p e ≡ []

none-by : (e : ℕ → PoolEntry) (o : Option ℕ) → ((t : ℕ) (p : Pool) → pool.owes p (e t) ≡ []) → OwesNone (option_map e o)
none-by e None h = tt
none-by e (Some t) h = h t

none-with : (x : ℕ) (why : Unsent) (h : CheckOut) → IsOfLine why → OwesNone (not_lent_with x why h)
none-with x unsent.PoolLate h of = none-by (λ t. pool.NotLent t pool.Late) (ticket_with x h) (λ t p. refl)
none-with x (unsent.PoolCleared g) h of = none-by (λ t. pool.NotLent t (pool.Cleared g)) (ticket_with x h) (λ t p. refl)
none-with x (unsent.PoolClosed host) h of = elim (host == x) as (λ b. OwesNone (if b then option_map (λ t. pool.NotLent t pool.Closed) (ticket_with x h) else None)) [
  | true ↦ none-by (λ t. pool.NotLent t pool.Closed) (ticket_with x h) (λ t p. refl)
  | false ↦ tt
]
none-with x (unsent.Dial bad) h of = absurd of
none-with x (unsent.Greeting code) h of = absurd of
none-with x (unsent.TooLarge size most) h of = absurd of

none-of : (x : ℕ) (why : Unsent) (o : Option CheckOut) → IsOfLine why → OwesNone (option_and_then (not_lent_with x why) o)
none-of x why None of = tt
none-of x why (Some h) of = none-with x why h of

pool-owes-none : (w : ClientState) (host : ℕ) (o : Option PoolEntry) → OwesNone o → pool_owes w (at_host host o) ≡ []
pool-owes-none w host None h = refl
pool-owes-none w host (Some e) h = by (slice_get w.servers host)
  where
    inside : (p : Pool) (os : List PoolEntry) → owed_in host os p e ≡ []
    inside p [] = ap (λ (es : List PoolEntry). map (λ d. owed.OfPool host) es) (h p)
    inside p (d ∷ ds) = refl

    by : (s : Option ServerState) → owed_of host s e ≡ []
    by None = refl
    by (Some s) = inside s.pool.state s.pool.owed

-- the point behind a refusal and the end that it owes
offers-none : (why : Unsent) (of : IsOfLine why) (w : ClientState) (op : ℕ) → not_lent_offers (endpoint_at w op) why ≡ []
offers-none unsent.PoolLate of w op = refl
offers-none (unsent.PoolCleared g) of w op = refl
offers-none (unsent.PoolClosed host) of w op = refl
offers-none (unsent.Dial bad) of w op = absurd of
offers-none (unsent.Greeting code) of w op = absurd of
offers-none (unsent.TooLarge size most) of w op = absurd of

pub paid-refused : (at : At) (why : Unsent) (old mid new : Recorded) → IsOfLine why → old.point.owed ≡ [] →
    Adds an_entry old.lists at.moment (entry.NotLent at.op at.host why) (fact.NotLent at.op at.host why) old mid →
    Adds an_entry mid.lists at.moment (entry.Ended at.op (attempt.Unsent why)) (fact.Ended at.op (attempt.Unsent why)) mid new → new.point.owed ≡ []
paid-refused at why old mid new of paid told ends =
    let w = old.point.state in
    let o : Option PoolEntry = option_and_then (not_lent_with at.host why) (check_out_of w at.op) in
    let first : mid.point.owed ≡ owed.Ended at.op why ∷ [] =
    ap (λ (p : Point). p.owed) told.point_now
    ∙ ap (λ (os : List Owed). (owed.Ended at.op why ∷ (os ++ not_lent_offers (endpoint_at w at.op) why)) ++ left_owed old.point.owed (fact.NotLent at.op at.host why))
    (pool-owes-none w at.host o (none-of at.host why (check_out_of w at.op) of))
    ∙ ap (λ (os : List Owed). (owed.Ended at.op why ∷ os) ++ left_owed old.point.owed (fact.NotLent at.op at.host why)) (offers-none why of w at.op)
    ∙ ap (λ (os : List Owed). (owed.Ended at.op why ∷ []) ++ left_owed os (fact.NotLent at.op at.host why)) paid in
    ap (λ (p : Point). p.owed) ends.point_now ∙ by why of mid.point.state mid.point.owed first
  where
    by : (u : Unsent) → IsOfLine u → (w : ClientState) (os : List Owed) → os ≡ owed.Ended at.op why ∷ [] →
        end_owes at.op (endpoint_at w at.op) (attempt.Unsent u) ++ left_owed os (fact.Ended at.op (attempt.Unsent u)) ≡ []
    by unsent.PoolLate of w os e = ap (λ (xs : List Owed). drop 1 xs) e
    by (unsent.PoolCleared g) of w os e = ap (λ (xs : List Owed). drop 1 xs) e
    by (unsent.PoolClosed host) of w os e = ap (λ (xs : List Owed). drop 1 xs) e
    by (unsent.Dial bad) of w os e = absurd of
    by (unsent.Greeting code) of w os e = absurd of
    by (unsent.TooLarge size most) of w os e = absurd of

-- the core behind the answer
pub IsBehindAnswer-by : {N : Type 0} (e : Core N) (at : At) (a : Answer) (old new : Recorded) (before after : WireLines) (s t : ServerState) (c d : CommandState) →
    e.trail ≡ new → e.is_stopped ≡ false → e.last ≡ at.moment → e.closings ≤ new.room.steps → old.point.owed ≡ [] → IsPlain a → AreAt old.point.state at s c →
    IsAnswer at a old new before after s t c d → IsBehindAnswer e at.moment at.host d a
IsBehindAnswer-by {N} e at (answer.Lent conn) old new before after s t c d is runs now room paid plain places h = record {
  runs = runs;
  paid = ap (λ (r : Recorded). r.point.owed) is ∙ ap (λ (p : Point). p.owed) h.0.adds.point_now ∙ ap (λ (os : List Owed). left_owed os (fact.Lent at.op at.host conn)) paid;
  now = now;
}
IsBehindAnswer-by {N} e at (answer.Refused why) old new before after s t c d is runs now room paid plain places h = record {
  runs = runs;
  paid = ap (λ (r : Recorded). r.point.owed) is ∙ paid-refused at why old h.0.mid new plain paid h.0.told h.0.ends;
  now = now;
}
IsBehindAnswer-by {N} e at (answer.Dials conn hello) old new before after s t c d is runs now room paid plain places h = record {
  runs = runs;
  paid = ap (λ (r : Recorded). r.point.owed) is ∙ h.greeted.paid;
  now = now;
}
IsBehindAnswer-by {N} e at (answer.Failed conn) old new before after s t c d is runs now room paid plain places h =
    let there : slice_get new.point.state.servers at.host ≡ Some t = ap (λ (w : ClientState). slice_get w.servers at.host) h.moved ∙ slice_get-set_same old.point.state.servers at.host t s places.server in (
      t,
      ap (λ (r : Recorded). slice_get r.point.state.servers at.host) is ∙ there,
      record {
        runs = runs;
        owes = ap (λ (r : Recorded). r.point.owed) is ∙ h.offers;
        at = ap (λ (r : Recorded). r.point.moment) is ∙ ap (λ (p : Point). p.moment) h.lost.shuts.point_now;
        now = now;
        space = let k = ap (λ (r : Recorded). r.room.steps) is in omega arith;
      },
    )
IsBehindAnswer-by {N} e at answer.Wait old new before after s t c d is runs now room paid plain places h =
    let same : e.trail ≡ old = is ∙ h.0.unwritten in (
      record { runs = runs; paid = ap (λ (r : Recorded). r.point.owed) same ∙ paid; now = now },
      (
        s,
        ap (λ (r : Recorded). slice_get r.point.state.servers at.host) same ∙ places.server,
        (h.0.ticket, ap (λ (x : CommandState). x.check_out) h.0.command ∙ h.0.waits, h.0.must),
      ),
    )

-- ---- What the phase comes to

pub broken-at : {N : Type 0} (d : Core N) (moment host generation : ℕ) (address : Address) (old mid : ClientState) (s : ServerState) → slice_get old.servers host ≡ Some s →
    address ≡ s.address → KeepsAddress host old mid → KeepsAddress host mid d.trail.point.state →
    AtServer d.trail.point.state host (λ t. IsBroken d moment t.pool.state.generation t) →
    ((t : ServerState) → slice_get d.trail.point.state.servers host ≡ Some t → generation ≡ t.pool.state.generation) →
    AtServer d.trail.point.state host (λ t. (address ≡ t.address) × IsBroken d moment generation t)
broken-at {N} d moment host generation address old mid s there is first second at by =
    let u = first s there in
    let v = second u.0 u.1 in
    let same : v.0 ≡ at.0 = let e : Some v.0 ≡ Some at.0 = sym v.1 ∙ at.1 in (cc) in (
      at.0,
      at.1,
      (is ∙ sym u.2 ∙ sym v.2 ∙ ap (λ (t : ServerState). t.address) same, subst (λ n. IsBroken d moment n at.0) (sym (by at.0 at.1)) at.2),
    )

pub IsWaiting-line : (client : Client) (w : ClientState) (moment until host other ticket : ℕ) (c : CommandState) → AtServer w host (IsToWait moment host c) →
    c.check_out ≡ Waits other ticket → AtServer w host (λ s. IsWaitLimit s.pool.state ticket until) → moment < until → IsWaiting client w moment until c
IsWaiting-line client w moment until host other ticket c at waits limit later =
    let one : limit.0 ≡ at.0 = let e : Some limit.0 ≡ Some at.0 = sym limit.1 ∙ at.1 in (cc) in
    let same : ticket ≡ at.2.0 = let e : Waits other ticket ≡ Waits host at.2.0 = sym waits ∙ at.2.1 in (cc) in
    record {
      for_what = in_line host at.2.0 at.0 at.2.1 at.1 at.2.2 (subst (λ n. IsWaitLimit at.0.pool.state n until) same (subst (λ (s : ServerState). IsWaitLimit s.pool.state ticket until) one limit.2));
      later = later;
    }

-- ---- A command that waits in line

pub IsInLine-by : (w : ClientState) (at : At) (ticket : ℕ) (s : ServerState) (c : CommandState) → AreAt w at s c → c.check_out ≡ Waits at.host ticket → WaitsAtItsServer c →
    WaitsAt w at.host ticket → IsInLine at s c
IsInLine-by w at ticket s c places waits law stands = record {
  ticket = ticket;
  waits = waits;
  asks = subst (λ k. WaitsBy k c.op.next) waits law;
  there =
      let is : stands.server ≡ s = let e : Some stands.server ≡ Some s = sym stands.there ∙ places.server in (cc) in
      subst (λ (o : Option Ticket). IsSome o) (sym (ap (λ (u : ServerState). ticket_of ticket u.pool.state.waiting) (sym is) ∙ stands.waits)) refl;
}
