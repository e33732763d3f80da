-- A connection that a command dialled is lost.
use Rattle.std.proofs.Common.{◌≡◌, ℕ, Bool, List, [], ◌∷◌, ◌++◌, Option, None, Some, refl, sym, ap, ◌∙◌, subst}
use Rattle.std.proofs.lemmas.Bool.{eq-eqb}
use Rattle.std.proofs.lemmas.List.{append-nil}
use Rattle.std.specs.Option.{option_and_then, option_map}
use Rattle.std.specs.Prelude.{IfSome, slice_get, if◌then◌else◌}
use Rattle.pool_book.specs.declared.answers.CloseReason.TheVariants.{Errored}
use Rattle.pool_book.specs.declared.connections.Held.{Held}
use Rattle.pool_book.specs.Entries as pool
use Rattle.pool_book.specs.Entries.{PoolEntry}
use Rattle.write_retry.specs.declared.events.Unsent.{Unsent}
use Rattle.write_retry.specs.declared.events.Unsent.TheVariants as unsent
use Rattle.desk_trail.specs.Attempts.{Endpoint, endpoint_at, endpoint_in, endpoint_of, endpoint_pending, not_lent_offers}
use Rattle.desk_trail.specs.Clients.{Client}
use Rattle.desk_trail.specs.Facts as fact
use Rattle.desk_trail.specs.Legal.{MayGoOn, Point, StandsAt, point_after}
use Rattle.desk_trail.specs.Owed.{InTurn, Owed, left_owed}
use Rattle.desk_trail.specs.Owed as owed
use Rattle.desk_trail.specs.Pools.{OfHost, PoolAllows, at_host, not_lent_with, owed_in, owed_of, pool_owes, pool_step, pools_after, with_pool}
use Rattle.desk_trail.specs.States.{ClientState, CommandState, Dials, Nothing, ServerState, changed, with_command}
use Rattle.write_retry.specs.declared.attempt_end.AttemptEnd.TheVariants as attempt
use Rattle.desk_trail.specs.declared.entry.Entry.TheVariants as entry
use Rattle.desk_trail.specs.Written.{an_entry}
use Rattle.legal_trail.specs.Recorded.{Adds, Recorded}
use Rattle.server_state.specs.PoolMoves.{MovesBy}
use Rattle.cmd_step.specs.Losses.{HasDialled, IsLoss, IsNews, IsToTell, loss_owes}
use Rattle.cmd_step.specs.Places.{AreAt, with_both}
use Rattle.cmd_step.specs.Times.{MayTell, TellsTime}
use Rattle.cmd_step.specs.declared.losing.Loss.{Loss}
use Rattle.cmd_step.specs.declared.place.At.{At}
use Rattle.cmd_step.proofs.ListLemmas.{changed-there}
use Rattle.cmd_step.proofs.PlaceLemmas.{allows, both}
use Rattle.cmd_step.proofs.StepLemmas.{AreAt-moved, Ends, IsDue, IsDue-moved, Moves, Moves-trans, StandsAt-shut_due, StandsAt-unsent, may-tell, moves-shut, moves-unsent, owing, owing-by, paid, then-news, unsent_by}

pub loss-ends : (host : ℕ) (why : Unsent) → IsLoss why → Ends host why
loss-ends host (unsent.Dial bad) h = record { answers = refl; ends = λ client p moment op. tt; settled = λ op s. refl }
loss-ends host (unsent.Greeting code) h = record { answers = refl; ends = λ client p moment op. tt; settled = λ op s. refl }
loss-ends host unsent.PoolLate h = absurd h
loss-ends host (unsent.PoolCleared g) h = absurd h
loss-ends host (unsent.PoolClosed x) h = absurd h
loss-ends host (unsent.TooLarge size most) h = absurd h

abbrev pub left : CommandState → CommandState
left c = record c { check_out = Nothing }

abbrev pub lost : ℕ → Held → PoolEntry
lost conn h = pool.NotLent h.ticket (pool.Lost conn)

lost-entry : (host ticket conn : ℕ) (why : Unsent) → IsLoss why →
    at_host host (not_lent_with host why (Dials host ticket conn)) ≡ Some (host, pool.NotLent ticket (pool.Lost conn))
lost-entry host ticket conn (unsent.Dial bad) h = ap (λ (b : Bool). at_host host (if b then Some (pool.NotLent ticket (pool.Lost conn)) else None)) (eq-eqb host host refl)
lost-entry host ticket conn (unsent.Greeting code) h = ap (λ (b : Bool). at_host host (if b then Some (pool.NotLent ticket (pool.Lost conn)) else None)) (eq-eqb host host refl)
lost-entry host ticket conn unsent.PoolLate h = absurd h
lost-entry host ticket conn (unsent.PoolCleared g) h = absurd h
lost-entry host ticket conn (unsent.PoolClosed x) h = absurd h
lost-entry host ticket conn (unsent.TooLarge size most) h = absurd h

step : (w : ClientState) (at : At) (conn : ℕ) (why : Unsent) (s : ServerState) (c : CommandState) (d : HasDialled at conn s c) → IsLoss why → slice_get w.commands at.op ≡ Some c →
    pool_step w (fact.NotLent at.op at.host why) ≡ Some (at.host, lost conn d.held)
step w at conn why s c d is there =
    ap (λ (o : Option CommandState). at_host at.host (option_and_then (not_lent_with at.host why) (option_map (λ (x : CommandState). x.check_out) o))) there
    ∙ ap (λ k. at_host at.host (not_lent_with at.host why k)) d.dials
    ∙ lost-entry at.host d.held.ticket conn why is

pub StandsAt-lost : (client : Client) (p : Point) (at : At) (conn : ℕ) (why : Unsent) (s : ServerState) (c : CommandState) → IsToTell p at why → AreAt p.state at s c → s.pool.owed ≡ [] →
    HasDialled at conn s c → IsLoss why → StandsAt client p (record { at = at.moment; what = fact.NotLent at.op at.host why })
StandsAt-lost client p at conn why s c tells places idle d is = record {
  time = tells.time;
  turn = tells.turn;
  going = subst (λ g. MayGoOn g (fact.NotLent at.op at.host why)) (sym tells.goes_on) tt;
  rule = subst (PoolAllows p.state at.moment) (sym (step p.state at conn why s c d is places.command))
      (allows p.state at.moment at.host (lost conn d.held) s places.server idle (d.held, d.pending, refl));
  command = tt;
}

endpoint : (w : ClientState) (at : At) (conn : ℕ) (s : ServerState) (c : CommandState) (d : HasDialled at conn s c) → AreAt w at s c →
    endpoint_at w at.op ≡ Some (record { server = s; generation = d.held.generation })
endpoint w at conn s c d places =
    ap (option_and_then (λ (x : CommandState). endpoint_of w x.check_out)) places.command
    ∙ ap (endpoint_of w) d.dials
    ∙ ap (option_and_then (λ (x : ServerState). endpoint_pending x conn)) places.server
    ∙ ap (endpoint_in s) d.pending

-- the server behind it, of which the connection is to be shut
abbrev pub unshut : ℕ → ℕ → Held → ServerState → ServerState
unshut moment conn h s = owing moment (lost conn h) s (pool.ConnShut conn Errored ∷ [])

pub moves-lost : (client : Client) (p q : Point) (at : At) (conn : ℕ) (why : Unsent) (s : ServerState) (c : CommandState) (d : HasDialled at conn s c) → IsToTell p at why →
    AreAt p.state at s c → s.pool.owed ≡ [] → IsLoss why → q ≡ point_after client p (record { at = at.moment; what = fact.NotLent at.op at.host why }) →
    Moves p q at (unshut at.moment conn d.held s) (left c) (owed.Ended at.op why ∷ owed.OfPool at.host ∷ loss_owes s d.held why)
moves-lost client p q at conn why s c d tells places idle is e =
    let w = p.state in
    let f = fact.NotLent at.op at.host why in
    let by = step w at conn why s c d is places.command in
    record {
      state = ap (λ (x : Point). x.state) e
          ∙ ap (λ (o : Option OfHost). with_command (pools_after w at.moment o) at.op left) by
          ∙ both w at s (unshut at.moment conn d.held s) c (left c) (with_pool at.moment (lost conn d.held)) (changed w.commands at.op left) places.server
          (owing-by at.moment (lost conn d.held) s (pool.ConnShut conn Errored ∷ []) idle refl) (changed-there w.commands at.op c left places.command);
      owes = ap (λ (x : Point). x.owed) e
          ∙ ap (λ (o : Option OfHost). (owed.Ended at.op why ∷ (pool_owes w o ++ not_lent_offers (endpoint_at w at.op) why)) ++ left_owed p.owed f) by
          ∙ ap (λ (o : Option ServerState). (owed.Ended at.op why ∷ (owed_of at.host o (lost conn d.held) ++ not_lent_offers (endpoint_at w at.op) why)) ++ left_owed p.owed f) places.server
          ∙ ap (λ (es : List PoolEntry). (owed.Ended at.op why ∷ (owed_in at.host es s.pool.state (lost conn d.held) ++ not_lent_offers (endpoint_at w at.op) why)) ++ left_owed p.owed f) idle
          ∙ ap (λ (x : Option Endpoint). (owed.Ended at.op why ∷ owed.OfPool at.host ∷ not_lent_offers x why) ++ left_owed p.owed f) (endpoint w at conn s c d places)
          ∙ ap (λ (os : List Owed). (owed.Ended at.op why ∷ owed.OfPool at.host ∷ loss_owes s d.held why) ++ os) tells.alone
          ∙ append-nil (owed.Ended at.op why ∷ owed.OfPool at.host ∷ loss_owes s d.held why);
      now = ap (λ (x : Point). x.moment) e;
    }

-- its cluster time may be told
pub news-lost : (client : Client) (p q : Point) (at : At) (why : Unsent) (news : Option ℕ) (first : Owed) (rest : List Owed) → IsNews p why news → IsDue q at first rest →
    q ≡ point_after client p (record { at = at.moment; what = fact.NotLent at.op at.host why }) → IfSome news (MayTell q at.moment)
news-lost client p q at why None first rest h due e = tt
news-lost client p q at why (Some stamp) first rest h due e =
    may-tell q at first rest stamp p.time due (ap (λ (x : Point). x.is_reply) e ∙ h.0) (ap (λ (x : Point). x.time) e) h.1

-- ---- All of it

-- what is known ahead of it
pub record IsLosing (r : Recorded) (at : At) (loss : Loss) (s : ServerState) (c : CommandState) : Type 0 where
  pub tells : IsToTell r.point at loss.why
  pub places : AreAt r.point.state at s c
  pub idle : s.pool.owed ≡ []
  pub dialled : HasDialled at loss.conn s c
  pub is_loss : IsLoss loss.why

abbrev pub Told : At → Loss → Recorded → Recorded → Type 0
Told at loss r q = Adds an_entry r.lists at.moment (entry.NotLent at.op at.host loss.why) (fact.NotLent at.op at.host loss.why) r q

abbrev pub Ended : At → Loss → Recorded → Recorded → Type 0
Ended at loss r q = Adds an_entry r.lists at.moment (entry.Ended at.op (attempt.Unsent loss.why)) (fact.Ended at.op (attempt.Unsent loss.why)) r q

abbrev pub Shut : At → Loss → Recorded → Recorded → Type 0
Shut at loss r q = Adds an_entry r.lists at.moment (entry.ConnShut at.host loss.conn Errored) (fact.ConnShut at.host loss.conn Errored) r q

abbrev pub offers : Loss → (s : ServerState) → Held → List Owed
offers loss s h = loss_owes s h loss.why

abbrev pub to_shut : At → Loss → ServerState → Held → List Owed
to_shut at loss s h = owed.OfPool at.host ∷ offers loss s h

pub at-told : (r q : Recorded) (at : At) (loss : Loss) (s : ServerState) (c : CommandState) (h : IsLosing r at loss s c) → Told at loss r q →
    Moves r.point q.point at (unshut at.moment loss.conn h.dialled.held s) (left c) (owed.Ended at.op loss.why ∷ to_shut at loss s h.dialled.held)
at-told r q at loss s c h told = moves-lost r.client r.point q.point at loss.conn loss.why s c h.dialled h.tells h.places h.idle h.is_loss told.point_now

pub may-hear : (r q : Recorded) (at : At) (loss : Loss) (s : ServerState) (c : CommandState) (h : IsLosing r at loss s c) → IsNews r.point loss.why loss.news → Told at loss r q →
    IfSome loss.news (MayTell q.point at.moment)
may-hear r q at loss s c h news told =
    news-lost r.client r.point q.point at loss.why loss.news (owed.Ended at.op loss.why) (to_shut at loss s h.dialled.held) news
    (IsDue-moved r.point q.point at (unshut at.moment loss.conn h.dialled.held s) (left c) (owed.Ended at.op loss.why) (to_shut at loss s h.dialled.held) h.tells.goes_on
    (at-told r q at loss s c h told)) told.point_now

pub at-heard : (r q x : Recorded) (at : At) (loss : Loss) (s : ServerState) (c : CommandState) (h : IsLosing r at loss s c) → Told at loss r q → TellsTime at.moment loss.news q x →
    Moves r.point x.point at (unshut at.moment loss.conn h.dialled.held s) (left c) (owed.Ended at.op loss.why ∷ to_shut at loss s h.dialled.held)
at-heard r q x at loss s c h told heard =
    then-news at loss.news r.point q x s (unshut at.moment loss.conn h.dialled.held s) c (left c) (owed.Ended at.op loss.why ∷ to_shut at loss s h.dialled.held) h.places
    (at-told r q at loss s c h told) heard

pub StandsAt-heard : (client : Client) (r x : Recorded) (at : At) (loss : Loss) (s : ServerState) (c : CommandState) (h : IsLosing r at loss s c) →
    Moves r.point x.point at (unshut at.moment loss.conn h.dialled.held s) (left c) (owed.Ended at.op loss.why ∷ to_shut at loss s h.dialled.held) →
    StandsAt client x.point (record { at = at.moment; what = fact.Ended at.op (attempt.Unsent loss.why) })
StandsAt-heard client r x at loss s c h m =
    let t = unshut at.moment loss.conn h.dialled.held s in
    let rest = to_shut at loss s h.dialled.held in
    StandsAt-unsent client x.point at loss.why t (left c) rest (loss-ends at.host loss.why h.is_loss)
    (AreAt-moved r.point x.point at s t c (left c) (owed.Ended at.op loss.why ∷ rest) h.places m) h.dialled.asks
    (IsDue-moved r.point x.point at t (left c) (owed.Ended at.op loss.why) rest h.tells.goes_on m)

pub at-ended : (r x y : Recorded) (at : At) (loss : Loss) (s : ServerState) (c : CommandState) (h : IsLosing r at loss s c) →
    Moves r.point x.point at (unshut at.moment loss.conn h.dialled.held s) (left c) (owed.Ended at.op loss.why ∷ to_shut at loss s h.dialled.held) → Ended at loss x y →
    Moves r.point y.point at (unshut at.moment loss.conn h.dialled.held s) (unsent_by loss.why (left c)) (to_shut at loss s h.dialled.held)
at-ended r x y at loss s c h m ended =
    let t = unshut at.moment loss.conn h.dialled.held s in
    let rest = to_shut at loss s h.dialled.held in
    Moves-trans r.point x.point y.point at t t (left c) (unsent_by loss.why (left c)) (owed.Ended at.op loss.why ∷ rest) rest m
    (moves-unsent x.client x.point y.point at loss.why t (left c) rest (loss-ends at.host loss.why h.is_loss)
    (AreAt-moved r.point x.point at s t c (left c) (owed.Ended at.op loss.why ∷ rest) h.places m)
    (IsDue-moved r.point x.point at t (left c) (owed.Ended at.op loss.why) rest h.tells.goes_on m) ended.point_now)

pub StandsAt-ended : (client : Client) (r y : Recorded) (at : At) (loss : Loss) (s : ServerState) (c : CommandState) (h : IsLosing r at loss s c) →
    Moves r.point y.point at (unshut at.moment loss.conn h.dialled.held s) (unsent_by loss.why (left c)) (to_shut at loss s h.dialled.held) →
    StandsAt client y.point (record { at = at.moment; what = fact.ConnShut at.host loss.conn Errored })
StandsAt-ended client r y at loss s c h m =
    let t = unshut at.moment loss.conn h.dialled.held s in
    let d = unsent_by loss.why (left c) in
    StandsAt-shut_due client y.point at loss.conn Errored t d (offers loss s h.dialled.held) []
    (AreAt-moved r.point y.point at s t c d (to_shut at loss s h.dialled.held) h.places m) refl
    (IsDue-moved r.point y.point at t d (owed.OfPool at.host) (offers loss s h.dialled.held) h.tells.goes_on m)

pub at-shut : (r y z : Recorded) (at : At) (loss : Loss) (s : ServerState) (c : CommandState) (h : IsLosing r at loss s c) →
    Moves r.point y.point at (unshut at.moment loss.conn h.dialled.held s) (unsent_by loss.why (left c)) (to_shut at loss s h.dialled.held) → Shut at loss y z →
    Moves r.point z.point at (paid (unshut at.moment loss.conn h.dialled.held s) []) (unsent_by loss.why (left c)) (offers loss s h.dialled.held)
at-shut r y z at loss s c h m shut =
    let t = unshut at.moment loss.conn h.dialled.held s in
    let d = unsent_by loss.why (left c) in
    Moves-trans r.point y.point z.point at t (paid t []) d d (to_shut at loss s h.dialled.held) (offers loss s h.dialled.held) m
    (moves-shut y.client y.point z.point at loss.conn Errored t d (offers loss s h.dialled.held) [] (AreAt-moved r.point y.point at s t c d (to_shut at loss s h.dialled.held) h.places m) refl
    (IsDue-moved r.point y.point at t d (owed.OfPool at.host) (offers loss s h.dialled.held) h.tells.goes_on m) shut.point_now)

-- the client behind it
pub behind-lost : (p q : Point) (at : At) (conn : ℕ) (h : Held) (s t : ServerState) (d e : CommandState) (os : List Owed) →
    Moves p q at (paid (unshut at.moment conn h s) []) d os → MovesBy at.moment (lost conn h) s t → e ≡ d → q.state ≡ with_both p.state at t e
behind-lost p q at conn h s t d e os m moves command =
    m.state ∙ ap (λ (x : ServerState). with_both p.state at x d) (sym moves.moves) ∙ ap (λ (x : CommandState). with_both p.state at t x) (sym command)
