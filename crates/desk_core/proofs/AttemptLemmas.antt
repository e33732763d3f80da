-- The attempt of a command ends behind its request: what that owes, and what it leaves.
use Rattle.std.proofs.Common.{◌≡◌, ◌≤◌, ℕ, zero, suc, ◌+◌, Bool, false, List, [], ◌∷◌, ◌++◌, Option, Some, refl, sym, ap, ◌∙◌, subst, arith}
use Rattle.std.specs.Prelude.{slice_get, slice_set}
use Rattle.net_link.specs.Causes.{Rose}
use Rattle.std.specs.Option.{option_and_then}
use Rattle.std.proofs.lemmas.List.{append-nil}
use Rattle.bson_doc.specs.declared.cluster_time.ClusterTime.{ClusterTime}
use Rattle.topo_rules.specs.declared.topology.Topology.{Topology}
use Rattle.desk_trail.specs.Legal.{Point, point_after}
use Rattle.desk_trail.specs.Owed.{Owed, left_owed}
use Rattle.pool_book.specs.Pool.{held_of}
use Rattle.write_retry.specs.declared.attempt_end.AttemptEnd.{AttemptEnd}
use Rattle.write_retry.specs.declared.attempt_end.AttemptEnd.TheVariants as attempt
use Rattle.cmd_reply.specs.declared.attempt.AttemptResult.{AttemptResult}
use Rattle.desk_trail.specs.Attempts.{Endpoint, IsEnd, EndsBy, endpoint_at, endpoint_in, endpoint_of, end_owes, is_lent}
use Rattle.desk_trail.specs.Clients.{Client, socket_limit}
use Rattle.desk_trail.specs.Facts as fact
use Rattle.desk_trail.specs.States.{ClientState, CommandState, ServerState}
use Rattle.legal_trail.specs.Recorded.{Recorded}
use Rattle.wired_trail.specs.Lines.{Lines}
use Rattle.desk_core.specs.declared.lending.Lent.{Lent}
use Rattle.desk_core.specs.CheckLines.{KeepsCheckLines}
use Rattle.desk_core.specs.Kept.{IsKept}
use Rattle.desk_core.proofs.BesideLemmas.{GoesBeside, GoesBeside-none, IsKept-beside}
use Rattle.desk_core.proofs.PoolLemmas.{servers-led}
use Rattle.desk_core.proofs.ServerLemmas.{slice_get-set_same}
use Rattle.desk_core.specs.Commands.{MovesOne}
use Rattle.desk_core.specs.Lending.{IsLentTo}
use Rattle.desk_core.specs.Receiving.{IsHeard}

-- ---- What it owes

-- the server, and the generation of the connection that is lent to the command
pub endpoint-lent : (w : ClientState) (op : ℕ) (c : CommandState) (l : Lent) (h : IsLentTo w c l) → slice_get w.commands op ≡ Some c →
    endpoint_at w op ≡ Some (record { server = h.server; generation = l.generation })
endpoint-lent w op c l h there =
    ap (option_and_then (λ (d : CommandState). endpoint_of w d.check_out)) there
    ∙ ap (endpoint_of w) h.has
    ∙ ap (option_and_then (λ (s : ServerState). endpoint_in s (held_of l.conn s.pool.state.lent))) h.there
    ∙ ap (endpoint_in h.server) h.lent
    ∙ ap (λ g. Some (let e : Endpoint = record { server = h.server; generation = g } in e)) h.generation

-- its end is one of an attempt
pub IsEnd-by : (client : Client) (w : ClientState) (moment limit asked : ℕ) (c : CommandState) (l : Lent) (r : AttemptResult) → IsLentTo w c l → c.asked ≡ Some asked →
    limit ≡ asked + socket_limit client → IsHeard limit moment r → IsEnd client moment r.end c
IsEnd-by client w moment limit asked c l r lent since until h = record {
  lent = ap is_lent lent.has;
  asked = asked;
  since = since;
  ends = by r.end h.late;
}
  where
    by : (e : AttemptEnd) → (e ≡ attempt.TimedOut → limit ≤ moment) → EndsBy client asked moment e
    by (attempt.Replied reading) f = tt
    by attempt.Cut f = tt
    by attempt.Fault f = tt
    by attempt.TimedOut f = subst (λ n. n ≤ moment) until (f refl)
    by (attempt.Bad at) f = tt
    by (attempt.Unsent u) f = tt

-- what is owed where the attempt ended, and the server is known
pub owed-ended : (client : Client) (moment op : ℕ) (end : AttemptEnd) (p q : Point) (c : CommandState) (l : Lent) (h : IsLentTo p.state c l) (s : ServerState) →
    slice_get p.state.commands op ≡ Some c → p.owed ≡ [] → s ≡ h.server → q ≡ point_after client p (record { at = moment; what = fact.Ended op end }) →
    q.owed ≡ end_owes op (Some (record { server = s; generation = l.generation })) end
owed-ended client moment op end p q c l h s there paid is now =
    ap (λ (x : Point). x.owed) now
    ∙ ap (λ (os : List Owed). end_owes op (endpoint_at p.state op) end ++ left_owed os (fact.Ended op end)) paid
    ∙ append-nil (end_owes op (endpoint_at p.state op) end)
    ∙ ap (λ (o : Option Endpoint). end_owes op o end) (endpoint-lent p.state op c l h there)
    ∙ ap (λ (x : ServerState). end_owes op (Some (let e : Endpoint = record { server = x; generation = l.generation } in e)) end) (sym is)

-- ---- What is kept

-- behind an entry of a command that leaves the servers as they are
pub IsKept-entry : (n : ℕ) (old new : Recorded) (before lines : Lines) (topology : Topology) (ss : List ServerState) (time : Option ClusterTime) (count last moment : ℕ) (stopped : Bool) →
    IsKept old before topology ss time count last stopped → stopped ≡ false → GoesBeside 1 old new → new.point.state.servers ≡ old.point.state.servers →
    new.point.time ≡ old.point.time → new.point.moment ≡ moment → last ≡ moment → old.room.steps ≡ new.room.steps + 1 → count + (n + 1) ≤ old.room.steps →
    KeepsCheckLines before lines → IsKept new lines topology ss time count last stopped
IsKept-entry n old new before lines topology ss time count last moment stopped k runs goes servers times at now used space keeps =
    let l = k.leads runs in
    let was = k.counted in
    IsKept-beside 1 old new before lines topology ss ss time time count count last stopped k runs goes (servers ∙ servers-led old before topology ss time last l) (times ∙ l.greatest)
    (omega arith) was (omega arith) (λ x t e. (l.kept x t e).paid) keeps

-- where the trail is as it was, and the lines of checks are
pub IsKept-lines : (old new : Recorded) (before lines : Lines) (topology : Topology) (ss : List ServerState) (time : Option ClusterTime) (count last : ℕ) (stopped : Bool) →
    IsKept old before topology ss time count last stopped → stopped ≡ false → new ≡ old → KeepsCheckLines before lines → IsKept new lines topology ss time count last stopped
IsKept-lines old new before lines topology ss time count last stopped k runs same keeps =
    let l = k.leads runs in
    let counted = k.counted in
    let room = l.room in
    subst (λ (t : Recorded). IsKept t lines topology ss time count last stopped) (sym same)
    (IsKept-beside 0 old old before lines topology ss ss time time count count last stopped k runs (GoesBeside-none old old old.room refl)
    (servers-led old before topology ss time last l) l.greatest l.moment counted (omega arith) (λ x t e. (l.kept x t e).paid) keeps)

-- ---- What moves

set-same : {A : Type 0} (xs : List A) (k : ℕ) (x : A) → slice_get xs k ≡ Some x → slice_set xs k x ≡ xs
set-same [] k x h = refl
set-same (z ∷ zs) zero x h = let is : x ≡ z = (cc) in ap (λ v. v ∷ zs) is
set-same (z ∷ zs) (suc k) x h = ap (λ vs. z ∷ vs) (set-same zs k x h)

-- the command stays as it is
pub MovesOne-same : (op : ℕ) (c : CommandState) (old new : Recorded) → new ≡ old → slice_get old.point.state.commands op ≡ Some c → MovesOne op c old new
MovesOne-same op c old new same there = record {
  commands = ap (λ (t : Recorded). t.point.state.commands) same ∙ sym (set-same old.point.state.commands op c there);
  sessions = ap (λ (t : Recorded). t.point.state.sessions) same;
  ids = ap (λ (t : Recorded). t.lists.sessions) same;
}

-- where it moved, it stands so
pub there-moved : (op : ℕ) (c d : CommandState) (old new : Recorded) → MovesOne op d old new → slice_get old.point.state.commands op ≡ Some c →
    slice_get new.point.state.commands op ≡ Some d
there-moved op c d old new m there =
    ap (λ (cs : List CommandState). slice_get cs op) m.commands ∙ slice_get-set_same old.point.state.commands op d c there

-- a count that rose later on
pub rose-from : (a b c : ℕ) → a ≤ b → Rose b c → Rose a c
rose-from a b c le r = omega (arith, le, r)
