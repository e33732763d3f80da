-- What a step of a check began, and what it answers.
use Rattle.std.proofs.Common.{◌≡◌, ℕ, false, List, Option, None, Some, sym, ap, ◌∙◌}
use Rattle.std.specs.Prelude.{IfNone, IfOk, slice_get, slice_set}
use Rattle.std.specs.declared.result.Result.{Result}
use Rattle.std.specs.declared.result.Result.TheVariants.{Ok, Err}
use Rattle.bson_doc.specs.declared.cluster_time.ClusterTime.{ClusterTime}
use Rattle.topo_rules.specs.declared.topology.Topology.{Topology}
use Rattle.topo_book.specs.Means.{stands_known}
use Rattle.desk_trail.specs.Checks.{check_begins, is_known_by}
use Rattle.desk_trail.specs.States.{ClientState, ServerState}
use Rattle.legal_trail.specs.Recorded.{Recorded}
use Rattle.wired_trail.specs.Lines.{Lines}
use Rattle.desk_core.specs.Kept.{LeadsTo}
use Rattle.desk_core.specs.Rests.{HasBegun}
use Rattle.desk_core.proofs.ServerLemmas.{slice_get-set_same}

-- behind the two entries with which a check begins
pub HasBegun-led : (old new : Recorded) (before lines : Lines) (topology : Topology) (ss : List ServerState) (time : Option ClusterTime) (last moment k stream : ℕ) (s t : ServerState) →
    LeadsTo old before topology ss time last → LeadsTo new lines topology (slice_set ss k t) time last → slice_get ss k ≡ Some s → t ≡ check_begins moment stream s →
    s.has_left ≡ false → HasBegun old.point.state new.point.state k
HasBegun-led old new before lines topology ss time last moment k stream s t l m there is stays =
    let w : ClientState = old.point.state in
    let v : ClientState = new.point.state in
    let here : slice_get v.servers k ≡ Some t = ap (λ (u : ClientState). slice_get u.servers k) m.state ∙ slice_get-set_same ss k t s there in
    let ahead : slice_get w.servers k ≡ Some s = ap (λ (u : ClientState). slice_get u.servers k) l.state ∙ there in
    let same : v.topology ≡ w.topology = ap (λ (u : ClientState). u.topology) m.state ∙ sym (ap (λ (u : ClientState). u.topology) l.state) in
    record {
      runs = (
        t,
        here,
        (moment, record { stays = ap (λ (u : ServerState). u.has_left) is ∙ stays; since = ap (λ (u : ServerState). u.checks.began) is }),
      );
      known =
          ap (is_known_by v) here ∙ ap (λ (u : ServerState). stands_known v.topology u.address) is
          ∙ ap (λ (y : Topology). stands_known y s.address) same ∙ sym (ap (is_known_by w) ahead);
    }

-- what is so where nothing is waited for
pub ends-by : {E : Type 0} (r : Result (Option ℕ) E) (P Q : Type 0) → (P → Q) → IfOk r (λ o. IfNone o P) → IfOk r (λ o. IfNone o Q)
ends-by (Ok None) P Q f h = f h
ends-by (Ok (Some until)) P Q f h = h
ends-by (Err e) P Q f h = h
