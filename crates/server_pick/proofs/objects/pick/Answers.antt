use Rattle.std.proofs.Common.{sym, ap, subst, ◌∙◌, arith}
use Rattle.std.specs.Prelude.{string_capacity}
use Rattle.server_pick.specs.Candidates.{candidates}
use Rattle.server_pick.specs.Concluded.{outcome}
use Rattle.server_pick.specs.Objects.{Stays}
use Rattle.server_pick.specs.Picks.{picks}
use Rattle.server_pick.specs.Prepared.{HasRoomAt, IsTrueTo}
use Rattle.server_pick.specs.Runs.{Runs}
use Rattle.server_pick.specs.Windows.{choice, window}
use Rattle.server_pick.specs.declared.candidate.Candidate.{Candidate}
use Rattle.server_pick.proofs.AskLemmas.{hosts_of, runs_of_asks, all_of_asks, length_of_asks}
use Rattle.server_pick.proofs.PickLemmas.{picks_kept}
use Rattle.server_pick.proofs.objects.pick.Goals as goal

pub conclude-picked-requires-clause-hosts_room : goal.conclude-picked-requires-clause-hosts_room
conclude-picked-requires-clause-hosts_room g c =
    omega (arith, length_of_asks (λ p. (goal.Picker-dyn g p).allows p.1) (Stays (λ p. (goal.Picker-dyn g p).follows p.1)) _ _ _ _ c.ask_any_all-allowed.ensures, c.in-Ok.ensures.room.hosts_room)

pub conclude-picked-requires-clause-name_room : goal.conclude-picked-requires-clause-name_room
conclude-picked-requires-clause-name_room g c =
    all_of_asks (λ p. (goal.Picker-dyn g p).allows p.1) (Stays (λ p. (goal.Picker-dyn g p).follows p.1)) (HasRoomAt (string_capacity c.in-Ok.prepared.room.name)) _ _ _ _ c.ask_any_all-allowed.ensures
    c.in-Ok.ensures.room.name_room

pub returns-clause-run : goal.returns-clause-run
returns-clause-run g c =
    λ _. subst (λ hs. Runs (λ p. (goal.Picker-dyn g p).allows p.1) (Stays (λ p. (goal.Picker-dyn g p).follows p.1)) c.args.picker.now
    (candidates c.args.topology.now c.args.criteria.now ((goal.Loads-dyn g c.args.loads.now).load c.args.loads.now.1)) hs (c.args.picker.now.0, c.ask_any_all-allowed.new.picker))
    (sym c.conclude-picked.ensures.hosts)
    (subst (λ cs. Runs (λ p. (goal.Picker-dyn g p).allows p.1) (Stays (λ p. (goal.Picker-dyn g p).follows p.1)) c.args.picker.now cs (hosts_of c.ask_any_all-allowed.result.items) (c.args.picker.now.0, c.ask_any_all-allowed.new.picker))
    c.in-Ok.ensures.candidates
    (runs_of_asks (λ p. (goal.Picker-dyn g p).allows p.1) (Stays (λ p. (goal.Picker-dyn g p).follows p.1)) _ _ _ _ c.ask_any_all-allowed.ensures))

pub returns-clause-answer : goal.returns-clause-answer
returns-clause-answer g c =
    λ _. c.conclude-picked.ensures.picked
    ∙ ap (λ o. outcome o (choice (λ (k : Candidate). k.in_flight) c.args.w1 c.args.w2 (window (λ (k : Candidate). k.mean) c.args.criteria.now.threshold_micros c.ask_any_all-allowed.result.items))) c.in-Ok.ensures.room.misfit
    ∙ sym (picks_kept c.args.topology.now.servers c.args.criteria.now.threshold_micros ((goal.Loads-dyn g c.args.loads.now).load c.args.loads.now.1) c.args.w1 c.args.w2 c.ask_any_all-allowed.result.items
    (all_of_asks (λ p. (goal.Picker-dyn g p).allows p.1) (Stays (λ p. (goal.Picker-dyn g p).follows p.1)) (IsTrueTo c.args.topology.now.servers ((goal.Loads-dyn g c.args.loads.now).load c.args.loads.now.1)) _ _ _ _
    c.ask_any_all-allowed.ensures c.in-Ok.ensures.facts))
    ∙ ap (λ hs. picks c.args.topology.now.servers c.args.criteria.now.threshold_micros hs ((goal.Loads-dyn g c.args.loads.now).load c.args.loads.now.1) c.args.w1 c.args.w2) (sym c.conclude-picked.ensures.hosts)
