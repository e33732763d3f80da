use Rattle.std.proofs.Common.{◌≡◌, ◌≤◌, ℕ, ◌+◌, [], Option, Some, refl, sym, ap, ◌∙◌, subst, arith}
use Rattle.std.specs.Option.{IsSome}
use Rattle.std.specs.Prelude.{slice_get, length}
use Rattle.std.proofs.lemmas.Option.{slice_get_within}
use Rattle.net_link.specs.Causes.{Rose}
use Rattle.topo_book.specs.Means.{stands_known}
use Rattle.desk_trail.specs.declared.entry.Entry.TheVariants as entry_of
use Rattle.desk_trail.specs.declared.room.Room.{Room}
use Rattle.desk_trail.specs.Checks.{AtServer, Runs, check_ends, kept_at, stream_kept}
use Rattle.desk_trail.specs.Clients.{connect_limit}
use Rattle.desk_trail.specs.Legal.{Point}
use Rattle.desk_trail.specs.States.{ServerState, ClientState}
use Rattle.desk_trail.specs.Written.{IsAtLeast}
use Rattle.legal_trail.specs.Recorded.{Recorded}
use Rattle.wired_trail.specs.Lines.{Lines, line_at}
use Rattle.desk_core.specs.Ends.{IsEndBy}
use Rattle.desk_core.specs.Kept.{IsKept}
use Rattle.desk_core.specs.Rests.{HasEnded}
use Rattle.desk_core.specs.Sights.{IsAwaited}
use Rattle.desk_core.proofs.HeardLemmas.{broken-by, check-came, check-heard, check-reply}
use Rattle.desk_core.proofs.AppendsLemmas.{Appends-refl, Appends-room}
use Rattle.desk_core.proofs.CheckLemmas.{EndsOn, IsKept-ended, IsOwedBy, IsOwedBy-by, OnlyAt, asks_of-by, others_same}
use Rattle.desk_core.proofs.DriveLemmas.{Appends-ended, EndsOn-by, IsDriven, IsDriven-of, IsKept-still, IsReply-by, IsRunning, IsRunning-of, Rose-by, StandsAt-driven, length-names, not-undialled, owed-ended}
use Rattle.desk_core.proofs.DropLemmas.{read-there}
use Rattle.desk_core.proofs.KeptLemmas.{IsKept-room}
use Rattle.desk_core.proofs.RestLemmas.{HasEnded-driven, at-ended}
use Rattle.desk_core.proofs.state.Core.drive_check.Goals.{in_default-via-in-Some+in_default, in_default-via-in_default}
use Rattle.desk_core.proofs.state.Core.drive_check.Goals as goal

pub returns-in_err-room-clause-appends : goal.returns-in_err-room-clause-appends
returns-in_err-room-clause-appends g c =
    rw (← c.self.view_is) (Appends-refl c.args.moment c.self.inside.wired.trail)

pub invariant_of-self : goal.invariant_of-self
invariant_of-self g c =
    IsKept-room c.self.inside.wired c.reserve_beside.new.wired c.self.inside.topology.topology c.self.inside.servers.items c.self.inside.gossip c.self.inside.closings c.self.inside.last c.self.inside.stopped c.reserve_beside.ensures.same c.reserve_beside.ensures.kept c.self.invariant

pub returns-in_err-reserve_beside-clause-appends : goal.returns-in_err-reserve_beside-clause-appends
returns-in_err-reserve_beside-clause-appends g c =
    rw (← c.self.view_is)
    (Appends-room c.args.moment c.self.inside.wired.trail c.reserve_beside.new.wired.trail c.reserve_beside.new.wired.trail.room (ap (λ s. s.trail) c.reserve_beside.ensures.same))

pub index-server-requires : goal.index-server-requires
index-server-requires g c =
    let ready = rw (← c.self.view_is) at c.requires.ready in
    let runs = rw (← c.self.view_is) at c.requires.runs in
    let r : Recorded = c.reserve_beside.new.wired.trail in
    let same = c.reserve_beside.ensures.same in
    let point : r.point ≡ c.self.inside.wired.trail.point = ap (λ s. s.trail.point) same in
    let kept : IsKept r c.reserve_beside.new.wired.lines c.self.inside.topology.topology c.self.inside.servers.items c.self.inside.gossip c.self.inside.closings c.self.inside.last c.self.inside.stopped =
    IsKept-room c.self.inside.wired c.reserve_beside.new.wired c.self.inside.topology.topology c.self.inside.servers.items c.self.inside.gossip c.self.inside.closings c.self.inside.last c.self.inside.stopped same c.reserve_beside.ensures.kept c.self.invariant in
    let running : IsRunning r c.reserve_beside.new.wired.lines c.self.inside.servers.items c.args.host =
    IsRunning-of r c.reserve_beside.new.wired.lines c.self.inside.topology.topology c.self.inside.servers.items c.self.inside.gossip c.self.inside.closings c.self.inside.last c.self.inside.stopped c.args.host kept ready.runs
    (subst (λ (p : Point). AtServer p.state c.args.host (λ s. (began : ℕ) × Runs began s)) (sym point) runs) in
    let within = slice_get_within c.self.inside.servers.items c.args.host running.server running.there in
    omega (arith, c.self.inside.servers.ok)

pub began-requires : goal.began-requires
began-requires g c =
    let ready = rw (← c.self.view_is) at c.requires.ready in
    let runs = rw (← c.self.view_is) at c.requires.runs in
    let r : Recorded = c.reserve_beside.new.wired.trail in
    let same = c.reserve_beside.ensures.same in
    let point : r.point ≡ c.self.inside.wired.trail.point = ap (λ s. s.trail.point) same in
    let kept : IsKept r c.reserve_beside.new.wired.lines c.self.inside.topology.topology c.self.inside.servers.items c.self.inside.gossip c.self.inside.closings c.self.inside.last c.self.inside.stopped =
    IsKept-room c.self.inside.wired c.reserve_beside.new.wired c.self.inside.topology.topology c.self.inside.servers.items c.self.inside.gossip c.self.inside.closings c.self.inside.last c.self.inside.stopped same c.reserve_beside.ensures.kept c.self.invariant in
    let running : IsRunning r c.reserve_beside.new.wired.lines c.self.inside.servers.items c.args.host =
    IsRunning-of r c.reserve_beside.new.wired.lines c.self.inside.topology.topology c.self.inside.servers.items c.self.inside.gossip c.self.inside.closings c.self.inside.last c.self.inside.stopped c.args.host kept ready.runs
    (subst (λ (p : Point). AtServer p.state c.args.host (λ s. (began : ℕ) × Runs began s)) (sym point) runs) in
    let is : c.index-server.result.now ≡ running.server =
    read-there c.self.inside.servers.items c.args.host running.server c.index-server.result.now running.there c.index-server.ensures in
    ap (λ (s : ServerState). s.has_left) is ∙ running.runs.stays

pub unreachable-requires : goal.unreachable-requires
unreachable-requires g c =
    let ready = rw (← c.self.view_is) at c.requires.ready in
    let runs = rw (← c.self.view_is) at c.requires.runs in
    let r : Recorded = c.reserve_beside.new.wired.trail in
    let same = c.reserve_beside.ensures.same in
    let point : r.point ≡ c.self.inside.wired.trail.point = ap (λ s. s.trail.point) same in
    let kept : IsKept r c.reserve_beside.new.wired.lines c.self.inside.topology.topology c.self.inside.servers.items c.self.inside.gossip c.self.inside.closings c.self.inside.last c.self.inside.stopped =
    IsKept-room c.self.inside.wired c.reserve_beside.new.wired c.self.inside.topology.topology c.self.inside.servers.items c.self.inside.gossip c.self.inside.closings c.self.inside.last c.self.inside.stopped same c.reserve_beside.ensures.kept c.self.invariant in
    let running : IsRunning r c.reserve_beside.new.wired.lines c.self.inside.servers.items c.args.host =
    IsRunning-of r c.reserve_beside.new.wired.lines c.self.inside.topology.topology c.self.inside.servers.items c.self.inside.gossip c.self.inside.closings c.self.inside.last c.self.inside.stopped c.args.host kept ready.runs
    (subst (λ (p : Point). AtServer p.state c.args.host (λ s. (began : ℕ) × Runs began s)) (sym point) runs) in
    let is : c.index-server.result.now ≡ running.server =
    read-there c.self.inside.servers.items c.args.host running.server c.index-server.result.now running.there c.index-server.ensures in
    let on : c.check_stream.result ≡ Some running.on.stream = c.check_stream.ensures.stream ∙ ap (λ (s : ServerState). s.check_stream) is ∙ running.on.is in
    let since : c.began.result ≡ Some running.since = c.began.ensures.value ∙ ap (λ (s : ServerState). s.checks.began) is ∙ running.runs.since in
    elim c.in_default.branch [
      | in_default-via-in-Some+in_default w ↦ let none = w.in_default.is-1 in absurd (cc)
      | in_default-via-in_default w ↦ let none = w.in_default.is-0 in absurd (cc)
    ]

pub drive-requires-clause-there : goal.drive-requires-clause-there
drive-requires-clause-there g c =
    let ready = rw (← c.self.view_is) at c.requires.ready in
    let runs = rw (← c.self.view_is) at c.requires.runs in
    let r : Recorded = c.reserve_beside.new.wired.trail in
    let same = c.reserve_beside.ensures.same in
    let point : r.point ≡ c.self.inside.wired.trail.point = ap (λ s. s.trail.point) same in
    let kept : IsKept r c.reserve_beside.new.wired.lines c.self.inside.topology.topology c.self.inside.servers.items c.self.inside.gossip c.self.inside.closings c.self.inside.last c.self.inside.stopped =
    IsKept-room c.self.inside.wired c.reserve_beside.new.wired c.self.inside.topology.topology c.self.inside.servers.items c.self.inside.gossip c.self.inside.closings c.self.inside.last c.self.inside.stopped same c.reserve_beside.ensures.kept c.self.invariant in
    let running : IsRunning r c.reserve_beside.new.wired.lines c.self.inside.servers.items c.args.host =
    IsRunning-of r c.reserve_beside.new.wired.lines c.self.inside.topology.topology c.self.inside.servers.items c.self.inside.gossip c.self.inside.closings c.self.inside.last c.self.inside.stopped c.args.host kept ready.runs
    (subst (λ (p : Point). AtServer p.state c.args.host (λ s. (began : ℕ) × Runs began s)) (sym point) runs) in
    let d : IsDriven r c.reserve_beside.new.wired.lines c.self.inside.servers.items c.args.host c.in-Some-Some.stream c.in-Some-Some.began =
    IsDriven-of r c.reserve_beside.new.wired.lines c.self.inside.servers.items c.args.host c.in-Some-Some.stream c.in-Some-Some.began c.index-server.result.now running c.index-server.ensures
    (sym c.check_stream.ensures.stream ∙ c.in-Some-Some.is-0) (sym c.began.ensures.value ∙ c.in-Some-Some.is-1) in
    record { line = d.line; there = d.line_there }

pub invariant_of-self-in-Ok-None : goal.invariant_of-self-in-Ok-None
invariant_of-self-in-Ok-None g c =
    let ready = rw (← c.self.view_is) at c.requires.ready in
    let runs = rw (← c.self.view_is) at c.requires.runs in
    let r : Recorded = c.reserve_beside.new.wired.trail in
    let same = c.reserve_beside.ensures.same in
    let point : r.point ≡ c.self.inside.wired.trail.point = ap (λ s. s.trail.point) same in
    let kept : IsKept r c.reserve_beside.new.wired.lines c.self.inside.topology.topology c.self.inside.servers.items c.self.inside.gossip c.self.inside.closings c.self.inside.last c.self.inside.stopped =
    IsKept-room c.self.inside.wired c.reserve_beside.new.wired c.self.inside.topology.topology c.self.inside.servers.items c.self.inside.gossip c.self.inside.closings c.self.inside.last c.self.inside.stopped same c.reserve_beside.ensures.kept c.self.invariant in
    let running : IsRunning r c.reserve_beside.new.wired.lines c.self.inside.servers.items c.args.host =
    IsRunning-of r c.reserve_beside.new.wired.lines c.self.inside.topology.topology c.self.inside.servers.items c.self.inside.gossip c.self.inside.closings c.self.inside.last c.self.inside.stopped c.args.host kept ready.runs
    (subst (λ (p : Point). AtServer p.state c.args.host (λ s. (began : ℕ) × Runs began s)) (sym point) runs) in
    let d : IsDriven r c.reserve_beside.new.wired.lines c.self.inside.servers.items c.args.host c.in-Some-Some.stream c.in-Some-Some.began =
    IsDriven-of r c.reserve_beside.new.wired.lines c.self.inside.servers.items c.args.host c.in-Some-Some.stream c.in-Some-Some.began c.index-server.result.now running c.index-server.ensures
    (sym c.check_stream.ensures.stream ∙ c.in-Some-Some.is-0) (sym c.began.ensures.value ∙ c.in-Some-Some.is-1) in
    IsKept-still r c.drive.new.wired.trail c.reserve_beside.new.wired.lines c.drive.new.wired.lines c.self.inside.topology.topology c.self.inside.servers.items c.self.inside.gossip c.self.inside.closings c.self.inside.last c.args.host c.in-Some-Some.stream c.in-Some-Some.began c.self.inside.stopped d c.drive.ensures.trail c.drive.ensures.others (rw c.in-Ok-None.field-0-is at c.in-Ok-None.ensures.waits) kept

pub index-requires : goal.index-requires
index-requires g c =
    let ready = rw (← c.self.view_is) at c.requires.ready in
    let runs = rw (← c.self.view_is) at c.requires.runs in
    let r : Recorded = c.reserve_beside.new.wired.trail in
    let same = c.reserve_beside.ensures.same in
    let point : r.point ≡ c.self.inside.wired.trail.point = ap (λ s. s.trail.point) same in
    let kept : IsKept r c.reserve_beside.new.wired.lines c.self.inside.topology.topology c.self.inside.servers.items c.self.inside.gossip c.self.inside.closings c.self.inside.last c.self.inside.stopped =
    IsKept-room c.self.inside.wired c.reserve_beside.new.wired c.self.inside.topology.topology c.self.inside.servers.items c.self.inside.gossip c.self.inside.closings c.self.inside.last c.self.inside.stopped same c.reserve_beside.ensures.kept c.self.invariant in
    let running : IsRunning r c.reserve_beside.new.wired.lines c.self.inside.servers.items c.args.host =
    IsRunning-of r c.reserve_beside.new.wired.lines c.self.inside.topology.topology c.self.inside.servers.items c.self.inside.gossip c.self.inside.closings c.self.inside.last c.self.inside.stopped c.args.host kept ready.runs
    (subst (λ (p : Point). AtServer p.state c.args.host (λ s. (began : ℕ) × Runs began s)) (sym point) runs) in
    let within = slice_get_within c.self.inside.servers.items c.args.host running.server running.there in
    omega (arith, c.self.inside.servers.ok)

pub tell_end-requires-clause-stands : goal.tell_end-requires-clause-stands
tell_end-requires-clause-stands g c =
    let ready = rw (← c.self.view_is) at c.requires.ready in
    let runs = rw (← c.self.view_is) at c.requires.runs in
    let r : Recorded = c.reserve_beside.new.wired.trail in
    let same = c.reserve_beside.ensures.same in
    let point : r.point ≡ c.self.inside.wired.trail.point = ap (λ s. s.trail.point) same in
    let kept : IsKept r c.reserve_beside.new.wired.lines c.self.inside.topology.topology c.self.inside.servers.items c.self.inside.gossip c.self.inside.closings c.self.inside.last c.self.inside.stopped =
    IsKept-room c.self.inside.wired c.reserve_beside.new.wired c.self.inside.topology.topology c.self.inside.servers.items c.self.inside.gossip c.self.inside.closings c.self.inside.last c.self.inside.stopped same c.reserve_beside.ensures.kept c.self.invariant in
    let running : IsRunning r c.reserve_beside.new.wired.lines c.self.inside.servers.items c.args.host =
    IsRunning-of r c.reserve_beside.new.wired.lines c.self.inside.topology.topology c.self.inside.servers.items c.self.inside.gossip c.self.inside.closings c.self.inside.last c.self.inside.stopped c.args.host kept ready.runs
    (subst (λ (p : Point). AtServer p.state c.args.host (λ s. (began : ℕ) × Runs began s)) (sym point) runs) in
    let d : IsDriven r c.reserve_beside.new.wired.lines c.self.inside.servers.items c.args.host c.in-Some-Some.stream c.in-Some-Some.began =
    IsDriven-of r c.reserve_beside.new.wired.lines c.self.inside.servers.items c.args.host c.in-Some-Some.stream c.in-Some-Some.began c.index-server.result.now running c.index-server.ensures
    (sym c.check_stream.ensures.stream ∙ c.in-Some-Some.is-0) (sym c.began.ensures.value ∙ c.in-Some-Some.is-1) in
    let paid : r.point.owed ≡ [] = ap (λ (p : Point). p.owed) point ∙ ready.paid in
    let ends = rw c.in-Ok-Some.field-0-is at c.in-Ok-Some.ensures.ends in
    let limits : c.limit_of-limit.result ≡ c.in-Some-Some.began + connect_limit r.client = c.limit_of-limit.ensures r.client (sym c.settings.ensures.value) in
    let h = kept.leads ready.runs in
    let moment = h.moment in
    let now = ready.now in
    StandsAt-driven r c.drive.new.wired.trail c.reserve_beside.new.wired.lines c.self.inside.servers.items c.args.host c.in-Some-Some.stream c.in-Some-Some.began c.limit_of-limit.result c.args.moment ends.0 c.in-Ok-Some.end.event c.in-Ok-Some.end.how c.host.result.now d
    c.drive.ensures.trail paid (omega arith) limits ends.1

pub index_mut-server-requires : goal.index_mut-server-requires
index_mut-server-requires g c =
    let ready = rw (← c.self.view_is) at c.requires.ready in
    let runs = rw (← c.self.view_is) at c.requires.runs in
    let r : Recorded = c.reserve_beside.new.wired.trail in
    let same = c.reserve_beside.ensures.same in
    let point : r.point ≡ c.self.inside.wired.trail.point = ap (λ s. s.trail.point) same in
    let kept : IsKept r c.reserve_beside.new.wired.lines c.self.inside.topology.topology c.self.inside.servers.items c.self.inside.gossip c.self.inside.closings c.self.inside.last c.self.inside.stopped =
    IsKept-room c.self.inside.wired c.reserve_beside.new.wired c.self.inside.topology.topology c.self.inside.servers.items c.self.inside.gossip c.self.inside.closings c.self.inside.last c.self.inside.stopped same c.reserve_beside.ensures.kept c.self.invariant in
    let running : IsRunning r c.reserve_beside.new.wired.lines c.self.inside.servers.items c.args.host =
    IsRunning-of r c.reserve_beside.new.wired.lines c.self.inside.topology.topology c.self.inside.servers.items c.self.inside.gossip c.self.inside.closings c.self.inside.last c.self.inside.stopped c.args.host kept ready.runs
    (subst (λ (p : Point). AtServer p.state c.args.host (λ s. (began : ℕ) × Runs began s)) (sym point) runs) in
    let within = slice_get_within c.self.inside.servers.items c.args.host running.server running.there in
    omega (arith, c.self.inside.servers.ok)

pub end_check-requires-clause-stays : goal.end_check-requires-clause-stays
end_check-requires-clause-stays g c =
    let ready = rw (← c.self.view_is) at c.requires.ready in
    let runs = rw (← c.self.view_is) at c.requires.runs in
    let r : Recorded = c.reserve_beside.new.wired.trail in
    let same = c.reserve_beside.ensures.same in
    let point : r.point ≡ c.self.inside.wired.trail.point = ap (λ s. s.trail.point) same in
    let kept : IsKept r c.reserve_beside.new.wired.lines c.self.inside.topology.topology c.self.inside.servers.items c.self.inside.gossip c.self.inside.closings c.self.inside.last c.self.inside.stopped =
    IsKept-room c.self.inside.wired c.reserve_beside.new.wired c.self.inside.topology.topology c.self.inside.servers.items c.self.inside.gossip c.self.inside.closings c.self.inside.last c.self.inside.stopped same c.reserve_beside.ensures.kept c.self.invariant in
    let running : IsRunning r c.reserve_beside.new.wired.lines c.self.inside.servers.items c.args.host =
    IsRunning-of r c.reserve_beside.new.wired.lines c.self.inside.topology.topology c.self.inside.servers.items c.self.inside.gossip c.self.inside.closings c.self.inside.last c.self.inside.stopped c.args.host kept ready.runs
    (subst (λ (p : Point). AtServer p.state c.args.host (λ s. (began : ℕ) × Runs began s)) (sym point) runs) in
    let d : IsDriven r c.reserve_beside.new.wired.lines c.self.inside.servers.items c.args.host c.in-Some-Some.stream c.in-Some-Some.began =
    IsDriven-of r c.reserve_beside.new.wired.lines c.self.inside.servers.items c.args.host c.in-Some-Some.stream c.in-Some-Some.began c.index-server.result.now running c.index-server.ensures
    (sym c.check_stream.ensures.stream ∙ c.in-Some-Some.is-0) (sym c.began.ensures.value ∙ c.in-Some-Some.is-1) in
    let is_2 : c.index_mut-server.result.now ≡ d.server =
    read-there c.self.inside.servers.items c.args.host d.server c.index_mut-server.result.now d.there c.index_mut-server.ensures.value in
    ap (λ (s : ServerState). s.has_left) is_2 ∙ d.runs.stays

pub end_check-requires-clause-running : goal.end_check-requires-clause-running
end_check-requires-clause-running g c =
    let ready = rw (← c.self.view_is) at c.requires.ready in
    let runs = rw (← c.self.view_is) at c.requires.runs in
    let r : Recorded = c.reserve_beside.new.wired.trail in
    let same = c.reserve_beside.ensures.same in
    let point : r.point ≡ c.self.inside.wired.trail.point = ap (λ s. s.trail.point) same in
    let kept : IsKept r c.reserve_beside.new.wired.lines c.self.inside.topology.topology c.self.inside.servers.items c.self.inside.gossip c.self.inside.closings c.self.inside.last c.self.inside.stopped =
    IsKept-room c.self.inside.wired c.reserve_beside.new.wired c.self.inside.topology.topology c.self.inside.servers.items c.self.inside.gossip c.self.inside.closings c.self.inside.last c.self.inside.stopped same c.reserve_beside.ensures.kept c.self.invariant in
    let running : IsRunning r c.reserve_beside.new.wired.lines c.self.inside.servers.items c.args.host =
    IsRunning-of r c.reserve_beside.new.wired.lines c.self.inside.topology.topology c.self.inside.servers.items c.self.inside.gossip c.self.inside.closings c.self.inside.last c.self.inside.stopped c.args.host kept ready.runs
    (subst (λ (p : Point). AtServer p.state c.args.host (λ s. (began : ℕ) × Runs began s)) (sym point) runs) in
    let d : IsDriven r c.reserve_beside.new.wired.lines c.self.inside.servers.items c.args.host c.in-Some-Some.stream c.in-Some-Some.began =
    IsDriven-of r c.reserve_beside.new.wired.lines c.self.inside.servers.items c.args.host c.in-Some-Some.stream c.in-Some-Some.began c.index-server.result.now running c.index-server.ensures
    (sym c.check_stream.ensures.stream ∙ c.in-Some-Some.is-0) (sym c.began.ensures.value ∙ c.in-Some-Some.is-1) in
    let is_2 : c.index_mut-server.result.now ≡ d.server =
    read-there c.self.inside.servers.items c.args.host d.server c.index_mut-server.result.now d.there c.index_mut-server.ensures.value in
    λ n. subst (λ (o : Option ℕ). IsSome o) (sym (ap (λ (s : ServerState). s.checks.began) is_2 ∙ d.runs.since)) refl

pub invariant_of-self-in-Ok-Some : goal.invariant_of-self-in-Ok-Some
invariant_of-self-in-Ok-Some g c =
    let ready = rw (← c.self.view_is) at c.requires.ready in
    let runs = rw (← c.self.view_is) at c.requires.runs in
    let r : Recorded = c.reserve_beside.new.wired.trail in
    let same = c.reserve_beside.ensures.same in
    let point : r.point ≡ c.self.inside.wired.trail.point = ap (λ s. s.trail.point) same in
    let kept : IsKept r c.reserve_beside.new.wired.lines c.self.inside.topology.topology c.self.inside.servers.items c.self.inside.gossip c.self.inside.closings c.self.inside.last c.self.inside.stopped =
    IsKept-room c.self.inside.wired c.reserve_beside.new.wired c.self.inside.topology.topology c.self.inside.servers.items c.self.inside.gossip c.self.inside.closings c.self.inside.last c.self.inside.stopped same c.reserve_beside.ensures.kept c.self.invariant in
    let running : IsRunning r c.reserve_beside.new.wired.lines c.self.inside.servers.items c.args.host =
    IsRunning-of r c.reserve_beside.new.wired.lines c.self.inside.topology.topology c.self.inside.servers.items c.self.inside.gossip c.self.inside.closings c.self.inside.last c.self.inside.stopped c.args.host kept ready.runs
    (subst (λ (p : Point). AtServer p.state c.args.host (λ s. (began : ℕ) × Runs began s)) (sym point) runs) in
    let d : IsDriven r c.reserve_beside.new.wired.lines c.self.inside.servers.items c.args.host c.in-Some-Some.stream c.in-Some-Some.began =
    IsDriven-of r c.reserve_beside.new.wired.lines c.self.inside.servers.items c.args.host c.in-Some-Some.stream c.in-Some-Some.began c.index-server.result.now running c.index-server.ensures
    (sym c.check_stream.ensures.stream ∙ c.in-Some-Some.is-0) (sym c.began.ensures.value ∙ c.in-Some-Some.is-1) in
    let ends = rw c.in-Ok-Some.field-0-is at c.in-Ok-Some.ensures.ends in
    let adds = c.tell_end.ensures.adds in
    let more : IsAtLeast (record { names = 0; events = 0; sessions = 0; requests = 0; steps = c.self.inside.closings + 2 }) r.room =
    subst (λ (m : Room). IsAtLeast m r.room) c.in_ok-room.ensures c.in_ok-reserve_beside.ensures.room in
    let steps = more.steps in
    let used = adds.room_used.steps in
    let same_room : c.drive.new.wired.trail.room.steps ≡ r.room.steps = ap (λ (x : Recorded). x.room.steps) c.drive.ensures.trail in
    let is_2 : c.index_mut-server.result.now ≡ d.server =
    read-there c.self.inside.servers.items c.args.host d.server c.index_mut-server.result.now d.there c.index_mut-server.ensures.value in
    let lines : c.tell_end.new.wired.lines ≡ c.drive.new.wired.lines = ap (λ s. s.lines) c.tell_end.ensures.same in
    let is_3 : c.index.result.now ≡ d.server = read-there c.self.inside.servers.items c.args.host d.server c.index.result.now d.there c.index.ensures in
    let knows : c.is_known-known.result ≡ stands_known c.self.inside.topology.topology d.server.address =
    c.is_known-known.ensures ∙ ap (stands_known c.self.inside.topology.topology) (c.host-in-Ok-Some.ensures.address ∙ ap (λ (s : ServerState). s.address) is_3) in
    let on : EndsOn c.tell_end.new.wired.lines c.args.host c.in-Ok-Some.end.how d.server.check_stream =
    subst (λ (l : Lines). EndsOn l c.args.host c.in-Ok-Some.end.how d.server.check_stream) (sym lines)
    (EndsOn-by c.reserve_beside.new.wired.lines c.drive.new.wired.lines c.args.host c.in-Some-Some.stream c.in-Ok-Some.end.how d.server.check_stream d.line d.has d.line_there d.is_for (rw c.in-Ok-Some.field-0-is at c.in-Ok-Some.ensures.kept)) in
    let only : OnlyAt c.args.host c.reserve_beside.new.wired.lines c.tell_end.new.wired.lines =
    others_same c.in-Some-Some.stream d.line d.line_there d.is_for (λ other n. ap (λ l. line_at l other) lines ∙ c.drive.ensures.others other n) in
    let kept_2 : IsKept c.drive.new.wired.trail c.reserve_beside.new.wired.lines c.self.inside.topology.topology c.self.inside.servers.items c.self.inside.gossip c.self.inside.closings c.self.inside.last c.self.inside.stopped =
    subst (λ (x : Recorded). IsKept x c.reserve_beside.new.wired.lines c.self.inside.topology.topology c.self.inside.servers.items c.self.inside.gossip c.self.inside.closings c.self.inside.last c.self.inside.stopped) (sym c.drive.ensures.trail) kept in
    IsKept-ended c.drive.new.wired.trail c.tell_end.new.wired.trail c.reserve_beside.new.wired.lines c.tell_end.new.wired.lines c.self.inside.topology.topology c.self.inside.servers.items c.self.inside.gossip c.self.inside.closings c.self.inside.last c.args.moment c.args.host c.self.inside.stopped c.in-Ok-Some.end.how c.is_known-known.result d.server c.end_check.new.self
    (entry_of.CheckEnded c.args.host c.in-Ok-Some.end.how) adds d.there
    (λ e. absurd (not-undialled c.host.result.now c.in-Some-Some.began c.limit_of-limit.result c.args.moment ends.0 c.in-Ok-Some.end.event c.in-Ok-Some.end.how ends.1 e))
    on only ready.now (omega arith) knows (c.end_check.ensures.ends ∙ ap (check_ends c.args.moment c.in-Ok-Some.end.how c.is_known-known.result) is_2) kept_2

pub follow_end-requires-clause-writing : goal.follow_end-requires-clause-writing
follow_end-requires-clause-writing g c =
    let ready = rw (← c.self.view_is) at c.requires.ready in
    let runs = rw (← c.self.view_is) at c.requires.runs in
    let r : Recorded = c.reserve_beside.new.wired.trail in
    let same = c.reserve_beside.ensures.same in
    let point : r.point ≡ c.self.inside.wired.trail.point = ap (λ s. s.trail.point) same in
    let kept : IsKept r c.reserve_beside.new.wired.lines c.self.inside.topology.topology c.self.inside.servers.items c.self.inside.gossip c.self.inside.closings c.self.inside.last c.self.inside.stopped =
    IsKept-room c.self.inside.wired c.reserve_beside.new.wired c.self.inside.topology.topology c.self.inside.servers.items c.self.inside.gossip c.self.inside.closings c.self.inside.last c.self.inside.stopped same c.reserve_beside.ensures.kept c.self.invariant in
    let running : IsRunning r c.reserve_beside.new.wired.lines c.self.inside.servers.items c.args.host =
    IsRunning-of r c.reserve_beside.new.wired.lines c.self.inside.topology.topology c.self.inside.servers.items c.self.inside.gossip c.self.inside.closings c.self.inside.last c.self.inside.stopped c.args.host kept ready.runs
    (subst (λ (p : Point). AtServer p.state c.args.host (λ s. (began : ℕ) × Runs began s)) (sym point) runs) in
    let d : IsDriven r c.reserve_beside.new.wired.lines c.self.inside.servers.items c.args.host c.in-Some-Some.stream c.in-Some-Some.began =
    IsDriven-of r c.reserve_beside.new.wired.lines c.self.inside.servers.items c.args.host c.in-Some-Some.stream c.in-Some-Some.began c.index-server.result.now running c.index-server.ensures
    (sym c.check_stream.ensures.stream ∙ c.in-Some-Some.is-0) (sym c.began.ensures.value ∙ c.in-Some-Some.is-1) in
    let paid : r.point.owed ≡ [] = ap (λ (p : Point). p.owed) point ∙ ready.paid in
    let ends = rw c.in-Ok-Some.field-0-is at c.in-Ok-Some.ensures.ends in
    let adds = c.tell_end.ensures.adds in
    let more : IsAtLeast (record { names = 0; events = 0; sessions = 0; requests = 0; steps = c.self.inside.closings + 2 }) r.room =
    subst (λ (m : Room). IsAtLeast m r.room) c.in_ok-room.ensures c.in_ok-reserve_beside.ensures.room in
    let steps = more.steps in
    let used = adds.room_used.steps in
    let same_room : c.drive.new.wired.trail.room.steps ≡ r.room.steps = ap (λ (x : Recorded). x.room.steps) c.drive.ensures.trail in
    let is : c.index-server.result.now ≡ d.server = read-there c.self.inside.servers.items c.args.host d.server c.index-server.result.now d.there c.index-server.ensures in
    let host : c.host.result.now ≡ d.server.address = c.host.ensures.address ∙ ap (λ (s : ServerState). s.address) is in
    let o : IsOwedBy c.in-Ok-Some.end.how d.server c.in-Ok-Some.end.event =
    IsOwedBy-by c.in-Some-Some.began c.limit_of-limit.result c.args.moment ends.0 c.in-Ok-Some.end.event c.in-Ok-Some.end.how d.server
    (subst (λ a. IsEndBy a c.in-Some-Some.began c.limit_of-limit.result c.args.moment ends.0 c.in-Ok-Some.end.event c.in-Ok-Some.end.how) host ends.1) in (
      o.first,
      record {
        runs = ready.runs;
        owes = owed-ended r c.drive.new.wired.trail c.tell_end.new.wired.trail c.args.moment c.args.host d.server c.in-Ok-Some.end.how c.in-Ok-Some.end.event c.drive.ensures.trail adds d.at_point paid o;
        at = ap (λ (p : Point). p.moment) adds.point_now;
        now = ready.now;
        space = omega arith;
      },
      o.offers,
    )

pub follow_end-requires-clause-reply : goal.follow_end-requires-clause-reply
follow_end-requires-clause-reply g c =
    let adds = c.tell_end.ensures.adds in
    λ n. ap (λ (p : Point). p.is_reply) adds.point_now ∙ IsReply-by c.in-Ok-Some.end.how c.in-Ok-Some.end.time (rw c.in-Ok-Some.field-0-is at c.in-Ok-Some.ensures.timed) n

pub follow_end-requires-clause-count : goal.follow_end-requires-clause-count
follow_end-requires-clause-count g c =
    let ready = rw (← c.self.view_is) at c.requires.ready in
    let runs = rw (← c.self.view_is) at c.requires.runs in
    let r : Recorded = c.reserve_beside.new.wired.trail in
    let same = c.reserve_beside.ensures.same in
    let point : r.point ≡ c.self.inside.wired.trail.point = ap (λ s. s.trail.point) same in
    let kept : IsKept r c.reserve_beside.new.wired.lines c.self.inside.topology.topology c.self.inside.servers.items c.self.inside.gossip c.self.inside.closings c.self.inside.last c.self.inside.stopped =
    IsKept-room c.self.inside.wired c.reserve_beside.new.wired c.self.inside.topology.topology c.self.inside.servers.items c.self.inside.gossip c.self.inside.closings c.self.inside.last c.self.inside.stopped same c.reserve_beside.ensures.kept c.self.invariant in
    let running : IsRunning r c.reserve_beside.new.wired.lines c.self.inside.servers.items c.args.host =
    IsRunning-of r c.reserve_beside.new.wired.lines c.self.inside.topology.topology c.self.inside.servers.items c.self.inside.gossip c.self.inside.closings c.self.inside.last c.self.inside.stopped c.args.host kept ready.runs
    (subst (λ (p : Point). AtServer p.state c.args.host (λ s. (began : ℕ) × Runs began s)) (sym point) runs) in
    let adds = c.tell_end.ensures.adds in
    let few = rw c.in-Ok-Some.field-0-is at c.in-Ok-Some.ensures.few in
    let names = length-names r c.drive.new.wired.trail c.tell_end.new.wired.trail c.reserve_beside.new.wired.lines c.self.inside.topology.topology c.self.inside.servers.items c.self.inside.gossip c.self.inside.last c.args.moment c.args.host c.in-Ok-Some.end.how c.drive.ensures.trail adds (kept.leads ready.runs) in
    let len = c.len.ensures in
    omega (arith, c.self.inside.servers.ok)

pub returns-in_err-follow_end-in-Ok-Some-clause-appends : goal.returns-in_err-follow_end-in-Ok-Some-clause-appends
returns-in_err-follow_end-in-Ok-Some-clause-appends g c =
    let ends = rw c.in-Ok-Some.field-0-is at c.in-Ok-Some.ensures.ends in
    let adds = c.tell_end.ensures.adds in
    let same = c.reserve_beside.ensures.same in
    let cause = rw c.in-Ok-Some.field-0-is at c.in-Ok-Some.ensures.cause in
    let later : g.N.Net.faults c.drive.new.wired.net ≤ g.N.Net.faults c.follow_end.new.self.net =
    subst (λ n. g.N.Net.faults n ≤ g.N.Net.faults c.follow_end.new.self.net) (ap (λ s. s.net) c.tell_end.ensures.same) c.follow_end.ensures.faults in
    rw (← c.self.view_is)
    (Appends-ended c.self.inside.wired.trail c.drive.new.wired.trail c.tell_end.new.wired.trail c.follow_end.new.self.trail c.reserve_beside.new.wired.trail.room c.args.moment c.args.host c.in-Ok-Some.end.how
    (c.drive.ensures.trail ∙ ap (λ s. s.trail) same) adds
    (Rose-by c.host.result.now c.args.host c.in-Some-Some.began c.limit_of-limit.result c.args.moment (g.N.Net.faults c.self.inside.wired.net)
    (g.N.Net.faults c.drive.new.wired.net) (g.N.Net.faults c.follow_end.new.self.net) ends.0 c.in-Ok-Some.end.event c.in-Ok-Some.end.how ends.1
    (λ e. subst (λ n. Rose (g.N.Net.faults n) (g.N.Net.faults c.drive.new.wired.net)) (ap (λ s. s.net) same) (cause.rose e)) later)
    c.follow_end.ensures.appends)

pub returns-in-Ok-None-clause-appends : goal.returns-in-Ok-None-clause-appends
returns-in-Ok-None-clause-appends g c =
    rw (← c.self.view_is)
    (Appends-room c.args.moment c.self.inside.wired.trail c.drive.new.wired.trail c.reserve_beside.new.wired.trail.room (c.drive.ensures.trail ∙ ap (λ s. s.trail) c.reserve_beside.ensures.same))

pub returns-in_ok-follow_end-in-Ok-Some-clause-appends : goal.returns-in_ok-follow_end-in-Ok-Some-clause-appends
returns-in_ok-follow_end-in-Ok-Some-clause-appends g c =
    let ends = rw c.in-Ok-Some.field-0-is at c.in-Ok-Some.ensures.ends in
    let adds = c.tell_end.ensures.adds in
    let same = c.reserve_beside.ensures.same in
    let cause = rw c.in-Ok-Some.field-0-is at c.in-Ok-Some.ensures.cause in
    let later : g.N.Net.faults c.drive.new.wired.net ≤ g.N.Net.faults c.follow_end.new.self.net =
    subst (λ n. g.N.Net.faults n ≤ g.N.Net.faults c.follow_end.new.self.net) (ap (λ s. s.net) c.tell_end.ensures.same) c.follow_end.ensures.faults in
    rw (← c.self.view_is)
    (Appends-ended c.self.inside.wired.trail c.drive.new.wired.trail c.tell_end.new.wired.trail c.follow_end.new.self.trail c.reserve_beside.new.wired.trail.room c.args.moment c.args.host c.in-Ok-Some.end.how
    (c.drive.ensures.trail ∙ ap (λ s. s.trail) same) adds
    (Rose-by c.host.result.now c.args.host c.in-Some-Some.began c.limit_of-limit.result c.args.moment (g.N.Net.faults c.self.inside.wired.net)
    (g.N.Net.faults c.drive.new.wired.net) (g.N.Net.faults c.follow_end.new.self.net) ends.0 c.in-Ok-Some.end.event c.in-Ok-Some.end.how ends.1
    (λ e. subst (λ n. Rose (g.N.Net.faults n) (g.N.Net.faults c.drive.new.wired.net)) (ap (λ s. s.net) same) (cause.rose e)) later)
    c.follow_end.ensures.appends)

pub returns-in-Err-clause-appends : goal.returns-in-Err-clause-appends
returns-in-Err-clause-appends g c =
    rw (← c.self.view_is)
    (Appends-room c.args.moment c.self.inside.wired.trail c.drive.new.wired.trail c.reserve_beside.new.wired.trail.room (c.drive.ensures.trail ∙ ap (λ s. s.trail) c.reserve_beside.ensures.same))

pub returns-in-Ok-None-clause-waits : goal.returns-in-Ok-None-clause-waits
returns-in-Ok-None-clause-waits g c =
    let ready = rw (← c.self.view_is) at c.requires.ready in
    let runs = rw (← c.self.view_is) at c.requires.runs in
    let r : Recorded = c.reserve_beside.new.wired.trail in
    let same = c.reserve_beside.ensures.same in
    let point : r.point ≡ c.self.inside.wired.trail.point = ap (λ s. s.trail.point) same in
    let kept : IsKept r c.reserve_beside.new.wired.lines c.self.inside.topology.topology c.self.inside.servers.items c.self.inside.gossip c.self.inside.closings c.self.inside.last c.self.inside.stopped =
    IsKept-room c.self.inside.wired c.reserve_beside.new.wired c.self.inside.topology.topology c.self.inside.servers.items c.self.inside.gossip c.self.inside.closings c.self.inside.last c.self.inside.stopped same c.reserve_beside.ensures.kept c.self.invariant in
    let running : IsRunning r c.reserve_beside.new.wired.lines c.self.inside.servers.items c.args.host =
    IsRunning-of r c.reserve_beside.new.wired.lines c.self.inside.topology.topology c.self.inside.servers.items c.self.inside.gossip c.self.inside.closings c.self.inside.last c.self.inside.stopped c.args.host kept ready.runs
    (subst (λ (p : Point). AtServer p.state c.args.host (λ s. (began : ℕ) × Runs began s)) (sym point) runs) in
    let d : IsDriven r c.reserve_beside.new.wired.lines c.self.inside.servers.items c.args.host c.in-Some-Some.stream c.in-Some-Some.began =
    IsDriven-of r c.reserve_beside.new.wired.lines c.self.inside.servers.items c.args.host c.in-Some-Some.stream c.in-Some-Some.began c.index-server.result.now running c.index-server.ensures
    (sym c.check_stream.ensures.stream ∙ c.in-Some-Some.is-0) (sym c.began.ensures.value ∙ c.in-Some-Some.is-1) in
    let limits : c.limit_of-limit.result ≡ c.in-Some-Some.began + connect_limit r.client = c.limit_of-limit.ensures r.client (sym c.settings.ensures.value) in
    let early = rw c.in-Ok-None.field-0-is at c.in-Ok-None.ensures.early in
    subst (λ (t : Recorded). IsAwaited t.client t.point.state c.args.moment c.args.host c.limit_of-limit.result) (sym c.drive.ensures.trail)
    ((d.server, d.at_point, (c.in-Some-Some.began, d.runs, limits)), early)

pub returns-in_ok-follow_end-in-Ok-Some-clause-ends : goal.returns-in_ok-follow_end-in-Ok-Some-clause-ends
returns-in_ok-follow_end-in-Ok-Some-clause-ends g c =
    let ready = rw (← c.self.view_is) at c.requires.ready in
    let runs = rw (← c.self.view_is) at c.requires.runs in
    let r : Recorded = c.reserve_beside.new.wired.trail in
    let same = c.reserve_beside.ensures.same in
    let point : r.point ≡ c.self.inside.wired.trail.point = ap (λ s. s.trail.point) same in
    let kept : IsKept r c.reserve_beside.new.wired.lines c.self.inside.topology.topology c.self.inside.servers.items c.self.inside.gossip c.self.inside.closings c.self.inside.last c.self.inside.stopped =
    IsKept-room c.self.inside.wired c.reserve_beside.new.wired c.self.inside.topology.topology c.self.inside.servers.items c.self.inside.gossip c.self.inside.closings c.self.inside.last c.self.inside.stopped same c.reserve_beside.ensures.kept c.self.invariant in
    let running : IsRunning r c.reserve_beside.new.wired.lines c.self.inside.servers.items c.args.host =
    IsRunning-of r c.reserve_beside.new.wired.lines c.self.inside.topology.topology c.self.inside.servers.items c.self.inside.gossip c.self.inside.closings c.self.inside.last c.self.inside.stopped c.args.host kept ready.runs
    (subst (λ (p : Point). AtServer p.state c.args.host (λ s. (began : ℕ) × Runs began s)) (sym point) runs) in
    let d : IsDriven r c.reserve_beside.new.wired.lines c.self.inside.servers.items c.args.host c.in-Some-Some.stream c.in-Some-Some.began =
    IsDriven-of r c.reserve_beside.new.wired.lines c.self.inside.servers.items c.args.host c.in-Some-Some.stream c.in-Some-Some.began c.index-server.result.now running c.index-server.ensures
    (sym c.check_stream.ensures.stream ∙ c.in-Some-Some.is-0) (sym c.began.ensures.value ∙ c.in-Some-Some.is-1) in
    let ends = rw c.in-Ok-Some.field-0-is at c.in-Ok-Some.ensures.ends in
    let adds = c.tell_end.ensures.adds in
    let is : c.index-server.result.now ≡ d.server = read-there c.self.inside.servers.items c.args.host d.server c.index-server.result.now d.there c.index-server.ensures in
    let host : c.host.result.now ≡ d.server.address = c.host.ensures.address ∙ ap (λ (s : ServerState). s.address) is in
    let before : Recorded = c.drive.new.wired.trail in
    let at : slice_get before.point.state.servers c.args.host ≡ Some d.server = ap (λ (t : Recorded). slice_get t.point.state.servers c.args.host) c.drive.ensures.trail ∙ d.at_point in
    let after = c.in_ok-follow_end-in-Ok-Some.ensures in
    rw (← c.self.view_is)
    (subst (λ (p : Point). HasEnded p.state c.follow_end.new.self.trail.point.state c.args.moment c.args.host) (ap (λ (t : Recorded). t.point) c.drive.ensures.trail ∙ point)
    (HasEnded-driven before.point.state c.tell_end.new.wired.trail.point.state c.follow_end.new.self.trail.point.state c.host.result.now c.in-Some-Some.began c.limit_of-limit.result
    c.args.moment c.args.host ends.0 c.in-Ok-Some.end.event c.in-Ok-Some.end.how d.server at d.runs ((kept.leads ready.runs).kept c.args.host d.server d.there).paced
    (at-ended before c.tell_end.new.wired.trail c.args.moment c.args.host c.in-Ok-Some.end.how d.server (entry_of.CheckEnded c.args.host c.in-Ok-Some.end.how) adds at) host ends.1
    after.checks (asks_of-by c.host.result.now c.in-Some-Some.began c.limit_of-limit.result c.args.moment ends.0 c.in-Ok-Some.end.event c.in-Ok-Some.end.how ends.1)
    (λ broke. after.unknown d.server.address broke)))

pub tell_end-requires-clause-ran : goal.tell_end-requires-clause-ran
tell_end-requires-clause-ran g c =
    let ends = rw c.in-Ok-Some.field-0-is at c.in-Ok-Some.ensures.ends in
    λ e. not-undialled c.host.result.now c.in-Some-Some.began c.limit_of-limit.result c.args.moment ends.0 c.in-Ok-Some.end.event c.in-Ok-Some.end.how ends.1 e

pub tell_end-requires-clause-on : goal.tell_end-requires-clause-on
tell_end-requires-clause-on g c =
    let ready = rw (← c.self.view_is) at c.requires.ready in
    let runs = rw (← c.self.view_is) at c.requires.runs in
    let r : Recorded = c.reserve_beside.new.wired.trail in
    let same = c.reserve_beside.ensures.same in
    let point : r.point ≡ c.self.inside.wired.trail.point = ap (λ s. s.trail.point) same in
    let kept : IsKept r c.reserve_beside.new.wired.lines c.self.inside.topology.topology c.self.inside.servers.items c.self.inside.gossip c.self.inside.closings c.self.inside.last c.self.inside.stopped =
    IsKept-room c.self.inside.wired c.reserve_beside.new.wired c.self.inside.topology.topology c.self.inside.servers.items c.self.inside.gossip c.self.inside.closings c.self.inside.last c.self.inside.stopped same c.reserve_beside.ensures.kept c.self.invariant in
    let running : IsRunning r c.reserve_beside.new.wired.lines c.self.inside.servers.items c.args.host =
    IsRunning-of r c.reserve_beside.new.wired.lines c.self.inside.topology.topology c.self.inside.servers.items c.self.inside.gossip c.self.inside.closings c.self.inside.last c.self.inside.stopped c.args.host kept ready.runs
    (subst (λ (p : Point). AtServer p.state c.args.host (λ s. (began : ℕ) × Runs began s)) (sym point) runs) in
    let d : IsDriven r c.reserve_beside.new.wired.lines c.self.inside.servers.items c.args.host c.in-Some-Some.stream c.in-Some-Some.began =
    IsDriven-of r c.reserve_beside.new.wired.lines c.self.inside.servers.items c.args.host c.in-Some-Some.stream c.in-Some-Some.began c.index-server.result.now running c.index-server.ensures
    (sym c.check_stream.ensures.stream ∙ c.in-Some-Some.is-0) (sym c.began.ensures.value ∙ c.in-Some-Some.is-1) in
    let before : Recorded = c.drive.new.wired.trail in
    let at : slice_get before.point.state.servers c.args.host ≡ Some d.server = ap (λ (t : Recorded). slice_get t.point.state.servers c.args.host) c.drive.ensures.trail ∙ d.at_point in
    let on : kept_at before.point.state c.args.host ≡ Some c.in-Some-Some.stream = ap stream_kept at ∙ d.has in
    on

pub tell_end-requires-clause-heard : goal.tell_end-requires-clause-heard
tell_end-requires-clause-heard g c = λ tells.
    let ready = rw (← c.self.view_is) at c.requires.ready in
    let runs = rw (← c.self.view_is) at c.requires.runs in
    let r : Recorded = c.reserve_beside.new.wired.trail in
    let same = c.reserve_beside.ensures.same in
    let point : r.point ≡ c.self.inside.wired.trail.point = ap (λ s. s.trail.point) same in
    let kept : IsKept r c.reserve_beside.new.wired.lines c.self.inside.topology.topology c.self.inside.servers.items c.self.inside.gossip c.self.inside.closings c.self.inside.last c.self.inside.stopped =
    IsKept-room c.self.inside.wired c.reserve_beside.new.wired c.self.inside.topology.topology c.self.inside.servers.items c.self.inside.gossip c.self.inside.closings c.self.inside.last c.self.inside.stopped same c.reserve_beside.ensures.kept c.self.invariant in
    let running : IsRunning r c.reserve_beside.new.wired.lines c.self.inside.servers.items c.args.host =
    IsRunning-of r c.reserve_beside.new.wired.lines c.self.inside.topology.topology c.self.inside.servers.items c.self.inside.gossip c.self.inside.closings c.self.inside.last c.self.inside.stopped c.args.host kept ready.runs
    (subst (λ (p : Point). AtServer p.state c.args.host (λ s. (began : ℕ) × Runs began s)) (sym point) runs) in
    let d : IsDriven r c.reserve_beside.new.wired.lines c.self.inside.servers.items c.args.host c.in-Some-Some.stream c.in-Some-Some.began =
    IsDriven-of r c.reserve_beside.new.wired.lines c.self.inside.servers.items c.args.host c.in-Some-Some.stream c.in-Some-Some.began c.index-server.result.now running c.index-server.ensures
    (sym c.check_stream.ensures.stream ∙ c.in-Some-Some.is-0) (sym c.began.ensures.value ∙ c.in-Some-Some.is-1) in
    let before : Recorded = c.drive.new.wired.trail in
    let at : slice_get before.point.state.servers c.args.host ≡ Some d.server = ap (λ (t : Recorded). slice_get t.point.state.servers c.args.host) c.drive.ensures.trail ∙ d.at_point in
    let on : kept_at before.point.state c.args.host ≡ Some c.in-Some-Some.stream = ap stream_kept at ∙ d.has in
    let hears = rw c.in-Ok-Some.field-0-is at (c.in-Ok-Some.ensures.heard tells) in
    let h = kept.leads ready.runs in
    let counted : length c.self.inside.servers.items ≡ length before.point.state.servers =
    ap (λ (w : ClientState). length w.servers) (sym h.state) ∙ ap (λ (t : Recorded). length t.point.state.servers) (sym c.drive.ensures.trail) in
    let exact : c.len.result ≡ length c.self.inside.servers.items = omega (arith, c.len.ensures, c.self.inside.servers.ok) in
    check-heard (g.N.Net.history c.drive.new.wired.net) before c.in-Some-Some.stream _ _ c.args.host c.args.moment c.in-Ok-Some.end.how c.in-Ok-Some.end.event c.in-Ok-Some.end.time hears on
    (exact ∙ counted)

pub follow_end-requires-clause-heard : goal.follow_end-requires-clause-heard
follow_end-requires-clause-heard g c = λ tells.
    let ends = rw c.in-Ok-Some.field-0-is at c.in-Ok-Some.ensures.ends in
    let hears = rw c.in-Ok-Some.field-0-is at (c.in-Ok-Some.ensures.heard tells) in
    rw (c.tell_end.ensures.same)
    (check-reply (g.N.Net.history c.drive.new.wired.net) c.drive.new.wired.trail c.tell_end.new.wired.trail c.in-Some-Some.stream _ _ c.in-Ok-Some.end.how c.in-Ok-Some.end.event c.in-Ok-Some.end.time
    c.host.result.now hears c.tell_end.ensures.silent
    (broken-by c.host.result.now c.in-Some-Some.began c.limit_of-limit.result c.args.moment ends.0 c.in-Ok-Some.end.event c.in-Ok-Some.end.how ends.1))

pub follow_end-requires-clause-came : goal.follow_end-requires-clause-came
follow_end-requires-clause-came g c = λ tells.
    let hears = rw c.in-Ok-Some.field-0-is at (c.in-Ok-Some.ensures.heard tells) in
    rw (c.tell_end.ensures.same)
    (check-came (g.N.Net.history c.drive.new.wired.net) c.drive.new.wired.trail c.in-Some-Some.stream _ _ c.in-Ok-Some.end.how c.in-Ok-Some.end.event c.in-Ok-Some.end.time hears)

pub tell_end-requires-clause-counted : goal.tell_end-requires-clause-counted
tell_end-requires-clause-counted g c = rw c.in-Ok-Some.field-0-is at c.in-Ok-Some.ensures.counted
