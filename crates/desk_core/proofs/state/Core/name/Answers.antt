use Rattle.std.proofs.Common.{[], ◌∷◌, ◌++◌, length, ◌≡◌, ◌^◌, ◌<◌, sym, ap, ◌∙◌, arith}
use Rattle.host_name.specs.Addresses.{is_same_address}
use Rattle.desk_trail.specs.declared.entry.Entry.TheVariants as entry_of
use Rattle.desk_trail.specs.Legal.{Point}
use Rattle.desk_trail.specs.States.{fresh_server}
use Rattle.legal_trail.specs.Recorded.{Recorded}
use Rattle.desk_core.proofs.AppendsLemmas.{Appends-room}
use Rattle.desk_core.proofs.KeptLemmas.{IsKept-named, IsKept-room, StandsAt-named}
use Rattle.desk_core.proofs.RestLemmas.{KeepsChecks-append}
use Rattle.desk_core.proofs.ServerLemmas.{IsUntouched-append}
use Rattle.desk_core.proofs.state.Core.name.Goals as goal

pub invariant_of-self : goal.invariant_of-self
invariant_of-self g c =
    IsKept-room c.self.inside.wired c.reserve_beside.new.wired c.self.inside.topology.topology c.self.inside.servers.items c.self.inside.gossip c.self.inside.closings c.self.inside.last c.self.inside.stopped
    c.reserve_beside.ensures.same c.reserve_beside.ensures.kept c.self.invariant

pub returns-in_err-reserve_beside-clause-appends : goal.returns-in_err-reserve_beside-clause-appends
returns-in_err-reserve_beside-clause-appends g c =
    rw (← c.self.view_is)
    (Appends-room c.args.moment c.self.inside.wired.trail c.reserve_beside.new.wired.trail c.reserve_beside.new.wired.trail.room (ap (λ s. s.trail) c.reserve_beside.ensures.same))

pub invariant_of-self-in_err-reserve : goal.invariant_of-self-in_err-reserve
invariant_of-self-in_err-reserve g c =
    rw c.reserve.ensures.items
    (IsKept-room c.self.inside.wired c.reserve_beside.new.wired c.self.inside.topology.topology c.self.inside.servers.items c.self.inside.gossip c.self.inside.closings c.self.inside.last c.self.inside.stopped
    c.reserve_beside.ensures.same c.reserve_beside.ensures.kept c.self.invariant)

pub returns-in_err-reserve-clause-appends : goal.returns-in_err-reserve-clause-appends
returns-in_err-reserve-clause-appends g c =
    rw (← c.self.view_is)
    (Appends-room c.args.moment c.self.inside.wired.trail c.reserve_beside.new.wired.trail c.reserve_beside.new.wired.trail.room (ap (λ s. s.trail) c.reserve_beside.ensures.same))

pub name-requires-clause-stands : goal.name-requires-clause-stands
name-requires-clause-stands g c =
    let w = rw (← c.self.view_is) at c.requires.writing in
    let reserved =
    IsKept-room c.self.inside.wired c.reserve_beside.new.wired c.self.inside.topology.topology c.self.inside.servers.items c.self.inside.gossip c.self.inside.closings c.self.inside.last c.self.inside.stopped
    c.reserve_beside.ensures.same c.reserve_beside.ensures.kept c.self.invariant in
    let point : c.reserve_beside.new.wired.trail.point ≡ c.self.inside.wired.trail.point = ap (λ s. s.trail.point) c.reserve_beside.ensures.same in
    StandsAt-named c.reserve_beside.new.wired.trail c.reserve_beside.new.wired.lines c.self.inside.topology.topology c.self.inside.servers.items c.self.inside.gossip c.self.inside.last c.args.moment
    c.args.host.now c.in_ok-name.name w.0 (ap (λ (p : Point). p.owed) point ∙ w.2.owes) (ap (λ (p : Point). p.moment) point ∙ w.2.at) c.in_ok-name.ensures.name
    (reserved.leads w.2.runs)

pub invariant_of-self-2 : goal.invariant_of-self-2
invariant_of-self-2 g c =
    let old : Recorded = c.reserve_beside.new.wired.trail in
    let w = rw (← c.self.view_is) at c.requires.writing in
    let count = rw (← c.self.view_is) at c.requires.count in
    let reserved =
    IsKept-room c.self.inside.wired c.reserve_beside.new.wired c.self.inside.topology.topology c.self.inside.servers.items c.self.inside.gossip c.self.inside.closings c.self.inside.last c.self.inside.stopped
    c.reserve_beside.ensures.same c.reserve_beside.ensures.kept c.self.invariant in
    let lists : old.lists ≡ c.self.inside.wired.trail.lists = ap (λ s. s.trail.lists) c.reserve_beside.ensures.same in
    let few : length old.lists.names < 2 ^ 32 = rw lists count in
    let settings : old.client.settings ≡ c.settings.result.now = ap (λ s. s.trail.client.settings) c.reserve_beside.ensures.same ∙ sym c.settings.ensures.value in
    let fresh : c.in_ok-name.server ≡ fresh_server old.client c.args.moment c.in_ok-name.name =
    c.in_ok-name.ensures.server old.client settings ∙ ap (λ a. fresh_server old.client c.args.moment a) (sym c.in_ok-name.ensures.name) in
    let pushed : c.push_reserved.new.self.items ≡ c.self.inside.servers.items ++ c.in_ok-name.server ∷ [] =
    c.push_reserved.ensures.items ∙ ap (λ l. l ++ c.in_ok-name.server ∷ []) c.reserve.ensures.items in
    let space = w.2.space in
    let more = c.reserve_beside.ensures.kept.steps in
    let used = c.name-2.ensures.adds.room_used.steps in
    rw c.in_ok-closings.ensures
    (IsKept-named old c.name-2.new.self.trail c.reserve_beside.new.wired.lines c.name-2.new.self.lines c.self.inside.topology.topology c.self.inside.servers.items
    c.push_reserved.new.self.items c.self.inside.gossip c.self.inside.closings c.self.inside.last c.args.moment (length old.lists.names) c.self.inside.stopped c.in_ok-name.server
    c.in_ok-name.name (entry_of.Named (length old.lists.names)) c.name-2.ensures.adds few w.2.now (omega arith) (ap (λ s. s.lines) c.name-2.ensures.same) fresh c.in_ok-name.ensures.paced pushed reserved)

pub returns-clause-others : goal.returns-clause-others
returns-clause-others g c = λ a differ.
    let old : Recorded = c.reserve_beside.new.wired.trail in
    let adds = c.name-2.ensures.adds in
    let before : old.point ≡ c.args.self.now.trail.point = rw (← c.self.view_is) (ap (λ s. s.trail.point) c.reserve_beside.ensures.same) in
    let now : c.name-2.new.self.trail.point.state.servers ≡ c.args.self.now.trail.point.state.servers ++ fresh_server old.client c.args.moment c.in_ok-name.name ∷ [] =
    ap (λ (p : Point). p.state.servers) adds.point_now ∙ ap (λ (p : Point). p.state.servers ++ fresh_server old.client c.args.moment c.in_ok-name.name ∷ []) before in
    IsUntouched-append c.args.self.now.trail.point.state c.name-2.new.self.trail.point.state (fresh_server old.client c.args.moment c.in_ok-name.name) a now
    (ap (λ h. is_same_address h a) c.in_ok-name.ensures.name ∙ differ)

pub returns-clause-checks : goal.returns-clause-checks
returns-clause-checks g c =
    let old : Recorded = c.reserve_beside.new.wired.trail in
    let adds = c.name-2.ensures.adds in
    let before : old.point ≡ c.args.self.now.trail.point = rw (← c.self.view_is) (ap (λ s. s.trail.point) c.reserve_beside.ensures.same) in
    let now : c.name-2.new.self.trail.point.state.servers ≡ c.args.self.now.trail.point.state.servers ++ fresh_server old.client c.args.moment c.in_ok-name.name ∷ [] =
    ap (λ (p : Point). p.state.servers) adds.point_now ∙ ap (λ (p : Point). p.state.servers ++ fresh_server old.client c.args.moment c.in_ok-name.name ∷ []) before in
    KeepsChecks-append c.args.self.now.trail.point.state c.name-2.new.self.trail.point.state (fresh_server old.client c.args.moment c.in_ok-name.name)
    (ap (λ (p : Point). p.state.topology) adds.point_now ∙ ap (λ (p : Point). p.state.topology) before) now
