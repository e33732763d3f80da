use Rattle.std.proofs.Common.{◌≡◌, ◌+◌, Some, refl, sym, ap, ◌∙◌, subst, arith}
use Rattle.std.specs.Prelude.{drop, slice_get}
use Rattle.std.proofs.lemmas.Option.{slice_get_within}
use Rattle.desk_trail.specs.declared.entry.Entry.TheVariants as entry_of
use Rattle.desk_trail.specs.declared.room.Room.{Room}
use Rattle.desk_trail.specs.Facts as fact
use Rattle.desk_trail.specs.Legal.{Point}
use Rattle.desk_trail.specs.States.{ClientState}
use Rattle.desk_trail.specs.Written.{IsAtLeast, an_entry}
use Rattle.legal_trail.specs.Recorded.{Recorded}
use Rattle.desk_core.proofs.AppendsLemmas.{Appends-adds, Appends-refl, Appends-room, Appends-trans, AreLonger-refl}
use Rattle.desk_core.proofs.DropLemmas.{read-there}
use Rattle.desk_core.proofs.KeptLemmas.{IsKept-room}
use Rattle.desk_core.proofs.LookLemmas.{IsKept-dry, IsRead-dry, StandsAt-dry, dried, kept-by_dry}
use Rattle.desk_core.proofs.state.Core.note_dry.Goals as goal

pub returns-in_err-room-clause-appends : goal.returns-in_err-room-clause-appends
returns-in_err-room-clause-appends g c = rw (← c.self.view_is) (Appends-refl c.args.moment c.self.inside.wired.trail)

pub invariant_of-self : goal.invariant_of-self
invariant_of-self g c =
    IsKept-room c.self.inside.wired c.reserve_beside.new.wired c.self.inside.topology.topology c.self.inside.servers.items c.self.inside.gossip c.self.inside.closings c.self.inside.last c.self.inside.stopped
    c.reserve_beside.ensures.same c.reserve_beside.ensures.kept c.self.invariant

pub returns-in_err-reserve_beside-clause-appends : goal.returns-in_err-reserve_beside-clause-appends
returns-in_err-reserve_beside-clause-appends g c =
    rw (← c.self.view_is)
    (Appends-room c.args.moment c.self.inside.wired.trail c.reserve_beside.new.wired.trail c.reserve_beside.new.wired.trail.room (ap (λ s. s.trail) c.reserve_beside.ensures.same))

pub append-requires-clause-stands : goal.append-requires-clause-stands
append-requires-clause-stands g c =
    let ready = rw (← c.self.view_is) at c.requires.ready in
    let runs = rw (← c.self.view_is) at c.requires.runs in
    let h = c.self.invariant.leads ready.runs in
    let point : c.reserve_beside.new.wired.trail.point ≡ c.self.inside.wired.trail.point = ap (λ s. s.trail.point) c.reserve_beside.ensures.same in
    let ahead : c.reserve_beside.new.wired.trail.point.moment ≡ c.self.inside.wired.trail.point.moment = ap (λ (p : Point). p.moment) point in
    let moment = h.moment in
    let now = ready.now in (
      fact.CheckDry c.args.host,
      refl,
      StandsAt-dry c.reserve_beside.new.wired.trail.client c.reserve_beside.new.wired.trail.point c.args.moment c.args.host (ap (λ (p : Point). p.owed) point ∙ ready.paid)
          (omega arith) (ap (λ (p : Point). p.state.is_ending) point ∙ ap (λ (s : ClientState). s.is_ending) h.state)
          (runs.0, ap (λ (p : Point). slice_get p.state.servers c.args.host) point ∙ runs.1, runs.2),
    )

pub index_mut-server-requires : goal.index_mut-server-requires
index_mut-server-requires g c =
    let ready = rw (← c.self.view_is) at c.requires.ready in
    let runs = rw (← c.self.view_is) at c.requires.runs in
    let h = c.self.invariant.leads ready.runs in
    let there : slice_get c.self.inside.servers.items c.args.host ≡ Some runs.0 = ap (λ (s : ClientState). slice_get s.servers c.args.host) (sym h.state) ∙ runs.1 in
    let within = slice_get_within c.self.inside.servers.items c.args.host runs.0 there in
    omega (arith, c.self.inside.servers.ok)

pub invariant_of-self-2 : goal.invariant_of-self-2
invariant_of-self-2 g c =
    let ready = rw (← c.self.view_is) at c.requires.ready in
    let runs = rw (← c.self.view_is) at c.requires.runs in
    let h = c.self.invariant.leads ready.runs in
    let r : Recorded = c.reserve_beside.new.wired.trail in
    let kept =
    IsKept-room c.self.inside.wired c.reserve_beside.new.wired c.self.inside.topology.topology c.self.inside.servers.items c.self.inside.gossip c.self.inside.closings c.self.inside.last c.self.inside.stopped
    c.reserve_beside.ensures.same c.reserve_beside.ensures.kept c.self.invariant in
    let there : slice_get c.self.inside.servers.items c.args.host ≡ Some runs.0 = ap (λ (s : ClientState). slice_get s.servers c.args.host) (sym h.state) ∙ runs.1 in
    let is : c.index_mut-server.result.now ≡ runs.0 =
    read-there c.self.inside.servers.items c.args.host runs.0 c.index_mut-server.result.now there c.index_mut-server.ensures.value in
    let adds = c.append.ensures.adds (fact.CheckDry c.args.host) refl in
    let more : IsAtLeast (record { names = 0; events = 0; sessions = 0; requests = 0; steps = c.self.inside.closings + 1 }) r.room =
    subst (λ (m : Room). IsAtLeast m r.room) c.in_ok-room.ensures c.in_ok-reserve_beside.ensures.room in
    let steps = more.steps in
    let used = adds.room_used.steps in
    IsKept-dry r c.append.new.self.trail c.reserve_beside.new.wired.lines c.append.new.self.lines c.self.inside.topology.topology c.self.inside.servers.items c.self.inside.gossip
    c.self.inside.closings c.self.inside.last c.args.moment c.args.host c.self.inside.stopped runs.0 c.find_dry.new.self
    (entry_of.CheckDry c.args.host) adds there (ap (λ s. s.lines) c.append.ensures.same) ready.now (omega arith)
    (c.find_dry.ensures.dry ∙ ap (dried c.args.moment) is) kept

pub returns-clause-ok : goal.returns-clause-ok
returns-clause-ok g c =
    let ready = rw (← c.self.view_is) at c.requires.ready in
    let adds = c.append.ensures.adds (fact.CheckDry c.args.host) refl in
    let point : c.reserve_beside.new.wired.trail.point ≡ c.self.inside.wired.trail.point = ap (λ s. s.trail.point) c.reserve_beside.ensures.same in
    record {
      runs = ready.runs;
      paid = ap (λ (p : Point). p.owed) adds.point_now ∙ ap (λ (p : Point). drop 1 p.owed) point ∙ ap (λ ds. drop 1 ds) ready.paid;
      now = ready.now;
    }

pub returns-clause-appends : goal.returns-clause-appends
returns-clause-appends g c =
    let old : Recorded = c.self.inside.wired.trail in
    let r : Recorded = c.reserve_beside.new.wired.trail in
    rw (← c.self.view_is)
    (Appends-trans c.args.moment old r c.append.new.self.trail (Appends-room c.args.moment old r r.room (ap (λ s. s.trail) c.reserve_beside.ensures.same))
    (Appends-adds an_entry r.lists c.args.moment (entry_of.CheckDry c.args.host) (fact.CheckDry c.args.host) r c.append.new.self.trail (AreLonger-refl r.lists)
    (c.append.ensures.adds (fact.CheckDry c.args.host) refl) (λ e. absurd (cc)) (kept-by_dry r.client c.args.moment r.point.state c.args.host)))

pub returns-clause-reads : goal.returns-clause-reads
returns-clause-reads g c =
    let runs = rw (← c.self.view_is) at c.requires.runs in
    let r : Recorded = c.reserve_beside.new.wired.trail in
    let point : r.point ≡ c.self.inside.wired.trail.point = ap (λ s. s.trail.point) c.reserve_beside.ensures.same in
    IsRead-dry r c.append.new.self.trail c.args.moment c.args.host runs.0 (entry_of.CheckDry c.args.host) (c.append.ensures.adds (fact.CheckDry c.args.host) refl)
    (ap (λ (p : Point). slice_get p.state.servers c.args.host) point ∙ runs.1)
