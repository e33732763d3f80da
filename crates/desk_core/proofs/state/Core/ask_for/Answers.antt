use Rattle.std.proofs.Common.{◌≡◌, ◌<◌, Some, length, refl, sym, ap, ◌∙◌, subst}
use Rattle.std.specs.Prelude.{IsSome, slice_get}
use Rattle.std.specs.FinMap as map
use Rattle.std.proofs.lemmas.Bool.{ltb-true}
use Rattle.std.proofs.lemmas.Option.{slice_get_read}
use Rattle.desk_trail.specs.Facts.{facts_of}
use Rattle.desk_trail.specs.Legal.{Point}
use Rattle.desk_trail.specs.States.{ClientState, number_from}
use Rattle.server_look.specs.Inputs.{IsRunBy}
use Rattle.trail_laws.specs.Numbers.{AreNumbered}
use Rattle.desk_core.proofs.LookLemmas.{IfOk-by}
use Rattle.desk_core.proofs.state.Core.ask_for.Goals as goal

pub look-requires-clause-named : goal.look-requires-clause-named
look-requires-clause-named g c κs within = λ address has.
    let work = rw (← c.self.view_is) at c.requires.work in
    let h = c.self.invariant.leads work.ready.runs in
    let trail = c.self.inside.wired.trail in
    let numbered : AreNumbered trail.point.state =
    subst (λ (p : Point). AreNumbered p.state) (sym c.steps.ensures.point)
    (c.each_host_of_the_topology_has_its_number.ensures trail.client (facts_of trail.lists trail.steps) c.steps.ensures.legal.legal
    (ap (λ (p : Point). p.owed) (sym c.steps.ensures.point) ∙ work.ready.paid)) in
    let topology : trail.point.state.topology.servers ≡ c.topology.result.now.servers =
    ap (λ (w : ClientState). w.topology.servers) h.state ∙ ap (λ t. t.servers) (sym c.topology.ensures.value) in
    let servers = ap (λ (w : ClientState). w.servers) h.state ∙ sym c.deref.ensures.value in
    subst (λ ss. IsSome (number_from 0 ss address)) servers (numbered address (subst (λ m. IsSome (map.get m address)) (sym topology) has))

pub look-requires-clause-timely : goal.look-requires-clause-timely
look-requires-clause-timely g c κs within = c.may_look.ensures.yes c.if-not-may_look.false

pub returns-clause-looks : goal.returns-clause-looks
returns-clause-looks g c =
    let work = rw (← c.self.view_is) at c.requires.work in
    let counts = rw (← c.self.view_is) at c.requires.counts in
    let h = c.self.invariant.leads work.ready.runs in
    let trail = c.self.inside.wired.trail in
    let command = c.in-Some.command.now in
    let commands = c.commands.result.now in
    let lookup = c.in-Some.ensures.lookup in
    let within : c.args.op < length commands = ltb-true c.args.op (length commands) (sym lookup.0) in
    let given : slice_get trail.client.commands c.args.op ≡ Some command =
    ap (λ xs. slice_get xs c.args.op) (sym c.commands.ensures.value) ∙ slice_get_read commands (length commands) c.args.op command refl within lookup.1 in
    let topology = ap (λ (w : ClientState). w.topology) h.state ∙ sym c.topology.ensures.value in
    let servers = ap (λ (w : ClientState). w.servers) h.state ∙ sym c.deref.ensures.value in
    rw (← c.self.view_is)
    (IfOk-by c.look.result _ _
    (λ l looks. looks trail.client trail.point.state c.args.op
    (record { settings = sym c.settings.ensures.value; topology = topology; servers = servers; counts = counts })
    (record { given = given; there = work.there ∙ ap (λ r. Some r) (sym c.operation.view_is) })) c.look.ensures.looks)

pub returns-clause-run : goal.returns-clause-run
returns-clause-run g c =
    let work = rw (← c.self.view_is) at c.requires.work in
    let counts = rw (← c.self.view_is) at c.requires.counts in
    let h = c.self.invariant.leads work.ready.runs in
    let trail = c.self.inside.wired.trail in
    let command = c.in-Some.command.now in
    let commands = c.commands.result.now in
    let lookup = c.in-Some.ensures.lookup in
    let within : c.args.op < length commands = ltb-true c.args.op (length commands) (sym lookup.0) in
    let given : slice_get trail.client.commands c.args.op ≡ Some command =
    ap (λ xs. slice_get xs c.args.op) (sym c.commands.ensures.value) ∙ slice_get_read commands (length commands) c.args.op command refl within lookup.1 in
    let topology = ap (λ (w : ClientState). w.topology) h.state ∙ sym c.topology.ensures.value in
    let servers = ap (λ (w : ClientState). w.servers) h.state ∙ sym c.deref.ensures.value in
    rw (← c.self.view_is)
    (IfOk-by c.look.result _ _
    (λ l run. record {
      command = command;
      given = given;
      run =
          subst
          (λ r. IsRunBy {P = g.row.P.Denot} g.P.Picker.allows g.P.Picker.follows trail.client trail.point.state command.act r c.args.picker.now l.kept c.look.new.picker)
          c.operation.view_is
          (run trail.client trail.point.state
          (record { settings = sym c.settings.ensures.value; topology = topology; servers = servers; counts = counts }));
    }) c.look.ensures.run)
