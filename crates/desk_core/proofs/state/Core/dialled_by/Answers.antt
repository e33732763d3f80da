use Rattle.std.proofs.Common.{rules, ◌≡◌, ◌<◌, length, Some, refl, sym, ap, ◌∙◌}
use Rattle.std.specs.Prelude.{slice_get}
use Rattle.std.proofs.lemmas.Bool.{ltb-true}
use Rattle.std.proofs.lemmas.Option.{slice_get_read}
use Rattle.desk_trail.specs.Facts.{facts_of}
use Rattle.desk_trail.specs.Legal.{Point}
use Rattle.desk_trail.specs.States.{Dials}
use Rattle.desk_core.proofs.ComesLemmas.{there-by}
use Rattle.desk_core.proofs.GreetingLemmas.{asks-by}
use Rattle.desk_core.proofs.state.Core.dialled_by.Goals as goal

pub returns-clause-dialled : goal.returns-clause-dialled
returns-clause-dialled g c =
    let work = rw (← c.self.view_is) at c.requires.work in
    let r = c.self.inside.wired.trail in
    let law = c.each_command_waits_at_its_server.ensures r.client (facts_of r.lists r.steps) c.args.op c.args.running.now c.steps.ensures.legal.legal
    (ap (λ (p : Point). slice_get p.state.commands c.args.op) (sym c.steps.ensures.point) ∙ work.there) in
    let servers = c.deref.result.now in
    let lookup = c.in_ok-server.ensures.lookup in
    let within : c.in-Dials.host < length servers = ltb-true c.in-Dials.host (length servers) (sym lookup.0) in
    let first : slice_get c.self.inside.servers.items c.in-Dials.host ≡ Some c.in_ok-server.server.now =
    ap (λ ss. slice_get ss c.in-Dials.host) (sym c.deref.ensures.value) ∙ slice_get_read servers (length servers) c.in-Dials.host c.in_ok-server.server.now refl within lookup.1 in
    let dials : c.args.running.now.check_out ≡ Dials c.in-Dials.host c.in-Dials.ticket c.in-Dials.conn = search rules in
    record {
      server = c.in_ok-server.server.now;
      there =
          rw (← c.self.view_is)
          (there-by r c.self.inside.wired.lines c.self.inside.topology.topology c.self.inside.servers.items c.self.inside.gossip c.self.inside.last c.in-Dials.host c.in_ok-server.server.now
          (c.self.invariant.leads work.ready.runs) first);
      held = c.in_ok-held.held;
      pending = search rules;
      generation = refl;
      dials = search rules;
      stream_there = search rules;
      asks = asks-by c.in-Dials.host c.in-Dials.ticket c.in-Dials.conn c.args.running.now dials law;
    }
