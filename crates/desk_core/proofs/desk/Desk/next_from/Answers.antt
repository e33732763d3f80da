use Rattle.std.proofs.Common.{◌≡◌, List, sym, ap, ◌∙◌}
use Rattle.std.specs.Prelude.{slice_get}
use Rattle.cmd_build.specs.declared.command.Command.{Command}
use Rattle.desk_trail.specs.States.{CommandState}
use Rattle.desk_core.specs.Nexts.{AreAnsweredAhead}
use Rattle.desk_core.proofs.desk.Desk.next_from.Goals as goal

pub next_in-requires-clause-ahead : goal.next_in-requires-clause-ahead
next_in-requires-clause-ahead g c =
    let runs = c.self.invariant.runs (cc) in
    let trail = c.self.inside.core.trail in
    let ahead : AreAnsweredAhead trail.client trail.point.state c.args.lane c.args.from = rw (← c.self.view_is) at c.requires.ahead in
    let commands : c.commands.result.now ≡ trail.client.commands = cc in
    let operations : c.as_slice.result.now ≡ trail.point.state.commands = cc in
    λ k d x below given there of_lane.
    ahead k (record {
      command = d;
      given = ap (λ (l : List Command). slice_get l k) (sym commands) ∙ given;
      lane_is = of_lane;
      running = x;
      there = ap (λ (l : List CommandState). slice_get l k) (sym operations) ∙ there;
    }) below

pub returns : goal.returns
returns g c =
    let runs = c.self.invariant.runs (cc) in
    let trail = c.self.inside.core.trail in
    record { next = rw (← c.self.view_is) (c.next_in.ensures trail.client trail.point.state (cc) (cc)) }
