use Rattle.std.proofs.Common.{refl, arith}
use Rattle.desk_core.proofs.AppendsLemmas.{grown-same}
use Rattle.desk_core.proofs.GoingLemmas.{MovesOne-none}
use Rattle.desk_core.proofs.state.Core.drive_greeting.Goals as goal

pub returns-in_default : goal.returns-in_default
returns-in_default g c = record {
  ok = c.requires.work.ready;
  moves = MovesOne-none c.args.at.op c.args.operation.now c.args.self.now.trail c.requires.work.there;
  means = tt;
  appends = grown-same c.args.at.moment c.args.self.now.trail c.args.self.now.trail refl refl refl;
  faults = omega arith;
}
