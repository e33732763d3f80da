use Rattle.std.proofs.Common.{false}
use Rattle.desk_trail.specs.Facts as fact
use Rattle.sess_step.proofs.WriteLemmas.{adds-kept, told-kept}
use Rattle.sess_step.proofs.leasing.write_lease.Goals as goal

pub returns-clause-adds : goal.returns-clause-adds
returns-clause-adds g c =
    adds-kept c.args.wired.now.trail c.append.new.self.trail c.args.at c.args.leased.place c.args.leased.lsid c.args.leased.fresh c.if-leased.false
    (c.append.ensures.adds (fact.Leased c.args.at.op c.args.leased.place c.args.leased.lsid false)
    (told-kept c.args.wired.now.trail.lists c.args.at c.args.leased.place c.args.leased.lsid c.args.leased.fresh c.if-leased.false c.requires.named))
