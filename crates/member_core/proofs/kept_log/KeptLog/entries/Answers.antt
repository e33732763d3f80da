use Rattle.std.proofs.Common.{subst, sym}
use Rattle.member_core.specs.Places.{HasNoneTwice}
use Rattle.member_core.proofs.IndexLemmas.{none_twice}
use Rattle.member_core.proofs.ShareLemmas.{entries-of}
use Rattle.member_core.proofs.kept_log.KeptLog.entries.Goals as goal

pub returns : goal.returns
returns c =
    let is = entries-of c.self.inside.entries c.self.inside.marks.items c.args.self.now c.self.view_is c.self.invariant.marks in
    record { value = sym is; once = subst HasNoneTwice (sym is) (none_twice c.self.inside.places c.self.inside.entries c.self.invariant.places) }
