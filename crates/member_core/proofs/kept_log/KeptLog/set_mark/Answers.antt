use Rattle.std.proofs.Common.{arith, sym, true, ◌∙◌}
use Rattle.std.proofs.Math.ListN.{set}
use Rattle.std.proofs.lemmas.List.{length-set}
use Rattle.std.specs.List.{zip}
use Rattle.member_core.proofs.ShareLemmas.{entries-of, length-of, marks-of}
use Rattle.member_core.proofs.kept_log.KeptLog.set_mark.Goals as goal

pub index_mut-requires : goal.index_mut-requires
index_mut-requires c =
    omega (arith, length-of c.self.inside.entries c.self.inside.marks.items c.args.self.now c.self.view_is c.self.invariant.marks, c.self.invariant.marks, c.requires)

pub invariant_of-self : goal.invariant_of-self
invariant_of-self c = record {
  marks = length-set c.self.inside.marks.items c.args.place true ∙ c.self.invariant.marks;
  places = c.self.invariant.places;
}

pub returns : goal.returns
returns c =
    let es = entries-of c.self.inside.entries c.self.inside.marks.items c.args.self.now c.self.view_is c.self.invariant.marks in
    let ms = marks-of c.self.inside.entries c.self.inside.marks.items c.args.self.now c.self.view_is c.self.invariant.marks in
    λ i. zip (sym es i) (set (sym ms i) c.args.place true)
