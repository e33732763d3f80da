use Rattle.std.proofs.Common.{◌≡◌, ◌<◌, Some, length, arith, ap, ◌∙◌}
use Rattle.msg_wire.specs.Reading.{flaw}
use Rattle.msg_wire.specs.declared.fault.MsgFault.TheVariants as fault
use Rattle.desk_wire.proofs.FrontLemmas.{asks-more, grown}
use Rattle.desk_wire.proofs.wire.Wire.pull_some.Goals as goal

pub overflow_sub-want : goal.overflow_sub-want
overflow_sub-want g c =
    let more : length c.args.self.now.held < c.args.need = asks-more _ _ c.requires.short in
    omega (arith, c.len.ensures.count, ap (λ w. length w.held) c.self.view_is, more)

pub receive_some-requires-clause-some : goal.receive_some-requires-clause-some
receive_some-requires-clause-some g c =
    let more : length c.args.self.now.held < c.args.need = asks-more _ _ c.requires.short in
    omega (arith, c.len.ensures.count, ap (λ w. length w.held) c.self.view_is, more)

pub invariant_of-self : goal.invariant_of-self
invariant_of-self g c =
    let short : flaw c.self.inside.held.items ≡ Some (fault.Short c.args.need) = ap (λ w. flaw w.held) c.self.view_is ∙ c.requires.short in
    (c.self.invariant.0, grown _ _ _ _ _ short c.len.ensures.count c.receive_some.ensures.kept c.receive_some.ensures.within)
