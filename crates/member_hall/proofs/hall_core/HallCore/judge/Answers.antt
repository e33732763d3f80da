use Rattle.std.proofs.Common.{◌≡◌, ◌∙◌, Some, ap, sym}
use Rattle.msg_wire.specs.Reading.{flaw}
use Rattle.msg_wire.specs.declared.fault.MsgFault.{MsgFault}
use Rattle.msg_wire.specs.declared.fault.MsgFault.TheVariants as fault
use Rattle.member_hall.specs.Halls.{line_at}
use Rattle.member_hall.proofs.Serving.{serve-fault, serve-short}
use Rattle.member_hall.proofs.hall_core.HallCore.judge.Goals as goal

pub returns-in-Short-clause-ok : goal.returns-in-Short-clause-ok
returns-in-Short-clause-ok c =
    let is : flaw (line_at c.args.self.now.lines c.args.stream).rest ≡ Some (fault.Short c.in-Short.need) =
    c.requires.flaw (λ same. let clash : fault.Short c.in-Short.need ≡ fault.Memory = sym c.in-Short.is ∙ same in cc) ∙ ap (λ (e : MsgFault). Some e) c.in-Short.is in
    sym (serve-short c.args.self.now c.args.stream c.in-Short.need c.requires.goes_on is)

pub returns-in_default-clause-ok : goal.returns-in_default-clause-ok
returns-in_default-clause-ok c =
    c.end.ensures.ended ∙ sym (serve-fault c.args.self.now c.args.stream c.args.fault c.in_default.not-Short c.requires.goes_on (c.requires.flaw c.in_default.not-Memory))
