use Rattle.std.proofs.Common.{sym, subst}
use Rattle.member_core.specs.Inside.{IsSmall}
use Rattle.member_core.specs.Members.{MemberState}
use Rattle.member_core.specs.Sizes.{IsWithin}
use Rattle.member_core.proofs.SmallReplies.{small_reply}
use Rattle.member_core.proofs.member.Member.reply.Goals as goal

pub returns-clause-small : goal.returns-clause-small
returns-clause-small c =
    let within = subst (λ (m : MemberState). IsWithin m.set m.hosts) c.self.view_is c.self.invariant.within in
    subst IsSmall (sym c.in_ok-document.ensures) (small_reply c.args.self.now c.args.name.now c.args.lead c.args.effect within)
