use Rattle.std.proofs.Common.{◌≡◌, ◌∷◌, [], ap, subst, sym}
use Rattle.member_core.specs.Inside.{state_of}
use Rattle.member_core.specs.Logs.{times}
use Rattle.member_core.specs.Members.{MemberState, entries}
use Rattle.member_core.specs.Shares.{IsShared}
use Rattle.member_core.proofs.PlaceLemmas.{state_with}
use Rattle.member_core.proofs.ShareLemmas.{shared-added}
use Rattle.member_core.proofs.member.Member.add.Goals as goal

pub add-requires : goal.add-requires
add-requires c = record { lacks = subst (λ (m : MemberState). times c.args.entry.key (entries m.log) ≡ 0) (sym c.self.view_is) c.requires.lacks }

pub returns-clause-ok : goal.returns-clause-ok
returns-clause-ok c = rw (← c.self.view_is) (ap (state_with (state_of c.self.inside)) c.in_ok-add.ensures.ok)

pub returns-clause-kept : goal.returns-clause-kept
returns-clause-kept c =
    subst (λ (m : MemberState). IsShared c.len-kept.result m.log c.add.new.self) c.self.view_is
    (shared-added c.len-kept.result c.self.inside.log c.add.new.self ((c.args.entry, c.args.acked) ∷ []) c.len-kept.ensures c.in_ok-add.ensures.ok)
