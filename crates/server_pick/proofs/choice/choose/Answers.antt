use Rattle.std.proofs.Common.{ap, ◌∙◌, filter, nat_le}
use Rattle.server_pick.specs.Windows.{choice, within}
use Rattle.server_pick.specs.declared.candidate.Candidate.{Candidate}
use Rattle.server_pick.proofs.choice.choose.Goals as goal

pub returns : goal.returns
returns c =
    c.choose_within.ensures
    ∙ ap (λ end. choice (λ (k : Candidate). k.in_flight) c.args.w1 c.args.w2 (filter (λ (k : Candidate). nat_le k.mean end) c.args.kept.now)) c.end_of.ensures
    ∙ ap (λ o. choice (λ (k : Candidate). k.in_flight) c.args.w1 c.args.w2 (within (λ (k : Candidate). k.mean) o c.args.threshold c.args.kept.now)) c.in-Some.ensures
