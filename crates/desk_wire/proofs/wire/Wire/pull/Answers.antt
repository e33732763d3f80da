use Rattle.std.proofs.Common.{rules, refl, ap, ◌∙◌}
use Rattle.net_link.specs.declared.net.Came.TheVariants as came
use Rattle.net_link.proofs.KeepsLemmas.{Keeps-less, Keeps-none, KeepsBut-next}
use Rattle.desk_wire.proofs.PullLemmas.{Meanwhile-next, Meanwhile-none, pulling-ends, Pulls-bad-after, Pulls-memory-after, Pulls-next, Pulls-whole-after}
use Rattle.desk_wire.proofs.wire.Wire.pull.Goals as goal

pub pulling-init : goal.pulling-init
pulling-init g c = record {
  kept = refl;
  comes = Meanwhile-none _ _ _ _ _;
  later = search rules;
  keeps = Keeps-less c.args.self.now.stream (Keeps-none _ _ _ _ _ _);
}

pub pulling-smaller : goal.pulling-smaller
pulling-smaller g c = pulling-ends _ c.judge.new.self.held c.pull_some.new.self.held _ _ (ap (λ w. w.held) c.in-Short.ensures.0) c.in-Short.ensures.1 c.in-Got.ensures.grows c.in-Got.ensures.within

pub pulling-preserved : goal.pulling-preserved
pulling-preserved g c = record {
  kept = search rules;
  comes = Meanwhile-next g.N.Net.tells _ c.pulling.self c.judge.new.self c.pull_some.new.self _ _ _ _ _ (g.N.Net.inbox c.args.net.now) (g.N.Net.inbox c.pulling.net)
      (g.N.Net.inbox c.pull_some.new.net) (g.N.Net.has_ended c.pull_some.new.net) c.pulling.invariant.kept c.in-Short.ensures.0 c.in-Got.ensures.grows c.in-Got.ensures.within
      c.in-Got.ensures.told c.in-Got.ensures.inbox c.pulling.invariant.comes;
  later = search rules;
  keeps = KeepsBut-next (ap (λ w. w.stream) c.in-Short.ensures.0 ∙ ap (λ w. w.stream) c.pulling.invariant.kept) c.pulling.invariant.keeps c.in-Got.ensures.keeps;
}

pub returns-in-NotYet-clause-takes : goal.returns-in-NotYet-clause-takes
returns-in-NotYet-clause-takes g c =
    Pulls-next g.N.Net.tells _ c.pulling.self c.judge.new.self c.pull_some.new.self _ came.NotYet _ _ _ (g.N.Net.inbox c.args.net.now) (g.N.Net.inbox c.pulling.net)
    (g.N.Net.inbox c.pull_some.new.net) (g.N.Net.has_ended c.pull_some.new.net) (λ n e. cc) c.pulling.invariant.kept c.in-Short.ensures.0 c.in-Short.ensures.1
    c.in-NotYet.ensures.grows c.in-NotYet.ensures.within c.in-NotYet.ensures.told c.in-NotYet.ensures.inbox c.pulling.invariant.comes

pub returns-in-End-clause-takes : goal.returns-in-End-clause-takes
returns-in-End-clause-takes g c =
    Pulls-next g.N.Net.tells _ c.pulling.self c.judge.new.self c.pull_some.new.self _ came.End _ _ _ (g.N.Net.inbox c.args.net.now) (g.N.Net.inbox c.pulling.net)
    (g.N.Net.inbox c.pull_some.new.net) (g.N.Net.has_ended c.pull_some.new.net) (λ n e. cc) c.pulling.invariant.kept c.in-Short.ensures.0 c.in-Short.ensures.1
    c.in-End.ensures.grows c.in-End.ensures.within c.in-End.ensures.told c.in-End.ensures.inbox c.pulling.invariant.comes

pub returns-in-Failed-clause-takes : goal.returns-in-Failed-clause-takes
returns-in-Failed-clause-takes g c =
    Pulls-next g.N.Net.tells _ c.pulling.self c.judge.new.self c.pull_some.new.self _ came.Failed _ _ _ (g.N.Net.inbox c.args.net.now) (g.N.Net.inbox c.pulling.net)
    (g.N.Net.inbox c.pull_some.new.net) (g.N.Net.has_ended c.pull_some.new.net) (λ n e. cc) c.pulling.invariant.kept c.in-Short.ensures.0 c.in-Short.ensures.1
    c.in-Failed.ensures.grows c.in-Failed.ensures.within c.in-Failed.ensures.told c.in-Failed.ensures.inbox c.pulling.invariant.comes

pub returns-in-Memory-pull_some-clause-takes : goal.returns-in-Memory-pull_some-clause-takes
returns-in-Memory-pull_some-clause-takes g c =
    Pulls-next g.N.Net.tells _ c.pulling.self c.judge.new.self c.pull_some.new.self _ came.Memory _ _ _ (g.N.Net.inbox c.args.net.now) (g.N.Net.inbox c.pulling.net)
    (g.N.Net.inbox c.pull_some.new.net) (g.N.Net.has_ended c.pull_some.new.net) (λ n e. cc) c.pulling.invariant.kept c.in-Short.ensures.0 c.in-Short.ensures.1
    c.in-Memory-pull_some.ensures.grows c.in-Memory-pull_some.ensures.within c.in-Memory-pull_some.ensures.told c.in-Memory-pull_some.ensures.inbox c.pulling.invariant.comes

pub returns-in-Whole-clause-takes : goal.returns-in-Whole-clause-takes
returns-in-Whole-clause-takes g c =
    Pulls-whole-after _ _ _ c.pulling.self.held _ _ _ _ _ _ _ c.pulling.invariant.comes c.in-Whole.ensures.1 (ap (λ w. w.held) c.in-Whole.ensures.0)

pub returns-in-Bad-clause-takes : goal.returns-in-Bad-clause-takes
returns-in-Bad-clause-takes g c =
    Pulls-bad-after _ _ _ c.pulling.self.held _ _ _ _ _ _ _ c.pulling.invariant.comes c.in-Bad.ensures.1 (ap (λ w. w.held) c.in-Bad.ensures.0)

pub returns-in-Memory-clause-takes : goal.returns-in-Memory-clause-takes
returns-in-Memory-clause-takes g c =
    Pulls-memory-after _ _ _ c.pulling.self.held _ _ _ _ _ _ c.pulling.invariant.comes c.in-Memory.ensures.1 (ap (λ w. w.held) c.in-Memory.ensures.0)

pub returns-in-NotYet-clause-keeps : goal.returns-in-NotYet-clause-keeps
returns-in-NotYet-clause-keeps g c =
    KeepsBut-next (ap (λ w. w.stream) c.in-Short.ensures.0 ∙ ap (λ w. w.stream) c.pulling.invariant.kept) c.pulling.invariant.keeps c.in-NotYet.ensures.keeps

pub returns-in-End-clause-keeps : goal.returns-in-End-clause-keeps
returns-in-End-clause-keeps g c =
    KeepsBut-next (ap (λ w. w.stream) c.in-Short.ensures.0 ∙ ap (λ w. w.stream) c.pulling.invariant.kept) c.pulling.invariant.keeps c.in-End.ensures.keeps

pub returns-in-Failed-clause-keeps : goal.returns-in-Failed-clause-keeps
returns-in-Failed-clause-keeps g c =
    KeepsBut-next (ap (λ w. w.stream) c.in-Short.ensures.0 ∙ ap (λ w. w.stream) c.pulling.invariant.kept) c.pulling.invariant.keeps c.in-Failed.ensures.keeps

pub returns-in-Memory-pull_some-clause-keeps : goal.returns-in-Memory-pull_some-clause-keeps
returns-in-Memory-pull_some-clause-keeps g c =
    KeepsBut-next (ap (λ w. w.stream) c.in-Short.ensures.0 ∙ ap (λ w. w.stream) c.pulling.invariant.kept) c.pulling.invariant.keeps c.in-Memory-pull_some.ensures.keeps
