use Rattle.std.proofs.Common.{rules, refl, ap}
use Rattle.net_link.proofs.KeepsLemmas.{Keeps-less, Keeps-none, KeepsBut-next}
use Rattle.desk_wire.specs.declared.answers.Pulled.TheVariants as pulled
use Rattle.desk_wire.proofs.TradeLemmas.{Exchanges-none, Exchanges-trans, Exchanges-waited}
use Rattle.desk_wire.proofs.exchanging.exchange.Goals as goal

pub exchanging-init : goal.exchanging-init
exchanging-init g c = record {
  kept = refl;
  trades = Exchanges-none _ _ _;
  later = search rules;
  keeps = Keeps-less c.args.wire.now.stream (Keeps-none _ _ _ _ _ _);
}

pub returns-in-Whole-clause-trades : goal.returns-in-Whole-clause-trades
returns-in-Whole-clause-trades g c =
    Exchanges-trans _ c.args.wire.now c.exchanging.wire c.turn.new.self _ _ _ _ (ap (λ w. w.stream) c.exchanging.invariant.kept) c.exchanging.invariant.trades c.in-Whole.ensures.trades

pub returns-in-Whole-clause-cause : goal.returns-in-Whole-clause-cause
returns-in-Whole-clause-cause g c = record { later = search rules; rose = λ e. absurd cc }

pub returns-in-Some-late_or_rest-clause-trades : goal.returns-in-Some-late_or_rest-clause-trades
returns-in-Some-late_or_rest-clause-trades g c =
    Exchanges-trans _ c.args.wire.now c.exchanging.wire c.turn.new.self _ _ _ _ (ap (λ w. w.stream) c.exchanging.invariant.kept) c.exchanging.invariant.trades c.in-NotYet.ensures.trades

pub exchanging-preserved : goal.exchanging-preserved
exchanging-preserved g c = record {
  kept = search rules;
  trades = Exchanges-waited _ c.args.wire.now c.turn.new.self _ _
      (Exchanges-trans _ c.args.wire.now c.exchanging.wire c.turn.new.self _ _ _ pulled.NotYet (ap (λ w. w.stream) c.exchanging.invariant.kept) c.exchanging.invariant.trades c.in-NotYet.ensures.trades);
  later = search rules;
  keeps = KeepsBut-next (ap (λ w. w.stream) c.exchanging.invariant.kept) c.exchanging.invariant.keeps c.in-NotYet.ensures.keeps;
}

pub returns-in-End-clause-trades : goal.returns-in-End-clause-trades
returns-in-End-clause-trades g c =
    Exchanges-trans _ c.args.wire.now c.exchanging.wire c.turn.new.self _ _ _ _ (ap (λ w. w.stream) c.exchanging.invariant.kept) c.exchanging.invariant.trades c.in-End.ensures.trades

pub returns-in-Fault-clause-trades : goal.returns-in-Fault-clause-trades
returns-in-Fault-clause-trades g c =
    Exchanges-trans _ c.args.wire.now c.exchanging.wire c.turn.new.self _ _ _ _ (ap (λ w. w.stream) c.exchanging.invariant.kept) c.exchanging.invariant.trades c.in-Fault.ensures.trades

pub returns-in-Bad-clause-trades : goal.returns-in-Bad-clause-trades
returns-in-Bad-clause-trades g c =
    Exchanges-trans _ c.args.wire.now c.exchanging.wire c.turn.new.self _ _ _ _ (ap (λ w. w.stream) c.exchanging.invariant.kept) c.exchanging.invariant.trades c.in-Bad.ensures.trades

pub returns-in-Memory-clause-trades : goal.returns-in-Memory-clause-trades
returns-in-Memory-clause-trades g c =
    Exchanges-trans _ c.args.wire.now c.exchanging.wire c.turn.new.self _ _ _ _ (ap (λ w. w.stream) c.exchanging.invariant.kept) c.exchanging.invariant.trades c.in-Memory.ensures.trades

pub returns-in-Whole-clause-keeps : goal.returns-in-Whole-clause-keeps
returns-in-Whole-clause-keeps g c = KeepsBut-next (ap (λ w. w.stream) c.exchanging.invariant.kept) c.exchanging.invariant.keeps c.in-Whole.ensures.keeps

pub returns-in-Some-late_or_rest-clause-keeps : goal.returns-in-Some-late_or_rest-clause-keeps
returns-in-Some-late_or_rest-clause-keeps g c = KeepsBut-next (ap (λ w. w.stream) c.exchanging.invariant.kept) c.exchanging.invariant.keeps c.in-NotYet.ensures.keeps

pub returns-in-End-clause-keeps : goal.returns-in-End-clause-keeps
returns-in-End-clause-keeps g c = KeepsBut-next (ap (λ w. w.stream) c.exchanging.invariant.kept) c.exchanging.invariant.keeps c.in-End.ensures.keeps

pub returns-in-Fault-clause-keeps : goal.returns-in-Fault-clause-keeps
returns-in-Fault-clause-keeps g c = KeepsBut-next (ap (λ w. w.stream) c.exchanging.invariant.kept) c.exchanging.invariant.keeps c.in-Fault.ensures.keeps

pub returns-in-Bad-clause-keeps : goal.returns-in-Bad-clause-keeps
returns-in-Bad-clause-keeps g c = KeepsBut-next (ap (λ w. w.stream) c.exchanging.invariant.kept) c.exchanging.invariant.keeps c.in-Bad.ensures.keeps

pub returns-in-Memory-clause-keeps : goal.returns-in-Memory-clause-keeps
returns-in-Memory-clause-keeps g c = KeepsBut-next (ap (λ w. w.stream) c.exchanging.invariant.kept) c.exchanging.invariant.keeps c.in-Memory.ensures.keeps
