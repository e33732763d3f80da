use Rattle.std.proofs.Common.{◌≡◌, ℕ, [], refl, ap, subst, ◌∙◌}
use Rattle.net_link.proofs.KeepsLemmas.{Keeps-less, KeepsBut-next}
use Rattle.desk_wire.proofs.TradeLemmas.{Exchanges-fault, Exchanges-full, Exchanges-memory, Exchanges-pulled, MustWait-dry, MustWait-full}
use Rattle.desk_wire.proofs.wire.Wire.turn.Goals as goal

pub returns-in-Done-clause-trades : goal.returns-in-Done-clause-trades
returns-in-Done-clause-trades g c =
    let kept = c.in-Done.ensures.kept in
    Exchanges-pulled _ c.args.self.now c.push.new.self c.pull.new.self _ _ _ _ _ _ _ (ap (λ w. w.stream) kept) (ap (λ w. w.held) kept) (c.in-Done.ensures.done.0 refl)
    (ap (λ w. w.unsent) c.pull.ensures.kept) c.in-Done.ensures.sends c.pull.ensures.takes

pub returns-in-NotYet-clause-trades : goal.returns-in-NotYet-clause-trades
returns-in-NotYet-clause-trades g c =
    Exchanges-full _ c.args.self.now c.push.new.self _ _ (ap (λ w. w.held) c.in-NotYet.ensures.kept) (λ none. let clash = c.in-NotYet.ensures.done.1 none in cc) c.in-NotYet.ensures.sends

pub returns-in-Fault-clause-trades : goal.returns-in-Fault-clause-trades
returns-in-Fault-clause-trades g c =
    Exchanges-fault _ c.args.self.now c.push.new.self _ _ (ap (λ w. w.held) c.in-Fault.ensures.kept) (λ none. let clash = c.in-Fault.ensures.done.1 none in cc) c.in-Fault.ensures.sends

pub returns-in-Memory-clause-trades : goal.returns-in-Memory-clause-trades
returns-in-Memory-clause-trades g c = Exchanges-memory _ c.args.self.now c.push.new.self _ _ (ap (λ w. w.held) c.in-Memory.ensures.kept) c.in-Memory.ensures.sends

pub returns-in-Done-clause-keeps : goal.returns-in-Done-clause-keeps
returns-in-Done-clause-keeps g c = KeepsBut-next (ap (λ w. w.stream) c.in-Done.ensures.kept) (Keeps-less c.args.self.now.stream c.in-Done.ensures.keeps) c.pull.ensures.keeps

pub returns-in-NotYet-clause-keeps : goal.returns-in-NotYet-clause-keeps
returns-in-NotYet-clause-keeps g c = Keeps-less c.args.self.now.stream c.in-NotYet.ensures.keeps

pub returns-in-Fault-clause-keeps : goal.returns-in-Fault-clause-keeps
returns-in-Fault-clause-keeps g c = Keeps-less c.args.self.now.stream c.in-Fault.ensures.keeps

pub returns-in-Memory-clause-keeps : goal.returns-in-Memory-clause-keeps
returns-in-Memory-clause-keeps g c = Keeps-less c.args.self.now.stream c.in-Memory.ensures.keeps

pub returns-in-Done-clause-waits : goal.returns-in-Done-clause-waits
returns-in-Done-clause-waits g c = λ tells is.
    let at = ap (λ w. w.stream) c.in-Done.ensures.kept in
    let none = ap (λ w. w.unsent) c.pull.ensures.kept ∙ c.in-Done.ensures.done.0 refl in
    MustWait-dry _ _ _ _ none (subst (λ (s : ℕ). (g.N.Net.inbox c.pull.new.net s ≡ []) × ¬ g.N.Net.has_ended c.pull.new.net s) at ((c.pull.ensures.takes.inbox tells).dry is))

pub returns-in-NotYet-clause-waits : goal.returns-in-NotYet-clause-waits
returns-in-NotYet-clause-waits g c = λ tells _. MustWait-full _ _ _ _ (λ none. let clash = c.in-NotYet.ensures.done.1 none in cc) (c.in-NotYet.ensures.full tells refl)
