use Rattle.std.proofs.Common.{◌≡◌, ◌+◌, ℕ, List, take, ap, subst, arith}
use Rattle.std.proofs.lemmas.List.{take_all}
use Rattle.entry_judge.specs.declared.timed.Timed.{Timed}
use Rattle.desk_trail.specs.Facts.{Fact, facts_of}
use Rattle.desk_hooks.specs.Hearing.{HearMore}
use Rattle.desk_hooks.proofs.HearingLemmas.{HearMore-same, HearMore-trans}
use Rattle.desk_hooks.proofs.TellingLemmas.{front-told}
use Rattle.desk_hooks.proofs.telling.tell_behind.Goals as goal

pub telling-init : goal.telling-init
telling-init g c = λ lists same placed.
    HearMore-same g.L.Listener.heard g.L.Listener.leaves (facts_of lists (take c.args.behind c.args.steps.now)) c.args.hooks.now

pub telling-preserved : goal.telling-preserved
telling-preserved g c = λ lists same placed.
    let upto = λ (k : ℕ). facts_of lists (take k c.args.steps.now) in
    HearMore-trans g.L.Listener.heard g.L.Listener.leaves (upto c.args.behind) (upto c.telling.place) (upto (c.telling.place + 1)) c.args.hooks.now c.telling.hooks
    c.tell_step.new.hooks (c.telling.invariant lists same placed) (c.tell_step.ensures lists same placed)

pub returns : goal.returns
returns g c = λ lists ts same placed front.
    let heard = g.L.Listener.heard in
    let leaves = g.L.Listener.leaves in
    let steps = c.args.steps.now in
    let all : take c.telling.place steps ≡ steps = take_all c.telling.place steps (omega arith) in
    subst (λ (xs : List (Timed Fact)). HearMore heard leaves xs (facts_of lists steps) c.args.hooks.now c.telling.hooks) (front-told ts c.args.behind lists steps front)
    (subst (λ (ys : List (Timed Fact)). HearMore heard leaves (facts_of lists (take c.args.behind steps)) ys c.args.hooks.now c.telling.hooks) (ap (facts_of lists) all)
    (c.telling.invariant lists same placed))
