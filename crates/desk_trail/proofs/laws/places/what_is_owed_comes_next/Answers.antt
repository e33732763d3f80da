use Rattle.std.proofs.Common.{[], refl, sym, ◌∙◌, ap}
use Rattle.entry_judge.specs.LegalLaws.{Legal-rest, state_after-append}
use Rattle.desk_trail.specs.Legal.{Point, StandsAt, beginning, point_after, point_behind}
use Rattle.desk_trail.proofs.OrderLemmas.{at-once, comes-next, is-head, last-stands, paid-behind}
use Rattle.desk_trail.proofs.laws.places.what_is_owed_comes_next.Goals as goal

pub returns-clause-next : goal.returns-clause-next
returns-clause-next c client ts t d ds l e n =
    comes-next client (point_behind client ts) t d ds (last-stands client (beginning client) ts t l) e n

pub returns-clause-at_once : goal.returns-clause-at_once
returns-clause-at_once c client ts t d ds l e = at-once client (point_behind client ts) t d ds (last-stands client (beginning client) ts t l) e

pub returns-clause-head : goal.returns-clause-head
returns-clause-head c client ts t l e n = is-head client (point_behind client ts) t (last-stands client (beginning client) ts t l) e n

pub returns-clause-paid : goal.returns-clause-paid
returns-clause-paid c client xs ys l none =
    paid-behind client (point_behind client xs) [] (point_behind client xs).owed ys
    (Legal-rest (StandsAt client) (point_after client) (beginning client) xs ys l) refl
    (ap (λ (p : Point). p.owed) (sym (state_after-append (point_after client) (beginning client) xs ys)) ∙ none)
