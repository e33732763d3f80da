use Rattle.entry_judge.specs.LegalLaws.{Legal-at, Legal-from}
use Rattle.desk_trail.specs.Legal.{StandsAt, point_after, beginning}
use Rattle.desk_trail.proofs.laws.places.a_trail_is_legal_place_by_place.Goals as goal

pub returns-clause-at : goal.returns-clause-at
returns-clause-at c client ts l = Legal-at (StandsAt client) (point_after client) (beginning client) ts l

pub returns-clause-from : goal.returns-clause-from
returns-clause-from c client ts h = Legal-from (StandsAt client) (point_after client) (beginning client) ts h
