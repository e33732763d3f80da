use Rattle.std.proofs.Common.{subst}
use Rattle.std.proofs.lemmas.List.Elements.{filter_map-append}
use Rattle.entry_judge.specs.LegalLaws.{Legal-front}
use Rattle.desk_trail.specs.Facts.{facts_of, timed_fact}
use Rattle.desk_trail.specs.Legal.{AreLegal, StandsAt, point_after, beginning}
use Rattle.desk_trail.proofs.FactLemmas.{list_all-front}
use Rattle.desk_trail.proofs.laws.places.the_front_of_a_legal_trail_is_legal.Goals as goal

pub returns : goal.returns
returns c client lists front rest l = record {
  placed = list_all-front _ front rest l.placed;
  legal = Legal-front (StandsAt client) (point_after client) (beginning client) (facts_of lists front) (facts_of lists rest)
      (subst (AreLegal client) (filter_map-append (timed_fact lists) front rest) l.legal);
}
