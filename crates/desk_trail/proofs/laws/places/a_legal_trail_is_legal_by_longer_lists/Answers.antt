use Rattle.std.proofs.Common.{sym, subst}
use Rattle.desk_trail.specs.Legal.{AreLegal}
use Rattle.desk_trail.proofs.OrderLemmas.{facts-longer, placed-longer}
use Rattle.desk_trail.proofs.laws.places.a_legal_trail_is_legal_by_longer_lists.Goals as goal

pub returns-clause-legal : goal.returns-clause-legal
returns-clause-legal c client old new steps x l = record {
  placed = placed-longer old new x steps l.placed;
  legal = subst (AreLegal client) (sym (facts-longer old new x steps l.placed)) l.legal;
}

pub returns-clause-same : goal.returns-clause-same
returns-clause-same c client old new steps x l = facts-longer old new x steps l.placed
