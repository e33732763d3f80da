use Rattle.desk_trail.specs.Legal.{point_behind}
use Rattle.desk_trail.proofs.WhereLemmas.{meets, one-borrower}
use Rattle.desk_trail.proofs.laws.pools.no_connection_is_lent_to_two.Goals as goal

pub returns : goal.returns
returns c client ts a b x y host s t conn l i j e f =
    one-borrower client (point_behind client ts).state a b x y host s t conn (meets c.each_connection_stands_once.ensures client ts l) i j e f
