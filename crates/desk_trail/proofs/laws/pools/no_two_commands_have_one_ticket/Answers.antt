use Rattle.desk_trail.specs.Legal.{point_behind}
use Rattle.desk_trail.proofs.WhereLemmas.{meets, one-ticket}
use Rattle.desk_trail.proofs.laws.pools.no_two_commands_have_one_ticket.Goals as goal

pub returns : goal.returns
returns c client ts a b x y host ticket l i j e f =
    one-ticket client (point_behind client ts).state a b x y host ticket (meets c.each_connection_stands_once.ensures client ts l) i j e f
