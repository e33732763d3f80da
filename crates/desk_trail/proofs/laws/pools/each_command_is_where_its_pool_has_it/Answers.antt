use Rattle.desk_trail.specs.Legal.{point_behind}
use Rattle.desk_trail.specs.States.{Dials, Has, Waits}
use Rattle.desk_trail.proofs.WhereLemmas.{dials-at, has-at, meets, out-there, waits-at}
use Rattle.desk_trail.proofs.laws.pools.each_command_is_where_its_pool_has_it.Goals as goal

pub returns-clause-waits : goal.returns-clause-waits
returns-clause-waits c client ts op x host ticket l there e =
    let w = (point_behind client ts).state in
    waits-at client w host ticket ((meets c.each_connection_stands_once.ensures client ts l).holds op (Waits host ticket) (out-there w op x (Waits host ticket) there e))

pub returns-clause-dials : goal.returns-clause-dials
returns-clause-dials c client ts op x host ticket conn l there e =
    let w = (point_behind client ts).state in
    dials-at client w host ticket conn
    ((meets c.each_connection_stands_once.ensures client ts l).holds op (Dials host ticket conn) (out-there w op x (Dials host ticket conn) there e))

pub returns-clause-has : goal.returns-clause-has
returns-clause-has c client ts op x host ticket conn l there e =
    let w = (point_behind client ts).state in
    has-at client w host ticket conn
    ((meets c.each_connection_stands_once.ensures client ts l).holds op (Has host ticket conn) (out-there w op x (Has host ticket conn) there e))
