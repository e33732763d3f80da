use Rattle.desk_trail.specs.Legal.{point_behind}
use Rattle.desk_trail.proofs.HolderLemmas.{holds, one-holder}
use Rattle.desk_trail.proofs.laws.sessions.a_session_is_one_commands.Goals as goal

pub returns : goal.returns
returns c client ts a b x y place l i j e f =
    one-holder (point_behind client ts).state a b x y place (holds c.one_holder.ensures client ts l) i j e f
