use Rattle.desk_trail.proofs.DrawLemmas.{pair-once}
use Rattle.desk_trail.proofs.laws.sessions.no_number_is_drawn_twice.Goals as goal

pub returns : goal.returns
returns c client xs ys first second a b m n x y l i j same is =
    pair-once c.ids_differ.ensures c.numbers_rise_by_one.ensures client xs ys first second a b m n x y l i j same is
