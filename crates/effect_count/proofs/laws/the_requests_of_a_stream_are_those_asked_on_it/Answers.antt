use Rattle.effect_count.proofs.TrailLemmas.{Known, same-commands, same-requests}
use Rattle.effect_count.proofs.laws.the_requests_of_a_stream_are_those_asked_on_it.Goals as goal

pub returns : goal.returns
returns c =
    let known : Known = record {
      trails = c.each_pool_has_its_trail.ensures.trail;
      places = c.each_pool_has_its_trail.ensures.place;
      where_held = c.each_command_is_where_its_pool_has_it.ensures.has;
      one = c.no_connection_is_lent_to_two.ensures;
    } in
    record {
      same = λ client facts stream l none. same-requests known client facts stream l none;
      commands = λ client facts stream nth op l. same-commands known client facts stream nth op l;
    }
