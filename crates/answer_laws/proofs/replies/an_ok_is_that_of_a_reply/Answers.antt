use Rattle.answer_laws.proofs.AnswerLemmas.{ok-has-reply}
use Rattle.answer_laws.proofs.replies.an_ok_is_that_of_a_reply.Goals as goal

pub returns : goal.returns
returns c client facts op l r =
    ok-has-reply (record {
      trails = c.each_pool_has_its_trail.ensures.trail;
      places = c.each_pool_has_its_trail.ensures.place;
      where_held = c.each_command_is_where_its_pool_has_it.ensures.has;
      one = c.no_connection_is_lent_to_two.ensures;
    }) client facts op l r
