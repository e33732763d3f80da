use Rattle.write_effects.proofs.EffectLaw.{takes_effect_once}
use Rattle.write_effects.proofs.once.each_write_takes_effect_once.Goals as goal

pub returns : goal.returns
returns c = takes_effect_once c.logs.ensures.once c.logs.ensures.keeps c.each_request_is_a_message.ensures c.a_command_has_a_key_of_its_own.ensures c.an_ok_is_that_of_a_reply.ensures
