-- A command has a key of its own.
use Rattle.request_keys.proofs.keys.a_command_has_a_key_of_its_own.Goals as goal
use Rattle.request_keys.proofs.KeyLemmas.{own-key}

pub returns : goal.returns
returns c = own-key c.begins.ensures c.a_command_draws_once.ensures c.no_number_is_drawn_twice.ensures
