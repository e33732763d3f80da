-- Each request of a stream is one message.
use Rattle.request_keys.proofs.keys.each_request_is_a_message.Goals as goal
use Rattle.request_keys.proofs.SeenLemmas.{is-seen}

pub returns : goal.returns
returns c = is-seen
