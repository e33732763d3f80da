use Rattle.std.proofs.Common.{◌∙◌}
use Rattle.server_state.proofs.StreamLemmas.{latest_of}
use Rattle.server_state.proofs.server.Server.keep_stream.Goals as goal

pub returns : goal.returns
returns c = record { kept = latest_of c.self.inside _ _ c.args.stream c.self.view_is c.self.invariant (c.len-last.ensures ∙ c.self.inside.streams.ok.0) c.requires.dialled c.requires.none }
