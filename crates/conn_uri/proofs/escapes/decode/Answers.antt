use Rattle.std.proofs.Common.{subst}
use Rattle.std.specs.Prelude.{IsUtf8}
use Rattle.conn_uri.proofs.EscapeLemmas.{is_whole}
use Rattle.conn_uri.proofs.escapes.decode.Goals as goal

pub text_of-requires : goal.text_of-requires
text_of-requires c = subst IsUtf8 c.as_slice.ensures.value (is_whole _ _ _ _ _ c.first_broken-broken.ensures c.first_of.ensures c.in-None.is)
