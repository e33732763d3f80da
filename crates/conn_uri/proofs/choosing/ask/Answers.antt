use Rattle.std.proofs.Common.{refl}
use Rattle.conn_uri.proofs.choosing.ask.Goals as goal

pub returns-in_ok-left-in-Some-clause-left : goal.returns-in_ok-left-in-Some-clause-left
returns-in_ok-left-in-Some-clause-left c =
    rw (c.in-Some.is, c.in_ok-left-in-Some.ensures, c.in_ok-others-in-Some.ensures, c.as_slice.ensures.value) refl
