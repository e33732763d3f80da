use Rattle.trail_laws.proofs.FarewellLemmas.{none-behind}
use Rattle.trail_laws.proofs.ending.a_client_that_goes_on_asked_no_farewell.Goals as goal

pub returns : goal.returns
returns c client ts going = none-behind client ts going
