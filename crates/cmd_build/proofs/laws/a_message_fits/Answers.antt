use Rattle.cmd_build.proofs.SizeLemmas.{fits_message}
use Rattle.cmd_build.proofs.laws.a_message_fits.Goals as goal

pub returns : goal.returns
returns c = fits_message
