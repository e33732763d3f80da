use Rattle.trail_laws.proofs.SelectionLemmas.{began-behind}
use Rattle.trail_laws.proofs.commands.each_selection_began_in_time.Goals as goal

pub returns : goal.returns
returns c client ts op d l there = began-behind client ts l op d there
