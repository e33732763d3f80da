use Rattle.desk_trail.proofs.CommandLemmas.{command-behind, command-leads}
use Rattle.desk_trail.proofs.laws.commands.each_command_has_its_history.Goals as goal

pub returns-clause-history : goal.returns-clause-history
returns-clause-history c client op command ts given l = (command-leads client op command ts given l).legal

pub returns-clause-leads : goal.returns-clause-leads
returns-clause-leads c client op command ts x given l there = command-behind client op command ts x given l there
