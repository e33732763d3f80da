-- How many commands a script has, and how deep their documents lie.
use Rattle.std.specs.Prelude.{ℕ, ◌≤◌, All, List, length}
use Rattle.cmd_build.specs.Sizes.{IsWithin}
use Rattle.cmd_build.specs.declared.command.Command.{Command}
use Rattle.script_text.specs.Scripts.{most_commands}

-- There are no more commands than a script may have, and their documents lie at most 90 levels deep.
-- own: a document's text nests no deeper, so that the commands around it may nest to the bounds of BSON.
pub record IsBounded (commands : List Command) : Type 0 where
  pub few : length commands ≤ most_commands
  pub shallow : All (λ c. IsWithin 90 c.act) commands
