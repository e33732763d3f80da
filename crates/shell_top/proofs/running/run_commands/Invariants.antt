use Rattle.desk_share.specs.Shared.{opened_by}
use Rattle.shell_top.proofs.running.run_commands.Given as goal

abbrev pub ghosts-run_desk : goal.ghosts-run_desk
ghosts-run_desk g a = record { opened = opened_by g.N.Net.faults a.desk }
