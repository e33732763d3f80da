use Rattle.desk_share.specs.Shared.{opened_by}
use Rattle.desk_share.proofs.lanes.share.Given as goal

abbrev pub ghosts-share_opened : goal.ghosts-share_opened
ghosts-share_opened g a = record { opened = opened_by g.N.Net.faults a.desk }
