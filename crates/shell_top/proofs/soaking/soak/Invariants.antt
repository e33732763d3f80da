use Rattle.net_link.specs.Causes.{count_of}
use Rattle.member_hall.specs.Halls.{HallState}
use Rattle.desk_share.specs.Shared.{opened_by}
use Rattle.shell_top.proofs.soaking.soak.Given as goal

abbrev pub ghosts-soak_desk : goal.ghosts-soak_desk
ghosts-soak_desk g a = record { opened = opened_by (λ (h : HallState). count_of h.faults) a.desk }
