-- What is told of the candidates that were kept.
use Rattle.std.specs.Prelude.{Option, None, Some}
use Rattle.server_pick.specs.declared.candidate.Candidate.{Candidate}
use Rattle.server_pick.specs.declared.picked.Picked.{Picked}
use Rattle.server_pick.specs.declared.picked.Picked.TheVariants.{Chosen, NoneFits}

-- What is told of the one that is chosen.
abbrev pub chosen_picked : Option Candidate → Picked
chosen_picked None = NoneFits
chosen_picked (Some c) = Chosen c.host

-- What is told of a misfit comes first.
abbrev pub outcome : Option Picked → Option Candidate → Picked
outcome None chosen = chosen_picked chosen
outcome (Some misfit) chosen = misfit
