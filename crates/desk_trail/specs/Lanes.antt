-- Trails of clients whose commands run in lanes.
use Rattle.std.specs.Prelude.{◌≡◌, ◌<◌, ℕ, ◌==◌, Bool, true, false, List, Some, slice_get}
use Rattle.cmd_build.specs.declared.command.Command.{Command}
use Rattle.desk_trail.specs.Facts.{Fact}
use Rattle.desk_trail.specs.Facts as fact
use Rattle.desk_trail.specs.Orders.{is_of}

-- An entry is one of the command, the return of its session with them.
abbrev pub is_of_command : ℕ → Fact → Bool
is_of_command o (fact.Returned op dirty kept) = op == o
is_of_command o f = is_of o f

-- It answers the command.
abbrev pub answers : ℕ → Fact → Bool
answers o (fact.Finished op outcome) = op == o
answers o f = false

-- The entry at a place is so.
pub record EntryAt (fs : List Fact) (place : ℕ) (is_so : Fact → Bool) : Type 0 where
  pub fact : Fact
  pub there : slice_get fs place ≡ Some fact
  pub so : is_so fact ≡ true

-- Commands of one lane run one after another: where two commands stand in a lane, the earlier one was answered ahead of every entry
-- of the later one (own: a lane is one thread of an application).
pub record RunInLanes (commands : List Command) (fs : List Fact) : Type 0 where
  pub each :
      (earlier later place : ℕ) (c d : Command) → slice_get commands earlier ≡ Some c → slice_get commands later ≡ Some d →
      earlier < later → c.lane ≡ d.lane → EntryAt fs place (is_of_command later) →
      (answered : ℕ) × (answered < place) × EntryAt fs answered (answers earlier)
