-- What a running command keeps (own: the refinement).
use Rattle.std.specs.Prelude.{◌≡◌, ℕ, List, ◌++◌, Option, None, Some, option_to_list, IsSome}
use Rattle.std.specs.Option.{option_map}
use Rattle.std.specs.Arc.{arc_value}
use Rattle.write_retry.specs.Machine.{Op}
use Rattle.write_retry.specs.declared.events.Next.{Next}
use Rattle.write_retry.specs.declared.events.Next.TheVariants as next
use Rattle.write_retry.specs.declared.outcome.Outcome.{Outcome}
use Rattle.desk_trail.specs.States as state
use Rattle.desk_trail.specs.States.{CommandState}
use Rattle.cmd_state.specs.declared.check_out.CheckOut.{CheckOut}
use Rattle.cmd_state.specs.declared.check_out.CheckOut.TheVariants as check_out
use Rattle.cmd_state.specs.declared.selected.Selected.{Selected}
use Rattle.cmd_state.specs.declared.selected.Selection.{Selection}
use Rattle.cmd_state.specs.declared.running_command.RunningCommand.TheInside.{Inside}

-- A check-out, a choice and a selection, as the trail's definitions have them.
abbrev pub check_out_of : CheckOut → state.CheckOut
check_out_of check_out.Nothing = state.Nothing
check_out_of (check_out.Waits host ticket) = state.Waits host ticket.number
check_out_of (check_out.Dials host ticket conn) = state.Dials host ticket conn
check_out_of (check_out.Has host ticket conn) = state.Has host ticket conn

abbrev pub selected_of : Selected → state.Selected
selected_of s = record { host = s.host; kind = s.kind; server = arc_value s.server; minutes = s.minutes }

abbrev pub selection_of : Selection → state.Selection
selection_of s = record { first = s.first; known = s.known }

-- The command that it stands for.
abbrev pub command_of : Inside → CommandState
command_of c = record {
  op = c.machine;
  selection = option_map selection_of c.selection;
  selected = option_map selected_of c.selected;
  tried = option_to_list c.first_tried ++ option_to_list c.second_tried;
  check_out = check_out_of c.check_out;
  dialled = c.dialled;
  asked = c.asked;
  session = c.session;
  number = c.number;
  is_dirty = c.is_dirty;
  is_finished = c.is_finished;
}

-- A server was tried first only in an attempt that ended, and another one only where the command is to be answered, so that no
-- third one comes.
pub record IsTried (op : Op) (first second : Option ℕ) : Type 0 where
  pub one : IsSome first → IsSome op.first
  pub two : IsSome second → (outcome : Outcome) × (op.next ≡ next.Answer outcome)

abbrev pub IsKept : Inside → Type 0
IsKept c = IsTried c.machine c.first_tried c.second_tried
