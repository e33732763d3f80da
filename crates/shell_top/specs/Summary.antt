-- What a soak sums up: seven numbers of a client and of the members that it talked to (own).
use Rattle.std.specs.Prelude.{ℕ, ◌+◌, Bool, true, false, List, [], ◌∷◌, ◌++◌, codes, count_by, decimal, length, map, max, if◌then◌else◌}
use Rattle.std.specs.List.{range_with_len}
use Rattle.cmd_build.specs.Ops.{writes}
use Rattle.cmd_build.specs.declared.command.Command.{Command}
use Rattle.net_link.specs.declared.event.NetEvent.{NetEvent}
use Rattle.member_core.specs.Logs.{set_after}
use Rattle.member_hall.specs.Halls.{HallState}
use Rattle.member_hall.specs.Honest.{elections_in}
use Rattle.desk_trail.specs.declared.entry.Entry.{Entry}
use Rattle.desk_trail.specs.declared.entry.Entry.TheVariants as entry
use Rattle.desk_trail.specs.declared.step.Step.{Step}
use Rattle.desk_trail.specs.declared.trail.Trail.{Trail}
use Rattle.desk_trail.specs.Clients.{Client}
use Rattle.desk_trail.specs.Facts.{facts_of}
use Rattle.desk_trail.specs.Written.{lists_of}
use Rattle.trail_tally.specs.Tallies.{tallies_of}
use Rattle.effect_count.specs.Counts.{effects_by}
use Rattle.shell_top.specs.Report.{ok_count}
use Rattle.shell_top.specs.declared.summary.Summary.{Summary}

-- An entry says that an attempt of a command ended.
unfoldable pub is_end : Entry → Bool
is_end (entry.Ended op end) = true
is_end e = false

-- A command may change data (CRUD, write operations).
unfoldable pub is_write : Command → Bool
is_write c = writes c.act

-- The numbers of the commands that may change data, added up.
abbrev pub of_writes : List Command → List ℕ → ℕ
of_writes [] counts = 0
of_writes (c ∷ cs) [] = 0
of_writes (c ∷ cs) (n ∷ ns) = (if is_write c then n else 0) + of_writes cs ns

-- The greatest of numbers; 0 where there is none.
abbrev pub greatest : List ℕ → ℕ
greatest [] = 0
greatest (n ∷ ns) = max n (greatest ns)

-- How often each command took effect, by the log of a member, as a history tells it.
abbrev pub effects_at : Client → Trail → List NetEvent → ℕ → List ℕ
effects_at client trail history member = effects_by client (facts_of (lists_of trail) trail.steps) ((set_after history).log member)

-- How many commands there were, how many were carried out, how many attempts ended, how many elections there were; how many commands
-- may change data, how often these took effect by the log of the member that was elected last, and how often a command took effect at
-- most, by the log of any member.
abbrev pub summary_of : Client → Trail → HallState → Summary
summary_of client trail hall = record {
  commands = length client.commands;
  ok = ok_count (tallies_of client.commands trail.steps);
  attempts = count_by (λ (s : Step). is_end s.entry) trail.steps;
  elections = elections_in hall.events;
  writes = count_by is_write client.commands;
  effects = of_writes client.commands (effects_at client trail hall.events (set_after hall.events).last);
  most = greatest (map (λ member. greatest (effects_at client trail hall.events member)) (range_with_len 0 (length hall.peers)));
}

-- A line: a name, a number, and LF.
abbrev pub number_line : List ℕ → ℕ → List ℕ
number_line name number = name ++ (codes " " ++ (decimal number ++ 10 ∷ []))

-- The seven lines.
abbrev pub summary_text : Summary → List ℕ
summary_text s =
    number_line (codes "commands") s.commands ++ (number_line (codes "ok") s.ok ++ (number_line (codes "attempts") s.attempts
    ++ (number_line (codes "elections") s.elections ++ (number_line (codes "writes") s.writes ++ (number_line (codes "effects") s.effects
    ++ number_line (codes "most") s.most)))))
