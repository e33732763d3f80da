-- How often each command of a client took effect, by a log; and which requests a trail's entries say were asked on a stream.
-- own: it is counted where the members of a replica set are played in memory, so that their logs can be read.
use Rattle.std.specs.Prelude.{◌≡◌, ℕ, ◌+◌, ◌==◌, Bool, false, List, [], ◌∷◌, Option, None, Some, filter, filter_map, map, slice_get, unwrap_or}
use Rattle.std.specs.BTreeMap.{is_at}
use Rattle.std.specs.List.{list_any}
use Rattle.std.specs.Map.{lookup}
use Rattle.std.specs.Option.{option_map_or}
use Rattle.std.specs.Ordering.{nat_cmp}
use Rattle.entry_judge.specs.declared.timed.Timed.{Timed}
use Rattle.cmd_build.specs.declared.command.Command.{Command}
use Rattle.member_core.specs.declared.log.LogEntry.{LogEntry}
use Rattle.desk_trail.specs.declared.request.Purpose.{Purpose}
use Rattle.desk_trail.specs.declared.request.Purpose.TheVariants as purpose
use Rattle.desk_trail.specs.declared.request.Request.{Request}
use Rattle.desk_trail.specs.Clients.{Client}
use Rattle.desk_trail.specs.Facts.{Fact}
use Rattle.desk_trail.specs.Facts as fact
use Rattle.desk_trail.specs.Orders.{asks_for}
use Rattle.write_effects.specs.Effects.{effects}

-- ---- How often each command took effect

-- One number a command: how often it took effect, by the log. The commands have numbers from that one on.
abbrev pub effects_from : Client → List (Timed Fact) → List LogEntry → ℕ → List Command → List ℕ
effects_from client facts log op [] = []
effects_from client facts log op (c ∷ cs) = effects client facts op log ∷ effects_from client facts log (op + 1) cs

-- That of all of the client's commands, in order.
abbrev pub effects_by : Client → List (Timed Fact) → List LogEntry → List ℕ
effects_by client facts log = effects_from client facts log 0 client.commands

-- ---- The requests of a stream

-- The request that an entry says was asked.
abbrev pub asked_in : Fact → Option Request
asked_in (fact.Asked place request) = Some request
asked_in f = None

-- All that entries say were asked on a stream, in order.
abbrev pub asked_on : List (Timed Fact) → ℕ → List Request
asked_on facts stream = filter (λ r. r.stream == stream) (filter_map (λ t. asked_in t.what) facts)

-- The request of that number, counted from 0, is one of the command.
abbrev pub asks_at : List Request → ℕ → ℕ → Bool
asks_at requests nth op = option_map_or (λ r. asks_for op r.purpose) (slice_get requests nth) false

-- An entry begins a check on the stream (Server Monitoring).
abbrev pub begins_check : ℕ → Fact → Bool
begins_check n (fact.CheckBegan host stream) = stream == n
begins_check n f = false

-- The stream is one of a server's checks.
abbrev pub has_checks : List (Timed Fact) → ℕ → Bool
has_checks facts stream = list_any (λ t. begins_check stream t.what) facts

-- ---- An index

-- The command of which a request is an attempt; none of a hello and of a farewell.
abbrev pub op_of : Purpose → Option ℕ
op_of (purpose.Command op) = Some op
op_of (purpose.Check host) = None
op_of (purpose.Greeting host conn) = None
op_of purpose.Farewell = None

-- Streams by their numbers, each with the commands of its requests, in order.
abbrev pub ByStream : Type 0
ByStream = List (ℕ × List (Option ℕ))

-- Those of a stream; nothing where it has none.
abbrev pub row_of : ByStream → ℕ → List (Option ℕ)
row_of index stream = unwrap_or (lookup (is_at (nat_cmp stream)) index) []

-- Each stream has the commands of the requests that entries say were asked on it, in order, and no more.
abbrev pub IsIndexOf : ByStream → List (Timed Fact) → Type 0
IsIndexOf index facts = (stream : ℕ) → row_of index stream ≡ map (λ r. op_of r.purpose) (asked_on facts stream)
