-- What only private functions cite.
use Rattle.std.specs.Prelude.{◌≡◌, ◌≢◌, ℕ, ◌+◌, ◌==◌, Bool, false, List, [], ◌∷◌, ◌++◌, Option, None, Some, filter, filter_map, length, map, slice_get}
use Rattle.std.specs.Option.{option_and_then, option_map}
use Rattle.member_core.specs.declared.log.LogEntry.{LogEntry}
use Rattle.desk_trail.specs.declared.entry.Entry.{Entry}
use Rattle.desk_trail.specs.declared.entry.Entry.TheVariants as entry
use Rattle.desk_trail.specs.declared.request.Request.{Request}
use Rattle.desk_trail.specs.declared.step.Step.{Step}
use Rattle.effect_count.specs.Counts.{ByStream, op_of, row_of}

-- The request that an entry says was asked, at its place.
abbrev pub asked_by : List Request → Entry → Option Request
asked_by requests (entry.Asked request) = slice_get requests request
asked_by requests e = None

-- Those of steps, in order.
abbrev pub requests_by : List Request → List Step → List Request
requests_by requests steps = filter_map (λ (s : Step). asked_by requests s.entry) steps

-- With one more, where there is one.
abbrev pub with_asked : List Request → Option Request → List Request
with_asked before None = before
with_asked before (Some r) = before ++ r ∷ []

-- An index has these requests, in order.
abbrev pub HasRequests : ByStream → List Request → Type 0
HasRequests index requests = (stream : ℕ) → row_of index stream ≡ map (λ r. op_of r.purpose) (filter (λ r. r.stream == stream) requests)

-- The command of the request of that number on a stream.
abbrev pub command_at : ByStream → ℕ → ℕ → Option ℕ
command_at index stream nth = option_and_then (λ o. o) (slice_get (row_of index stream) nth)

-- That is the command of that number.
abbrev pub is_command : ℕ → Option ℕ → Bool
is_command op None = false
is_command op (Some k) = k == op

-- How many entries of a log name a request of the command, by an index.
abbrev pub counted : ByStream → ℕ → List LogEntry → ℕ
counted index op log = length (filter (λ (e : LogEntry). is_command op (command_at index e.stream e.nth)) log)

-- The counts of the commands with their numbers.
abbrev pub AreCounts : ByStream → List LogEntry → List ℕ → Type 0
AreCounts index log counts = (op n : ℕ) → slice_get counts op ≡ Some n → n ≡ counted index op log

-- The count at a place rises by one, and no other changes.
pub record CountsOne (op : ℕ) (old new : List ℕ) : Type 0 where
  pub there : slice_get new op ≡ option_map (λ n. n + 1) (slice_get old op)
  pub others : (k : ℕ) → k ≢ op → slice_get new k ≡ slice_get old k
  pub count : length new ≡ length old
