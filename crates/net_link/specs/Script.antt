-- The state of a scripted net, and what each call makes of it.
-- own: a net in memory whose every answer is foretold but want of memory.
use Rattle.std.specs.Prelude.{◌≡◌, ◌+◌, ◌<◌, ◌≤◌, ℕ, Bool, true, false, List, [], ◌∷◌, ◌++◌, length, min, max, map, take, drop, slice_index_or, slice_set, if◌then◌else◌}
use Rattle.std.proofs.Common.{arith, zero, suc}
use Rattle.net_link.specs.Events.{IsFresh}
use Rattle.net_link.specs.Failing.{Failing, counted, failed}
use Rattle.net_link.specs.Keeps.{Keeps, Kept}
use Rattle.net_link.specs.Told.{Told}
use Rattle.net_link.specs.declared.event.NetEvent.{NetEvent}
use Rattle.net_link.specs.declared.event.NetEvent.TheVariants as event
use Rattle.net_link.specs.declared.net.Dialed.{Dialed}
use Rattle.net_link.specs.declared.net.Dialed.TheVariants as dialed
use Rattle.net_link.specs.declared.net.Wrote.{Wrote}
use Rattle.net_link.specs.declared.net.Wrote.TheVariants as wrote
use Rattle.net_link.specs.declared.net.Came.{Came}
use Rattle.net_link.specs.declared.net.Came.TheVariants as came
use Rattle.net_link.specs.declared.stream_plan.StreamPlan.{StreamPlan}

-- A stream: what lies in its inbox, how much a read hands out at most, whether it then ends, whether it is open.
pub record Line : Type 0 where
  pub left : List ℕ
  pub most : ℕ
  pub ends : Bool
  pub live : Bool

-- Where no stream is.
abbrev pub gone : Line
gone = record { left = []; most = 0; ends = false; live = false }

-- A stream as a dial opens it by its plan.
abbrev pub opened : StreamPlan → Line
opened plan = record { left = plan.bytes; most = plan.most; ends = plan.ends; live = true }

-- A stream that is closed.
abbrev pub shut : Line → Line
shut line = record line { live = false }

-- A stream whose inbox was read so far.
abbrev pub skipped : ℕ → Line → Line
skipped n line = record line { left = drop n line.left }

-- How much a read hands out: what the piece holds, the inbox has and the plan allows, which is at least one.
abbrev pub piece_size : ℕ → Line → ℕ
piece_size room line = min room (min (max line.most 1) (length line.left))

-- The stream of a number.
abbrev pub line_at : List Line → ℕ → Line
line_at lines t = slice_index_or lines t gone

-- The stream is open.
unfoldable pub IsLive : List Line → ℕ → Type 0
IsLive lines t = (line_at lines t).live ≡ true

-- A stream's inbox.
unfoldable pub unread : List Line → ℕ → List ℕ
unread lines t = (line_at lines t).left

-- The peer ends the stream behind its bytes.
unfoldable pub Ends : List Line → ℕ → Type 0
Ends lines t = (line_at lines t).ends ≡ true

-- How many streams are open.
unfoldable pub live_count : List Line → ℕ
live_count [] = 0
live_count (line ∷ lines) = (if line.live then 1 else 0) + live_count lines

-- An open stream's number was given.
pub IsLive-below : (lines : List Line) (t : ℕ) → IsLive lines t → t < length lines
unfolding IsLive
IsLive-below [] t live = absurd (let e : false ≡ true = live in let never : ⊥ = cc in never)
IsLive-below (line ∷ lines) zero live = omega arith
IsLive-below (line ∷ lines) (suc t) live = omega (arith, IsLive-below lines t live)

-- Memory is kept for the close of each open stream, and no event names a stream that no dial gave.
pub record IsSound (lines : List Line) (log : Told) : Type 0 where
  pub kept : live_count lines ≤ log.kept
  pub fresh : (s : ℕ) → length lines ≤ s → IsFresh s log.events

-- A scripted net: the plans of the dials to come, the streams by their numbers, the history, and the counts.
pub record Script : Type 0 where
  pub plans : List StreamPlan
  pub lines : List Line
  pub events : List NetEvent
  pub failing : Failing

-- What a call keeps of the streams of a scripted net.
abbrev pub ScriptKeeps : Kept → Script → Script → Type 0
ScriptKeeps kept old new = Keeps kept (Unit {0}) (λ s. IsLive s.lines) (λ s. length s.lines) (λ s. unread s.lines) (λ s. Ends s.lines) old new

-- Behind a dial, by its answer: each dial but one without memory uses up a plan.
abbrev pub dial_state : List ℕ → Dialed → Script → Script
dial_state address (dialed.Stream t) s = record {
  plans = drop 1 s.plans;
  lines = s.lines ++ map opened (take 1 s.plans);
  events = s.events ++ event.Dialled t address ∷ [];
  failing = counted s.failing;
}
dial_state address dialed.Failed s = record {
  plans = drop 1 s.plans;
  lines = s.lines;
  events = s.events ++ event.NoDial address ∷ [];
  failing = failed s.failing;
}
dial_state address dialed.Memory s = s

-- Behind a call that adds an event and changes no stream.
abbrev pub noted : NetEvent → Script → Script
noted e s = record s { events = s.events ++ e ∷ []; failing = counted s.failing }

-- Behind a call that failed.
abbrev pub faulted : NetEvent → Script → Script
faulted e s = record s { events = s.events ++ e ∷ []; failing = failed s.failing }

-- Behind a write, by its answer.
abbrev pub write_state : ℕ → List ℕ → Wrote → Script → Script
write_state t bytes (wrote.Took n) s = noted (event.Out t (take n bytes)) s
write_state t bytes wrote.NotYet s = noted (event.Full t) s
write_state t bytes wrote.Failed s = faulted (event.Fault t) s
write_state t bytes wrote.Memory s = s

-- Behind a read, by its answer.
abbrev pub read_state : ℕ → List ℕ → Came → Script → Script
read_state t into (came.Got n) s = record {
  plans = s.plans;
  lines = slice_set s.lines t (skipped n (line_at s.lines t));
  events = s.events ++ event.Came t (take n into) ∷ [];
  failing = counted s.failing;
}
read_state t into came.NotYet s = noted (event.Dry t) s
read_state t into came.End s = noted (event.Ended t) s
read_state t into came.Failed s = faulted (event.Fault t) s
read_state t into came.Memory s = s

-- Behind a close, which counts as no call.
abbrev pub close_state : ℕ → Script → Script
close_state t s = record s {
  lines = slice_set s.lines t (shut (line_at s.lines t));
  events = s.events ++ event.Closed t ∷ [];
}

-- The answer of a read that hands out these bytes.
abbrev pub IsGiven : List ℕ → List ℕ → Came → Type 0
IsGiven bytes into (came.Got n) = (n ≡ length bytes) × (take n into ≡ bytes)
IsGiven bytes into came.Memory = Unit {0}
IsGiven bytes into _ = ⊥
