-- What is done to a client's desk in one step.
use Rattle.std.specs.Prelude.{◌≡◌, ◌≤◌, ◌^◌, ◌-◌, ◌⊎◌, ℕ, false, true, Option, Some, None, length, min, nat_le, if◌then◌else◌}
use Rattle.net_link.specs.Causes.{Rose}
use Rattle.sess_book.specs.Ids.{id_of}
use Rattle.desk_trail.specs.Facts.{Fact}
use Rattle.legal_trail.specs.Recorded.{told_in}
use Rattle.desk_core.specs.Appends.{Appends, IsBy, NamesNone, Tells}
use Rattle.desk_core.specs.Due.{IsNext}
use Rattle.desk_core.specs.Nexts.{IsNextIn}
use Rattle.desk_core.specs.Sights.{MeansCheck}
use Rattle.desk_core.specs.State.{Desk, now_of}
use Rattle.desk_core.specs.Steps.{MeansStep}
use Rattle.desk_core.specs.declared.sight.Due.{Due}
use Rattle.desk_core.specs.declared.sight.Sight.{Sight}
use Rattle.desk_core.specs.declared.words.Words.{Words}

-- One call of a desk at a moment: what it appends has one moment, its settings and commands stay, and all of it is of this kind. The
-- member is the net's.
pub record Calls {N P : Type 0} (faults : N → ℕ) (says : Fact → Type 0) (moment : ℕ) (old new : Desk N P) : Type 0 where
  pub now : new.last ≡ now_of old.last moment
  pub appends : Appends (Rose (faults old.net) (faults new.net)) (now_of old.last moment) old.trail new.trail
  pub tells : Tells says (told_in old.trail) (told_in new.trail)
  pub later : faults old.net ≤ faults new.net

-- ---- Commands

-- Four words are ones that the dice's type rolls.
pub record AreWords (rolls : ℕ → Type 0) (words : Words) : Type 0 where
  pub a : rolls words.a
  pub b : rolls words.b
  pub c : rolls words.c
  pub d : rolls words.d

-- What the answer of a command's step means: some, the desk goes on, and the command stands so; none, the desk stopped.
abbrev pub MeansTurn : {N P : Type 0} → (moment op : ℕ) → Words → (old new : Desk N P) → Option Sight → Type 0
MeansTurn moment op words old new (Some sight) = (new.is_stopped ≡ false) × MeansStep (now_of old.last moment) op words old.trail new.trail sight
MeansTurn moment op words old new None = new.is_stopped ≡ true

-- One call of the command that comes next in the lane, by four words of the dice.
pub record StepsLane {N P : Type 0} (faults : N → ℕ) (rolls : ℕ → Type 0) (lane moment : ℕ) (answer : Option Sight) (old new : Desk N P) : Type 0 where
  pub op : ℕ
  pub words : Words
  pub next : IsNextIn old.trail.client old.trail.point.state lane (Some op)
  pub rolled : AreWords rolls words
  pub call : Calls faults (IsBy op words.a words.b (id_of words.c words.d)) moment old new
  pub means : MeansTurn moment op words old new answer

-- A desk of which the lane has nothing to do: it stopped, or each command of the lane is answered.
abbrev pub IsOver : {N P : Type 0} → (lane : ℕ) → Desk N P → Type 0
IsOver lane d = (d.is_stopped ≡ true) ⊎ IsNextIn d.trail.client d.trail.point.state lane None

-- The command of a lane that comes next; none where it has nothing to do.
abbrev pub IsNextNow : {N P : Type 0} → (lane : ℕ) → Desk N P → Option ℕ → Type 0
IsNextNow lane d None = IsOver lane d
IsNextNow lane d (Some op) = (d.is_stopped ≡ false) × IsNextIn d.trail.client d.trail.point.state lane (Some op)

-- A turn of a lane steps its next command, unless the lane has nothing to do: then the desk stays as it was, and the answer is none.
abbrev pub IsTurn : {N P : Type 0} → (N → ℕ) → (ℕ → Type 0) → (lane moment : ℕ) → Option Sight → (old new : Desk N P) → Type 0
IsTurn faults rolls lane moment answer old new =
    ((new ≡ old) × IsOver lane old × (answer ≡ None)) ⊎ StepsLane faults rolls lane moment answer old new

-- ---- Checks

-- What the answer of a check's step means: some, the desk goes on, and the check stands so; none, the desk stopped.
abbrev pub MeansCheckStep : {N P : Type 0} → (moment host : ℕ) → (old new : Desk N P) → Option Sight → Type 0
MeansCheckStep moment host old new (Some sight) = (new.is_stopped ≡ false) × MeansCheck new.trail.client new.trail.point.state (now_of old.last moment) host sight
MeansCheckStep moment host old new None = new.is_stopped ≡ true

-- One step of the check of a server, which appends no entry of a command; of a desk that stopped none.
abbrev pub IsCheckStep : {N P : Type 0} → (N → ℕ) → (host moment : ℕ) → Option Sight → (old new : Desk N P) → Type 0
IsCheckStep faults host moment answer old new =
    ((new ≡ old) × (old.is_stopped ≡ true) × (answer ≡ None)) ⊎ (Calls faults NamesNone moment old new × MeansCheckStep moment host old new answer)

-- So many hosts have numbers where the check that comes next is due or runs at a moment; else none.
abbrev pub due_by : (moment names : ℕ) → Option Due → ℕ
due_by moment names None = 0
due_by moment names (Some due) = if nat_le due.at moment then min names (2 ^ 32 - 1) else 0

pub record CountsDue {N P : Type 0} (moment : ℕ) (d : Desk N P) (count : ℕ) : Type 0 where
  pub next : Option Due
  pub is_next : IsNext d.trail.point.state d.last next
  pub count_is : count ≡ due_by moment (length d.trail.lists.names) next
