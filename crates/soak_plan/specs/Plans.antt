-- What happens to the members of a soak.
-- own: losses and elections that a seed gives, one for each ten commands.
use Rattle.std.specs.Prelude.{ℕ, zero, suc, ◌+◌, ◌*◌, ◌%◌, ◌==◌, nat_lt, if◌then◌else◌, List, [], ◌∷◌, ◌++◌}
use Rattle.member_hall.specs.declared.act.Act.{Act}
use Rattle.member_hall.specs.declared.act.Act.TheVariants as act
use Rattle.member_hall.specs.declared.act.Planned.{Planned}
use Rattle.soak_plan.specs.Draws.{drawn, given}

-- Behind some acts: the generator's state, and the member that an act elected last.
pub record Planning : Type 0 where
  pub state : ℕ
  pub elected : ℕ

-- The plan begins with the seed, and with member 0 elected.
abbrev pub begins : ℕ → Planning
begins seed = record { state = seed; elected = 0 }

abbrev pub planned : ℕ → Act → Planned
planned turn a = record { turn = turn; act = a }

-- Of three members the next one.
abbrev pub next_member : ℕ → ℕ
next_member e = (e + 1) % 3

-- What happens at a turn, where member e was elected last, by a number from 0 to 4: an answer is lost, a write is not handled, an
-- answer comes three turns later, a write is handled thirty turns later, or the next member is elected and e follows it.
abbrev pub acts_by : ℕ → (turn e : ℕ) → List Planned
acts_by n turn e =
    if n == 0 then planned turn (act.Mute e) ∷ [] else
    if n == 1 then planned turn (act.Drop e) ∷ [] else
    if n == 2 then planned turn (act.Hold e 3) ∷ [] else
    if n == 3 then planned turn (act.Late e 30) ∷ [] else
    planned turn (act.Elect (next_member e)) ∷ planned turn (act.Follow e) ∷ []

abbrev pub elected_by : ℕ → ℕ → ℕ
elected_by n e = if nat_lt n 4 then e else next_member e

-- The act of that number, counted from 1, takes two draws: the first gives its turn, the second what happens.
abbrev pub turn_of : ℕ → Planning → ℕ
turn_of j p = 40 * j + given p.state % 40

abbrev pub kind_of : Planning → ℕ
kind_of p = given (drawn p.state) % 5

abbrev pub acts_at : ℕ → Planning → List Planned
acts_at j p = acts_by (kind_of p) (turn_of j p) p.elected

abbrev pub behind : Planning → Planning
behind p = record { state = drawn (drawn p.state); elected = elected_by (kind_of p) p.elected }

-- So many acts, from that number on.
abbrev pub acts_from : (j count : ℕ) → Planning → List Planned
acts_from j zero p = []
acts_from j (suc count) p = acts_at j p ++ acts_from (j + 1) count (behind p)

-- The plan of a seed, of so many acts.
abbrev pub plan_of : (seed count : ℕ) → List Planned
plan_of seed count = acts_from 1 count (begins seed)
