-- A stream to a member of a hall: what it got, and what it has to give.
-- own: a member that is played in memory.
use Rattle.std.specs.Prelude.{ℕ, Bool, true, false, List, [], ◌∷◌, ◌++◌, length, drop, Option, None, nat_le, nat_lt, ◌&&◌, if◌then◌else◌}
use Rattle.std.specs.List.{take_while}
use Rattle.member_hall.specs.declared.answer.Answer.{Answer}
use Rattle.member_hall.specs.declared.late.LateRequest.{LateRequest}

-- Its member's place; how many of its requests were handled or refused; the bytes behind them; the answers that no read has
-- had whole; a request that is handled later; whether the member ended it; whether it is open.
pub record LineState : Type 0 where
  pub member : ℕ
  pub count : ℕ
  pub rest : List ℕ
  pub answers : List Answer
  pub late : Option LateRequest
  pub ended : Bool
  pub live : Bool

-- A stream as a dial begins it.
abbrev pub new_line : ℕ → LineState
new_line member = record { member = member; count = 0; rest = []; answers = []; late = None; ended = false; live = true }

-- An answer can be read at a turn: it is not held, and has bytes.
abbrev pub can_read : ℕ → Answer → Bool
can_read turn answer = nat_le answer.due turn && nat_lt 0 (length answer.bytes)

-- The answers that can be read at a turn: those in front of the first that cannot.
abbrev pub ready : ℕ → List Answer → List Answer
ready turn answers = take_while (can_read turn) answers

-- The bytes of answers, one after another.
abbrev pub bytes_of : List Answer → List ℕ
bytes_of [] = []
bytes_of (answer ∷ answers) = answer.bytes ++ bytes_of answers

-- What has come at a turn and no read has had.
abbrev pub inbox_at : ℕ → LineState → List ℕ
inbox_at turn line = bytes_of (ready turn line.answers)

-- The member ends it at a turn: what cannot be read by then never can.
abbrev pub end_line : ℕ → LineState → LineState
end_line turn line = record line { rest = []; answers = ready turn line.answers; ended = true }

-- What the next read can have: what is left of the first answer.
abbrev pub first_bytes : List Answer → List ℕ
first_bytes [] = []
first_bytes (answer ∷ answers) = answer.bytes

abbrev pub front_at : ℕ → LineState → List ℕ
front_at turn line = first_bytes (ready turn line.answers)

-- A read took so many bytes of the first answer; one that was read whole is gone.
abbrev pub given_of : ℕ → List Answer → List Answer
given_of count [] = []
given_of count (answer ∷ answers) =
    if nat_le (length answer.bytes) count
    then answers
    else record answer { bytes = drop count answer.bytes } ∷ answers

abbrev pub give_line : ℕ → LineState → LineState
give_line count line = record line { answers = given_of count line.answers }

-- It is given back.
abbrev pub shut_line : LineState → LineState
shut_line line = record line { rest = []; answers = []; ended = true; live = false }
