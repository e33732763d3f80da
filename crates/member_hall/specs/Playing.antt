-- What members do by themselves, between the events of calls.
-- own: what holds of a hall however far it came with what it has to do.
use Rattle.std.specs.Prelude.{◌≡◌, ◌<◌, ◌≤◌, ℕ, false, [], ◌∷◌, List, length, drop}
use Rattle.msg_wire.specs.Messages.{behind_messages, messages}
use Rattle.msg_wire.specs.declared.message.Message.{Message}
use Rattle.net_link.specs.Events.{Adds}
use Rattle.net_link.specs.Keeps.{Keeps, Kept, all}
use Rattle.member_hall.specs.Halls.{HallState, HasEnded, IsLive, inbox_of, line_at}
use Rattle.member_hall.specs.Honest.{IsSound}

-- What the trait says of streams.
abbrev pub HallKeeps : Kept → HallState → HallState → Type 0
HallKeeps kept old new = Keeps kept (Unit {0}) (λ h. IsLive h.lines) (λ h. length h.lines) inbox_of (λ h. HasEnded h.lines) old new

-- Only members acted: a history that was honest is so, no event is a call's, streams stay open and ended as they were, what had
-- come on them is there, and no call failed.
pub record Plays (old new : HallState) : Type 0 where
  pub sound : IsSound old → IsSound new
  pub adds : Adds [] old.events new.events
  pub keeps : HallKeeps all old new
  pub faults : new.faults ≡ old.faults

-- The message stands at the front of the bytes.
pub record IsFront (bytes : List ℕ) (message : Message) : Type 0 where
  pub some : 0 < message.length
  pub fits : message.length ≤ length bytes
  pub first : messages bytes ≡ message ∷ messages (drop message.length bytes)
  pub behind : behind_messages bytes ≡ behind_messages (drop message.length bytes)

-- The next request of a stream that goes on stands at the front of its rest, and its member is there.
pub record IsNext (h : HallState) (s : ℕ) (message : Message) : Type 0 where
  pub there : s < length h.lines
  pub member : (line_at h.lines s).member < length h.peers
  pub goes_on : (line_at h.lines s).ended ≡ false
  pub front : IsFront (line_at h.lines s).rest message
