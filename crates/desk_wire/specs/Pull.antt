-- What pulling says.
use Rattle.std.specs.Prelude.{◌≡◌, ℕ, Bool, true, false, List, [], ◌∷◌, ◌++◌}
use Rattle.net_link.specs.Prefix.{IsPrefixOf}
use Rattle.net_link.specs.declared.event.NetEvent.{NetEvent}
use Rattle.net_link.specs.declared.event.NetEvent.TheVariants as event
use Rattle.msg_wire.specs.Framing.{Framed}
use Rattle.msg_wire.specs.Fronts.{HasNoneTooMany, IsFront, IsRefused}
use Rattle.desk_wire.specs.Made.{Made, is_read}
use Rattle.desk_wire.specs.declared.answers.Pulled.{Pulled}
use Rattle.desk_wire.specs.declared.answers.Pulled.TheVariants as pulled

-- The net's last answer, where it gave nothing: nothing had come, the peer had ended, or the stream failed.
abbrev pub pull_end : ℕ → Pulled → List NetEvent
pull_end stream (pulled.Whole message) = []
pull_end stream pulled.NotYet = event.Dry stream ∷ []
pull_end stream pulled.End = event.Ended stream ∷ []
pull_end stream pulled.Fault = event.Fault stream ∷ []
pull_end stream (pulled.Bad first) = []
pull_end stream pulled.Memory = []

-- A wire whose stream ended, failed or brought no message is shut.
abbrev pub pull_shuts : Pulled → Bool
pull_shuts pulled.End = true
pull_shuts pulled.Fault = true
pull_shuts (pulled.Bad first) = true
pull_shuts _ = false

-- What became of the bytes that were held and those that came: a message is all of them; else all of them are held,
-- which are a front, or refused, or as many as memory was wanted for.
abbrev pub HandsOut : List ℕ → List ℕ → Pulled → Type 0
HandsOut bytes held (pulled.Whole message) = Framed bytes message × (held ≡ [])
HandsOut bytes held pulled.NotYet = (held ≡ bytes) × IsFront held
HandsOut bytes held pulled.End = (held ≡ bytes) × IsFront held
HandsOut bytes held pulled.Fault = (held ≡ bytes) × IsFront held
HandsOut bytes held (pulled.Bad first) = (held ≡ bytes) × IsRefused held first
HandsOut bytes held pulled.Memory = (held ≡ bytes) × HasNoneTooMany held

-- The stream's inbox gave what came. Nothing is left in it where nothing had come, or the peer had ended.
pub record Empties (before now : List ℕ) (ended : Type 0) (came : List ℕ) (answer : Pulled) : Type 0 where
  pub from_front : IsPrefixOf before (came ++ now)
  pub dry : answer ≡ pulled.NotYet → (now ≡ []) × ¬ ended
  pub ends : answer ≡ pulled.End → (now ≡ []) × ended

-- Bytes came behind those that were held, and what was asked of the net was no more than that.
pub record Pulls (tells : Type 0) (stream : ℕ) (before held : List ℕ) (old new : List NetEvent) (inbox_before inbox_now : List ℕ) (ended : Type 0)
    (answer : Pulled) : Type 0 where
  pub came : List ℕ
  pub gives : HandsOut (before ++ came) held answer
  pub told : tells → Made (is_read stream) [] came (pull_end stream answer) old new
  pub inbox : tells → Empties inbox_before inbox_now ended came answer
