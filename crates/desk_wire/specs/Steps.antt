-- What one call of a net makes of a wire, and what the bytes that it holds are.
use Rattle.std.specs.Prelude.{◌≡◌, Bool, true, [], drop, Some}
use Rattle.msg_wire.specs.Framing.{Framed}
use Rattle.msg_wire.specs.Reading.{flaw}
use Rattle.msg_wire.specs.declared.fault.MsgFault.TheVariants as fault
use Rattle.net_link.specs.declared.net.Wrote.{Wrote}
use Rattle.net_link.specs.declared.net.Wrote.TheVariants as wrote
use Rattle.net_link.specs.declared.net.Came.{Came}
use Rattle.net_link.specs.declared.net.Came.TheVariants as came
use Rattle.msg_wire.specs.Fronts.{HasNoneTooMany, IsRefused}
use Rattle.desk_wire.specs.State.{State}
use Rattle.desk_wire.specs.declared.wire.Judged.{Judged}
use Rattle.desk_wire.specs.declared.wire.Judged.TheVariants as judged

-- A wire behind one write of its unsent bytes.
abbrev pub after_write : State → Wrote → State
after_write w (wrote.Took n) = record w { unsent = drop n w.unsent }
after_write w wrote.NotYet = w
after_write w wrote.Failed = record w { is_shut = true }
after_write w wrote.Memory = w

-- Whether it is shut behind one read.
abbrev pub read_shuts : Bool → Came → Bool
read_shuts before came.End = true
read_shuts before came.Failed = true
read_shuts before _ = before

-- What the bytes that are held are: the front of a message of which so many bytes are needed, a message, or refused.
abbrev pub Judges : State → State → Judged → Type 0
Judges old new (judged.Short need) = (new ≡ old) × (flaw old.held ≡ Some (fault.Short need))
Judges old new (judged.Whole message) = (new ≡ record old { held = [] }) × Framed old.held message
Judges old new (judged.Bad first) = (new ≡ record old { is_shut = true }) × IsRefused old.held first
Judges old new judged.Memory = (new ≡ old) × HasNoneTooMany old.held
