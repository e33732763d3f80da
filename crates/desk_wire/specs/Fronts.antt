-- Bytes that may still become a message: the words of msg_wire, named on.
pub use Rattle.msg_wire.specs.Fronts.{HasNoneTooMany, IsFront, IsRefusal, IsRefused}
