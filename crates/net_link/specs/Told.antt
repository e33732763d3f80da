-- A told history as a value: its events, and for how many more memory is kept.
-- own: a close takes no memory, so a net keeps it from the dial on.
use Rattle.std.specs.Prelude.{ℕ, List}
use Rattle.net_link.specs.declared.event.NetEvent.{NetEvent}

-- The events in order, and how many more can be noted without memory.
pub record Told : Type 0 where
  pub events : List NetEvent
  pub kept : ℕ
