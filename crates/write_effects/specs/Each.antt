-- Every command of a client.
use Rattle.std.specs.Prelude.{ℕ, List}
use Rattle.entry_judge.specs.declared.timed.Timed.{Timed}
use Rattle.net_link.specs.declared.event.NetEvent.{NetEvent}
use Rattle.member_core.specs.Honest.{IsHonest}
use Rattle.desk_trail.specs.Clients.{Client}
use Rattle.desk_trail.specs.Facts.{Fact}
use Rattle.write_effects.specs.Effects.{TakesEffectOnce}

-- Where the history is one that an honest set may have, each command takes effect once.
abbrev pub EachTakesEffectOnce : Client → List (Timed Fact) → List NetEvent → Type 0
EachTakesEffectOnce client facts history = IsHonest history → (op : ℕ) → TakesEffectOnce client facts history op
