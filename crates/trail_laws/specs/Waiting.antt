-- What a command waits for.
use Rattle.std.specs.Prelude.{◌≡◌, ◌≤◌, ℕ, Option, None, Some}
use Rattle.write_retry.specs.declared.events.Next.{Next}
use Rattle.write_retry.specs.declared.events.Next.TheVariants as next
use Rattle.desk_trail.specs.States.{CheckOut, CommandState, Dials, Selection, Waits}

-- Where a command is with a pool but has no connection yet, it is to check one out there (CMAP, Checking Out a Connection).
abbrev pub WaitsBy : CheckOut → Next → Type 0
WaitsBy (Waits host ticket) n = n ≡ next.CheckOut host
WaitsBy (Dials host ticket conn) n = n ≡ next.CheckOut host
WaitsBy h n = Unit {0}

abbrev pub WaitsAtItsServer : CommandState → Type 0
WaitsAtItsServer c = WaitsBy c.check_out c.op.next

-- A selection that goes on had its first look by that moment (Server Selection, serverSelectionTimeoutMS).
abbrev pub BeganBy : ℕ → Option Selection → Type 0
BeganBy moment None = Unit {0}
BeganBy moment (Some s) = s.first ≤ moment
