-- Behind which ends of a check the next one is due at once (Server Monitoring, Network or command error during server check).
use Rattle.std.specs.Prelude.{Bool, false}
use Rattle.watch_step.specs.declared.check_end.CheckEnd.{CheckEnd}
use Rattle.watch_step.specs.declared.check_end.CheckEnd.TheVariants as check_end

-- A network error or a timeout of a server that was known is followed by a check at once; all other ends wait for their turn.
abbrev pub is_again : CheckEnd → Bool → Bool
is_again check_end.Cut known = known
is_again check_end.Fault known = known
is_again check_end.Late known = known
is_again check_end.Reply known = false
is_again check_end.Refused known = false
is_again check_end.Bad known = false
is_again check_end.NoDial known = false
