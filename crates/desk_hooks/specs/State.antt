-- What contracts see of a desk with listeners.
use Rattle.desk_core.specs.State.{Desk}
use Rattle.drv_events.specs.declared.hooks.HooksOf.{HooksOf}

-- The desk, and its listeners with how many have left.
pub record HookedDesk (N P L : Type 0) : Type 0 where
  pub desk : Desk N P
  pub hooks : HooksOf L
