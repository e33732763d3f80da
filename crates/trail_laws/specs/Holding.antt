-- How a session is held (Driver Sessions; Retryable Writes).
use Rattle.std.specs.Prelude.{◌≡◌, ◌≢◌, ℕ, ℤ, Option, None, Some, slice_get}
use Rattle.sess_book.specs.Sessions.{Sessions}
use Rattle.sess_book.specs.declared.session.Holding.TheVariants as holding
use Rattle.sess_book.specs.declared.session.Session.{Session}

-- The session at a place is out; and where its holder drew no number, none was drawn from it since its lease.
pub record IsHeldFor (s : Sessions) (place : ℕ) (number : Option ℤ) : Type 0 where
  pub session : Session
  pub there : slice_get s.made place ≡ Some session
  pub is_out : session.holding ≢ holding.Nobody
  pub undrawn : number ≡ None → session.holding ≡ holding.Leased
