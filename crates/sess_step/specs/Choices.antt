-- When a command may lease, draw or give back, and the ids of the trail (Driver Sessions; Retryable Writes).
use Rattle.std.specs.Prelude.{◌≡◌, ◌≤◌, ℕ, true, false, List, [], ◌∷◌, Some, map, slice_get}
use Rattle.bson_doc.specs.declared.ids.Lsid.{Lsid}
use Rattle.sess_book.specs.Sessions.{Sessions}
use Rattle.sess_book.specs.declared.session.Holding.{Holding}
use Rattle.sess_book.specs.declared.session.Session.{Session}
use Rattle.desk_trail.specs.Leases.{is_at_choice}
use Rattle.desk_trail.specs.Legal.{Point}
use Rattle.desk_trail.specs.Owed as owed
use Rattle.desk_trail.specs.States.{CommandState}
use Rattle.sess_step.specs.Takes.{IsHeldAt}
use Rattle.sess_step.specs.declared.command_at.CommandAt.{CommandAt}

-- A command is at its choice, and an entry of it may come that need not follow another: none must come next, and the client's end
-- did not begin.
pub record IsAtChoice (p : Point) (at : CommandAt) (c : CommandState) : Type 0 where
  pub paid : p.owed ≡ []
  pub time : p.moment ≤ at.moment
  pub goes_on : p.state.is_ending ≡ false
  pub there : slice_get p.state.commands at.op ≡ Some c
  pub chose : is_at_choice c.op.next ≡ true

-- It must give its session back next, at the moment of the entry ahead (Driver Sessions, returning a session).
pub record IsToReturn (p : Point) (at : CommandAt) (c : CommandState) : Type 0 where
  pub owes : p.owed ≡ owed.Returned at.op ∷ []
  pub time : at.moment ≡ p.moment
  pub goes_on : p.state.is_ending ≡ false
  pub there : slice_get p.state.commands at.op ≡ Some c

-- It has a session, which is held so.
pub record HoldsSo (s : Sessions) (c : CommandState) (held : Holding) : Type 0 where
  pub place : ℕ
  pub has : c.session ≡ Some place
  pub so : IsHeldAt s place held

-- The ids of the trail are those of all sessions that were made, in order.
abbrev pub AreIds : List Lsid → Sessions → Type 0
AreIds ids s = ids ≡ map (λ (x : Session). x.lsid) s.made
