-- What a lease book answers (Driver Sessions, Algorithm to acquire a ServerSession instance).
use Rattle.std.specs.Prelude.{◌≡◌, ℕ, ℤ, Bool, true, false, Some, All, slice_get}
use Rattle.bson_doc.specs.declared.ids.Lsid.{Lsid}
use Rattle.entry_judge.specs.Groups.{Goes}
use Rattle.sess_book.specs.declared.session.Session.{Session}
use Rattle.sess_book.specs.declared.session.Holding.{Holding}
use Rattle.sess_book.specs.declared.session.Holding.TheVariants as holding
use Rattle.sess_book.specs.Entries.{sessions_judge}
use Rattle.sess_book.specs.Sessions.{Sessions, has_minute_left, is_used}
use Rattle.desk_trail.specs.Leases.{IsIdAt, lease_step}
use Rattle.sess_step.specs.declared.taken.Taken.{Taken}
use Rattle.sess_step.specs.declared.taken.Taken.TheVariants as taken

-- The session at a place is held so.
pub record IsHeldAt (s : Sessions) (place : ℕ) (held : Holding) : Type 0 where
  pub session : Session
  pub there : slice_get s.made place ≡ Some session
  pub so : session.holding ≡ held

-- A lease is of the session at that place: the entry that makes it, or that leases the newest kept one again, leads on; a new one
-- has the id of the words, and one that was there has its id.
pub record IsTaken (s : Sessions) (moment : ℕ) (minutes : ℤ) (own : Lsid) (place : ℕ) (lsid : Lsid) (fresh : Bool) (t : Sessions) : Type 0 where
  pub goes : Goes sessions_judge s moment (lease_step place lsid fresh minutes) t
  pub made : fresh ≡ true → lsid ≡ own
  pub id : IsIdAt s place lsid fresh
  pub held : IsHeldAt t place holding.Leased

-- What `take` answers: a lease; or, where no kept session has a minute left and one was made with the id of the words before, that
-- id, and nothing changes.
abbrev pub Takes : Sessions → ℕ → ℤ → Lsid → Taken → Sessions → Type 0
Takes s moment minutes own (taken.Session place lsid fresh) t = IsTaken s moment minutes own place lsid fresh t
Takes s moment minutes own (taken.Repeated repeated) t =
    (repeated ≡ own) × (is_used own s.made ≡ true) × All (λ k. has_minute_left minutes moment k ≡ false) s.kept × (t ≡ s)
