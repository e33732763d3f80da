-- What a lease answers (Driver Sessions, Algorithm to acquire a ServerSession instance).
use Rattle.std.specs.Prelude.{◌≡◌, ℕ, ℤ, Bool, true, false, Some, All, slice_get}
use Rattle.bson_doc.specs.declared.ids.Lsid.{Lsid}
use Rattle.entry_judge.specs.Groups.{Goes}
use Rattle.sess_book.specs.declared.lease.Lease.{Lease}
use Rattle.sess_book.specs.declared.lease.Leased.{Leased}
use Rattle.sess_book.specs.declared.lease.Leased.TheVariants as leased
use Rattle.sess_book.specs.declared.session.Session.{Session}
use Rattle.sess_book.specs.declared.session.Holding.{Holding}
use Rattle.sess_book.specs.declared.session.Kept.{Kept}
use Rattle.sess_book.specs.Entries.{Made, Reused, sessions_judge}
use Rattle.sess_book.specs.Ids.{id_of}
use Rattle.sess_book.specs.Sessions.{Sessions, has_minute_left, is_used}

-- A lease is of the session at its place, with that session's id.
pub record IsOf (l : Lease) (s : Sessions) : Type 0 where
  pub session : Session
  pub there : slice_get s.made l.place ≡ Some session
  pub same : l.lsid ≡ session.lsid

-- A lease is of a session that is held so.
pub record IsHeld (s : Sessions) (l : Lease) (holding : Holding) : Type 0 where
  pub session : Session
  pub there : slice_get s.made l.place ≡ Some session
  pub same : l.lsid ≡ session.lsid
  pub held : session.holding ≡ holding

-- A lease leads on by the entry that makes a session with the id of the words, or that leases the newest kept one again.
abbrev pub LeasesBy : Sessions → ℕ → ℤ → Lsid → Lease → Bool → Sessions → Type 0
LeasesBy s moment minutes id l true t = (l.lsid ≡ id) × Goes sessions_judge s moment (Made l.place id minutes) t
LeasesBy s moment minutes id l false t = Goes sessions_judge s moment (Reused l.place minutes) t

-- What `take` answers: a lease; or, where no kept session has a minute left and one was made with the id of the words
-- before, that id, and nothing changes.
abbrev pub Answers : Sessions → ℕ → ℤ → Lsid → Leased → Sessions → Type 0
Answers s moment minutes id (leased.Lease l) t = LeasesBy s moment minutes id l l.fresh t × IsOf l t
Answers s moment minutes id (leased.Repeated repeated) t =
    (repeated ≡ id) × (is_used id s.made ≡ true) × All (λ k. has_minute_left minutes moment k ≡ false) s.kept × (t ≡ s)
