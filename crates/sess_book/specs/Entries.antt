-- What happens to sessions: when each entry may stand, and what the sessions are behind it (Driver Sessions).
use Rattle.std.specs.Prelude.{◌≡◌, ◌≢◌, ◌≤◌, ℕ, ◌-◌, ℤ, ◌+ℤ◌, pos, Bool, true, false, List, [], ◌∷◌, ◌++◌, Option, None, Some, All, length, take, slice_get, slice_set, if◌then◌else◌}
use Rattle.bson_doc.specs.declared.ids.Lsid.{Lsid}
use Rattle.entry_judge.specs.Groups.{Judge}
use Rattle.sess_book.specs.declared.session.Session.{Session}
use Rattle.sess_book.specs.declared.session.Kept.{Kept}
use Rattle.sess_book.specs.declared.session.Holding.{Holding}
use Rattle.sess_book.specs.declared.session.Holding.TheVariants as holding
use Rattle.sess_book.specs.Sessions.{Sessions, has_minute_left, newest, is_used, is_kept}

-- The entries of a client's sessions; a session is named by its place among all that were made.
pub data SessEntry : Type 0 where
  Made : (place : ℕ) (lsid : Lsid) (minutes : ℤ) → SessEntry  -- a new session is leased
  Reused : (place : ℕ) (minutes : ℤ) → SessEntry  -- the newest kept session is leased again
  Drew : (place : ℕ) (number : ℤ) → SessEntry  -- its holder draws a transaction number
  Returned : (place : ℕ) (dirty kept : Bool) → SessEntry  -- its holder gives it back

-- When an entry may stand: a session is made with an id that no session had before, where no kept one has a minute left; the
-- newest kept one is leased again where it has a minute left; a holder draws once, one more than the session's greatest number;
-- a holder gives its session back, and it is kept unless it is dirty or has no number left. Moments of leases and returns never
-- fall.
abbrev pub MayStand : Sessions → ℕ → SessEntry → Type 0
MayStand s moment (Made place lsid minutes) =
    (s.last ≤ moment) × (place ≡ length s.made) × (is_used lsid s.made ≡ false)
    × All (λ k. has_minute_left minutes moment k ≡ false) s.kept
MayStand s moment (Reused place minutes) =
    (s.last ≤ moment) × ((k : Kept) × (newest s ≡ Some k) × (k.place ≡ place) × (has_minute_left minutes moment k ≡ true))
MayStand s moment (Drew place number) =
    (x : Session) × (slice_get s.made place ≡ Some x) × (x.holding ≡ holding.Leased) × (number ≡ x.number +ℤ pos 1)
MayStand s moment (Returned place dirty kept) =
    (s.last ≤ moment) × ((x : Session) × (slice_get s.made place ≡ Some x) × (x.holding ≢ holding.Nobody) × (kept ≡ is_kept dirty x.number))

-- The sessions with another one at a place, made of the one that stands there.
abbrev pub set_at : List Session → ℕ → Option Session → (Session → Session) → List Session
set_at made place None f = made
set_at made place (Some x) f = slice_set made place (f x)

abbrev pub with_session : List Session → ℕ → (Session → Session) → List Session
with_session made place f = set_at made place (slice_get made place) f

-- A session that is given back, where it is kept.
abbrev pub kept_again : Bool → ℕ → ℕ → List Kept
kept_again kept place moment = if kept then record { place = place; last_use = moment } ∷ [] else []

-- The sessions behind an entry. A lease drops the kept sessions that have less than a minute left, which are all of them where
-- none is leased again.
abbrev pub after : Sessions → ℕ → SessEntry → Sessions
after s moment (Made place lsid minutes) = record {
  made = s.made ++ record { lsid = lsid; number = pos 0; holding = holding.Leased } ∷ [];
  kept = [];
  last = moment;
}
after s moment (Reused place minutes) = record {
  made = with_session s.made place (λ x. record x { holding = holding.Leased });
  kept = take (length s.kept - 1) s.kept;
  last = moment;
}
after s moment (Drew place number) =
    record s { made = with_session s.made place (λ x. record x { number = number; holding = holding.Drawn }) }
after s moment (Returned place dirty kept) = record {
  made = with_session s.made place (λ x. record x { holding = holding.Nobody });
  kept = s.kept ++ kept_again kept place moment;
  last = moment;
}

-- The judge of a client's sessions: no entry owes another.
abbrev pub sessions_judge : Judge Sessions SessEntry
sessions_judge = record { may_stand = MayStand; after = after; owes = λ s moment e. [] }
