-- What the laws on sessions speak of.
use Rattle.std.specs.Prelude.{◌≡◌, ℕ, ◌+◌, ◌==◌, Bool, true, false, List, [], ◌∷◌, Some, slice_get, if◌then◌else◌}
use Rattle.entry_judge.specs.declared.timed.Timed.{Timed}
use Rattle.entry_judge.specs.Groups.{IsTrail}
use Rattle.sess_book.specs.declared.session.Session.{Session}
use Rattle.sess_book.specs.declared.session.Holding.TheVariants as holding
use Rattle.sess_book.specs.Entries.{SessEntry, Made, Reused, Drew, Returned, sessions_judge}
use Rattle.sess_book.specs.Sessions.{no_sessions}

-- What happens to a client's sessions from its beginning on, each entry where it may stand.
abbrev pub IsHistory : List (Timed SessEntry) → Type 0
IsHistory ts = IsTrail sessions_judge no_sessions ts

-- No two of the sessions have one id.
abbrev pub IdsDiffer : List Session → Type 0
IdsDiffer made = (i j : ℕ) (x y : Session) → slice_get made i ≡ Some x → slice_get made j ≡ Some y → x.lsid ≡ y.lsid → i ≡ j

-- The entry leases the session at that place.
abbrev pub leases : ℕ → SessEntry → Bool
leases place (Made p lsid minutes) = p == place
leases place (Reused p minutes) = p == place
leases place e = false

-- The entry is a draw from the session at that place.
abbrev pub is_draw : ℕ → SessEntry → Bool
is_draw place (Drew p number) = p == place
is_draw place e = false

-- How many draws from the session at that place are among the entries.
abbrev pub draws : ℕ → List SessEntry → ℕ
draws place [] = 0
draws place (e ∷ es) = (if is_draw place e then 1 else 0) + draws place es

-- Nobody holds the session at that place.
abbrev pub IsHeldByNobody : List Session → ℕ → Type 0
IsHeldByNobody made place = (x : Session) → slice_get made place ≡ Some x → x.holding ≡ holding.Nobody
