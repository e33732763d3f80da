-- What a lease book keeps (own: the refinement).
use Rattle.std.specs.Prelude.{◌≡◌, ◌≢◌, ◌<◌, ℕ, Bool, true, false, List, [], ◌∷◌, ◌++◌, Option, Some, length, slice_get, slice_set}
use Rattle.bson_doc.specs.declared.ids.Lsid.{Lsid}
use Rattle.sess_book.specs.declared.lease.Lease.{Lease}
use Rattle.sess_book.specs.declared.session.Session.{Session}
use Rattle.sess_book.specs.declared.session.Holding.TheVariants as holding
use Rattle.sess_book.specs.Sessions.{Sessions}
use Rattle.sess_step.specs.declared.lease_book.LeaseBook.TheInside.{Inside}

-- The sessions that a lease book stands for.
abbrev pub sessions_of : Inside → Sessions
sessions_of b = b.book

-- A lease of the session with that id is kept at its place.
pub record IsLeaseAt (leases : List (Option Lease)) (place : ℕ) (lsid : Lsid) : Type 0 where
  pub lease : Lease
  pub there : slice_get leases place ≡ Some (Some lease)
  pub at : lease.place ≡ place
  pub id : lease.lsid ≡ lsid

-- Each session has a place among the leases, and one that is out has its lease there.
pub record AreKept (made : List Session) (leases : List (Option Lease)) : Type 0 where
  pub count : length leases ≡ length made
  pub out : (place : ℕ) (x : Session) → slice_get made place ≡ Some x → x.holding ≢ holding.Nobody → IsLeaseAt leases place x.lsid

abbrev pub IsKept : Inside → Type 0
IsKept b = AreKept b.book.made b.leases.items

-- The place of a lease among so many: behind them where its session is new, else one of theirs.
abbrev pub IsPlaced : Bool → ℕ → ℕ → Type 0
IsPlaced true place count = place ≡ count
IsPlaced false place count = place < count

-- It is put there.
abbrev pub IsPut : Lease → Bool → List (Option Lease) → List (Option Lease) → Type 0
IsPut lease true old new = new ≡ old ++ Some lease ∷ []
IsPut lease false old new = new ≡ slice_set old lease.place (Some lease)
