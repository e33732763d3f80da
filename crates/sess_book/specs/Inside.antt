-- What a book keeps (own: the refinement).
use Rattle.std.specs.Prelude.{◌≡◌, ◌≢◌, ◌≤◌, ℕ, ◌+◌, List, [], ◌∷◌, Some, length, vec_capacity, slice_get}
use Rattle.std.specs.BTreeSet.{contains}
use Rattle.bson_doc.specs.Ids.{lsid_cmp}
use Rattle.bson_doc.specs.declared.ids.Lsid.{Lsid}
use Rattle.sess_book.specs.declared.book.SessBook.TheInside.{Inside}
use Rattle.sess_book.specs.declared.session.Session.{Session}
use Rattle.sess_book.specs.declared.session.Kept.{Kept}
use Rattle.sess_book.specs.declared.session.Holding.{Holding}
use Rattle.sess_book.specs.declared.session.Holding.TheVariants as holding
use Rattle.sess_book.specs.Sessions.{Sessions, MOST, is_used}

-- The sessions that a book stands for.
abbrev pub sessions_of : Inside → Sessions
sessions_of b = record { made = b.made.items; kept = b.kept.items; last = b.last }

-- The session at that place is held by nobody and has a number left.
abbrev pub IsFree : List Session → ℕ → Type 0
IsFree made place = (x : Session) × (slice_get made place ≡ Some x) × (x.holding ≡ holding.Nobody) × (x.number ≢ MOST)

-- Whether a lease of the session is out.
abbrev pub is_out : Holding → ℕ
is_out holding.Nobody = 0
is_out holding.Leased = 1
is_out holding.Drawn = 1

-- How many leases are out.
abbrev pub leases_out : List Session → ℕ
leases_out [] = 0
leases_out (x ∷ xs) = is_out x.holding + leases_out xs

-- Kept sessions are free, each stands once, and they were given back in order; a session whose holder has not drawn has a
-- number left; a session is kept, or out, or neither.
pub record IsSound (s : Sessions) : Type 0 where
  pub free : (i : ℕ) (k : Kept) → slice_get s.kept i ≡ Some k → IsFree s.made k.place
  pub once : (i j : ℕ) (a b : Kept) → slice_get s.kept i ≡ Some a → slice_get s.kept j ≡ Some b → a.place ≡ b.place → i ≡ j
  pub order : (i j : ℕ) (a b : Kept) → slice_get s.kept i ≡ Some a → slice_get s.kept j ≡ Some b → i ≤ j → a.last_use ≤ b.last_use
  pub past : (i : ℕ) (k : Kept) → slice_get s.kept i ≡ Some k → k.last_use ≤ s.last
  pub numbers : (i : ℕ) (x : Session) → slice_get s.made i ≡ Some x → x.holding ≡ holding.Leased → x.number ≢ MOST
  pub apart : length s.kept + leases_out s.made ≤ length s.made

-- The index has exactly the ids that were used, and each session finds room among those that are kept.
pub record IsKept (b : Inside) : Type 0 where
  pub sound : IsSound (sessions_of b)
  pub index : (id : Lsid) → contains lsid_cmp b.used id ≡ is_used id b.made.items
  pub room : length b.made.items ≤ vec_capacity b.kept
