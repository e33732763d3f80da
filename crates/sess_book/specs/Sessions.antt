-- The sessions of a client (Driver Sessions, Server Session Pool).
use Rattle.std.specs.Prelude.{ℕ, ◌+◌, ◌*◌, ◌-◌, ℤ, pos, negsuc, Bool, false, not, ◌&&◌, nat_le, List, [], Option, length, slice_get}
use Rattle.std.specs.List.{list_any}
use Rattle.std.specs.Option.{option_map_or}
use Rattle.std.specs.Ordering.{int_eq}
use Rattle.bson_doc.specs.declared.ids.Lsid.{Lsid}
use Rattle.sess_book.specs.declared.session.Session.{Session}
use Rattle.sess_book.specs.declared.session.Kept.{Kept}
use Rattle.sess_book.specs.Ids.{is_same_id}

-- All sessions that were ever made, in order, so that each has a place; those that wait to be leased again, the one that was
-- given back last at the end; and the moment of the last lease or return.
pub record Sessions : Type 0 where
  pub made : List Session
  pub kept : List Kept
  pub last : ℕ

-- A client has no session at first.
abbrev pub no_sessions : Sessions
no_sessions = record { made = []; kept = []; last = 0 }

-- A minute, in microseconds.
abbrev pub MINUTE : ℕ
MINUTE = 60000000

-- A number of minutes in microseconds; none is negative.
abbrev pub micros_of : ℤ → ℕ
micros_of (pos n) = n * MINUTE
micros_of (negsuc n) = 0

-- The session has a minute left at the moment, where servers end sessions after so many minutes without use
-- (Driver Sessions, Algorithm to acquire a ServerSession instance: a session is about to expire if it has less than a minute
-- left).
abbrev pub has_minute_left : ℤ → ℕ → Kept → Bool
has_minute_left minutes moment k = nat_le (moment + MINUTE) (k.last_use + micros_of minutes)

-- The session that was given back last.
abbrev pub newest : Sessions → Option Kept
newest s = slice_get s.kept (length s.kept - 1)

-- A session was made with that id.
abbrev pub is_used : Lsid → List Session → Bool
is_used id made = list_any (λ s. is_same_id s.lsid id) made

-- The greatest transaction number (Driver Sessions, txnNumber: a 64-bit integer).
abbrev pub MOST : ℤ
MOST = pos 9223372036854775807

-- A session is kept when it is given back unless it is dirty (Driver Sessions, Dirty sessions) or has no number left (own).
abbrev pub is_kept : Bool → ℤ → Bool
is_kept dirty number = not dirty && not (int_eq number MOST)
