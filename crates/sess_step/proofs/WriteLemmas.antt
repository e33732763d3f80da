-- The entry of a lease, by whether its session is new.
use Rattle.std.proofs.Common.{◌≡◌, ℕ, Bool, true, false, List, [], ◌∷◌, ◌++◌, length, Option, None, Some, sym, ap, subst, arith}
use Rattle.std.specs.Option.{option_map}
use Rattle.std.specs.Prelude.{slice_get}
use Rattle.bson_doc.specs.declared.ids.Lsid.{Lsid}
use Rattle.desk_trail.specs.Clients.{Client}
use Rattle.desk_trail.specs.Facts.{Fact, Lists, fact_of}
use Rattle.desk_trail.specs.Facts as fact
use Rattle.desk_trail.specs.Legal.{Point, StandsAt}
use Rattle.desk_trail.specs.Written.{IsAtLeast, a_session, an_entry}
use Rattle.desk_trail.specs.declared.entry.Entry.TheVariants as entry
use Rattle.desk_trail.specs.declared.room.Room.{Room}
use Rattle.legal_trail.specs.Recorded.{Adds, Recorded}
use Rattle.wired_trail.specs.Lines.{Lines as StreamLines}
use Rattle.wired_trail.specs.Hearing.{IsPlain}
use Rattle.sess_step.specs.Moves.{IsNamed, lease_lists, lease_room}
use Rattle.sess_step.specs.declared.command_at.CommandAt.{CommandAt}

-- room for a session is room for an entry
pub entry-room : (r : Room) → IsAtLeast a_session r → IsAtLeast an_entry r
entry-room r h = record { names = h.names; events = h.events; sessions = let s = h.sessions in omega (arith, s); requests = h.requests; steps = h.steps }

-- ---- A new session

pub stands-fresh : (client : Client) (p : Point) (at : CommandAt) (place : ℕ) (lsid : Lsid) (ids : List Lsid) (b : Bool) → b ≡ true → IsNamed b place lsid ids →
    StandsAt client p (record { at = at.moment; what = fact.Leased at.op place lsid b }) →
    StandsAt client p (record { at = at.moment; what = fact.Leased at.op (length ids) lsid true })
stands-fresh client p at place lsid ids true e named stands = subst (λ n. StandsAt client p (record { at = at.moment; what = fact.Leased at.op n lsid true })) named stands
stands-fresh client p at place lsid ids false e named stands = absurd (cc)

pub adds-fresh : (old new : Recorded) (at : CommandAt) (place : ℕ) (lsid : Lsid) (b : Bool) → b ≡ true → IsNamed b place lsid old.lists.sessions →
    Adds a_session (record old.lists { sessions = old.lists.sessions ++ lsid ∷ [] }) at.moment (entry.Leased at.op (length old.lists.sessions) true)
    (fact.Leased at.op (length old.lists.sessions) lsid true) old new →
    Adds (lease_room b) (lease_lists b lsid old.lists) at.moment (entry.Leased at.op place b) (fact.Leased at.op place lsid b) old new
adds-fresh old new at place lsid true e named adds =
    subst (λ n. Adds a_session (record old.lists { sessions = old.lists.sessions ++ lsid ∷ [] }) at.moment (entry.Leased at.op n true) (fact.Leased at.op n lsid true) old new) (sym named) adds
adds-fresh old new at place lsid false e named adds = absurd (cc)

-- ---- One that was there

-- the entry tells the lease of the session with the id at that place
pub told-kept : (l : Lists) (at : CommandAt) (place : ℕ) (lsid : Lsid) (b : Bool) → b ≡ false → IsNamed b place lsid l.sessions →
    fact_of l (entry.Leased at.op place false) ≡ Some (fact.Leased at.op place lsid false)
told-kept l at place lsid true e named = absurd (cc)
told-kept l at place lsid false e named = ap (option_map (λ id. fact.Leased at.op place id false)) named

pub stands-kept : (client : Client) (p : Point) (at : CommandAt) (place : ℕ) (lsid : Lsid) (b : Bool) → b ≡ false →
    StandsAt client p (record { at = at.moment; what = fact.Leased at.op place lsid b }) →
    StandsAt client p (record { at = at.moment; what = fact.Leased at.op place lsid false })
stands-kept client p at place lsid true e stands = absurd (cc)
stands-kept client p at place lsid false e stands = stands

pub adds-kept : (old new : Recorded) (at : CommandAt) (place : ℕ) (lsid : Lsid) (b : Bool) → b ≡ false →
    Adds an_entry old.lists at.moment (entry.Leased at.op place false) (fact.Leased at.op place lsid false) old new →
    Adds (lease_room b) (lease_lists b lsid old.lists) at.moment (entry.Leased at.op place b) (fact.Leased at.op place lsid b) old new
adds-kept old new at place lsid true e adds = absurd (cc)
adds-kept old new at place lsid false e adds = adds

-- it begins to use no stream
uses-told : (lines : StreamLines) (op place : ℕ) (o : Option Lsid) (told : Fact) → option_map (λ id. fact.Leased op place id false) o ≡ Some told → IsPlain lines told
uses-told lines op place None told e = absurd (cc)
uses-told lines op place (Some id) told e =
    let one : fact.Leased op place id false ≡ told = cc in
    subst (IsPlain lines) one tt

pub uses-kept : (lines : StreamLines) (l : Lists) (op place : ℕ) (told : Fact) → fact_of l (entry.Leased op place false) ≡ Some told → IsPlain lines told
uses-kept lines l op place told e = uses-told lines op place (slice_get l.sessions place) told e
