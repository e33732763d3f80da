-- Entries of which some must follow others at once.
use Rattle.std.specs.Prelude.{◌≡◌, ℕ, List, [], ◌∷◌, ◌++◌, map}
use Rattle.entry_judge.specs.declared.timed.Timed.{Timed}
use Rattle.entry_judge.specs.Judge.{Legal, state_after}

-- What entries of a kind are judged by: when one that does not have to follow another may stand, in which state and at
-- which moment; the state behind it and all that must follow it at once; and what must (own).
pub record Judge (S E : Type 0) : Type 1 where
  pub may_stand : S → ℕ → E → Type 0
  pub after : S → ℕ → E → S
  pub owes : S → ℕ → E → List E

-- A place in a trail: the state there, and the entries that must come next (own).
pub record Place (S E : Type 0) : Type 0 where
  pub state : S
  pub owed : List E

-- A place where no entry must come next (own).
abbrev pub nothing_owed : {S E : Type 0} → S → Place S E
nothing_owed s = record { state = s; owed = [] }

-- The entry that must come next does; where none must, one that may (own).
abbrev pub ComesNext : {E : Type 0} → List E → E → Type 0 → Type 0
ComesNext [] e May = May
ComesNext (d ∷ ds) e May = e ≡ d

-- An entry stands at a place (own).
abbrev pub Stands : {S E : Type 0} → Judge S E → Place S E → Timed E → Type 0
Stands j p t = ComesNext p.owed t.what (j.may_stand p.state t.at t.what)

-- An entry changes the state, and owes what must follow it; one that was owed changes nothing, since the entry that
-- owed it changed the state for both (own).
abbrev pub place_by : {S E : Type 0} → Judge S E → S → List E → Timed E → Place S E
place_by j s [] t = record { state = j.after s t.at t.what; owed = j.owes s t.at t.what }
place_by j s (d ∷ ds) t = record { state = s; owed = ds }

-- The place behind an entry (own).
abbrev pub next_place : {S E : Type 0} → Judge S E → Place S E → Timed E → Place S E
next_place j p t = place_by j p.state p.owed t

-- A trail from a state on: each entry stands where those ahead of it lead (own).
abbrev pub IsTrail : {S E : Type 0} → Judge S E → S → List (Timed E) → Type 0
IsTrail j s ts = Legal (Stands j) (next_place j) (nothing_owed s) ts

-- The place to which a trail leads (own).
abbrev pub place_behind : {S E : Type 0} → Judge S E → S → List (Timed E) → Place S E
place_behind j s ts = state_after (next_place j) (nothing_owed s) ts

-- The entries of a trail, without their moments (own).
abbrev pub entries_of : {E : Type 0} → List (Timed E) → List E
entries_of ts = map (λ t. t.what) ts

-- The entries of a trail, and those that must still follow it (own).
abbrev pub entries_and_owed : {S E : Type 0} → Judge S E → S → List (Timed E) → List E
entries_and_owed j s ts = entries_of ts ++ (place_behind j s ts).owed

-- Entries of one moment (own).
abbrev pub timed : {E : Type 0} → ℕ → List E → List (Timed E)
timed moment es = map (λ e. record { at = moment; what = e }) es

-- An entry, and what must follow it at once (own).
abbrev pub group : {S E : Type 0} → Judge S E → S → ℕ → E → List E
group j s moment e = e ∷ j.owes s moment e

-- An entry may stand in a state, and leads to another with all that must follow it: what one call does (own).
pub record Goes {S E : Type 0} (j : Judge S E) (s : S) (moment : ℕ) (e : E) (q : S) : Type 0 where
  pub stands : j.may_stand s moment e
  pub moves : q ≡ j.after s moment e

-- A trail leads to a state in which nothing must follow: what whole calls have left (own).
pub record LeadsTo {S E : Type 0} (j : Judge S E) (s : S) (ts : List (Timed E)) (q : S) : Type 0 where
  pub trail : IsTrail j s ts
  pub place : place_behind j s ts ≡ nothing_owed q
