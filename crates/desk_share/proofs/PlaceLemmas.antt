-- How far each lane is.
use Rattle.std.proofs.Common.{◌≡◌, ◌⊎◌, ℕ, zero, suc, List, [], ◌∷◌, ◌++◌, Some, inl, inr, get_or, replicate, refl, sym, ap, ◌∙◌, subst, arith}
use Rattle.std.proofs.lemmas.Bool.Decides.{eqb_tells}
use Rattle.std.specs.Prelude.{slice_get, slice_set}
use Rattle.entry_judge.specs.declared.timed.Timed.{Timed}
use Rattle.desk_trail.specs.Clients.{Client}
use Rattle.desk_trail.specs.Facts.{Fact}
use Rattle.desk_trail.specs.Legal.{Point, point_behind}
use Rattle.legal_trail.specs.Recorded.{told_in}
use Rattle.trail_laws.specs.Answers.{IsFinishedAt}
use Rattle.desk_core.specs.Appends.{Tells}
use Rattle.desk_core.specs.Nexts.{AreAnsweredAhead}
use Rattle.desk_core.specs.State.{Desk}
use Rattle.desk_share.specs.Shared.{AreSoFar}

-- ---- Lists

set-same : {A : Type 0} (xs : List A) (k : ℕ) (x y : A) → slice_get (slice_set xs k x) k ≡ Some y → y ≡ x
set-same [] k x y e = absurd (let never : ⊥ = cc in never)
set-same (z ∷ zs) zero x y e = cc
set-same (z ∷ zs) (suc k) x y e = set-same zs k x y e

set-other : {A : Type 0} (xs : List A) (k i : ℕ) (x : A) → (k ≡ i → ⊥) → slice_get (slice_set xs k x) i ≡ slice_get xs i
set-other [] k i x h = refl
set-other (z ∷ zs) zero zero x h = absurd (h refl)
set-other (z ∷ zs) zero (suc i) x h = refl
set-other (z ∷ zs) (suc k) zero x h = refl
set-other (z ∷ zs) (suc k) (suc i) x h = set-other zs k i x (λ e. h (omega (arith, e)))

-- ---- Places

-- No lane is anywhere.
zeros : (n k place : ℕ) → slice_get (replicate n 0) k ≡ Some place → place ≡ 0
zeros zero k place e = absurd (let never : ⊥ = cc in never)
zeros (suc n) zero place e = cc
zeros (suc n) (suc k) place e = zeros n k place e

pub so-far-first : {N P : Type 0} (d : Desk N P) (places : List ℕ) (count : ℕ) → places ≡ replicate count 0 → AreSoFar d places
so-far-first d places count are lane place there k l below =
    absurd (let none : place ≡ 0 = zeros count lane place (ap (λ (xs : List ℕ). slice_get xs lane) (sym are) ∙ there) in let never : ⊥ = omega (arith, below, none) in never)

get_or-there : (xs : List ℕ) (k : ℕ) → (slice_get xs k ≡ Some (get_or xs k 0)) ⊎ (get_or xs k 0 ≡ 0)
get_or-there [] k = inr refl
get_or-there (x ∷ xs) zero = inl refl
get_or-there (x ∷ xs) (suc k) = get_or-there xs k

-- Where a lane is.
pub so-far-at : {N P : Type 0} (d : Desk N P) (places : List ℕ) (lane : ℕ) → AreSoFar d places → AreAnsweredAhead d.trail.client d.trail.point.state lane (get_or places lane 0)
so-far-at d places lane far k l below = elim (get_or-there places lane) [
  | inl w ↦ far lane (get_or places lane 0) w k l below
  | inr w ↦ absurd (let none = w in let never : ⊥ = omega (arith, below, none) in never)
]

-- One lane is at a place.
pub so-far-passed : {N P : Type 0} (d : Desk N P) (places : List ℕ) (lane place : ℕ) → AreAnsweredAhead d.trail.client d.trail.point.state lane place → AreSoFar d places →
    AreSoFar d (slice_set places lane place)
so-far-passed d places lane place ahead far other at there = elim (eqb_tells lane other) [
  | inl w ↦
      let here : slice_get (slice_set places lane place) lane ≡ Some at = ap (slice_get (slice_set places lane place)) w.1 ∙ there in
      let same : at ≡ place = set-same places lane place at here in
      subst (λ (n : ℕ). AreAnsweredAhead d.trail.client d.trail.point.state n at) w.1
      (subst (λ (n : ℕ). AreAnsweredAhead d.trail.client d.trail.point.state lane n) (sym same) ahead)
  | inr w ↦ far other at (sym (set-other places lane other place w.1) ∙ there)
]

-- ---- Calls

-- A command that is finished stays so, whatever is appended.
abbrev pub StayDone : Type 0
StayDone = (client : Client) (ts more : List (Timed Fact)) (op : ℕ) → IsFinishedAt (point_behind client ts).state op → IsFinishedAt (point_behind client (ts ++ more)).state op

-- A desk whose trail leads to its point.
abbrev pub IsLed : {N P : Type 0} → Desk N P → Type 0
IsLed d = d.trail.point ≡ point_behind d.trail.client (told_in d.trail)

ahead-later : StayDone → (client : Client) (ts more : List (Timed Fact)) (lane place : ℕ) → AreAnsweredAhead client (point_behind client ts).state lane place →
    AreAnsweredAhead client (point_behind client (ts ++ more)).state lane place
ahead-later law client ts more lane place ahead k l below = law client ts more k was l.running l.there
  where
    was : IsFinishedAt (point_behind client ts).state k
    was c there = ahead k (record { command = l.command; given = l.given; lane_is = l.lane_is; running = c; there = there }) below

-- By a call, which appends.
pub so-far : {N P : Type 0} → StayDone → (says : Fact → Type 0) (old new : Desk N P) (places : List ℕ) → IsLed old → IsLed new → new.trail.client ≡ old.trail.client →
    Tells says (told_in old.trail) (told_in new.trail) → AreSoFar old places → AreSoFar new places
so-far law says old new places led led_too client tells far lane place there =
    subst (λ (c : Client). AreAnsweredAhead c new.trail.point.state lane place) (sym client)
    (subst (λ (p : Point). AreAnsweredAhead old.trail.client p.state lane place) (sym now)
    (ahead-later law old.trail.client (told_in old.trail) tells.more lane place
    (subst (λ (p : Point). AreAnsweredAhead old.trail.client p.state lane place) led (far lane place there))))
  where
    now : new.trail.point ≡ point_behind old.trail.client (told_in old.trail ++ tells.more)
    now = led_too ∙ ap (λ (c : Client). point_behind c (told_in new.trail)) client ∙ ap (point_behind old.trail.client) tells.facts
