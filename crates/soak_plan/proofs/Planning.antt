-- The acts of a plan, one number after another.
use Rattle.std.proofs.Common.{◌≡◌, ◌+◌, ◌%◌, ◌*◌, ℕ, zero, suc, List, ◌++◌, sym, ap, ◌∙◌, append_assoc, arith}
use Rattle.member_hall.specs.declared.act.Planned.{Planned}
use Rattle.soak_plan.specs.Draws.{drawn, given}
use Rattle.soak_plan.specs.Plans.{Planning, acts_at, acts_by, acts_from, behind, elected_by}

-- Of n acts that are left the first one stands apart.
first_apart : (j n m : ℕ) (p : Planning) → n ≡ m + 1 → acts_from j n p ≡ acts_at j p ++ acts_from (j + 1) m (behind p)
first_apart j zero m p e = absurd (omega arith)
first_apart j (suc n) m p e = ap (λ (k : ℕ). acts_at j p ++ acts_from (j + 1) k (behind p)) (let same : n ≡ m = omega arith in same)

one_behind : (so_far all : List Planned) (j n m : ℕ) (p : Planning) → so_far ++ acts_from j n p ≡ all → n ≡ m + 1
    → (so_far ++ acts_at j p) ++ acts_from (j + 1) m (behind p) ≡ all
one_behind so_far all j n m p whole e =
    append_assoc so_far (acts_at j p) (acts_from (j + 1) m (behind p)) ∙ sym (ap (λ xs. so_far ++ xs) (first_apart j n m p e)) ∙ whole

-- Two draws, an act by them, and who was elected last behind it.
pub record Step (so_far more : List Planned) (j state elected state_behind elected_behind : ℕ) : Type 0 where
  pub turn : ℕ
  pub between : ℕ
  pub kind : ℕ
  pub first : turn ≡ given state
  pub first_behind : between ≡ drawn state
  pub second : kind ≡ given between
  pub second_behind : state_behind ≡ drawn between
  pub acts : more ≡ so_far ++ acts_by (kind % 5) (40 * j + turn % 40) elected
  pub elects : elected_behind ≡ elected_by (kind % 5) elected

-- Behind a step the acts so far and those that are still to come are the same plan.
pub step_keeps : (so_far more all : List Planned) (j n m state elected state_behind elected_behind : ℕ)
    → Step so_far more j state elected state_behind elected_behind
    → so_far ++ acts_from j n (record { state = state; elected = elected }) ≡ all → n ≡ m + 1
    → more ++ acts_from (j + 1) m (record { state = state_behind; elected = elected_behind }) ≡ all
step_keeps so_far more all j n m state elected state_behind elected_behind s whole e =
    let kind = s.second ∙ ap given s.first_behind in
    let acts : more ≡ so_far ++ acts_at j (record { state = state; elected = elected }) =
    s.acts ∙ (λ i. so_far ++ acts_by (kind i % 5) (40 * j + s.first i % 40) elected) in
    let states = s.second_behind ∙ ap drawn s.first_behind in
    let elects = s.elects ∙ ap (λ (k : ℕ). elected_by (k % 5) elected) kind in
    (λ i. acts i ++ acts_from (j + 1) m (record { state = states i; elected = elects i }))
    ∙ one_behind so_far all j n m (record { state = state; elected = elected }) whole e
