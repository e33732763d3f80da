-- One server after another was checked.
use Rattle.std.proofs.Common.{◌≡◌, ◌≤◌, ◌<◌, ◌⊎◌, inl, inr, ℕ, ◌+◌, Bool, true, false, not, List, length, Some, refl, sym, ap, ◌∙◌, subst, get_or, arith}
use Rattle.std.proofs.lemmas.Bool.{cases_lt}
use Rattle.std.proofs.lemmas.Option.{slice_get-get_or}
use Rattle.std.specs.Prelude.{slice_get}
use Rattle.desk_trail.specs.States.{ServerState}
use Rattle.server_look.specs.Waits.{IsChecked}
use Rattle.server_look.specs.declared.checked.Wait.{Wait}

pub not-yes : (b : Bool) → not b ≡ true → b ≡ false
not-yes true e = sym e
not-yes false e = refl

pub not-no : (b : Bool) → not b ≡ false → b ≡ true
not-no true e = refl
not-no false e = sym e

-- what stands at a place
pub read-at : (ss : List ServerState) (i : ℕ) (t : ServerState) → i < length ss → t ≡ get_or ss i t → slice_get ss i ≡ Some t
read-at ss i t lt is = slice_get-get_or ss i t lt ∙ ap Some (sym is)

pub checked-next : (moment : ℕ) (wait : Wait) (ss : List ServerState) (i : ℕ) (t : ServerState) → i < length ss → t ≡ get_or ss i t →
    (t.has_left ≡ false → IsChecked moment wait i t) →
    ((host : ℕ) (s : ServerState) → host < i → slice_get ss host ≡ Some s → s.has_left ≡ false → IsChecked moment wait host s) →
    (host : ℕ) (s : ServerState) → host < i + 1 → slice_get ss host ≡ Some s → s.has_left ≡ false → IsChecked moment wait host s
checked-next moment wait ss i t lt is here before host s less at stays = by (cases_lt host i)
  where
    by : (host < i) ⊎ (i ≤ host) → IsChecked moment wait host s
    by (inl l) = before host s l at stays
    by (inr g) =
        let same : host ≡ i = omega arith in
        let there : slice_get ss host ≡ Some t = ap (slice_get ss) same ∙ read-at ss i t lt is in
        let both : Some s ≡ Some t = sym at ∙ there in
        let one : s ≡ t = (cc) in
        subst (λ h. IsChecked moment wait h s) (sym same)
        (subst (λ (u : ServerState). IsChecked moment wait i u) (sym one) (here (subst (λ (u : ServerState). u.has_left ≡ false) one stays)))
