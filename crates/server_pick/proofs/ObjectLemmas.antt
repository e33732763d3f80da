-- Objects in boxes.
use Rattle.std.proofs.Common.{◌≡◌, refl, subst}

-- An object of a type, with a state.
abbrev object : {I : Type 0} (D : I → Type 0) (v : I) → D v → (v : I) × D v
object D v d = (v, d)

-- What may follow a state may follow an equal one.
pub moved-next : {I : Type 0} {D : I → Type 0} (F : (p : (v : I) × D v) → D p.0 → Type 0) (p q : (v : I) × D v) → p ≡ q → (d : D p.0) → F p d →
    (x : D q.0) × F q x × (object D p.0 d ≡ object D q.0 x)
moved-next {I} {D} F p q e d f = subst (λ (r : (v : I) × D v). (x : D r.0) × F r x × (object D p.0 d ≡ object D r.0 x)) e (d, f, refl)
