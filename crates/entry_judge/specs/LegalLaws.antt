-- Laws of legal lists of entries, for the proofs of other crates too.
use Rattle.std.proofs.Common.{◌≡◌, ℕ, zero, suc, List, [], ◌∷◌, ◌++◌, take, Some, refl, subst}
use Rattle.std.specs.Prelude.{slice_get}
use Rattle.entry_judge.specs.Judge.{Legal, state_after}

-- one legal list behind another
pub Legal-append : {S E : Type 0} (May : S → E → Type 0) (next : S → E → S) (s : S) (xs ys : List E) →
    Legal May next s xs → Legal May next (state_after next s xs) ys → Legal May next s (xs ++ ys)
Legal-append May next s [] ys l m = m
Legal-append May next s (x ∷ xs) ys l m = (l.0, Legal-append May next (next s x) xs ys l.1 m)

pub Legal-front : {S E : Type 0} (May : S → E → Type 0) (next : S → E → S) (s : S) (xs ys : List E) →
    Legal May next s (xs ++ ys) → Legal May next s xs
Legal-front May next s [] ys l = tt
Legal-front May next s (x ∷ xs) ys l = (l.0, Legal-front May next (next s x) xs ys l.1)

pub Legal-rest : {S E : Type 0} (May : S → E → Type 0) (next : S → E → S) (s : S) (xs ys : List E) →
    Legal May next s (xs ++ ys) → Legal May next (state_after next s xs) ys
Legal-rest May next s [] ys l = l
Legal-rest May next s (x ∷ xs) ys l = Legal-rest May next (next s x) xs ys l.1

pub state_after-append : {S E : Type 0} (next : S → E → S) (s : S) (xs ys : List E) →
    state_after next s (xs ++ ys) ≡ state_after next (state_after next s xs) ys
state_after-append next s [] ys = refl
state_after-append next s (x ∷ xs) ys = state_after-append next (next s x) xs ys

-- place by place, in both directions
pub Legal-at : {S E : Type 0} (May : S → E → Type 0) (next : S → E → S) (s : S) (ts : List E) → Legal May next s ts →
    (k : ℕ) (e : E) → slice_get ts k ≡ Some e → May (state_after next s (take k ts)) e
Legal-at May next s [] l k e h = absurd (cc)
Legal-at May next s (t ∷ ts) l zero e h = let same : t ≡ e = cc in subst (λ x. May s x) same l.0
Legal-at May next s (t ∷ ts) l (suc k) e h = Legal-at May next (next s t) ts l.1 k e h

pub Legal-from : {S E : Type 0} (May : S → E → Type 0) (next : S → E → S) (s : S) (ts : List E) →
    ((k : ℕ) (e : E) → slice_get ts k ≡ Some e → May (state_after next s (take k ts)) e) → Legal May next s ts
Legal-from May next s [] h = tt
Legal-from May next s (t ∷ ts) h = (h zero t refl, Legal-from May next (next s t) ts (λ k e g. h (suc k) e g))

-- what each entry keeps holds where they lead
pub Legal-keeps : {S E : Type 0} (May : S → E → Type 0) (next : S → E → S) (P : S → Type 0) →
    ((s : S) (e : E) → P s → May s e → P (next s e)) → (s : S) (es : List E) → P s → Legal May next s es → P (state_after next s es)
Legal-keeps May next P h s [] p l = p
Legal-keeps May next P h s (e ∷ es) p l = Legal-keeps May next P h (next s e) es (h s e p l.0) l.1
