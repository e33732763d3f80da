-- Steps of a reading, one after another: what a fault and an Ok say of them.
use Rattle.std.proofs.Common.{◌≡◌, ◌≢◌, Bool, true, false, cond, Option, Some, None, Result, Ok, Err, IfErr, refl, inl, inr, ◌⊎◌}
use Rattle.bson_doc.specs.Steps.{◌>>=◌, or_fault, fault_of, Fails}

-- ---- a fault

-- a fault stops what would follow
pub Fails-bind : {E A B : Type 0} (m e : E) (r : Result A E) (f : A → Result B E) → Fails m e r → Fails m e (r >>= f)
Fails-bind m e r f (inl h) = inl h
Fails-bind m e r f (inr h) = inr (rw h refl)

abbrev pub mapped : {E A B : Type 0} → (A → B) → Result A E → Result B E
mapped g r = r >>= (λ x. Ok (g x))

-- the same the other way round, where what follows does not fail
pub mapped-Err : {E A B : Type 0} (g : A → B) (e : E) (r : Result A E) → mapped g r ≡ Err e → r ≡ Err e
mapped-Err g e (Ok x) h = absurd cc
mapped-Err g e (Err d) h = cc

pub Fails-mapped : {E A B : Type 0} (g : A → B) (m e : E) (r : Result A E) → Fails m e (mapped g r) → Fails m e r
Fails-mapped g m e r (inl h) = inl h
Fails-mapped g m e r (inr h) = inr (mapped-Err g e r h)

pub err_ok : {E A : Type 0} {e : E} {x : A} → Err e ≡ Ok x → ⊥
err_ok h = cc

-- an Ok is read where memory alone was wanting
pub Fails-Ok : {E A : Type 0} (m e : E) (r : Result A E) (x : A) → Fails m e r → r ≡ Ok x → e ≡ m
Fails-Ok m e r x (inl h) k = h
Fails-Ok m e r x (inr h) k = absurd cc

-- else the fault itself
pub Fails-Err : {E A : Type 0} (m e : E) (r : Result A E) → Fails m e r → e ≢ m → r ≡ Err e
Fails-Err m e r (inl h) other = absurd (other h)
Fails-Err m e r (inr h) other = h

pub err_from_fault : {E A : Type 0} (r : Result A E) (e : E) → fault_of r ≡ Some e → r ≡ Err e
err_from_fault (Ok x) e h = absurd cc
err_from_fault (Err f) e h = cc

pub err_same : {E A : Type 0} (r : Result A E) (e f : E) → r ≡ Err e → r ≡ Err f → e ≡ f
err_same r e f p q = cc

-- ---- a fact of all faults of the steps is one of the faults of the whole

pub IfErr-bind : {E A B : Type 0} (P : E → Type 0) (r : Result A E) (f : A → Result B E) → IfErr r P → ((x : A) → IfErr (f x) P) → IfErr (r >>= f) P
IfErr-bind P (Ok x) f first rest = rest x
IfErr-bind P (Err e) f first rest = first

pub IfErr-cond : {E A : Type 0} (P : E → Type 0) (b : Bool) (r s : Result A E) → IfErr r P → IfErr s P → IfErr (cond b r s) P
IfErr-cond P true r s first second = first
IfErr-cond P false r s first second = second

pub IfErr-or_fault : {E A : Type 0} (P : E → Type 0) (f : E) (o : Option A) → P f → IfErr (or_fault f o) P
IfErr-or_fault P f None h = h
IfErr-or_fault P f (Some x) h = tt

-- ---- an Ok

abbrev done : {E A : Type 0} → A → Result A E
done x = Ok x

pub ok_is : {E A : Type 0} (x y : A) → done {E = E} x ≡ done {E = E} y → x ≡ y
ok_is x y e = cc

-- the value of a step that did not fail
pub bind_ok : {E A B : Type 0} (r : Result A E) (f : A → Result B E) (y : B) → (r >>= f) ≡ Ok y → (x : A) × (r ≡ Ok x) × (f x ≡ Ok y)
bind_ok (Ok x) f y e = (x, refl, e)
bind_ok (Err d) f y e = absurd cc

pub mapped-Ok : {E A B : Type 0} (g : A → B) (r : Result A E) (y : B) → mapped g r ≡ Ok y → (x : A) × (r ≡ Ok x) × (g x ≡ y)
mapped-Ok {E = E} g (Ok x) y h = (x, refl, ok_is {E = E} (g x) y h)
mapped-Ok g (Err d) y h = absurd cc

-- a reading that goes on with nothing
pub bind-Ok : {E A : Type 0} (r : Result A E) → (r >>= (λ x. Ok x)) ≡ r
bind-Ok (Ok x) = refl
bind-Ok (Err d) = refl

pub or_fault-Ok : {E A : Type 0} (f : E) (o : Option A) (x : A) → or_fault f o ≡ Ok x → o ≡ Some x
or_fault-Ok f None x h = absurd cc
or_fault-Ok f (Some y) x h = cc

-- ---- tests

-- a test that did not stop what follows
pub err_or : {E A : Type 0} (b : Bool) (d : E) (r : Result A E) (y : A) → cond b (Err d) r ≡ Ok y → (b ≡ false) × (r ≡ Ok y)
err_or true d r y e = absurd cc
err_or false d r y e = (refl, e)

-- a test that did not fail, and one that passed
pub guard_ok : {E A : Type 0} (b : Bool) (d : E) (x y : A) → cond b (Err d) (Ok x) ≡ Ok y → (b ≡ false) × (x ≡ y)
guard_ok true d x y e = absurd cc
guard_ok false d x y e = (refl, cc)

pub pass_ok : {E A : Type 0} (b : Bool) (d : E) (x y : A) → cond b (Ok x) (Err d) ≡ Ok y → (b ≡ true) × (x ≡ y)
pass_ok true d x y e = (refl, cc)
pass_ok false d x y e = absurd cc

-- one of two ways was taken
pub either_ok : {E A : Type 0} (b : Bool) (r s : Result A E) (y : A) → cond b r s ≡ Ok y → ((b ≡ true) × (r ≡ Ok y)) ⊎ ((b ≡ false) × (s ≡ Ok y))
either_ok true r s y h = inl (refl, h)
either_ok false r s y h = inr (refl, h)
