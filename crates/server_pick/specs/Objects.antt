-- States of an object that is known by its trait alone.
use Rattle.std.specs.Prelude.{◌≡◌}
use Rattle.std.specs.declared.dyn_box.DynBox.{DynBox}
use Rattle.server_pick.specs.declared.candidate.Candidate.{Candidate}

-- The object stays one of its type, and a state follows that may.
abbrev pub Stays : {V : Type 0} {D : V → Type 0} → ((p : (v : V) × D v) → Candidate → D p.0 → Type 0) → ((v : V) × D v) → Candidate → ((v : V) × D v) → Type 0
Stays {V} {D} follows p c q = (d : D p.0) × follows p c d × (q ≡ (p.0, d))

-- What a box of an object holds: the object's type, and its state.
abbrev pub held : {V : Type 0} {A : Type 0} {D : V → Type 0} → DynBox V A D → (v : V) × D v
held b = (b.vtable, b.value)
