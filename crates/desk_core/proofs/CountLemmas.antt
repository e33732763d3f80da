-- Counts of the commands in flight, where one changes.
use Rattle.std.proofs.Common.{◌≡◌, ℕ, zero, suc, ◌+◌, Bool, true, false, List, [], ◌∷◌, length, map, filter, Option, None, Some, refl, ap, ◌∙◌, subst, arith}
use Rattle.std.specs.Prelude.{slice_get, slice_set, if◌then◌else◌}
use Rattle.cmd_build.specs.declared.command.Command.{Command}
use Rattle.desk_trail.specs.Looks.{is_at}
use Rattle.desk_trail.specs.States.{CommandState, Selected, fresh_command}
use Rattle.desk_core.specs.Counts.{IsCounted, count_at, host_chosen, one_at}

-- how many pass behind a change of one
pub length-filter_set : {X : Type 0} (p : X → Bool) (xs : List X) (k : ℕ) (x y : X) → slice_get xs k ≡ Some x →
    length (filter p (slice_set xs k y)) + (if p x then 1 else 0) ≡ length (filter p xs) + (if p y then 1 else 0)
length-filter_set p [] k x y h = absurd (cc)
length-filter_set p (z ∷ zs) zero x y h =
    let is : z ≡ x = cc in
    subst (λ w. length (filter p (y ∷ zs)) + (if p w then 1 else 0) ≡ length (filter p (z ∷ zs)) + (if p y then 1 else 0)) is (heads (p z) (p y))
  where
    heads : (a b : Bool) → length (if b then y ∷ filter p zs else filter p zs) + (if a then 1 else 0) ≡ length (if a then z ∷ filter p zs else filter p zs) + (if b then 1 else 0)
    heads true true = refl
    heads true false = omega arith
    heads false true = omega arith
    heads false false = refl
length-filter_set p (z ∷ zs) (suc k) x y h = by (p z) (length-filter_set p zs k x y h)
  where
    by : (b : Bool) → length (filter p (slice_set zs k y)) + (if p x then 1 else 0) ≡ length (filter p zs) + (if p y then 1 else 0) →
        length (if b then z ∷ filter p (slice_set zs k y) else filter p (slice_set zs k y)) + (if p x then 1 else 0)
        ≡ length (if b then z ∷ filter p zs else filter p zs) + (if p y then 1 else 0)
    by true r = omega arith
    by false r = r

-- a command is at its server
pub one-at : (host : ℕ) (c : CommandState) → one_at host (host_chosen c) ≡ (if is_at host c then 1 else 0)
one-at host c = by c.selected
  where
    by : (o : Option Selected) → one_at host (host_chosen (record c { selected = o })) ≡ (if is_at host (record c { selected = o }) then 1 else 0)
    by None = refl
    by (Some s) = refl

-- the counts behind a change of one command
pub IsCounted-moved : (old new : List ℕ) (commands : List CommandState) (op : ℕ) (c d : CommandState) (before after : Option ℕ) → IsCounted old commands →
    slice_get commands op ≡ Some c → before ≡ host_chosen c → after ≡ host_chosen d →
    ((h : ℕ) → count_at new h + one_at h before ≡ count_at old h + one_at h after) → IsCounted new (slice_set commands op d)
IsCounted-moved old new commands op c d before after counted there was is moved = λ host.
    let a = length-filter_set (is_at host) commands op c d there in
    let b : one_at host before ≡ (if is_at host c then 1 else 0) = ap (one_at host) was ∙ one-at host c in
    let e : one_at host after ≡ (if is_at host d then 1 else 0) = ap (one_at host) is ∙ one-at host d in
    let m = moved host in
    let k = counted host in
    omega arith

-- at first none is in flight
pub IsCounted-none : (commands : List Command) → IsCounted [] (map fresh_command commands)
IsCounted-none [] host = refl
IsCounted-none (c ∷ cs) host = IsCounted-none cs host
