-- Lists that are compared item by item.
use Rattle.std.proofs.Common.{◌≡◌, ℕ, ◌+◌, ◌<◌, ◌≤◌, Bool, true, false, cond, not, ◌&&◌, if◌then◌else◌, List, [], ◌∷◌, ◌++◌, Option, None, Some, is_some, refl, sym, ap, subst, ◌∙◌, arith, append-nil, filter, length, slice_get, take, take_all, get_or, true≢false, zero, suc}
use Rattle.std.proofs.lemmas.List.{get_or-map, length-map, take_more}
use Rattle.std.proofs.lemmas.List.Elements.{filter-append}
use Rattle.std.proofs.lemmas.Map.Entries.{length-keys_of}
use Rattle.std.proofs.lemmas.Option.{get_or_from_slice_get, slice_get_within}
use Rattle.std.specs.Cmp.Lexicographic.{pointwise}
use Rattle.std.specs.FinMap as map
use Rattle.std.specs.Option.{option_map_or}
use Rattle.hello_reply.specs.declared.server_description.ServerDescription.{ServerDescription}
use Rattle.topo_rules.specs.Changes.{meanless, plain}
use Rattle.topo_rules.specs.Maps.{ServerMap}
use Rattle.host_name.specs.Addresses.{Address, is_same_address, is_same_address-true, is_same_address-same}

first_true : (a b : Bool) → (a && b) ≡ true → a ≡ true
first_true true b h = refl
first_true false b h = h

second_true : (a b : Bool) → (a && b) ≡ true → b ≡ true
second_true true b h = h
second_true false b h = absurd (true≢false (sym h))

pub same_hosts : (xs ys : List Address) → pointwise is_same_address xs ys ≡ true → xs ≡ ys
same_hosts [] [] h = refl
same_hosts [] (y ∷ ys) h = absurd (true≢false (sym h))
same_hosts (x ∷ xs) [] h = absurd (true≢false (sym h))
same_hosts (x ∷ xs) (y ∷ ys) h =
    let head : x ≡ y = is_same_address-true x y (first_true (is_same_address x y) (pointwise is_same_address xs ys) h) in
    let rest : xs ≡ ys = same_hosts xs ys (second_true (is_same_address x y) (pointwise is_same_address xs ys) h) in
    λ i. head i ∷ rest i

alike_hosts : (xs : List Address) → pointwise is_same_address xs xs ≡ true
alike_hosts [] = refl
alike_hosts (x ∷ xs) = λ i. is_same_address-same x x refl i && alike_hosts xs i

pub hosts_same : (xs ys : List Address) → xs ≡ ys → pointwise is_same_address xs ys ≡ true
hosts_same xs ys e = ap (λ zs. pointwise is_same_address xs zs) (sym e) ∙ alike_hosts xs

pub none_past : {A : Type 0} (xs : List A) (i : ℕ) → slice_get xs i ≡ None → length xs ≤ i
none_past [] i e = omega arith
none_past (x ∷ xs) zero e = absurd (true≢false (ap is_some e))
none_past (x ∷ xs) (suc i) e = let h : length xs ≤ i = none_past xs i e in omega arith

-- two lists that agree as far as a place, and there
pub take_same : {X : Type 0} (xs ys : List X) (i : ℕ) → slice_get xs i ≡ slice_get ys i → take i xs ≡ take i ys → take (i + 1) xs ≡ take (i + 1) ys
take_same {X} xs ys i at before = by (slice_get xs i) refl
  where
    by : (o : Option X) → slice_get xs i ≡ o → take (i + 1) xs ≡ take (i + 1) ys
    by None e =
        let a : length xs ≤ i = none_past xs i e in
        let b : length ys ≤ i = none_past ys i (sym at ∙ e) in
        take_all (i + 1) xs (omega arith) ∙ sym (take_all i xs a) ∙ before ∙ take_all i ys b ∙ sym (take_all (i + 1) ys (omega arith))
    by (Some x) e =
        take_more xs i x (slice_get_within xs i x e)
        ∙ ap (λ z. take i xs ++ z ∷ []) (get_or_from_slice_get xs i x x e ∙ sym (get_or_from_slice_get ys i x x (sym at ∙ e)))
        ∙ ap (λ zs. zs ++ get_or ys i x ∷ []) before ∙ sym (take_more ys i x (slice_get_within ys i x (sym at ∙ e)))

pub whole_same : {X : Type 0} (xs ys : List X) (i : ℕ) → length xs ≤ i → length ys ≤ i → take i xs ≡ take i ys → xs ≡ ys
whole_same xs ys i a b e = sym (take_all i xs a) ∙ e ∙ take_all i ys b

pub len-plain : (m : ServerMap) → map.len m ≡ length (plain m)
len-plain m = map.len-entries m ∙ sym (length-map (map.entries m) (λ (e : Address × ServerDescription). let x : Address × ServerDescription = (e.0, meanless e.1) in x))

-- one more host of the map, kept where the other map has it not
pub beyond-more : (m other : ServerMap) (i : ℕ) (hosts : List Address) → hosts ≡ filter (λ x. not (is_some (map.get other x))) (take i (map.keys m))
    → option_map_or (λ e. if is_some (map.get other e.0) then hosts else hosts ++ e.0 ∷ []) (slice_get (map.entries m) i) hosts ≡ filter (λ x. not (is_some (map.get other x))) (take (i + 1) (map.keys m))
beyond-more m other i hosts so_far = by (slice_get (map.entries m) i) refl
  where
    p : Address → Bool
    p x = not (is_some (map.get other x))

    kept : (b : Bool) (x : Address) → (if b then hosts else hosts ++ x ∷ []) ≡ hosts ++ cond (not b) (x ∷ []) []
    kept true x = sym (append-nil hosts)
    kept false x = refl

    by : (o : Option (Address × ServerDescription)) → slice_get (map.entries m) i ≡ o
        → option_map_or (λ e. if is_some (map.get other e.0) then hosts else hosts ++ e.0 ∷ []) o hosts ≡ filter p (take (i + 1) (map.keys m))
    by None e =
        let past : length (map.keys m) ≤ i = omega (arith, length-keys_of (map.entries m), none_past (map.entries m) i e) in
        so_far ∙ ap (filter p) (take_all i (map.keys m) past ∙ sym (take_all (i + 1) (map.keys m) (omega arith)))
    by (Some e) at =
        let within : i < length (map.entries m) = slice_get_within (map.entries m) i e at in
        let key : get_or (map.keys m) i e.0 ≡ e.0 = get_or-map (λ (e : Address × ServerDescription). e.0) (map.entries m) i e e.0 within ∙ ap (λ (e : Address × ServerDescription). e.0) (get_or_from_slice_get (map.entries m) i e e at) in
        let more : take (i + 1) (map.keys m) ≡ take i (map.keys m) ++ e.0 ∷ [] = take_more (map.keys m) i e.0 (subst (λ n. i < n) (sym (length-keys_of (map.entries m))) within) ∙ ap (λ z. take i (map.keys m) ++ z ∷ []) key in
        kept (is_some (map.get other e.0)) e.0 ∙ ap (λ hs. hs ++ filter p (e.0 ∷ [])) so_far
        ∙ sym (ap (filter p) more ∙ filter-append p (take i (map.keys m)) (e.0 ∷ []))
