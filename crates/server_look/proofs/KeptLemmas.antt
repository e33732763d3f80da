-- What a picker keeps of candidates.
use Rattle.std.proofs.Common.{◌≤◌, inl, inr, Bool, true, false, List, [], ◌∷◌, length, map, refl, sym, subst, arith}
use Rattle.std.proofs.lemmas.List.Elements.{All-cons, All-head, All-nil, All-tail}
use Rattle.std.specs.List.{All}
use Rattle.host_name.specs.Addresses.{Address}
use Rattle.server_pick.specs.Runs.{Runs, with_answer}
use Rattle.server_pick.specs.declared.candidate.Candidate.{Candidate}
use Rattle.desk_trail.specs.Looks.{IsKeptOf}

past : {A : Type 0} (ks xs : List A) (x : A) → IsKeptOf ks xs → IsKeptOf ks (x ∷ xs)
past [] xs x h = tt
past (k ∷ ks) xs x h = inr h

pub kept-fewer : {A : Type 0} (ks xs : List A) → IsKeptOf ks xs → length ks ≤ length xs
kept-fewer [] xs h = omega arith
kept-fewer (k ∷ ks) [] h = absurd h
kept-fewer (k ∷ ks) (x ∷ xs) (inl h) = omega (arith, kept-fewer ks xs h.1)
kept-fewer (k ∷ ks) (x ∷ xs) (inr h) = omega (arith, kept-fewer (k ∷ ks) xs h)

pub kept-all : {A : Type 0} (P : A → Type 0) (ks xs : List A) → IsKeptOf ks xs → All P xs → All P ks
kept-all P [] xs h a = All-nil P
kept-all P (k ∷ ks) [] h a = absurd h
kept-all P (k ∷ ks) (x ∷ xs) (inl h) a = All-cons P k ks (subst P (sym h.0) (All-head P x xs a)) (kept-all P ks xs h.1 (All-tail P x xs a))
kept-all P (k ∷ ks) (x ∷ xs) (inr h) a = kept-all P (k ∷ ks) xs h (All-tail P x xs a)

answered : (b : Bool) (c : Candidate) (rest : List Address) (cs : List Candidate) → IsKeptOf rest (map (λ (d : Candidate). d.host) cs) →
    IsKeptOf (with_answer b c rest) (map (λ (d : Candidate). d.host) (c ∷ cs))
answered true c rest cs h = inl (refl, h)
answered false c rest cs h = past rest (map (λ (d : Candidate). d.host) cs) c.host h

pub run-kept : {S : Type 0} (allows : S → Candidate → Bool) (follows : S → Candidate → S → Type 0) (p q : S) (cs : List Candidate) (kept : List Address) →
    Runs allows follows p cs kept q → IsKeptOf kept (map (λ (c : Candidate). c.host) cs)
run-kept allows follows p q [] kept (none, same) = subst (λ (ks : List Address). IsKeptOf ks []) (sym none) tt
run-kept allows follows p q (c ∷ cs) kept (r, step, (rest, is, more)) =
    subst (λ (ks : List Address). IsKeptOf ks (map (λ (d : Candidate). d.host) (c ∷ cs))) (sym is)
    (answered (allows p c) c rest cs (run-kept allows follows r q cs rest more))
