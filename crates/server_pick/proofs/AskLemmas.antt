-- A picker that is asked of candidates, one after another.
use Rattle.std.proofs.Common.{◌≡◌, ℕ, ◌+◌, ◌<◌, ◌≤◌, Bool, true, false, List, [], ◌∷◌, ◌++◌, refl, sym, ap, subst, ◌∙◌, arith, append_assoc, append-nil, length, map, drop}
use Rattle.std.proofs.lemmas.List.{drop_more, drop_all, length-append}
use Rattle.std.proofs.lemmas.List.Elements.{All-nil, All-cons, All-head, All-tail, All-append, All-same}
use Rattle.std.specs.List.{All, slice_index_or}
use Rattle.host_name.specs.Addresses.{Address}
use Rattle.server_pick.specs.Asked.{Asks, AsksFirst, kept_of}
use Rattle.server_pick.specs.Runs.{Runs, with_answer}
use Rattle.server_pick.specs.declared.candidate.Candidate.{Candidate}

abbrev pub hosts_of : List Candidate → List Address
hosts_of cs = map (λ (c : Candidate). c.host) cs

module _ {S : Type 0} (allows : S → Candidate → Bool) (follows : S → Candidate → S → Type 0) where
  -- so far a picker was asked of the candidates ahead of a place: those that it kept stand behind the rest, and what it does with
  -- the rest it does with all
  pub record Asking (first : S) (cs : List Candidate) (place : ℕ) (now : S) (items : List Candidate) : Type 0 where
    pub kept : List Candidate
    pub order : items ≡ drop place cs ++ kept
    pub rest : (ks : List Candidate) (q : S) → Asks allows follows now (drop place cs) ks q → Asks allows follows first cs (kept ++ ks) q

  pub asking_begins : (first : S) (cs items : List Candidate) → items ≡ cs → Asking first cs 0 first items
  asking_begins first cs items e = record { kept = []; order = e ∙ sym (append-nil cs); rest = λ ks q a. a }

  split_at : (cs : List Candidate) (place : ℕ) → place < length cs → (c : Candidate) × (drop place cs ≡ c ∷ drop (place + 1) cs)
  split_at [] place h = absurd (omega (arith, h))
  split_at (c ∷ cs) place h = (slice_index_or (c ∷ cs) place c, drop_more (c ∷ cs) place c h)

  some_left : (c : Candidate) (rest kept items : List Candidate) → items ≡ (c ∷ rest) ++ kept → 0 < length items
  some_left c rest kept items e = let n : length items ≡ length ((c ∷ rest) ++ kept) = ap length e in omega (arith, n)

  -- a candidate is left ahead of the end
  pub asking_left : (first : S) (cs : List Candidate) (place : ℕ) (now : S) (items : List Candidate) → Asking first cs place now items → place < length cs → 0 < length items
  asking_left first cs place now items so_far within =
      let split : (c : Candidate) × (drop place cs ≡ c ∷ drop (place + 1) cs) = split_at cs place within in
      some_left split.0 (drop (place + 1) cs) so_far.kept items (so_far.order ∙ ap (λ xs. xs ++ so_far.kept) split.1)

  pub asking_goes_on : (first : S) (cs : List Candidate) (place : ℕ) (now next : S) (items after : List Candidate)
      → Asking first cs place now items → place < length cs → AsksFirst allows follows now items after next
      → Asking first cs (place + 1) next after
  asking_goes_on first cs place now next items after so_far within asked =
      let split : (c : Candidate) × (drop place cs ≡ c ∷ drop (place + 1) cs) = split_at cs place within in
      by split.0 split.1 (subst (λ xs. AsksFirst allows follows now xs after next) (so_far.order ∙ ap (λ xs. xs ++ so_far.kept) split.1) asked)
    where
      by : (c : Candidate) → drop place cs ≡ c ∷ drop (place + 1) cs → AsksFirst allows follows now (c ∷ (drop (place + 1) cs ++ so_far.kept)) after next → Asking first cs (place + 1) next after
      by c here h = record {
        kept = so_far.kept ++ kept_of (allows now c) c;
        order = h.1 ∙ append_assoc (drop (place + 1) cs) so_far.kept (kept_of (allows now c) c);
        rest = λ ks q a. subst (λ xs. Asks allows follows first cs xs q) (sym (append_assoc so_far.kept (kept_of (allows now c) c) ks))
            (so_far.rest (kept_of (allows now c) c ++ ks) q (subst (λ xs. Asks allows follows now xs (kept_of (allows now c) c ++ ks) q) (sym here) (next, h.0, (ks, refl, a))));
      }

  pub asking_ends : (first : S) (cs : List Candidate) (place : ℕ) (now : S) (items kept : List Candidate) → Asking first cs place now items → length cs ≤ place → kept ≡ items → Asks allows follows first cs kept now
  asking_ends first cs place now items kept so_far past same =
      let none : drop place cs ≡ [] = drop_all place cs past in
      subst (λ xs. Asks allows follows first cs xs now) (append-nil so_far.kept ∙ sym (same ∙ so_far.order ∙ ap (λ xs. xs ++ so_far.kept) none))
      (so_far.rest [] now (subst (λ xs. Asks allows follows now xs [] now) (sym none) (refl, refl)))

  -- the hosts of what was kept are what a run keeps
  pub runs_of_asks : (p : S) (cs ks : List Candidate) (q : S) → Asks allows follows p cs ks q → Runs allows follows p cs (hosts_of ks) q
  runs_of_asks p [] ks q a = (ap hosts_of a.0, a.1)
  runs_of_asks p (c ∷ cs) ks q (r, step, (rest, kept, more)) =
      (r, step, (hosts_of rest, ap hosts_of kept ∙ by (allows p c), runs_of_asks r cs rest q more))
    where
      by : (b : Bool) → hosts_of (kept_of b c ++ rest) ≡ with_answer b c (hosts_of rest)
      by true = refl
      by false = refl

  -- what holds of all candidates holds of those that were kept
  pub all_of_asks : (P : Candidate → Type 0) (p : S) (cs ks : List Candidate) (q : S) → Asks allows follows p cs ks q → All P cs → All P ks
  all_of_asks P p [] ks q a h = All-same P ks [] a.0 (All-nil P)
  all_of_asks P p (c ∷ cs) ks q (r, step, (rest, kept, more)) h =
      All-same P ks _ kept (All-append P (kept_of (allows p c) c) rest (by (allows p c)) (all_of_asks P r cs rest q more (All-tail P c cs h)))
    where
      by : (b : Bool) → All P (kept_of b c)
      by true = All-cons P c [] (All-head P c cs h) (All-nil P)
      by false = All-nil P

  pub length_of_asks : (p : S) (cs ks : List Candidate) (q : S) → Asks allows follows p cs ks q → length ks ≤ length cs
  length_of_asks p [] ks q a = let e : length ks ≡ 0 = ap length a.0 in omega (arith, e)
  length_of_asks p (c ∷ cs) ks q (r, step, (rest, kept, more)) =
      let e : length ks ≡ length (kept_of (allows p c) c) + length rest = ap length kept ∙ length-append (kept_of (allows p c) c) rest in
      omega (arith, e, by (allows p c), length_of_asks r cs rest q more)
    where
      by : (b : Bool) → length (kept_of b c) ≤ 1
      by true = omega arith
      by false = omega arith
