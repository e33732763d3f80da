-- The checks that must begin, as they are found and as they begin.
use Rattle.std.proofs.Common.{◌≡◌, ◌≤◌, ◌<◌, ℕ, zero, suc, ◌+◌, Bool, true, false, List, [], ◌∷◌, ◌++◌, map, length, Some, refl, sym, ap, ◌∙◌, subst, arith, append_assoc}
use Rattle.std.specs.Prelude.{slice_get, if◌then◌else◌}
use Rattle.std.proofs.Math.ListN.{drop, get_or}
use Rattle.std.proofs.lemmas.List.{append-nil, map-append}
use Rattle.desk_trail.specs.Checks.{due_from, is_due}
use Rattle.desk_trail.specs.Owed.{Owed}
use Rattle.desk_trail.specs.Owed as owed
use Rattle.desk_trail.specs.States.{ServerState}
use Rattle.desk_core.specs.Kept.{IsWriting}
use Rattle.desk_core.specs.State.{Core}

-- the owed entries by which these checks begin
abbrev pub begun : List ℕ → List Owed
begun hosts = map (λ (x : ℕ). owed.Begun x) hosts

-- so many of the servers were looked at, and these are the ones so far of which one is due
pub record IsFound (servers : List ServerState) (moment place : ℕ) (hosts : List ℕ) : Type 0 where
  pub within : place ≤ length servers
  pub found : begun hosts ++ due_from place moment (drop place servers) ≡ due_from 0 moment servers

pub IsFound-start : (servers : List ServerState) (moment : ℕ) → IsFound servers moment 0 []
IsFound-start servers moment = record { within = omega arith; found = refl }

drop-one : (ss : List ServerState) (k : ℕ) (s : ServerState) → slice_get ss k ≡ Some s → drop k ss ≡ s ∷ drop (suc k) ss
drop-one [] k s there = absurd (cc)
drop-one (z ∷ zs) zero s there = let is : z ≡ s = (cc) in ap (λ u. u ∷ zs) is
drop-one (z ∷ zs) (suc k) s there = drop-one zs k s there

-- the server at the place is looked at
due-one : (ss : List ServerState) (moment k : ℕ) (s : ServerState) → slice_get ss k ≡ Some s →
    due_from k moment (drop k ss) ≡ (if is_due moment s then owed.Begun k ∷ due_from (k + 1) moment (drop (k + 1) ss) else due_from (k + 1) moment (drop (k + 1) ss))
due-one ss moment k s there =
    let e : suc k ≡ k + 1 = omega arith in
    ap (λ (ts : List ServerState). due_from k moment ts) (drop-one ss k s there ∙ ap (λ n. s ∷ drop n ss) e)

pub IsFound-due : (ss : List ServerState) (moment k : ℕ) (s : ServerState) (hosts : List ℕ) → slice_get ss k ≡ Some s → k < length ss → is_due moment s ≡ true →
    IsFound ss moment k hosts → IsFound ss moment (k + 1) (hosts ++ k ∷ [])
IsFound-due ss moment k s hosts there below due f =
    let rest : List Owed = due_from (k + 1) moment (drop (k + 1) ss) in
    record {
      within = omega arith;
      found =
          ap (λ ds. ds ++ rest) (map-append (λ (x : ℕ). owed.Begun x) hosts (k ∷ [])) ∙ append_assoc (begun hosts) (owed.Begun k ∷ []) rest
          ∙ ap (λ ds. begun hosts ++ ds) (sym (due-one ss moment k s there ∙ ap (λ (b : Bool). if b then owed.Begun k ∷ rest else rest) due))
          ∙ f.found;
    }

pub IsFound-other : (ss : List ServerState) (moment k : ℕ) (s : ServerState) (hosts : List ℕ) → slice_get ss k ≡ Some s → k < length ss → is_due moment s ≡ false →
    IsFound ss moment k hosts → IsFound ss moment (k + 1) hosts
IsFound-other ss moment k s hosts there below due f =
    let rest : List Owed = due_from (k + 1) moment (drop (k + 1) ss) in
    record {
      within = omega arith;
      found =
          ap (λ ds. begun hosts ++ ds) (sym (due-one ss moment k s there ∙ ap (λ (b : Bool). if b then owed.Begun k ∷ rest else rest) due))
          ∙ f.found;
    }

drop-all : (ss : List ServerState) (k : ℕ) → length ss ≤ k → drop k ss ≡ []
drop-all [] zero h = refl
drop-all [] (suc k) h = refl
drop-all (z ∷ zs) zero h = absurd (omega arith)
drop-all (z ∷ zs) (suc k) h = drop-all zs k (omega arith)

pub IsFound-all : (ss : List ServerState) (moment k : ℕ) (hosts : List ℕ) → length ss ≤ k → IsFound ss moment k hosts → begun hosts ≡ due_from 0 moment ss
IsFound-all ss moment k hosts all f =
    sym (append-nil (begun hosts)) ∙ ap (λ (ts : List ServerState). begun hosts ++ due_from k moment ts) (sym (drop-all ss k all)) ∙ f.found

-- ---- They begin one after another

drop-host : (hosts : List ℕ) (k x : ℕ) → slice_get hosts k ≡ Some x → drop k hosts ≡ x ∷ drop (suc k) hosts
drop-host [] k x there = absurd (cc)
drop-host (z ∷ zs) zero x there = let is : z ≡ x = (cc) in ap (λ u. u ∷ zs) is
drop-host (z ∷ zs) (suc k) x there = drop-host zs k x there

pub begun-one : (hosts : List ℕ) (k x : ℕ) → slice_get hosts k ≡ Some x → begun (drop k hosts) ≡ owed.Begun x ∷ begun (drop (k + 1) hosts)
begun-one hosts k x there = let e : suc k ≡ k + 1 = omega arith in ap begun (drop-host hosts k x there ∙ ap (λ n. x ∷ drop n hosts) e)

pub host-at : (hosts : List ℕ) (k : ℕ) → k < length hosts → slice_get hosts k ≡ Some (get_or hosts k 0)
host-at [] k below = absurd (omega arith)
host-at (z ∷ zs) zero below = refl
host-at (z ∷ zs) (suc k) below = host-at zs k (omega arith)

drop-hosts : (hosts : List ℕ) (k : ℕ) → length hosts ≤ k → drop k hosts ≡ []
drop-hosts [] zero h = refl
drop-hosts [] (suc k) h = refl
drop-hosts (z ∷ zs) zero h = absurd (omega arith)
drop-hosts (z ∷ zs) (suc k) h = drop-hosts zs k (omega arith)

pub begun-all : (hosts : List ℕ) (k : ℕ) → length hosts ≤ k → begun (drop k hosts) ≡ []
begun-all hosts k all = ap begun (drop-hosts hosts k all)

pub IsWriting-as : {N : Type 0} (d : Core N) (moment n : ℕ) (xs ys : List Owed) → xs ≡ ys → IsWriting d moment n xs → IsWriting d moment n ys
IsWriting-as d moment n xs ys e w = subst (λ (ds : List Owed). IsWriting d moment n ds) e w
