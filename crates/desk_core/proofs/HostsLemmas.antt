-- Hosts are named, and leave, one by one: what stands ahead of each.
use Rattle.std.proofs.Common.{◌≡◌, ◌≤◌, ◌<◌, ℕ, zero, suc, ◌+◌, ◌*◌, Bool, true, false, ◌||◌, List, [], ◌∷◌, ◌++◌, map, length, take, drop, get_or, Option, None, Some, refl, sym, ap, ◌∙◌, subst, append_assoc, arith}
use Rattle.std.specs.List.{AllByRecursion, IsDistinct, cons_option, filter_map, list_any}
use Rattle.std.specs.Option.{option_to_list}
use Rattle.std.proofs.lemmas.List.{append-nil, at_drop_all, drop_more, take_all, take_more}
use Rattle.std.proofs.lemmas.List.Folds.{list_any-append}
use Rattle.std.proofs.lemmas.Map.Keys.{IsDistinct-head, IsDistinct-tail}
use Rattle.host_name.specs.Addresses.{Address, is_same_address}
use Rattle.desk_trail.specs.Owed.{Owed}
use Rattle.desk_trail.specs.Owed as owed
use Rattle.desk_trail.specs.States.{ClientState, number_of}
use Rattle.desk_core.specs.Appends.{AppendsAside}
use Rattle.desk_core.specs.Follows.{IsNone}
use Rattle.desk_core.specs.Kept.{IsWriting}
use Rattle.desk_core.specs.Rests.{KeepsChecks}
use Rattle.desk_core.specs.Servers.{IsUntouched, TouchesOnly}
use Rattle.desk_core.specs.State.{Core}
use Rattle.desk_core.proofs.AppendsLemmas.{Appends-refl, Appends-trans}
use Rattle.desk_core.proofs.RestLemmas.{KeepsChecks-refl, KeepsChecks-trans}
use Rattle.desk_core.proofs.ServerLemmas.{IsUntouched-refl, IsUntouched-trans}

-- ---- Lists

-- the next of them, and those behind it
drop-next : {A : Type 0} (xs : List A) (k : ℕ) (x : A) → k < length xs → x ≡ get_or xs k x → drop k xs ≡ x ∷ drop (k + 1) xs
drop-next xs k x below read = drop_more xs k x below ∙ ap (λ y. y ∷ drop (k + 1) xs) (sym read)

take-next : {A : Type 0} (xs : List A) (k : ℕ) (x : A) → k < length xs → x ≡ get_or xs k x → take (k + 1) xs ≡ take k xs ++ x ∷ []
take-next xs k x below read = take_more xs k x below ∙ ap (λ y. take k xs ++ y ∷ []) (sym read)

-- neither of two tests passes
record IsNeither (a b : Bool) : Type 0 where
  first : a ≡ false
  second : b ≡ false

neither : (a b : Bool) → (a || b) ≡ false → IsNeither a b
neither true b h = absurd (cc)
neither false b h = record { first = refl; second = h }

or-false : (b : Bool) → (b || false) ≡ b
or-false true = refl
or-false false = refl

none-next : (a x : Address) (hosts : List Address) (k : ℕ) → k < length hosts → x ≡ get_or hosts k x → IsNone a (take (k + 1) hosts) →
    IsNeither (list_any (λ h. is_same_address h a) (take k hosts)) (is_same_address x a)
none-next a x hosts k below read h =
    let p : Address → Bool = λ y. is_same_address y a in
    let both : (list_any p (take k hosts) || (p x || false)) ≡ false =
    sym (list_any-append p (take k hosts) (x ∷ [])) ∙ ap (list_any p) (sym (take-next hosts k x below read)) ∙ h in
    neither (list_any p (take k hosts)) (p x) (ap (λ b. list_any p (take k hosts) || b) (sym (or-false (p x))) ∙ both)

-- ---- What is written

pub IsWriting-as : {N : Type 0} (d : Core N) (moment m n : ℕ) (os ps : List Owed) → m ≡ n → os ≡ ps → IsWriting d moment m os → IsWriting d moment n ps
IsWriting-as {N} d moment m n os ps e f w =
    subst (λ (i : ℕ). IsWriting d moment i ps) e (subst (λ (qs : List Owed). IsWriting d moment m qs) f w)

pub IsWriting-fewer : {N : Type 0} (d : Core N) (moment m n : ℕ) (os : List Owed) → n ≤ m → IsWriting d moment m os → IsWriting d moment n os
IsWriting-fewer {N} d moment m n os less w =
    let space = w.space in record { runs = w.runs; owes = w.owes; at = w.at; now = w.now; space = omega arith }

-- ---- Hosts are named

abbrev names_owed : List Address → List Owed
names_owed hosts = map (λ h. owed.Named h) hosts

-- so many of the hosts are named, and the others must be next
pub record AreNamed {N : Type 0} (moment : ℕ) (old new : Core N) (hosts : List Address) (k : ℕ) : Type 0 where
  pub writes : (rest : List Owed) (n : ℕ) → IsWriting old moment (n + 2 * length hosts) (map (λ h. owed.Named h) hosts ++ rest) →
      IsWriting new moment (n + 2 * length (drop k hosts)) (map (λ h. owed.Named h) (drop k hosts) ++ rest)
  pub others : (a : Address) → IsNone a (take k hosts) → IsUntouched old.trail.point.state new.trail.point.state a
  pub checks : KeepsChecks old.trail.point.state new.trail.point.state
  pub names : new.trail.lists.names ≡ old.trail.lists.names ++ take k hosts
  pub appends : AppendsAside ⊥ moment old.trail new.trail

pub AreNamed-start : {N : Type 0} (moment : ℕ) (d : Core N) (hosts : List Address) → AreNamed moment d d hosts 0
AreNamed-start {N} moment d hosts = record {
  writes = λ rest n w. w;
  others = λ a h. IsUntouched-refl d.trail.point.state d.trail.point.state a refl;
  checks = KeepsChecks-refl d.trail.point.state;
  names = sym (append-nil d.trail.lists.names);
  appends = Appends-refl moment d.trail;
}

pub AreNamed-writes : {N : Type 0} (moment : ℕ) (old new : Core N) (hosts : List Address) (k : ℕ) (x : Address) (rest : List Owed) (n : ℕ) →
    AreNamed moment old new hosts k → k < length hosts → x ≡ get_or hosts k x → IsWriting old moment (n + 2 * length hosts) (map (λ h. owed.Named h) hosts ++ rest) →
    IsWriting new moment (n + 2 * length (drop (k + 1) hosts) + 2) (owed.Named x ∷ (map (λ h. owed.Named h) (drop (k + 1) hosts) ++ rest))
AreNamed-writes {N} moment old new hosts k x rest n named below read w =
    let next = drop-next hosts k x below read in
    let count = ap (λ (hs : List Address). length hs) next in
    IsWriting-as new moment (n + 2 * length (drop k hosts)) (n + 2 * length (drop (k + 1) hosts) + 2) (names_owed (drop k hosts) ++ rest)
    (owed.Named x ∷ (names_owed (drop (k + 1) hosts) ++ rest)) (omega arith) (ap (λ (hs : List Address). names_owed hs ++ rest) next) (named.writes rest n w)

pub AreNamed-next : {N : Type 0} (moment : ℕ) (old new now : Core N) (hosts : List Address) (k : ℕ) (x : Address) → AreNamed moment old new hosts k → k < length hosts →
    x ≡ get_or hosts k x → ((rest : List Owed) (n : ℕ) → IsWriting new moment (n + 2) (owed.Named x ∷ rest) → IsWriting now moment n rest) →
    TouchesOnly x new.trail.point.state now.trail.point.state → KeepsChecks new.trail.point.state now.trail.point.state →
    now.trail.lists.names ≡ new.trail.lists.names ++ x ∷ [] → AppendsAside ⊥ moment new.trail now.trail → AreNamed moment old now hosts (k + 1)
AreNamed-next {N} moment old new now hosts k x named below read writes others checks names appends = record {
  writes = λ rest n w.
      writes (names_owed (drop (k + 1) hosts) ++ rest) (n + 2 * length (drop (k + 1) hosts))
      (AreNamed-writes moment old new hosts k x rest n named below read w);
  others = λ a h.
      let neither = none-next a x hosts k below read h in
      IsUntouched-trans old.trail.point.state new.trail.point.state now.trail.point.state a (named.others a neither.first) (others a neither.second);
  checks = KeepsChecks-trans old.trail.point.state new.trail.point.state now.trail.point.state named.checks checks;
  names =
      names ∙ ap (λ l. l ++ x ∷ []) named.names ∙ append_assoc old.trail.lists.names (take k hosts) (x ∷ [])
      ∙ ap (λ l. old.trail.lists.names ++ l) (sym (take-next hosts k x below read));
  appends = Appends-trans moment old.trail new.trail now.trail named.appends appends;
}

-- all of them are
pub record AllNamed {N : Type 0} (moment : ℕ) (old new : Core N) (hosts : List Address) : Type 0 where
  pub writes : (rest : List Owed) (n : ℕ) → IsWriting old moment (n + 2 * length hosts) (map (λ h. owed.Named h) hosts ++ rest) → IsWriting new moment n rest
  pub others : (a : Address) → IsNone a hosts → IsUntouched old.trail.point.state new.trail.point.state a
  pub names : new.trail.lists.names ≡ old.trail.lists.names ++ hosts
  pub appends : AppendsAside ⊥ moment old.trail new.trail

pub AllNamed-end : {N : Type 0} (moment : ℕ) (old new : Core N) (hosts : List Address) (k : ℕ) → length hosts ≤ k → AreNamed moment old new hosts k →
    AllNamed moment old new hosts
AllNamed-end {N} moment old new hosts k past named =
    let all : take k hosts ≡ hosts = take_all k hosts past in
    record {
      writes = λ rest n w.
          let none : length (drop k hosts) ≡ 0 = at_drop_all (λ (hs : List Address). length hs) hosts k past in
          IsWriting-as new moment (n + 2 * length (drop k hosts)) n (names_owed (drop k hosts) ++ rest) rest (omega arith)
          (at_drop_all (λ (hs : List Address). names_owed hs ++ rest) hosts k past) (named.writes rest n w);
      others = λ a h. named.others a (ap (λ (hs : List Address). list_any (λ y. is_same_address y a) hs) all ∙ h);
      names = named.names ∙ ap (λ l. old.trail.lists.names ++ l) all;
      appends = named.appends;
    }

-- ---- Hosts leave

-- none ahead of one is the same, where all are others each
at-place : {A : Type 0} (P : A → Type 0) (xs : List A) (k : ℕ) (x : A) → k < length xs → x ≡ get_or xs k x → AllByRecursion P xs → P x
at-place P [] k x below read h = absurd (omega arith)
at-place P (y ∷ ys) zero x below read h = subst P (sym read) h.0
at-place P (y ∷ ys) (suc k) x below read h = at-place P ys k x (omega arith) read h.1

pub none-ahead : (hosts : List Address) (k : ℕ) (x : Address) → IsDistinct is_same_address hosts → k < length hosts → x ≡ get_or hosts k x → IsNone x (take k hosts)
none-ahead [] k x differ below read = absurd (omega arith)
none-ahead (y ∷ ys) zero x differ below read = refl
none-ahead (y ∷ ys) (suc k) x differ below read =
    let here : is_same_address y x ≡ false = at-place (λ z. is_same_address y z ≡ false) ys k x (omega arith) read (IsDistinct-head is_same_address y ys differ) in
    let others : list_any (λ h. is_same_address h x) (take k ys) ≡ false = none-ahead ys k x (IsDistinct-tail is_same_address y ys differ) (omega arith) read in
    ap (λ b. b || list_any (λ h. is_same_address h x) (take k ys)) here ∙ others

abbrev drops_owed : ClientState → List Address → List Owed
drops_owed w hosts = map (λ x. owed.Dropped x) (filter_map (number_of w) hosts)

drops-cons : (o : Option ℕ) (numbers : List ℕ) (rest : List Owed) →
    map (λ x. owed.Dropped x) (cons_option o numbers) ++ rest ≡ map (λ x. owed.Dropped x) (option_to_list o) ++ (map (λ x. owed.Dropped x) numbers ++ rest)
drops-cons None numbers rest = refl
drops-cons (Some x) numbers rest = refl

-- so many of the hosts left, and the others must be next
pub record AreDropped {N : Type 0} (moment : ℕ) (old new : Core N) (hosts : List Address) (k : ℕ) : Type 0 where
  pub writes : (rest : List Owed) (n : ℕ) →
      IsWriting old moment (n + length hosts) (map (λ x. owed.Dropped x) (filter_map (number_of old.trail.point.state) hosts) ++ rest) →
      IsWriting new moment (n + length (drop k hosts)) (map (λ x. owed.Dropped x) (filter_map (number_of old.trail.point.state) (drop k hosts)) ++ rest)
  pub others : (a : Address) → IsNone a (take k hosts) → IsUntouched old.trail.point.state new.trail.point.state a
  pub checks : KeepsChecks old.trail.point.state new.trail.point.state
  pub names : new.trail.lists.names ≡ old.trail.lists.names
  pub appends : AppendsAside ⊥ moment old.trail new.trail

pub AreDropped-start : {N : Type 0} (moment : ℕ) (d : Core N) (hosts : List Address) → AreDropped moment d d hosts 0
AreDropped-start {N} moment d hosts = record {
  writes = λ rest n w. w;
  others = λ a h. IsUntouched-refl d.trail.point.state d.trail.point.state a refl;
  checks = KeepsChecks-refl d.trail.point.state;
  names = refl;
  appends = Appends-refl moment d.trail;
}

pub AreDropped-writes : {N : Type 0} (moment : ℕ) (old new : Core N) (hosts : List Address) (k : ℕ) (x : Address) (rest : List Owed) (n : ℕ) →
    IsDistinct is_same_address hosts → AreDropped moment old new hosts k → k < length hosts → x ≡ get_or hosts k x →
    IsWriting old moment (n + length hosts) (map (λ y. owed.Dropped y) (filter_map (number_of old.trail.point.state) hosts) ++ rest) →
    IsWriting new moment (n + length (drop (k + 1) hosts) + 1)
    (map (λ y. owed.Dropped y) (option_to_list (number_of new.trail.point.state x))
    ++ (map (λ y. owed.Dropped y) (filter_map (number_of old.trail.point.state) (drop (k + 1) hosts)) ++ rest))
AreDropped-writes {N} moment old new hosts k x rest n differ dropped below read w =
    let v = old.trail.point.state in
    let left = drop (k + 1) hosts in
    let next = drop-next hosts k x below read in
    let count = ap (λ (hs : List Address). length hs) next in
    let number : number_of new.trail.point.state x ≡ number_of v x = (dropped.others x (none-ahead hosts k x differ below read)).number in
    IsWriting-as new moment (n + length (drop k hosts)) (n + length left + 1) (drops_owed v (drop k hosts) ++ rest)
    (map (λ y. owed.Dropped y) (option_to_list (number_of new.trail.point.state x)) ++ (drops_owed v left ++ rest)) (omega arith)
    (ap (λ (hs : List Address). drops_owed v hs ++ rest) next ∙ drops-cons (number_of v x) (filter_map (number_of v) left) rest
    ∙ ap (λ (o : Option ℕ). map (λ y. owed.Dropped y) (option_to_list o) ++ (drops_owed v left ++ rest)) (sym number))
    (dropped.writes rest n w)

pub AreDropped-next : {N : Type 0} (moment : ℕ) (old new now : Core N) (hosts : List Address) (k : ℕ) (x : Address) → IsDistinct is_same_address hosts →
    AreDropped moment old new hosts k → k < length hosts → x ≡ get_or hosts k x →
    ((rest : List Owed) (n : ℕ) → IsWriting new moment (n + 1) (map (λ y. owed.Dropped y) (option_to_list (number_of new.trail.point.state x)) ++ rest) → IsWriting now moment n rest) →
    TouchesOnly x new.trail.point.state now.trail.point.state → KeepsChecks new.trail.point.state now.trail.point.state →
    now.trail.lists.names ≡ new.trail.lists.names → AppendsAside ⊥ moment new.trail now.trail → AreDropped moment old now hosts (k + 1)
AreDropped-next {N} moment old new now hosts k x differ dropped below read writes others checks names appends = record {
  writes = λ rest n w.
      writes (drops_owed old.trail.point.state (drop (k + 1) hosts) ++ rest) (n + length (drop (k + 1) hosts))
      (AreDropped-writes moment old new hosts k x rest n differ dropped below read w);
  others = λ a h.
      let neither = none-next a x hosts k below read h in
      IsUntouched-trans old.trail.point.state new.trail.point.state now.trail.point.state a (dropped.others a neither.first) (others a neither.second);
  checks = KeepsChecks-trans old.trail.point.state new.trail.point.state now.trail.point.state dropped.checks checks;
  names = names ∙ dropped.names;
  appends = Appends-trans moment old.trail new.trail now.trail dropped.appends appends;
}

-- all of them did
pub record AllDropped {N : Type 0} (moment : ℕ) (old new : Core N) (hosts : List Address) : Type 0 where
  pub writes : (rest : List Owed) (n : ℕ) →
      IsWriting old moment (n + length hosts) (map (λ x. owed.Dropped x) (filter_map (number_of old.trail.point.state) hosts) ++ rest) → IsWriting new moment n rest
  pub others : (a : Address) → IsNone a hosts → IsUntouched old.trail.point.state new.trail.point.state a

pub AllDropped-end : {N : Type 0} (moment : ℕ) (old new : Core N) (hosts : List Address) (k : ℕ) → length hosts ≤ k → AreDropped moment old new hosts k →
    AllDropped moment old new hosts
AllDropped-end {N} moment old new hosts k past dropped =
    let all : take k hosts ≡ hosts = take_all k hosts past in
    record {
      writes = λ rest n w.
          let none : length (drop k hosts) ≡ 0 = at_drop_all (λ (hs : List Address). length hs) hosts k past in
          IsWriting-as new moment (n + length (drop k hosts)) n (drops_owed old.trail.point.state (drop k hosts) ++ rest) rest (omega arith)
          (at_drop_all (λ (hs : List Address). drops_owed old.trail.point.state hs ++ rest) hosts k past) (dropped.writes rest n w);
      others = λ a h. dropped.others a (ap (λ (hs : List Address). list_any (λ y. is_same_address y a) hs) all ∙ h);
    }
