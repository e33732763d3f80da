-- Which number an address has, how many servers stand, and what is kept of each, behind one more server and behind a change of one.
use Rattle.std.proofs.Common.{◌≡◌, ◌≢◌, ◌≤◌, ℕ, zero, suc, ◌+◌, Bool, true, false, not, ◌&&◌, List, [], ◌∷◌, ◌++◌, map, length, Option, None, Some, refl, sym, ap, ◌∙◌, subst, arith, ◌⊎◌, inl, inr}
use Rattle.std.specs.Prelude.{slice_get, slice_set, if◌then◌else◌}
use Rattle.host_name.specs.Addresses.{Address, is_same_address, is_same_address-true, is_same_address-same}
use Rattle.desk_trail.specs.States.{ClientState, ServerState, number_from, number_of}
use Rattle.wired_trail.specs.Lines.{KeepsOthers, Lines, line_at}
use Rattle.wired_trail.specs.declared.lines.Line.{Line}
use Rattle.wired_trail.specs.declared.stream_use.StreamUse.TheVariants as for_use
use Rattle.desk_core.specs.Servers.{AreKeptServers, HasStream, IsKeptServer, IsUntouched, closing_of, closings}

-- ---- Addresses

pub differ_if_not_same : (a b : Address) → is_same_address a b ≡ false → a ≡ b → ⊥
differ_if_not_same a b n e = let same = is_same_address-same a b e in absurd (cc)

pub is_same_address-refl : (a : Address) → is_same_address a a ≡ true
is_same_address-refl a = is_same_address-same a a refl

-- ---- Items of a list in which one changes

pub slice_get-set_same : {A : Type 0} (xs : List A) (k : ℕ) (x y : A) → slice_get xs k ≡ Some y → slice_get (slice_set xs k x) k ≡ Some x
slice_get-set_same [] k x y h = absurd (cc)
slice_get-set_same (z ∷ zs) zero x y h = refl
slice_get-set_same (z ∷ zs) (suc k) x y h = slice_get-set_same zs k x y h

pub slice_get-set_other : {A : Type 0} (xs : List A) (k i : ℕ) (x : A) → (k ≡ i → ⊥) → slice_get (slice_set xs k x) i ≡ slice_get xs i
slice_get-set_other [] k i x h = refl
slice_get-set_other (z ∷ zs) zero zero x h = absurd (h refl)
slice_get-set_other (z ∷ zs) zero (suc i) x h = refl
slice_get-set_other (z ∷ zs) (suc k) zero x h = refl
slice_get-set_other (z ∷ zs) (suc k) (suc i) x h = slice_get-set_other zs k i x (λ e. h (omega arith))

-- an item of the changed list is the new one, or was there
pub data IsOfSet {A : Type 0} (xs : List A) (k : ℕ) (x : A) (i : ℕ) (y : A) : Type 0 where
  at_place : i ≡ k → y ≡ x → IsOfSet xs k x i y
  elsewhere : (i ≡ k → ⊥) → slice_get xs i ≡ Some y → IsOfSet xs k x i y

pub slice_get-set : {A : Type 0} (xs : List A) (k : ℕ) (x : A) (i : ℕ) (y : A) → slice_get (slice_set xs k x) i ≡ Some y → IsOfSet xs k x i y
slice_get-set [] k x i y h = absurd (cc)
slice_get-set (z ∷ zs) zero x zero y h = at_place refl (cc)
slice_get-set (z ∷ zs) zero x (suc i) y h = elsewhere (λ e. absurd (omega arith)) h
slice_get-set (z ∷ zs) (suc k) x zero y h = elsewhere (λ e. absurd (omega arith)) h
slice_get-set (z ∷ zs) (suc k) x (suc i) y h = elim (slice_get-set zs k x i y h) [
  | at_place e f ↦ at_place (ap suc e) f
  | elsewhere n e ↦ elsewhere (λ f. n (omega arith)) e
]

pub slice_get-append_left : {A : Type 0} (xs ys : List A) (i : ℕ) (y : A) → slice_get xs i ≡ Some y → slice_get (xs ++ ys) i ≡ Some y
slice_get-append_left [] ys i y h = absurd (cc)
slice_get-append_left (x ∷ xs) ys zero y h = h
slice_get-append_left (x ∷ xs) ys (suc i) y h = slice_get-append_left xs ys i y h

pub slice_get-append_one : {A : Type 0} (xs : List A) (x : A) (i : ℕ) (y : A) → slice_get (xs ++ x ∷ []) i ≡ Some y →
    (slice_get xs i ≡ Some y) ⊎ (i ≡ length xs) × (y ≡ x)
slice_get-append_one [] x zero y h = inr (refl, (cc))
slice_get-append_one [] x (suc i) y h = absurd (cc)
slice_get-append_one (z ∷ zs) x zero y h = inl h
slice_get-append_one (z ∷ zs) x (suc i) y h = elim (slice_get-append_one zs x i y h) [ inl w ↦ inl w | inr w ↦ inr (let below = w.0 in omega arith, w.1) ]

-- what is read of each, where the new item reads as the old one
pub map-set : {A B : Type 0} (f : A → B) (xs : List A) (k : ℕ) (x y : A) → slice_get xs k ≡ Some y → f x ≡ f y → map f (slice_set xs k x) ≡ map f xs
map-set f [] k x y h e = refl
map-set f (z ∷ zs) zero x y h e = let is : z ≡ y = (cc) in ap (λ v. v ∷ map f zs) (e ∙ ap f (sym is))
map-set f (z ∷ zs) (suc k) x y h e = ap (λ vs. f z ∷ vs) (map-set f zs k x y h e)

-- ---- Which number an address has

abbrev pub stands_at : Address → ServerState → Bool
stands_at a s = not s.has_left && is_same_address s.address a

-- the server of that number is there, did not leave, and has that address
pub record IsAt (servers : List ServerState) (a : Address) (x : ℕ) : Type 0 where
  pub server : ServerState
  pub there : slice_get servers x ≡ Some server
  pub stays : server.has_left ≡ false
  pub at : server.address ≡ a

stays_if : (left same : Bool) → (not left && same) ≡ true → left ≡ false
stays_if true same h = absurd (cc)
stays_if false same h = refl

same_if : (left same : Bool) → (not left && same) ≡ true → same ≡ true
same_if true same h = absurd (cc)
same_if false same h = h

stands_if_same : (left same : Bool) → left ≡ false → (not left && same) ≡ same
stands_if_same true same h = absurd (cc)
stands_if_same false same h = refl

-- that number, past the servers ahead
pub record IsFrom (n : ℕ) (servers : List ServerState) (a : Address) (x : ℕ) : Type 0 where
  pub place : ℕ
  pub is : x ≡ n + place
  pub at : IsAt servers a place

IsFrom-next : (n : ℕ) (s : ServerState) (ss : List ServerState) (a : Address) (x : ℕ) → IsFrom (n + 1) ss a x → IsFrom n (s ∷ ss) a x
IsFrom-next n s ss a x f = record {
  place = suc f.place;
  is = let e = f.is in omega arith;
  at = record { server = f.at.server; there = f.at.there; stays = f.at.stays; at = f.at.at };
}

pub number_from-found : (n : ℕ) (ss : List ServerState) (a : Address) (x : ℕ) → number_from n ss a ≡ Some x → IsFrom n ss a x
number_from-found n [] a x h = absurd (cc)
number_from-found n (s ∷ ss) a x h =
    elim (stands_at a s) as (λ b. stands_at a s ≡ b → (if b then Some n else number_from (n + 1) ss a) ≡ Some x → IsFrom n (s ∷ ss) a x) [
      | true ↦ λ t e. record {
        place = 0;
        is = let is : n ≡ x = (cc) in omega arith;
        at = record {
          server = s;
          there = refl;
          stays = stays_if s.has_left (is_same_address s.address a) t;
          at = is_same_address-true s.address a (same_if s.has_left (is_same_address s.address a) t);
        };
      }
      | false ↦ λ t e. IsFrom-next n s ss a x (number_from-found (n + 1) ss a x e)
    ] refl h

pub number_of-found : (w : ClientState) (a : Address) (x : ℕ) → number_of w a ≡ Some x → IsAt w.servers a x
number_of-found w a x h =
    let f = number_from-found 0 w.servers a x h in
    let e : f.place ≡ x = let is = f.is in omega arith in
    subst (λ k. IsAt w.servers a k) e f.at

-- behind one more server with another address
pub number_from-append : (n : ℕ) (ss : List ServerState) (s : ServerState) (a : Address) → is_same_address s.address a ≡ false →
    number_from n (ss ++ s ∷ []) a ≡ number_from n ss a
number_from-append n [] s a h =
    elim s.has_left as (λ b. (if not b && is_same_address s.address a then Some n else None) ≡ None) [
      | true ↦ refl
      | false ↦ rw h refl
    ]
number_from-append n (z ∷ zs) s a h = ap (λ o. if stands_at a z then Some n else o) (number_from-append (n + 1) zs s a h)

-- behind a change of a server that stands with that address behind it where it did
pub number_from-set : (n : ℕ) (ss : List ServerState) (k : ℕ) (s t : ServerState) (a : Address) → slice_get ss k ≡ Some s → stands_at a t ≡ stands_at a s →
    number_from n (slice_set ss k t) a ≡ number_from n ss a
number_from-set n [] k s t a h e = refl
number_from-set n (z ∷ zs) zero s t a h e =
    let is : s ≡ z = (cc) in ap (λ (b : Bool). if b then Some n else number_from (n + 1) zs a) (e ∙ ap (stands_at a) is)
number_from-set n (z ∷ zs) (suc k) s t a h e = ap (λ o. if stands_at a z then Some n else o) (number_from-set (n + 1) zs k s t a h e)

pub stands_at-kept : (a : Address) (s t : ServerState) → t.address ≡ s.address → t.has_left ≡ s.has_left → stands_at a t ≡ stands_at a s
stands_at-kept a s t e f = ap (λ (b : Bool). not b && is_same_address t.address a) f ∙ ap (λ (x : Address). not s.has_left && is_same_address x a) e

stands_at-other : (left same : Bool) → same ≡ false → (not left && same) ≡ false
stands_at-other true same h = refl
stands_at-other false same h = h

pub stands_at-apart : (a : Address) (s t : ServerState) → t.address ≡ s.address → is_same_address s.address a ≡ false → stands_at a t ≡ stands_at a s
stands_at-apart a s t e n =
    stands_at-other t.has_left (is_same_address t.address a) (ap (λ (x : Address). is_same_address x a) e ∙ n)
    ∙ sym (stands_at-other s.has_left (is_same_address s.address a) n)

-- ---- How many entries closing their pools takes

pub closings-append : (ss : List ServerState) (s : ServerState) → closings (ss ++ s ∷ []) ≡ closings ss + closing_of s
closings-append [] s = omega arith
closings-append (z ∷ zs) s = let k = closings-append zs s in omega arith

pub closings-set : (ss : List ServerState) (k : ℕ) (s t : ServerState) → slice_get ss k ≡ Some s → closings (slice_set ss k t) + closing_of s ≡ closings ss + closing_of t
closings-set [] k s t h = absurd (cc)
closings-set (z ∷ zs) zero s t h =
    let is : closing_of z ≡ closing_of s = let same : z ≡ s = (cc) in ap closing_of same in omega arith
closings-set (z ∷ zs) (suc k) s t h = let i = closings-set zs k s t h in omega arith

-- of a server that stands where it stood, with as many connections available
pub closing_of-kept : (s t : ServerState) → t.has_left ≡ s.has_left → length t.pool.state.available ≡ length s.pool.state.available → closing_of t ≡ closing_of s
closing_of-kept s t left available =
    ap (λ (b : Bool). if b then 0 else length t.pool.state.available + 1) left ∙ ap (λ n. if s.has_left then 0 else n + 1) available

pub closings-set_kept : (ss : List ServerState) (k : ℕ) (s t : ServerState) → slice_get ss k ≡ Some s → closing_of t ≡ closing_of s → closings (slice_set ss k t) ≡ closings ss
closings-set_kept ss k s t h e = let i = closings-set ss k s t h in omega (arith, e, i)

pub closing_of-stays : (s : ServerState) → s.has_left ≡ false → closing_of s ≡ length s.pool.state.available + 1
closing_of-stays s e = ap (λ (b : Bool). if b then 0 else length s.pool.state.available + 1) e

pub closing_of-left : (s : ServerState) → s.has_left ≡ true → closing_of s ≡ 0
closing_of-left s e = ap (λ (b : Bool). if b then 0 else length s.pool.state.available + 1) e

-- ---- What is kept of each

pub IsKeptServer-more : (lines : Lines) (m n x : ℕ) (s : ServerState) → m ≤ n → IsKeptServer lines m x s → IsKeptServer lines n x s
IsKeptServer-more lines m n x s h k = record {
  paid = k.paid;
  is_open = k.is_open;
  generation = let g = k.generation in omega arith;
  entered = let g = k.entered in omega arith;
  checked = k.checked;
  paced = k.paced;
}

pub AreKeptServers-more : (lines : Lines) (m n : ℕ) (ss : List ServerState) → m ≤ n → AreKeptServers lines m ss → AreKeptServers lines n ss
AreKeptServers-more lines m n ss h k = λ x s e. IsKeptServer-more lines m n x s h (k x s e)

pub AreKeptServers-append : (lines : Lines) (n : ℕ) (ss : List ServerState) (s : ServerState) → AreKeptServers lines n ss → IsKeptServer lines n (length ss) s →
    AreKeptServers lines n (ss ++ s ∷ [])
AreKeptServers-append lines n ss s k one = λ x t e. elim (slice_get-append_one ss s x t e) [
  | inl h ↦ k x t h
  | inr h ↦ subst (λ i. IsKeptServer lines n i t) (sym h.0) (subst (λ u. IsKeptServer lines n (length ss) u) (sym h.1) one)
]

pub AreKeptServers-set : (lines : Lines) (n : ℕ) (ss : List ServerState) (k : ℕ) (t : ServerState) → AreKeptServers lines n ss → IsKeptServer lines n k t →
    AreKeptServers lines n (slice_set ss k t)
AreKeptServers-set lines n ss k t kept one = λ x s e. elim (slice_get-set ss k t x s e) [
  | at_place i h ↦ subst (λ j. IsKeptServer lines n j s) (sym i) (subst (λ u. IsKeptServer lines n k u) (sym h) one)
  | elsewhere i h ↦ kept x s h
]

-- where the stream of a server's checks is closed, those of the others are as they were
HasStream-closed : (old new : Lines) (stream k x : ℕ) (began o : Option ℕ) (line : Line) → line_at old stream ≡ Some line → line.is_for ≡ for_use.Check k →
    (x ≡ k → ⊥) → KeepsOthers stream old new → HasStream old x began o → HasStream new x began o
HasStream-closed old new stream k x began None line there is_for apart others h = h
HasStream-closed old new stream k x began (Some other) line there is_for apart others h =
    let differ : other ≢ stream = λ (e : other ≡ stream).
    let same : Some h.0 ≡ Some line = sym h.1 ∙ ap (line_at old) e ∙ there in
    let is : h.0 ≡ line = (cc) in
    let uses : for_use.Check x ≡ for_use.Check k = sym h.2 ∙ ap (λ (l : Line). l.is_for) is ∙ is_for in
    apart (cc) in
    (h.0, others other differ ∙ h.1, h.2, h.3)

IsKeptServer-closed : (old new : Lines) (stream k n x : ℕ) (s : ServerState) (line : Line) → line_at old stream ≡ Some line → line.is_for ≡ for_use.Check k →
    (x ≡ k → ⊥) → KeepsOthers stream old new → IsKeptServer old n x s → IsKeptServer new n x s
IsKeptServer-closed old new stream k n x s line there is_for apart others kept = record {
  paid = kept.paid;
  is_open = kept.is_open;
  generation = kept.generation;
  entered = kept.entered;
  checked = HasStream-closed old new stream k x s.checks.began s.check_stream line there is_for apart others kept.checked;
  paced = kept.paced;
}

pub AreKeptServers-closed : (old new : Lines) (n : ℕ) (ss : List ServerState) (k stream : ℕ) (t : ServerState) (line : Line) → line_at old stream ≡ Some line →
    line.is_for ≡ for_use.Check k → KeepsOthers stream old new → AreKeptServers old n ss → IsKeptServer new n k t → AreKeptServers new n (slice_set ss k t)
AreKeptServers-closed old new n ss k stream t line there is_for others kept one = λ x s e. elim (slice_get-set ss k t x s e) [
  | at_place i h ↦ subst (λ j. IsKeptServer new n j s) (sym i) (subst (λ u. IsKeptServer new n k u) (sym h) one)
  | elsewhere i h ↦ IsKeptServer-closed old new stream k n x s line there is_for i others (kept x s h)
]

-- ---- What stays untouched

pub IsUntouched-refl : (w v : ClientState) (a : Address) → v.servers ≡ w.servers → IsUntouched w v a
IsUntouched-refl w v a e = record { number = ap (λ ss. number_from 0 ss a) e; server = λ x h. ap (λ ss. slice_get ss x) e }

pub IsUntouched-trans : (w v u : ClientState) (a : Address) → IsUntouched w v a → IsUntouched v u a → IsUntouched w u a
IsUntouched-trans w v u a p q = record {
  number = q.number ∙ p.number;
  server = λ x h. q.server x (p.number ∙ h) ∙ p.server x h;
}

-- behind one more server with another address
pub IsUntouched-append : (w v : ClientState) (s : ServerState) (a : Address) → v.servers ≡ w.servers ++ s ∷ [] → is_same_address s.address a ≡ false → IsUntouched w v a
IsUntouched-append w v s a e n = record {
  number = ap (λ ss. number_from 0 ss a) e ∙ number_from-append 0 w.servers s a n;
  server = λ x h.
      let f = number_of-found w a x h in
      ap (λ ss. slice_get ss x) e ∙ slice_get-append_left w.servers (s ∷ []) x f.server f.there ∙ sym f.there;
}

-- behind a change of a server with another address, which keeps its address
pub IsUntouched-set : (w v : ClientState) (k : ℕ) (s t : ServerState) (a : Address) → slice_get w.servers k ≡ Some s → v.servers ≡ slice_set w.servers k t →
    t.address ≡ s.address → is_same_address s.address a ≡ false → IsUntouched w v a
IsUntouched-set w v k s t a there e kept n = record {
  number = ap (λ ss. number_from 0 ss a) e ∙ number_from-set 0 w.servers k s t a there (stands_at-apart a s t kept n);
  server = λ x h.
      let f = number_of-found w a x h in
      ap (λ ss. slice_get ss x) e ∙ slice_get-set_other w.servers k x t (λ (i : k ≡ x).
      let here : Some s ≡ Some f.server = sym there ∙ ap (λ n. slice_get w.servers n) i ∙ f.there in
      let is : s ≡ f.server = (cc) in
      differ_if_not_same s.address a n (ap (λ (u : ServerState). u.address) is ∙ f.at));
}
