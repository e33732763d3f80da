-- Of the servers before a place, whose check comes next.
use Rattle.std.proofs.Common.{◌≡◌, ◌≤◌, ◌<◌, ℕ, ◌+◌, Bool, true, false, List, length, Option, None, Some, refl, sym, ap, ◌∙◌, subst, arith, ◌⊎◌, inl, inr}
use Rattle.std.specs.Prelude.{slice_get, if◌then◌else◌}
use Rattle.std.proofs.lemmas.Bool.{cases_lt}
use Rattle.std.proofs.lemmas.Bool.{ltb-true, ltb-false}
use Rattle.std.proofs.lemmas.Option.{slice_get_within}
use Rattle.desk_trail.specs.States.{ClientState, ServerState}
use Rattle.desk_core.specs.declared.sight.Due.{Due}
use Rattle.desk_core.specs.Due.{IsDueAt, IsNext, due_at, is_earlier, nearer}

-- a check comes next of the servers before a place
pub record IsFirst (ss : List ServerState) (last n : ℕ) (due : Due) : Type 0 where
  pub server : ServerState
  pub there : slice_get ss due.host ≡ Some server
  pub stays : server.has_left ≡ false
  pub moment : due.at ≡ due_at last server
  pub below : due.host < n
  pub first : (x : ℕ) (s : ServerState) → x < n → slice_get ss x ≡ Some s → s.has_left ≡ false → due.at ≤ due_at last s
  pub least : (x : ℕ) (s : ServerState) → x < n → slice_get ss x ≡ Some s → s.has_left ≡ false → due.at ≡ due_at last s → due.host ≤ x

abbrev pub IsFirstOf : List ServerState → (last n : ℕ) → Option Due → Type 0
IsFirstOf ss last n None = (x : ℕ) (s : ServerState) → x < n → slice_get ss x ≡ Some s → s.has_left ≡ false → ⊥
IsFirstOf ss last n (Some due) = IsFirst ss last n due

-- a place before the next one is the last of them or before it
pub before_or_at : (x n : ℕ) → x < n + 1 → (x < n) ⊎ (x ≡ n)
before_or_at x n h = elim (cases_lt x n) [
  | inl a ↦ inl a
  | inr b ↦ inr (omega arith)
]

-- what is at that place
at_place : (ss : List ServerState) (x n : ℕ) (s t : ServerState) → slice_get ss n ≡ Some s → x ≡ n → slice_get ss x ≡ Some t → t ≡ s
at_place ss x n s t here e there =
    let same : Some t ≡ Some s = sym there ∙ ap (λ i. slice_get ss i) e ∙ here in cc

IsFirstOf-left : (ss : List ServerState) (last n : ℕ) (o : Option Due) (s : ServerState) → slice_get ss n ≡ Some s → s.has_left ≡ true → IsFirstOf ss last n o →
    IsFirstOf ss last (n + 1) o
IsFirstOf-left ss last n None s here left h = λ x t below there stays. elim (before_or_at x n below) [
  | inl a ↦ h x t a there stays
  | inr b ↦ let is = at_place ss x n s t here b there in let f = ap (λ (u : ServerState). u.has_left) is in absurd (cc)
]
IsFirstOf-left ss last n (Some due) s here left h = record {
  server = h.server;
  there = h.there;
  stays = h.stays;
  moment = h.moment;
  below = let b = h.below in omega arith;
  first = λ x t below there stays. elim (before_or_at x n below) [
    | inl a ↦ h.first x t a there stays
    | inr b ↦ let is = at_place ss x n s t here b there in let f = ap (λ (u : ServerState). u.has_left) is in absurd (cc)
  ];
  least = λ x t below there stays e. elim (before_or_at x n below) [
    | inl a ↦ h.least x t a there stays e
    | inr b ↦ let is = at_place ss x n s t here b there in let f = ap (λ (u : ServerState). u.has_left) is in absurd (cc)
  ];
}

-- it is no earlier than the one so far
IsFirst-later : (ss : List ServerState) (last n : ℕ) (due : Due) (s : ServerState) → slice_get ss n ≡ Some s → due.at ≤ due_at last s → IsFirst ss last n due →
    IsFirst ss last (n + 1) due
IsFirst-later ss last n due s here later h = record {
  server = h.server;
  there = h.there;
  stays = h.stays;
  moment = h.moment;
  below = let b = h.below in omega arith;
  first = λ x t below there stays. elim (before_or_at x n below) [
    | inl a ↦ h.first x t a there stays
    | inr b ↦ subst (λ u. due.at ≤ due_at last u) (sym (at_place ss x n s t here b there)) later
  ];
  least = λ x t below there stays e. elim (before_or_at x n below) [
    | inl a ↦ h.least x t a there stays e
    | inr b ↦ let c = h.below in omega arith
  ];
}

-- it is the first of all, or earlier than the one so far
IsFirst-new : (ss : List ServerState) (last n : ℕ) (s : ServerState) → slice_get ss n ≡ Some s → s.has_left ≡ false →
    ((x : ℕ) (t : ServerState) → x < n → slice_get ss x ≡ Some t → t.has_left ≡ false → due_at last s < due_at last t) →
    IsFirst ss last (n + 1) (record { host = n; at = due_at last s })
IsFirst-new ss last n s here stays earlier = record {
  server = s;
  there = here;
  stays = stays;
  moment = refl;
  below = omega arith;
  first = λ x t below there k. elim (before_or_at x n below) [
    | inl a ↦ let e = earlier x t a there k in omega arith
    | inr b ↦ subst (λ u. due_at last s ≤ due_at last u) (sym (at_place ss x n s t here b there)) (omega arith)
  ];
  least = λ x t below there k e. elim (before_or_at x n below) [
    | inl a ↦ let f = earlier x t a there k in absurd (omega arith)
    | inr b ↦ omega arith
  ];
}

IsFirstOf-stays : (ss : List ServerState) (last n : ℕ) (o : Option Due) (s : ServerState) (b : Bool) → slice_get ss n ≡ Some s → s.has_left ≡ false →
    b ≡ is_earlier (due_at last s) o → IsFirstOf ss last n o →
    IsFirstOf ss last (n + 1) (if b then Some (record { host = n; at = due_at last s }) else o)
IsFirstOf-stays ss last n None s true here stays e h = IsFirst-new ss last n s here stays (λ x t below there k. absurd (h x t below there k))
IsFirstOf-stays ss last n None s false here stays e h = absurd (cc)
IsFirstOf-stays ss last n (Some due) s true here stays e h =
    let less = ltb-true (due_at last s) due.at (sym e) in
    IsFirst-new ss last n s here stays (λ x t below there k. let f = h.first x t below there k in omega arith)
IsFirstOf-stays ss last n (Some due) s false here stays e h = IsFirst-later ss last n due s here (ltb-false (due_at last s) due.at (sym e)) h

by_stay : (ss : List ServerState) (last n : ℕ) (o : Option Due) (s : ServerState) (b : Bool) → slice_get ss n ≡ Some s → s.has_left ≡ b → IsFirstOf ss last n o →
    IsFirstOf ss last (n + 1) (if b then o else if is_earlier (due_at last s) o then Some (record { host = n; at = due_at last s }) else o)
by_stay ss last n o s true here e h = IsFirstOf-left ss last n o s here e h
by_stay ss last n o s false here e h = IsFirstOf-stays ss last n o s (is_earlier (due_at last s) o) here e refl h

-- one server more
pub IsFirstOf-nearer : (ss : List ServerState) (last n : ℕ) (o : Option Due) (s : ServerState) → slice_get ss n ≡ Some s → IsFirstOf ss last n o →
    IsFirstOf ss last (n + 1) (nearer last n s o)
IsFirstOf-nearer ss last n o s here h = by_stay ss last n o s s.has_left here refl h

-- none so far
pub IsFirstOf-none : (ss : List ServerState) (last : ℕ) → IsFirstOf ss last 0 None
IsFirstOf-none ss last = λ x s below there stays. omega arith

-- all servers
IsDueAt-servers : (w : ClientState) (ss : List ServerState) (last host at n : ℕ) → w.servers ≡ ss → n ≡ length ss → IsDueAt w last host at →
    (s : ServerState) × (slice_get ss host ≡ Some s) × (s.has_left ≡ false) × (at ≡ due_at last s) × (host < n)
IsDueAt-servers w ss last host at n is all d =
    let there : slice_get ss host ≡ Some d.server = ap (λ l. slice_get l host) (sym is) ∙ d.there in
    let within = slice_get_within ss host d.server there in
    (d.server, there, d.stays, d.moment, omega arith)

pub IsNext-all : (w : ClientState) (ss : List ServerState) (last n : ℕ) (o : Option Due) → w.servers ≡ ss → n ≡ length ss → IsFirstOf ss last n o → IsNext w last o
IsNext-all w ss last n None is all h = λ host at d.
    let f = IsDueAt-servers w ss last host at n is all d in h host f.0 f.4 f.1 f.2
IsNext-all w ss last n (Some due) is all h = record {
  of_server = record {
    server = h.server;
    there = ap (λ l. slice_get l due.host) is ∙ h.there;
    stays = h.stays;
    moment = h.moment;
  };
  first = λ host at d.
      let f = IsDueAt-servers w ss last host at n is all d in
      let e = h.first host f.0 f.4 f.1 f.2 in
      let g = f.3 in omega arith;
  least = λ host d.
      let f = IsDueAt-servers w ss last host due.at n is all d in
      h.least host f.0 f.4 f.1 f.2 f.3;
}
