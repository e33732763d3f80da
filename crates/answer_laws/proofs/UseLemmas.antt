-- Each stream has one use: it is that of one connection, or that of checks.
use Rattle.std.proofs.Common.{◌≡◌, ◌⊎◌, inl, inr, ℕ, Bool, true, false, ◌||◌, List, ◌∷◌, ◌++◌, Option, None, Some, refl, sym, ap, ◌∙◌, subst}
use Rattle.std.specs.Prelude.{nat_eq, slice_get}
use Rattle.std.specs.List.{list_any}
use Rattle.std.proofs.lemmas.Bool.{eq-eqb}
use Rattle.desk_trail.specs.Checks.{IsCheckStream, IsNew, kept_at, stream_kept}
use Rattle.desk_trail.specs.Clients.{Client}
use Rattle.desk_trail.specs.Facts.{Fact}
use Rattle.desk_trail.specs.Facts as fact
use Rattle.desk_trail.specs.Legal.{MayStand, Point, beginning, client_after}
use Rattle.desk_trail.specs.States.{ClientState, ServerState}
use Rattle.desk_trail.specs.Streams.{conn_stream_at}
use Rattle.answer_laws.proofs.NewLemmas.{client-adds, taken}
use Rattle.answer_laws.proofs.ServerLemmas.{Dials, begun-from, checks-from, conns-kept, dialled-at, other, own}

abbrev pub IsKnown : List ℕ → ℕ → Type 0
IsKnown ss s = list_any (nat_eq s) ss ≡ true

pub record Uses (w : ClientState) : Type 0 where
  pub conns : (host conn s : ℕ) → conn_stream_at w host conn ≡ Some s → IsKnown w.streams s
  pub checks : (host s : ℕ) → kept_at w host ≡ Some s → IsKnown w.streams s
  pub one : (a m b n s : ℕ) → conn_stream_at w a m ≡ Some s → conn_stream_at w b n ≡ Some s → (a ≡ b) × (m ≡ n)
  pub apart : (host conn other s : ℕ) → conn_stream_at w host conn ≡ Some s → kept_at w other ≡ Some s → ⊥

-- a new stream is known to none
new-known : (ss : List ℕ) (s n : ℕ) → list_any (nat_eq n) ss ≡ false → IsKnown ss s → s ≡ n → ⊥
new-known ss s n new k e = let at : list_any (nat_eq n) ss ≡ true = subst (IsKnown ss) e k in absurd (let no : true ≡ false = sym at ∙ new in cc)

known-more : (ss : List ℕ) (s n : ℕ) → IsKnown ss s → IsKnown (n ∷ ss) s
known-more ss s n k = by (nat_eq s n)
  where
    by : (b : Bool) → (b || list_any (nat_eq s) ss) ≡ true
    by true = refl
    by false = k

known-first : (ss : List ℕ) (s n : ℕ) → s ≡ n → IsKnown (n ∷ ss) s
known-first ss s n e = let own : nat_eq s n ≡ true = eq-eqb s n e in rw own refl

-- ---- No stream more

uses-same : (w v : ClientState) → v.streams ≡ w.streams → ((host conn s : ℕ) → conn_stream_at v host conn ≡ Some s → conn_stream_at w host conn ≡ Some s) →
    ((host s : ℕ) → kept_at v host ≡ Some s → kept_at w host ≡ Some s) → Uses w → Uses v
uses-same w v e conns checks u = record {
  conns = λ host conn s h. subst (λ ss. IsKnown ss s) (sym e) (u.conns host conn s (conns host conn s h));
  checks = λ host s h. subst (λ ss. IsKnown ss s) (sym e) (u.checks host s (checks host s h));
  one = λ a m b n s h i. u.one a m b n s (conns a m s h) (conns b n s i);
  apart = λ host conn other s h i. u.apart host conn other s (conns host conn s h) (checks other s i);
}

-- ---- A check begins on a new one

uses-checks : (w v : ClientState) (x n : ℕ) → IsNew w n → v.streams ≡ n ∷ w.streams → ((host conn s : ℕ) → conn_stream_at v host conn ≡ Some s → conn_stream_at w host conn ≡ Some s) →
    ((host s : ℕ) → kept_at v host ≡ Some s → (kept_at w host ≡ Some s) ⊎ (x ≡ host) × (s ≡ n)) → Uses w → Uses v
uses-checks w v x n new e conns checks u = record {
  conns = λ host conn s h. subst (λ ss. IsKnown ss s) (sym e) (known-more w.streams s n (u.conns host conn s (conns host conn s h)));
  checks = λ host s h. subst (λ ss. IsKnown ss s) (sym e) (elim (checks host s h) [
    | inl k ↦ known-more w.streams s n (u.checks host s k)
    | inr k ↦ known-first w.streams s n k.1
  ]);
  one = λ a m b l s h i. u.one a m b l s (conns a m s h) (conns b l s i);
  apart = λ host conn other s h i. elim (checks other s i) [
    | inl k ↦ u.apart host conn other s (conns host conn s h) k
    | inr k ↦ new-known w.streams s n new (u.conns host conn s (conns host conn s h)) k.1
  ];
}

-- ---- A connection is dialled on a new one

uses-dials : (w v : ClientState) (x c n : ℕ) → IsNew w n → v.streams ≡ n ∷ w.streams →
    ((host conn s : ℕ) → conn_stream_at v host conn ≡ Some s → (conn_stream_at w host conn ≡ Some s) ⊎ (host ≡ x) × (conn ≡ c) × (s ≡ n)) →
    ((host s : ℕ) → kept_at v host ≡ Some s → kept_at w host ≡ Some s) → Uses w → Uses v
uses-dials w v x c n new e conns checks u = record {
  conns = λ host conn s h. subst (λ ss. IsKnown ss s) (sym e) (elim (conns host conn s h) [
    | inl k ↦ known-more w.streams s n (u.conns host conn s k)
    | inr k ↦ known-first w.streams s n k.2
  ]);
  checks = λ host s h. subst (λ ss. IsKnown ss s) (sym e) (known-more w.streams s n (u.checks host s (checks host s h)));
  one = λ a m b l s h i. elim (conns a m s h) [
    | inl j ↦ elim (conns b l s i) [
      | inl k ↦ u.one a m b l s j k
      | inr k ↦ absurd (new-known w.streams s n new (u.conns a m s j) k.2)
    ]
    | inr j ↦ elim (conns b l s i) [
      | inl k ↦ absurd (new-known w.streams s n new (u.conns b l s k) j.2)
      | inr k ↦ (j.0 ∙ sym k.0, j.1 ∙ sym k.1)
    ]
  ];
  apart = λ host conn other s h i. elim (conns host conn s h) [
    | inl j ↦ u.apart host conn other s j (checks other s i)
    | inr j ↦ new-known w.streams s n new (u.checks other s (checks other s i)) j.2
  ];
}

-- ---- Each entry

-- the stream of a check is a new one, or was kept
check-stream : (w : ClientState) (host stream : ℕ) (s : ServerState) → slice_get w.servers host ≡ Some s → IsCheckStream w s.check_stream stream →
    ((kept_at w host ≡ None) × IsNew w stream) ⊎ (kept_at w host ≡ Some stream)
check-stream w host stream s there is = by s.check_stream (ap stream_kept there) is
  where
    by : (o : Option ℕ) → kept_at w host ≡ o → IsCheckStream w o stream → ((kept_at w host ≡ None) × IsNew w stream) ⊎ (kept_at w host ≡ Some stream)
    by None e i = inl (e, i)
    by (Some kept) e i = inr (e ∙ ap (λ n. Some n) (sym i))

pub begun-stream : (client : Client) (p : Point) (moment host stream : ℕ) → MayStand client p moment (fact.CheckBegan host stream) →
    ((kept_at p.state host ≡ None) × IsNew p.state stream) ⊎ (kept_at p.state host ≡ Some stream)
begun-stream client p moment host stream m = check-stream p.state host stream m.0 m.1 m.2.1

dialled-from : (client : Client) (moment : ℕ) (w : ClientState) (op x c n host conn s : ℕ) →
    conn_stream_at (client_after client moment w (fact.Dialled op x c (Some n))) host conn ≡ Some s → (conn_stream_at w host conn ≡ Some s) ⊎ (host ≡ x) × (conn ≡ c) × (s ≡ n)
dialled-from client moment w op x c n host conn s h = by (dialled-at client moment w op x c (Some n) host conn)
  where
    v : ClientState
    v = client_after client moment w (fact.Dialled op x c (Some n))

    by : Dials w v x c (Some n) host conn → (conn_stream_at w host conn ≡ Some s) ⊎ (host ≡ x) × (conn ≡ c) × (s ≡ n)
    by (other e) = inl (sym e ∙ h)
    by (own e g i) = let same : Some n ≡ Some s = sym i ∙ h in let is : n ≡ s = (cc) in inr (e, g, sym is)

undialled-from : (client : Client) (moment : ℕ) (w : ClientState) (op x c host conn s : ℕ) →
    conn_stream_at (client_after client moment w (fact.Dialled op x c None)) host conn ≡ Some s → conn_stream_at w host conn ≡ Some s
undialled-from client moment w op x c host conn s h = by (dialled-at client moment w op x c None host conn)
  where
    v : ClientState
    v = client_after client moment w (fact.Dialled op x c None)

    by : Dials w v x c None host conn → conn_stream_at w host conn ≡ Some s
    by (other e) = sym e ∙ h
    by (own e g i) = let same : None ≡ Some s = sym i ∙ h in absurd (cc)

pub uses-step : (client : Client) (p : Point) (moment : ℕ) (f : Fact) → MayStand client p moment f → Uses p.state → Uses (client_after client moment p.state f)
uses-step client p moment (fact.CheckBegan host stream) m u =
    let w = p.state in
    let f = fact.CheckBegan host stream in
    let v = client_after client moment w f in
    let adds : v.streams ≡ taken (kept_at w host) stream ++ w.streams = client-adds client moment w f in
    let conns = λ (h c s : ℕ) (k : conn_stream_at v h c ≡ Some s). sym (conns-kept client moment w f h c refl) ∙ k in
    elim (begun-stream client p moment host stream m) [
      | inl k ↦
          uses-checks w v host stream k.1 (adds ∙ ap (λ o. taken o stream ++ w.streams) k.0) conns (λ h s i. begun-from client moment w host stream h s i) u
      | inr k ↦
          uses-same w v (adds ∙ ap (λ o. taken o stream ++ w.streams) k) conns
          (λ h s i. elim (begun-from client moment w host stream h s i) [
            | inl j ↦ j
            | inr j ↦ ap (kept_at w) (sym j.0) ∙ k ∙ ap (λ n. Some n) (sym j.1)
          ]) u
    ]
uses-step client p moment (fact.Dialled op x c (Some n)) m u =
    let w = p.state in
    let f = fact.Dialled op x c (Some n) in
    uses-dials w (client_after client moment w f) x c n m.0 (client-adds client moment w f) (λ h k s i. dialled-from client moment w op x c n h k s i)
    (λ h s i. checks-from client moment w f h s refl i) u
uses-step client p moment (fact.Dialled op x c None) m u =
    let w = p.state in
    let f = fact.Dialled op x c None in
    uses-same w (client_after client moment w f) (client-adds client moment w f) (λ h k s i. undialled-from client moment w op x c h k s i)
    (λ h s i. checks-from client moment w f h s refl i) u
uses-step client p moment f m u =
    let w = p.state in
    uses-same w (client_after client moment w f) (client-adds client moment w f)
    (λ h c s k. sym (conns-kept client moment w f h c refl) ∙ k) (λ h s k. checks-from client moment w f h s refl k) u

pub uses-begins : (client : Client) → Uses (beginning client).state
uses-begins client = record {
  conns = λ host conn s h. absurd (cc);
  checks = λ host s h. absurd (cc);
  one = λ a m b n s h i. absurd (cc);
  apart = λ host conn other s h i. absurd (cc);
}
