-- Listeners that are told some events and then others.
use Rattle.std.proofs.Common.{◌≡◌, ◌≤◌, inl, inr, ℕ, ◌+◌, Bool, List, [], ◌∷◌, ◌++◌, length, map, refl, sym, ap, ◌∙◌, subst, append_assoc, arith}
use Rattle.std.proofs.lemmas.List.{map-append, append-nil, length-map}
use Rattle.entry_judge.specs.declared.timed.Timed.{Timed}
use Rattle.desk_trail.specs.Facts.{Fact}
use Rattle.drv_events.specs.declared.event.Event.{Event}
use Rattle.drv_events.specs.declared.hooks.HooksOf.{HooksOf}
use Rattle.drv_events.specs.Hearing.{Delivered}
use Rattle.drv_events.specs.Runs.{Act, Adds, Tells, HeardSince, AreAmong, Leads, added, lists_of_added}
use Rattle.drv_events.specs.Runs.{told as told_by}
use Rattle.trail_events.specs.Told.{told}
use Rattle.desk_hooks.specs.Calls.{AreCalls, HeardWhole, Stage}
use Rattle.desk_hooks.specs.Hearing.{AreTold, HearMore}

-- What is among some of these is no longer than they are, and is these where it is as long.
AreAmong-length : {X : Type 0} (us vs : List X) → AreAmong us vs → length us ≤ length vs
AreAmong-length us [] a = let none = ap length a in omega arith
AreAmong-length us (v ∷ vs) (inl a) = let less = AreAmong-length us vs a in omega arith
AreAmong-length us (v ∷ vs) (inr (rest, e, a)) = let less = AreAmong-length rest vs a in let same = ap length e in omega arith

AreAmong-full : {X : Type 0} (us vs : List X) → AreAmong us vs → length us ≡ length vs → us ≡ vs
AreAmong-full us [] a n = a
AreAmong-full us (v ∷ vs) (inl a) n = let less = AreAmong-length us vs a in absurd (omega arith)
AreAmong-full {X} us (v ∷ vs) (inr (rest, e, a)) n = let same = ap length e in e ∙ ap (λ (xs : List X). v ∷ xs) (AreAmong-full rest vs a (omega arith))

module _ {L : Type 0} (heard : L → List Event) (leaves : L → Bool) where
  -- Acts, and then others.
  Leads-append : (acts more : List (Act L)) (xs ys zs : List L) (m n k : ℕ) → Leads heard leaves acts xs m ys n → Leads heard leaves more ys n zs k →
      Leads heard leaves (acts ++ more) xs m zs k
  Leads-append [] more xs ys zs m n k h rest =
      subst (λ (us : List L). Leads heard leaves more us m zs k) h.0 (subst (λ (j : ℕ). Leads heard leaves more ys j zs k) h.1 rest)
  Leads-append (Adds x ∷ acts) more xs ys zs m n k h rest = Leads-append acts more (xs ++ x ∷ []) ys zs m n k h rest
  Leads-append (Tells e ∷ acts) more xs ys zs m n k (us, j, d, c, h) rest = (us, j, d, c, Leads-append acts more us ys zs j n k h rest)

  AreTold-nil : (hooks : HooksOf L) → AreTold heard leaves [] hooks hooks
  AreTold-nil hooks = (refl, refl)

  pub AreTold-one : (e : Event) (old new : HooksOf L) → Delivered heard leaves e old.listeners.items new.listeners.items →
      new.left + length new.listeners.items ≡ old.left + length old.listeners.items → AreTold heard leaves (e ∷ []) old new
  AreTold-one e old new d c = (new.listeners.items, new.left, d, c, (refl, refl))

  pub AreTold-append : (es fs : List Event) (x y z : HooksOf L) → AreTold heard leaves es x y → AreTold heard leaves fs y z → AreTold heard leaves (es ++ fs) x z
  AreTold-append es fs x y z a b =
      subst (λ (acts : List (Act L)). Leads heard leaves acts x.listeners.items x.left z.listeners.items z.left) (sym (map-append (λ e. Tells e) es fs))
      (Leads-append (map (λ e. Tells e) es) (map (λ e. Tells e) fs) x.listeners.items y.listeners.items z.listeners.items x.left y.left z.left a b)

  -- ---- What is appended to a trail, and behind that

  pub HearMore-same : (a : List (Timed Fact)) (x : HooksOf L) → HearMore heard leaves a a x x
  HearMore-same a x = record { events = []; told_is = sym (append-nil (told a)); heard_all = AreTold-nil x }

  pub HearMore-trans : (a b c : List (Timed Fact)) (x y z : HooksOf L) → HearMore heard leaves a b x y → HearMore heard leaves b c y z → HearMore heard leaves a c x z
  HearMore-trans a b c x y z h k = record {
    events = h.events ++ k.events;
    told_is = k.told_is ∙ ap (λ (es : List Event). es ++ k.events) h.told_is ∙ append_assoc (told a) h.events k.events;
    heard_all = AreTold-append h.events k.events x y z h.heard_all k.heard_all;
  }

  -- What a trail tells is heard from its beginning.
  pub AreTold-from_HearMore : (a : List (Timed Fact)) (x y : HooksOf L) → HearMore heard leaves [] a x y → AreTold heard leaves (told a) x y
  AreTold-from_HearMore a x y h = subst (λ (es : List Event). AreTold heard leaves es x y) (sym h.told_is) h.heard_all

  -- ---- Many calls

  HearMore-calls : (s t : Stage L) (between : List (Stage L)) → AreCalls heard leaves s (between ++ t ∷ []) → HearMore heard leaves s.facts t.facts s.hooks t.hooks
  HearMore-calls s t [] h = h.0
  HearMore-calls s t (u ∷ us) h = HearMore-trans s.facts u.facts t.facts s.hooks u.hooks t.hooks h.0 (HearMore-calls u t us h.1)

  pub AreTold-calls : (start : HooksOf L) (first : Stage L) (between : List (Stage L)) (last : Stage L) → AreTold heard leaves (told first.facts) start first.hooks →
      AreCalls heard leaves first (between ++ last ∷ []) → AreTold heard leaves (told last.facts) start last.hooks
  AreTold-calls start first between last began calls =
      let more = HearMore-calls first last between calls in
      subst (λ (es : List Event). AreTold heard leaves es start last.hooks) (sym more.told_is)
      (AreTold-append (told first.facts) more.events start first.hooks last.hooks began more.heard_all)

  -- ---- Acts that tell events, and add none

  told_by-tells : (es : List Event) → told_by {S = L} (map (λ e. Tells e) es) ≡ es
  told_by-tells [] = refl
  told_by-tells (e ∷ es) = ap (λ (fs : List Event). e ∷ fs) (told_by-tells es)

  none-added : (es : List Event) → added {S = L} (map (λ e. Tells e) es) ≡ 0
  none-added [] = refl
  none-added (e ∷ es) = none-added es

  no-lists : (es : List Event) → lists_of_added {S = L} heard (map (λ e. Tells e) es) ≡ []
  no-lists [] = refl
  no-lists (e ∷ es) = no-lists es

  pub heard-whole : (es : List Event) (old new : HooksOf L) → HeardSince heard (map (λ e. Tells e) es) old.listeners.items new.listeners.items →
      new.left + length new.listeners.items ≡ old.left + length old.listeners.items + added {S = L} (map (λ e. Tells e) es) → HeardWhole heard es old new
  heard-whole es old new among counts =
      let none = none-added es in
      let now = map heard new.listeners.items in
      let ahead = map (λ x. heard x ++ es) old.listeners.items in
      let heard_all : AreAmong now ahead =
      subst (λ (ls : List (List Event)). AreAmong now ls)
      (ap (λ (ls : List (List Event)). map (λ x. heard x ++ told_by {S = L} (map (λ e. Tells e) es)) old.listeners.items ++ ls) (no-lists es)
      ∙ append-nil (map (λ x. heard x ++ told_by {S = L} (map (λ e. Tells e) es)) old.listeners.items)
      ∙ ap (λ (fs : List Event). map (λ x. heard x ++ fs) old.listeners.items) (told_by-tells es))
      among in
      record {
        heard_all = heard_all;
        counted = omega arith;
        all_stayed = λ (stay : new.left ≡ old.left).
            AreAmong-full now ahead heard_all (omega (arith, length-map new.listeners.items heard, length-map old.listeners.items (λ x. heard x ++ es)));
      }
