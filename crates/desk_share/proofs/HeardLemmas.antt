-- What listeners heard that are told what is appended to a trail.
use Rattle.std.proofs.Common.{◌≡◌, inl, inr, ℕ, ◌+◌, Bool, List, [], ◌∷◌, ◌++◌, length, map, refl, sym, ap, ◌∙◌, subst, All, arith}
use Rattle.std.proofs.lemmas.List.{append-nil}
use Rattle.std.proofs.lemmas.List.Elements.{All-cons, All-head, All-nil, All-tail}
use Rattle.entry_judge.specs.declared.timed.Timed.{Timed}
use Rattle.desk_trail.specs.Facts.{Fact}
use Rattle.drv_events.specs.declared.event.Event.{Event}
use Rattle.drv_events.specs.declared.hooks.HooksOf.{HooksOf}
use Rattle.drv_events.specs.Runs.{Act, AreAmong, HeardSince, Leads, Tells, added, lists_of, lists_of_added}
use Rattle.drv_events.specs.Runs.{told as told_by}
use Rattle.trail_events.specs.Told.{told}
use Rattle.desk_hooks.specs.Hearing.{AreTold, HearMore}
use Rattle.desk_share.specs.Shared.{HeardAll, HeardNothing, listeners_in}

AreAmong-all : {X : Type 0} (P : X → Type 0) (us vs : List X) → AreAmong us vs → All P vs → All P us
AreAmong-all P us [] a all = subst (All P) (sym a) (All-nil P)
AreAmong-all P us (v ∷ vs) (inl a) all = AreAmong-all P us vs a (All-tail P v vs all)
AreAmong-all P us (v ∷ vs) (inr (rest, e, a)) all = subst (All P) (sym e) (All-cons P v rest (All-head P v vs all) (AreAmong-all P rest vs a (All-tail P v vs all)))

All-from_map : {A B : Type 0} (f : A → B) (P : B → Type 0) (xs : List A) → All P (map f xs) → All (λ x. P (f x)) xs
All-from_map f P [] all = All-nil (λ x. P (f x))
All-from_map f P (x ∷ xs) all = All-cons (λ y. P (f y)) x xs (All-head P (f x) (map f xs) all) (All-from_map f P xs (All-tail P (f x) (map f xs) all))

All-to_map : {A B : Type 0} (f : A → B) (P : B → Type 0) (xs : List A) → All (λ x. P (f x)) xs → All P (map f xs)
All-to_map f P [] all = All-nil P
All-to_map f P (x ∷ xs) all = All-cons P (f x) (map f xs) (All-head (λ y. P (f y)) x xs all) (All-to_map f P xs (All-tail (λ y. P (f y)) x xs all))

module _ {L : Type 0} (heard_by : L → List Event) (leaves : L → Bool) where
  told_by-tells : (es : List Event) → told_by {S = L} (map (λ e. Tells e) es) ≡ es
  told_by-tells [] = refl
  told_by-tells (e ∷ es) = ap (λ (fs : List Event). e ∷ fs) (told_by-tells es)

  no-lists : (es : List Event) → lists_of_added {S = L} heard_by (map (λ e. Tells e) es) ≡ []
  no-lists [] = refl
  no-lists (e ∷ es) = no-lists es

  -- Behind every list of acts each heard what was told since.
  abbrev pub Law : Type 0
  Law = (acts : List (Act L)) (xs ys : List L) (m n : ℕ) → Leads heard_by leaves acts xs m ys n → HeardSince heard_by acts xs ys

  pub heard-more : Law → (before after : List (Timed Fact)) (old new : HooksOf L) → HearMore heard_by leaves before after old new →
      HeardAll heard_by before old.listeners.items → HeardAll heard_by after new.listeners.items
  heard-more law before after old new more all =
      All-from_map heard_by Is new.listeners.items (AreAmong-all Is (map heard_by new.listeners.items) (lists_of heard_by old.listeners.items acts) among each)
    where
      acts : List (Act L)
      acts = map (λ e. Tells e) more.events

      Is : List Event → Type 0
      Is es = es ≡ told after

      among : AreAmong (map heard_by new.listeners.items) (lists_of heard_by old.listeners.items acts)
      among = law acts old.listeners.items new.listeners.items old.left new.left more.heard_all

      lists : lists_of heard_by old.listeners.items acts ≡ map (λ x. heard_by x ++ told_by acts) old.listeners.items
      lists = ap (λ (ls : List (List Event)). map (λ x. heard_by x ++ told_by acts) old.listeners.items ++ ls) (no-lists more.events)
          ∙ append-nil (map (λ x. heard_by x ++ told_by acts) old.listeners.items)

      each : All Is (lists_of heard_by old.listeners.items acts)
      each = subst (All Is) (sym lists)
          (All-to_map (λ x. heard_by x ++ told_by acts) Is old.listeners.items
          (λ k d l. ap (λ (es : List Event). es ++ told_by acts) (all k d l) ∙ ap (λ (es : List Event). told before ++ es) (told_by-tells more.events) ∙ sym more.told_is))

  -- So did listeners that had heard nothing, of all that was told.
  pub heard-first : Law → (after : List (Timed Fact)) (old new : HooksOf L) → AreTold heard_by leaves (told after) old new →
      HeardNothing heard_by old.listeners.items → HeardAll heard_by after new.listeners.items
  heard-first law after old new told_all none = heard-more law [] after old new (record { events = told after; told_is = refl; heard_all = told_all }) none

  -- ---- How many there are and were

  none-added : (es : List Event) → added {S = L} (map (λ e. Tells e) es) ≡ 0
  none-added [] = refl
  none-added (e ∷ es) = none-added es

  -- Those that are there and those that left are as many behind every list of acts as were there and were added.
  abbrev pub CountLaw : Type 0
  CountLaw = (acts : List (Act L)) (xs ys : List L) (m n : ℕ) → Leads heard_by leaves acts xs m ys n → n + length ys ≡ m + length xs + added acts

  pub counted-more : CountLaw → (before after : List (Timed Fact)) (old new : HooksOf L) → HearMore heard_by leaves before after old new → listeners_in new ≡ listeners_in old
  counted-more law before after old new more =
      let none : added {S = L} (map (λ e. Tells e) more.events) ≡ 0 = none-added more.events in
      let all = law (map (λ e. Tells e) more.events) old.listeners.items new.listeners.items old.left new.left more.heard_all in
      omega (arith, all, none)
