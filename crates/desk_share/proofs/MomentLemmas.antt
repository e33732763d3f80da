-- The moments of entries that are appended to a trail.
use Rattle.std.proofs.Common.{◌≡◌, ◌⊎◌, inl, inr, ℕ, ◌^◌, min, max, sym, ◌∙◌, subst, arith}
use Rattle.std.proofs.lemmas.Bool.Decides.{leb_tells}
use Rattle.std.proofs.lemmas.List.Elements.{All-append}
use Rattle.desk_trail.specs.declared.step.Step.{Step}
use Rattle.desk_trail.specs.Clients.{Client}
use Rattle.legal_trail.specs.Recorded.{Recorded}
use Rattle.desk_core.specs.Appends.{Appends}
use Rattle.desk_core.specs.State.{Desk, now_of}
use Rattle.desk_share.specs.Shared.{AreOfClock, AreShown, IsShown}

-- The moment of a step is the last one, the clock's, or the greatest.
pub shown-now : (shows : ℕ → Type 0) (last moment : ℕ) → IsShown shows last → shows moment → IsShown shows (now_of last moment)
shown-now shows last moment before seen = by (max-is last (min moment (2 ^ 62))) (min-is moment (2 ^ 62))
  where
    max-is : (a b : ℕ) → (max a b ≡ a) ⊎ (max a b ≡ b)
    max-is a b = elim (leb_tells a b) [
      | inl w ↦ inr (let most : max a b ≡ b = omega (arith, w.1) in most)
      | inr w ↦ inl (let most : max a b ≡ a = omega (arith, w.1) in most)
    ]

    min-is : (a b : ℕ) → (min a b ≡ a) ⊎ (min a b ≡ b)
    min-is a b = elim (leb_tells a b) [
      | inl w ↦ inl (let least : min a b ≡ a = omega (arith, w.1) in least)
      | inr w ↦ inr (let least : min a b ≡ b = omega (arith, w.1) in least)
    ]

    by : (max last (min moment (2 ^ 62)) ≡ last) ⊎ (max last (min moment (2 ^ 62)) ≡ min moment (2 ^ 62)) →
        (min moment (2 ^ 62) ≡ moment) ⊎ (min moment (2 ^ 62) ≡ 2 ^ 62) → IsShown shows (now_of last moment)
    by (inl e) k = subst (IsShown shows) (sym e) before
    by (inr e) (inl k) = subst (IsShown shows) (sym (e ∙ k)) (inl seen)
    by (inr e) (inr k) = inr (e ∙ k)

-- Entries of one moment came behind others.
pub shown-more : (shows : ℕ → Type 0) (failed : Type 0) (moment : ℕ) (old new : Recorded) → IsShown shows moment → Appends failed moment old new →
    AreShown shows old.steps → AreShown shows new.steps
shown-more shows failed moment old new seen appends are =
    subst (AreShown shows) (sym appends.steps)
    (All-append (λ (s : Step). IsShown shows s.moment) old.steps appends.added are (λ k d l. subst (IsShown shows) (sym (appends.moments k d l)) seen))

pub clock-more : {N P : Type 0} (shows : ℕ → Type 0) (failed : Type 0) (moment : ℕ) (old new : Desk N P) → shows moment → new.last ≡ now_of old.last moment →
    Appends failed (now_of old.last moment) old.trail new.trail → AreOfClock shows old → AreOfClock shows new
clock-more shows failed moment old new seen last appends are = record {
  began = subst (λ (c : Client). IsShown shows c.began) (sym appends.client) are.began;
  steps = shown-more shows failed (now_of old.last moment) old.trail new.trail (shown-now shows old.last moment are.last seen) appends are.steps;
  last = subst (IsShown shows) (sym last) (shown-now shows old.last moment are.last seen);
}
