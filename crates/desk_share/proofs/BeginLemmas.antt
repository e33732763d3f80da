-- A desk that was just made.
use Rattle.std.proofs.Common.{◌≡◌, ℕ, ◌^◌, inl, inr, Bool, List, min, sym, subst, arith, All}
use Rattle.std.proofs.lemmas.Bool.Decides.{leb_tells}
use Rattle.drv_events.specs.declared.event.Event.{Event}
use Rattle.drv_events.specs.declared.hooks.HooksOf.{HooksOf}
use Rattle.desk_trail.specs.declared.step.Step.{Step}
use Rattle.legal_trail.specs.Recorded.{told_in}
use Rattle.trail_events.specs.Told.{told}
use Rattle.desk_core.specs.Appends.{AreQuiet, TellsNone}
use Rattle.desk_hooks.specs.Hearing.{AreTold}
use Rattle.desk_hooks.specs.State.{HookedDesk}
use Rattle.desk_share.specs.Shared.{AreShown, Begins, HeardNothing, IsShown}
use Rattle.desk_share.proofs.HeardLemmas.{Law, heard-first}

min-shown : (shows : ℕ → Type 0) (moment : ℕ) → shows moment → IsShown shows (min moment (2 ^ 62))
min-shown shows moment seen = elim (leb_tells moment (2 ^ 62)) [
  | inl w ↦ subst (IsShown shows) (let least : moment ≡ min moment (2 ^ 62) = omega (arith, w.1) in least) (inl seen)
  | inr w ↦ inr (let least : min moment (2 ^ 62) ≡ 2 ^ 62 = omega (arith, w.1) in least)
]

shown-all : (shows : ℕ → Type 0) (moment : ℕ) (steps : List Step) → IsShown shows moment → All (λ (s : Step). s.moment ≡ moment) steps → AreShown shows steps
shown-all shows moment steps seen at = λ k d l. subst (IsShown shows) (sym (at k d l)) seen

pub begins : {N P L : Type 0} (heard_by : L → List Event) (leaves : L → Bool) → Law heard_by leaves → (shows : ℕ → Type 0) (moment : ℕ) (given : HooksOf L) (h : HookedDesk N P L) → shows moment →
    h.desk.trail.client.began ≡ min moment (2 ^ 62) → h.desk.last ≡ min moment (2 ^ 62) → AreQuiet (min moment (2 ^ 62)) h.desk.trail.steps →
    TellsNone (told_in h.desk.trail) → HeardNothing heard_by given.listeners.items → AreTold heard_by leaves (told (told_in h.desk.trail)) given h.hooks →
    Begins shows heard_by h
begins heard_by leaves law shows moment given h seen began last quiet none nothing told_all = record {
  unstepped = none;
  faultless = quiet.faultless;
  moments = record {
    began = subst (IsShown shows) (sym began) (min-shown shows moment seen);
    steps = shown-all shows (min moment (2 ^ 62)) h.desk.trail.steps (min-shown shows moment seen) quiet.moments;
    last = subst (IsShown shows) (sym last) (min-shown shows moment seen);
  };
  heard = heard-first heard_by leaves law (told_in h.desk.trail) given h.hooks told_all nothing;
}
