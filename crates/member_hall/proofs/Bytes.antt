-- The bytes of a stream behind one more event.
use Rattle.std.proofs.Common.{◌≡◌, ℕ, Bool, true, false, List, [], ◌∷◌, ◌++◌, cond, eqb, ne_eqb, refl, sym, ap, ◌∙◌}
use Rattle.std.proofs.lemmas.Bool.{eqb-false}
use Rattle.std.specs.List.{fold}
use Rattle.net_link.specs.Events.{IsFresh, is_at}
use Rattle.net_link.specs.declared.event.Effect.{Effect}
use Rattle.net_link.specs.declared.event.Effect.TheVariants.{Added, Known, Refused, Nothing}
use Rattle.net_link.specs.declared.event.NetEvent.{NetEvent}
use Rattle.net_link.specs.declared.event.NetEvent.TheVariants as event
use Rattle.std.proofs.lemmas.List.Elements.{All-head, All-tail}
use Rattle.member_core.specs.Logs.{SetState, after_event, entry_at, followed, handled, set_after, start}
use Rattle.member_core.specs.declared.log.LogEntry.{LogEntry}
use Rattle.member_core.proofs.Runs.{set_after-more}

pub number_apart : (t s : ℕ) → eqb t s ≡ false → eqb s t ≡ false
number_apart t s apart = ne_eqb s t (λ same. eqb-false t s apart (sym same))

-- ---- a member's act moves no byte

out-handled : (w : SetState) (m : ℕ) (entry : LogEntry) (effect : Effect) → (handled w m entry effect).out ≡ w.out
out-handled w m entry Added = refl
out-handled w m entry Known = refl
out-handled w m entry Refused = refl
out-handled w m entry Nothing = refl

came-handled : (w : SetState) (m : ℕ) (entry : LogEntry) (effect : Effect) → (handled w m entry effect).came ≡ w.came
came-handled w m entry Added = refl
came-handled w m entry Known = refl
came-handled w m entry Refused = refl
came-handled w m entry Nothing = refl

last-handled : (w : SetState) (m : ℕ) (entry : LogEntry) (effect : Effect) → (handled w m entry effect).last ≡ w.last
last-handled w m entry Added = refl
last-handled w m entry Known = refl
last-handled w m entry Refused = refl
last-handled w m entry Nothing = refl

out-followed : (w : SetState) (m : ℕ) (b : Bool) → (let v : SetState = cond b w (followed w m) in v.out) ≡ w.out
out-followed w m true = refl
out-followed w m false = refl

came-followed : (w : SetState) (m : ℕ) (b : Bool) → (let v : SetState = cond b w (followed w m) in v.came) ≡ w.came
came-followed w m true = refl
came-followed w m false = refl

-- ---- an event that does not name a stream moves none of its bytes

out_apart : (w : SetState) (e : NetEvent) (s : ℕ) → is_at e s ≡ false → (after_event w e).out s ≡ w.out s
out_apart w (event.Out t bytes) s apart = ap (λ b. cond b (w.out t ++ bytes) (w.out s)) (number_apart t s apart)
out_apart w (event.Handled m t n effect) s apart = ap (λ (f : ℕ → List ℕ). f s) (out-handled w m (entry_at w t n) effect)
out_apart w (event.Followed m) s apart = ap (λ (f : ℕ → List ℕ). f s) (out-followed w m (eqb w.last m))
out_apart w e s apart = refl

came_apart : (w : SetState) (e : NetEvent) (s : ℕ) → is_at e s ≡ false → (after_event w e).came s ≡ w.came s
came_apart w (event.Came t bytes) s apart = ap (λ b. cond b (w.came t ++ bytes) (w.came s)) (number_apart t s apart)
came_apart w (event.Handled m t n effect) s apart = ap (λ (f : ℕ → List ℕ). f s) (came-handled w m (entry_at w t n) effect)
came_apart w (event.Followed m) s apart = ap (λ (f : ℕ → List ℕ). f s) (came-followed w m (eqb w.last m))
came_apart w e s apart = refl

pub out-apart : (events : List NetEvent) (e : NetEvent) (s : ℕ) → is_at e s ≡ false → (set_after (events ++ e ∷ [])).out s ≡ (set_after events).out s
out-apart events e s apart = ap (λ (w : SetState). w.out s) (set_after-more events e) ∙ out_apart (set_after events) e s apart

pub came-apart : (events : List NetEvent) (e : NetEvent) (s : ℕ) → is_at e s ≡ false → (set_after (events ++ e ∷ [])).came s ≡ (set_after events).came s
came-apart events e s apart = ap (λ (w : SetState). w.came s) (set_after-more events e) ∙ came_apart (set_after events) e s apart

-- ---- a handled request moves none either

pub out-after_handled : (events : List NetEvent) (m t n : ℕ) (effect : Effect) (s : ℕ) → (set_after (events ++ event.Handled m t n effect ∷ [])).out s ≡ (set_after events).out s
out-after_handled events m t n effect s =
    ap (λ (w : SetState). w.out s) (set_after-more events (event.Handled m t n effect)) ∙ ap (λ (f : ℕ → List ℕ). f s) (out-handled (set_after events) m (entry_at (set_after events) t n) effect)

pub came-after_handled : (events : List NetEvent) (m t n : ℕ) (effect : Effect) (s : ℕ) → (set_after (events ++ event.Handled m t n effect ∷ [])).came s ≡ (set_after events).came s
came-after_handled events m t n effect s =
    ap (λ (w : SetState). w.came s) (set_after-more events (event.Handled m t n effect)) ∙ ap (λ (f : ℕ → List ℕ). f s) (came-handled (set_after events) m (entry_at (set_after events) t n) effect)

pub last-after_handled : (events : List NetEvent) (m t n : ℕ) (effect : Effect) → (set_after (events ++ event.Handled m t n effect ∷ [])).last ≡ (set_after events).last
last-after_handled events m t n effect =
    ap (λ (w : SetState). w.last) (set_after-more events (event.Handled m t n effect)) ∙ last-handled (set_after events) m (entry_at (set_after events) t n) effect

-- ---- of a stream that no event names nothing went out, and nothing came

came_fresh : (w : SetState) (events : List NetEvent) (s : ℕ) → IsFresh s events → (fold after_event w events).came s ≡ w.came s
came_fresh w [] s fresh = refl
came_fresh w (e ∷ events) s fresh =
    came_fresh (after_event w e) events s (All-tail (λ x. is_at x s ≡ false) e events fresh)
    ∙ came_apart w e s (All-head (λ x. is_at x s ≡ false) e events fresh)

out_fresh : (w : SetState) (events : List NetEvent) (s : ℕ) → IsFresh s events → (fold after_event w events).out s ≡ w.out s
out_fresh w [] s fresh = refl
out_fresh w (e ∷ events) s fresh =
    out_fresh (after_event w e) events s (All-tail (λ x. is_at x s ≡ false) e events fresh)
    ∙ out_apart w e s (All-head (λ x. is_at x s ≡ false) e events fresh)

pub came-fresh : (events : List NetEvent) (s : ℕ) → IsFresh s events → (set_after events).came s ≡ []
unfolding set_after
came-fresh events s fresh = came_fresh start events s fresh

pub out-fresh : (events : List NetEvent) (s : ℕ) → IsFresh s events → (set_after events).out s ≡ []
unfolding set_after
out-fresh events s fresh = out_fresh start events s fresh
