-- What each event keeps of the logs: each key stands at most once in each, and an acknowledged one in that of the last elected member.
use Rattle.std.proofs.Common.{◌≡◌, ◌≤◌, ◌+◌, ℕ, Bool, true, false, List, [], ◌∷◌, ◌++◌, cond, eqb, refl, ap, ◌∙◌, inl, inr, arith}
use Rattle.std.proofs.lemmas.Bool.{and_parts, eqb-true, eq-eqb, false≢true, or_cases}
use Rattle.std.proofs.lemmas.Bool.Decides.{eqb_tells}
use Rattle.std.specs.Prelude.{◌&&◌}
use Rattle.net_link.specs.declared.event.Effect.{Effect}
use Rattle.net_link.specs.declared.event.Effect.TheVariants.{Added, Known, Refused, Nothing}
use Rattle.net_link.specs.declared.event.NetEvent.{NetEvent}
use Rattle.net_link.specs.declared.event.NetEvent.TheVariants as event
use Rattle.member_core.specs.Honest.{Fits}
use Rattle.member_core.specs.Keys.{same_key}
use Rattle.member_core.specs.Logs.{SetState, acks, elected, entry_at, followed, gained, handled, after_event, key_at, update_at, start, times}
use Rattle.member_core.specs.declared.key.Key.{Key}
use Rattle.member_core.specs.declared.log.LogEntry.{LogEntry}
use Rattle.member_core.proofs.Counts.{same_key-is, times-append, times-filter, times-one_below, times-one_other, times-one_same}

pub record IsSound (w : SetState) : Type 0 where
  pub once : (member : ℕ) (key : Key) → times key (w.log member) ≤ 1
  pub kept : (key : Key) → w.acked key ≡ true → 1 ≤ times key (w.log w.last)

-- ---- a change at one place

pub update_keeps : {A : Type 0} (P : A → Type 0) (f : ℕ → A) (place : ℕ) (v : A) → P v → ((n : ℕ) → P (f n)) → (n : ℕ) → P (update_at f place v n)
update_keeps P f place v here others n = elim (eqb n place) as (λ b. P (cond b v (f n))) [ true ↦ here | false ↦ others n ]

pub update_at-here : {A : Type 0} (f : ℕ → A) (place : ℕ) (v : A) → update_at f place v place ≡ v
update_at-here f place v = ap (λ b. cond b v (f place)) (eq-eqb place place refl)

update_grows_at : (log : ℕ → List LogEntry) (m : ℕ) (more : List LogEntry) (key : Key) (n : ℕ) (b : Bool) → eqb n m ≡ b → times key (log n) ≤ times key (cond b (log m ++ more) (log n))
update_grows_at log m more key n true e = omega (arith, times-append key (log m) more, ap (λ k. times key (log k)) (eqb-true n m e))
update_grows_at log m more key n false e = omega arith

-- No log loses by entries at the end of one.
update_grows : (log : ℕ → List LogEntry) (m : ℕ) (more : List LogEntry) (key : Key) (n : ℕ) → times key (log n) ≤ times key (update_at log m (log m ++ more) n)
update_grows log m more key n = update_grows_at log m more key n (eqb n m) refl

-- ---- a request

-- What the law needs of an effect.
abbrev pub FitsLog : SetState → ℕ → Key → Effect → Type 0
FitsLog w m key Added = times key (w.log m) ≡ 0
FitsLog w m key Known = 1 ≤ times key (w.log m)
FitsLog w m key Refused = Unit {0}
FitsLog w m key Nothing = Unit {0}

pub fits_log : (w : SetState) (m : ℕ) (key : Key) (write : Bool) (effect : Effect) → Fits w m key write effect → FitsLog w m key effect
fits_log w m key true Added fits = fits.1
fits_log w m key true Known fits = fits.1
fits_log w m key true Refused fits = tt
fits_log w m key true Nothing fits = tt
fits_log w m key false Added fits = absurd fits
fits_log w m key false Known fits = absurd fits
fits_log w m key false Refused fits = tt
fits_log w m key false Nothing fits = tt

added_once_at : (w : SetState) (m : ℕ) (entry : LogEntry) → IsSound w → times entry.key (w.log m) ≡ 0 → (key : Key) (b : Bool) → same_key entry.key key ≡ b → times key (w.log m ++ entry ∷ []) ≤ 1
added_once_at w m entry sound lacks key true e =
    omega (arith, times-append key (w.log m) (entry ∷ []), ap (λ k. times k (w.log m)) (same_key-is entry.key key e), times-one_below key entry)
added_once_at w m entry sound lacks key false e = omega (arith, times-append key (w.log m) (entry ∷ []), times-one_other key entry e, sound.once m key)

added_kept : (w : SetState) (m : ℕ) (entry : LogEntry) → IsSound w → (key : Key) → acks w m entry.key key ≡ true → 1 ≤ times key (update_at w.log m (w.log m ++ entry ∷ []) w.last)
added_kept w m entry sound key acked =
    elim (or_cases (eqb w.last m && same_key entry.key key) (w.acked key) acked) [
      | inl now ↦
          let both = and_parts (eqb w.last m) (same_key entry.key key) now in
          let there : update_at w.log m (w.log m ++ entry ∷ []) w.last ≡ w.log m ++ entry ∷ [] = ap (λ b. cond b (w.log m ++ entry ∷ []) (w.log w.last)) both.0 in
          omega (arith, ap (times key) there, times-append key (w.log m) (entry ∷ []), times-one_same key entry both.1)
      | inr before ↦ omega (arith, sound.kept key before, update_grows w.log m (entry ∷ []) key w.last)
    ]

known_kept : (w : SetState) (m : ℕ) (entry : LogEntry) → IsSound w → 1 ≤ times entry.key (w.log m) → (key : Key) → acks w m entry.key key ≡ true → 1 ≤ times key (w.log w.last)
known_kept w m entry sound has key acked =
    elim (or_cases (eqb w.last m && same_key entry.key key) (w.acked key) acked) [
      | inl now ↦
          let both = and_parts (eqb w.last m) (same_key entry.key key) now in
          omega (arith, ap (λ k. times k (w.log m)) (same_key-is entry.key key both.1), ap (λ n. times key (w.log n)) (eqb-true w.last m both.0))
      | inr before ↦ sound.kept key before
    ]

pub sound_handled : (w : SetState) (m : ℕ) (entry : LogEntry) (effect : Effect) → IsSound w → FitsLog w m entry.key effect → IsSound (handled w m entry effect)
sound_handled w m entry Added sound lacks = record {
  once = λ n key. update_keeps (λ log. times key log ≤ 1) w.log m (w.log m ++ entry ∷ []) (added_once_at w m entry sound lacks key (same_key entry.key key) refl) (λ k. sound.once k key) n;
  kept = added_kept w m entry sound;
}
sound_handled w m entry Known sound has = record { once = sound.once; kept = known_kept w m entry sound has }
sound_handled w m entry Refused sound fits = sound
sound_handled w m entry Nothing sound fits = sound

-- ---- an election

pub times-elected : (w : SetState) (m : ℕ) (key : Key) → times key (w.log m ++ gained w m) ≡ times key (w.log m) + cond (w.acked key && eqb (times key (w.log m)) 0) (times key (w.log w.last)) 0
times-elected w m key =
    times-append key (w.log m) (gained w m)
    ∙ ap (λ n. times key (w.log m) + n) (times-filter key (λ k. w.acked k && eqb (times k (w.log m)) 0) (w.log w.last))

elected_once_at : (w : SetState) (m : ℕ) (key : Key) (b : Bool) → IsSound w → (w.acked key && eqb (times key (w.log m)) 0) ≡ b → times key (w.log m) + cond b (times key (w.log w.last)) 0 ≤ 1
elected_once_at w m key true sound e =
    let both = and_parts (w.acked key) (eqb (times key (w.log m)) 0) e in
    omega (arith, eqb-true (times key (w.log m)) 0 both.1, sound.once w.last key)
elected_once_at w m key false sound e = omega (arith, sound.once m key)

elected_once : (w : SetState) (m : ℕ) → IsSound w → (key : Key) → times key (w.log m ++ gained w m) ≤ 1
elected_once w m sound key = omega (arith, times-elected w m key, elected_once_at w m key (w.acked key && eqb (times key (w.log m)) 0) sound refl)

elected_kept_at : (w : SetState) (m : ℕ) (key : Key) → IsSound w → w.acked key ≡ true → 1 ≤ times key (w.log m) + cond (w.acked key && eqb (times key (w.log m)) 0) (times key (w.log w.last)) 0
elected_kept_at w m key sound acked =
    elim (eqb_tells (times key (w.log m)) 0) [
      | inl none ↦
          let both : (w.acked key && eqb (times key (w.log m)) 0) ≡ true = λ i. acked i && none.0 i in
          let gain : cond (w.acked key && eqb (times key (w.log m)) 0) (times key (w.log w.last)) 0 ≡ times key (w.log w.last) = ap (λ b. cond b (times key (w.log w.last)) 0) both in
          omega (arith, gain, sound.kept key acked)
      | inr some ↦ let least : 1 ≤ times key (w.log m) = omega (arith, some.1) in omega arith
    ]

elected_kept : (w : SetState) (m : ℕ) → IsSound w → (key : Key) → w.acked key ≡ true → 1 ≤ times key (update_at w.log m (w.log m ++ gained w m) m)
elected_kept w m sound key acked = omega (arith, ap (times key) (update_at-here w.log m (w.log m ++ gained w m)), times-elected w m key, elected_kept_at w m key sound acked)

pub sound_elected : (w : SetState) (m : ℕ) → IsSound w → IsSound (elected w m)
sound_elected w m sound = record {
  once = λ n key. update_keeps (λ log. times key log ≤ 1) w.log m (w.log m ++ gained w m) (elected_once w m sound key) (λ k. sound.once k key) n;
  kept = elected_kept w m sound;
}

-- ---- a following

pub sound_followed : (w : SetState) (m : ℕ) → IsSound w → eqb w.last m ≡ false → IsSound (followed w m)
sound_followed w m sound other = record {
  once = λ n key. update_keeps (λ log. times key log ≤ 1) w.log m (w.log w.last) (sound.once w.last key) (λ k. sound.once k key) n;
  kept = λ key acked. let there : update_at w.log m (w.log w.last) w.last ≡ w.log w.last = ap (λ b. cond b (w.log w.last) (w.log w.last)) other in omega (arith, ap (times key) there, sound.kept key acked);
}

sound_following : (w : SetState) (m : ℕ) (b : Bool) → IsSound w → eqb w.last m ≡ b → IsSound (cond b w (followed w m))
sound_following w m true sound e = sound
sound_following w m false sound e = sound_followed w m sound e

-- ---- any event

pub sound_start : IsSound start
sound_start = record { once = λ m key. omega arith; kept = λ key acked. absurd (false≢true acked) }

pub sound_after_event : (w : SetState) (e : NetEvent) → IsSound w → ((m s n : ℕ) (effect : Effect) → e ≡ event.Handled m s n effect → FitsLog w m (key_at w s n) effect) → IsSound (after_event w e)
sound_after_event w (event.Dialled s address) sound fits = sound
sound_after_event w (event.NoDial address) sound fits = sound
sound_after_event w (event.Out s bytes) sound fits = record { once = sound.once; kept = sound.kept }
sound_after_event w (event.Came s bytes) sound fits = record { once = sound.once; kept = sound.kept }
sound_after_event w (event.Ended s) sound fits = sound
sound_after_event w (event.Fault s) sound fits = sound
sound_after_event w (event.Closed s) sound fits = sound
sound_after_event w (event.Dry s) sound fits = sound
sound_after_event w (event.Full s) sound fits = sound
sound_after_event w (event.Handled m s n effect) sound fits = sound_handled w m (entry_at w s n) effect sound (fits m s n effect refl)
sound_after_event w (event.Elected m) sound fits = sound_elected w m sound
sound_after_event w (event.Followed m) sound fits = sound_following w m (eqb w.last m) sound refl
