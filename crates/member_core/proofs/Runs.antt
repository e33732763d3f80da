-- What whole histories keep.
use Rattle.std.proofs.Common.{◌≡◌, ℕ, zero, suc, Bool, true, false, List, [], ◌∷◌, ◌++◌, Some, cond, eqb, refl, sym, ap, ◌∙◌, subst, arith, append_assoc, append-nil}
use Rattle.std.proofs.lemmas.Bool.{and_from, eqb-true, eq-eqb, or_left, or_right}
use Rattle.std.proofs.lemmas.List.Sums.{fold-append}
use Rattle.std.specs.Prelude.{◌&&◌}
use Rattle.std.specs.List.{slice_get}
use Rattle.msg_wire.specs.Messages.{behind_messages, messages}
use Rattle.msg_wire.specs.declared.message.Message.{Message}
use Rattle.msg_wire.proofs.Partings.{messages-more}
use Rattle.net_link.specs.declared.event.Effect.{Effect}
use Rattle.net_link.specs.declared.event.Effect.TheVariants.{Added, Known, Refused, Nothing}
use Rattle.net_link.specs.declared.event.NetEvent.{NetEvent}
use Rattle.net_link.specs.declared.event.NetEvent.TheVariants as event
use Rattle.member_core.specs.Honest.{IsHonest, IsPlain, WasPlain}
use Rattle.member_core.specs.Keys.{is_write, same_key}
use Rattle.member_core.specs.Logs.{SetState, entry_at, followed, handled, after_event, key_at, key_in, start, set_after}
use Rattle.member_core.specs.Once.{AtMostOnce, Keeps}
use Rattle.member_core.specs.declared.key.Key.{Key}
use Rattle.member_core.specs.declared.log.LogEntry.{LogEntry}
use Rattle.member_core.proofs.Counts.{same_key-self}
use Rattle.member_core.proofs.Sounds.{IsSound, fits_log, sound_after_event, sound_start}

pub set_after-nil : set_after [] ≡ start
unfolding set_after
set_after-nil = refl

pub set_after-more : (history : List NetEvent) (e : NetEvent) → set_after (history ++ e ∷ []) ≡ after_event (set_after history) e
unfolding set_after
set_after-more history e = fold-append after_event start history (e ∷ [])

-- What each event of a history keeps, all of its events keep.
pub walk : (P : List NetEvent → Type 0) (history rest : List NetEvent)
    → ((before after : List NetEvent) (e : NetEvent) → history ≡ before ++ e ∷ after → P before → P (before ++ e ∷ []))
    → (done todo : List NetEvent) → history ≡ (done ++ todo) ++ rest → P done → P (done ++ todo)
walk P history rest step done [] is p = subst P (sym (append-nil done)) p
walk P history rest step done (e ∷ todo) is p =
    let more : history ≡ ((done ++ e ∷ []) ++ todo) ++ rest = is ∙ ap (λ l. l ++ rest) (sym (append_assoc done (e ∷ []) todo)) in
    let here : history ≡ done ++ e ∷ (todo ++ rest) = is ∙ append_assoc done (e ∷ todo) rest in
    subst P (append_assoc done (e ∷ []) todo) (walk P history rest step (done ++ e ∷ []) todo more (step done (todo ++ rest) e here p))

-- The logs are sound at each moment of an honest history.
pub sound_at : (history before after : List NetEvent) → IsHonest history → history ≡ before ++ after → IsSound (set_after before)
sound_at history before after honest is =
    walk (λ h. IsSound (set_after h)) history after
    (λ front behind e here sound.
    subst IsSound (sym (set_after-more front e))
    (sound_after_event (set_after front) e sound
    (λ m s n effect same.
    let may = honest.handled front behind m s n effect (here ∙ ap (λ x. front ++ x ∷ behind) same) in
    fits_log (set_after front) m (key_at (set_after front) s n) (is_write may.request.body) effect may.fits)))
    [] before is (subst IsSound (sym set_after-nil) sound_start)

-- ---- bytes grow, and what is whole stays

slice_get-append : {X : Type 0} (xs ys : List X) (n : ℕ) (x : X) → slice_get xs n ≡ Some x → slice_get (xs ++ ys) n ≡ Some x
slice_get-append [] ys n x e = absurd cc
slice_get-append (y ∷ xs) ys zero x e = e
slice_get-append (y ∷ xs) ys (suc n) x e = slice_get-append xs ys n x e

pub whole-more : (bytes more : List ℕ) (n : ℕ) (m : Message) → slice_get (messages bytes) n ≡ Some m → slice_get (messages (bytes ++ more)) n ≡ Some m
whole-more bytes more n m e =
    subst (λ (ms : List Message). slice_get ms n ≡ Some m) (sym (messages-more bytes more).0)
    (slice_get-append (messages bytes) (messages (behind_messages bytes ++ more)) n m e)

-- The bytes are the old ones, with perhaps more behind them.
abbrev pub Extends : List ℕ → List ℕ → Type 0
Extends old new = (rest : List ℕ) × (new ≡ old ++ rest)

extends_self : (old new : List ℕ) → new ≡ old → Extends old new
extends_self old new e = ([], e ∙ sym (append-nil old))

extends_both : (a b c : List ℕ) → Extends a b → Extends b c → Extends a c
extends_both a b c p q = (p.0 ++ q.0, q.1 ∙ ap (λ l. l ++ q.0) p.1 ∙ append_assoc a p.0 q.0)

extends_update_at : (f : ℕ → List ℕ) (place : ℕ) (more : List ℕ) (n : ℕ) (b : Bool) → eqb n place ≡ b → Extends (f n) (cond b (f place ++ more) (f n))
extends_update_at f place more n true e = (more, ap (λ k. f k ++ more) (sym (eqb-true n place e)))
extends_update_at f place more n false e = extends_self (f n) (f n) refl

handled-out : (w : SetState) (m : ℕ) (entry : LogEntry) (effect : Effect) → (handled w m entry effect).out ≡ w.out
handled-out w m entry Added = refl
handled-out w m entry Known = refl
handled-out w m entry Refused = refl
handled-out w m entry Nothing = refl

pub handled-came : (w : SetState) (m : ℕ) (entry : LogEntry) (effect : Effect) → (handled w m entry effect).came ≡ w.came
handled-came w m entry Added = refl
handled-came w m entry Known = refl
handled-came w m entry Refused = refl
handled-came w m entry Nothing = refl

following-out : (w : SetState) (m : ℕ) (b : Bool) → (let v : SetState = cond b w (followed w m) in v.out) ≡ w.out
following-out w m true = refl
following-out w m false = refl

following-came : (w : SetState) (m : ℕ) (b : Bool) → (let v : SetState = cond b w (followed w m) in v.came) ≡ w.came
following-came w m true = refl
following-came w m false = refl

out_after_event : (w : SetState) (e : NetEvent) (s : ℕ) → Extends (w.out s) ((after_event w e).out s)
out_after_event w (event.Out t bytes) s = extends_update_at w.out t bytes s (eqb s t) refl
out_after_event w (event.Handled m t n effect) s = extends_self (w.out s) ((handled w m (entry_at w t n) effect).out s) (ap (λ (f : ℕ → List ℕ). f s) (handled-out w m (entry_at w t n) effect))
out_after_event w (event.Followed m) s = extends_self (w.out s) ((after_event w (event.Followed m)).out s) (ap (λ (f : ℕ → List ℕ). f s) (following-out w m (eqb w.last m)))
out_after_event w e s = extends_self (w.out s) (w.out s) refl

came_after_event : (w : SetState) (e : NetEvent) (s : ℕ) → Extends (w.came s) ((after_event w e).came s)
came_after_event w (event.Came t bytes) s = extends_update_at w.came t bytes s (eqb s t) refl
came_after_event w (event.Handled m t n effect) s = extends_self (w.came s) ((handled w m (entry_at w t n) effect).came s) (ap (λ (f : ℕ → List ℕ). f s) (handled-came w m (entry_at w t n) effect))
came_after_event w (event.Followed m) s = extends_self (w.came s) ((after_event w (event.Followed m)).came s) (ap (λ (f : ℕ → List ℕ). f s) (following-came w m (eqb w.last m)))
came_after_event w e s = extends_self (w.came s) (w.came s) refl

out_one : (history : List NetEvent) (e : NetEvent) (s : ℕ) → Extends ((set_after history).out s) ((set_after (history ++ e ∷ [])).out s)
out_one history e s = subst (λ (w : SetState). Extends ((set_after history).out s) (w.out s)) (sym (set_after-more history e)) (out_after_event (set_after history) e s)

pub came_one : (history : List NetEvent) (e : NetEvent) (s : ℕ) → Extends ((set_after history).came s) ((set_after (history ++ e ∷ [])).came s)
came_one history e s = subst (λ (w : SetState). Extends ((set_after history).came s) (w.came s)) (sym (set_after-more history e)) (came_after_event (set_after history) e s)

out_later : (history more : List NetEvent) (s : ℕ) → Extends ((set_after history).out s) ((set_after (history ++ more)).out s)
out_later history [] s = extends_self ((set_after history).out s) ((set_after (history ++ [])).out s) (ap (λ h. (set_after h).out s) (append-nil history))
out_later history (e ∷ more) s =
    subst (λ h. Extends ((set_after history).out s) ((set_after h).out s)) (append_assoc history (e ∷ []) more)
    (extends_both ((set_after history).out s) ((set_after (history ++ e ∷ [])).out s) ((set_after ((history ++ e ∷ []) ++ more)).out s) (out_one history e s) (out_later (history ++ e ∷ []) more s))

whole_extends : (old new : List ℕ) (n : ℕ) (m : Message) → Extends old new → slice_get (messages old) n ≡ Some m → slice_get (messages new) n ≡ Some m
whole_extends old new n m extends e = subst (λ (bytes : List ℕ). slice_get (messages bytes) n ≡ Some m) (sym extends.1) (whole-more old extends.0 n m e)

-- A request that was whole stays where it is.
pub request_later : (history more : List NetEvent) (s n : ℕ) (m : Message) → slice_get (messages ((set_after history).out s)) n ≡ Some m → slice_get (messages ((set_after (history ++ more)).out s)) n ≡ Some m
request_later history more s n m e = whole_extends ((set_after history).out s) ((set_after (history ++ more)).out s) n m (out_later history more s) e

-- So does a reply.
pub reply_one : (history : List NetEvent) (e : NetEvent) (s n : ℕ) (m : Message) → slice_get (messages ((set_after history).came s)) n ≡ Some m → slice_get (messages ((set_after (history ++ e ∷ [])).came s)) n ≡ Some m
reply_one history e s n m whole = whole_extends ((set_after history).came s) ((set_after (history ++ e ∷ [])).came s) n m (came_one history e s) whole

-- ---- what was acknowledged stays so

acked_handled : (w : SetState) (m : ℕ) (entry : LogEntry) (effect : Effect) (key : Key) → w.acked key ≡ true → (handled w m entry effect).acked key ≡ true
acked_handled w m entry Added key e = or_right (eqb w.last m && same_key entry.key key) (w.acked key) e
acked_handled w m entry Known key e = or_right (eqb w.last m && same_key entry.key key) (w.acked key) e
acked_handled w m entry Refused key e = e
acked_handled w m entry Nothing key e = e

acked_following : (w : SetState) (m : ℕ) (key : Key) (b : Bool) → w.acked key ≡ true → (let v : SetState = cond b w (followed w m) in v.acked key) ≡ true
acked_following w m key true e = e
acked_following w m key false e = e

acked_after_event : (w : SetState) (e : NetEvent) (key : Key) → w.acked key ≡ true → (after_event w e).acked key ≡ true
acked_after_event w (event.Handled m t n effect) key e = acked_handled w m (entry_at w t n) effect key e
acked_after_event w (event.Followed m) key e = acked_following w m key (eqb w.last m) e
acked_after_event w x key e = e

acked_later : (key : Key) (history more : List NetEvent) → (set_after history).acked key ≡ true → (set_after (history ++ more)).acked key ≡ true
acked_later key history [] e = ap (λ h. (set_after h).acked key) (append-nil history) ∙ e
acked_later key history (x ∷ more) e =
    let one : (set_after (history ++ x ∷ [])).acked key ≡ true = ap (λ (w : SetState). w.acked key) (set_after-more history x) ∙ acked_after_event (set_after history) x key e in
    subst (λ h. (set_after h).acked key ≡ true) (append_assoc history (x ∷ []) more) (acked_later key (history ++ x ∷ []) more one)

-- A plain answer of the last elected member acknowledges.
acked_now : (w : SetState) (entry : LogEntry) (effect : Effect) → IsPlain effect → (handled w w.last entry effect).acked entry.key ≡ true
acked_now w entry Added plain = or_left (eqb w.last w.last && same_key entry.key entry.key) (w.acked entry.key) (and_from (eqb w.last w.last) (same_key entry.key entry.key) (eq-eqb w.last w.last refl) (same_key-self entry.key))
acked_now w entry Known plain = or_left (eqb w.last w.last && same_key entry.key entry.key) (w.acked entry.key) (and_from (eqb w.last w.last) (same_key entry.key entry.key) (eq-eqb w.last w.last refl) (same_key-self entry.key))
acked_now w entry Refused plain = absurd plain
acked_now w entry Nothing plain = absurd plain

-- The key of a request that was handled plainly is acknowledged from then on.
plain_acked : (whole history rest : List NetEvent) (s n : ℕ) → IsHonest whole → whole ≡ history ++ rest → WasPlain history s n → (set_after history).acked (key_at (set_after history) s n) ≡ true
plain_acked whole history rest s n honest is p =
    let w : SetState = set_after p.before in
    let e : NetEvent = event.Handled w.last s n p.effect in
    let split : history ≡ (p.before ++ e ∷ []) ++ p.after = p.here ∙ sym (append_assoc p.before (e ∷ []) p.after) in
    let may = honest.handled p.before (p.after ++ rest) w.last s n p.effect (is ∙ ap (λ l. l ++ rest) p.here ∙ append_assoc p.before (e ∷ p.after) rest) in
    let now : (set_after (p.before ++ e ∷ [])).acked (key_at w s n) ≡ true = ap (λ (v : SetState). v.acked (key_at w s n)) (set_after-more p.before e) ∙ acked_now w (entry_at w s n) p.effect p.plain in
    let later : (set_after history).acked (key_at w s n) ≡ true = subst (λ l. (set_after l).acked (key_at w s n) ≡ true) (sym split) (acked_later (key_at w s n) (p.before ++ e ∷ []) p.after now) in
    let at : slice_get (messages ((set_after history).out s)) n ≡ Some may.request =
    subst (λ l. slice_get (messages ((set_after l).out s)) n ≡ Some may.request) (sym p.here) (request_later p.before (e ∷ p.after) s n may.request may.whole) in
    let same : key_at (set_after history) s n ≡ key_at w s n = ap (λ o. key_in o s n) (at ∙ sym may.whole) in
    subst (λ k. (set_after history).acked k ≡ true) (sym same) later

-- ---- the law

pub at_most_once : (history : List NetEvent) → IsHonest history → AtMostOnce history
at_most_once history honest before after m key is = (sound_at history before after honest is).once m key

pub keeps_plain : (history : List NetEvent) → IsHonest history → Keeps history
keeps_plain history honest before after s n is p =
    let sound = sound_at history before after honest is in
    let key : Key = key_at (set_after before) s n in
    let acked : (set_after before).acked key ≡ true = plain_acked history before after s n honest is p in
    omega (arith, sound.once ((set_after before).last) key, sound.kept key acked)
