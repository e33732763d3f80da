-- What a history leaves of a stream's bytes is what it says of the stream.
use Rattle.std.proofs.Common.{◌≡◌, ℕ, Bool, true, false, List, [], ◌∷◌, ◌++◌, cond, eqb, refl, sym, ap, ◌∙◌}
use Rattle.std.proofs.lemmas.Bool.{eqb-true, eq-eqb, false≢true}
use Rattle.std.specs.List.{fold}
use Rattle.net_link.specs.Seen.{Seen, after, seen, unseen}
use Rattle.net_link.specs.declared.event.Effect.{Effect}
use Rattle.net_link.specs.declared.event.Effect.TheVariants.{Added, Known, Refused, Nothing}
use Rattle.net_link.specs.declared.event.NetEvent.{NetEvent}
use Rattle.net_link.specs.declared.event.NetEvent.TheVariants as event
use Rattle.member_core.specs.Logs.{SetState, after_event, entry_at, followed, handled, set_after, start}
use Rattle.member_core.specs.declared.log.LogEntry.{LogEntry}

abbrev pub Same : ℕ → SetState → Seen → Type 0
Same s w v = (w.out s ≡ v.out) × (w.came s ≡ v.came)

-- ---- what changes no bytes

if_same : (s : ℕ) (w : SetState) (b : Bool) (u v : Seen) → Same s w u → Same s w v → Same s w (cond b u v)
if_same s w true u v h k = h
if_same s w false u v h k = k

handled_same : (s : ℕ) (w : SetState) (v : Seen) (m : ℕ) (entry : LogEntry) (effect : Effect) → Same s w v → Same s (handled w m entry effect) v
handled_same s w v m entry Added h = h
handled_same s w v m entry Known h = h
handled_same s w v m entry Refused h = h
handled_same s w v m entry Nothing h = h

following_same : (s : ℕ) (w : SetState) (v : Seen) (m : ℕ) (b : Bool) → Same s w v → Same s (cond b w (followed w m)) v
following_same s w v m true h = h
following_same s w v m false h = h

-- ---- more bytes on a stream

out_same : (f : ℕ → List ℕ) (v : Seen) (bytes : List ℕ) (s t : ℕ) (b c : Bool) → eqb s t ≡ b → eqb t s ≡ c → f s ≡ v.out
    → cond b (f t ++ bytes) (f s) ≡ (let x : Seen = cond c (record v { out = v.out ++ bytes; waits = false }) v in x.out)
out_same f v bytes s t true true d e h = ap (λ l. l ++ bytes) (ap f (sym (eqb-true s t d)) ∙ h)
out_same f v bytes s t true false d e h = absurd (false≢true (sym e ∙ eq-eqb t s (sym (eqb-true s t d))))
out_same f v bytes s t false true d e h = absurd (false≢true (sym d ∙ eq-eqb s t (sym (eqb-true t s e))))
out_same f v bytes s t false false d e h = h

came_same : (f : ℕ → List ℕ) (v : Seen) (bytes : List ℕ) (s t : ℕ) (b c : Bool) → eqb s t ≡ b → eqb t s ≡ c → f s ≡ v.came
    → cond b (f t ++ bytes) (f s) ≡ (let x : Seen = cond c (record v { came = v.came ++ bytes; waits = false }) v in x.came)
came_same f v bytes s t true true d e h = ap (λ l. l ++ bytes) (ap f (sym (eqb-true s t d)) ∙ h)
came_same f v bytes s t true false d e h = absurd (false≢true (sym e ∙ eq-eqb t s (sym (eqb-true s t d))))
came_same f v bytes s t false true d e h = absurd (false≢true (sym d ∙ eq-eqb s t (sym (eqb-true t s e))))
came_same f v bytes s t false false d e h = h

out_kept : (b : Bool) (u v : Seen) → u.out ≡ v.out → v.out ≡ (let x : Seen = cond b u v in x.out)
out_kept true u v e = sym e
out_kept false u v e = refl

came_kept : (b : Bool) (u v : Seen) → u.came ≡ v.came → v.came ≡ (let x : Seen = cond b u v in x.came)
came_kept true u v e = sym e
came_kept false u v e = refl

-- ---- a history

event_same : (s : ℕ) (w : SetState) (v : Seen) (e : NetEvent) → Same s w v → Same s (after_event w e) (after s v e)
event_same s w v (event.Out t bytes) h =
    (out_same w.out v bytes s t (eqb s t) (eqb t s) refl refl h.0, h.1 ∙ came_kept (eqb t s) (record v { out = v.out ++ bytes; waits = false }) v refl)
event_same s w v (event.Came t bytes) h =
    (h.0 ∙ out_kept (eqb t s) (record v { came = v.came ++ bytes; waits = false }) v refl, came_same w.came v bytes s t (eqb s t) (eqb t s) refl refl h.1)
event_same s w v (event.Dialled t address) h = if_same s w (eqb t s) v v h h
event_same s w v (event.NoDial address) h = h
event_same s w v (event.Ended t) h = if_same s w (eqb t s) (record v { ended = true }) v h h
event_same s w v (event.Fault t) h = if_same s w (eqb t s) (record v { fault = true }) v h h
event_same s w v (event.Closed t) h = if_same s w (eqb t s) v v h h
event_same s w v (event.Dry t) h = if_same s w (eqb t s) (record v { waits = true }) v h h
event_same s w v (event.Full t) h = if_same s w (eqb t s) (record v { waits = true }) v h h
event_same s w v (event.Handled m t n effect) h =
    handled_same s w (cond (eqb t s) v v) m (entry_at w t n) effect (if_same s w (eqb t s) v v h h)
event_same s w v (event.Elected m) h = h
event_same s w v (event.Followed m) h = following_same s w v m (eqb w.last m) h

events_same : (s : ℕ) (history : List NetEvent) (w : SetState) (v : Seen) → Same s w v → Same s (fold after_event w history) (fold (after s) v history)
events_same s [] w v h = h
events_same s (e ∷ history) w v h = events_same s history (after_event w e) (after s v e) (event_same s w v e h)

pub bytes_same : (history : List NetEvent) (s : ℕ) → Same s (set_after history) (seen s history)
unfolding set_after seen
bytes_same history s = events_same s history start unseen (refl, refl)
