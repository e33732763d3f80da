-- What the entries of members' logs are: writes whose requests went out whole.
use Rattle.std.proofs.Common.{◌≡◌, ℕ, Bool, true, false, List, [], ◌∷◌, ◌++◌, Some, cond, eqb, refl, sym, ap, ◌∙◌, subst}
use Rattle.std.proofs.lemmas.List.Elements.{All-append, All-filter, All-nil, All-push}
use Rattle.std.specs.Prelude.{◌&&◌}
use Rattle.std.specs.List.{All, slice_get}
use Rattle.msg_wire.specs.Messages.{messages}
use Rattle.msg_wire.specs.declared.message.Message.{Message}
use Rattle.net_link.specs.declared.event.Effect.TheVariants.{Added, Known, Refused, Nothing}
use Rattle.net_link.specs.declared.event.NetEvent.{NetEvent}
use Rattle.net_link.specs.declared.event.NetEvent.TheVariants as event
use Rattle.member_core.specs.Honest.{Fits, IsHonest}
use Rattle.member_core.specs.Keys.{is_write}
use Rattle.member_core.specs.Logs.{SetState, after_event, entry_at, followed, gained, key_at, key_in, set_after, times}
use Rattle.member_core.specs.declared.key.Key.{Key}
use Rattle.member_core.specs.declared.log.LogEntry.{LogEntry}
use Rattle.member_core.proofs.Runs.{request_later, set_after-more, set_after-nil, walk}
use Rattle.member_core.proofs.Sounds.{update_keeps}

-- An entry's request is whole in the bytes out, it is a write, and the entry has its key.
pub record IsLogged (out : ℕ → List ℕ) (e : LogEntry) : Type 0 where
  pub request : Message
  pub whole : slice_get (messages (out e.stream)) e.nth ≡ Some request
  pub known : e.key ≡ key_in (Some request) e.stream e.nth
  pub writes : is_write request.body ≡ true

followed_keeps : (Q : LogEntry → Type 0) (w : SetState) (k : ℕ) → ((m : ℕ) → All Q (w.log m)) → (m : ℕ) (b : Bool)
    → All Q (let v : SetState = cond b w (followed w k) in v.log m)
followed_keeps Q w k all m true = all m
followed_keeps Q w k all m false = update_keeps (All Q) w.log k (w.log w.last) (all w.last) all m

-- What holds of all entries, and of one that is added, holds of all behind an event.
event_keeps : (Q : LogEntry → Type 0) (w : SetState) (e : NetEvent) → ((m : ℕ) → All Q (w.log m))
    → ((k s n : ℕ) → e ≡ event.Handled k s n Added → Q (entry_at w s n)) → (m : ℕ) → All Q ((after_event w e).log m)
event_keeps Q w (event.Handled k s n Added) all added m =
    update_keeps (All Q) w.log k (w.log k ++ entry_at w s n ∷ []) (All-push Q (w.log k) (entry_at w s n) (all k) (added k s n refl)) all m
event_keeps Q w (event.Handled k s n Known) all added m = all m
event_keeps Q w (event.Handled k s n Refused) all added m = all m
event_keeps Q w (event.Handled k s n Nothing) all added m = all m
event_keeps Q w (event.Elected k) all added m =
    update_keeps (All Q) w.log k (w.log k ++ gained w k)
    (All-append Q (w.log k) (gained w k) (all k) (All-filter (λ (x : LogEntry). w.acked x.key && eqb (times x.key (w.log k)) 0) Q (w.log w.last) (all w.last))) all m
event_keeps Q w (event.Followed k) all added m = followed_keeps Q w k all m (eqb w.last k)
event_keeps Q w (event.Dialled s a) all added m = all m
event_keeps Q w (event.NoDial a) all added m = all m
event_keeps Q w (event.Out s bytes) all added m = all m
event_keeps Q w (event.Came s bytes) all added m = all m
event_keeps Q w (event.Ended s) all added m = all m
event_keeps Q w (event.Fault s) all added m = all m
event_keeps Q w (event.Closed s) all added m = all m
event_keeps Q w (event.Dry s) all added m = all m
event_keeps Q w (event.Full s) all added m = all m

-- What is added is a write.
fits_write : (w : SetState) (m : ℕ) (key : Key) (b : Bool) → Fits w m key b Added → b ≡ true
fits_write w m key true fits = refl
fits_write w m key false fits = absurd fits

added_logged : (history front behind : List NetEvent) (e : NetEvent) → IsHonest history → history ≡ front ++ e ∷ behind
    → (m s n : ℕ) → e ≡ event.Handled m s n Added → IsLogged (set_after history).out (entry_at (set_after front) s n)
added_logged history front behind e honest here m s n same =
    let may = honest.handled front behind m s n Added (here ∙ ap (λ x. front ++ x ∷ behind) same) in
    let later : slice_get (messages ((set_after (front ++ e ∷ behind)).out s)) n ≡ Some may.request = request_later front (e ∷ behind) s n may.request may.whole in
    record {
      request = may.request;
      whole = subst (λ h. slice_get (messages ((set_after h).out s)) n ≡ Some may.request) (sym here) later;
      known = ap (λ o. key_in o s n) may.whole;
      writes = fits_write (set_after front) m (key_at (set_after front) s n) (is_write may.request.body) may.fits;
    }

-- So are all, at each moment of an honest history.
pub logged_at : (history before after : List NetEvent) → IsHonest history → history ≡ before ++ after
    → (member : ℕ) → All (IsLogged (set_after history).out) ((set_after before).log member)
logged_at history before after honest is =
    walk (λ h. (m : ℕ) → All (IsLogged (set_after history).out) ((set_after h).log m)) history after
    (λ front behind e here all.
    subst (λ (w : SetState). (m : ℕ) → All (IsLogged (set_after history).out) (w.log m)) (sym (set_after-more front e))
    (event_keeps (IsLogged (set_after history).out) (set_after front) e all (added_logged history front behind e honest here)))
    [] before is
    (subst (λ (w : SetState). (m : ℕ) → All (IsLogged (set_after history).out) (w.log m)) (sym set_after-nil) (λ m. All-nil (IsLogged (set_after history).out)))
