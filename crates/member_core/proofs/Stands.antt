-- Members that stand as the history says do so behind each of their calls and the event that tells it.
use Rattle.std.proofs.Common.{◌≡◌, ◌≤◌, ℕ, Bool, true, false, List, [], ◌∷◌, ◌++◌, Option, Some, None, cond, eqb, refl, sym, ap, ◌∙◌, subst, arith, append-nil}
use Rattle.std.proofs.lemmas.Bool.{eqb-true, eqb-false, false≢true}
use Rattle.std.specs.Prelude.{◌&&◌, ◌||◌, codes, filter, slice_get}
use Rattle.bson_doc.specs.Documents.{is_text}
use Rattle.msg_wire.specs.Messages.{messages}
use Rattle.msg_wire.specs.declared.message.Message.{Message}
use Rattle.bson_doc.specs.declared.value.Document.{Document}
use Rattle.bson_doc.specs.declared.value.Value as value
use Rattle.net_link.specs.declared.event.Effect.{Effect}
use Rattle.net_link.specs.declared.event.Effect.TheVariants.{Added, Known, Refused, Nothing}
use Rattle.net_link.specs.declared.event.NetEvent.{NetEvent}
use Rattle.net_link.specs.declared.event.NetEvent.TheVariants as event
use Rattle.member_core.specs.Honest.{Fits, IsPlain, says_ok}
use Rattle.member_core.specs.Keys.{command_name, is_write, key_of, same_key}
use Rattle.member_core.specs.Logs.{SetState, elected, entry_at, followed, gained, handled, key_at, key_in, update_at, times, set_after}
use Rattle.member_core.specs.Members.{Kept, MemberState, effect_of, elected_log, entries, entry_of, gained_from, is_acked, logged, takes_writes, with_answer, with_election, with_log, write_effect}
use Rattle.member_core.specs.Replies.{reply_by, reply_of, write_result}
use Rattle.member_core.specs.Standing.{StandAs, last_log}
use Rattle.member_core.specs.declared.key.Key.{Key}
use Rattle.member_core.specs.declared.log.LogEntry.{LogEntry}
use Rattle.member_core.proofs.MarkLemmas.{entries-append, entries-known, entries-marked, is_acked-added, is_acked-elected, is_acked-marked, none_gained}
use Rattle.member_core.proofs.Runs.{set_after-more}
use Rattle.member_core.proofs.Sounds.{update_at-here}

-- ---- a change at one place, seen through a function

update_both : {A B : Type 0} (f : ℕ → A) (g : ℕ → B) (h : B → A) (m : ℕ) (a : A) (v : B) → ((k : ℕ) → f k ≡ h (g k)) → a ≡ h v → (k : ℕ) → update_at f m a k ≡ h (update_at g m v k)
update_both f g h m a v same here k = elim (eqb k m) as (λ b. cond b a (f k) ≡ h (cond b v (g k))) [ true ↦ here | false ↦ same k ]

update_one_at : {A B : Type 0} (f : ℕ → A) (g : ℕ → B) (h : B → A) (m : ℕ) (v : B) → ((k : ℕ) → f k ≡ h (g k)) → f m ≡ h v → (k : ℕ) (b : Bool) → eqb k m ≡ b → f k ≡ h (cond b v (g k))
update_one_at f g h m v same here k true e = ap f (eqb-true k m e) ∙ here
update_one_at f g h m v same here k false e = same k

update_one : {A B : Type 0} (f : ℕ → A) (g : ℕ → B) (h : B → A) (m : ℕ) (v : B) → ((k : ℕ) → f k ≡ h (g k)) → f m ≡ h v → (k : ℕ) → f k ≡ h (update_at g m v k)
update_one f g h m v same here k = update_one_at f g h m v same here k (eqb k m) refl

-- ---- the effect fits

known_fits : (w : SetState) (m : ℕ) (key : Key) (b : Bool) → w.takes m ≡ true → eqb (times key (w.log m)) 0 ≡ b → Fits w m key true (cond b Added Known)
known_fits w m key true takes e = (takes, eqb-true (times key (w.log m)) 0 e)
known_fits w m key false takes e = let some = eqb-false (times key (w.log m)) 0 e in let least : 1 ≤ times key (w.log m) = omega (arith, some) in (takes, least)

write_fits : (w : SetState) (m : ℕ) (key : Key) (takes : Bool) → w.takes m ≡ takes → Fits w m key true (write_effect takes (times key (w.log m)))
write_fits w m key true takes = known_fits w m key (eqb (times key (w.log m)) 0) takes refl
write_fits w m key false takes = tt

any_fits : (w : SetState) (m : ℕ) (key : Key) (takes write : Bool) → w.takes m ≡ takes → Fits w m key write (cond write (write_effect takes (times key (w.log m))) Nothing)
any_fits w m key takes true is = write_fits w m key takes is
any_fits w m key takes false is = tt

key_is : (w : SetState) (s n : ℕ) (request : Message) → slice_get (messages (w.out s)) n ≡ Some request → key_at w s n ≡ key_of request.body s n
key_is w s n request whole = ap (λ o. key_in o s n) whole

pub effect_fits : (members : ℕ → MemberState) (w : SetState) (m s n : ℕ) (request : Message) → StandAs members w → slice_get (messages (w.out s)) n ≡ Some request
    → Fits w m (key_at w s n) (is_write request.body) (effect_of (members m) request.body s n)
effect_fits members w m s n request stand whole =
    let key : Key = key_of request.body s n in
    let fits : Fits w m key (is_write request.body) (cond (is_write request.body) (write_effect (takes_writes (members m)) (times key (w.log m))) Nothing) =
    any_fits w m key (takes_writes (members m)) (is_write request.body) (stand.takes m) in
    let here : Fits w m key (is_write request.body) (effect_of (members m) request.body s n) =
    subst (λ log. Fits w m key (is_write request.body) (cond (is_write request.body) (write_effect (takes_writes (members m)) (times key log)) Nothing)) (stand.log m) fits in
    subst (λ k. Fits w m k (is_write request.body) (effect_of (members m) request.body s n)) (sym (key_is w s n request whole)) here

-- ---- an answer

-- Who is the last elected member knows what was acknowledged.
stand_acked : (members : ℕ → MemberState) (w : SetState) (m : ℕ) (v : MemberState) (entry : LogEntry) (key : Key) (b : Bool) → StandAs members w → eqb w.last m ≡ b
    → is_acked v.log key ≡ ((b && same_key entry.key key) || is_acked (members m).log key) → ((b && same_key entry.key key) || w.acked key) ≡ is_acked (update_at members m v w.last).log key
stand_acked members w m v entry key true stand e is =
    let there : update_at members m v w.last ≡ v = ap (λ c. cond c v (members w.last)) e in
    let same : members w.last ≡ members m = ap members (eqb-true w.last m e) in
    ap (λ a. same_key entry.key key || a) (stand.acked key ∙ ap (λ (x : MemberState). is_acked x.log key) same) ∙ sym is ∙ ap (λ (x : MemberState). is_acked x.log key) (sym there)
stand_acked members w m v entry key false stand e is =
    let there : update_at members m v w.last ≡ members w.last = ap (λ c. cond c v (members w.last)) e in
    stand.acked key ∙ ap (λ (x : MemberState). is_acked x.log key) (sym there)

-- What did not change.
stand_same : (members : ℕ → MemberState) (w : SetState) (m : ℕ) (v : MemberState) → StandAs members w → v.log ≡ (members m).log → v.election ≡ (members m).election → StandAs (update_at members m v) w
stand_same members w m v stand log election = record {
  log = update_one w.log members (λ (x : MemberState). entries x.log) m v stand.log (stand.log m ∙ ap entries (sym log));
  takes = update_one w.takes members takes_writes m v stand.takes (stand.takes m ∙ ap (λ (o : Option ℕ). takes_by o) (sym election));
  acked = λ key. stand.acked key ∙ last_same members m v log w.last key;
}
  where
    takes_by : Option ℕ → Bool
    takes_by (Some n) = true
    takes_by None = false

    last_same : (members : ℕ → MemberState) (m : ℕ) (v : MemberState) → v.log ≡ (members m).log → (k : ℕ) (key : Key) → is_acked (members k).log key ≡ is_acked (update_at members m v k).log key
    last_same members m v log k key = update_one (λ n. is_acked (members n).log key) members (λ (x : MemberState). is_acked x.log key) m v (λ n. refl) (ap (λ l. is_acked l key) (sym log)) k

marked_lead : (lead : Bool) (entry : LogEntry) (log : List Kept) (key : Key) → 1 ≤ times entry.key (entries log) → is_acked (logged lead entry Known log) key ≡ ((lead && same_key entry.key key) || is_acked log key)
marked_lead true entry log key has = is_acked-marked entry.key log key has
marked_lead false entry log key has = refl

entries-marked_lead : (lead : Bool) (entry : LogEntry) (log : List Kept) → entries (logged lead entry Known log) ≡ entries log
entries-marked_lead true entry log = entries-marked entry.key log
entries-marked_lead false entry log = refl

stand_handled : (members : ℕ → MemberState) (w : SetState) (m : ℕ) (entry : LogEntry) (effect : Effect) (write : Bool) → StandAs members w → Fits w m entry.key write effect
    → StandAs (update_at members m (record (members m) { log = logged (eqb w.last m) entry effect (members m).log })) (handled w m entry effect)
stand_handled members w m entry Added write stand fits =
    let v : MemberState = record (members m) { log = (members m).log ++ (entry, eqb w.last m) ∷ [] } in
    record {
      log = update_both w.log members (λ (x : MemberState). entries x.log) m (w.log m ++ entry ∷ []) v stand.log
          (ap (λ log. log ++ entry ∷ []) (stand.log m) ∙ sym (entries-append (members m).log ((entry, eqb w.last m) ∷ [])));
      takes = update_one w.takes members takes_writes m v stand.takes (stand.takes m);
      acked = λ key. stand_acked members w m v entry key (eqb w.last m) stand refl (is_acked-added (eqb w.last m) entry (members m).log key);
    }
stand_handled members w m entry Known true stand fits =
    let v : MemberState = record (members m) { log = logged (eqb w.last m) entry Known (members m).log } in
    let has : 1 ≤ times entry.key (entries (members m).log) = subst (λ log. 1 ≤ times entry.key log) (stand.log m) fits.1 in
    record {
      log = update_one w.log members (λ (x : MemberState). entries x.log) m v stand.log (stand.log m ∙ sym (entries-marked_lead (eqb w.last m) entry (members m).log));
      takes = update_one w.takes members takes_writes m v stand.takes (stand.takes m);
      acked = λ key. stand_acked members w m v entry key (eqb w.last m) stand refl (marked_lead (eqb w.last m) entry (members m).log key has);
    }
stand_handled members w m entry Known false stand fits = absurd fits
stand_handled members w m entry Refused write stand fits = stand_same members w m (members m) stand refl refl
stand_handled members w m entry Nothing write stand fits = stand_same members w m (members m) stand refl refl

pub stand_answer : (members : ℕ → MemberState) (history : List NetEvent) (m s n : ℕ) (request : Message) → StandAs members (set_after history) → slice_get (messages ((set_after history).out s)) n ≡ Some request
    → StandAs (update_at members m (with_answer (members m) request.body s n (eqb (set_after history).last m))) (set_after (history ++ event.Handled m s n (effect_of (members m) request.body s n) ∷ []))
stand_answer members history m s n request stand whole =
    let w : SetState = set_after history in
    let effect : Effect = effect_of (members m) request.body s n in
    let key = key_is w s n request whole in
    let same : entry_at w s n ≡ entry_of request.body s n = λ i. record { key = key i; stream = s; nth = n } in
    let fits : Fits w m (key_of request.body s n) (is_write request.body) effect =
    subst (λ k. Fits w m k (is_write request.body) effect) key (effect_fits members w m s n request stand whole) in
    let here : StandAs (update_at members m (with_answer (members m) request.body s n (eqb w.last m))) (handled w m (entry_of request.body s n) effect) =
    stand_handled members w m (entry_of request.body s n) effect (is_write request.body) stand fits in
    let there : handled w m (entry_of request.body s n) effect ≡ set_after (history ++ event.Handled m s n effect ∷ []) =
    ap (λ entry. handled w m entry effect) (sym same) ∙ sym (set_after-more history (event.Handled m s n effect)) in
    subst (λ (v : SetState). StandAs (update_at members m (with_answer (members m) request.body s n (eqb w.last m))) v) there here

-- ---- an election

gained-same : (members : ℕ → MemberState) (w : SetState) (m : ℕ) → StandAs members w → gained w m ≡ gained_from (members w.last).log (entries (members m).log)
gained-same members w m stand = λ i. filter (λ entry. stand.acked entry.key i && eqb (times entry.key (stand.log m i)) 0) (stand.log w.last i)

gained-none : (w : SetState) (m : ℕ) → w.last ≡ m → gained w m ≡ []
gained-none w m same = ap (λ k. filter (λ (entry : LogEntry). w.acked entry.key && eqb (times entry.key (w.log m)) 0) (w.log k)) same ∙ none_gained w.acked (w.log m)

elected_entries : (members : ℕ → MemberState) (w : SetState) (m : ℕ) (b : Bool) → StandAs members w → eqb w.last m ≡ b
    → w.log m ++ gained w m ≡ entries (elected_log (cond b None (Some (members w.last).log)) (members m).log)
elected_entries members w m true stand e = ap (λ l. w.log m ++ l) (gained-none w m (eqb-true w.last m e)) ∙ append-nil (w.log m) ∙ stand.log m
elected_entries members w m false stand e =
    (λ i. stand.log m i ++ gained-same members w m stand i)
    ∙ sym (entries-known (members w.last).log (entries (members m).log ++ gained_from (members w.last).log (entries (members m).log)))

elected_acked : (members : ℕ → MemberState) (w : SetState) (m : ℕ) (b : Bool) → StandAs members w → eqb w.last m ≡ b
    → (key : Key) → w.acked key ≡ is_acked (elected_log (cond b None (Some (members w.last).log)) (members m).log) key
elected_acked members w m true stand e key = stand.acked key ∙ ap (λ k. is_acked (members k).log key) (eqb-true w.last m e)
elected_acked members w m false stand e key = stand.acked key ∙ sym (is_acked-elected (members w.last).log (entries (members m).log) key)

stand_elected : (members : ℕ → MemberState) (w : SetState) (m number : ℕ) → StandAs members w → StandAs (update_at members m (with_election (members m) (last_log members w m) number)) (elected w m)
stand_elected members w m number stand =
    let v : MemberState = with_election (members m) (last_log members w m) number in
    record {
      log = update_both w.log members (λ (x : MemberState). entries x.log) m (w.log m ++ gained w m) v stand.log (elected_entries members w m (eqb w.last m) stand refl);
      takes = update_both w.takes members takes_writes m true v stand.takes refl;
      acked = λ key. elected_acked members w m (eqb w.last m) stand refl key ∙ ap (λ (x : MemberState). is_acked x.log key) (sym (update_at-here members m v));
    }

pub stand_election : (members : ℕ → MemberState) (history : List NetEvent) (m number : ℕ) → StandAs members (set_after history)
    → StandAs (update_at members m (with_election (members m) (last_log members (set_after history) m) number)) (set_after (history ++ event.Elected m ∷ []))
stand_election members history m number stand =
    subst (λ (v : SetState). StandAs (update_at members m (with_election (members m) (last_log members (set_after history) m) number)) v)
    (sym (set_after-more history (event.Elected m))) (stand_elected members (set_after history) m number stand)

-- ---- a following

stand_followed : (members : ℕ → MemberState) (w : SetState) (m : ℕ) → StandAs members w → eqb w.last m ≡ false → StandAs (update_at members m (with_log (members m) (members w.last).log)) (followed w m)
stand_followed members w m stand other =
    let v : MemberState = with_log (members m) (members w.last).log in
    let there : update_at members m v w.last ≡ members w.last = ap (λ b. cond b v (members w.last)) other in
    record {
      log = update_both w.log members (λ (x : MemberState). entries x.log) m (w.log w.last) v stand.log (stand.log w.last);
      takes = update_both w.takes members takes_writes m false v stand.takes refl;
      acked = λ key. stand.acked key ∙ ap (λ (x : MemberState). is_acked x.log key) (sym there);
    }

pub stand_following : (members : ℕ → MemberState) (history : List NetEvent) (m : ℕ) → StandAs members (set_after history) → eqb (set_after history).last m ≡ false
    → StandAs (update_at members m (with_log (members m) (members (set_after history).last).log)) (set_after (history ++ event.Followed m ∷ []))
stand_following members history m stand other =
    let w : SetState = set_after history in
    let is : set_after (history ++ event.Followed m ∷ []) ≡ followed w m = set_after-more history (event.Followed m) ∙ ap (λ (b : Bool). cond b w (followed w m)) other in
    subst (λ (v : SetState). StandAs (update_at members m (with_log (members m) (members w.last).log)) v) (sym is) (stand_followed members w m stand other)

-- ---- what an answer says

says_result : (update lead : Bool) → says_ok (write_result update lead) ≡ true → lead ≡ true
unfolding value.out-Value denote.Hole.Carrier.out
says_result true true e = refl
says_result false true e = refl
says_result true false e = e
says_result false false e = e

says_plain : (m : MemberState) (name : List ℕ) (lead takes : Bool) (n : ℕ) (b : Bool) → eqb n 0 ≡ b → says_ok (reply_by m name lead (cond takes (cond b Added Known) Refused)) ≡ true → (lead ≡ true) × IsPlain (cond takes (cond b Added Known) Refused)
says_plain m name lead true n true is e = (says_result (is_text name (codes "update")) lead e, tt)
says_plain m name lead true n false is e = (says_result (is_text name (codes "update")) lead e, tt)
says_plain m name lead false n b is e = absurd (false≢true e)

says_write : (m : MemberState) (name : List ℕ) (lead takes : Bool) (n : ℕ) (write : Bool) → write ≡ true → says_ok (reply_by m name lead (cond write (write_effect takes n) Nothing)) ≡ true → (lead ≡ true) × IsPlain (cond write (write_effect takes n) Nothing)
says_write m name lead takes n true is e = says_plain m name lead takes n (eqb n 0) refl e
says_write m name lead takes n false is e = absurd (false≢true is)

pub ok_is_plain : (m : MemberState) (body : Document) (s n : ℕ) (lead : Bool) → is_write body ≡ true → says_ok (reply_of m body s n lead) ≡ true → (lead ≡ true) × IsPlain (effect_of m body s n)
ok_is_plain m body s n lead write e = says_write m (command_name body) lead (takes_writes m) (times (key_of body s n) (entries m.log)) (is_write body) write e
