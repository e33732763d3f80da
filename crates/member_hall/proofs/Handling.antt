-- Requests that are handled, and elections, keep a hall's history honest.
use Rattle.std.proofs.Common.{◌≡◌, ◌<◌, ◌+◌, ℕ, zero, suc, Bool, true, false, List, [], ◌∷◌, ◌++◌, Some, None, length, set, cond, eqb, refl, sym, ap, ◌∙◌, inl, inr, ◌⊎◌, subst, arith, append_assoc, append-nil, length-append}
use Rattle.std.proofs.lemmas.Bool.{eqb-true}
use Rattle.std.proofs.lemmas.List.Elements.{Contains-append_left, Contains-push, Contains-push_cases, filter-append}
use Rattle.std.specs.List.{Contains, filter, slice_get}
use Rattle.bson_doc.specs.declared.value.Document.{Document}
use Rattle.msg_wire.specs.Framing.{Framed}
use Rattle.msg_wire.specs.Messages.{Begins, behind_messages, messages}
use Rattle.msg_wire.specs.declared.message.Message.{Message}
use Rattle.msg_wire.proofs.Partings.{messages-begin, messages-more}
use Rattle.net_link.specs.Events.{is_at}
use Rattle.net_link.specs.declared.event.Effect.{Effect}
use Rattle.net_link.specs.declared.event.Effect.TheVariants.{Refused}
use Rattle.net_link.specs.declared.event.NetEvent.{NetEvent}
use Rattle.net_link.specs.declared.event.NetEvent.TheVariants as event
use Rattle.member_core.specs.Honest.{Fits, IsAnswer, IsDialled, MayFollow, MayHandle, says_ok}
use Rattle.member_core.specs.Keys.{is_write}
use Rattle.member_core.specs.Logs.{SetState, after_event, key_at, set_after, update_at}
use Rattle.member_core.specs.Members.{MemberState, effect_of, with_answer, with_election, with_log}
use Rattle.member_core.specs.Replies.{reply_of}
use Rattle.member_core.specs.Standing.{StandAs, last_log}
use Rattle.member_core.proofs.Growth.{answer_later, honest-more}
use Rattle.member_core.proofs.Runs.{request_later, set_after-more, whole-more}
use Rattle.member_core.proofs.Stands.{effect_fits, ok_is_plain, stand_answer, stand_election, stand_following}
use Rattle.member_hall.specs.Acts.{elected, elected_peer, following, following_peer}
use Rattle.member_hall.specs.Halls.{HallState, PeerState, line_at}
use Rattle.member_hall.specs.Honest.{IsOpenLine, IsSound, IsSoundLine, answers_on, elections_in, is_elected, members_of}
use Rattle.member_hall.specs.Lines.{LineState, bytes_of}
use Rattle.member_hall.proofs.Bytes.{came-after_handled, last-after_handled, out-after_handled}
use Rattle.member_hall.proofs.Honesty.{elections-other, fresh_later, line_later, may_quiet, members-same, members-set, messages-nil, behind-nil, sound_event}

-- ---- the next request of a stream

-- It may be handled with an effect that fits.
may_handle : (h : HallState) (s : ℕ) (request : Message) (effect : Effect) → IsSound h → s < length h.lines
    → slice_get (messages ((set_after h.events).out s)) (line_at h.lines s).count ≡ Some request
    → Fits (set_after h.events) (line_at h.lines s).member (key_at (set_after h.events) s (line_at h.lines s).count) (is_write request.body) effect
    → MayHandle h.events (line_at h.lines s).member s (line_at h.lines s).count effect
may_handle h s request effect sound there whole fits = record {
  request = request;
  whole = whole;
  fits = fits;
  once = λ other e found. let less = ((sound.lines s there).handled other (line_at h.lines s).count e found).1 in omega arith;
  one = λ other n e found. ((sound.lines s there).handled other n e found).0;
}

may_follow : (h : HallState) (s : ℕ) (request : Message) (effect : Effect) → IsSound h → s < length h.lines
    → slice_get (messages ((set_after h.events).out s)) (line_at h.lines s).count ≡ Some request
    → Fits (set_after h.events) (line_at h.lines s).member (key_at (set_after h.events) s (line_at h.lines s).count) (is_write request.body) effect
    → MayFollow h.events (event.Handled (line_at h.lines s).member s (line_at h.lines s).count effect)
may_follow h s request effect sound there whole fits =
    let line : LineState = line_at h.lines s in
    let e : NetEvent = event.Handled line.member s line.count effect in
    record {
      dialled_once = λ t a is. absurd cc;
      dialled = λ t at.
          let dialled = (sound.lines s there).dialled in
          subst (λ (k : ℕ). IsDialled (h.events ++ e ∷ []) k) (eqb-true s t at) (dialled.0, Contains-append_left h.events (e ∷ []) (event.Dialled s dialled.0) dialled.1);
      handled = λ m t n f is. handled_by m t n f is (may_handle h s request effect sound there whole fits);
      answered = λ t n reply now none.
          let here : slice_get (messages ((set_after h.events).came t)) n ≡ Some reply
          = subst (λ (b : List ℕ). slice_get (messages b) n ≡ Some reply) (came-after_handled h.events line.member s line.count effect t) now in
          let clash : None ≡ Some reply = sym none ∙ here in
          absurd cc;
    }
  where
    handled_by : (m t n : ℕ) (f : Effect) → event.Handled (line_at h.lines s).member s (line_at h.lines s).count effect ≡ event.Handled m t n f
        → MayHandle h.events (line_at h.lines s).member s (line_at h.lines s).count effect → MayHandle h.events m t n f
    handled_by m t n f is may =
        let members : (line_at h.lines s).member ≡ m = cc in
        let streams : s ≡ t = cc in
        let numbers : (line_at h.lines s).count ≡ n = cc in
        let effects : effect ≡ f = cc in
        subst (λ (k : ℕ). MayHandle h.events k t n f) members
        (subst (λ (k : ℕ). MayHandle h.events (line_at h.lines s).member k n f) streams
        (subst (λ (k : ℕ). MayHandle h.events (line_at h.lines s).member s k f) numbers
        (subst (λ (k : Effect). MayHandle h.events (line_at h.lines s).member s (line_at h.lines s).count k) effects may)))

-- ---- its line behind it

handled_before : (events : List NetEvent) (s : ℕ) (line new : LineState) (effect : Effect) → IsSoundLine events s line → new.member ≡ line.member → new.count ≡ line.count + 1
    → (m n : ℕ) (f : Effect) → Contains (events ++ event.Handled line.member s line.count effect ∷ []) (event.Handled m s n f) → (m ≡ new.member) × (n < new.count)
handled_before events s line new effect sound member count m n f found =
    elim (Contains-push_cases events (event.Handled line.member s line.count effect) (event.Handled m s n f) found) [
      | inl before ↦ (let h = sound.handled m n f before in let less : n < new.count = omega (arith, h.1, count) in (h.0 ∙ sym member, less))
      | inr is ↦ (let same : line.member ≡ m = cc in let number : line.count ≡ n = cc in let less : n < new.count = omega arith in (sym same ∙ sym member, less))
    ]

-- One that ended, or had ended: no answer comes.
line_handled : (events : List NetEvent) (s : ℕ) (line new : LineState) (lost : List ℕ) (effect : Effect) → IsSoundLine events s line → new.member ≡ line.member → new.count ≡ line.count + 1
    → new.ended ≡ true → new.late ≡ None → bytes_of line.answers ≡ bytes_of new.answers ++ lost
    → IsSoundLine (events ++ event.Handled line.member s line.count effect ∷ []) s new
line_handled events s line new lost effect sound member count ended late bytes =
    let e : NetEvent = event.Handled line.member s line.count effect in
    let came = came-after_handled events line.member s line.count effect s in
    record {
      dialled = (sound.dialled.0, Contains-append_left events (e ∷ []) (event.Dialled s sound.dialled.0) sound.dialled.1);
      handled = handled_before events s line new effect sound member count;
      answers = λ n reply whole. answer_later events e s n reply (sound.answers n reply
          (subst (λ (b : List ℕ). slice_get (messages b) n ≡ Some reply)
          (ap (λ (b : List ℕ). (b ++ bytes_of new.answers) ++ lost) came ∙ append_assoc ((set_after events).came s) (bytes_of new.answers) lost ∙ ap (λ b. (set_after events).came s ++ b) (sym bytes))
          (whole-more ((set_after (events ++ e ∷ [])).came s ++ bytes_of new.answers) lost n reply whole)));
      going = λ goes_on. let clash : true ≡ false = sym ended ∙ goes_on in absurd cc;
      late = λ request is. let clash : None ≡ Some request = sym late ∙ is in absurd cc;
    }

-- What is framed as one message holds it, and nothing else.
one-message : (bytes : List ℕ) (m : Message) → Framed bytes m → (messages bytes ≡ m ∷ []) × (behind_messages bytes ≡ [])
one-message bytes m framed =
    let begins : Begins bytes (m ∷ []) [] = ([], record { text = bytes; parts = sym (append-nil bytes); framed = framed }, refl) in
    let is = messages-begin bytes (m ∷ []) [] begins in
    (is.0 ∙ ap (λ (ms : List Message). m ∷ ms) messages-nil, is.1 ∙ behind-nil)

slice_get-push : {X : Type 0} (xs : List X) (y : X) (n : ℕ) (x : X) → slice_get (xs ++ y ∷ []) n ≡ Some x → (slice_get xs n ≡ Some x) ⊎ ((n ≡ length xs) × (y ≡ x))
slice_get-push [] y zero x e = let same : y ≡ x = cc in inr (refl, same)
slice_get-push [] y (suc n) x e = absurd cc
slice_get-push (z ∷ xs) y zero x e = inl e
slice_get-push (z ∷ xs) y (suc n) x e =
    elim (slice_get-push xs y n x e) [ inl before ↦ inl before | inr is ↦ (let number : suc n ≡ length (z ∷ xs) = omega (arith, is.0) in inr (number, is.1)) ]

slice_get-front : {X : Type 0} (front : List X) (x : X) (behind : List X) → slice_get (front ++ x ∷ behind) (length front) ≡ Some x
slice_get-front [] x behind = refl
slice_get-front (y ∷ front) x behind = slice_get-front front x behind

-- The request at the front of a line's rest is its next.
pub next_request : (out replies : List ℕ) (line : LineState) (request : Message) (behind : List Message) → IsOpenLine out replies line → messages line.rest ≡ request ∷ behind
    → slice_get (messages out) line.count ≡ Some request
next_request out replies line request behind p first =
    subst (λ (k : ℕ). slice_get (messages out) k ≡ Some request) p.count
    (subst (λ (ms : List Message). slice_get ms (length p.done) ≡ Some request) (sym (p.requests ∙ ap (λ (ms : List Message). p.done ++ ms) first)) (slice_get-front p.done request behind))

-- An open line whose next request was handled, and answered by these bytes.
line_answered : (events : List NetEvent) (s : ℕ) (line new : LineState) (request reply : Message) (bytes : List ℕ) (effect : Effect) → IsSoundLine events s line → line.ended ≡ false
    → messages line.rest ≡ request ∷ messages new.rest → behind_messages line.rest ≡ behind_messages new.rest
    → new.member ≡ line.member → new.count ≡ line.count + 1 → new.late ≡ line.late → bytes_of new.answers ≡ bytes_of line.answers ++ bytes → Framed bytes reply
    → IsAnswer (events ++ event.Handled line.member s line.count effect ∷ []) s line.count reply
    → IsSoundLine (events ++ event.Handled line.member s line.count effect ∷ []) s new
line_answered events s line new request reply bytes effect sound goes_on first behind member count late answers framed answer =
    let e : NetEvent = event.Handled line.member s line.count effect in
    let out = out-after_handled events line.member s line.count effect s in
    let came = came-after_handled events line.member s line.count effect s in
    let p = sound.going goes_on in
    let old : List ℕ = answers_on events s line in
    let all : (set_after (events ++ e ∷ [])).came s ++ bytes_of new.answers ≡ old ++ bytes
    = ap (λ (b : List ℕ). b ++ bytes_of new.answers) came ∙ ap (λ b. (set_after events).came s ++ b) answers ∙ sym (append_assoc ((set_after events).came s) (bytes_of line.answers) bytes) in
    let more = messages-more old bytes in
    let one = one-message bytes reply framed in
    let whole : messages (old ++ bytes) ≡ messages old ++ reply ∷ []
    = more.0 ∙ ap (λ (b : List ℕ). messages old ++ messages (b ++ bytes)) p.whole ∙ ap (λ (ms : List Message). messages old ++ ms) one.0 in
    let rest : behind_messages (old ++ bytes) ≡ [] = more.1 ∙ ap (λ (b : List ℕ). behind_messages (b ++ bytes)) p.whole ∙ one.1 in
    let done_count : length (p.done ++ request ∷ []) ≡ length p.done + 1 = length-append p.done (request ∷ []) in
    let reply_count : length (messages old ++ reply ∷ []) ≡ length (messages old) + 1 = length-append (messages old) (reply ∷ []) in
    record {
      dialled = (sound.dialled.0, Contains-append_left events (e ∷ []) (event.Dialled s sound.dialled.0) sound.dialled.1);
      handled = handled_before events s line new effect sound member count;
      answers = λ n found here.
          elim (slice_get-push (messages old) reply n found (subst (λ (ms : List Message). slice_get ms n ≡ Some found) (ap messages all ∙ whole) here)) [
            | inl before ↦ answer_later events e s n found (sound.answers n found before)
            | inr is ↦ subst (λ (m : Message). IsAnswer (events ++ e ∷ []) s n m) is.1 (subst (λ (k : ℕ). IsAnswer (events ++ e ∷ []) s k reply) (sym (is.0 ∙ p.answered)) answer)
          ];
      going = λ _. record {
        done = p.done ++ request ∷ [];
        count = omega (arith, done_count, p.count, count);
        requests = ap messages out ∙ p.requests ∙ ap (λ (ms : List Message). p.done ++ ms) first ∙ sym (append_assoc p.done (request ∷ []) (messages new.rest));
        behind = ap behind_messages out ∙ p.behind ∙ behind;
        answered = ap (λ (b : List ℕ). length (messages b)) all ∙ ap length whole ∙ reply_count ∙ ap (λ k. k + 1) p.answered ∙ sym count;
        whole = ap behind_messages all ∙ rest;
      };
      late = λ kept is. let clash : true ≡ false = sym (sound.late kept (sym late ∙ is)).0 ∙ goes_on in absurd cc;
    }

-- ---- the member's own answer

-- The members behind it.
stand_handled : (h : HallState) (s : ℕ) (request : Message) (peer : PeerState) → IsSound h → (line_at h.lines s).member < length h.peers
    → slice_get (messages ((set_after h.events).out s)) (line_at h.lines s).count ≡ Some request
    → peer.member ≡ with_answer (members_of h.peers (line_at h.lines s).member) request.body s (line_at h.lines s).count (eqb h.last (line_at h.lines s).member)
    → StandAs (members_of (set h.peers (line_at h.lines s).member peer))
    (set_after (h.events ++ event.Handled (line_at h.lines s).member s (line_at h.lines s).count (effect_of (members_of h.peers (line_at h.lines s).member) request.body s (line_at h.lines s).count) ∷ []))
stand_handled h s request peer sound member whole is =
    let m : ℕ = (line_at h.lines s).member in
    let n : ℕ = (line_at h.lines s).count in
    let after : SetState = set_after (h.events ++ event.Handled m s n (effect_of (members_of h.peers m) request.body s n) ∷ []) in
    let stand : StandAs (update_at (members_of h.peers) m (with_answer (members_of h.peers m) request.body s n (eqb (set_after h.events).last m))) after
    = stand_answer (members_of h.peers) h.events m s n request sound.stand whole in
    let by_last : StandAs (update_at (members_of h.peers) m (with_answer (members_of h.peers m) request.body s n (eqb h.last m))) after
    = subst (λ (l : ℕ). StandAs (update_at (members_of h.peers) m (with_answer (members_of h.peers m) request.body s n (eqb l m))) after) sound.last stand in
    let by_peer : StandAs (update_at (members_of h.peers) m peer.member) after
    = subst (λ (v : MemberState). StandAs (update_at (members_of h.peers) m v) after) (sym is) by_last in
    subst (λ (f : ℕ → MemberState). StandAs f after) (sym (members-set h.peers m peer member)) by_peer

-- The reply is an answer.
reply_is_answer : (h : HallState) (s : ℕ) (request reply : Message) → IsSound h
    → slice_get (messages ((set_after h.events).out s)) (line_at h.lines s).count ≡ Some request → reply.to ≡ request.id
    → reply.body ≡ reply_of (members_of h.peers (line_at h.lines s).member) request.body s (line_at h.lines s).count (eqb h.last (line_at h.lines s).member)
    → IsAnswer (h.events ++ event.Handled (line_at h.lines s).member s (line_at h.lines s).count (effect_of (members_of h.peers (line_at h.lines s).member) request.body s (line_at h.lines s).count) ∷ [])
    s (line_at h.lines s).count reply
reply_is_answer h s request reply sound whole to body =
    let m : ℕ = (line_at h.lines s).member in
    let n : ℕ = (line_at h.lines s).count in
    let effect : Effect = effect_of (members_of h.peers m) request.body s n in
    let e : NetEvent = event.Handled m s n effect in
    record {
      member = m;
      effect = effect;
      handled = Contains-push h.events e;
      request = request;
      whole = request_later h.events (e ∷ []) s n request whole;
      to = to;
      ok = λ writes says.
          let plain = ok_is_plain (members_of h.peers m) request.body s n (eqb h.last m) writes (subst (λ (d : Document). says_ok d ≡ true) body says) in
          let here : (set_after h.events).last ≡ m = sound.last ∙ eqb-true h.last m plain.0 in
          record {
            before = h.events;
            after = [];
            effect = effect;
            here = ap (λ (k : ℕ). h.events ++ event.Handled k s n effect ∷ []) (sym here);
            plain = plain.1;
          };
    }

-- A request that the member handles and answers.
pub sound_answered : (h : HallState) (s : ℕ) (request reply : Message) (bytes : List ℕ) (peer : PeerState) (new : LineState) → IsSound h → s < length h.lines → (line_at h.lines s).member < length h.peers
    → (line_at h.lines s).ended ≡ false → messages (line_at h.lines s).rest ≡ request ∷ messages new.rest → behind_messages (line_at h.lines s).rest ≡ behind_messages new.rest
    → new.member ≡ (line_at h.lines s).member → new.count ≡ (line_at h.lines s).count + 1 → new.late ≡ (line_at h.lines s).late → bytes_of new.answers ≡ bytes_of (line_at h.lines s).answers ++ bytes
    → Framed bytes reply → reply.to ≡ request.id
    → reply.body ≡ reply_of (members_of h.peers (line_at h.lines s).member) request.body s (line_at h.lines s).count (eqb h.last (line_at h.lines s).member)
    → peer.member ≡ with_answer (members_of h.peers (line_at h.lines s).member) request.body s (line_at h.lines s).count (eqb h.last (line_at h.lines s).member)
    → IsSound (record h {
      peers = set h.peers (line_at h.lines s).member peer;
      lines = set h.lines s new;
      events = h.events ++ event.Handled (line_at h.lines s).member s (line_at h.lines s).count (effect_of (members_of h.peers (line_at h.lines s).member) request.body s (line_at h.lines s).count) ∷ [];
    })
sound_answered h s request reply bytes peer new sound there member goes_on first behind same_member count late answers framed to body is =
    let line : LineState = line_at h.lines s in
    let m : ℕ = line.member in
    let n : ℕ = line.count in
    let effect : Effect = effect_of (members_of h.peers m) request.body s n in
    let e : NetEvent = event.Handled m s n effect in
    let sound_line = sound.lines s there in
    let whole = next_request ((set_after h.events).out s) (answers_on h.events s line) line request (messages new.rest) (sound_line.going goes_on) first in
    sound_event h s e (set h.peers m peer) new sound there (λ t. refl) refl (last-after_handled h.events m s n effect)
    (may_follow h s request effect sound there whole (effect_fits (members_of h.peers) (set_after h.events) m s n request sound.stand whole))
    (stand_handled h s request peer sound member whole is)
    (line_answered h.events s line new request reply bytes effect sound_line goes_on first behind same_member count late answers framed
    (reply_is_answer h s request reply sound whole to body))

-- A request that it handles, and does not answer: the stream ended.
pub sound_unanswered : (h : HallState) (s : ℕ) (request : Message) (lost : List ℕ) (peer : PeerState) (new : LineState) → IsSound h → s < length h.lines → (line_at h.lines s).member < length h.peers
    → slice_get (messages ((set_after h.events).out s)) (line_at h.lines s).count ≡ Some request
    → new.member ≡ (line_at h.lines s).member → new.count ≡ (line_at h.lines s).count + 1 → new.ended ≡ true → new.late ≡ None → bytes_of (line_at h.lines s).answers ≡ bytes_of new.answers ++ lost
    → peer.member ≡ with_answer (members_of h.peers (line_at h.lines s).member) request.body s (line_at h.lines s).count (eqb h.last (line_at h.lines s).member)
    → IsSound (record h {
      peers = set h.peers (line_at h.lines s).member peer;
      lines = set h.lines s new;
      events = h.events ++ event.Handled (line_at h.lines s).member s (line_at h.lines s).count (effect_of (members_of h.peers (line_at h.lines s).member) request.body s (line_at h.lines s).count) ∷ [];
    })
sound_unanswered h s request lost peer new sound there member whole same_member count ended late bytes is =
    let line : LineState = line_at h.lines s in
    let effect : Effect = effect_of (members_of h.peers line.member) request.body s line.count in
    sound_event h s (event.Handled line.member s line.count effect) (set h.peers line.member peer) new sound there (λ t. refl) refl (last-after_handled h.events line.member s line.count effect)
    (may_follow h s request effect sound there whole (effect_fits (members_of h.peers) (set_after h.events) line.member s line.count request sound.stand whole))
    (stand_handled h s request peer sound member whole is)
    (line_handled h.events s line new lost effect (sound.lines s there) same_member count ended late bytes)

-- A request that is refused by an answer that does not say ok.
pub sound_refused : (h : HallState) (s : ℕ) (request reply : Message) (bytes : List ℕ) (peer : PeerState) (new : LineState) → IsSound h → s < length h.lines → (line_at h.lines s).member < length h.peers
    → (line_at h.lines s).ended ≡ false → messages (line_at h.lines s).rest ≡ request ∷ messages new.rest → behind_messages (line_at h.lines s).rest ≡ behind_messages new.rest
    → new.member ≡ (line_at h.lines s).member → new.count ≡ (line_at h.lines s).count + 1 → new.late ≡ (line_at h.lines s).late → bytes_of new.answers ≡ bytes_of (line_at h.lines s).answers ++ bytes
    → Framed bytes reply → reply.to ≡ request.id → says_ok reply.body ≡ false → is_write request.body ≡ true
    → peer.member ≡ members_of h.peers (line_at h.lines s).member
    → IsSound (record h {
      peers = set h.peers (line_at h.lines s).member peer;
      lines = set h.lines s new;
      events = h.events ++ event.Handled (line_at h.lines s).member s (line_at h.lines s).count Refused ∷ [];
    })
sound_refused h s request reply bytes peer new sound there member goes_on first behind same_member count late answers framed to says writes is =
    let line : LineState = line_at h.lines s in
    let m : ℕ = line.member in
    let n : ℕ = line.count in
    let e : NetEvent = event.Handled m s n Refused in
    let sound_line = sound.lines s there in
    let whole = next_request ((set_after h.events).out s) (answers_on h.events s line) line request (messages new.rest) (sound_line.going goes_on) first in
    let fits : Fits (set_after h.events) m (key_at (set_after h.events) s n) (is_write request.body) Refused
    = subst (λ (b : Bool). Fits (set_after h.events) m (key_at (set_after h.events) s n) b Refused) (sym writes) tt in
    let same : set_after (h.events ++ e ∷ []) ≡ set_after h.events = set_after-more h.events e in
    sound_event h s e (set h.peers m peer) new sound there (λ t. refl) refl (last-after_handled h.events m s n Refused)
    (may_follow h s request Refused sound there whole fits)
    (subst (λ (w : SetState). StandAs (members_of (set h.peers m peer)) w) (sym same) (subst (λ (f : ℕ → MemberState). StandAs f (set_after h.events)) (sym (members-same h.peers m peer member is)) sound.stand))
    (line_answered h.events s line new request reply bytes Refused sound_line goes_on first behind same_member count late answers framed (record {
      member = m;
      effect = Refused;
      handled = Contains-push h.events e;
      request = request;
      whole = request_later h.events (e ∷ []) s n request whole;
      to = to;
      ok = λ _ ok. let clash : true ≡ false = sym ok ∙ says in absurd cc;
    }))

-- ---- elections

sound_members : (h : HallState) (e : NetEvent) (peers : List PeerState) (last elections : ℕ) → IsSound h → ((s : ℕ) → is_at e s ≡ false)
    → ((s : ℕ) (a : List ℕ) → e ≡ event.Dialled s a → ⊥) → ((m s n : ℕ) (f : Effect) → e ≡ event.Handled m s n f → ⊥)
    → ((s : ℕ) → (set_after (h.events ++ e ∷ [])).out s ≡ (set_after h.events).out s) → ((s : ℕ) → (set_after (h.events ++ e ∷ [])).came s ≡ (set_after h.events).came s)
    → (set_after (h.events ++ e ∷ [])).last ≡ last → elections_in (h.events ++ e ∷ []) ≡ elections → StandAs (members_of peers) (set_after (h.events ++ e ∷ []))
    → IsSound (record h { peers = peers; last = last; elections = elections; events = h.events ++ e ∷ [] })
sound_members h e peers last elections sound nowhere no_dial no_request out came is_last is_count stand = record {
  honest = honest-more h.events e sound.honest (may_quiet h.events e no_dial no_request came (λ s at. let clash : true ≡ false = sym at ∙ nowhere s in absurd cc));
  stand = stand;
  last = is_last;
  elections = is_count;
  lines = λ s below. line_later h.events e s (line_at h.lines s) (sound.lines s below) (out s) (came s) (λ m n f. no_request m s n f);
  fresh = fresh_later h e sound (λ s _. nowhere s);
}

elections-one : (events : List NetEvent) (m : ℕ) → elections_in (events ++ event.Elected m ∷ []) ≡ elections_in events + 1
elections-one events m = ap length (filter-append is_elected events (event.Elected m ∷ [])) ∙ length-append (filter is_elected events) (event.Elected m ∷ [])

pub sound_elected : (h : HallState) (m : ℕ) → IsSound h → m < length h.peers → IsSound (elected m h)
unfolding elected
sound_elected h m sound there =
    let e : NetEvent = event.Elected m in
    let w : SetState = set_after h.events in
    let is : set_after (h.events ++ e ∷ []) ≡ after_event w e = set_after-more h.events e in
    let after : SetState = set_after (h.events ++ e ∷ []) in
    let mine : MemberState = members_of h.peers m in
    let stand : StandAs (update_at (members_of h.peers) m (with_election mine (last_log (members_of h.peers) w m) (h.elections + 2))) after = stand_election (members_of h.peers) h.events m (h.elections + 2) sound.stand in
    let by_last : StandAs (update_at (members_of h.peers) m (elected_peer h m).member) after
    = subst (λ (l : ℕ). StandAs (update_at (members_of h.peers) m (with_election mine (cond (eqb l m) None (Some (members_of h.peers l).log)) (h.elections + 2))) after) sound.last stand in
    sound_members h e (set h.peers m (elected_peer h m)) m (h.elections + 1) sound (λ s. refl) (λ s a same. cc) (λ k s n f same. cc)
    (λ s. ap (λ (v : SetState). v.out s) is) (λ s. ap (λ (v : SetState). v.came s) is) (ap (λ (v : SetState). v.last) is)
    (elections-one h.events m ∙ ap (λ k. k + 1) sound.elections)
    (subst (λ (f : ℕ → MemberState). StandAs f after) (sym (members-set h.peers m (elected_peer h m) there)) by_last)

sound_following_other : (h : HallState) (m : ℕ) → IsSound h → m < length h.peers → eqb h.last m ≡ false
    → IsSound (record h { peers = set h.peers m (following_peer h m); events = h.events ++ event.Followed m ∷ [] })
sound_following_other h m sound there other =
    let e : NetEvent = event.Followed m in
    let w : SetState = set_after h.events in
    let after : SetState = set_after (h.events ++ e ∷ []) in
    let mine : MemberState = members_of h.peers m in
    let apart : eqb w.last m ≡ false = ap (λ (l : ℕ). eqb l m) sound.last ∙ other in
    let is : after ≡ record w { log = update_at w.log m (w.log w.last); takes = update_at w.takes m false }
    = set_after-more h.events e ∙ ap (λ (b : Bool). cond b w (record w { log = update_at w.log m (w.log w.last); takes = update_at w.takes m false })) apart in
    let stand : StandAs (update_at (members_of h.peers) m (with_log mine (members_of h.peers w.last).log)) after = stand_following (members_of h.peers) h.events m sound.stand apart in
    let by_last : StandAs (update_at (members_of h.peers) m (following_peer h m).member) after
    = subst (λ (l : ℕ). StandAs (update_at (members_of h.peers) m (with_log mine (members_of h.peers l).log)) after) sound.last stand in
    sound_members h e (set h.peers m (following_peer h m)) h.last h.elections sound (λ s. refl) (λ s a same. cc) (λ k s n f same. cc)
    (λ s. ap (λ (v : SetState). v.out s) is) (λ s. ap (λ (v : SetState). v.came s) is) (ap (λ (v : SetState). v.last) is ∙ sound.last)
    (elections-other h.events e refl ∙ sound.elections)
    (subst (λ (f : ℕ → MemberState). StandAs f after) (sym (members-set h.peers m (following_peer h m) there)) by_last)

following_by : (h : HallState) (m : ℕ) (b : Bool) → eqb h.last m ≡ b → IsSound h → m < length h.peers
    → IsSound (cond b h (record h { peers = set h.peers m (following_peer h m); events = h.events ++ event.Followed m ∷ [] }))
following_by h m true e sound there = sound
following_by h m false e sound there = sound_following_other h m sound there e

pub sound_following : (h : HallState) (m : ℕ) → IsSound h → m < length h.peers → IsSound (following m h)
unfolding following
sound_following h m sound there = following_by h m (eqb h.last m) refl sound there
