-- Each step of a hall keeps its history honest.
use Rattle.std.proofs.Common.{◌≡◌, ◌≢◌, ◌<◌, ◌≤◌, ℕ, Bool, true, false, List, [], ◌∷◌, ◌++◌, Some, None, length, set, cond, eqb, ne_eqb, eq-eqb, refl, sym, ap, ◌∙◌, inl, inr, subst, arith, append_assoc, append-nil}
use Rattle.std.proofs.lemmas.Bool.{eqb-true, eqb-false}
use Rattle.std.proofs.lemmas.List.{get_or-set_same, get_or-set_other, get_or_append_left, get_or_push, length-set, length_push}
use Rattle.std.proofs.lemmas.List.Elements.{All-push, All-contains, Contains-append_left, Contains-push, Contains-push_cases, filter-append}
use Rattle.std.specs.List.{Contains, filter, slice_get}
use Rattle.msg_wire.specs.Messages.{behind_messages, messages, parting_of, parting_within}
use Rattle.msg_wire.proofs.Partings.{messages-more}
use Rattle.msg_wire.specs.declared.message.Message.{Message}
use Rattle.net_link.specs.Events.{IsFresh, is_at}
use Rattle.net_link.specs.declared.event.Effect.{Effect}
use Rattle.net_link.specs.declared.event.NetEvent.{NetEvent}
use Rattle.net_link.specs.declared.event.NetEvent.TheVariants as event
use Rattle.member_core.specs.Honest.{IsAnswer, IsDialled, MayFollow}
use Rattle.member_core.specs.Logs.{SetState, after_event, set_after, update_at}
use Rattle.member_core.specs.Members.{MemberState}
use Rattle.member_core.specs.Standing.{StandAs}
use Rattle.member_core.proofs.Growth.{answer_later, honest-more}
use Rattle.member_core.proofs.Runs.{set_after-more, whole-more}
use Rattle.member_hall.specs.Halls.{HallState, PeerState, line_at, no_line, no_peer, with_line, with_peer}
use Rattle.member_hall.specs.Honest.{IsOpenLine, IsSound, IsSoundLine, answers_on, elections_in, is_elected, members_of}
use Rattle.member_hall.specs.Lines.{LineState, bytes_of, new_line}
use Rattle.member_hall.specs.declared.late.LateRequest.{LateRequest}
use Rattle.member_hall.proofs.Bytes.{came-apart, came-fresh, number_apart, out-apart, out-fresh}

-- ---- what stays said of a stream that an event does not concern

dialled_later : (events : List NetEvent) (e : NetEvent) (s : ℕ) → IsDialled events s → IsDialled (events ++ e ∷ []) s
dialled_later events e s dialled = (dialled.0, Contains-append_left events (e ∷ []) (event.Dialled s dialled.0) dialled.1)

pub line_later : (events : List NetEvent) (e : NetEvent) (s : ℕ) (line : LineState) → IsSoundLine events s line
    → (set_after (events ++ e ∷ [])).out s ≡ (set_after events).out s → (set_after (events ++ e ∷ [])).came s ≡ (set_after events).came s
    → ((m n : ℕ) (effect : Effect) → e ≡ event.Handled m s n effect → ⊥)
    → IsSoundLine (events ++ e ∷ []) s line
line_later events e s line sound out came none = record {
  dialled = dialled_later events e s sound.dialled;
  handled = λ m n effect found.
      elim (Contains-push_cases events e (event.Handled m s n effect) found) [
        | inl before ↦ sound.handled m n effect before
        | inr is ↦ absurd (none m n effect is)
      ];
  answers = λ n reply whole. answer_later events e s n reply (sound.answers n reply (subst (λ (b : List ℕ). slice_get (messages (b ++ bytes_of line.answers)) n ≡ Some reply) came whole));
  going = λ goes_on.
      subst (λ (b : List ℕ). IsOpenLine b ((set_after (events ++ e ∷ [])).came s ++ bytes_of line.answers) line) (sym out)
      (subst (λ (b : List ℕ). IsOpenLine ((set_after events).out s) (b ++ bytes_of line.answers) line) (sym came) (sound.going goes_on));
  late = λ request is.
      ((sound.late request is).0, subst (λ (b : List ℕ). slice_get (messages b) line.count ≡ Some request.message) (sym out) (sound.late request is).1);
}

-- ---- the parts of a sound hall behind one more event

pub elections-other : (events : List NetEvent) (e : NetEvent) → is_elected e ≡ false → elections_in (events ++ e ∷ []) ≡ elections_in events
elections-other events e other =
    ap length (filter-append is_elected events (e ∷ []) ∙ ap (λ b. filter is_elected events ++ cond b (e ∷ []) []) other ∙ append-nil (filter is_elected events))

pub fresh_later : (h : HallState) (e : NetEvent) → IsSound h → ((s : ℕ) → length h.lines ≤ s → is_at e s ≡ false) → (s : ℕ) → length h.lines ≤ s → IsFresh s (h.events ++ e ∷ [])
fresh_later h e sound other s beyond = All-push (λ x. is_at x s ≡ false) h.events e (sound.fresh s beyond) (other s beyond)

-- An event that is no dial and no handled request, and gives no bytes.
pub may_quiet : (events : List NetEvent) (e : NetEvent) → ((s : ℕ) (a : List ℕ) → e ≡ event.Dialled s a → ⊥) → ((m s n : ℕ) (f : Effect) → e ≡ event.Handled m s n f → ⊥)
    → ((s : ℕ) → (set_after (events ++ e ∷ [])).came s ≡ (set_after events).came s) → ((s : ℕ) → is_at e s ≡ true → IsDialled events s) → MayFollow events e
may_quiet events e no_dial no_request came dialled = record {
  dialled_once = λ s a is. absurd (no_dial s a is);
  dialled = λ s at. dialled_later events e s (dialled s at);
  handled = λ m s n f is. absurd (no_request m s n f is);
  answered = λ s n reply whole none.
      let here : slice_get (messages ((set_after events).came s)) n ≡ Some reply = subst (λ (b : List ℕ). slice_get (messages b) n ≡ Some reply) (came s) whole in
      let clash : None ≡ Some reply = sym none ∙ here in
      absurd cc;
}

-- ---- an event of a call that moves no byte

abbrev pub is_still : NetEvent → Bool
is_still (event.NoDial a) = true
is_still (event.Ended s) = true
is_still (event.Fault s) = true
is_still (event.Closed s) = true
is_still (event.Dry s) = true
is_still _ = false

after-still : (w : SetState) (e : NetEvent) → is_still e ≡ true → after_event w e ≡ w
after-still w (event.NoDial a) still = refl
after-still w (event.Ended s) still = refl
after-still w (event.Fault s) still = refl
after-still w (event.Closed s) still = refl
after-still w (event.Dry s) still = refl
after-still w (event.Dialled s a) still = cc
after-still w (event.Out s b) still = cc
after-still w (event.Came s b) still = cc
after-still w (event.Full s) still = cc
after-still w (event.Handled m s n f) still = cc
after-still w (event.Elected m) still = cc
after-still w (event.Followed m) still = cc

elected-still : (e : NetEvent) → is_still e ≡ true → is_elected e ≡ false
elected-still (event.Elected m) still = cc
elected-still e still = refl

other_than : (e x : NetEvent) → is_still e ≡ true → is_still x ≡ false → e ≡ x → ⊥
other_than e x still other is = let clash : true ≡ false = sym still ∙ ap is_still is ∙ other in cc

at_given : (e : NetEvent) (n s : ℕ) (b : Bool) → is_at e s ≡ b → ((t : ℕ) → is_at e t ≡ true → t < n) → n ≤ s → is_at e s ≡ false
at_given e n s true at there beyond = let below : s < n = there s at in absurd (omega arith)
at_given e n s false at there beyond = at

pub sound_still : (h : HallState) (e : NetEvent) (faults : ℕ) → IsSound h → is_still e ≡ true → ((s : ℕ) → is_at e s ≡ true → s < length h.lines)
    → IsSound (record h { events = h.events ++ e ∷ []; faults = faults })
sound_still h e faults sound still there =
    let same : set_after (h.events ++ e ∷ []) ≡ set_after h.events = set_after-more h.events e ∙ after-still (set_after h.events) e still in
    record {
      honest = honest-more h.events e sound.honest
          (may_quiet h.events e (λ s a. other_than e (event.Dialled s a) still refl) (λ m s n f. other_than e (event.Handled m s n f) still refl)
          (λ s. ap (λ (w : SetState). w.came s) same) (λ s at. (sound.lines s (there s at)).dialled));
      stand = subst (λ (w : SetState). StandAs (members_of h.peers) w) (sym same) sound.stand;
      last = ap (λ (w : SetState). w.last) same ∙ sound.last;
      elections = elections-other h.events e (elected-still e still) ∙ sound.elections;
      lines = λ s below.
          line_later h.events e s (line_at h.lines s) (sound.lines s below) (ap (λ (w : SetState). w.out s) same) (ap (λ (w : SetState). w.came s) same)
          (λ m n f. other_than e (event.Handled m s n f) still refl);
      fresh = fresh_later h e sound (λ s beyond. at_given e (length h.lines) s (is_at e s) refl there beyond);
    }

-- ---- another line, or another member, in the place of one

pub line_set : (P : ℕ → LineState → Type 0) (lines : List LineState) (s : ℕ) (line : LineState) → ((t : ℕ) → t < length lines → t ≢ s → P t (line_at lines t)) → P s line
    → (t : ℕ) (b : Bool) → eqb t s ≡ b → t < length lines → P t (line_at (set lines s line) t)
line_set P lines s line others here t true e below =
    let is : t ≡ s = eqb-true t s e in
    subst (λ (k : ℕ). P k (line_at (set lines s line) k)) (sym is)
    (subst (λ (l : LineState). P s l) (sym (get_or-set_same lines s line no_line (subst (λ (k : ℕ). k < length lines) is below))) here)
line_set P lines s line others here t false e below =
    let apart : t ≢ s = eqb-false t s e in
    subst (λ (l : LineState). P t l) (sym (get_or-set_other lines s t line no_line apart)) (others t below apart)

-- A line that is sound by what happened so far.
pub sound_line : (h : HallState) (s : ℕ) (line : LineState) → IsSound h → IsSoundLine h.events s line → IsSound (with_line s line h)
sound_line h s line sound here =
    let same : length (set h.lines s line) ≡ length h.lines = length-set h.lines s line in
    record {
      honest = sound.honest;
      stand = sound.stand;
      last = sound.last;
      elections = sound.elections;
      lines = λ t below. line_set (IsSoundLine h.events) h.lines s line (λ k under apart. sound.lines k under) here t (eqb t s) refl (subst (λ (n : ℕ). t < n) same below);
      fresh = λ t beyond. sound.fresh t (subst (λ (n : ℕ). n ≤ t) same beyond);
    }

-- The members with another one at a place.
pub members-set : (peers : List PeerState) (m : ℕ) (peer : PeerState) → m < length peers → members_of (set peers m peer) ≡ update_at (members_of peers) m peer.member
members-set peers m peer there = λ i k. at k (eqb k m) refl i
  where
    at : (k : ℕ) (b : Bool) → eqb k m ≡ b → members_of (set peers m peer) k ≡ cond b peer.member (members_of peers k)
    at k true e = ap (λ (j : ℕ). members_of (set peers m peer) j) (eqb-true k m e) ∙ ap (λ (p : PeerState). p.member) (get_or-set_same peers m peer no_peer there)
    at k false e = ap (λ (p : PeerState). p.member) (get_or-set_other peers m k peer no_peer (eqb-false k m e))

pub members-same : (peers : List PeerState) (m : ℕ) (peer : PeerState) → m < length peers → peer.member ≡ members_of peers m → members_of (set peers m peer) ≡ members_of peers
members-same peers m peer there same = λ i k. at k (eqb k m) refl i
  where
    at : (k : ℕ) (b : Bool) → eqb k m ≡ b → members_of (set peers m peer) k ≡ members_of peers k
    at k true e =
        ap (λ (j : ℕ). members_of (set peers m peer) j) (eqb-true k m e) ∙ ap (λ (p : PeerState). p.member) (get_or-set_same peers m peer no_peer there)
        ∙ same ∙ ap (members_of peers) (sym (eqb-true k m e))
    at k false e = ap (λ (p : PeerState). p.member) (get_or-set_other peers m k peer no_peer (eqb-false k m e))

-- A member that is the same but for what happened to it.
pub sound_peer : (h : HallState) (m : ℕ) (peer : PeerState) → m < length h.peers → peer.member ≡ members_of h.peers m → IsSound h → IsSound (with_peer m peer h)
sound_peer h m peer there same sound = record {
  honest = sound.honest;
  stand = subst (λ (f : ℕ → MemberState). StandAs f (set_after h.events)) (sym (members-same h.peers m peer there same)) sound.stand;
  last = sound.last;
  elections = sound.elections;
  lines = sound.lines;
  fresh = sound.fresh;
}

-- ---- a stream ends

-- Of answers of which the last are lost.
pub line_ended : (events : List NetEvent) (s : ℕ) (line new : LineState) (lost : List ℕ) → IsSoundLine events s line
    → new.member ≡ line.member → new.count ≡ line.count → new.ended ≡ true → bytes_of line.answers ≡ bytes_of new.answers ++ lost
    → ((request : LateRequest) → new.late ≡ Some request → slice_get (messages ((set_after events).out s)) new.count ≡ Some request.message)
    → IsSoundLine events s new
line_ended events s line new lost sound member count ended bytes late = record {
  dialled = sound.dialled;
  handled = λ m n effect found. ((sound.handled m n effect found).0 ∙ sym member, subst (λ (k : ℕ). n < k) (sym count) (sound.handled m n effect found).1);
  answers = λ n reply whole. sound.answers n reply
      (subst (λ (b : List ℕ). slice_get (messages b) n ≡ Some reply) (append_assoc ((set_after events).came s) (bytes_of new.answers) lost ∙ ap (λ b. (set_after events).came s ++ b) (sym bytes))
      (whole-more ((set_after events).came s ++ bytes_of new.answers) lost n reply whole));
  going = λ goes_on. let clash : true ≡ false = sym ended ∙ goes_on in absurd cc;
  late = λ request is. (ended, late request is);
}

-- ---- a dial

pub messages-nil : messages [] ≡ []
unfolding parting_of parting_within
messages-nil = refl

pub behind-nil : behind_messages [] ≡ []
unfolding parting_of parting_within
behind-nil = refl

none_given : (n : ℕ) (reply : Message) → slice_get (messages []) n ≡ Some reply → ⊥
none_given n reply whole = let clash : None ≡ Some reply = ap (λ (ms : List Message). slice_get ms n) (sym messages-nil) ∙ whole in cc

is_dialled_at : (events : List NetEvent) (s : ℕ) → IsFresh s events → ¬ IsDialled events s
is_dialled_at events s fresh dialled =
    let apart : is_at (event.Dialled s dialled.0) s ≡ false = All-contains (λ x. is_at x s ≡ false) events (event.Dialled s dialled.0) fresh dialled.1 in
    let clash : true ≡ false = sym (eq-eqb s s refl) ∙ apart in
    cc

no_request_at : (events : List NetEvent) (m s n : ℕ) (f : Effect) → IsFresh s events → Contains events (event.Handled m s n f) → ⊥
no_request_at events m s n f fresh found =
    let apart : is_at (event.Handled m s n f) s ≡ false = All-contains (λ x. is_at x s ≡ false) events (event.Handled m s n f) fresh found in
    let clash : true ≡ false = sym (eq-eqb s s refl) ∙ apart in
    cc

line_dialled : (events : List NetEvent) (s m : ℕ) (address : List ℕ) → IsFresh s events → IsSoundLine (events ++ event.Dialled s address ∷ []) s (new_line m)
line_dialled events s m address fresh =
    let e : NetEvent = event.Dialled s address in
    let out : (set_after (events ++ e ∷ [])).out s ≡ [] = ap (λ (w : SetState). w.out s) (set_after-more events e) ∙ out-fresh events s fresh in
    let came : (set_after (events ++ e ∷ [])).came s ≡ [] = ap (λ (w : SetState). w.came s) (set_after-more events e) ∙ came-fresh events s fresh in
    let replies : (set_after (events ++ e ∷ [])).came s ++ [] ≡ [] = append-nil ((set_after (events ++ e ∷ [])).came s) ∙ came in
    record {
      dialled = (address, Contains-push events e);
      handled = λ k n f found.
          elim (Contains-push_cases events e (event.Handled k s n f) found) [
            | inl before ↦ absurd (no_request_at events k s n f fresh before)
            | inr is ↦ absurd cc
          ];
      answers = λ n reply whole. absurd (none_given n reply (subst (λ (b : List ℕ). slice_get (messages b) n ≡ Some reply) replies whole));
      going = λ goes_on.
          subst (λ (b : List ℕ). IsOpenLine b ((set_after (events ++ e ∷ [])).came s ++ []) (new_line m)) (sym out)
          (subst (λ (b : List ℕ). IsOpenLine [] b (new_line m)) (sym replies)
          (record { done = []; count = refl; requests = refl; behind = refl; answered = ap length messages-nil; whole = behind-nil }));
      late = λ request is. absurd cc;
    }

lines_push : (P : ℕ → LineState → Type 0) (lines : List LineState) (line : LineState) → ((t : ℕ) → t < length lines → P t (line_at lines t)) → P (length lines) line
    → (t : ℕ) (b : Bool) → eqb t (length lines) ≡ b → t < length (lines ++ line ∷ []) → P t (line_at (lines ++ line ∷ []) t)
lines_push P lines line others here t true e below =
    let is : t ≡ length lines = eqb-true t (length lines) e in
    subst (λ (k : ℕ). P k (line_at (lines ++ line ∷ []) k)) (sym is) (subst (λ (l : LineState). P (length lines) l) (sym (get_or_push lines line no_line (length lines) refl)) here)
lines_push P lines line others here t false e below =
    let apart : t ≢ length lines = eqb-false t (length lines) e in
    let longer = length_push lines line in
    let under : t < length lines = omega arith in
    subst (λ (l : LineState). P t l) (sym (get_or_append_left lines (line ∷ []) no_line t under)) (others t under)

pub sound_dialled : (h : HallState) (m : ℕ) (address : List ℕ) → IsSound h
    → IsSound (record h { lines = h.lines ++ new_line m ∷ []; events = h.events ++ event.Dialled (length h.lines) address ∷ [] })
sound_dialled h m address sound =
    let s : ℕ = length h.lines in
    let e : NetEvent = event.Dialled s address in
    let same : set_after (h.events ++ e ∷ []) ≡ set_after h.events = set_after-more h.events e in
    let fresh : IsFresh s h.events = sound.fresh s (omega arith) in
    record {
      honest = honest-more h.events e sound.honest (record {
        dialled_once = λ t a is. let number : s ≡ t = cc in subst (λ (k : ℕ). ¬ IsDialled h.events k) number (is_dialled_at h.events s fresh);
        dialled = λ t at. let number : s ≡ t = eqb-true s t at in subst (λ (k : ℕ). IsDialled (h.events ++ e ∷ []) k) number (address, Contains-push h.events e);
        handled = λ k t n f is. absurd cc;
        answered = λ t n reply whole none.
            let here : slice_get (messages ((set_after h.events).came t)) n ≡ Some reply = subst (λ (w : SetState). slice_get (messages (w.came t)) n ≡ Some reply) same whole in
            let clash : None ≡ Some reply = sym none ∙ here in
            absurd cc;
      });
      stand = subst (λ (w : SetState). StandAs (members_of h.peers) w) (sym same) sound.stand;
      last = ap (λ (w : SetState). w.last) same ∙ sound.last;
      elections = elections-other h.events e refl ∙ sound.elections;
      lines = λ t below. lines_push (IsSoundLine (h.events ++ e ∷ [])) h.lines (new_line m)
          (λ k under. line_later h.events e k (line_at h.lines k) (sound.lines k under) (ap (λ (w : SetState). w.out k) same) (ap (λ (w : SetState). w.came k) same) (λ j n f is. cc))
          (line_dialled h.events s m address fresh) t (eqb t s) refl below;
      fresh = λ t beyond. let longer = length_push h.lines (new_line m) in
          All-push (λ x. is_at x t ≡ false) h.events e (sound.fresh t (omega arith)) (ne_eqb s t (λ is. absurd (omega arith)));
    }

-- ---- an event of one stream

-- Where the event is one of this stream, that is no election, and the stream is sound behind it.
pub sound_event : (h : HallState) (s : ℕ) (e : NetEvent) (peers : List PeerState) (line : LineState) → IsSound h → s < length h.lines
    → ((t : ℕ) → is_at e t ≡ eqb s t) → is_elected e ≡ false → (set_after (h.events ++ e ∷ [])).last ≡ (set_after h.events).last
    → MayFollow h.events e → StandAs (members_of peers) (set_after (h.events ++ e ∷ [])) → IsSoundLine (h.events ++ e ∷ []) s line
    → IsSound (record h { peers = peers; lines = set h.lines s line; events = h.events ++ e ∷ [] })
sound_event h s e peers line sound there at elected last may stand here =
    let same : length (set h.lines s line) ≡ length h.lines = length-set h.lines s line in
    record {
      honest = honest-more h.events e sound.honest may;
      stand = stand;
      last = last ∙ sound.last;
      elections = elections-other h.events e elected ∙ sound.elections;
      lines = λ t below. line_set (IsSoundLine (h.events ++ e ∷ [])) h.lines s line
          (λ k under apart.
          let elsewhere : is_at e k ≡ false = at k ∙ ne_eqb s k (λ is. apart (sym is)) in
          line_later h.events e k (line_at h.lines k) (sound.lines k under) (out-apart h.events e k elsewhere) (came-apart h.events e k elsewhere)
          (λ m n f is. let clash : true ≡ false = sym (eq-eqb k k refl) ∙ sym (ap (λ (x : NetEvent). is_at x k) is) ∙ elsewhere in cc))
          here t (eqb t s) refl (subst (λ (n : ℕ). t < n) same below);
      fresh = λ t beyond. let far : length h.lines ≤ t = subst (λ (n : ℕ). n ≤ t) same beyond in
          All-push (λ x. is_at x t ≡ false) h.events e (sound.fresh t far) (at t ∙ ne_eqb s t (λ is. absurd (omega arith)));
    }

-- ---- bytes go out, and come

out-here : (events : List NetEvent) (s : ℕ) (bytes : List ℕ) → (set_after (events ++ event.Out s bytes ∷ [])).out s ≡ (set_after events).out s ++ bytes
out-here events s bytes =
    ap (λ (w : SetState). w.out s) (set_after-more events (event.Out s bytes)) ∙ ap (λ b. cond b ((set_after events).out s ++ bytes) ((set_after events).out s)) (eq-eqb s s refl)

came-here : (events : List NetEvent) (s : ℕ) (bytes : List ℕ) → (set_after (events ++ event.Came s bytes ∷ [])).came s ≡ (set_after events).came s ++ bytes
came-here events s bytes =
    ap (λ (w : SetState). w.came s) (set_after-more events (event.Came s bytes)) ∙ ap (λ b. cond b ((set_after events).came s ++ bytes) ((set_after events).came s)) (eq-eqb s s refl)

open_out : (out replies bytes : List ℕ) (line : LineState) → IsOpenLine out replies line → IsOpenLine (out ++ bytes) replies (record line { rest = line.rest ++ bytes })
open_out out replies bytes line p =
    let whole = messages-more out bytes in
    let rest = messages-more line.rest bytes in
    let joined : behind_messages out ++ bytes ≡ behind_messages line.rest ++ bytes = ap (λ (b : List ℕ). b ++ bytes) p.behind in
    record {
      done = p.done;
      count = p.count;
      requests =
          whole.0 ∙ ap (λ (b : List ℕ). messages out ++ messages b) joined
          ∙ ap (λ (ms : List Message). ms ++ messages (behind_messages line.rest ++ bytes)) p.requests
          ∙ append_assoc p.done (messages line.rest) (messages (behind_messages line.rest ++ bytes))
          ∙ ap (λ (ms : List Message). p.done ++ ms) (sym rest.0);
      behind = whole.1 ∙ ap behind_messages joined ∙ sym rest.1;
      answered = p.answered;
      whole = p.whole;
    }

line_out : (events : List NetEvent) (s : ℕ) (bytes : List ℕ) (line : LineState) → IsSoundLine events s line → line.ended ≡ false
    → IsSoundLine (events ++ event.Out s bytes ∷ []) s (record line { rest = line.rest ++ bytes })
line_out events s bytes line sound goes_on =
    let e : NetEvent = event.Out s bytes in
    let came : (set_after (events ++ e ∷ [])).came s ≡ (set_after events).came s = ap (λ (w : SetState). w.came s) (set_after-more events e) in
    record {
      dialled = dialled_later events e s sound.dialled;
      handled = λ m n f found.
          elim (Contains-push_cases events e (event.Handled m s n f) found) [
            | inl before ↦ sound.handled m n f before
            | inr is ↦ absurd cc
          ];
      answers = λ n reply whole. answer_later events e s n reply (sound.answers n reply (subst (λ (b : List ℕ). slice_get (messages (b ++ bytes_of line.answers)) n ≡ Some reply) came whole));
      going = λ _.
          subst (λ (b : List ℕ). IsOpenLine b ((set_after (events ++ e ∷ [])).came s ++ bytes_of line.answers) (record line { rest = line.rest ++ bytes })) (sym (out-here events s bytes))
          (subst (λ (b : List ℕ). IsOpenLine ((set_after events).out s ++ bytes) (b ++ bytes_of line.answers) (record line { rest = line.rest ++ bytes })) (sym came)
          (open_out ((set_after events).out s) (answers_on events s line) bytes line (sound.going goes_on)));
      late = λ request is. let clash : true ≡ false = sym (sound.late request is).0 ∙ goes_on in absurd cc;
    }

pub sound_out : (h : HallState) (s : ℕ) (bytes : List ℕ) → IsSound h → s < length h.lines → (line_at h.lines s).ended ≡ false
    → IsSound (record h { lines = set h.lines s (record (line_at h.lines s) { rest = (line_at h.lines s).rest ++ bytes }); events = h.events ++ event.Out s bytes ∷ [] })
sound_out h s bytes sound there goes_on =
    let e : NetEvent = event.Out s bytes in
    let w : SetState = set_after h.events in
    let is : set_after (h.events ++ e ∷ []) ≡ after_event w e = set_after-more h.events e in
    let stand : StandAs (members_of h.peers) (after_event w e) = record { log = sound.stand.log; takes = sound.stand.takes; acked = sound.stand.acked } in
    sound_event h s e h.peers (record (line_at h.lines s) { rest = (line_at h.lines s).rest ++ bytes }) sound there (λ t. refl) refl (ap (λ (v : SetState). v.last) is)
    (may_quiet h.events e (λ t a same. cc) (λ m t n f same. cc) (λ t. ap (λ (v : SetState). v.came t) is) (λ t at. subst (λ (k : ℕ). IsDialled h.events k) (eqb-true s t at) (sound.lines s there).dialled))
    (subst (λ (v : SetState). StandAs (members_of h.peers) v) (sym is) stand)
    (line_out h.events s bytes (line_at h.lines s) (sound.lines s there) goes_on)

line_came : (events : List NetEvent) (s : ℕ) (bytes : List ℕ) (line new : LineState) → IsSoundLine events s line
    → new.member ≡ line.member → new.count ≡ line.count → new.rest ≡ line.rest → new.ended ≡ line.ended → new.late ≡ line.late → bytes_of line.answers ≡ bytes ++ bytes_of new.answers
    → IsSoundLine (events ++ event.Came s bytes ∷ []) s new
line_came events s bytes line new sound member count rest ended late split =
    let e : NetEvent = event.Came s bytes in
    let out : (set_after (events ++ e ∷ [])).out s ≡ (set_after events).out s = ap (λ (w : SetState). w.out s) (set_after-more events e) in
    let same : (set_after (events ++ e ∷ [])).came s ++ bytes_of new.answers ≡ (set_after events).came s ++ bytes_of line.answers
    = ap (λ (b : List ℕ). b ++ bytes_of new.answers) (came-here events s bytes) ∙ append_assoc ((set_after events).came s) bytes (bytes_of new.answers) ∙ ap (λ b. (set_after events).came s ++ b) (sym split) in
    record {
      dialled = dialled_later events e s sound.dialled;
      handled = λ m n f found.
          elim (Contains-push_cases events e (event.Handled m s n f) found) [
            | inl before ↦ ((sound.handled m n f before).0 ∙ sym member, subst (λ (k : ℕ). n < k) (sym count) (sound.handled m n f before).1)
            | inr is ↦ absurd cc
          ];
      answers = λ n reply whole. answer_later events e s n reply (sound.answers n reply (subst (λ (b : List ℕ). slice_get (messages b) n ≡ Some reply) same whole));
      going = λ goes_on.
          let p : IsOpenLine ((set_after events).out s) (answers_on events s line) line = sound.going (sym ended ∙ goes_on) in
          record {
            done = p.done;
            count = p.count ∙ sym count;
            requests = ap messages out ∙ p.requests ∙ ap (λ (b : List ℕ). p.done ++ messages b) (sym rest);
            behind = ap behind_messages out ∙ p.behind ∙ ap behind_messages (sym rest);
            answered = ap (λ (b : List ℕ). length (messages b)) same ∙ p.answered ∙ sym count;
            whole = ap behind_messages same ∙ p.whole;
          };
      late = λ request is.
          let l = sound.late request (sym late ∙ is) in (
            ended ∙ l.0,
            subst (λ (b : List ℕ). slice_get (messages b) new.count ≡ Some request.message) (sym out)
                (subst (λ (k : ℕ). slice_get (messages ((set_after events).out s)) k ≡ Some request.message) (sym count) l.1),
          );
    }

pub sound_came : (h : HallState) (s : ℕ) (bytes : List ℕ) (new : LineState) → IsSound h → s < length h.lines
    → new.member ≡ (line_at h.lines s).member → new.count ≡ (line_at h.lines s).count → new.rest ≡ (line_at h.lines s).rest → new.ended ≡ (line_at h.lines s).ended
    → new.late ≡ (line_at h.lines s).late → bytes_of (line_at h.lines s).answers ≡ bytes ++ bytes_of new.answers
    → IsSound (record h { lines = set h.lines s new; events = h.events ++ event.Came s bytes ∷ [] })
sound_came h s bytes new sound there member count rest ended late split =
    let e : NetEvent = event.Came s bytes in
    let w : SetState = set_after h.events in
    let line : LineState = line_at h.lines s in
    let is : set_after (h.events ++ e ∷ []) ≡ after_event w e = set_after-more h.events e in
    let stand : StandAs (members_of h.peers) (after_event w e) = record { log = sound.stand.log; takes = sound.stand.takes; acked = sound.stand.acked } in
    let may : MayFollow h.events e = record {
      dialled_once = λ t a same. absurd cc;
      dialled = λ t at. dialled_later h.events e t (subst (λ (k : ℕ). IsDialled h.events k) (eqb-true s t at) (sound.lines s there).dialled);
      handled = λ m t n f same. absurd cc;
      answered = λ t n reply whole none. answered_came t n reply (eqb t s) refl whole none;
    } in
    sound_event h s e h.peers new sound there (λ t. refl) refl (ap (λ (v : SetState). v.last) is) may
    (subst (λ (v : SetState). StandAs (members_of h.peers) v) (sym is) stand)
    (line_came h.events s bytes line new (sound.lines s there) member count rest ended late split)
  where
    answered_came : (t n : ℕ) (reply : Message) (b : Bool) → eqb t s ≡ b → slice_get (messages ((set_after (h.events ++ event.Came s bytes ∷ [])).came t)) n ≡ Some reply
        → slice_get (messages ((set_after h.events).came t)) n ≡ None → IsAnswer (h.events ++ event.Came s bytes ∷ []) t n reply
    answered_came t n reply true at whole none =
        let same : t ≡ s = eqb-true t s at in
        let here : slice_get (messages ((set_after h.events).came s ++ bytes)) n ≡ Some reply
        = subst (λ (b : List ℕ). slice_get (messages b) n ≡ Some reply) (ap (λ (k : ℕ). (set_after (h.events ++ event.Came s bytes ∷ [])).came k) same ∙ came-here h.events s bytes) whole in
        let all : slice_get (messages ((set_after h.events).came s ++ bytes_of (line_at h.lines s).answers)) n ≡ Some reply
        = subst (λ (b : List ℕ). slice_get (messages b) n ≡ Some reply)
        (append_assoc ((set_after h.events).came s) bytes (bytes_of new.answers) ∙ ap (λ b. (set_after h.events).came s ++ b) (sym split))
        (whole-more ((set_after h.events).came s ++ bytes) (bytes_of new.answers) n reply here) in
        subst (λ (k : ℕ). IsAnswer (h.events ++ event.Came s bytes ∷ []) k n reply) (sym same)
        (answer_later h.events (event.Came s bytes) s n reply ((sound.lines s there).answers n reply all))
    answered_came t n reply false at whole none =
        let elsewhere : is_at (event.Came s bytes) t ≡ false = number_apart t s at in
        let here : slice_get (messages ((set_after h.events).came t)) n ≡ Some reply = subst (λ (b : List ℕ). slice_get (messages b) n ≡ Some reply) (came-apart h.events (event.Came s bytes) t elsewhere) whole in
        let clash : None ≡ Some reply = sym none ∙ here in
        absurd cc
