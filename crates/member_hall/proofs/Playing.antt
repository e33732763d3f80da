-- Each thing that members do by themselves.
use Rattle.std.proofs.Common.{◌≡◌, ◌<◌, ◌≤◌, ◌+◌, ◌^◌, ℕ, ℤ, Bool, true, false, List, [], ◌∷◌, ◌++◌, Option, Some, None, length, set, cond, eqb, leb, refl, sym, ap, ◌∙◌, subst, arith, append-nil, drop}
use Rattle.std.proofs.lemmas.Bool.{eqb-true, eqb-false}
use Rattle.std.proofs.lemmas.List.{get_or-set_same, get_or-set_other, length-set}
use Rattle.std.specs.List.{slice_get}
use Rattle.bson_doc.specs.declared.value.Value as value
use Rattle.msg_wire.specs.Framing.{frame, message_of}
use Rattle.msg_wire.specs.Messages.{messages}
use Rattle.msg_wire.specs.declared.message.Message.{Message}
use Rattle.net_link.specs.Causes.{next_count}
use Rattle.net_link.specs.Keeps.{all}
use Rattle.net_link.specs.Prefix.{IsPrefixOf}
use Rattle.net_link.specs.declared.event.Effect.TheVariants as effect
use Rattle.net_link.specs.declared.event.NetEvent.{NetEvent}
use Rattle.net_link.specs.declared.event.NetEvent.TheVariants as event
use Rattle.net_link.proofs.EventLemmas.{Adds-members, Adds-none, Adds-trans}
use Rattle.net_link.proofs.KeepsLemmas.{Keeps-trans}
use Rattle.net_link.proofs.PrefixLemmas.{IsPrefixOf-from_eq, IsPrefixOf-same}
use Rattle.member_core.specs.Honest.{says_ok}
use Rattle.member_core.specs.Keys.{is_write}
use Rattle.member_core.specs.Logs.{set_after}
use Rattle.member_core.specs.Members.{MemberState, effect_of}
use Rattle.member_core.specs.Replies.{answer_bytes, reply_of}
use Rattle.member_hall.specs.Acts.{elected, elected_peer, following, following_peer, host_of, met}
use Rattle.member_hall.specs.Halls.{HallState, HasEnded, IsLive, PeerState, inbox_of, line_at, no_line, peer_at, with_line, with_peer}
use Rattle.member_hall.specs.Honest.{IsSound, IsSoundLine, answers_on}
use Rattle.member_hall.specs.Lines.{LineState, bytes_of, end_line, inbox_at, ready}
use Rattle.member_hall.specs.Playing.{HallKeeps, IsNext, Plays}
use Rattle.member_hall.specs.Requests.{IsFramedBy, Scene, due_by, handled_late, id_of, late_scene, later, refusal, request, request_by, rule_of}
use Rattle.member_hall.specs.Turns.{end_on, late_on, place_in, put_scene, request_on, scene_in, ticked}
use Rattle.member_hall.specs.declared.act.Act.{Act}
use Rattle.member_hall.specs.declared.act.Act.TheVariants as act
use Rattle.member_hall.specs.declared.act.Planned.{Planned}
use Rattle.member_hall.specs.declared.answer.Answer.{Answer}
use Rattle.member_hall.specs.declared.late.LateRequest.{LateRequest}
use Rattle.member_hall.specs.declared.place.Place.{Place}
use Rattle.member_hall.specs.declared.rule.Rule.{Rule}
use Rattle.member_hall.specs.declared.rule.Rule.TheVariants as rule
use Rattle.member_hall.proofs.Answering.{bytes-push, held_back, ready-again, ready-later, ready-push, ready-split}
use Rattle.member_hall.proofs.Handling.{next_request, sound_answered, sound_elected, sound_following, sound_refused, sound_unanswered}
use Rattle.member_hall.proofs.Honesty.{line_ended, sound_line, sound_peer}

-- ---- one thing after another

pub plays-trans : {a b c : HallState} → Plays a b → Plays b c → Plays a c
plays-trans p q = record {
  sound = λ sound. q.sound (p.sound sound);
  adds = Adds-trans p.adds q.adds;
  keeps = Keeps-trans p.keeps q.keeps;
  faults = q.faults ∙ p.faults;
}

-- ---- what becomes of the streams

-- A stream is as open, as ended and has in its inbox what it had, with perhaps more.
pub record Goes (turn next : ℕ) (line new : LineState) : Type 0 where
  pub live : new.live ≡ line.live
  pub over : line.ended ≡ true → new.ended ≡ true
  pub inbox : IsPrefixOf (inbox_at turn line) (inbox_at next new)

pub goes-self : (turn : ℕ) (line : LineState) → Goes turn turn line line
goes-self turn line = record { live = refl; over = λ e. e; inbox = IsPrefixOf-same (inbox_at turn line) }

goes-later : (turn next : ℕ) (line : LineState) → turn ≤ next → Goes turn next line line
goes-later turn next line less = record { live = refl; over = λ e. e; inbox = ready-later turn next line.answers less }

goes-ended : (turn : ℕ) (line new : LineState) → new.live ≡ line.live → new.ended ≡ true → new.answers ≡ ready turn line.answers → Goes turn turn line new
goes-ended turn line new live over answers = record {
  live = live;
  over = λ _. over;
  inbox = IsPrefixOf-from_eq (inbox_at turn line) (inbox_at turn new) (ap bytes_of (sym (ready-again turn line.answers)) ∙ ap (λ (l : List Answer). bytes_of (ready turn l)) (sym answers));
}

goes-answered : (turn : ℕ) (line new : LineState) (answer : Answer) → new.live ≡ line.live → new.ended ≡ line.ended → new.answers ≡ line.answers ++ answer ∷ [] → Goes turn turn line new
goes-answered turn line new answer live over answers = record {
  live = live;
  over = λ e. over ∙ e;
  inbox = subst (λ (l : List Answer). IsPrefixOf (inbox_at turn line) (bytes_of (ready turn l))) (sym answers) (ready-push turn line.answers answer);
}

pub keeps_by : (old new : HallState) → length new.lines ≡ length old.lines → ((t : ℕ) → Goes old.turn new.turn (line_at old.lines t) (line_at new.lines t)) → HallKeeps all old new
unfolding IsLive HasEnded inbox_of
keeps_by old new many each = record {
  opens = λ t live. (each t).live ∙ live;
  numbers = omega arith;
  arrives = λ _ t live. (each t).inbox;
  stays_ended = λ _ t over. (each t).over over;
}

pub goes_set : (turn : ℕ) (lines : List LineState) (s : ℕ) (new : LineState) → s < length lines → Goes turn turn (line_at lines s) new → (t : ℕ) (b : Bool) → eqb t s ≡ b
    → Goes turn turn (line_at lines t) (line_at (set lines s new) t)
goes_set turn lines s new there goes t true e =
    subst (λ (k : ℕ). Goes turn turn (line_at lines k) (line_at (set lines s new) k)) (sym (eqb-true t s e))
    (subst (λ (l : LineState). Goes turn turn (line_at lines s) l) (sym (get_or-set_same lines s new no_line there)) goes)
goes_set turn lines s new there goes t false e =
    subst (λ (l : LineState). Goes turn turn (line_at lines t) l) (sym (get_or-set_other lines s t new no_line (eqb-false t s e))) (goes-self turn (line_at lines t))

pub keeps_line : (old new : HallState) (s : ℕ) (line : LineState) → s < length old.lines → new.turn ≡ old.turn → new.lines ≡ set old.lines s line → Goes old.turn old.turn (line_at old.lines s) line → HallKeeps all old new
keeps_line old new s line there turn lines goes =
    keeps_by old new (ap length lines ∙ length-set old.lines s line)
    (λ t. subst (λ (k : ℕ). Goes old.turn k (line_at old.lines t) (line_at new.lines t)) (sym turn)
    (subst (λ (ls : List LineState). Goes old.turn old.turn (line_at old.lines t) (line_at ls t)) (sym lines) (goes_set old.turn old.lines s line there goes t (eqb t s) refl)))

pub keeps_lines : (old new : HallState) → new.turn ≡ old.turn → new.lines ≡ old.lines → HallKeeps all old new
keeps_lines old new turn lines =
    keeps_by old new (ap length lines)
    (λ t. subst (λ (k : ℕ). Goes old.turn k (line_at old.lines t) (line_at new.lines t)) (sym turn)
    (subst (λ (ls : List LineState). Goes old.turn old.turn (line_at old.lines t) (line_at ls t)) (sym lines) (goes-self old.turn (line_at old.lines t))))

-- ---- nothing, a turn, and what no promise speaks of

same_sound : (h : HallState) (plan : List Planned) (turn : ℕ) (unserved : Option ℕ) → IsSound h → IsSound (record h { plan = plan; turn = turn; unserved = unserved })
same_sound h plan turn unserved sound = record {
  honest = sound.honest;
  stand = sound.stand;
  last = sound.last;
  elections = sound.elections;
  lines = sound.lines;
  fresh = sound.fresh;
}

pub plays_same : (h : HallState) (plan : List Planned) (unserved : Option ℕ) → Plays h (record h { plan = plan; unserved = unserved })
plays_same h plan unserved = record {
  sound = same_sound h plan h.turn unserved;
  adds = Adds-none h.events;
  keeps = keeps_lines h (record h { plan = plan; unserved = unserved }) refl refl;
  faults = refl;
}

pub plays-self : (h : HallState) → Plays h h
plays-self h = plays_same h h.plan h.unserved

pub plays_tick : (h : HallState) → h.turn < 2 ^ 64 → Plays h (ticked h)
plays_tick h small =
    let less : h.turn ≤ next_count h.turn = omega arith in
    record {
      sound = same_sound h h.plan (next_count h.turn) h.unserved;
      adds = Adds-none h.events;
      keeps = keeps_by h (ticked h) refl (λ t. goes-later h.turn (next_count h.turn) (line_at h.lines t) less);
      faults = refl;
    }

-- ---- a member

pub plays_peer : (h : HallState) (m : ℕ) (peer : PeerState) → m < length h.peers → peer.member ≡ (peer_at h.peers m).member → Plays h (with_peer m peer h)
plays_peer h m peer there same = record {
  sound = λ sound. sound_peer h m peer there same sound;
  adds = Adds-none h.events;
  keeps = keeps_lines h (with_peer m peer h) refl refl;
  faults = refl;
}

pub plays_elected : (h : HallState) (m : ℕ) → m < length h.peers → Plays h (elected m h)
unfolding elected
plays_elected h m there = record {
  sound = λ sound. unfold_elected sound;
  adds = Adds-members h.events (event.Elected m ∷ []) refl;
  keeps = keeps_lines h (record (with_peer m (elected_peer h m) h) { last = m; elections = h.elections + 1; events = h.events ++ event.Elected m ∷ [] }) refl refl;
  faults = refl;
}
  where
    unfold_elected : IsSound h → IsSound (elected m h)
    unfold_elected sound = sound_elected h m sound there

following_by : (h : HallState) (m : ℕ) (b : Bool) → m < length h.peers → eqb h.last m ≡ b → following m h ≡ cond b h (record (with_peer m (following_peer h m) h) { events = h.events ++ event.Followed m ∷ [] }) → Plays h (following m h)
following_by h m true there e is = subst (λ (g : HallState). Plays h g) (sym is) (plays-self h)
following_by h m false there e is =
    let g : HallState = record (with_peer m (following_peer h m) h) { events = h.events ++ event.Followed m ∷ [] } in
    subst (λ (k : HallState). Plays h k) (sym is) (record {
      sound = λ sound. subst IsSound is (sound_following h m sound there);
      adds = Adds-members h.events (event.Followed m ∷ []) refl;
      keeps = keeps_lines h g refl refl;
      faults = refl;
    })

pub plays_following : (h : HallState) (m : ℕ) → m < length h.peers → Plays h (following m h)
plays_following h m there = following_by h m (eqb h.last m) there refl (unfold following in refl)

met-member : (a : Act) (peer : PeerState) → (met a peer).member ≡ peer.member
met-member (act.Drop m) peer = refl
met-member (act.Mute m) peer = refl
met-member (act.Late m turns) peer = refl
met-member (act.Hold m turns) peer = refl
met-member (act.Refuse m code retryable no_writes) peer = refl
met-member (act.Elect m) peer = refl
met-member (act.Follow m) peer = refl
met-member (act.Dead m) peer = refl
met-member (act.Alive m) peer = refl
met-member (act.Split m bytes) peer = refl

pub plays_met : (h : HallState) (a : Act) → host_of a < length h.peers → Plays h (with_peer (host_of a) (met a (peer_at h.peers (host_of a))) h)
plays_met h a there = plays_peer h (host_of a) (met a (peer_at h.peers (host_of a))) there (met-member a (peer_at h.peers (host_of a)))

-- ---- a stream that ends

pub plays_end : (h : HallState) (s : ℕ) → s < length h.lines → (line_at h.lines s).ended ≡ false → Plays h (end_on s h)
unfolding end_on
plays_end h s there goes_on =
    let line : LineState = line_at h.lines s in
    let new : LineState = end_line h.turn line in
    record {
      sound = λ sound. sound_line h s new sound (line_ended h.events s line new (held_back h.turn line.answers) (sound.lines s there) refl refl refl (ready-split h.turn line.answers)
          (λ request is. ((sound.lines s there).late request is).1));
      adds = Adds-none h.events;
      keeps = keeps_line h (with_line s new h) s new there refl refl (goes-ended h.turn line new refl refl refl);
      faults = refl;
    }

-- ---- a request

none_late : (events : List NetEvent) (s : ℕ) (line : LineState) (o : Option LateRequest) → IsSoundLine events s line → line.ended ≡ false → line.late ≡ o → line.late ≡ None
none_late events s line None sound goes_on is = is
none_late events s line (Some request) sound goes_on is = let clash : true ≡ false = sym (sound.late request is).0 ∙ goes_on in absurd cc

says_refusal : (code : ℤ) (retryable no_writes : Bool) → says_ok (refusal code retryable no_writes) ≡ false
unfolding value.out-Value denote.Hole.Carrier.out
says_refusal code true true = refl
says_refusal code true false = refl
says_refusal code false true = refl
says_refusal code false false = refl

rule_writes : (b : Bool) (o : Option Rule) (r : Rule) → cond b o None ≡ Some r → b ≡ true
rule_writes true o r is = refl
rule_writes false o r is = let clash : None ≡ Some r = is in absurd cc

plays_by : (h : HallState) (s : ℕ) (message : Message) (o : Option Rule) → IsNext h s message → rule_of (peer_at h.peers (line_at h.lines s).member) message ≡ o
    → IsFramedBy o (place_in h s) message (peer_at h.peers (line_at h.lines s).member).member
    → Plays h (put_scene s (request_by o (place_in h s) message (scene_in h s)) h)
plays_by h s message None next is framed =
    let line : LineState = line_at h.lines s in
    let at : Place = place_in h s in
    let mine : MemberState = (peer_at h.peers line.member).member in
    let done : Scene = request_by None at message (scene_in h s) in
    let bytes : List ℕ = answer_bytes mine message (id_of at.nth) at.stream at.nth at.lead in
    let answer : Answer = record { due = due_by h.turn (peer_at h.peers line.member).holds; bytes = bytes } in
    record {
      sound = λ sound. sound_answered h s message (message_of (id_of at.nth) message.id 0 (reply_of mine message.body s at.nth at.lead)) bytes done.peer done.line sound next.there next.member next.goes_on next.front.first next.front.behind
          refl refl refl (bytes-push line.answers answer) framed refl refl refl;
      adds = Adds-members h.events (event.Handled line.member s line.count (effect_of mine message.body s line.count) ∷ []) refl;
      keeps = keeps_line h (put_scene s done h) s done.line next.there refl refl (goes-answered h.turn line done.line answer refl refl refl);
      faults = refl;
    }
plays_by h s message (Some rule.Drop) next is framed =
    let line : LineState = line_at h.lines s in
    let done : Scene = request_by (Some rule.Drop) (place_in h s) message (scene_in h s) in
    record {
      sound = λ sound. sound_line (with_peer line.member done.peer h) s done.line (sound_peer h line.member done.peer next.member refl sound)
          (line_ended h.events s line done.line (held_back h.turn line.answers) (sound.lines s next.there) refl refl refl (ready-split h.turn line.answers) (λ request late. ((sound.lines s next.there).late request late).1));
      adds = Adds-none h.events;
      keeps = keeps_line h (put_scene s done h) s done.line next.there refl refl (goes-ended h.turn line done.line refl refl refl);
      faults = refl;
    }
plays_by h s message (Some rule.Mute) next is framed =
    let line : LineState = line_at h.lines s in
    let mine : MemberState = (peer_at h.peers line.member).member in
    let done : Scene = request_by (Some rule.Mute) (place_in h s) message (scene_in h s) in
    record {
      sound = λ sound.
          let here = sound.lines s next.there in
          sound_unanswered h s message (held_back h.turn line.answers) done.peer done.line sound next.there next.member
          (next_request ((set_after h.events).out s) (answers_on h.events s line) line message (messages (drop message.length line.rest)) (here.going next.goes_on) next.front.first)
          refl refl refl (none_late h.events s line line.late here next.goes_on refl) (ready-split h.turn line.answers) refl;
      adds = Adds-members h.events (event.Handled line.member s line.count (effect_of mine message.body s line.count) ∷ []) refl;
      keeps = keeps_line h (put_scene s done h) s done.line next.there refl refl (goes-ended h.turn line done.line refl refl refl);
      faults = refl;
    }
plays_by h s message (Some (rule.Late turns)) next is framed =
    let line : LineState = line_at h.lines s in
    let done : Scene = request_by (Some (rule.Late turns)) (place_in h s) message (scene_in h s) in
    record {
      sound = λ sound.
          let here = sound.lines s next.there in
          let whole : slice_get (messages ((set_after h.events).out s)) line.count ≡ Some message
          = next_request ((set_after h.events).out s) (answers_on h.events s line) line message (messages (drop message.length line.rest)) (here.going next.goes_on) next.front.first in
          sound_line (with_peer line.member done.peer h) s done.line (sound_peer h line.member done.peer next.member refl sound)
          (line_ended h.events s line done.line (held_back h.turn line.answers) here refl refl refl (ready-split h.turn line.answers)
          (λ request late. let same : message ≡ request.message = late_message message (record { due = later h.turn turns; message = message }) request refl late in whole ∙ ap (λ (m : Message). Some m) same));
      adds = Adds-none h.events;
      keeps = keeps_line h (put_scene s done h) s done.line next.there refl refl (goes-ended h.turn line done.line refl refl refl);
      faults = refl;
    }
  where
    message_in : Message → Option LateRequest → Message
    message_in other (Some request) = request.message
    message_in other None = other

    late_message : (m : Message) (held request : LateRequest) → held.message ≡ m → Some held ≡ Some request → m ≡ request.message
    late_message m held request is late = sym is ∙ ap (message_in m) late
plays_by h s message (Some (rule.Refuse code retryable no_writes)) next is framed =
    let line : LineState = line_at h.lines s in
    let at : Place = place_in h s in
    let done : Scene = request_by (Some (rule.Refuse code retryable no_writes)) at message (scene_in h s) in
    let bytes : List ℕ = frame (id_of at.nth) message.id 0 (refusal code retryable no_writes) in
    let answer : Answer = record { due = due_by h.turn (peer_at h.peers line.member).holds; bytes = bytes } in
    record {
      sound = λ sound. sound_refused h s message (message_of (id_of at.nth) message.id 0 (refusal code retryable no_writes)) bytes done.peer done.line sound next.there next.member next.goes_on next.front.first next.front.behind
          refl refl refl (bytes-push line.answers answer) framed refl (says_refusal code retryable no_writes)
          (rule_writes (is_write message.body) (slice_get (peer_at h.peers line.member).rules 0) (rule.Refuse code retryable no_writes) is) refl;
      adds = Adds-members h.events (event.Handled line.member s line.count effect.Refused ∷ []) refl;
      keeps = keeps_line h (put_scene s done h) s done.line next.there refl refl (goes-answered h.turn line done.line answer refl refl refl);
      faults = refl;
    }

pub plays_request : (h : HallState) (s : ℕ) (message : Message) → IsNext h s message
    → IsFramedBy (rule_of (peer_at h.peers (line_at h.lines s).member) message) (place_in h s) message (peer_at h.peers (line_at h.lines s).member).member
    → Plays h (request_on s h message)
unfolding request_on
plays_request h s message next framed = plays_by h s message (rule_of (peer_at h.peers (line_at h.lines s).member) message) next refl framed

-- ---- a late request

put_same : (h : HallState) (s : ℕ) → s < length h.lines → (line_at h.lines s).member < length h.peers → Plays h (put_scene s (scene_in h s) h)
put_same h s there member =
    let line : LineState = line_at h.lines s in
    let peer : PeerState = peer_at h.peers line.member in
    record {
      sound = λ sound. sound_line (with_peer line.member peer h) s line (sound_peer h line.member peer member refl sound) (sound.lines s there);
      adds = Adds-none h.events;
      keeps = keeps_line h (put_scene s (scene_in h s) h) s line there refl refl (goes-self h.turn line);
      faults = refl;
    }

late_done : (h : HallState) (s : ℕ) (o : Option LateRequest) → s < length h.lines → (line_at h.lines s).member < length h.peers → (line_at h.lines s).late ≡ o
    → Plays h (put_scene s (late_scene o (place_in h s) (scene_in h s)) h)
late_done h s None there member late = put_same h s there member
late_done h s (Some request) there member late =
    let line : LineState = line_at h.lines s in
    let mine : MemberState = (peer_at h.peers line.member).member in
    let done : Scene = handled_late (place_in h s) request.message (scene_in h s) in
    elim (leb request.due h.turn) as (λ (b : Bool). Plays h (put_scene s (cond b done (scene_in h s)) h)) [
      | true ↦ record {
        sound = λ sound.
            let here = sound.lines s there in
            let l = here.late request late in
            sound_unanswered h s request.message [] done.peer done.line sound there member l.1 refl refl l.0 refl (sym (append-nil (bytes_of line.answers))) refl;
        adds = Adds-members h.events (event.Handled line.member s line.count (effect_of mine request.message.body s line.count) ∷ []) refl;
        keeps = keeps_line h (put_scene s done h) s done.line there refl refl (record { live = refl; over = λ e. e; inbox = IsPrefixOf-same (inbox_at h.turn line) });
        faults = refl;
      }
      | false ↦ put_same h s there member
    ]

pub plays_late : (h : HallState) (s : ℕ) → s < length h.lines → (line_at h.lines s).member < length h.peers → Plays h (late_on s h)
unfolding late_on
plays_late h s there member = late_done h s (line_at h.lines s).late there member refl
