use Rattle.std.proofs.Common.{◌≡◌, ◌<◌, ◌∙◌, ℕ, List, [], ◌∷◌, ◌++◌, ap, cond, length, refl, sym, subst}
use Rattle.std.specs.Option.{is_some}
use Rattle.std.proofs.lemmas.Result.{on_err_weaker}
use Rattle.member_hall.specs.Halls.{HallState, PeerState, line_at, peer_at}
use Rattle.member_hall.specs.Inside.{hall_of}
use Rattle.member_hall.specs.Playing.{IsNext, Plays}
use Rattle.member_hall.specs.Requests.{IsFramedBy, Scene, request, rule_of, scene}
use Rattle.member_hall.specs.Turns.{place_in, request_on, scene_in}
use Rattle.member_hall.specs.declared.place.Place.{Place}
use Rattle.member_hall.proofs.Lates.{late_noted}
use Rattle.member_hall.proofs.Lines.{request-line}
use Rattle.member_hall.proofs.Playing.{plays_request}
use Rattle.member_hall.proofs.Scenes.{fit_scene, line_read, peer_read, put_is}
use Rattle.member_hall.proofs.Sharing.{shares_answer}
use Rattle.member_hall.proofs.hall_core.HallCore.request.Goals as goal

pub invariant_of-self-2 : goal.invariant_of-self-2
invariant_of-self-2 c =
    let h = hall_of c.self.inside in
    let next : IsNext h c.args.stream c.args.message = subst (λ (g : HallState). IsNext g c.args.stream c.args.message) (sym c.self.view_is) c.requires in
    let at : c.place_in-at.result ≡ place_in h c.args.stream = c.place_in-at.ensures ∙ ap (λ (g : HallState). place_in g c.args.stream) (sym c.self.view_is) in
    let m = c.place_in-at.result.member in
    let member : m ≡ (line_at h.lines c.args.stream).member = ap (λ (p : Place). p.member) at in
    let there : m < length h.peers = subst (λ (n : ℕ). n < length h.peers) (sym member) next.member in
    let line = c.index_mut-line.result.now in
    let was = line_read h c.args.stream line next.there c.index_mut-line.ensures.value in
    let mine = peer_read h m m c.index_mut-peer.result.now refl there c.index_mut-peer.ensures.value in
    let s : Scene = scene c.index_mut-peer.result.now line h.events in record {
      fit = fit_scene c.request.result h c.self.inside.log.kept c.request.new.log.kept c.args.stream m c.request.new.peer c.request.new.line line (request c.place_in-at.result c.args.message s).line c.request.new.log.events
          c.self.invariant.fit next.there was (request-line c.place_in-at.result c.args.message s (rule_of s.peer c.args.message)) c.request.ensures.line (on_err_weaker c.request.result (λ all. all.1) c.request.ensures.err) c.request.ensures.room;
      shares = shares_answer c.self.inside.shares c.answer.new.self h.peers m h.last c.in_ok-kept.kept c.index_mut-peer.result.now c.request.new.peer c.self.invariant.shares there mine c.in_ok-kept.ensures.kept c.answer.ensures;
      late = late_noted c.self.inside.late.items c.note_late.new.late.items h.lines c.args.stream c.request.new.line c.self.invariant.late next.there
          (c.note_late.ensures ∙ ap (λ (l : List ℕ). cond (is_some c.request.new.line.late) (l ++ c.args.stream ∷ []) l) c.reserve.ensures.items);
    }

pub returns-clause-ok : goal.returns-clause-ok
unfolding request_on
returns-clause-ok c =
    let h = hall_of c.self.inside in
    let next : IsNext h c.args.stream c.args.message = subst (λ (g : HallState). IsNext g c.args.stream c.args.message) (sym c.self.view_is) c.requires in
    let at : c.place_in-at.result ≡ place_in h c.args.stream = c.place_in-at.ensures ∙ ap (λ (g : HallState). place_in g c.args.stream) (sym c.self.view_is) in
    let member = ap (λ (p : Place). p.member) at in
    let peer = peer_read h c.place_in-at.result.member (line_at h.lines c.args.stream).member c.index_mut-peer.result.now member next.member c.index_mut-peer.ensures.value in
    let line = line_read h c.args.stream c.index_mut-line.result.now next.there c.index_mut-line.ensures.value in
    let want : Scene = request (place_in h c.args.stream) c.args.message (scene_in h c.args.stream) in
    let same : request c.place_in-at.result c.args.message (scene c.index_mut-peer.result.now c.index_mut-line.result.now h.events) ≡ want = (λ i. request (at i) c.args.message (scene (peer i) (line i) h.events)) in
    rw (← c.self.view_is)
    (put_is h c.args.stream c.place_in-at.result.member c.request.new.peer c.request.new.line c.request.new.log.events want member
    (c.in_ok-kept.ensures.peer ∙ ap (λ (z : Scene). z.peer) same) (c.in_ok-kept.ensures.line ∙ ap (λ (z : Scene). z.line) same) (c.in_ok-kept.ensures.events ∙ ap (λ (z : Scene). z.events) same))

pub returns-clause-plays : goal.returns-clause-plays
unfolding request_on
returns-clause-plays c =
    let h = hall_of c.self.inside in
    let next : IsNext h c.args.stream c.args.message = subst (λ (g : HallState). IsNext g c.args.stream c.args.message) (sym c.self.view_is) c.requires in
    let at : c.place_in-at.result ≡ place_in h c.args.stream = c.place_in-at.ensures ∙ ap (λ (g : HallState). place_in g c.args.stream) (sym c.self.view_is) in
    let member = ap (λ (p : Place). p.member) at in
    let peer = peer_read h c.place_in-at.result.member (line_at h.lines c.args.stream).member c.index_mut-peer.result.now member next.member c.index_mut-peer.ensures.value in
    let line = line_read h c.args.stream c.index_mut-line.result.now next.there c.index_mut-line.ensures.value in
    let want : Scene = request (place_in h c.args.stream) c.args.message (scene_in h c.args.stream) in
    let same : request c.place_in-at.result c.args.message (scene c.index_mut-peer.result.now c.index_mut-line.result.now h.events) ≡ want = (λ i. request (at i) c.args.message (scene (peer i) (line i) h.events)) in
    let framed : IsFramedBy (rule_of (peer_at h.peers (line_at h.lines c.args.stream).member) c.args.message) (place_in h c.args.stream) c.args.message (peer_at h.peers (line_at h.lines c.args.stream).member).member =
    subst (λ (p : PeerState). IsFramedBy (rule_of p c.args.message) (place_in h c.args.stream) c.args.message p.member) peer
    (subst (λ (a : Place). IsFramedBy (rule_of c.index_mut-peer.result.now c.args.message) a c.args.message c.index_mut-peer.result.now.member) at c.in_ok-kept.ensures.framed) in
    rw (← c.self.view_is)
    (subst (λ (g : HallState). Plays h g)
    (sym (put_is h c.args.stream c.place_in-at.result.member c.request.new.peer c.request.new.line c.request.new.log.events want member
    (c.in_ok-kept.ensures.peer ∙ ap (λ (z : Scene). z.peer) same) (c.in_ok-kept.ensures.line ∙ ap (λ (z : Scene). z.line) same) (c.in_ok-kept.ensures.events ∙ ap (λ (z : Scene). z.events) same)))
    (plays_request h c.args.stream c.args.message next framed))
