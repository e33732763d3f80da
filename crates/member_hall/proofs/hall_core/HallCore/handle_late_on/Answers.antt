use Rattle.std.proofs.Common.{◌≡◌, ◌<◌, ◌∙◌, ℕ, ap, sym, subst, length, refl}
use Rattle.std.proofs.lemmas.Result.{on_err_weaker}
use Rattle.member_hall.specs.Halls.{HallState, line_at}
use Rattle.member_hall.specs.Inside.{hall_of}
use Rattle.member_hall.specs.Lines.{LineState}
use Rattle.member_hall.specs.Playing.{Plays}
use Rattle.member_hall.specs.Requests.{Scene, late_scene, scene}
use Rattle.member_hall.specs.Turns.{late_on, place_in, scene_in}
use Rattle.member_hall.specs.declared.place.Place.{Place}
use Rattle.member_hall.proofs.Lates.{late_handled, late_same}
use Rattle.member_hall.proofs.Lines.{late-line}
use Rattle.member_hall.proofs.Playing.{plays_late}
use Rattle.member_hall.proofs.Scenes.{fit_scene, line_read, peer_read, put_is}
use Rattle.member_hall.proofs.Sharing.{shares_answer, shares_left}
use Rattle.member_hall.proofs.hall_core.HallCore.handle_late_on.Goals as goal

pub invariant_of-self : goal.invariant_of-self
invariant_of-self c =
    let h = hall_of c.self.inside in
    let line_there : c.args.stream < length h.lines = subst (λ (g : HallState). c.args.stream < length g.lines) (sym c.self.view_is) c.requires in
    let at : c.place_in-at.result ≡ place_in h c.args.stream = c.place_in-at.ensures ∙ ap (λ (g : HallState). place_in g c.args.stream) (sym c.self.view_is) in
    let m = c.place_in-at.result.member in
    let member : m ≡ (line_at h.lines c.args.stream).member = ap (λ (p : Place). p.member) at in
    let there : m < length h.peers = subst (λ (n : ℕ). n < length h.peers) (sym member) (c.self.invariant.fit.members c.args.stream line_there) in
    let line = c.index_mut-line.result.now in
    let was = line_read h c.args.stream line line_there c.index_mut-line.ensures.value in
    let mine = peer_read h m m c.index_mut-peer.result.now refl there c.index_mut-peer.ensures.value in
    let s : Scene = scene c.index_mut-peer.result.now line h.events in record {
      fit = fit_scene c.handle_late.result h c.self.inside.log.kept c.handle_late.new.log.kept c.args.stream m c.handle_late.new.peer c.handle_late.new.line line (late_scene line.late c.place_in-at.result s).line c.handle_late.new.log.events
          c.self.invariant.fit line_there was (late-line c.place_in-at.result s line.late) c.handle_late.ensures.line (on_err_weaker c.handle_late.result (λ all. all.1) c.handle_late.ensures.err) c.handle_late.ensures.room;
      shares = shares_left c.self.inside.shares h.peers m h.last c.index_mut-peer.result.now c.handle_late.new.peer c.self.invariant.shares there mine c.in_err-kept.ensures.err.0;
      late = late_same c.self.inside.late.items h.lines c.args.stream c.handle_late.new.line c.self.invariant.late line_there (ap (λ (l : LineState). l.late) (c.in_err-kept.ensures.err.1 ∙ was));
    }

pub invariant_of-self-2 : goal.invariant_of-self-2
invariant_of-self-2 c =
    let h = hall_of c.self.inside in
    let line_there : c.args.stream < length h.lines = subst (λ (g : HallState). c.args.stream < length g.lines) (sym c.self.view_is) c.requires in
    let at : c.place_in-at.result ≡ place_in h c.args.stream = c.place_in-at.ensures ∙ ap (λ (g : HallState). place_in g c.args.stream) (sym c.self.view_is) in
    let m = c.place_in-at.result.member in
    let member : m ≡ (line_at h.lines c.args.stream).member = ap (λ (p : Place). p.member) at in
    let there : m < length h.peers = subst (λ (n : ℕ). n < length h.peers) (sym member) (c.self.invariant.fit.members c.args.stream line_there) in
    let line = c.index_mut-line.result.now in
    let was = line_read h c.args.stream line line_there c.index_mut-line.ensures.value in
    let mine = peer_read h m m c.index_mut-peer.result.now refl there c.index_mut-peer.ensures.value in
    let s : Scene = scene c.index_mut-peer.result.now line h.events in record {
      fit = fit_scene c.handle_late.result h c.self.inside.log.kept c.handle_late.new.log.kept c.args.stream m c.handle_late.new.peer c.handle_late.new.line line (late_scene line.late c.place_in-at.result s).line c.handle_late.new.log.events
          c.self.invariant.fit line_there was (late-line c.place_in-at.result s line.late) c.handle_late.ensures.line (on_err_weaker c.handle_late.result (λ all. all.1) c.handle_late.ensures.err) c.handle_late.ensures.room;
      shares = shares_answer c.self.inside.shares c.answer.new.self h.peers m h.last c.in_ok-kept.kept c.index_mut-peer.result.now c.handle_late.new.peer c.self.invariant.shares there mine c.in_ok-kept.ensures.kept c.answer.ensures;
      late = late_handled c.self.inside.late.items h.lines c.args.stream c.place_in-at.result s line c.handle_late.new.line c.self.invariant.late line_there was refl c.in_ok-kept.ensures.line;
    }

pub returns-clause-ok : goal.returns-clause-ok
unfolding late_on
returns-clause-ok c =
    let h = hall_of c.self.inside in
    let there : c.args.stream < length h.lines = subst (λ (g : HallState). c.args.stream < length g.lines) (sym c.self.view_is) c.requires in
    let at : c.place_in-at.result ≡ place_in h c.args.stream = c.place_in-at.ensures ∙ ap (λ (g : HallState). place_in g c.args.stream) (sym c.self.view_is) in
    let member = ap (λ (p : Place). p.member) at in
    let peer = peer_read h c.place_in-at.result.member (line_at h.lines c.args.stream).member c.index_mut-peer.result.now member (c.self.invariant.fit.members c.args.stream there) c.index_mut-peer.ensures.value in
    let line = line_read h c.args.stream c.index_mut-line.result.now there c.index_mut-line.ensures.value in
    let want : Scene = late_scene (line_at h.lines c.args.stream).late (place_in h c.args.stream) (scene_in h c.args.stream) in
    let same : late_scene c.index_mut-line.result.now.late c.place_in-at.result (scene c.index_mut-peer.result.now c.index_mut-line.result.now h.events) ≡ want = (λ i. late_scene (line i).late (at i) (scene (peer i) (line i) h.events)) in
    rw (← c.self.view_is)
    (put_is h c.args.stream c.place_in-at.result.member c.handle_late.new.peer c.handle_late.new.line c.handle_late.new.log.events want member
    (c.in_ok-kept.ensures.peer ∙ ap (λ (z : Scene). z.peer) same) (c.in_ok-kept.ensures.line ∙ ap (λ (z : Scene). z.line) same) (c.in_ok-kept.ensures.events ∙ ap (λ (z : Scene). z.events) same))

pub returns-clause-plays : goal.returns-clause-plays
unfolding late_on
returns-clause-plays c =
    let h = hall_of c.self.inside in
    let there : c.args.stream < length h.lines = subst (λ (g : HallState). c.args.stream < length g.lines) (sym c.self.view_is) c.requires in
    let mine = c.self.invariant.fit.members c.args.stream there in
    let at : c.place_in-at.result ≡ place_in h c.args.stream = c.place_in-at.ensures ∙ ap (λ (g : HallState). place_in g c.args.stream) (sym c.self.view_is) in
    let member = ap (λ (p : Place). p.member) at in
    let peer = peer_read h c.place_in-at.result.member (line_at h.lines c.args.stream).member c.index_mut-peer.result.now member mine c.index_mut-peer.ensures.value in
    let line = line_read h c.args.stream c.index_mut-line.result.now there c.index_mut-line.ensures.value in
    let want : Scene = late_scene (line_at h.lines c.args.stream).late (place_in h c.args.stream) (scene_in h c.args.stream) in
    let same : late_scene c.index_mut-line.result.now.late c.place_in-at.result (scene c.index_mut-peer.result.now c.index_mut-line.result.now h.events) ≡ want = (λ i. late_scene (line i).late (at i) (scene (peer i) (line i) h.events)) in
    rw (← c.self.view_is)
    (subst (λ (g : HallState). Plays h g)
    (sym (put_is h c.args.stream c.place_in-at.result.member c.handle_late.new.peer c.handle_late.new.line c.handle_late.new.log.events want member
    (c.in_ok-kept.ensures.peer ∙ ap (λ (z : Scene). z.peer) same) (c.in_ok-kept.ensures.line ∙ ap (λ (z : Scene). z.line) same) (c.in_ok-kept.ensures.events ∙ ap (λ (z : Scene). z.events) same)))
    (plays_late h c.args.stream there mine))
