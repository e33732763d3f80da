use Rattle.std.proofs.Common.{◌≡◌, ◌<◌, ◌∷◌, ◌++◌, [], ◌∙◌, ap, arith, length, refl, subst, sym}
use Rattle.std.proofs.lemmas.List.{length-set, with_items_is}
use Rattle.std.specs.Vec.{with_items}
use Rattle.net_link.specs.Told.{Told}
use Rattle.net_link.specs.declared.event.NetEvent.TheVariants as event
use Rattle.member_hall.specs.Halls.{HallState}
use Rattle.member_hall.specs.Inside.{hall_of}
use Rattle.member_hall.proofs.Fits.{fit_peers}
use Rattle.member_hall.proofs.Moves.{following_is, following_same}
use Rattle.member_hall.proofs.Sharing.{shares_follow}
use Rattle.member_hall.proofs.hall_core.HallCore.follow.Goals as goal

pub returns-then-self-host-clause-ok : goal.returns-then-self-host-clause-ok
returns-then-self-host-clause-ok c = rw (← c.self.view_is) (following_same (hall_of c.self.inside) c.args.host c.if-self-host.true)

pub invariant_of-self-2 : goal.invariant_of-self-2
invariant_of-self-2 c =
    let h = hall_of c.self.inside in
    let there : c.args.host < length h.peers = subst (λ (g : HallState). c.args.host < length g.peers) (sym c.self.view_is) c.requires in
    let made = c.in_ok-count.ensures.ok in
    let many : length c.follow_among.new.peers ≡ c.self.inside.peers.len =
    ap length made ∙ length-set c.as_mut_slice.result.now c.args.host _ ∙ ap length c.as_mut_slice.ensures.value ∙ sym c.self.inside.peers.ok.0 in
    let items = with_items_is c.self.inside.peers c.follow_among.new.peers many in
    let kept = ap (λ (l : Told). l.kept) c.in_ok-keep.ensures.ok in record {
      fit = fit_peers h (record h { peers = (with_items c.self.inside.peers c.follow_among.new.peers).items; events = c.note_kept.new.self.events }) c.self.inside.log.kept c.note_kept.new.self.kept c.self.invariant.fit
          (omega (arith, ap length items, many, c.self.inside.peers.ok.0)) c.self.invariant.fit.last refl refl refl (omega (arith, kept, c.note_kept.ensures.kept));
      shares = shares_follow c.self.inside.shares c.set.new.self h.peers c.as_mut_slice.result.now (with_items c.self.inside.peers c.follow_among.new.peers).items c.args.host h.last c.in_ok-count.count
          c.as_mut_slice.ensures.value c.self.invariant.shares there c.if-self-host.false (items ∙ made) c.in_ok-count.ensures.count c.set.ensures;
      late = c.self.invariant.late;
    }

pub returns-clause-ok : goal.returns-clause-ok
returns-clause-ok c =
    let made = c.in_ok-count.ensures.ok in
    let many : length c.follow_among.new.peers ≡ c.self.inside.peers.len =
    ap length made ∙ length-set c.as_mut_slice.result.now c.args.host _ ∙ ap length c.as_mut_slice.ensures.value ∙ sym c.self.inside.peers.ok.0 in
    rw (← c.self.view_is)
    (following_is (hall_of c.self.inside) c.args.host (with_items c.self.inside.peers c.follow_among.new.peers).items c.as_mut_slice.result.now c.note_kept.new.self.events
    c.as_mut_slice.ensures.value c.if-self-host.false (with_items_is c.self.inside.peers c.follow_among.new.peers many ∙ made)
    (c.note_kept.ensures.events ∙ ap (λ (l : Told). l.events ++ event.Followed c.args.host ∷ []) c.in_ok-keep.ensures.ok))
