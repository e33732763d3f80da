use Rattle.std.proofs.Common.{◌≡◌, ◌<◌, ◌+◌, ◌∙◌, ℕ, ap, arith, length, refl, sym, subst}
use Rattle.member_hall.specs.Halls.{HallState, line_at}
use Rattle.member_hall.specs.Playing.{Plays}
use Rattle.member_hall.specs.Turns.{come_late, late_among, late_on}
use Rattle.member_hall.proofs.Lates.{among-next, among-none, among-skip, late_on-done, late_on-lines}
use Rattle.member_hall.proofs.Playing.{plays-self, plays-trans}
use Rattle.member_hall.proofs.hall_core.HallCore.handle_late_requests.Goals as goal

pub handling-init : goal.handling-init
handling-init c =
    let h = c.args.self.now in
    let next = c.next_late-stream in record {
      so_far = among-skip h h 0 next.result (among-none h) next.ensures.within.0 next.ensures.first;
      plays = plays-self h;
      many = refl;
      within = next.ensures.within.1;
      late = next.ensures.late;
    }

pub forget_late-requires : goal.forget_late-requires
forget_late-requires c =
    let h = c.handling.self in
    let there : c.handling.stream < length h.lines = omega (arith, c.handling-test.true, c.count.ensures) in
    ap (λ (g : HallState). (line_at g.lines c.handling.stream).late) c.in_ok-handle_late_on.ensures.ok ∙ late_on-done h c.handling.stream there (c.handling.invariant.late there)

pub handling-smaller : goal.handling-smaller
handling-smaller c =
    let h = c.handling.self in
    let there : c.handling.stream < length h.lines = omega (arith, c.handling-test.true, c.count.ensures) in
    let many : length c.forget_late.new.self.lines ≡ length h.lines = ap (λ (g : HallState). length g.lines) (c.forget_late.ensures ∙ c.in_ok-handle_late_on.ensures.ok) ∙ late_on-lines h c.handling.stream in
    omega (arith, there, many, c.next_late-stream-in-handling.ensures.within.0)

pub handling-preserved : goal.handling-preserved
handling-preserved c =
    let h = c.handling.self in
    let so_far = c.handling.invariant in
    let next = c.next_late-stream-in-handling in
    let is : c.forget_late.new.self ≡ late_on c.handling.stream h = c.forget_late.ensures ∙ c.in_ok-handle_late_on.ensures.ok in record {
      so_far = among-skip c.args.self.now c.forget_late.new.self (c.handling.stream + 1) next.result (among-next c.args.self.now h c.forget_late.new.self c.handling.stream so_far.so_far is) next.ensures.within.0 next.ensures.first;
      plays = plays-trans so_far.plays (subst (λ (g : HallState). Plays h g) (sym c.forget_late.ensures) c.handle_late_on.ensures.plays);
      many = ap (λ (g : HallState). length g.lines) is ∙ late_on-lines h c.handling.stream ∙ so_far.many;
      within = next.ensures.within.1;
      late = next.ensures.late;
    }

pub returns-clause-ok : goal.returns-clause-ok
unfolding come_late
returns-clause-ok c =
    let all : c.handling.stream ≡ length c.args.self.now.lines = omega (arith, c.handling-test.false, c.count.ensures, c.handling.invariant.within, c.handling.invariant.many) in
    c.handling.invariant.so_far ∙ ap (λ (n : ℕ). late_among n c.args.self.now) all
