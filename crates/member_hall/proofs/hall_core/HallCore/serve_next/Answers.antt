use Rattle.std.proofs.Common.{◌≡◌, ◌<◌, ◌≤◌, ◌∙◌, ℕ, List, false, true, ap, sym, subst, length, take}
use Rattle.std.specs.List.{slice_index_or}
use Rattle.msg_wire.specs.Framing.{Framed}
use Rattle.msg_wire.specs.Reading.{flaw}
use Rattle.msg_wire.specs.declared.message.Message.{Message}
use Rattle.member_hall.specs.Halls.{HallState, line_at}
use Rattle.member_hall.specs.Inside.{IsFit, hall_of}
use Rattle.member_hall.specs.Lines.{LineState}
use Rattle.member_hall.specs.Playing.{IsFront, IsNext}
use Rattle.member_hall.specs.Turns.{rest_length, served}
use Rattle.member_hall.proofs.Scenes.{line_read}
use Rattle.member_hall.proofs.Serving.{front_read, serve-less, serve-over, serve-step}
use Rattle.member_hall.proofs.hall_core.HallCore.serve_next.Goals as goal

pub returns-then-line-clause-more : goal.returns-then-line-clause-more
returns-then-line-clause-more c =
    let h = hall_of c.self.inside in
    let there : c.args.stream < length h.lines = subst (λ (g : HallState). c.args.stream < length g.lines) (sym c.self.view_is) c.requires in
    let is = line_read h c.args.stream c.index-line.result.now there c.index-line.ensures in
    let over : (line_at h.lines c.args.stream).ended ≡ true = ap (λ (l : LineState). l.ended) (sym (c.line.view_is ∙ is)) ∙ c.if-line.true in
    rw (← c.self.view_is) (sym (serve-over h c.args.stream over))

next_of : (h : HallState) (s : ℕ) (inside line : LineState) (bytes : List ℕ) (message : Message) (room : ℕ) → IsFit h room → s < length h.lines → inside ≡ line → line ≡ slice_index_or h.lines s line → inside.ended ≡ false
    → bytes ≡ inside.rest → (message.length ≤ length bytes) × Framed (take message.length bytes) message → IsNext h s message
next_of h s inside line bytes message room fit there view read goes_on is found =
    let own : inside ≡ line_at h.lines s = view ∙ line_read h s line there read in
    record {
      there = there;
      member = fit.members s there;
      goes_on = ap (λ (l : LineState). l.ended) (sym own) ∙ goes_on;
      front = subst (λ (b : List ℕ). IsFront b message) (is ∙ ap (λ (l : LineState). l.rest) own) (front_read bytes message found);
    }

pub request-requires : goal.request-requires
request-requires c =
    let h = hall_of c.self.inside in
    let there : c.args.stream < length h.lines = subst (λ (g : HallState). c.args.stream < length g.lines) (sym c.self.view_is) c.requires in
    subst (λ (g : HallState). IsNext g c.args.stream c.in-Ok.message) c.self.view_is
    (next_of h c.args.stream _ c.index-line.result.now c.as_slice.result.now c.in-Ok.message c.self.inside.log.kept c.self.invariant.fit there c.line.view_is c.index-line.ensures c.if-line.false c.as_slice.ensures c.in-Ok.ensures.found)

pub judge-requires-clause-goes_on : goal.judge-requires-clause-goes_on
judge-requires-clause-goes_on c =
    let h = hall_of c.self.inside in
    let there : c.args.stream < length h.lines = subst (λ (g : HallState). c.args.stream < length g.lines) (sym c.self.view_is) c.requires in
    let is = c.line.view_is ∙ line_read h c.args.stream c.index-line.result.now there c.index-line.ensures in
    let goes_on : (line_at h.lines c.args.stream).ended ≡ false = ap (λ (l : LineState). l.ended) (sym is) ∙ c.if-line.false in
    subst (λ (g : HallState). (line_at g.lines c.args.stream).ended ≡ false) c.self.view_is goes_on

pub judge-requires-clause-flaw : goal.judge-requires-clause-flaw
judge-requires-clause-flaw c other =
    let h = hall_of c.self.inside in
    let there : c.args.stream < length h.lines = subst (λ (g : HallState). c.args.stream < length g.lines) (sym c.self.view_is) c.requires in
    let is = c.line.view_is ∙ line_read h c.args.stream c.index-line.result.now there c.index-line.ensures in
    let bytes : c.as_slice.result.now ≡ (line_at c.args.self.now.lines c.args.stream).rest =
    c.as_slice.ensures ∙ ap (λ (l : LineState). l.rest) is ∙ ap (λ (g : HallState). (line_at g.lines c.args.stream).rest) c.self.view_is in
    ap flaw (sym bytes) ∙ c.in-Err.ensures.fault other

pub returns-in_ok-request-in-Ok-clause-more : goal.returns-in_ok-request-in-Ok-clause-more
returns-in_ok-request-in-Ok-clause-more c =
    let h = hall_of c.self.inside in
    let there : c.args.stream < length h.lines = subst (λ (g : HallState). c.args.stream < length g.lines) (sym c.self.view_is) c.requires in
    let next : IsNext c.args.self.now c.args.stream c.in-Ok.message = subst (λ (g : HallState). IsNext g c.args.stream c.in-Ok.message) c.self.view_is
    (next_of h c.args.stream _ c.index-line.result.now c.as_slice.result.now c.in-Ok.message c.self.inside.log.kept c.self.invariant.fit there c.line.view_is c.index-line.ensures c.if-line.false c.as_slice.ensures c.in-Ok.ensures.found) in
    ap (served c.args.stream) c.in_ok-request-in-Ok.ensures.ok ∙ serve-step c.args.self.now c.args.stream c.in-Ok.message next

pub returns-in_ok-request-in-Ok-clause-less : goal.returns-in_ok-request-in-Ok-clause-less
returns-in_ok-request-in-Ok-clause-less c ok =
    let h = hall_of c.self.inside in
    let there : c.args.stream < length h.lines = subst (λ (g : HallState). c.args.stream < length g.lines) (sym c.self.view_is) c.requires in
    let next : IsNext c.args.self.now c.args.stream c.in-Ok.message = subst (λ (g : HallState). IsNext g c.args.stream c.in-Ok.message) c.self.view_is
    (next_of h c.args.stream _ c.index-line.result.now c.as_slice.result.now c.in-Ok.message c.self.inside.log.kept c.self.invariant.fit there c.line.view_is c.index-line.ensures c.if-line.false c.as_slice.ensures c.in-Ok.ensures.found) in
    subst (λ (g : HallState). rest_length g c.args.stream < rest_length c.args.self.now c.args.stream) (sym c.in_ok-request-in-Ok.ensures.ok) (serve-less c.args.self.now c.args.stream c.in-Ok.message next)
