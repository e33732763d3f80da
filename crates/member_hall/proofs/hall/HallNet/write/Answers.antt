use Rattle.std.proofs.Common.{◌<◌, sym, subst, length}
use Rattle.net_link.specs.declared.net.Wrote.{Wrote}
use Rattle.member_hall.specs.Halls.{HallState, IsLive}
use Rattle.member_hall.specs.Streams.{IsLive-below}
use Rattle.member_hall.proofs.Calling.{Writes, writes}
use Rattle.member_hall.proofs.hall.HallNet.write.Goals as goal

pub write-answer-requires : goal.write-answer-requires
write-answer-requires c = IsLive-below c.self.inside.core.lines c.args.stream (subst (λ (g : HallState). IsLive g.lines c.args.stream) (sym c.self.view_is) c.requires.is_open)

pub invariant_of-self : goal.invariant_of-self
invariant_of-self c =
    let there : c.args.stream < length c.self.inside.core.lines = IsLive-below c.self.inside.core.lines c.args.stream (subst (λ (g : HallState). IsLive g.lines c.args.stream) (sym c.self.view_is) c.requires.is_open) in
    let w = c.write-answer.ensures in
    (writes c.args.stream c.args.bytes.now c.self.inside.core c.write-answer.new.self c.write-answer.result c.self.invariant there w.took w.state w.failed w.served w.begun w.err).facts.sound

pub returns-clause-keeps : goal.returns-clause-keeps
returns-clause-keeps c =
    let there : c.args.stream < length c.self.inside.core.lines = IsLive-below c.self.inside.core.lines c.args.stream (subst (λ (g : HallState). IsLive g.lines c.args.stream) (sym c.self.view_is) c.requires.is_open) in
    let w = c.write-answer.ensures in
    let all : Writes c.args.stream c.args.bytes.now c.wrote.result c.args.self.now c.write-answer.new.self =
    subst (λ (g : HallState). Writes c.args.stream c.args.bytes.now c.wrote.result g c.write-answer.new.self) c.self.view_is
    (subst (λ (a : Wrote). Writes c.args.stream c.args.bytes.now a c.self.inside.core c.write-answer.new.self) (sym c.wrote.ensures)
    (writes c.args.stream c.args.bytes.now c.self.inside.core c.write-answer.new.self c.write-answer.result c.self.invariant there w.took w.state w.failed w.served w.begun w.err)) in
    all.facts.keeps

pub returns-clause-told : goal.returns-clause-told
returns-clause-told c =
    let there : c.args.stream < length c.self.inside.core.lines = IsLive-below c.self.inside.core.lines c.args.stream (subst (λ (g : HallState). IsLive g.lines c.args.stream) (sym c.self.view_is) c.requires.is_open) in
    let w = c.write-answer.ensures in
    let all : Writes c.args.stream c.args.bytes.now c.wrote.result c.args.self.now c.write-answer.new.self =
    subst (λ (g : HallState). Writes c.args.stream c.args.bytes.now c.wrote.result g c.write-answer.new.self) c.self.view_is
    (subst (λ (a : Wrote). Writes c.args.stream c.args.bytes.now a c.self.inside.core c.write-answer.new.self) (sym c.wrote.ensures)
    (writes c.args.stream c.args.bytes.now c.self.inside.core c.write-answer.new.self c.write-answer.result c.self.invariant there w.took w.state w.failed w.served w.begun w.err)) in
    all.facts.told

pub returns-clause-cause : goal.returns-clause-cause
returns-clause-cause c =
    let there : c.args.stream < length c.self.inside.core.lines = IsLive-below c.self.inside.core.lines c.args.stream (subst (λ (g : HallState). IsLive g.lines c.args.stream) (sym c.self.view_is) c.requires.is_open) in
    let w = c.write-answer.ensures in
    let all : Writes c.args.stream c.args.bytes.now c.wrote.result c.args.self.now c.write-answer.new.self =
    subst (λ (g : HallState). Writes c.args.stream c.args.bytes.now c.wrote.result g c.write-answer.new.self) c.self.view_is
    (subst (λ (a : Wrote). Writes c.args.stream c.args.bytes.now a c.self.inside.core c.write-answer.new.self) (sym c.wrote.ensures)
    (writes c.args.stream c.args.bytes.now c.self.inside.core c.write-answer.new.self c.write-answer.result c.self.invariant there w.took w.state w.failed w.served w.begun w.err)) in
    all.facts.cause

pub returns-clause-answer : goal.returns-clause-answer
returns-clause-answer c =
    let there : c.args.stream < length c.self.inside.core.lines = IsLive-below c.self.inside.core.lines c.args.stream (subst (λ (g : HallState). IsLive g.lines c.args.stream) (sym c.self.view_is) c.requires.is_open) in
    let w = c.write-answer.ensures in
    let all : Writes c.args.stream c.args.bytes.now c.wrote.result c.args.self.now c.write-answer.new.self =
    subst (λ (g : HallState). Writes c.args.stream c.args.bytes.now c.wrote.result g c.write-answer.new.self) c.self.view_is
    (subst (λ (a : Wrote). Writes c.args.stream c.args.bytes.now a c.self.inside.core c.write-answer.new.self) (sym c.wrote.ensures)
    (writes c.args.stream c.args.bytes.now c.self.inside.core c.write-answer.new.self c.write-answer.result c.self.invariant there w.took w.state w.failed w.served w.begun w.err)) in
    all.answer_is

pub returns-clause-failed : goal.returns-clause-failed
returns-clause-failed c =
    let there : c.args.stream < length c.self.inside.core.lines = IsLive-below c.self.inside.core.lines c.args.stream (subst (λ (g : HallState). IsLive g.lines c.args.stream) (sym c.self.view_is) c.requires.is_open) in
    let w = c.write-answer.ensures in
    let all : Writes c.args.stream c.args.bytes.now c.wrote.result c.args.self.now c.write-answer.new.self =
    subst (λ (g : HallState). Writes c.args.stream c.args.bytes.now c.wrote.result g c.write-answer.new.self) c.self.view_is
    (subst (λ (a : Wrote). Writes c.args.stream c.args.bytes.now a c.self.inside.core c.write-answer.new.self) (sym c.wrote.ensures)
    (writes c.args.stream c.args.bytes.now c.self.inside.core c.write-answer.new.self c.write-answer.result c.self.invariant there w.took w.state w.failed w.served w.begun w.err)) in
    all.failed

pub returns-clause-served : goal.returns-clause-served
returns-clause-served c =
    let there : c.args.stream < length c.self.inside.core.lines = IsLive-below c.self.inside.core.lines c.args.stream (subst (λ (g : HallState). IsLive g.lines c.args.stream) (sym c.self.view_is) c.requires.is_open) in
    let w = c.write-answer.ensures in
    let all : Writes c.args.stream c.args.bytes.now c.wrote.result c.args.self.now c.write-answer.new.self =
    subst (λ (g : HallState). Writes c.args.stream c.args.bytes.now c.wrote.result g c.write-answer.new.self) c.self.view_is
    (subst (λ (a : Wrote). Writes c.args.stream c.args.bytes.now a c.self.inside.core c.write-answer.new.self) (sym c.wrote.ensures)
    (writes c.args.stream c.args.bytes.now c.self.inside.core c.write-answer.new.self c.write-answer.result c.self.invariant there w.took w.state w.failed w.served w.begun w.err)) in
    all.served
