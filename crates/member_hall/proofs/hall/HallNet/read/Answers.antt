use Rattle.std.proofs.Common.{sym, subst, length}
use Rattle.net_link.specs.declared.net.Came.{Came}
use Rattle.member_hall.specs.Halls.{HallState, IsLive}
use Rattle.member_hall.specs.Streams.{IsLive-below}
use Rattle.member_hall.proofs.Calling.{Reads, reads}
use Rattle.member_hall.proofs.hall.HallNet.read.Goals as goal

pub read-answer-requires-clause-stream : goal.read-answer-requires-clause-stream
read-answer-requires-clause-stream c = IsLive-below c.self.inside.core.lines c.args.stream (subst (λ (g : HallState). IsLive g.lines c.args.stream) (sym c.self.view_is) c.requires.is_open)

pub invariant_of-self : goal.invariant_of-self
invariant_of-self c =
    let live : IsLive c.self.inside.core.lines c.args.stream = subst (λ (g : HallState). IsLive g.lines c.args.stream) (sym c.self.view_is) c.requires.is_open in
    let r = c.read-answer.ensures in
    (reads c.args.stream (length c.args.into.now) c.read-answer.new.into c.self.inside.core c.read-answer.new.self c.read-answer.result c.self.invariant live r.answer r.given r.state r.begun r.err).facts.sound

pub returns-clause-keeps : goal.returns-clause-keeps
returns-clause-keeps c =
    let live : IsLive c.self.inside.core.lines c.args.stream = subst (λ (g : HallState). IsLive g.lines c.args.stream) (sym c.self.view_is) c.requires.is_open in
    let r = c.read-answer.ensures in
    let all : Reads c.args.stream (length c.args.into.now) c.read-answer.new.into c.came.result c.args.self.now c.read-answer.new.self =
    subst (λ (g : HallState). Reads c.args.stream (length c.args.into.now) c.read-answer.new.into c.came.result g c.read-answer.new.self) c.self.view_is
    (subst (λ (a : Came). Reads c.args.stream (length c.args.into.now) c.read-answer.new.into a c.self.inside.core c.read-answer.new.self) (sym c.came.ensures)
    (reads c.args.stream (length c.args.into.now) c.read-answer.new.into c.self.inside.core c.read-answer.new.self c.read-answer.result c.self.invariant live r.answer r.given r.state r.begun r.err)) in
    all.facts.keeps

pub returns-clause-told : goal.returns-clause-told
returns-clause-told c =
    let live : IsLive c.self.inside.core.lines c.args.stream = subst (λ (g : HallState). IsLive g.lines c.args.stream) (sym c.self.view_is) c.requires.is_open in
    let r = c.read-answer.ensures in
    let all : Reads c.args.stream (length c.args.into.now) c.read-answer.new.into c.came.result c.args.self.now c.read-answer.new.self =
    subst (λ (g : HallState). Reads c.args.stream (length c.args.into.now) c.read-answer.new.into c.came.result g c.read-answer.new.self) c.self.view_is
    (subst (λ (a : Came). Reads c.args.stream (length c.args.into.now) c.read-answer.new.into a c.self.inside.core c.read-answer.new.self) (sym c.came.ensures)
    (reads c.args.stream (length c.args.into.now) c.read-answer.new.into c.self.inside.core c.read-answer.new.self c.read-answer.result c.self.invariant live r.answer r.given r.state r.begun r.err)) in
    all.facts.told

pub returns-clause-inbox : goal.returns-clause-inbox
returns-clause-inbox c =
    let live : IsLive c.self.inside.core.lines c.args.stream = subst (λ (g : HallState). IsLive g.lines c.args.stream) (sym c.self.view_is) c.requires.is_open in
    let r = c.read-answer.ensures in
    let all : Reads c.args.stream (length c.args.into.now) c.read-answer.new.into c.came.result c.args.self.now c.read-answer.new.self =
    subst (λ (g : HallState). Reads c.args.stream (length c.args.into.now) c.read-answer.new.into c.came.result g c.read-answer.new.self) c.self.view_is
    (subst (λ (a : Came). Reads c.args.stream (length c.args.into.now) c.read-answer.new.into a c.self.inside.core c.read-answer.new.self) (sym c.came.ensures)
    (reads c.args.stream (length c.args.into.now) c.read-answer.new.into c.self.inside.core c.read-answer.new.self c.read-answer.result c.self.invariant live r.answer r.given r.state r.begun r.err)) in
    all.facts.inbox

pub returns-clause-cause : goal.returns-clause-cause
returns-clause-cause c =
    let live : IsLive c.self.inside.core.lines c.args.stream = subst (λ (g : HallState). IsLive g.lines c.args.stream) (sym c.self.view_is) c.requires.is_open in
    let r = c.read-answer.ensures in
    let all : Reads c.args.stream (length c.args.into.now) c.read-answer.new.into c.came.result c.args.self.now c.read-answer.new.self =
    subst (λ (g : HallState). Reads c.args.stream (length c.args.into.now) c.read-answer.new.into c.came.result g c.read-answer.new.self) c.self.view_is
    (subst (λ (a : Came). Reads c.args.stream (length c.args.into.now) c.read-answer.new.into a c.self.inside.core c.read-answer.new.self) (sym c.came.ensures)
    (reads c.args.stream (length c.args.into.now) c.read-answer.new.into c.self.inside.core c.read-answer.new.self c.read-answer.result c.self.invariant live r.answer r.given r.state r.begun r.err)) in
    all.facts.cause

pub returns-clause-answer : goal.returns-clause-answer
returns-clause-answer c =
    let live : IsLive c.self.inside.core.lines c.args.stream = subst (λ (g : HallState). IsLive g.lines c.args.stream) (sym c.self.view_is) c.requires.is_open in
    let r = c.read-answer.ensures in
    let all : Reads c.args.stream (length c.args.into.now) c.read-answer.new.into c.came.result c.args.self.now c.read-answer.new.self =
    subst (λ (g : HallState). Reads c.args.stream (length c.args.into.now) c.read-answer.new.into c.came.result g c.read-answer.new.self) c.self.view_is
    (subst (λ (a : Came). Reads c.args.stream (length c.args.into.now) c.read-answer.new.into a c.self.inside.core c.read-answer.new.self) (sym c.came.ensures)
    (reads c.args.stream (length c.args.into.now) c.read-answer.new.into c.self.inside.core c.read-answer.new.self c.read-answer.result c.self.invariant live r.answer r.given r.state r.begun r.err)) in
    all.answer_is

pub returns-clause-state : goal.returns-clause-state
returns-clause-state c =
    let live : IsLive c.self.inside.core.lines c.args.stream = subst (λ (g : HallState). IsLive g.lines c.args.stream) (sym c.self.view_is) c.requires.is_open in
    let r = c.read-answer.ensures in
    let all : Reads c.args.stream (length c.args.into.now) c.read-answer.new.into c.came.result c.args.self.now c.read-answer.new.self =
    subst (λ (g : HallState). Reads c.args.stream (length c.args.into.now) c.read-answer.new.into c.came.result g c.read-answer.new.self) c.self.view_is
    (subst (λ (a : Came). Reads c.args.stream (length c.args.into.now) c.read-answer.new.into a c.self.inside.core c.read-answer.new.self) (sym c.came.ensures)
    (reads c.args.stream (length c.args.into.now) c.read-answer.new.into c.self.inside.core c.read-answer.new.self c.read-answer.result c.self.invariant live r.answer r.given r.state r.begun r.err)) in
    all.state
