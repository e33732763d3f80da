use Rattle.std.proofs.Common.{rules, ◌≡◌, not, None, Some, sym, ap, ◌∙◌, subst}
use Rattle.std.specs.Prelude.{IfSome, is_some, slice_get}
use Rattle.desk_trail.specs.Checks.{IsCheckStream, IsNew}
use Rattle.desk_trail.specs.States.{ClientState, ServerState}
use Rattle.desk_wire.specs.State.{opened}
use Rattle.wired_trail.specs.Lines.{line_at}
use Rattle.wired_trail.specs.declared.stream_use.StreamUse.TheVariants as for_use
use Rattle.desk_core.specs.Servers.{HasStream}
use Rattle.desk_core.proofs.AppendsLemmas.{Appends-same}
use Rattle.desk_core.proofs.DropLemmas.{read-there}
use Rattle.desk_core.proofs.state.Core.begin_check.Goals as goal

pub begin_on-requires-clause-line : goal.begin_on-requires-clause-line
begin_on-requires-clause-line g c =
    let ready = rw (← c.self.view_is) at c.requires.begins.1 in
    let due = rw (← c.self.view_is) at c.requires.due in
    let h = c.self.invariant.leads ready.runs in
    let there : slice_get c.self.inside.servers.items c.args.host ≡ Some due.0 = ap (λ (s : ClientState). slice_get s.servers c.args.host) (sym h.state) ∙ due.1 in
    let read : c.index.result.now ≡ due.0 = read-there c.self.inside.servers.items c.args.host due.0 c.index.result.now there c.index.ensures in
    let kept : due.0.check_stream ≡ Some c.in-Some.stream = ap (λ (s : ServerState). s.check_stream) (sym read) ∙ sym c.check_stream.ensures.stream ∙ c.in-Some.is in
    let line = subst (λ o. HasStream c.self.inside.wired.lines c.args.host due.0.checks.began o) kept (h.kept c.args.host due.0 there).checked in
    rw (← c.self.view_is) (line.0, line.1, line.2, line.3 due.2.rests)

pub returns-in_err-stream-in-None-clause-appends : goal.returns-in_err-stream-in-None-clause-appends
returns-in_err-stream-in-None-clause-appends g c =
    let same : c.dial_check.new.self.trail ≡ c.args.self.now.trail = ap (λ d. d.trail) c.dial_check.ensures.same in
    Appends-same c.args.moment c.args.self.now.trail c.dial_check.new.self.trail same

pub begin_on-requires-in-Some-2-clause-due : goal.begin_on-requires-in-Some-2-clause-due
begin_on-requires-in-Some-2-clause-due g c =
    let ready = rw (← c.self.view_is) at c.requires.begins.1 in
    let due = rw (← c.self.view_is) at c.requires.due in
    let h = c.self.invariant.leads ready.runs in
    let there : slice_get c.self.inside.servers.items c.args.host ≡ Some due.0 = ap (λ (s : ClientState). slice_get s.servers c.args.host) (sym h.state) ∙ due.1 in
    let read : c.index.result.now ≡ due.0 = read-there c.self.inside.servers.items c.args.host due.0 c.index.result.now there c.index.ensures in
    let none : due.0.check_stream ≡ None = ap (λ (s : ServerState). s.check_stream) (sym read) ∙ sym c.check_stream.ensures.stream ∙ c.in-None.is in
    let state : c.dial_check.new.self.trail.point.state ≡ c.self.inside.wired.trail.point.state =
    ap (λ d. d.trail.point.state) c.dial_check.ensures.same ∙ ap (λ d. d.trail.point.state) (sym c.self.view_is) in
    let told = subst
    (λ o. IfSome o (λ stream. IsNew c.args.self.now.trail.point.state stream
    × (line_at c.dial_check.new.self.lines stream ≡ Some (record { wire = opened stream; is_for = for_use.Check c.args.host }))))
    c.in-Some-2.is c.in_ok-stream-in-None.ensures.stream in
    let new : IsNew c.dial_check.new.self.trail.point.state c.in-Some-2.stream =
    subst (λ (w : ClientState). IsNew w c.in-Some-2.stream) (sym (ap (λ d. d.trail.point.state) c.dial_check.ensures.same)) told.0 in (
      due.0,
      ap (λ (s : ClientState). slice_get s.servers c.args.host) state ∙ due.1,
      (due.2, subst (λ o. IsCheckStream c.dial_check.new.self.trail.point.state o c.in-Some-2.stream) (sym none) new, ap (λ o. not (is_some o)) (sym none)),
    )

pub end_undialled-requires-clause-due : goal.end_undialled-requires-clause-due
end_undialled-requires-clause-due g c =
    let ready = rw (← c.self.view_is) at c.requires.begins.1 in
    let due = rw (← c.self.view_is) at c.requires.due in
    let h = c.self.invariant.leads ready.runs in
    let there : slice_get c.self.inside.servers.items c.args.host ≡ Some due.0 = ap (λ (s : ClientState). slice_get s.servers c.args.host) (sym h.state) ∙ due.1 in
    let read : c.index.result.now ≡ due.0 = read-there c.self.inside.servers.items c.args.host due.0 c.index.result.now there c.index.ensures in
    let none : due.0.check_stream ≡ None = ap (λ (s : ServerState). s.check_stream) (sym read) ∙ sym c.check_stream.ensures.stream ∙ c.in-None.is in
    let state : c.dial_check.new.self.trail.point.state ≡ c.self.inside.wired.trail.point.state =
    ap (λ d. d.trail.point.state) c.dial_check.ensures.same ∙ ap (λ d. d.trail.point.state) (sym c.self.view_is) in
    (due.0, ap (λ (s : ClientState). slice_get s.servers c.args.host) state ∙ due.1, (due.2, none))

pub end_undialled-requires-clause-untold : goal.end_undialled-requires-clause-untold
end_undialled-requires-clause-untold g c = λ tells. c.dial_check.ensures.untold tells (search rules)

pub end_undialled-requires-clause-counted : goal.end_undialled-requires-clause-counted
end_undialled-requires-clause-counted g c = c.dial_check.ensures.counted (search rules)
