use Rattle.std.proofs.Common.{◌≡◌, ap, arith, refl}
use Rattle.std.proofs.lemmas.List.{get_or_read}
use Rattle.net_link.specs.Script.{gone, line_at, shut, IsLive, IsLive-below}
use Rattle.net_link.proofs.ScriptLemmas.{IsSound-shut, IsLive-shut, Keeps-shut, live_count-positive}
use Rattle.net_link.proofs.script_net.ScriptNetNet.close.Goals as goal

pub note_kept-requires : goal.note_kept-requires
note_kept-requires c =
    let live : IsLive c.self.inside.lines.items c.args.stream = rw (ap (λ s. s.lines) c.self.view_is) c.requires in
    omega (arith, live_count-positive c.self.inside.lines.items c.args.stream live, c.self.invariant.kept)

pub invariant_of-self : goal.invariant_of-self
invariant_of-self c =
    let live : IsLive c.self.inside.lines.items c.args.stream = rw (ap (λ s. s.lines) c.self.view_is) c.requires in
    let there = IsLive-below c.self.inside.lines.items c.args.stream live in
    rw (c.shut.ensures, get_or_read c.self.inside.lines.items c.args.stream c.index_mut-line.result.now there c.index_mut-line.ensures.value gone)
    (IsSound-shut c.self.inside.lines.items c.args.stream c.self.inside.log c.note_kept.new.self live c.self.invariant c.note_kept.ensures.events c.note_kept.ensures.kept)

pub returns-clause-keeps : goal.returns-clause-keeps
returns-clause-keeps c =
    let live : IsLive c.self.inside.lines.items c.args.stream = rw (ap (λ s. s.lines) c.self.view_is) c.requires in
    let there = IsLive-below c.self.inside.lines.items c.args.stream live in
    let line : c.shut.new.self ≡ shut (line_at c.self.inside.lines.items c.args.stream) =
    rw (c.shut.ensures, get_or_read c.self.inside.lines.items c.args.stream c.index_mut-line.result.now there c.index_mut-line.ensures.value gone) refl in
    Keeps-shut c.args.stream c.args.self.now _ (rw (← ap (λ s. s.lines) c.self.view_is, line) refl)

pub returns-clause-closed : goal.returns-clause-closed
returns-clause-closed c =
    let live : IsLive c.self.inside.lines.items c.args.stream = rw (ap (λ s. s.lines) c.self.view_is) c.requires in
    let there = IsLive-below c.self.inside.lines.items c.args.stream live in
    rw (c.shut.ensures, get_or_read c.self.inside.lines.items c.args.stream c.index_mut-line.result.now there c.index_mut-line.ensures.value gone)
    (IsLive-shut c.self.inside.lines.items c.args.stream there)
