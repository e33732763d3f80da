use Rattle.std.proofs.Common.{rules, sym, subst, ◌≡◌, ℤ, w32, to_z, of_z, ◌≢◌}
use Rattle.desk_core.specs.Driven.{IsKeptIdle}
use Rattle.desk_core.specs.Ends.{IsEndBy}
use Rattle.net_link.specs.Seen.{Seen, seen}
use Rattle.wired_trail.specs.Hearing.{Heard, told_of}
use Rattle.wired_trail.proofs.FaultLemmas.{untold-later}
use Rattle.desk_wire.specs.declared.answers.Pulled.TheVariants as pulled
use Rattle.desk_core.proofs.CheckLemmas.{IsKeptIdle-whole, IsWhole-reply}
use Rattle.desk_core.proofs.driven.drive.Goals as goal

pub returns-in-Some-clause-kept : goal.returns-in-Some-clause-kept
returns-in-Some-clause-kept g c = λ sample e.
    let by : IsEndBy c.args.check.host.now c.args.check.began c.args.check.limit c.args.moment c.turn-pulled.result c.in-Some.end.event c.in-Some.end.how = search rules in
    let whole =
    IsWhole-reply c.args.check.host.now c.args.check.began c.args.check.limit c.args.moment sample c.turn-pulled.result c.in-Some.end.event c.in-Some.end.how e by in
    subst (λ l. IsKeptIdle c.args.wired.now.lines l c.args.stream) (sym (c.close_behind.ensures.kept sample e))
    (IsKeptIdle-whole _ c.args.wired.now.lines c.turn-pulled.new.self.lines c.args.stream c.turn-pulled.result c.requires.there.line _ _ c.requires.there.there whole
    c.turn-pulled.ensures.turns)

pub returns-in-Some-clause-heard : goal.returns-in-Some-clause-heard
returns-in-Some-clause-heard g c = λ tells.
    let some : c.turn-pulled.result ≢ pulled.Memory = search rules in
    let same : to_z w32 (of_z w32 c.args.check.hello) ≡ c.args.check.hello = search rules in
    let heard : Heard c.turn-pulled.result c.args.check.hello (seen c.args.stream (g.N.Net.history c.turn-pulled.new.self.net)) (told_of c.args.wired.now.trail c.args.stream) =
    subst (λ (z : ℤ). Heard c.turn-pulled.result z (seen c.args.stream (g.N.Net.history c.turn-pulled.new.self.net)) (told_of c.args.wired.now.trail c.args.stream)) same
    (c.turn-pulled.ensures.heard tells some) in
    record {
      answer = c.turn-pulled.result;
      heard =
          subst (λ (v : Seen). Heard c.turn-pulled.result c.args.check.hello v (told_of c.close_behind.new.wired.trail c.args.stream)) (sym (c.close_behind.ensures.seen tells c.args.stream))
          (rw (c.close_behind.ensures.trail) (rw (c.turn-pulled.ensures.trail) heard));
      says = search rules;
      carries = search rules;
    }

pub returns-in-Some-clause-counted : goal.returns-in-Some-clause-counted
returns-in-Some-clause-counted g c = λ fault.
    let by : IsEndBy c.args.check.host.now c.args.check.began c.args.check.limit c.args.moment c.turn-pulled.result c.in-Some.end.event c.in-Some.end.how = search rules in
    let failed = (subst (IsEndBy c.args.check.host.now c.args.check.began c.args.check.limit c.args.moment c.turn-pulled.result c.in-Some.end.event) fault by).1 in
    rw (c.close_behind.ensures.trail)
    (untold-later (g.N.Net.faults c.turn-pulled.new.self.net) (g.N.Net.faults c.close_behind.new.wired.net) c.turn-pulled.new.self.trail.steps c.close_behind.ensures.faults
    (c.turn-pulled.ensures.counted failed))
