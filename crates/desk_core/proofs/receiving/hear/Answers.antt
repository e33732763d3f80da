use Rattle.std.proofs.Common.{rules, ◌≡◌, ℤ, subst, w32, to_z, of_z}
use Rattle.net_link.specs.Seen.{seen}
use Rattle.wired_trail.specs.Hearing.{Heard, told_of}
use Rattle.desk_core.proofs.HeardLemmas.{hears-attempt, heard-by}
use Rattle.desk_core.proofs.receiving.hear.Goals as goal

pub returns-clause-hears : goal.returns-clause-hears
returns-clause-hears g c = λ t.
    let same : to_z w32 (of_z w32 c.args.waiting.id) ≡ c.args.waiting.id = search rules in
    hears-attempt (g.N.Net.history c.turn-pulled.new.self.net) c.turn-pulled.new.self.trail c.args.stream c.args.waiting c.args.moment c.turn-pulled.result c.attempt_result.result
    c.attempt_result.ensures.result c.attempt_result.ensures.memory (λ some.
    subst (λ (z : ℤ). Heard c.turn-pulled.result z (seen c.args.stream (g.N.Net.history c.turn-pulled.new.self.net)) (told_of c.turn-pulled.new.self.trail c.args.stream)) same
    (rw c.turn-pulled.ensures.trail (c.turn-pulled.ensures.heard t some)))

pub returns-clause-heard : goal.returns-clause-heard
returns-clause-heard g c = heard-by c.args.waiting c.args.moment c.turn-pulled.result c.attempt_result.result c.attempt_result.ensures.result
