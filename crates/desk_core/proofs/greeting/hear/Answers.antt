use Rattle.std.proofs.Common.{rules, ◌≡◌, ℤ, subst, w32, to_z, of_z}
use Rattle.net_link.specs.Seen.{seen}
use Rattle.wired_trail.specs.Hearing.{Heard, told_of}
use Rattle.desk_core.proofs.HeardLemmas.{hears-greeting}
use Rattle.desk_core.proofs.greeting.hear.Goals as goal

pub returns-clause-hears : goal.returns-clause-hears
returns-clause-hears g c = λ t.
    let same : to_z w32 (of_z w32 c.args.waiting.id) ≡ c.args.waiting.id = search rules in
    hears-greeting (g.N.Net.history c.turn-pulled.new.self.net) c.turn-pulled.new.self.trail c.args.stream c.args.waiting c.args.moment c.turn-pulled.result c.greeting_result.result
    c.greeting_result.ensures.result c.greeting_result.ensures.memory (λ some.
    subst (λ (z : ℤ). Heard c.turn-pulled.result z (seen c.args.stream (g.N.Net.history c.turn-pulled.new.self.net)) (told_of c.turn-pulled.new.self.trail c.args.stream)) same
    (rw c.turn-pulled.ensures.trail (c.turn-pulled.ensures.heard t some)))
