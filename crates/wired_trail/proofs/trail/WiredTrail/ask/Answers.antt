use Rattle.std.proofs.Common.{◌≡◌, refl, sym, ap, ◌∙◌, w32, to_z, of_z}
use Rattle.std.specs.Option.{option_map}
use Rattle.std.proofs.lemmas.Int.{to_z-of_z}
use Rattle.wired_trail.specs.Inside.{pending_at, queued_on}
use Rattle.wired_trail.proofs.CallLemmas.{IsKept-asked}
use Rattle.wired_trail.proofs.LineLemmas.{HasLines-asked}
use Rattle.wired_trail.proofs.trail.WiredTrail.ask.Goals as goal

pub invariant_of-self : goal.invariant_of-self
invariant_of-self g c =
    let idle = rw (← c.self.view_is) at c.requires.idle in
    let same : to_z w32 (of_z w32 c.id_of-id.result) ≡ c.args.request.id = to_z-of_z w32 c.id_of-id.result (record { sfits = c.id_of-id.type_inv }) ∙ c.id_of-id.ensures in
    let marked = c.queue-2.ensures.queued ∙ ap (λ n. option_map (queued_on n) (pending_at c.self.inside.pendings c.args.request.stream)) same in
    let free = rw (← c.self.view_is) at c.requires.free in
    IsKept-asked g.N.Net.tells (g.N.Net.is_open c.self.inside.net) (g.N.Net.next c.self.inside.net) (g.N.Net.faults c.self.inside.net) (g.N.Net.history c.self.inside.net) c.self.inside.lines c.queue.new.self c.self.inside.pendings c.queue-2.new.self _ _ _ _ _ c.args.request c.self.inside.trail c.ask.new.self
    (g.met.N.Net.below c.self.inside.net) c.ask.ensures.adds refl idle free (sym (rw c.requires.bytes at c.queue.ensures.queued)) c.queue.ensures.others marked c.queue-2.ensures.others
    (HasLines-asked (g.N.Net.is_open c.self.inside.net) (g.N.Net.next c.self.inside.net) c.self.inside.lines c.queue.new.self _ _ _ _ _ c.args.request c.self.inside.trail c.ask.new.self
    (g.met.N.Net.below c.self.inside.net) c.ask.ensures.adds (sym (rw c.requires.bytes at c.queue.ensures.queued)) c.queue.ensures.others c.self.invariant.wires)
    c.self.invariant
