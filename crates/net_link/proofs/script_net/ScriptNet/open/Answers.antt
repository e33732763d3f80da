use Rattle.std.proofs.Common.{◌≡◌, ◌+◌, ◌++◌, ◌∷◌, [], ◌∙◌, ap, length, arith}
use Rattle.std.proofs.lemmas.Grind.{common_steps}
use Rattle.net_link.specs.declared.event.NetEvent.TheVariants as event
use Rattle.net_link.proofs.ScriptLemmas.{IsSound-opened}
use Rattle.net_link.proofs.script_net.ScriptNet.open.Goals as goal

pub invariant_of-self-2 : goal.invariant_of-self-2
invariant_of-self-2 c =
    let number : c.len-stream.result ≡ length c.self.inside.lines.items = grind (arith, common_steps) in
    let events : c.note_kept.new.self.events ≡ c.self.inside.log.events ++ event.Dialled (length c.self.inside.lines.items) c.args.address ∷ [] =
    c.note_kept.ensures.events ∙ rw (number, c.in-Ok-keep.ensures.ok) in
    let kept : c.note_kept.new.self.kept ≡ c.self.inside.log.kept + 1 = omega (arith, c.note_kept.ensures.kept, ap (λ l. l.kept) c.in-Ok-keep.ensures.ok) in
    rw (c.push_reserved.ensures.items, c.reserve.ensures.items)
    (IsSound-opened c.self.inside.lines.items c.new.result c.args.address c.self.inside.log c.note_kept.new.self c.self.invariant events kept)
