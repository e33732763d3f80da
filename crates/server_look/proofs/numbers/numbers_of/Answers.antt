use Rattle.std.proofs.Common.{List, ◌<◌, length, ap, ◌∙◌, arith}
use Rattle.desk_trail.specs.States.{ServerState, number_from}
use Rattle.server_look.proofs.NumberLemmas.{numbers-next}
use Rattle.server_look.proofs.numbers.numbers_of.Goals as goal

pub numbering-preserved : goal.numbering-preserved
numbering-preserved c =
    let within : c.numbering.place < length c.args.hosts.now = omega arith in
    let room = c.put.ensures.room in (
      omega arith,
      omega (arith, c.numbering.invariant.1),
      λ w same.
          numbers-next w c.numbering.numbers.items c.put.new.self.items c.args.hosts.now c.numbering.place c.number_at.result c.index-hosts-place.result within c.index-hosts-place.is
          c.put.ensures.items (ap (λ (ss : List ServerState). number_from 0 ss c.index-hosts-place.result) same ∙ c.number_at.ensures.number) (c.numbering.invariant.2 w same),
    )
