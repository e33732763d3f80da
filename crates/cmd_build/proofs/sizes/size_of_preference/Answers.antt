use Rattle.std.proofs.Common.{length, List, sym, ap, ◌∙◌, arith}
use Rattle.read_pref.specs.declared.tag.Tag.{Tag}
use Rattle.cmd_build.specs.Commands.{tag_sets_field}
use Rattle.cmd_build.proofs.SizeLemmas.{fields_length, length-preference}
use Rattle.cmd_build.proofs.sizes.size_of_preference.Goals as goal

pub returns-in-Some : goal.returns-in-Some
returns-in-Some c = omega (
  arith,
  length-preference c.args.act.now c.args.extras.now c.in-Some.mode (sym c.sent_mode.ensures ∙ c.in-Some.is),
  ap length c.name.ensures,
  ap (λ (sets : List (List Tag)). fields_length (tag_sets_field sets)) c.sent_tags.ensures,
)
