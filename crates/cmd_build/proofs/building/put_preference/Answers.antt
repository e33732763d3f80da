use Rattle.std.proofs.Common.{List, codes, ◌∙◌, ap, sym}
use Rattle.read_pref.specs.declared.tag.Tag.{Tag}
use Rattle.cmd_build.specs.Commands.{preference_document}
use Rattle.cmd_build.proofs.FaultLemmas.{held-stops, passed-on, stopped-preference}
use Rattle.cmd_build.proofs.building.put_preference.Goals as goal

pub returns-in_ok-preference-in-Some-clause-stops : goal.returns-in_ok-preference-in-Some-clause-stops
returns-in_ok-preference-in-Some-clause-stops c =
    let d = c.in_ok-preference-in-Some.preference in
    passed-on c.document.result (λ e h. stopped-preference c.args.act.now c.args.extras.now c.in-Some.mode d e (sym c.sent_mode.ensures ∙ c.in-Some.is)
    (c.in_ok-preference-in-Some.ensures ∙ ap (λ (sets : List (List Tag)). preference_document sets c.in-Some.mode) c.sent_tags.ensures) h) (held-stops c.document.result (codes "$readPreference") d c.document.ensures.deep c.document.ensures.long)
