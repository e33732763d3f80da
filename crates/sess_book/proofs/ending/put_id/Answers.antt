use Rattle.std.proofs.Common.{◌++◌, refl, sym, ◌∙◌, ap}
use Rattle.std.specs.Prelude.{option_to_list}
use Rattle.std.specs.Option.{option_map}
use Rattle.std.proofs.lemmas.List.{append-nil}
use Rattle.std.proofs.lemmas.Option.{slice_get_past}
use Rattle.sess_book.proofs.ending.put_id.Goals as goal

pub returns-in-None : goal.returns-in-None
returns-in-None c =
    let past = slice_get_past c.args.made.now c.args.kept.place c.in-None.ensures.lookup.3 in
    sym (ap (λ o. c.args.ids.now ++ option_to_list (option_map (λ x. x.lsid) o)) past ∙ append-nil c.args.ids.now)
