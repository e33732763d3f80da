use Rattle.std.proofs.Common.{◌++◌, ◌∷◌, [], ℕ, refl, ap, ◌∙◌}
use Rattle.std.proofs.lemmas.Result.{on_ok_weaker}
use Rattle.bson_doc.specs.declared.value.Value.TheVariants as value
use Rattle.bson_wire.proofs.Payloads.{payload-Bool}
use Rattle.bson_wire.proofs.PlainWritten.{bool_spells, truth_is}
use Rattle.bson_wire.proofs.WriteLemmas.{name-is, wrote-one}
use Rattle.bson_wire.proofs.element_writer.ElementWriter.truth.Goals as goal

pub returns-clause-writes : goal.returns-clause-writes
returns-clause-writes c =
    let v = value.Bool c.args.truth in
    on_ok_weaker c.put_byte.result (λ bytes.
    wrote-one c.self.inside.out.items c.args.self.now c.put_front.new.out.items c.put_byte.new.out.items c.args.name.now _ _ v c.self.view_is
    (payload-Bool v c.args.truth refl) c.in_ok-put_front.ensures.ok (bytes ∙ ap (λ (b : ℕ). c.put_front.new.out.items ++ b ∷ []) (c.from.ensures ∙ truth_is c.args.truth))
    (name-is c.args.name.now c.requires.name c.utf8.name) (bool_spells v c.args.truth refl)) c.put_byte.ensures.ok
