use Rattle.std.proofs.Common.{◌++◌, ℤ, refl, ap, ◌∙◌}
use Rattle.std.specs.Int.{w32, cast_unsigned}
use Rattle.std.proofs.lemmas.Int.{to_z-of_z}
use Rattle.std.proofs.lemmas.Result.{on_ok_weaker}
use Rattle.bson_doc.specs.declared.value.Value.TheVariants as value
use Rattle.bson_doc.specs.wire.Spelled.{number32}
use Rattle.bson_wire.proofs.Payloads.{payload-Int32}
use Rattle.bson_wire.proofs.PlainWritten.{int32_spells}
use Rattle.bson_wire.proofs.WriteLemmas.{name-is, wrote-one}
use Rattle.bson_wire.proofs.element_writer.ElementWriter.int32.Goals as goal

pub returns-clause-writes : goal.returns-clause-writes
returns-clause-writes c =
    let v = value.Int32 c.args.n in
    let same = to_z-of_z w32 c.args.n c.ranges.n in
    on_ok_weaker c.put_int32.result (λ bytes.
    wrote-one c.self.inside.out.items c.args.self.now c.put_front.new.out.items c.put_int32.new.out.items c.args.name.now _ _ v c.self.view_is
    (payload-Int32 v c.args.n refl) c.in_ok-put_front.ensures.ok (bytes ∙ ap (λ (m : ℤ). c.put_front.new.out.items ++ number32 (cast_unsigned w32 m)) same)
    (name-is c.args.name.now c.requires.name c.utf8.name) (int32_spells v c.args.n refl c.ranges.n)) c.put_int32.ensures.ok
