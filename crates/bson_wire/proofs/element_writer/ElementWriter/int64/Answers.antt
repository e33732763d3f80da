use Rattle.std.proofs.Common.{◌++◌, ℤ, refl, ap, ◌∙◌}
use Rattle.std.specs.Int.{w64}
use Rattle.std.proofs.lemmas.Int.{to_z-of_z}
use Rattle.std.proofs.lemmas.Result.{on_ok_weaker}
use Rattle.bson_doc.specs.declared.value.Value.TheVariants as value
use Rattle.bson_doc.specs.wire.Spelled.{int64}
use Rattle.bson_wire.proofs.Payloads.{payload-Int64}
use Rattle.bson_wire.proofs.PlainWritten.{int64_spells}
use Rattle.bson_wire.proofs.WriteLemmas.{name-is, wrote-one}
use Rattle.bson_wire.proofs.element_writer.ElementWriter.int64.Goals as goal

pub returns-clause-writes : goal.returns-clause-writes
returns-clause-writes c =
    let v = value.Int64 c.args.n in
    let same = to_z-of_z w64 c.args.n c.ranges.n in
    on_ok_weaker c.put_int64.result (λ bytes.
    wrote-one c.self.inside.out.items c.args.self.now c.put_front.new.out.items c.put_int64.new.out.items c.args.name.now _ _ v c.self.view_is
    (payload-Int64 v c.args.n refl) c.in_ok-put_front.ensures.ok (bytes ∙ ap (λ (m : ℤ). c.put_front.new.out.items ++ int64 m) same)
    (name-is c.args.name.now c.requires.name c.utf8.name) (int64_spells v c.args.n refl c.ranges.n)) c.put_int64.ensures.ok
