use Rattle.std.proofs.Common.{refl}
use Rattle.bson_doc.specs.declared.value.Value.TheVariants as value
use Rattle.bson_wire.proofs.Payloads.{payload-Binary}
use Rattle.bson_wire.proofs.PlainWritten.{binary_spells}
use Rattle.bson_wire.proofs.Written.{OnOk-both}
use Rattle.bson_wire.proofs.WriteLemmas.{name-is, wrote-one}
use Rattle.bson_wire.proofs.element_writer.ElementWriter.binary.Goals as goal

pub returns-clause-writes : goal.returns-clause-writes
returns-clause-writes c =
    let held = c.args.bytes.now in
    let v = value.Binary c.args.subtype held in
    OnOk-both c.put_binary.result (λ bytes small.
    wrote-one c.self.inside.out.items c.args.self.now c.put_front.new.out.items c.put_binary.new.out.items c.args.name.now _ _ v c.self.view_is
    (payload-Binary v c.args.subtype held refl) c.in_ok-put_front.ensures.ok bytes (name-is c.args.name.now c.requires.name c.utf8.name)
    (binary_spells v c.args.subtype held refl small)) c.put_binary.ensures.ok c.put_binary.ensures.size
