use Rattle.std.proofs.Common.{refl}
use Rattle.bson_doc.specs.declared.value.Value.TheVariants as value
use Rattle.bson_wire.proofs.Payloads.{payload-Str}
use Rattle.bson_wire.proofs.PlainWritten.{str_spells}
use Rattle.bson_wire.proofs.Written.{OnOk-both}
use Rattle.bson_wire.proofs.WriteLemmas.{name-is, wrote-one}
use Rattle.bson_wire.proofs.element_writer.ElementWriter.text.Goals as goal

pub returns-clause-writes : goal.returns-clause-writes
returns-clause-writes c =
    let text = c.args.text.now in
    OnOk-both c.put_string.result (λ bytes small.
    wrote-one c.self.inside.out.items c.args.self.now c.put_front.new.out.items c.put_string.new.out.items c.args.name.now _ _ (value.Str text) c.self.view_is
    (payload-Str (value.Str text) text refl) c.in_ok-put_front.ensures.ok bytes (name-is c.args.name.now c.requires.name c.utf8.name)
    (str_spells (value.Str text) text refl c.utf8.text small)) c.put_string.ensures.ok c.put_string.ensures.size
