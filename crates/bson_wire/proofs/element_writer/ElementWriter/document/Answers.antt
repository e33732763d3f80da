use Rattle.std.proofs.Common.{ap, ◌++◌, ◌∙◌, refl}
use Rattle.bson_doc.specs.declared.value.Value.{Doc}
use Rattle.bson_doc.specs.wire.Spelled.{spelled}
use Rattle.bson_wire.proofs.Payloads.{payload-Doc}
use Rattle.bson_wire.proofs.Written.{doc_spells}
use Rattle.bson_wire.proofs.WriteLemmas.{name-is, wrote-one}
use Rattle.bson_wire.proofs.element_writer.ElementWriter.document.Goals as goal

pub returns-clause-writes : goal.returns-clause-writes
returns-clause-writes c =
    let doc = c.args.doc.now in
    let append = c.in_ok-self-inside.ensures in
    wrote-one c.self.inside.out.items c.args.self.now c.put_front.new.out.items c.in_ok-self-inside.field-0.items c.args.name.now _ _ (Doc doc) c.self.view_is
    (payload-Doc (Doc doc) doc refl) c.in_ok-put_front.ensures.ok (append.ok ∙ ap (λ (v : _). v.items ++ spelled doc) c.replace-bytes.ensures.value)
    (name-is c.args.name.now c.requires.name c.utf8.name) (doc_spells (Doc doc) doc refl append.known append.fits.1)
