-- The canonical spelling: that of bson_doc, named on for the crates above.
pub use Rattle.bson_doc.specs.wire.Spelled.{number32, string, binary, regex, counted, scope, int64, document, Payload, element, named, numbered, value_step, document_step, payload, spelled_elements, spelled, spelled_items}
