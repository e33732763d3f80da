-- The kinds of values and their type bytes: those of bson_doc, named on for the crates above.
pub use Rattle.bson_doc.specs.wire.Kinds.{byte_of, kind_of_byte}
