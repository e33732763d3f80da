-- The limits of a document: those of bson_doc, named on for the crates above.
pub use Rattle.bson_doc.specs.wire.Limits.{most_bytes, most_levels}
