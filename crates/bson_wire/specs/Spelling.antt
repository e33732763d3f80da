-- Which bytes spell a document: the relation of bson_doc, named on for the crates above.
pub use Rattle.bson_doc.specs.wire.Spelling.{IsNumber32, IsString, IsName, IsBinary, IsRegex, IsDbPointer, values, truth_byte, IsArray, IsScope, IsPayload, IsElement, AreElements, IsDocument, SpellsWithin, Spells}
