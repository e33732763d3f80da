-- Reading, and the first fault: those of bson_doc, named on for the crates above.
pub use Rattle.bson_doc.specs.wire.Reading.{Gives, Read, bytes_at, byte_at, until_zero, behind_zero, text_at, name_at, length_at, string_at, bool_at, binary_at, regex_at, pointer_at, int64_of, plain_at, no_more, inside_scope_at, scope_at, unnamed_element, unnamed_elements, unnamed_document, value_at, no_kind, kind_at, element_at, elements_at, body_at, document_at, total_at, read, flaw}
pub use Rattle.bson_doc.specs.Steps.{◌>>=◌, or_fault, fault_of}
