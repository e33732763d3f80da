use Rattle.std.proofs.Common.{◌≡◌, drop}
use Rattle.std.specs.Prelude.{find}
use Rattle.bson_doc.specs.Documents.{is_text}
use Rattle.conn_uri.specs.Options.{name_of}
use Rattle.conn_uri.proofs.uri_option.named.Given as goal

abbrev pub invariant-loop-option : goal.invariant-loop-option
invariant-loop-option l =
    find (λ o. is_text (name_of o) l.name) (drop l.option-index l.options) ≡ find (λ o. is_text (name_of o) l.name) l.options
