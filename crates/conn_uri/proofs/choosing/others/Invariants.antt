use Rattle.std.proofs.Common.{◌≡◌, not, take}
use Rattle.std.specs.Prelude.{filter}
use Rattle.bson_doc.specs.Documents.{is_text}
use Rattle.conn_uri.proofs.choosing.others.Given as goal

abbrev pub invariant-loop-other : goal.invariant-loop-other
invariant-loop-other l = l.others ≡ filter (λ n. not (is_text n l.name)) (take l.other-index l.names)
