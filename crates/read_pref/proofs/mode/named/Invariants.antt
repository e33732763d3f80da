use Rattle.std.proofs.Common.{◌≡◌, drop}
use Rattle.std.specs.Prelude.{find}
use Rattle.bson_doc.specs.Documents.{is_text}
use Rattle.read_pref.specs.Modes.{name_of}
use Rattle.read_pref.proofs.mode.named.Given as goal

abbrev pub invariant-loop-mode : goal.invariant-loop-mode
invariant-loop-mode l =
    find (λ m. is_text (name_of m) l.name) (drop l.mode-index l.modes) ≡ find (λ m. is_text (name_of m) l.name) l.modes
