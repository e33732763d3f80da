-- What `from_json` answers: the document of an object without a flaw, or its first flaw (own).
use Rattle.std.specs.Prelude.{◌≡◌, ℕ, List, [], ◌∷◌, Option, Some, None, Result, Ok, Err}
use Rattle.serde_json.specs.Data.{Data, object}
use Rattle.bson_doc.specs.declared.value.Document.{Document}
use Rattle.bson_text.specs.declared.fault.TextFault.{TextFault}
use Rattle.bson_text.specs.declared.fault.TextFault.TheVariants as fault
use Rattle.bson_text.specs.declared.flaw.Flaw.{Flaw}
use Rattle.bson_text.specs.declared.flaw.Stop.{Stop}
use Rattle.bson_text.specs.declared.flaw.Stop.TheVariants as stop
use Rattle.bson_text.specs.declared.flaw.FlawKind.{FlawKind}
use Rattle.bson_text.specs.declared.flaw.FlawKind.TheVariants.{Fraction, TooBig, Nul, Deep}
use Rattle.bson_text.specs.Documents.{document_from}
use Rattle.bson_text.specs.Flaws.{flaws, under}

-- The fault that tells a flaw with its path.
abbrev pub fault_at : FlawKind → List ℕ → TextFault
fault_at Fraction path = fault.Fraction path
fault_at TooBig path = fault.TooBig path
fault_at Nul path = fault.Nul path
fault_at Deep path = fault.Deep path

-- The path, with no step in it where it leads nowhere.
abbrev pub whole_path : Option (List ℕ) → List ℕ
whole_path None = []
whole_path (Some path) = path

abbrev pub fault_of : Flaw → TextFault
fault_of flaw = fault_at flaw.kind (whole_path flaw.path)

-- The document where there is no flaw, else the fault of the first.
abbrev pub unless_flawed : Document → List Flaw → Result Document TextFault
unless_flawed document [] = Ok document
unless_flawed document (first ∷ others) = Err (fault_of first)

-- An object reads as its document or its first flaw; anything else is no object.
abbrev pub reading : Data → Result Document TextFault
reading (object ms) = unless_flawed (document_from ms) (flaws 1 (object ms))
reading _ = Err fault.Shape

-- A walk stopped at the first of the flaws, or memory ran out.
abbrev pub Stops : Stop → List Flaw → Type 0
Stops stop.Memory found = Unit {0}
Stops (stop.Flawed flaw) [] = ⊥
Stops (stop.Flawed flaw) (first ∷ others) = first ≡ flaw

-- What stopped the walk of a part is told of the whole, or memory ran out.
abbrev pub StopsUnder : List ℕ → Stop → Stop → Type 0
StopsUnder step stop.Memory told = told ≡ stop.Memory
StopsUnder step (stop.Flawed flaw) stop.Memory = Unit {0}
StopsUnder step (stop.Flawed flaw) (stop.Flawed told) = told ≡ under step flaw
