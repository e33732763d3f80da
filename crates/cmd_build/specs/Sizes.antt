-- Which commands are larger than a server takes (MongoDB, Limits: BSON document size; MongoDB wire protocol, OP_MSG).
use Rattle.std.specs.Prelude.{◌≡◌, ◌≤◌, ℕ, ◌+◌, ◌-◌, ◌^◌, min, All, nat_lt, if◌then◌else◌, List, [], ◌∷◌, length, Option, None, Some}
use Rattle.std.specs.Option.{option_or}
use Rattle.bson_doc.specs.Documents.{depth_of}
use Rattle.bson_doc.specs.declared.cluster_time.ClusterTime.{ClusterTime}
use Rattle.bson_doc.specs.declared.value.Document.{Document}
use Rattle.bson_wire.specs.Spelled.{spelled}
use Rattle.cmd_build.specs.Commands.{command_document}
use Rattle.cmd_build.specs.declared.command.Act.{Act}
use Rattle.cmd_build.specs.declared.command.Act.TheVariants as act
use Rattle.cmd_build.specs.declared.command.Command.{Command}
use Rattle.cmd_build.specs.declared.extras.Extras.{Extras}
use Rattle.cmd_build.specs.declared.extras.Sizes.{Sizes}
use Rattle.cmd_build.specs.declared.fault.BuildFault.{BuildFault}
use Rattle.cmd_build.specs.declared.fault.BuildFault.TheVariants as fault

-- own: a size that is told stands still at the greatest number of 64 bits.
abbrev pub told : ℕ → ℕ
told n = min n (2 ^ 64 - 1)

-- What servers take unless their hello reply says otherwise: maxBsonObjectSize and maxMessageSizeBytes (MongoDB, Limits).
abbrev pub usual_sizes : Sizes
usual_sizes = record { max_doc = 16777216; max_message = 48000000 }

-- How many bytes a document has.
abbrev pub document_size : Document → ℕ
document_size d = told (length (spelled d))

-- How many bytes a message of one document has: a header of sixteen, four of flags, the section's kind, the document.
abbrev pub message_size : Document → ℕ
message_size d = told (length (spelled d) + 21)

-- A change that may be absent.
abbrev pub each : Option Document → List Document
each None = []
each (Some d) = d ∷ []

-- The documents that an act carries, in the order in which they are measured.
abbrev pub documents_of : Act → List Document
documents_of (act.Insert doc) = doc ∷ []
documents_of (act.Update filter change multi upsert) = filter ∷ change ∷ []
documents_of (act.Delete filter all) = filter ∷ []
documents_of (act.FindAndModify filter change) = filter ∷ each change
documents_of (act.Find filter read) = filter ∷ []

-- The documents that an act carries have no more levels than that.
abbrev pub IsWithin : ℕ → Act → Type 0
IsWithin levels act = All (λ d. depth_of d ≤ levels) (documents_of act)

-- How many levels a cluster time has.
abbrev pub levels_of_time : Option ClusterTime → ℕ
levels_of_time None = 0
levels_of_time (Some time) = depth_of time.body

-- A size that is too large, with its bound.
pub record Excess : Type 0 where
  pub size : ℕ
  pub most : ℕ

-- What is over a bound.
abbrev pub over : ℕ → ℕ → Option Excess
over most size = if nat_lt most size then Some (record { size = size; most = most }) else None

-- The first of the documents that is over the bound.
abbrev pub first_over : ℕ → List Document → Option Excess
first_over most [] = None
first_over most (d ∷ ds) = option_or (over most (document_size d)) (first_over most ds)

-- What is too large of a command: the first of its documents, or else its whole message.
abbrev pub excess : Command → List ℕ → Extras → Option ClusterTime → Sizes → Option Excess
excess c db extras time sizes =
    option_or (first_over sizes.max_doc (documents_of c.act))
    (over sizes.max_message (message_size (command_document c db extras time)))

-- The fault that tells it.
abbrev pub fault_of : Excess → BuildFault
fault_of e = fault.TooLarge e.size e.most

-- The fault tells what is too large; want of memory may come of any command.
abbrev pub Tells : BuildFault → Option Excess → Type 0
Tells (fault.TooLarge size most) e = e ≡ Some (record { size = size; most = most })
Tells fault.Memory e = Unit {0}
