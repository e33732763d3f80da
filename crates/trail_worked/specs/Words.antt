-- What the worked trails are written in: hosts, requests and bytes of commands.
use Rattle.std.specs.Prelude.{◌≡◌, ℕ, ℤ, pos, true, false, List, ◌∷◌, [], None, codes, slice_set, take, drop, ◌++◌, ◌+◌}
use Rattle.bson_doc.specs.declared.ids.Lsid.{Lsid}
use Rattle.host_name.specs.Addresses.{Address}
use Rattle.msg_wire.specs.Framing.{frame}
use Rattle.cmd_build.specs.Commands.{command_document}
use Rattle.cmd_build.specs.Handshakes.{farewell_document, hello_document}
use Rattle.cmd_build.specs.declared.command.Command.{Command}
use Rattle.cmd_build.specs.declared.command.Act.TheVariants as act
use Rattle.cmd_build.specs.declared.extras.Extras.{Extras}
use Rattle.cmd_outcome.specs.declared.reading.Reading.{Reading}
use Rattle.cmd_outcome.specs.declared.reading.ReplyResult.TheVariants as said
use Rattle.conn_uri.specs.Configurations.{Configuration}
use Rattle.entry_judge.specs.declared.timed.Timed.{Timed}
use Rattle.desk_trail.specs.declared.request.Purpose.TheVariants as purpose
use Rattle.desk_trail.specs.declared.request.Request.{Request}
use Rattle.desk_trail.specs.Clients.{Client}
use Rattle.desk_trail.specs.Facts.{Fact}
use Rattle.desk_trail.specs.Legal.{point_behind}

-- ---- Trails, and those that differ from them in one entry

-- What was told at a moment.
abbrev pub at : ℕ → Fact → Timed Fact
at moment f = record { at = moment; what = f }

-- The same trail with another entry at a place; with one more there; and with the one there left out.
abbrev pub instead : List (Timed Fact) → ℕ → Timed Fact → List (Timed Fact)
instead ts k t = slice_set ts k t

abbrev pub put_in : List (Timed Fact) → ℕ → Timed Fact → List (Timed Fact)
put_in ts k t = take k ts ++ t ∷ drop k ts

abbrev pub left_out : List (Timed Fact) → ℕ → List (Timed Fact)
left_out ts k = take k ts ++ drop (k + 1) ts

-- ---- Hosts and commands

-- The host of that name at MongoDB's port.
abbrev pub host : List ℕ → Address
host name = record { name = name; port = 27017 }

-- A client that began at moment 0.
abbrev pub client_with : Configuration → List Command → Client
client_with settings commands = record { settings = settings; commands = commands; began = 0 }

-- An insert of an empty document.
abbrev pub an_insert : Command
an_insert = record { lane = 1; db = None; coll = codes "things"; act = act.Insert (record { elements = [] }) }

-- ---- Requests

-- The bytes of a hello, the first of its stream or a later one.
abbrev pub first_hello : ℤ → List ℕ
first_hello id = frame id (pos 0) 0 (hello_document true)

abbrev pub later_hello : ℤ → List ℕ
later_hello id = frame id (pos 0) 0 (hello_document false)

-- The first hello of a check; and that of a new connection.
abbrev pub check_hello : (server stream : ℕ) → ℤ → Request
check_hello server stream id = record { stream = stream; id = id; purpose = purpose.Check server; bytes = first_hello id }

abbrev pub greeting : (server conn stream : ℕ) → ℤ → Request
greeting server conn stream id = record { stream = stream; id = id; purpose = purpose.Greeting server conn; bytes = first_hello id }

-- The hello of a later check on the stream of the last one.
abbrev pub next_hello : (server stream : ℕ) → ℤ → Request
next_hello server stream id = record { stream = stream; id = id; purpose = purpose.Check server; bytes = later_hello id }

-- A command's request, of these bytes.
abbrev pub command_request : (op stream : ℕ) → ℤ → List ℕ → Request
command_request op stream id bytes = record { stream = stream; id = id; purpose = purpose.Command op; bytes = bytes }

-- The farewell that ends the sessions of these ids.
abbrev pub farewell : (stream : ℕ) → ℤ → List Lsid → Request
farewell stream id ids = record { stream = stream; id = id; purpose = purpose.Farewell; bytes = frame id (pos 0) 0 (farewell_document ids) }

-- The bytes of a command.
abbrev pub command_bytes : ℤ → Command → List ℕ → Extras → List ℕ
command_bytes id command db extras = frame id (pos 0) 0 (command_document command db extras None)

-- ---- Replies

-- One document was written.
abbrev pub wrote_one : Reading
wrote_one = record { result = said.Ok (pos 1) (pos 0); retryable = false; no_writes = false; state = None; version = None }

-- ---- What must follow

-- A trail is complete: no entry must follow it.
abbrev pub AreComplete : Client → List (Timed Fact) → Type 0
AreComplete client ts = (point_behind client ts).owed ≡ []
