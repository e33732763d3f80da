-- The documents that no command asks for: a check's or greeting's hello, and the farewell of sessions (MongoDB Handshake; Driver
-- Sessions, endSessions).
use Rattle.std.specs.Prelude.{pos, Bool, true, false, List, [], ◌∷◌, ◌++◌, map, codes}
use Rattle.bson_doc.specs.declared.ids.Lsid.{Lsid}
use Rattle.bson_doc.specs.declared.value.Document.{Document}
use Rattle.bson_doc.specs.declared.value.Value.{Value, Array, Doc}
use Rattle.bson_doc.specs.declared.value.Value.TheVariants as value
use Rattle.cmd_build.specs.Commands.{Field, session}

-- The driver's name and version.
abbrev pub driver : Document
driver = record {
  elements =
      (codes "name", value.Str (codes "mdc"))
      ∷ (codes "version", value.Str (codes "1"))
      ∷ [];
}

-- The system that it runs on.
abbrev pub system : Document
system = record { elements = (codes "type", value.Str (codes "Linux")) ∷ [] }

-- Who is asking (MongoDB Handshake, client).
abbrev pub client : Document
client = record {
  elements =
      (codes "driver", Doc driver)
      ∷ (codes "os", Doc system)
      ∷ [];
}

-- A connection's first hello says who is asking.
abbrev pub client_fields : Bool → List Field
client_fields true = (codes "client", Doc client) ∷ []
client_fields false = []

-- The fields behind those of a command on no collection: Stable API version "1", and the database admin.
abbrev pub admin_fields : List Field
admin_fields =
    (codes "apiVersion", value.Str (codes "1"))
    ∷ (codes "$db", value.Str (codes "admin"))
    ∷ []

-- What a check or a greeting sends, the first one on a connection and the others.
abbrev pub hello_document : Bool → Document
hello_document first = record {
  elements =
      (codes "hello", value.Int32 (pos 1))
      ∷ client_fields first
      ++ admin_fields;
}

-- A session that ends.
abbrev pub ended_session : Lsid → Value
ended_session id = Doc (session id)

-- What ends sessions.
abbrev pub farewell_document : List Lsid → Document
farewell_document ids = record {
  elements =
      (codes "endSessions", Array (map ended_session ids))
      ∷ admin_fields;
}
