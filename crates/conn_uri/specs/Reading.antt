-- The settings that a connection string gives, or its first fault (Connection String).
use Rattle.std.specs.Prelude.{ℕ, ◌==◌, ◌&&◌, ◌||◌, Bool, not, nat_lt, if◌then◌else◌, List, [], ◌∷◌, Option, None, Some, Result, Ok, Err, length, codes}
use Rattle.std.specs.List.{list_any}
use Rattle.std.specs.Str.{str_to_ascii_lowercase}
use Rattle.bson_doc.specs.Steps.{◌>>=◌, or_fault}
use Rattle.host_name.specs.Addresses.{Address}
use Rattle.host_name.specs.Grammar.{is_in}
use Rattle.read_pref.specs.Preferences.{has_tags_on_primary}
use Rattle.conn_uri.specs.Choices.{chosen_of}
use Rattle.conn_uri.specs.Configurations.{Configuration, configured, preference_of}
use Rattle.conn_uri.specs.Each.{read_each}
use Rattle.conn_uri.specs.Escapes.{decoded}
use Rattle.conn_uri.specs.Grammar.{Part, body_of, ahead, host_pieces, db_part, option_pieces, name_part, value_part}
use Rattle.conn_uri.specs.Seeds.{is_path, seeds_in}
use Rattle.conn_uri.specs.declared.chosen.Chosen.{Chosen}
use Rattle.conn_uri.specs.declared.decoded.Decoded.{Decoded}
use Rattle.conn_uri.specs.declared.fault.Clash.TheVariants as clash
use Rattle.conn_uri.specs.declared.fault.UriFault.{UriFault}
use Rattle.conn_uri.specs.declared.fault.UriFault.TheVariants as fault
use Rattle.conn_uri.specs.declared.said.Said.{Said}

-- An '@' stands ahead of the options, or in an option's name, which the rest of a password with a '?' would be taken for
-- (Connection String, User Information: those bytes are escaped in a name or password; own: none are taken at all).
abbrev pub has_credentials : Part → Bool
has_credentials body = is_in 64 (ahead body).text || list_any (λ p. is_in 64 (name_part p).text) (option_pieces body)

-- What stands behind the scheme, without credentials.
abbrev pub body_in : List ℕ → Result Part UriFault
body_in text = or_fault fault.Scheme (body_of text) >>= (λ body. if has_credentials body then Err fault.Credentials else Ok body)

-- A piece of the options: its name in lower case, and its value without escapes. An empty piece says nothing.
abbrev pub said_in : Part → Result (Option Said) UriFault
said_in p =
    if length p.text == 0 then Ok None
    else decoded (value_part p) >>= (λ value. Ok (Some (record { name = str_to_ascii_lowercase (name_part p).text; value = value })))

-- The database; test where none is named (own).
abbrev pub db_of : List ℕ → List ℕ
db_of text = if length text == 0 then codes "test" else text

-- The texts of hosts, database and options, or the first escape at fault.
abbrev pub decoded_in : Part → Result Decoded UriFault
decoded_in body =
    read_each decoded (host_pieces body)
    >>= (λ hosts. decoded (db_part body)
    >>= (λ db. read_each said_in (option_pieces body)
    >>= (λ options. Ok (record { hosts = hosts; db = db_of db; options = options }))))

-- What a first name asks for is left out.
abbrev pub first_left : List (List ℕ) → Chosen → Result Chosen UriFault
first_left [] c = Ok c
first_left (name ∷ names) c = Err (fault.Left name)

-- What was chosen, unless it asks for what is left out: Unix domain sockets, and then the options that do, in their order.
abbrev pub none_left : List (List ℕ) → Chosen → Result Chosen UriFault
none_left hosts c = if list_any is_path hosts then Err (fault.Left (codes "unix")) else first_left c.left c

-- The settings, unless two things do not go together (URI Options, directConnection; Server Selection, Read Preference).
abbrev pub agreed : List Address → List ℕ → Chosen → Result Configuration UriFault
agreed hosts db c =
    if c.direct && nat_lt 1 (length hosts) then Err (fault.Clash clash.DirectMany)
    else (if has_tags_on_primary (preference_of c) then Err (fault.Clash clash.TagsOnPrimary) else Ok (configured hosts db c))

-- What the texts give.
abbrev pub settings_in : Decoded → Result Configuration UriFault
settings_in d = seeds_in d.hosts >>= (λ hosts. none_left d.hosts (chosen_of d.options) >>= (λ c. agreed hosts d.db c))

-- The settings, or the first fault: of the scheme, credentials, an escape, a host, something left out, a clash.
abbrev pub settings_of : List ℕ → Result Configuration UriFault
settings_of text = body_in text >>= (λ body. decoded_in body >>= (λ d. settings_in d))
