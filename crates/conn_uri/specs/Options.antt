-- The table of options (URI Options, the table of options; own: the bounds, and what is left out).
use Rattle.std.specs.Prelude.{ℕ, Bool, true, not, if◌then◌else◌, List, [], ◌∷◌, ◌++◌, Option, None, Some, find, filter, codes}
use Rattle.std.specs.Option.{option_map}
use Rattle.bson_doc.specs.Documents.{is_text}
use Rattle.read_pref.specs.Modes.{mode_named}
use Rattle.conn_uri.specs.Values.{any_value, some_text, truth, whole_from, limit, tags_in}
use Rattle.conn_uri.specs.declared.chosen.Chosen.{Chosen}
use Rattle.conn_uri.specs.declared.uri_option.UriOption.{UriOption}
use Rattle.conn_uri.specs.declared.uri_option.UriOption.TheVariants as option

-- An option's name in lower case, and what a value of it makes of what was chosen; none where the value does not read.
pub record Row : Type 0 where
  pub name : List ℕ
  pub takes : List ℕ → Chosen → Option Chosen

-- The name, the reader of the value, and what the value sets.
abbrev pub row : {A : Type 0} → List ℕ → (List ℕ → Option A) → (A → Chosen → Chosen) → Row
row name reader sets = record { name = name; takes = λ text c. option_map (λ x. sets x c) (reader text) }

-- The names of options that ask, behind one more value of an option.
abbrev pub asking : List ℕ → Bool → List (List ℕ) → List (List ℕ)
asking name asks names = filter (λ n. not (is_text n name)) names ++ (if asks then name ∷ [] else [])

-- The option asks for something that is left out, or, as its value says, does not; the last value counts.
abbrev pub asked : List ℕ → Bool → Chosen → Chosen
asked name asks c = record c { left = asking name asks c.left }

-- An option that is left out, with what its value asks for.
abbrev pub left_row : {A : Type 0} → List ℕ → (List ℕ → Option A) → (A → Bool) → Row
left_row name reader wants = row name reader (λ x. asked name (wants x))

-- The table: an option is a line. Of several values the last counts, and tag sets add up (own).
abbrev pub table : UriOption → Row
table option.ReplicaSet = row (codes "replicaset") some_text (λ t c. record c { set_name = Some t })
table option.DirectConnection = row (codes "directconnection") truth (λ b c. record c { direct = b })
table option.RetryWrites = row (codes "retrywrites") truth (λ b c. record c { retry_writes = b })
table option.ConnectTimeoutMs = row (codes "connecttimeoutms") limit (λ n c. record c { connect_ms = n })
table option.SocketTimeoutMs = row (codes "sockettimeoutms") limit (λ n c. record c { socket_ms = n })
table option.ServerSelectionTimeoutMs = row (codes "serverselectiontimeoutms") (whole_from 1) (λ n c. record c { select_ms = n })
table option.WaitQueueTimeoutMs = row (codes "waitqueuetimeoutms") (whole_from 1) (λ n c. record c { wait_ms = n })
table option.HeartbeatFrequencyMs = row (codes "heartbeatfrequencyms") (whole_from 500) (λ n c. record c { beat_ms = n })
table option.LocalThresholdMs = row (codes "localthresholdms") (whole_from 0) (λ n c. record c { threshold_ms = n })
table option.MaxIdleTimeMs = row (codes "maxidletimems") (whole_from 0) (λ n c. record c { idle_ms = n })
table option.MaxPoolSize = row (codes "maxpoolsize") limit (λ n c. record c { max_pool = n })
table option.MaxConnecting = row (codes "maxconnecting") (whole_from 1) (λ n c. record c { max_connecting = n })
table option.ReadPreference = row (codes "readpreference") mode_named (λ m c. record c { mode = m })
table option.ReadPreferenceTags = row (codes "readpreferencetags") tags_in (λ ts c. record c { tag_sets = c.tag_sets ++ ts ∷ [] })
table option.Tls = left_row (codes "tls") truth (λ b. b)
table option.Ssl = left_row (codes "ssl") truth (λ b. b)
table option.LoadBalanced = left_row (codes "loadbalanced") truth (λ b. b)
table option.Compressors = left_row (codes "compressors") any_value (λ _. true)
table option.AuthMechanism = left_row (codes "authmechanism") any_value (λ _. true)
table option.W = left_row (codes "w") any_value (λ v. not (is_text (codes "majority") v))
table option.Journal = left_row (codes "journal") truth (λ b. b)

-- The options of the table.
abbrev pub options : List UriOption
options =
    option.ReplicaSet ∷ option.DirectConnection ∷ option.RetryWrites ∷ option.ConnectTimeoutMs ∷ option.SocketTimeoutMs
    ∷ option.ServerSelectionTimeoutMs ∷ option.WaitQueueTimeoutMs ∷ option.HeartbeatFrequencyMs ∷ option.LocalThresholdMs
    ∷ option.MaxIdleTimeMs ∷ option.MaxPoolSize ∷ option.MaxConnecting ∷ option.ReadPreference ∷ option.ReadPreferenceTags
    ∷ option.Tls ∷ option.Ssl ∷ option.LoadBalanced ∷ option.Compressors ∷ option.AuthMechanism ∷ option.W ∷ option.Journal ∷ []

-- The option's name.
unfoldable pub name_of : UriOption → List ℕ
name_of o = (table o).name

-- What a value of the option makes of what was chosen.
unfoldable pub taken : UriOption → List ℕ → Chosen → Option Chosen
taken o = (table o).takes

-- The option of a name in lower case, none where no option has it.
abbrev pub option_named : List ℕ → Option UriOption
option_named name = find (λ o. is_text (name_of o) name) options
