-- The lines of a report (own: no standard has a report).
use Rattle.std.specs.Prelude.{ℕ, List, [], ◌∷◌, ◌++◌, codes, decimal}
use Rattle.std.specs.Fmt.{signed_decimal}
use Rattle.std.specs.List.{slice_get}
use Rattle.std.specs.Option.{option_map_or}
use Rattle.host_name.specs.Addresses.{Address, address_text}
use Rattle.write_retry.specs.declared.outcome.Outcome.{Outcome}
use Rattle.write_retry.specs.declared.outcome.Outcome.TheVariants as outcome

-- The host of that number, as `name:port`; nothing where there is none.
abbrev pub host_text : List Address → ℕ → List ℕ
host_text names host = option_map_or address_text (slice_get names host) []

-- The outcome in words.
abbrev pub said : List Address → Outcome → List ℕ
said names (outcome.Ok n modified) = codes "ok n=" ++ (signed_decimal n ++ (codes " modified=" ++ signed_decimal modified))
said names (outcome.Error code) = codes "error " ++ signed_decimal code
said names (outcome.WriteErrors count first) = codes "write-errors " ++ (decimal count ++ (codes " first=" ++ signed_decimal first))
said names (outcome.Concern code) = codes "concern " ++ signed_decimal code
said names outcome.Network = codes "network"
said names outcome.Late = codes "late"
said names (outcome.BadReply at) = codes "bad-reply " ++ decimal at
said names outcome.NoServer = codes "no-server"
said names (outcome.Incompatible host min max) =
    codes "incompatible " ++ (host_text names host ++ (codes " " ++ (signed_decimal min ++ (codes " " ++ signed_decimal max))))
said names outcome.PoolTimeout = codes "pool-timeout"
said names (outcome.PoolCleared generation) = codes "pool-cleared " ++ decimal generation
said names (outcome.PoolClosed host) = codes "pool-closed " ++ host_text names host
said names (outcome.TooLarge size most) = codes "too-large " ++ (decimal size ++ (codes " " ++ decimal most))

-- The line of an option that was ignored: its name, and LF.
abbrev pub ignored_line : List ℕ → List ℕ
ignored_line name = codes "ignored " ++ (name ++ 10 ∷ [])

-- A command's line: its number, its outcome and how many attempts it took, and LF.
abbrev pub line : List Address → ℕ → Outcome → ℕ → List ℕ
line names number o attempts =
    decimal number ++ (codes ": " ++ (said names o ++ (codes " attempts=" ++ (decimal attempts ++ 10 ∷ []))))

-- The last line: how many commands there are, and how many of them were carried out, and LF.
abbrev pub last_line : ℕ → ℕ → List ℕ
last_line count ok = codes "done " ++ (decimal count ++ (codes " ok " ++ (decimal ok ++ 10 ∷ [])))
