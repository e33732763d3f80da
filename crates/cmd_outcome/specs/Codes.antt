-- Which error codes tell that a server's state changed (SDAM, "not writable primary" and "node is recovering").
use Rattle.std.specs.Prelude.{ℤ, pos, Bool, List, [], ◌∷◌, ◌++◌, Option, None, Some, if◌then◌else◌}
use Rattle.std.specs.List.{list_any}
use Rattle.std.specs.Ordering.{int_eq}
use Rattle.cmd_outcome.specs.declared.reading.StateChange.{StateChange}

-- NotWritablePrimary, NotPrimaryNoSecondaryOk, LegacyNotPrimary (SDAM, "not writable primary").
abbrev pub NOT_WRITABLE : List ℤ
NOT_WRITABLE = pos 10107 ∷ pos 13435 ∷ pos 10058 ∷ []

-- InterruptedAtShutdown, InterruptedDueToReplStateChange, NotPrimaryOrSecondary, PrimarySteppedDown, ShutdownInProgress (SDAM,
-- "node is recovering").
abbrev pub RECOVERING : List ℤ
RECOVERING = pos 11600 ∷ pos 11602 ∷ pos 13436 ∷ pos 189 ∷ pos 91 ∷ []

-- InterruptedAtShutdown and ShutdownInProgress (SDAM, "node is shutting down").
abbrev pub SHUTTING_DOWN : List ℤ
SHUTTING_DOWN = pos 11600 ∷ pos 91 ∷ []

-- The code is one of these.
abbrev pub is_one_of : List ℤ → ℤ → Bool
is_one_of codes code = list_any (λ c. int_eq code c) codes

-- What a code says of the server's state; none where it is no state change error (SDAM, Error handling).
abbrev pub state_change_of : ℤ → Option StateChange
state_change_of code =
    if is_one_of (NOT_WRITABLE ++ RECOVERING) code
    then Some (record { code = code; shutdown = is_one_of SHUTTING_DOWN code })
    else None
