-- What the answer of a check's step means (Server Monitoring).
use Rattle.std.specs.Prelude.{◌≡◌, ◌<◌, ℕ, ◌+◌, false, None, Some, slice_get}
use Rattle.desk_trail.specs.Checks.{AtServer, Runs}
use Rattle.desk_trail.specs.Clients.{Client, connect_limit}
use Rattle.desk_trail.specs.States.{ClientState, ServerState}
use Rattle.desk_core.specs.declared.sight.Sight.{Sight}
use Rattle.desk_core.specs.declared.sight.Sight.TheVariants as sight

-- No check of the server is due or runs: no server of that number stands in the topology, or its check does not run and is due
-- only later (Server Monitoring).
abbrev pub IsAtRest : ClientState → (moment host : ℕ) → Type 0
IsAtRest w moment host =
    (s : ServerState) → slice_get w.servers host ≡ Some s → s.has_left ≡ false → (s.checks.began ≡ None) × (moment < s.checks.due)

-- A check of the server runs whose answer is waited for until that moment, which is still to come: connectTimeoutMS after it
-- began (Server Monitoring).
abbrev pub IsAwaited : Client → ClientState → (moment host until : ℕ) → Type 0
IsAwaited client w moment host until =
    AtServer w host (λ s. (began : ℕ) × Runs began s × (until ≡ began + connect_limit client)) × (moment < until)

-- What the answer of a check's step means (own): answered, none of the server is due or runs; to wait, one runs, whose answer is
-- waited for until then; it is never to go on at once.
abbrev pub MeansCheck : Client → ClientState → (moment host : ℕ) → Sight → Type 0
MeansCheck client w moment host sight.Answered = IsAtRest w moment host
MeansCheck client w moment host (sight.Wait until) = IsAwaited client w moment host until
MeansCheck client w moment host sight.Again = ⊥
