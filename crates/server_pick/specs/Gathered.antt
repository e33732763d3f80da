-- One more server among the candidates, where it passes.
use Rattle.std.specs.Prelude.{ℕ, Bool, if◌then◌else◌, List, [], ◌∷◌, ◌++◌}
use Rattle.host_name.specs.Addresses.{Address}
use Rattle.hello_reply.specs.declared.server_description.ServerDescription.{ServerDescription}
use Rattle.server_pick.specs.Candidates.{candidate_of}
use Rattle.server_pick.specs.declared.candidate.Candidate.{Candidate}

abbrev pub with_passing : (Address → ℕ) → (ServerDescription → Bool) → List Candidate → ServerDescription → List Candidate
with_passing load p cs d = if p d then cs ++ candidate_of load d ∷ [] else cs
