-- What private functions say of a look, and of the checks that are read ahead of one (Server Selection).
use Rattle.std.specs.Prelude.{◌≡◌, ◌≢◌, ◌<◌, ◌⊎◌, ℕ, Bool, false, List, ◌∷◌, ◌++◌, None, Some, slice_get}
use Rattle.server_pick.specs.declared.candidate.Candidate.{Candidate}
use Rattle.write_retry.specs.declared.events.Next.TheVariants as next
use Rattle.desk_trail.specs.declared.entry.Entry.TheVariants as entry
use Rattle.desk_trail.specs.declared.entry.LookedHow.{LookedHow}
use Rattle.desk_trail.specs.declared.entry.LookedHow.TheVariants as looked
use Rattle.desk_trail.specs.declared.step.Step.{Step}
use Rattle.desk_trail.specs.Clients.{Client}
use Rattle.desk_trail.specs.Facts.{facts_of}
use Rattle.desk_trail.specs.Legal.{point_behind}
use Rattle.desk_trail.specs.Looks.{deadline, first_look}
use Rattle.desk_trail.specs.States.{ClientState, CommandState, Selection, ServerState}
use Rattle.desk_trail.specs.Written.{step_of}
use Rattle.legal_trail.specs.Recorded.{Recorded}
use Rattle.desk_core.specs.Appends.{AppendsOf, NamesNone}
use Rattle.desk_core.specs.Picks.{IsPicked}
use Rattle.desk_core.specs.declared.progress.Progress.{Progress}
use Rattle.desk_core.specs.declared.progress.Progress.TheVariants as progress

-- A command looked ahead of its selection's deadline, which goes on since the same first look; and a server is to be looked for still.
pub record StillSelects (client : Client) (moment : ℕ) (old new : CommandState) : Type 0 where
  pub selection : Selection
  pub goes_on : new.selection ≡ Some selection
  pub first : selection.first ≡ first_look old moment
  pub selects : new.op.next ≡ next.Select
  pub ahead : moment < deadline client old moment

-- A look that found none is answered by waiting, every other by going on in the step (own: the answers).
abbrev pub IsAnswerOf : Progress → LookedHow → Type 0
IsAnswerOf progress.Done how = how ≢ looked.NoneFits
IsAnswerOf (progress.Wait until) how = how ≡ looked.NoneFits
IsAnswerOf progress.Again how = ⊥

-- A trail goes on to another by a look of the client's command of that number, with these words: ahead of it other entries may have
-- come, but none ahead of the selection's deadline; what it kept is what the picker allowed, by the client there; it is answered so;
-- and what must follow it came behind it (Server Selection, Server Selection Algorithm).
pub record HasLooked {P : Type 0} (allows : P → Candidate → Bool) (follows : P → Candidate → P → Type 0) (failed : Type 0) (moment op a b : ℕ)
    (c : CommandState) (old new : Recorded) (p q : P) (answer : Progress) : Type 0 where
  pub ahead : Recorded
  pub early : moment < deadline old.client c moment → ahead ≡ old
  pub grows : AppendsOf failed NamesNone moment old ahead
  pub leads : ahead.point ≡ point_behind ahead.client (facts_of ahead.lists ahead.steps)
  pub kept : List ℕ
  pub how : LookedHow
  pub rest : List Step
  pub steps : new.steps ≡ ahead.steps ++ step_of moment (entry.Looked op a b kept how) ∷ rest
  pub picked : IsPicked allows follows ahead.client ahead.point.state op c p kept q
  pub answers : IsAnswerOf answer how

-- The check of a server was read: none is due or runs, or one runs that was seen without an answer then (Server Selection,
-- serverSelectionTimeoutMS).
abbrev pub IsRead : ClientState → (moment host : ℕ) → Type 0
IsRead w moment host =
    (s : ServerState) → slice_get w.servers host ≡ Some s → s.has_left ≡ false →
    ((s.checks.began ≡ None) × (moment < s.checks.due)) ⊎ (s.dry ≡ Some moment)
