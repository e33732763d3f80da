-- What the answer of a command's step means (Server Selection; CMAP, Checking Out a Connection; URI Options).
use Rattle.std.specs.Prelude.{◌≡◌, ◌≢◌, ◌<◌, ◌⊎◌, ℕ, ◌+◌, true, List, ◌∷◌, ◌++◌, Some, slice_get}
use Rattle.bson_doc.specs.declared.ids.Lsid.{Lsid}
use Rattle.pool_book.specs.Answers.{IsWaitLimit, MustWait}
use Rattle.write_retry.specs.declared.events.Next.TheVariants as next
use Rattle.sess_book.specs.Ids.{id_of}
use Rattle.sess_step.specs.Moves.{IsRepeated}
use Rattle.desk_trail.specs.declared.entry.Entry.TheVariants as entry
use Rattle.desk_trail.specs.declared.entry.LookedHow.{LookedHow}
use Rattle.desk_trail.specs.declared.entry.LookedHow.TheVariants as looked
use Rattle.desk_trail.specs.declared.step.Step.{Step}
use Rattle.desk_trail.specs.Attempts.{AtCommand}
use Rattle.desk_trail.specs.Clients.{Client, connect_limit, socket_limit}
use Rattle.desk_trail.specs.Leases.{is_at_choice}
use Rattle.desk_trail.specs.Looks.{deadline}
use Rattle.desk_trail.specs.States.{ClientState, CommandState, Dials, Selection, ServerState, Waits}
use Rattle.desk_trail.specs.Written.{step_of}
use Rattle.legal_trail.specs.Recorded.{Recorded}
use Rattle.desk_core.specs.declared.words.Words.{Words}
use Rattle.desk_core.specs.declared.sight.Sight.{Sight}
use Rattle.desk_core.specs.declared.sight.Sight.TheVariants as sight
use Rattle.desk_core.specs.declared.progress.Progress.{Progress}
use Rattle.desk_core.specs.declared.progress.Progress.TheVariants as progress

-- What a command waits for, and until when: for a suitable server, until its selection's deadline (Server Selection,
-- serverSelectionTimeoutMS); for a connection, in the line of a pool that has none for it, until its limit there (CMAP, WaitQueue,
-- waitQueueTimeoutMS); for the greeting of a connection that it dialled, until connectTimeoutMS after that; for the reply to its request,
-- until socketTimeoutMS after that was queued (URI Options).
pub data WaitsUntil (client : Client) (w : ClientState) (moment until : ℕ) (c : CommandState) : Type 0 where
  for_server : (s : Selection) → c.op.next ≡ next.Select → c.selection ≡ Some s → until ≡ deadline client c moment → WaitsUntil client w moment until c
  in_line : (host ticket : ℕ) (s : ServerState) → c.check_out ≡ Waits host ticket → slice_get w.servers host ≡ Some s →
      MustWait s.pool.state moment ticket → IsWaitLimit s.pool.state ticket until → WaitsUntil client w moment until c
  for_greeting : (host ticket conn dialled : ℕ) → c.check_out ≡ Dials host ticket conn → c.dialled ≡ Some dialled → until ≡ dialled + connect_limit client →
      WaitsUntil client w moment until c
  for_reply : (asked : ℕ) → c.op.next ≡ next.Read → c.asked ≡ Some asked → until ≡ asked + socket_limit client → WaitsUntil client w moment until c

-- A command waits until a moment that is still to come.
pub record IsWaiting (client : Client) (w : ClientState) (moment until : ℕ) (c : CommandState) : Type 0 where
  pub for_what : WaitsUntil client w moment until c
  pub later : moment < until

-- A command that chose a server finds no session to lease, by the id that a new one would have: it is to lease one by other words (own).
abbrev pub IsToLease : ClientState → ℕ → Lsid → CommandState → Type 0
IsToLease w moment own c = (is_at_choice c.op.next ≡ true) × IsRepeated w.sessions moment c own

-- Among what was appended to a trail is a look of the command, with these words, that did not leave it to wait for a server.
pub record HasFound (moment op a b : ℕ) (old new : Recorded) : Type 0 where
  pub ahead : List Step
  pub kept : List ℕ
  pub how : LookedHow
  pub rest : List Step
  pub steps : new.steps ≡ old.steps ++ (ahead ++ step_of moment (entry.Looked op a b kept how) ∷ rest)
  pub found : how ≢ looked.NoneFits

-- A command that looked in this step, and not in vain, is to look once more: so its attempt ended behind that look, and a further one may
-- follow (Retryable Writes, Executing Retryable Write Commands).
pub record IsToLookAgain (moment op : ℕ) (words : Words) (old new : Recorded) : Type 0 where
  pub selects : AtCommand new.point.state op (λ c. c.op.next ≡ next.Select)
  pub found : HasFound moment op words.a words.b old new

-- What the answer of a command's step means: answered, it was; to wait, it waits until then; again, its next step goes on at once, to
-- lease a session by other words, or to look for a server once more.
abbrev pub MeansStep : (moment op : ℕ) → Words → (old new : Recorded) → Sight → Type 0
MeansStep moment op words old new sight.Answered = AtCommand new.point.state op (λ c. c.is_finished ≡ true)
MeansStep moment op words old new (sight.Wait until) = AtCommand new.point.state op (IsWaiting new.client new.point.state moment until)
MeansStep moment op words old new sight.Again =
    AtCommand new.point.state op (IsToLease new.point.state moment (id_of words.c words.d)) ⊎ IsToLookAgain moment op words old new

-- ---- What only private functions cite

-- The same of a step so far in which the command did not look.
abbrev pub MeansGoing : (moment op : ℕ) → Lsid → Recorded → Sight → Type 0
MeansGoing moment op own new sight.Answered = AtCommand new.point.state op (λ c. c.is_finished ≡ true)
MeansGoing moment op own new (sight.Wait until) = AtCommand new.point.state op (IsWaiting new.client new.point.state moment until)
MeansGoing moment op own new sight.Again = AtCommand new.point.state op (IsToLease new.point.state moment own)

-- What the answer of one phase of a step means: done, its command goes on in this step. Of a phase that leases no session it is never to go
-- on at the next one.
abbrev pub MeansPhase : Client → ClientState → ℕ → CommandState → Progress → Type 0
MeansPhase client w moment c progress.Done = Unit {0}
MeansPhase client w moment c (progress.Wait until) = IsWaiting client w moment until c
MeansPhase client w moment c progress.Again = ⊥

-- The same of phases that may lease one.
abbrev pub MeansEntry : Client → ClientState → ℕ → Lsid → CommandState → Progress → Type 0
MeansEntry client w moment own c progress.Done = Unit {0}
MeansEntry client w moment own c (progress.Wait until) = IsWaiting client w moment until c
MeansEntry client w moment own c progress.Again = IsToLease w moment own c
