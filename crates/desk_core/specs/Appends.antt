-- What a step does to a trail.
use Rattle.std.specs.Prelude.{◌≡◌, ℕ, Bool, true, false, List, ◌++◌, All}
use Rattle.std.specs.List.{list_any}
use Rattle.bson_doc.specs.declared.ids.Lsid.{Lsid}
use Rattle.entry_judge.specs.declared.timed.Timed.{Timed}
use Rattle.sess_book.specs.Ids.{id_of}
use Rattle.desk_trail.specs.declared.step.Step.{Step}
use Rattle.desk_trail.specs.Facts.{Fact}
use Rattle.desk_trail.specs.Facts as fact
use Rattle.desk_trail.specs.Lanes.{is_of_command}
use Rattle.desk_trail.specs.States.{ClientState}
use Rattle.legal_trail.specs.Recorded.{Recorded, told_in}
use Rattle.wired_trail.specs.Faults.{tells_fault}
use Rattle.desk_core.specs.declared.words.Words.{Words}

-- All that stood in a list stands there still, in the same order.
pub record IsLonger {A : Type 0} (old new : List A) : Type 0 where
  pub more : List A
  pub grows : new ≡ old ++ more

-- Some of these steps tells that a call of the net failed.
abbrev pub tell_fault : List Step → Bool
tell_fault steps = list_any (λ (s : Step). tells_fault s.entry) steps

-- Steps of one moment, none of which tells a failed call of the net.
pub record AreQuiet (moment : ℕ) (steps : List Step) : Type 0 where
  pub moments : All (λ (s : Step). s.moment ≡ moment) steps
  pub faultless : tell_fault steps ≡ false

-- A trail is only appended to: what is appended has that moment, and tells a failed call of the net only where one failed.
pub record Appends (failed : Type 0) (moment : ℕ) (old new : Recorded) : Type 0 where
  pub client : new.client ≡ old.client
  pub added : List Step
  pub steps : new.steps ≡ old.steps ++ added
  pub moments : All (λ (s : Step). s.moment ≡ moment) added
  pub faults : tell_fault added ≡ true → failed
  pub names : IsLonger old.lists.names new.lists.names
  pub events : IsLonger old.lists.events new.lists.events
  pub sessions : IsLonger old.lists.sessions new.lists.sessions
  pub requests : IsLonger old.lists.requests new.lists.requests

-- ---- Whose entries they are

-- An entry is of no command but this one; and of none at all.
abbrev pub NamesOnly : ℕ → Fact → Type 0
NamesOnly op f = (o : ℕ) → is_of_command o f ≡ true → o ≡ op

abbrev pub NamesNone : Fact → Type 0
NamesNone f = (o : ℕ) → is_of_command o f ≡ false

-- A look is by these two words (Server Selection, step 7: two random choices).
abbrev pub LooksBy : (a b : ℕ) → Fact → Type 0
LooksBy a b (fact.Looked op x y kept picked) = (x ≡ a) × (y ≡ b)
LooksBy a b f = Unit {0}

-- A session that is leased fresh has this id (Driver Sessions: a session's id is random).
abbrev pub LeasesBy : Lsid → Fact → Type 0
LeasesBy own (fact.Leased op place lsid true) = lsid ≡ own
LeasesBy own f = Unit {0}

-- So are the entries that a step of a command appends.
pub record IsBy (op a b : ℕ) (own : Lsid) (f : Fact) : Type 0 where
  pub names : NamesOnly op f
  pub looks : LooksBy a b f
  pub leases : LeasesBy own f

-- Facts of a trail stand there still, and those behind them are all of this kind.
pub record Tells (says : Fact → Type 0) (old new : List (Timed Fact)) : Type 0 where
  pub more : List (Timed Fact)
  pub facts : new ≡ old ++ more
  pub each : All (λ (t : Timed Fact). says t.what) more

-- What is appended and is of a command is of this one, each look is by the words a and b, and each fresh session has the id of the words
-- c and d.
abbrev pub TellsOf : ℕ → Words → (old new : Recorded) → Type 0
TellsOf op words old new = Tells (IsBy op words.a words.b (id_of words.c words.d)) (told_in old) (told_in new)

-- No entry is of a command.
abbrev pub TellsNone : List (Timed Fact) → Type 0
TellsNone ts = All (λ (t : Timed Fact). NamesNone t.what) ts

-- What is appended is of no command.
abbrev pub TellsAside : (old new : Recorded) → Type 0
TellsAside old new = Tells NamesNone (told_in old) (told_in new)

-- ---- What only private functions cite

-- A client's commands and sessions are as they were.
pub record KeepsCommands (old new : ClientState) : Type 0 where
  pub commands : new.commands ≡ old.commands
  pub sessions : new.sessions ≡ old.sessions

-- An entry is of this command, and so whatever the words are: it is no look and no fresh session; so but for a look, or but for a session.
abbrev pub IsOfOp : ℕ → Fact → Type 0
IsOfOp op f = (a b : ℕ) → (own : Lsid) → IsBy op a b own f

abbrev pub IsOfLook : (op a b : ℕ) → Fact → Type 0
IsOfLook op a b f = (own : Lsid) → IsBy op a b own f

abbrev pub IsOfLease : ℕ → Lsid → Fact → Type 0
IsOfLease op own f = (a b : ℕ) → IsBy op a b own f

-- A trail is only appended to, and what is appended is of this kind.
pub record AppendsOf (failed : Type 0) (says : Fact → Type 0) (moment : ℕ) (old new : Recorded) : Type 0 where
  pub appends : Appends failed moment old new
  pub tells : Tells says (told_in old) (told_in new)

-- A trail is only appended to, and its client's commands and sessions stay as they are, and so do the ids of these: by entries of
-- checks, and of the topology and its pools, of which none is of a command.
pub record AppendsAside (failed : Type 0) (moment : ℕ) (old new : Recorded) : Type 0 where
  pub appends : AppendsOf failed NamesNone moment old new
  pub aside : KeepsCommands old.point.state new.point.state
  pub ids : new.lists.sessions ≡ old.lists.sessions
