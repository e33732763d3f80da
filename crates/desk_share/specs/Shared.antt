-- What stays true of a client's desk, whoever drives it.
use Rattle.std.specs.Prelude.{◌≡◌, ◌≤◌, ◌^◌, ◌⊎◌, ℕ, ◌+◌, false, true, List, [], All, None, Some, length, slice_get}
use Rattle.bson_doc.specs.declared.ids.Lsid.{Lsid}
use Rattle.net_link.specs.Causes.{Rose}
use Rattle.entry_judge.specs.Groups.{entries_of}
use Rattle.entry_judge.specs.declared.timed.Timed.{Timed}
use Rattle.conn_uri.specs.Configurations.{plain_configuration}
use Rattle.sess_book.specs.Ids.{id_of}
use Rattle.desk_trail.specs.declared.step.Step.{Step}
use Rattle.desk_trail.specs.Clients.{Client}
use Rattle.desk_trail.specs.Facts.{Fact}
use Rattle.desk_trail.specs.Facts as fact
use Rattle.desk_trail.specs.Lanes.{RunInLanes}
use Rattle.legal_trail.specs.Recorded.{told_in}
use Rattle.drv_events.specs.declared.event.Event.{Event}
use Rattle.drv_events.specs.declared.hooks.HooksOf.{HooksOf}
use Rattle.trail_events.specs.Told.{told}
use Rattle.desk_core.specs.Appends.{TellsNone, tell_fault}
use Rattle.desk_core.specs.Nexts.{AreAnsweredAhead}
use Rattle.desk_core.specs.State.{Desk}
use Rattle.desk_hooks.specs.State.{HookedDesk}

-- ---- What a client began with

-- Its settings, its commands and its first moment; how many failed calls its net had counted; and how many listeners it was given,
-- those that left included.
pub record Opened : Type 0 where
  pub client : Client
  pub faults : ℕ
  pub listeners : ℕ

-- How many listeners there are and were.
abbrev pub listeners_in : {L : Type 0} → HooksOf L → ℕ
listeners_in hooks = hooks.left + length hooks.listeners.items

-- A desk as it is, as one that a client begins with. The member is the net's.
abbrev pub opened_by : {N P L : Type 0} → (N → ℕ) → HookedDesk N P L → Opened
opened_by faults h = record { client = h.desk.trail.client; faults = faults h.desk.net; listeners = listeners_in h.hooks }

-- A beginning where none is picked (own).
abbrev pub no_opening : Opened
no_opening = record { client = record { settings = plain_configuration [] None []; commands = []; began = 0 }; faults = 0; listeners = 0 }

-- ---- Lanes

-- The commands of each lane ran one after another.
abbrev pub AreInLanes : Client → List (Timed Fact) → Type 0
AreInLanes client ts = RunInLanes client.commands (entries_of ts)

-- ---- Moments

-- A moment is one that the clock's type shows, or the last one, 2^62 (own: no moment of a trail is later).
abbrev pub IsShown : (ℕ → Type 0) → ℕ → Type 0
IsShown shows moment = shows moment ⊎ (moment ≡ 2 ^ 62)

abbrev pub AreShown : (ℕ → Type 0) → List Step → Type 0
AreShown shows steps = All (λ (s : Step). IsShown shows s.moment) steps

-- A desk's moments are so: that at which its client began, that of each entry, and that of its last step.
pub record AreOfClock {N P : Type 0} (shows : ℕ → Type 0) (d : Desk N P) : Type 0 where
  pub began : IsShown shows d.trail.client.began
  pub steps : AreShown shows d.trail.steps
  pub last : IsShown shows d.last

-- ---- Words

-- A session's id is made of two words that the dice's type rolls (Driver Sessions: a session's id is random).
pub record IsRolledId (rolls : ℕ → Type 0) (lsid : Lsid) : Type 0 where
  pub c : ℕ
  pub d : ℕ
  pub rolled_c : rolls c
  pub rolled_d : rolls d
  pub made : lsid ≡ id_of c d

-- The words of an entry are ones that the dice's type rolls: both words of a look, and those of the id of a session that is leased
-- fresh (Server Selection, step 7; Driver Sessions).
abbrev pub IsRolled : (ℕ → Type 0) → Fact → Type 0
IsRolled rolls (fact.Looked op a b kept picked) = rolls a × rolls b
IsRolled rolls (fact.Leased op place lsid true) = IsRolledId rolls lsid
IsRolled rolls f = Unit {0}

abbrev pub AreRolled : (ℕ → Type 0) → List (Timed Fact) → Type 0
AreRolled rolls ts = All (λ (t : Timed Fact). IsRolled rolls t.what) ts

-- ---- Failed calls

-- A trail tells a failed call of the net only where the net's count of them rose, which never falls.
pub record AreOfNet (before now : ℕ) (steps : List Step) : Type 0 where
  pub later : before ≤ now
  pub told : tell_fault steps ≡ true → Rose before now

-- ---- Listeners

-- Each of these listeners heard exactly what was told, and nothing before.
abbrev pub HeardAll : {L : Type 0} → (L → List Event) → List (Timed Fact) → List L → Type 0
HeardAll heard_by ts listeners = All (λ l. heard_by l ≡ told ts) listeners

-- Each of these listeners heard nothing yet.
abbrev pub HeardNothing : {L : Type 0} → (L → List Event) → List L → Type 0
HeardNothing heard_by listeners = All (λ l. heard_by l ≡ []) listeners

-- ---- The client

-- A desk that a client begins with: no entry is of a command and none tells a failed call of the net; its moments are the clock's; and
-- its listeners heard just what its trail tells.
pub record Begins {N P L : Type 0} (shows : ℕ → Type 0) (heard_by : L → List Event) (h : HookedDesk N P L) : Type 0 where
  pub unstepped : TellsNone (told_in h.desk.trail)
  pub faultless : tell_fault h.desk.trail.steps ≡ false
  pub moments : AreOfClock shows h.desk
  pub heard : HeardAll heard_by (told_in h.desk.trail) h.hooks.listeners.items

-- What holds of a client's desk, whoever drives it. The members are those of the net, the clock, the dice and the listeners. Its client is
-- the one that it began with (`client`). The commands of each lane ran one after another (`lanes`). Its moments are the clock's, its
-- words the dice's (`moments`, `words`). It tells a failed call of the net only where the net's count rose since (`failures`). Each
-- listener that is still there heard exactly what its trail tells, and no listener is gone but those that left (`heard`, `counted`). That its
-- trail is legal, and what its net told, is the desk's own.
pub record IsShared {N P L : Type 0} (faults : N → ℕ) (shows rolls : ℕ → Type 0) (heard_by : L → List Event) (opened : Opened) (h : HookedDesk N P L) : Type 0 where
  pub client : h.desk.trail.client ≡ opened.client
  pub lanes : AreInLanes h.desk.trail.client (told_in h.desk.trail)
  pub moments : AreOfClock shows h.desk
  pub words : AreRolled rolls (told_in h.desk.trail)
  pub failures : AreOfNet opened.faults (faults h.desk.net) h.desk.trail.steps
  pub heard : HeardAll heard_by (told_in h.desk.trail) h.hooks.listeners.items
  pub counted : listeners_in h.hooks ≡ opened.listeners

-- Each lane is at least so far: the commands of it ahead of its place are answered.
abbrev pub AreSoFar : {N P : Type 0} → Desk N P → List ℕ → Type 0
AreSoFar d places = (lane place : ℕ) → slice_get places lane ≡ Some place → AreAnsweredAhead d.trail.client d.trail.point.state lane place
