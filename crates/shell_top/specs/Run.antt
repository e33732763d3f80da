-- What a run says by its status, its trail and its output.
use Rattle.std.specs.Prelude.{◌≡◌, ◌<◌, ◌⊎◌, ℕ, Bool, true, false, List, [], ◌++◌, length, Result, Ok, Err}
use Rattle.std.specs.List.{list_all}
use Rattle.net_link.specs.Causes.{HasCause}
use Rattle.net_link.specs.Prefix.{IsPrefixOf}
use Rattle.net_link.specs.declared.event.NetEvent.{NetEvent}
use Rattle.entry_judge.specs.declared.timed.Timed.{Timed}
use Rattle.cmd_build.specs.declared.command.Command.{Command}
use Rattle.conn_uri.specs.Configurations.{Configuration}
use Rattle.run_words.specs.declared.fault.UseFault.{UseFault}
use Rattle.run_words.specs.declared.fault.UseFault.TheVariants as use_fault
use Rattle.script_text.specs.Scripts.{script_reading}
use Rattle.script_text.specs.declared.fault.ScriptFault.{ScriptFault}
use Rattle.desk_trail.specs.declared.trail.Trail.{Trail}
use Rattle.desk_trail.specs.Clients.{Client}
use Rattle.desk_trail.specs.Facts.{Fact}
use Rattle.desk_trail.specs.Legal.{IsComplete, IsLegal, point_behind}
use Rattle.desk_trail.specs.Written.{lists_of}
use Rattle.desk_core.specs.Ending.{ArePoolsShut}
use Rattle.drv_events.specs.declared.event.Event.{Event}
use Rattle.drv_events.specs.declared.hooks.HooksOf.{HooksOf}
use Rattle.desk_share.specs.Closed.{told_by}
use Rattle.desk_share.specs.Shared.{AreInLanes, AreOfNet, AreRolled, AreShown, HeardAll, IsShown, Opened, listeners_in}
use Rattle.shell_top.specs.Report.{is_ok_tally, report}
use Rattle.wired_trail.specs.Faults.{IsCounted}
use Rattle.wired_trail.specs.Wired.{IsWired}
use Rattle.write_effects.specs.Each.{EachTakesEffectOnce}
use Rattle.trail_tally.specs.Tallies.{AreAnswered, tallies_of}
use Rattle.shell_top.specs.declared.status.Given.{Given}
use Rattle.shell_top.specs.declared.status.Status.{Status}
use Rattle.shell_top.specs.declared.status.Status.TheVariants as status

-- The words were refused.
abbrev pub IsUsage : Status → Type 0
IsUsage (status.Usage fault) = Unit {0}
IsUsage _ = ⊥

-- The run ended before its first command: the words or the script were refused, or the script could not be read.
abbrev pub IsIdle : Status → Type 0
IsIdle (status.Usage fault) = Unit {0}
IsIdle (status.Script fault) = Unit {0}
IsIdle status.ReadFault = Unit {0}
IsIdle _ = ⊥

-- Words with that fault are refused for it. Where a connection string is at fault, memory may have been wanting before that was seen.
abbrev pub RefusesWords : UseFault → Status → Type 0
RefusesWords (use_fault.Uri first) s = (s ≡ status.Usage (use_fault.Uri first)) ⊎ (s ≡ status.Memory)
RefusesWords fault s = s ≡ status.Usage fault

-- Every command was run.
abbrev pub IsDone : Status → Type 0
IsDone status.AllOk = Unit {0}
IsDone status.SomeFailed = Unit {0}
IsDone status.WriteFault = Unit {0}
IsDone _ = ⊥

-- The words and the script were read.
abbrev pub IsReached : Status → Type 0
IsReached status.AllOk = Unit {0}
IsReached status.SomeFailed = Unit {0}
IsReached status.WriteFault = Unit {0}
IsReached status.Memory = Unit {0}
IsReached _ = ⊥

-- ---- The script

-- Some text says that; where the source tells, it is the source's.
pub record Tells (tells : Type 0) (source : List ℕ) (read : Result (List Command) ScriptFault) : Type 0 where
  pub text : List ℕ
  pub says : script_reading text ≡ read
  pub of_source : tells → script_reading source ≡ read

-- A refused script is at fault there.
abbrev pub IsScripts : Type 0 → List ℕ → Status → Type 0
IsScripts tells source (status.Script fault) = Tells tells source (Err fault)
IsScripts tells source _ = Unit {0}

-- A script with that fault is refused for it, unless it was not read.
abbrev pub Refuses : ScriptFault → Status → Type 0
Refuses fault (status.Usage other) = Unit {0}
Refuses fault (status.Script told) = told ≡ fault
Refuses fault status.ReadFault = Unit {0}
Refuses fault status.Memory = Unit {0}
Refuses fault _ = ⊥

-- What a run says of the script. The members are those of the source.
-- A script that is at fault, and it alone, is refused, for its first fault (`refused`, `in_script`); a failure to read it is
-- the source's (`cause`); where every command was run, the script was read to its end (`whole`).
pub record ReadsScript {A : Type 0} (tells : Type 0) (left : A → List ℕ) (faults : A → ℕ) (old new : A) (s : Status) : Type 0 where
  pub refused : IsScripts tells (left old) s
  pub in_script : tells → (fault : ScriptFault) → script_reading (left old) ≡ Err fault → Refuses fault s
  pub cause : HasCause (faults old) (faults new) (s ≡ status.ReadFault)
  pub whole : tells → IsDone s → left new ≡ []

-- ---- The client

-- No entry, and nothing that one could name.
abbrev pub no_trail : Trail
no_trail = record { names = []; events = []; sessions = []; requests = []; steps = [] }

-- What a net's history says of what a client did: each reply, failure and dial of the trail is the net's (`wired`); and where it is a
-- history that honest members may have, each command took effect at most once, and a write that was answered ok exactly once (`once`).
pub record IsOfNet (history : List NetEvent) (client : Client) (told : List (Timed Fact)) : Type 0 where
  pub wired : IsWired client history told
  pub once : EachTakesEffectOnce client told history

-- What a client did in a run, by what it began with. The members are those of the clock, the dice, the net and the listeners.
-- Its trail is legal (`legal`), so at each look for a server the topology is that of the events that were accepted, each connection
-- that is checked out has one borrower and the pool's current generation, and each answer is the verdict on its command's attempts, by
-- the laws of legal trails. Where every command was run it is complete (`complete`), each pool is closed (`shut`), and each command was
-- answered (`answered`). It fits what the net told (`of_net`, by the test `fits`). The commands of each lane ran one after another
-- (`lanes`). Its moments are the clock's (`began`, `moments`), its words the dice's (`words`). It tells a failed call of the net only
-- where the net's count of faults rose, which never falls (`failures`), and at most as many as the net counted (`counted`). Each listener
-- that is handed back heard exactly what the trail tells (`heard`); those that are not left, and are counted (`listeners`).
pub record Did {A L : Type 0} (shows rolls : ℕ → Type 0) (faults : A → ℕ) (heard_by : L → List Event) (fits : Client → List (Timed Fact) → Type 0)
    (opened : Opened) (new : A) (hooks : HooksOf L) (s : Status) (trail : Trail) : Type 0 where
  pub began : IsShown shows opened.client.began
  pub legal : IsLegal opened.client (lists_of trail) trail.steps
  pub of_net : fits opened.client (told_by trail)
  pub complete : IsDone s → IsComplete opened.client (lists_of trail) trail.steps
  pub shut : IsDone s → ArePoolsShut (point_behind opened.client (told_by trail)).state
  pub answered : IsDone s → AreAnswered opened.client.commands trail.steps
  pub lanes : AreInLanes opened.client (told_by trail)
  pub moments : AreShown shows trail.steps
  pub words : AreRolled rolls (told_by trail)
  pub failures : AreOfNet opened.faults (faults new) trail.steps
  pub counted : IsCounted (faults new) trail.steps
  pub heard : HeardAll heard_by (told_by trail) hooks.listeners.items
  pub listeners : listeners_in hooks ≡ opened.listeners

-- ---- The report

-- Each of the commands was carried out.
abbrev pub all_ok : Client → Trail → Bool
all_ok client trail = list_all is_ok_tally (tallies_of client.commands trail.steps)

-- The status is the lines' verdict: all are ok, or one is not.
abbrev pub Shows : Status → Bool → Type 0
Shows status.AllOk ok = ok ≡ true
Shows status.SomeFailed ok = ok ≡ false
Shows _ ok = Unit {0}

-- A front of the report was written, and not all of it.
pub record WritesPart (whole old new : List ℕ) : Type 0 where
  pub written : List ℕ
  pub appended : new ≡ old ++ written
  pub front : IsPrefixOf written whole
  pub part : length written < length whole

-- What was written: the report, or a prefix of it where writing failed; nothing where there is no report.
abbrev pub Writes : Status → (whole old new : List ℕ) → Type 0
Writes status.AllOk whole old new = new ≡ old ++ whole
Writes status.SomeFailed whole old new = new ≡ old ++ whole
Writes status.WriteFault whole old new = WritesPart whole old new
Writes _ whole old new = new ≡ old

-- What a run says of its report. The members are those of the sink.
-- The status is the lines' verdict (`verdict`), and what was written is the report of the trail (`written`).
pub record Reports {A : Type 0} (tells : Type 0) (written_to : A → List ℕ) (old new : A) (client : Client) (s : Status) (trail : Trail) : Type 0 where
  pub verdict : Shows s (all_ok client trail)
  pub written : tells → Writes s (report client trail) (written_to old) (written_to new)

-- ---- A whole run

-- The client of a run: of the settings that the words give and the commands of the script.
pub record IsClient (tells : Type 0) (source : List ℕ) (asked : Configuration) (client : Client) : Type 0 where
  pub settings : client.settings ≡ asked
  pub commands : Tells tells source (Ok client.commands)

-- Nothing was done: what was given is as it was, the trail is empty, and nothing was written.
pub record IsNothing {A B : Type 0} (given given_back : A) (left : Trail) (out_tells : Type 0) (written_to : B → List ℕ) (old new : B) : Type 0 where
  pub same : given_back ≡ given
  pub trail : left ≡ no_trail
  pub written : out_tells → written_to new ≡ written_to old

-- What is given, by its parts.
abbrev pub given_of : {A P L : Type 0} → A → P → HooksOf L → Given A P L
given_of net picker hooks = record { net = net; picker = picker; hooks = hooks }

-- The script's commands were run by a client of what was asked for, which did that, and were reported so.
pub record RunsAll {A B P L : Type 0} (source_tells : Type 0) (source : List ℕ) (asked : Configuration) (shows rolls : ℕ → Type 0) (faults : A → ℕ)
    (heard_by : L → List Event) (fits : Client → List (Timed Fact) → Type 0) (given given_back : Given A P L)
    (out_tells : Type 0) (written_to : B → List ℕ) (old new : B) (s : Status) (trail : Trail) : Type 0 where
  pub client : Client
  pub of_words : IsClient source_tells source asked client
  pub did : Did shows rolls faults heard_by fits (record { client = client; faults = faults given.net; listeners = listeners_in given.hooks }) given_back.net given_back.hooks s trail
  pub reports : Reports out_tells written_to old new client s trail

-- A run that read its words, and did not end before its first command: so it ran; or memory was wanting, and nothing was done.
abbrev pub Runs : {A B P L : Type 0} → Type 0 → List ℕ → Configuration → (ℕ → Type 0) → (ℕ → Type 0) → (A → ℕ) → (L → List Event) → (Client → List (Timed Fact) → Type 0) →
    (given given_back : Given A P L) → Type 0 → (B → List ℕ) → (old new : B) → Status → Trail → Type 0
Runs source_tells source asked shows rolls faults heard_by fits given given_back out_tells written_to old new s trail =
    RunsAll source_tells source asked shows rolls faults heard_by fits given given_back out_tells written_to old new s trail
    ⊎ ((s ≡ status.Memory) × IsNothing given given_back trail out_tells written_to old new)

-- The number that the program ends with.
-- own: as the statuses of the command line are told.
abbrev pub exit_code : Status → ℕ
exit_code status.AllOk = 0
exit_code status.SomeFailed = 1
exit_code (status.Usage fault) = 2
exit_code (status.Script fault) = 3
exit_code status.ReadFault = 4
exit_code status.WriteFault = 5
exit_code status.Memory = 6

-- ---- What only private functions cite

-- Commands were run by a client with those settings, which did that, and were reported so.
pub record RunsClient {A B P L : Type 0} (settings : Configuration) (commands : List Command) (shows rolls : ℕ → Type 0) (faults : A → ℕ)
    (heard_by : L → List Event) (fits : Client → List (Timed Fact) → Type 0) (given given_back : Given A P L)
    (out_tells : Type 0) (written_to : B → List ℕ) (old new : B) (s : Status) (trail : Trail) : Type 0 where
  pub client : Client
  pub given_settings : client.settings ≡ settings
  pub given_commands : client.commands ≡ commands
  pub did : Did shows rolls faults heard_by fits (record { client = client; faults = faults given.net; listeners = listeners_in given.hooks }) given_back.net given_back.hooks s trail
  pub reports : Reports out_tells written_to old new client s trail

-- So it was, or memory was wanting, and nothing was done.
abbrev pub RunsGiven : {A B P L : Type 0} → Configuration → List Command → (ℕ → Type 0) → (ℕ → Type 0) → (A → ℕ) → (L → List Event) → (Client → List (Timed Fact) → Type 0) →
    (given given_back : Given A P L) → Type 0 → (B → List ℕ) → (old new : B) → Status → Trail → Type 0
RunsGiven settings commands shows rolls faults heard_by fits given given_back out_tells written_to old new s trail =
    RunsClient settings commands shows rolls faults heard_by fits given given_back out_tells written_to old new s trail
    ⊎ ((s ≡ status.Memory) × IsNothing given given_back trail out_tells written_to old new)
