-- What is left of a client that ended.
use Rattle.std.specs.Prelude.{◌≡◌, ℕ, false, List}
use Rattle.net_link.specs.declared.event.NetEvent.{NetEvent}
use Rattle.entry_judge.specs.declared.timed.Timed.{Timed}
use Rattle.desk_trail.specs.declared.trail.Trail.{Trail}
use Rattle.desk_trail.specs.Facts.{Fact, facts_of}
use Rattle.desk_trail.specs.Legal.{IsComplete, IsLegal, point_behind}
use Rattle.desk_trail.specs.Written.{lists_of}
use Rattle.drv_events.specs.declared.event.Event.{Event}
use Rattle.wired_trail.specs.Faults.{IsCounted}
use Rattle.wired_trail.specs.Wired.{IsWired}
use Rattle.write_effects.specs.Each.{EachTakesEffectOnce}
use Rattle.desk_core.specs.Ending.{ArePoolsShut}
use Rattle.desk_hooks.specs.declared.desk.Ended.{Ended}
use Rattle.desk_share.specs.Shared.{AreInLanes, AreOfNet, AreRolled, AreShown, HeardAll, IsShown, Opened, listeners_in}

-- What a trail tells.
abbrev pub told_by : Trail → List (Timed Fact)
told_by trail = facts_of (lists_of trail) trail.steps

-- What holds of a client that ended, whoever drove it. The members are those of the net, the clock, the dice and the listeners.
-- Its settings and commands are those that it began with (`settings`, `commands`). Its trail is legal (`legal`), and unless it
-- stopped for want of memory complete (`complete`), with each pool closed (`shut`). It is what the net told (`wired`), and where that is
-- a history of honest members each command took effect at most once (`once`); it tells at most as many failed calls as the net counted
-- (`counted`), and one only where that count rose since the client began (`failures`). The commands of each lane ran one after another
-- (`lanes`). Its moments are the clock's (`began`, `moments`), its words the dice's (`words`). Each listener that is handed back heard
-- exactly what the trail tells (`heard`); those that are not left, and are counted (`listeners`).
pub record IsClosed {N P L : Type 0} (net_tells : Type 0) (history : N → List NetEvent) (faults : N → ℕ) (shows rolls : ℕ → Type 0)
    (heard_by : L → List Event) (opened : Opened) (e : Ended N P L) : Type 0 where
  pub settings : e.finished.settings ≡ opened.client.settings
  pub commands : e.finished.commands ≡ opened.client.commands
  pub legal : IsLegal opened.client (lists_of e.finished.trail) e.finished.trail.steps
  pub complete : e.finished.stopped ≡ false → IsComplete opened.client (lists_of e.finished.trail) e.finished.trail.steps
  pub shut : e.finished.stopped ≡ false → ArePoolsShut (point_behind opened.client (told_by e.finished.trail)).state
  pub wired : net_tells → IsWired opened.client (history e.finished.net) (told_by e.finished.trail)
  pub once : net_tells → EachTakesEffectOnce opened.client (told_by e.finished.trail) (history e.finished.net)
  pub counted : IsCounted (faults e.finished.net) e.finished.trail.steps
  pub failures : AreOfNet opened.faults (faults e.finished.net) e.finished.trail.steps
  pub lanes : AreInLanes opened.client (told_by e.finished.trail)
  pub began : IsShown shows opened.client.began
  pub moments : AreShown shows e.finished.trail.steps
  pub words : AreRolled rolls (told_by e.finished.trail)
  pub heard : HeardAll heard_by (told_by e.finished.trail) e.hooks.listeners.items
  pub listeners : listeners_in e.hooks ≡ opened.listeners
