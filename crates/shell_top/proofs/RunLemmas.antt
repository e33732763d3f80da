-- What a client did in a run, from its beginning to its end.
use Rattle.std.proofs.Common.{◌≡◌, inl, inr, ℕ, false, List, Ok, sym, ap, ◌∙◌, subst}
use Rattle.std.specs.List.{list_all}
use Rattle.cmd_build.specs.declared.command.Command.{Command}
use Rattle.conn_uri.specs.Configurations.{Configuration}
use Rattle.net_link.specs.declared.event.NetEvent.{NetEvent}
use Rattle.entry_judge.specs.declared.timed.Timed.{Timed}
use Rattle.desk_trail.specs.Clients.{Client}
use Rattle.desk_trail.specs.Facts.{Fact}
use Rattle.desk_trail.specs.declared.trail.Trail.{Trail}
use Rattle.desk_core.specs.declared.finished.Finished.{Finished}
use Rattle.desk_hooks.specs.declared.desk.Ended.{Ended}
use Rattle.desk_share.specs.Closed.{IsClosed}
use Rattle.desk_share.specs.Shared.{Opened}
use Rattle.drv_events.specs.declared.event.Event.{Event}
use Rattle.trail_tally.specs.Tallies.{AreAnswered, tallies_of}
use Rattle.trail_tally.specs.declared.tally.Tally.{Tally}
use Rattle.shell_top.specs.Report.{is_ok_tally, report, report_by}
use Rattle.shell_top.specs.Run.{Did, IsDone, IsOfNet, Reports, Runs, RunsGiven, Shows, Tells, Writes}
use Rattle.shell_top.specs.declared.status.Given.{Given}
use Rattle.shell_top.specs.declared.status.Status.{Status}

-- A client that ended so did that.
pub did-closed : {N P L : Type 0} (tells : Type 0) (history : N → List NetEvent) (faults : N → ℕ) (shows rolls : ℕ → Type 0) (heard_by : L → List Event) (opened : Opened) (e : Ended N P L) (s : Status) →
    IsClosed tells history faults shows rolls heard_by opened e → (IsDone s → e.finished.stopped ≡ false) → (IsDone s → AreAnswered opened.client.commands e.finished.trail.steps) →
    Did shows rolls faults heard_by (λ client told. tells → IsOfNet (history e.finished.net) client told) opened e.finished.net e.hooks s e.finished.trail
did-closed tells history faults shows rolls heard_by opened e s closed runs answered = record {
  began = closed.began;
  legal = closed.legal;
  of_net = λ t. record { wired = closed.wired t; once = closed.once t };
  complete = λ done. closed.complete (runs done);
  shut = λ done. closed.shut (runs done);
  answered = answered;
  lanes = closed.lanes;
  moments = closed.moments;
  words = closed.words;
  failures = closed.failures;
  counted = closed.counted;
  heard = closed.heard;
  listeners = closed.listeners;
}

-- The report is of the client's trail.
pub reports : {A N P : Type 0} (tells : Type 0) (written_to : A → List ℕ) (old new : A) (client : Client) (end : Finished N P) (ts : List Tally) (s : Status) →
    end.settings ≡ client.settings → ts ≡ tallies_of client.commands end.trail.steps → Shows s (list_all is_ok_tally ts) →
    (tells → Writes s (report_by end.settings.warnings end.trail.names ts) (written_to old) (written_to new)) → Reports tells written_to old new client s end.trail
reports tells written_to old new client end ts s settings told verdict written = record {
  verdict = subst (Shows s) (ap (list_all is_ok_tally) told) verdict;
  written = λ t. subst (λ (w : List ℕ). Writes s w (written_to old) (written_to new)) whole (written t);
}
  where
    whole : report_by end.settings.warnings end.trail.names ts ≡ report client end.trail
    whole = ap (λ (w : Configuration). report_by w.warnings end.trail.names ts) settings ∙ ap (report_by client.settings.warnings end.trail.names) told

-- A client of the settings and commands is that of the words and the script.
pub runs-so : {A B P L : Type 0} (tells : Type 0) (source : List ℕ) (asked : Configuration) (commands : List Command) (shows rolls : ℕ → Type 0) (faults : A → ℕ) (heard_by : L → List Event)
    (fits : Client → List (Timed Fact) → Type 0) (given given_back : Given A P L) (out_tells : Type 0) (written_to : B → List ℕ) (old new : B) (s : Status) (trail : Trail) →
    Tells tells source (Ok commands) → RunsGiven asked commands shows rolls faults heard_by fits given given_back out_tells written_to old new s trail →
    Runs tells source asked shows rolls faults heard_by fits given given_back out_tells written_to old new s trail
runs-so tells source asked commands shows rolls faults heard_by fits given given_back out_tells written_to old new s trail told (inl r) = inl (record {
  client = r.client;
  of_words = record {
    settings = r.given_settings;
    commands = subst (λ (cs : List Command). Tells tells source (Ok cs)) (sym r.given_commands) told;
  };
  did = r.did;
  reports = r.reports;
})
runs-so tells source asked commands shows rolls faults heard_by fits given given_back out_tells written_to old new s trail told (inr r) = inr r

-- An equal text was written.
pub writes-same : (s : Status) (text whole old new : List ℕ) → text ≡ whole → Writes s text old new → Writes s whole old new
writes-same s text whole old new same w = subst (λ (t : List ℕ). Writes s t old new) same w
