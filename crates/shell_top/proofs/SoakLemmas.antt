-- What a client did over members that are played in memory.
use Rattle.std.proofs.Common.{◌≡◌, ℕ, List, Option, None, refl, sym, subst}
use Rattle.std.specs.List.{list_all}
use Rattle.net_link.specs.Causes.{count_of}
use Rattle.entry_judge.specs.declared.timed.Timed.{Timed}
use Rattle.member_core.specs.Honest.{IsHonest}
use Rattle.member_hall.specs.Halls.{HallState}
use Rattle.desk_trail.specs.declared.trail.Trail.{Trail}
use Rattle.desk_trail.specs.Clients.{Client}
use Rattle.desk_trail.specs.Facts.{Fact}
use Rattle.drv_events.specs.declared.event.Event.{Event}
use Rattle.drv_events.specs.declared.hooks.HooksOf.{HooksOf}
use Rattle.desk_share.specs.Shared.{Opened}
use Rattle.desk_core.specs.declared.finished.Finished.{Finished}
use Rattle.trail_tally.specs.Tallies.{tallies_of}
use Rattle.trail_tally.specs.declared.tally.Tally.{Tally}
use Rattle.shell_top.specs.Report.{is_ok_tally}
use Rattle.shell_top.specs.Run.{Did, IsOfNet, Shows, Writes, no_trail}
use Rattle.shell_top.specs.Soak.{IsPlayed, Soaks, SoaksTo}
use Rattle.shell_top.specs.Summary.{summary_of, summary_text}
use Rattle.shell_top.specs.declared.status.Status.{Status}
use Rattle.shell_top.specs.declared.status.Status.TheVariants as status

-- What a client did that fits one test fits another that follows from it.
did-of : {A L : Type 0} (shows rolls : ℕ → Type 0) (faults : A → ℕ) (heard_by : L → List Event) (fits fits_too : Client → List (Timed Fact) → Type 0) (opened : Opened) (new : A) (hooks : HooksOf L)
    (s : Status) (trail : Trail) → ((by : Client) (told : List (Timed Fact)) → fits by told → fits_too by told) → Did shows rolls faults heard_by fits opened new hooks s trail →
    Did shows rolls faults heard_by fits_too opened new hooks s trail
did-of shows rolls faults heard_by fits fits_too opened new hooks s trail too d = record {
  began = d.began;
  legal = d.legal;
  of_net = too opened.client _ d.of_net;
  complete = d.complete;
  shut = d.shut;
  answered = d.answered;
  lanes = d.lanes;
  moments = d.moments;
  words = d.words;
  failures = d.failures;
  counted = d.counted;
  heard = d.heard;
  listeners = d.listeners;
}

-- A hall tells.
abbrev DidOver : {L : Type 0} → (shows rolls : ℕ → Type 0) → (L → List Event) → Opened → (hall : HallState) → HooksOf L → Status → Trail → Type 0
DidOver shows rolls heard_by opened hall hooks s trail =
    Did shows rolls (λ (h : HallState). count_of h.faults) heard_by (λ by told. Unit {0} → IsOfNet hall.events by told) opened hall hooks s trail

pub played : {P L : Type 0} (shows rolls : ℕ → Type 0) (heard_by : L → List Event) (opened : Opened) (f : Finished HallState P) (hooks : HooksOf L) (ts : List Tally) (s : Status) →
    f.commands ≡ opened.client.commands → ts ≡ tallies_of opened.client.commands f.trail.steps → IsHonest f.net.events → DidOver shows rolls heard_by opened f.net hooks s f.trail →
    IsPlayed opened.client f ts
played shows rolls heard_by opened f hooks ts s commands tallies honest d = record {
  commands = commands;
  tallies = tallies;
  legal = d.legal;
  wired = (d.of_net tt).wired;
  once = (d.of_net tt).once honest;
}

pub soaks-to : {A P L : Type 0} (tells : Type 0) (written_to : A → List ℕ) (old new : A) (shows rolls : ℕ → Type 0) (heard_by : L → List Event) (opened : Opened) (f : Finished HallState P)
    (hooks : HooksOf L) (ts : List Tally) (s : Status) → IsPlayed opened.client f ts → DidOver shows rolls heard_by opened f.net hooks s f.trail → Shows s (list_all is_ok_tally ts) →
    (tells → (by : Client) → IsPlayed by f ts → Writes s (summary_text (summary_of by f.trail f.net)) (written_to old) (written_to new)) →
    SoaksTo f.net shows rolls heard_by opened hooks tells written_to old new s f.trail
soaks-to tells written_to old new shows rolls heard_by opened f hooks ts s is d verdict written = record {
  did = did-of shows rolls _ heard_by _ _ opened f.net hooks s f.trail (λ by told fits. fits tt) d;
  once = is.once;
  verdict = subst (λ (l : List Tally). Shows s (list_all is_ok_tally l)) is.tallies verdict;
  written = λ t. written t opened.client is;
}

-- There was no memory.
pub soaks-not : {A L : Type 0} (seed count : ℕ) (heard_by : L → List Event) (hooks : HooksOf L) (tells : Type 0) (written_to : A → List ℕ) (out : A) (s : Status) (trail : Trail) (hall : Option HallState)
    (back : HooksOf L) → s ≡ status.Memory → trail ≡ no_trail → hall ≡ None → back ≡ hooks → Soaks seed count heard_by hooks back tells written_to out out s trail hall
soaks-not seed count heard_by hooks tells written_to out s trail hall back memory none without same =
    subst (Soaks seed count heard_by hooks back tells written_to out out s trail) (sym without) (record { memory = memory; trail_is = none; hooks_are = same; written = λ t. refl })
