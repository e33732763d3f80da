-- What threads keep of a client's desk: at its beginning, by each call, and by its end.
use Rattle.std.proofs.Common.{◌≡◌, ◌<◌, ◌≤◌, ℕ, Bool, true, false, List, [], Some, refl, sym, ap, ◌∙◌, subst, arith}
use Rattle.std.specs.Prelude.{slice_get}
use Rattle.std.proofs.lemmas.List.Elements.{All-nil}
use Rattle.net_link.specs.Causes.{Rose}
use Rattle.cmd_build.specs.declared.command.Command.{Command}
use Rattle.entry_judge.specs.declared.timed.Timed.{Timed}
use Rattle.sess_book.specs.Ids.{id_of}
use Rattle.desk_trail.specs.Clients.{Client}
use Rattle.desk_trail.specs.Facts.{Fact}
use Rattle.desk_trail.specs.Lanes.{EntryAt, answers, is_of_command}
use Rattle.desk_trail.specs.Legal.{Point, point_behind}
use Rattle.legal_trail.specs.Recorded.{Recorded, told_in}
use Rattle.drv_events.specs.declared.event.Event.{Event}
use Rattle.desk_core.specs.Appends.{Appends, IsBy, NamesNone, NamesOnly, Tells, tell_fault}
use Rattle.desk_core.specs.Nexts.{IsNextIn}
use Rattle.desk_core.specs.State.{now_of}
use Rattle.desk_core.specs.declared.words.Words.{Words}
use Rattle.desk_hooks.specs.Hearing.{HearMore}
use Rattle.desk_hooks.specs.State.{HookedDesk}
use Rattle.desk_hooks.specs.declared.desk.Ended.{Ended}
use Rattle.desk_share.specs.Closed.{told_by}
use Rattle.desk_share.specs.Holds.{AreWords}
use Rattle.desk_share.specs.Shared.{AreInLanes, AreOfNet, AreRolled, AreShown, Begins, HeardAll, IsShared, Opened, listeners_in, opened_by}
use Rattle.desk_share.proofs.FaultLemmas.{faults-more, faults-quiet}
use Rattle.desk_share.proofs.HeardLemmas.{CountLaw, Law, counted-more, heard-more}
use Rattle.desk_share.proofs.LaneLemmas.{GoOn, lanes-aside, lanes-op}
use Rattle.desk_share.proofs.MomentLemmas.{clock-more, shown-more, shown-now}
use Rattle.desk_share.proofs.WordLemmas.{words-aside, words-op}

no-lanes : (client : Client) → AreInLanes client []
no-lanes client = record { each = each }
  where
    each : (earlier later place : ℕ) (c d : Command) → slice_get client.commands earlier ≡ Some c → slice_get client.commands later ≡ Some d →
        earlier < later → c.lane ≡ d.lane → EntryAt [] place (is_of_command later) → (n : ℕ) × (n < place) × EntryAt [] n (answers earlier)
    each earlier later place c d given_c given_d before lane at = let there = at.there in absurd (let never : ⊥ = cc in never)

only-names : (op a b : ℕ) (own : _) (old new : List (Timed Fact)) → Tells (IsBy op a b own) old new → Tells (NamesOnly op) old new
only-names op a b own old new tells = record { more = tells.more; facts = tells.facts; each = λ k d l. (tells.each k d l).names }

module _ {N P L : Type 0} (faults : N → ℕ) (shows rolls : ℕ → Type 0) (heard_by : L → List Event) (opened : Opened) where
  -- What stays true of the desk, whoever drives it.
  abbrev pub Shared : HookedDesk N P L → Type 0
  Shared h = IsShared faults shows rolls heard_by opened h

  pub shared-new : (h : HookedDesk N P L) → Begins shows heard_by h → opened_by faults h ≡ opened → Shared h
  shared-new h begins is = record {
    client = ap (λ (o : Opened). o.client) is;
    lanes = lanes-aside h.desk.trail.client [] (told_in h.desk.trail) from_none (no-lanes h.desk.trail.client);
    moments = begins.moments;
    words = words-aside rolls [] (told_in h.desk.trail) from_none (All-nil _);
    failures = record {
      later = let same : faults h.desk.net ≡ opened.faults = ap (λ (o : Opened). o.faults) is in omega (arith, same);
      told = λ (e : tell_fault h.desk.trail.steps ≡ true). absurd (let quiet = begins.faultless in let never : ⊥ = cc in never);
    };
    heard = begins.heard;
    counted = ap (λ (o : Opened). o.listeners) is;
  }
    where
      from_none : Tells NamesNone [] (told_in h.desk.trail)
      from_none = record { more = told_in h.desk.trail; facts = refl; each = begins.unstepped }

  -- What a call did to the net and the listeners, at a moment that the clock shows.
  pub record Called (leaves : L → Bool) (moment : ℕ) (old new : HookedDesk N P L) : Type 0 where
    pub seen : shows moment
    pub last : new.desk.last ≡ now_of old.desk.last moment
    pub appends : Appends (Rose (faults old.desk.net) (faults new.desk.net)) (now_of old.desk.last moment) old.desk.trail new.desk.trail
    pub later : faults old.desk.net ≤ faults new.desk.net
    pub hears : HearMore heard_by leaves (told_in old.desk.trail) (told_in new.desk.trail) old.hooks new.hooks

  module _ (leaves : L → Bool) (law : Law heard_by leaves) (count_law : CountLaw heard_by leaves) where
    shared-more : (moment : ℕ) (old new : HookedDesk N P L) → Called leaves moment old new → AreInLanes old.desk.trail.client (told_in new.desk.trail) →
        AreRolled rolls (told_in new.desk.trail) → Shared old → Shared new
    shared-more moment old new call lanes words shared = record {
      client = call.appends.client ∙ shared.client;
      lanes = subst (λ (c : Client). AreInLanes c (told_in new.desk.trail)) (sym call.appends.client) lanes;
      moments = clock-more shows _ moment old.desk new.desk call.seen call.last call.appends shared.moments;
      words = words;
      failures = faults-more opened.faults (faults old.desk.net) (faults new.desk.net) old.desk.trail.steps call.appends.added new.desk.trail.steps call.appends.steps call.later
          call.appends.faults shared.failures;
      heard = heard-more heard_by leaves law (told_in old.desk.trail) (told_in new.desk.trail) old.hooks new.hooks call.hears shared.heard;
      counted = counted-more heard_by leaves count_law (told_in old.desk.trail) (told_in new.desk.trail) old.hooks new.hooks call.hears ∙ shared.counted;
    }

    -- By a call of a check.
    pub shared-check : (moment : ℕ) (old new : HookedDesk N P L) → Called leaves moment old new → Tells NamesNone (told_in old.desk.trail) (told_in new.desk.trail) →
        Shared old → Shared new
    shared-check moment old new call tells shared =
        shared-more moment old new call (lanes-aside old.desk.trail.client (told_in old.desk.trail) (told_in new.desk.trail) tells shared.lanes)
        (words-aside rolls (told_in old.desk.trail) (told_in new.desk.trail) tells shared.words) shared

    -- By a call of the command that comes next in its lane.
    pub shared-op : GoOn → (lane op moment : ℕ) (words : Words) (old new : HookedDesk N P L) → Called leaves moment old new →
        old.desk.trail.point ≡ point_behind old.desk.trail.client (told_in old.desk.trail) →
        IsNextIn old.desk.trail.client old.desk.trail.point.state lane (Some op) → AreWords rolls words →
        Tells (IsBy op words.a words.b (id_of words.c words.d)) (told_in old.desk.trail) (told_in new.desk.trail) → Shared old → Shared new
    shared-op go_on lane op moment words old new call point next rolled tells shared =
        shared-more moment old new call
        (lanes-op go_on old.desk.trail.client lane op (told_in old.desk.trail) (told_in new.desk.trail)
        (subst (λ (p : Point). IsNextIn old.desk.trail.client p.state lane (Some op)) point next)
        (only-names op words.a words.b (id_of words.c words.d) (told_in old.desk.trail) (told_in new.desk.trail) tells) shared.lanes)
        (words-op rolls op words (told_in old.desk.trail) (told_in new.desk.trail) rolled tells shared.words) shared

    -- By the desk's end.
    pub moments-closed : (failed : Type 0) (moment : ℕ) (h : HookedDesk N P L) (e : Ended N P L) (new : Recorded) → shows moment →
        Appends failed (now_of h.desk.last moment) h.desk.trail new → e.finished.trail.steps ≡ new.steps → Shared h → AreShown shows e.finished.trail.steps
    moments-closed failed moment h e new seen appends steps shared =
        subst (AreShown shows) (sym steps)
        (shown-more shows failed (now_of h.desk.last moment) h.desk.trail new (shown-now shows h.desk.last moment shared.moments.last seen) appends shared.moments.steps)

    pub heard-closed : (h : HookedDesk N P L) (e : Ended N P L) → HearMore heard_by leaves (told_in h.desk.trail) (told_by e.finished.trail) h.hooks e.hooks →
        Shared h → HeardAll heard_by (told_by e.finished.trail) e.hooks.listeners.items
    heard-closed h e more shared = heard-more heard_by leaves law (told_in h.desk.trail) (told_by e.finished.trail) h.hooks e.hooks more shared.heard

    pub counted-closed : (h : HookedDesk N P L) (e : Ended N P L) → HearMore heard_by leaves (told_in h.desk.trail) (told_by e.finished.trail) h.hooks e.hooks →
        Shared h → listeners_in e.hooks ≡ opened.listeners
    counted-closed h e more shared = counted-more heard_by leaves count_law (told_in h.desk.trail) (told_by e.finished.trail) h.hooks e.hooks more ∙ shared.counted

  pub faults-closed : (moment : ℕ) (h : HookedDesk N P L) (e : Ended N P L) (new : Recorded) → Appends ⊥ moment h.desk.trail new → e.finished.trail.steps ≡ new.steps →
      faults h.desk.net ≤ faults e.finished.net → Shared h → AreOfNet opened.faults (faults e.finished.net) e.finished.trail.steps
  faults-closed moment h e new appends steps later shared =
      faults-quiet opened.faults (faults h.desk.net) (faults e.finished.net) h.desk.trail.steps appends.added e.finished.trail.steps (steps ∙ appends.steps) later
      (never-told (tell_fault appends.added) appends.faults) shared.failures
    where
      never-told : (b : Bool) → (b ≡ true → ⊥) → b ≡ false
      never-told true told = absurd (told refl)
      never-told false told = refl
