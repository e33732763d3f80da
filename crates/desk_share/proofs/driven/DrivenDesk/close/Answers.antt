use Rattle.std.proofs.Common.{◌≡◌, false, sym, ◌∙◌, subst}
use Rattle.desk_trail.specs.Clients.{Client}
use Rattle.desk_trail.specs.Legal.{IsComplete, IsLegal, point_behind}
use Rattle.desk_trail.specs.Written.{lists_of}
use Rattle.desk_core.specs.Ending.{ArePoolsShut}
use Rattle.wired_trail.specs.Wired.{IsWired}
use Rattle.write_effects.specs.Each.{EachTakesEffectOnce}
use Rattle.desk_share.specs.Closed.{told_by}
use Rattle.desk_share.specs.Shared.{AreInLanes, IsShown}
use Rattle.desk_share.proofs.LaneLemmas.{lanes-aside}
use Rattle.desk_share.proofs.SharedLemmas.{counted-closed, faults-closed, heard-closed, moments-closed}
use Rattle.desk_share.proofs.WordLemmas.{words-aside}
use Rattle.desk_share.proofs.driven.DrivenDesk.close.Goals as goal

pub returns-clause-closed : goal.returns-clause-closed
returns-clause-closed g c =
    let faults = g.N.Net.faults in
    let shows = g.C.Clock.shows in
    let rolls = g.D.Dice.rolls in
    let heard_by = g.L.Listener.heard in
    let leaves = g.L.Listener.leaves in
    let opened = g.J.Opening.opened in
    let law = c.each_heard_what_was_told_since.ensures in
    let count_law = c.all_are_counted.ensures in
    let h = c.self.inside.desk in
    let e = c.finish.result in
    let shared = c.self.invariant.0 in
    let done = c.finish.ensures in
    let grown = done.appends in
    let same = shared.client in
    let settings : e.finished.settings ≡ opened.client.settings = cc in
    let commands : e.finished.commands ≡ opened.client.commands = cc in
    record {
      settings = settings;
      commands = commands;
      legal = subst (λ (k : Client). IsLegal k (lists_of e.finished.trail) e.finished.trail.steps) same done.legal;
      complete = λ (runs : e.finished.stopped ≡ false). subst (λ (k : Client). IsComplete k (lists_of e.finished.trail) e.finished.trail.steps) same (done.complete (sym done.stopped ∙ runs));
      shut = λ (runs : e.finished.stopped ≡ false). subst (λ (k : Client). ArePoolsShut (point_behind k (told_by e.finished.trail)).state) same (done.shut (sym done.stopped ∙ runs));
      wired = λ tells. subst (λ (k : Client). IsWired k (g.N.Net.history e.finished.net) (told_by e.finished.trail)) same (done.wired tells);
      once = λ tells. subst (λ (k : Client). EachTakesEffectOnce k (told_by e.finished.trail) (g.N.Net.history e.finished.net)) same (done.once tells);
      counted = done.counted;
      failures = faults-closed faults shows rolls heard_by opened _ h e grown.0 grown.1 grown.3 done.faults shared;
      lanes = subst (λ (k : Client). AreInLanes k (told_by e.finished.trail)) same (lanes-aside h.desk.trail.client _ _ done.names shared.lanes);
      began = subst (λ (k : Client). IsShown shows k.began) same shared.moments.began;
      moments = moments-closed faults shows rolls heard_by opened leaves law count_law _ c.args.moment h e grown.0 c.requires.shown grown.1 grown.3 shared;
      words = words-aside rolls _ _ done.names shared.words;
      heard = heard-closed faults shows rolls heard_by opened leaves law count_law h e done.heard shared;
      listeners = counted-closed faults shows rolls heard_by opened leaves law count_law h e done.heard shared;
    }
