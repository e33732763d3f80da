use Rattle.std.proofs.Common.{◌<◌, [], sym, ap, subst}
use Rattle.std.proofs.lemmas.List.{append-nil}
use Rattle.std.proofs.lemmas.List.Elements.{All-nil}
use Rattle.entry_judge.specs.declared.timed.Timed.{Timed}
use Rattle.desk_trail.specs.Facts.{Fact}
use Rattle.legal_trail.specs.Recorded.{told_in}
use Rattle.desk_core.specs.Appends.{NamesNone}
use Rattle.net_link.specs.Causes.{Rose}
use Rattle.desk_core.specs.declared.progress.Progress.TheVariants as progress
use Rattle.desk_core.proofs.AnsweredLooks.{IsAtWork-behind, IsReady-found, IsWriting-owed, Rose-later, counts-behind, grown-three, grown-two, means-wait, moves-three, moves-two}
use Rattle.desk_core.proofs.AppendsLemmas.{grown-looks, grown-weaken}
use Rattle.desk_core.proofs.LookLemmas.{HasLooked-by}
use Rattle.desk_core.proofs.PickLemmas.{LooksOnce-by}
use Rattle.desk_core.proofs.state.Core.look.Goals as goal

pub ask_for-requires-clause-work : goal.ask_for-requires-clause-work
ask_for-requires-clause-work g c κs within =
    IsAtWork-behind c.args.moment c.args.op c.args.operation.now c.args.self.now c.read_when_late.new.self c.in_ok-read_when_late.ensures.ok c.read_when_late.ensures.appends c.requires.work

pub ask_for-requires-clause-counts : goal.ask_for-requires-clause-counts
ask_for-requires-clause-counts g c κs within =
    counts-behind c.args.looker.in_flight.now c.args.self.now.trail.point.state c.read_when_late.new.self.trail.point.state c.read_when_late.ensures.appends.aside.commands c.requires.counts

pub tell_look-requires-clause-work : goal.tell_look-requires-clause-work
tell_look-requires-clause-work g c =
    IsAtWork-behind c.args.moment c.args.op c.args.operation.now c.args.self.now c.read_when_late.new.self c.in_ok-read_when_late.ensures.ok c.read_when_late.ensures.appends c.requires.work

pub begin_owed-requires : goal.begin_owed-requires
begin_owed-requires g c = record {
  writing =
      IsWriting-owed c.tell_look.new.self c.args.moment c.in_ok-answer.answer.how c.read_when_late.new.self.trail.point.state (c.finds_none-waits.ensures.yes c.if-not-waits.false)
      c.in_ok-tell_look.ensures.servers c.in_ok-tell_look.ensures.writes;
}

pub returns-in_err-read_when_late-clause-appends : goal.returns-in_err-read_when_late-clause-appends
returns-in_err-read_when_late-clause-appends g c =
    grown-looks c.args.moment c.args.op c.args.looker.words.0 c.args.looker.words.1 c.args.self.now.trail c.read_when_late.new.self.trail c.read_when_late.ensures.appends

pub returns-in_err-answer-clause-appends : goal.returns-in_err-answer-clause-appends
returns-in_err-answer-clause-appends g c =
    grown-looks c.args.moment c.args.op c.args.looker.words.0 c.args.looker.words.1 c.args.self.now.trail c.read_when_late.new.self.trail c.read_when_late.ensures.appends

pub returns-in_err-tell_look-clause-appends : goal.returns-in_err-tell_look-clause-appends
returns-in_err-tell_look-clause-appends g c =
    grown-two c.args.moment (g.N.Net.faults c.args.self.now.net) (g.N.Net.faults c.read_when_late.new.self.net) (g.N.Net.faults c.tell_look.new.self.net)
    c.args.self.now.trail c.read_when_late.new.self.trail c.tell_look.new.self.trail c.tell_look.ensures.faults
    (grown-looks c.args.moment c.args.op c.args.looker.words.0 c.args.looker.words.1 c.args.self.now.trail c.read_when_late.new.self.trail c.read_when_late.ensures.appends) c.tell_look.ensures.appends

pub returns-then-not-waits-clause-ok : goal.returns-then-not-waits-clause-ok
returns-then-not-waits-clause-ok g c =
    IsReady-found c.tell_look.new.self c.args.moment c.in_ok-answer.answer.how c.read_when_late.new.self.trail.point.state (c.finds_none-waits.ensures.no c.if-not-waits.true)
    c.in_ok-tell_look.ensures.writes

pub returns-then-not-waits-clause-moves : goal.returns-then-not-waits-clause-moves
returns-then-not-waits-clause-moves g c =
    moves-two c.args.op c.args.moment c.tell_look.new.operation c.args.self.now.trail c.read_when_late.new.self.trail c.tell_look.new.self.trail c.read_when_late.ensures.appends
    c.in_ok-tell_look.ensures.moves

pub returns-then-not-waits-clause-appends : goal.returns-then-not-waits-clause-appends
returns-then-not-waits-clause-appends g c =
    grown-two c.args.moment (g.N.Net.faults c.args.self.now.net) (g.N.Net.faults c.read_when_late.new.self.net) (g.N.Net.faults c.tell_look.new.self.net)
    c.args.self.now.trail c.read_when_late.new.self.trail c.tell_look.new.self.trail c.tell_look.ensures.faults
    (grown-looks c.args.moment c.args.op c.args.looker.words.0 c.args.looker.words.1 c.args.self.now.trail c.read_when_late.new.self.trail c.read_when_late.ensures.appends) c.tell_look.ensures.appends

pub returns-then-not-waits-clause-looked : goal.returns-then-not-waits-clause-looked
returns-then-not-waits-clause-looked g c =
    HasLooked-by {P = g.row.P.Denot} g.P.Picker.allows g.P.Picker.follows (Rose (g.N.Net.faults c.args.self.now.net) (g.N.Net.faults c.tell_look.new.self.net))
    c.args.moment c.args.op c.args.looker.words.0 c.args.looker.words.1 c.args.operation.now c.args.self.now.trail c.read_when_late.new.self.trail c.tell_look.new.self.trail
    c.tell_look.new.self.trail c.args.picker.now c.ask_for.new.picker progress.Done c.in_ok-answer.answer.kept c.in_ok-answer.answer.how []
    (λ early. ap (λ d. d.trail) (c.read_when_late.ensures.early (subst (λ u. c.args.moment < u) (sym c.select_until-until.ensures.deadline) early)))
    (grown-weaken c.args.moment c.args.self.now.trail c.read_when_late.new.self.trail
    (Rose-later (g.N.Net.faults c.args.self.now.net) (g.N.Net.faults c.read_when_late.new.self.net) (g.N.Net.faults c.tell_look.new.self.net) c.tell_look.ensures.faults)
    c.read_when_late.ensures.appends.appends)
    c.ask_for.ensures.leads c.in_ok-tell_look.ensures.tells (sym (append-nil c.tell_look.new.self.trail.steps)) c.in_ok-answer.ensures.run
    (c.finds_none-waits.ensures.no c.if-not-waits.true)

pub returns-in_err-begin_owed-clause-appends : goal.returns-in_err-begin_owed-clause-appends
returns-in_err-begin_owed-clause-appends g c =
    grown-three c.args.moment (g.N.Net.faults c.args.self.now.net) (g.N.Net.faults c.read_when_late.new.self.net) (g.N.Net.faults c.tell_look.new.self.net)
    (g.N.Net.faults c.begin_owed.new.self.net) c.args.self.now.trail c.read_when_late.new.self.trail c.tell_look.new.self.trail c.begin_owed.new.self.trail
    c.read_when_late.ensures.faults c.tell_look.ensures.faults c.begin_owed.ensures.faults
    (grown-looks c.args.moment c.args.op c.args.looker.words.0 c.args.looker.words.1 c.args.self.now.trail c.read_when_late.new.self.trail c.read_when_late.ensures.appends) c.tell_look.ensures.appends
    (grown-looks c.args.moment c.args.op c.args.looker.words.0 c.args.looker.words.1 c.tell_look.new.self.trail c.begin_owed.new.self.trail c.begin_owed.ensures.appends)

pub returns-clause-moves : goal.returns-clause-moves
returns-clause-moves g c =
    moves-three c.args.op c.args.moment c.tell_look.new.operation c.args.self.now.trail c.read_when_late.new.self.trail c.tell_look.new.self.trail c.begin_owed.new.self.trail
    c.read_when_late.ensures.appends c.in_ok-tell_look.ensures.moves c.begin_owed.ensures.appends

pub returns-clause-means : goal.returns-clause-means
returns-clause-means g c =
    means-wait c.args.self.now.trail.client c.read_when_late.new.self.trail.client c.begin_owed.new.self.trail.point.state c.args.moment c.select_until-until.result
    c.args.operation.now c.tell_look.new.operation c.read_when_late.ensures.appends.appends.appends.client
    (c.in_ok-tell_look.ensures.waits (c.finds_none-waits.ensures.yes c.if-not-waits.false)) c.select_until-until.ensures.deadline

pub returns-clause-appends : goal.returns-clause-appends
returns-clause-appends g c =
    grown-three c.args.moment (g.N.Net.faults c.args.self.now.net) (g.N.Net.faults c.read_when_late.new.self.net) (g.N.Net.faults c.tell_look.new.self.net)
    (g.N.Net.faults c.begin_owed.new.self.net) c.args.self.now.trail c.read_when_late.new.self.trail c.tell_look.new.self.trail c.begin_owed.new.self.trail
    c.read_when_late.ensures.faults c.tell_look.ensures.faults c.begin_owed.ensures.faults
    (grown-looks c.args.moment c.args.op c.args.looker.words.0 c.args.looker.words.1 c.args.self.now.trail c.read_when_late.new.self.trail c.read_when_late.ensures.appends) c.tell_look.ensures.appends
    (grown-looks c.args.moment c.args.op c.args.looker.words.0 c.args.looker.words.1 c.tell_look.new.self.trail c.begin_owed.new.self.trail c.begin_owed.ensures.appends)

pub returns-clause-looked : goal.returns-clause-looked
returns-clause-looked g c =
    HasLooked-by {P = g.row.P.Denot} g.P.Picker.allows g.P.Picker.follows (Rose (g.N.Net.faults c.args.self.now.net) (g.N.Net.faults c.begin_owed.new.self.net))
    c.args.moment c.args.op c.args.looker.words.0 c.args.looker.words.1 c.args.operation.now c.args.self.now.trail c.read_when_late.new.self.trail c.tell_look.new.self.trail
    c.begin_owed.new.self.trail c.args.picker.now c.ask_for.new.picker (progress.Wait c.select_until-until.result) c.in_ok-answer.answer.kept c.in_ok-answer.answer.how c.begin_owed.ensures.appends.appends.appends.added
    (λ early. ap (λ d. d.trail) (c.read_when_late.ensures.early (subst (λ u. c.args.moment < u) (sym c.select_until-until.ensures.deadline) early)))
    (grown-weaken c.args.moment c.args.self.now.trail c.read_when_late.new.self.trail
    (λ rose. Rose-later (g.N.Net.faults c.args.self.now.net) (g.N.Net.faults c.tell_look.new.self.net) (g.N.Net.faults c.begin_owed.new.self.net) c.begin_owed.ensures.faults
    (Rose-later (g.N.Net.faults c.args.self.now.net) (g.N.Net.faults c.read_when_late.new.self.net) (g.N.Net.faults c.tell_look.new.self.net) c.tell_look.ensures.faults rose))
    c.read_when_late.ensures.appends.appends)
    c.ask_for.ensures.leads c.in_ok-tell_look.ensures.tells c.begin_owed.ensures.appends.appends.appends.steps c.in_ok-answer.ensures.run
    (c.finds_none-waits.ensures.yes c.if-not-waits.false)

pub returns-then-not-waits-clause-picks : goal.returns-then-not-waits-clause-picks
returns-then-not-waits-clause-picks g c =
    let work =
    IsAtWork-behind c.args.moment c.args.op c.args.operation.now c.args.self.now c.read_when_late.new.self c.in_ok-read_when_late.ensures.ok c.read_when_late.ensures.appends c.requires.work in
    LooksOnce-by {P = g.row.P.Denot} g.P.Picker.allows g.P.Picker.follows c.args.moment c.args.op c.args.looker.words.0 c.args.looker.words.1 c.args.operation.now
    c.args.self.now.trail c.read_when_late.new.self.trail c.tell_look.new.self.trail c.tell_look.new.self.trail c.args.picker.now c.ask_for.new.picker
    c.in_ok-answer.answer.kept c.in_ok-answer.answer.how [] c.read_when_late.ensures.appends.appends.appends.client c.read_when_late.ensures.appends.appends.tells
    c.ask_for.ensures.leads c.in_ok-tell_look.ensures.told (sym (append-nil (told_in c.tell_look.new.self.trail))) (All-nil (λ (t : Timed Fact). NamesNone t.what)) work.there c.in_ok-answer.ensures.run

pub returns-clause-picks : goal.returns-clause-picks
returns-clause-picks g c =
    let work =
    IsAtWork-behind c.args.moment c.args.op c.args.operation.now c.args.self.now c.read_when_late.new.self c.in_ok-read_when_late.ensures.ok c.read_when_late.ensures.appends c.requires.work in
    LooksOnce-by {P = g.row.P.Denot} g.P.Picker.allows g.P.Picker.follows c.args.moment c.args.op c.args.looker.words.0 c.args.looker.words.1 c.args.operation.now
    c.args.self.now.trail c.read_when_late.new.self.trail c.tell_look.new.self.trail c.begin_owed.new.self.trail c.args.picker.now c.ask_for.new.picker
    c.in_ok-answer.answer.kept c.in_ok-answer.answer.how c.begin_owed.ensures.appends.appends.tells.more c.read_when_late.ensures.appends.appends.appends.client c.read_when_late.ensures.appends.appends.tells
    c.ask_for.ensures.leads c.in_ok-tell_look.ensures.told c.begin_owed.ensures.appends.appends.tells.facts c.begin_owed.ensures.appends.appends.tells.each work.there c.in_ok-answer.ensures.run
