use Rattle.net_link.specs.Causes.{Rose}
use Rattle.sess_book.specs.Ids.{id_of}
use Rattle.desk_core.proofs.AppendsLemmas.{grown-by_look}
use Rattle.desk_core.proofs.GoingLemmas.{HasFound-looked, HasGone-one}
use Rattle.desk_core.proofs.state.Core.look_counted.Goals as goal

pub returns-clause-found : goal.returns-clause-found
returns-clause-found g c = λ done.
    HasFound-looked {P = g.row.P.Denot} g.P.Picker.allows g.P.Picker.follows (Rose (g.N.Net.faults c.args.self.now.net) (g.N.Net.faults c.look.new.self.net))
    c.args.at.moment c.args.at.op c.args.words.a c.args.words.b c.args.operation.now c.args.self.now.trail c.look.new.self.trail c.args.parts.now.picker
    c.look.new.picker c.in_ok-looked.looked done c.in_ok-looked.ensures.looked

pub returns-clause-gone : goal.returns-clause-gone
returns-clause-gone g c =
    HasGone-one c.args.self.now c.look.new.self c.args.at.moment c.args.at.op _ _ _ c.requires.step c.in_ok-looked.ensures.ok c.in_ok-looked.ensures.moves

pub returns-in_err-looked-clause-appends : goal.returns-in_err-looked-clause-appends
returns-in_err-looked-clause-appends g c =
    grown-by_look c.args.at.moment c.args.at.op c.args.words.a c.args.words.b (id_of c.args.words.c c.args.words.d) c.args.self.now.trail c.look.new.self.trail c.look.ensures.appends

pub returns-in_err-move_one-clause-appends : goal.returns-in_err-move_one-clause-appends
returns-in_err-move_one-clause-appends g c =
    grown-by_look c.args.at.moment c.args.at.op c.args.words.a c.args.words.b (id_of c.args.words.c c.args.words.d) c.args.self.now.trail c.look.new.self.trail c.look.ensures.appends

pub returns-clause-appends : goal.returns-clause-appends
returns-clause-appends g c =
    grown-by_look c.args.at.moment c.args.at.op c.args.words.a c.args.words.b (id_of c.args.words.c c.args.words.d) c.args.self.now.trail c.look.new.self.trail c.look.ensures.appends

pub returns-clause-picks : goal.returns-clause-picks
returns-clause-picks g c = c.in_ok-looked.ensures.picks
