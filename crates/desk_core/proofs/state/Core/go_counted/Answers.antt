use Rattle.sess_book.specs.Ids.{id_of}
use Rattle.legal_trail.specs.Recorded.{told_in}
use Rattle.desk_core.proofs.AppendsLemmas.{Tells-weaken, grown-by_lease}
use Rattle.desk_core.proofs.PickLemmas.{no_look-leasing}
use Rattle.desk_core.proofs.state.Core.go_counted.Goals as goal

pub returns-in_err-sight-clause-appends : goal.returns-in_err-sight-clause-appends
returns-in_err-sight-clause-appends g c =
    grown-by_lease c.args.at.moment c.args.at.op c.args.words.a c.args.words.b (id_of c.args.words.c c.args.words.d) c.args.self.now.trail c.go.new.self.trail c.go.ensures.appends

pub returns-in_err-move_one-clause-appends : goal.returns-in_err-move_one-clause-appends
returns-in_err-move_one-clause-appends g c =
    grown-by_lease c.args.at.moment c.args.at.op c.args.words.a c.args.words.b (id_of c.args.words.c c.args.words.d) c.args.self.now.trail c.go.new.self.trail c.go.ensures.appends

pub returns-clause-appends : goal.returns-clause-appends
returns-clause-appends g c =
    grown-by_lease c.args.at.moment c.args.at.op c.args.words.a c.args.words.b (id_of c.args.words.c c.args.words.d) c.args.self.now.trail c.go.new.self.trail c.go.ensures.appends

pub returns-in_err-sight-clause-unlooked : goal.returns-in_err-sight-clause-unlooked
returns-in_err-sight-clause-unlooked g c =
    Tells-weaken (told_in c.args.self.now.trail) (told_in c.go.new.self.trail) (no_look-leasing c.args.at.op (id_of c.args.words.c c.args.words.d)) c.go.ensures.appends.tells

pub returns-in_err-move_one-clause-unlooked : goal.returns-in_err-move_one-clause-unlooked
returns-in_err-move_one-clause-unlooked g c =
    Tells-weaken (told_in c.args.self.now.trail) (told_in c.go.new.self.trail) (no_look-leasing c.args.at.op (id_of c.args.words.c c.args.words.d)) c.go.ensures.appends.tells

pub returns-clause-unlooked : goal.returns-clause-unlooked
returns-clause-unlooked g c =
    Tells-weaken (told_in c.args.self.now.trail) (told_in c.go.new.self.trail) (no_look-leasing c.args.at.op (id_of c.args.words.c c.args.words.d)) c.go.ensures.appends.tells
