use Rattle.shell_top.proofs.GoingLemmas.{appended-is, goes-check, told-more}
use Rattle.shell_top.proofs.waiting.drive_check.Goals as goal

pub returns-in-Some-clause-told : goal.returns-in-Some-clause-told
returns-in-Some-clause-told g c =
    let old = c.args.desk.now.desk in
    let new = c.check-sight.new.self.desk in
    let goes = goes-check g.N.Net.faults c.args.host c.args.moment c.check-sight.result old new c.check-sight.ensures.checked in
    let behind = appended-is c.steps-behind.result.now c.steps.result.now old.trail.steps new.trail.steps c.steps-behind.ensures.value c.steps.ensures.value in
    told-more old new c.args.tallies.now c.note.new.tallies _ goes behind c.note.ensures.count c.note.ensures.each c.requires.told

pub returns-in-None-clause-told : goal.returns-in-None-clause-told
returns-in-None-clause-told g c =
    let old = c.args.desk.now.desk in
    let new = c.check-sight.new.self.desk in
    let goes = goes-check g.N.Net.faults c.args.host c.args.moment c.check-sight.result old new c.check-sight.ensures.checked in
    let behind = appended-is c.steps-behind.result.now c.steps.result.now old.trail.steps new.trail.steps c.steps-behind.ensures.value c.steps.ensures.value in
    told-more old new c.args.tallies.now c.note.new.tallies _ goes behind c.note.ensures.count c.note.ensures.each c.requires.told
