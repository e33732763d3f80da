use Rattle.shell_top.proofs.GoingLemmas.{appended-is, goes-turn, told-more}
use Rattle.shell_top.proofs.driving.step_lane.Goals as goal

pub returns-clause-told : goal.returns-clause-told
returns-clause-told g c =
    let old = c.args.desk.now.desk in
    let new = c.turn-sight.new.self.desk in
    let goes = goes-turn g.N.Net.faults g.D.Dice.rolls c.args.lane _ c.turn-sight.result old new c.turn-sight.ensures.turned in
    let behind = appended-is c.steps-behind.result.now c.steps.result.now old.trail.steps new.trail.steps c.steps-behind.ensures.value c.steps.ensures.value in
    told-more old new c.args.tallies.now c.note.new.tallies _ goes behind c.note.ensures.count c.note.ensures.each c.requires.told
