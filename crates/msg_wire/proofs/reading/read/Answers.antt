use Rattle.msg_wire.proofs.Answered.{found, only, sound, flawed, not_inside, all_of_it}
use Rattle.msg_wire.proofs.reading.read.Goals as goal

pub returns-clause-found : goal.returns-clause-found
returns-clause-found c = found c.args.bytes.now c.whole.result c.whole.ensures.gives

pub returns-clause-only : goal.returns-clause-only
returns-clause-only c = only c.args.bytes.now c.whole.result c.whole.ensures.gives

pub returns-clause-sound : goal.returns-clause-sound
returns-clause-sound c = sound c.args.bytes.now c.whole.result c.whole.ensures.gives

pub returns-clause-fault : goal.returns-clause-fault
returns-clause-fault c = flawed c.args.bytes.now c.whole.result c.whole.ensures.gives

pub returns-clause-body : goal.returns-clause-body
returns-clause-body c = not_inside c.args.bytes.now c.whole.result c.whole.ensures.gives

pub returns-clause-whole : goal.returns-clause-whole
returns-clause-whole c = all_of_it c.args.bytes.now c.whole.result c.whole.ensures.gives

pub returns-clause-header : goal.returns-clause-header
returns-clause-header c = c.whole.ensures.header
