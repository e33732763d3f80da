use Rattle.std.proofs.Common.{arith}
use Rattle.cmd_build.proofs.SizeLemmas.{length-Insert, length-Update, length-Delete, length-FindAndModify, length-Find}
use Rattle.cmd_build.proofs.sizes.size_of_act.Goals as goal

pub returns-in-Insert : goal.returns-in-Insert
returns-in-Insert c = rw (c.in-Insert.is) (omega (arith, length-Insert c.args.coll.now c.in-Insert.doc))

pub returns-in-Update : goal.returns-in-Update
returns-in-Update c = rw (c.in-Update.is) (omega (arith, length-Update c.args.coll.now c.in-Update.filter c.in-Update.change c.in-Update.multi c.in-Update.upsert))

pub returns-in-Delete : goal.returns-in-Delete
returns-in-Delete c = rw (c.in-Delete.is) (omega (arith, length-Delete c.args.coll.now c.in-Delete.filter c.in-Delete.all))

pub returns-in-FindAndModify : goal.returns-in-FindAndModify
returns-in-FindAndModify c = rw (c.in-FindAndModify.is) (omega (arith, length-FindAndModify c.args.coll.now c.in-FindAndModify.filter c.in-FindAndModify.change))

pub returns-in-Find : goal.returns-in-Find
returns-in-Find c = rw (c.in-Find.is) (omega (arith, length-Find c.args.coll.now c.in-Find.filter c.in-Find.read))
