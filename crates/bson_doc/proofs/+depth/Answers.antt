use Rattle.std.proofs.Common.{arith}
use Rattle.bson_doc.proofs.Depths.{depth_of-elements, depth_inside-Array}
use Rattle.bson_doc.proofs.+depth.Goals as goal

pub depth::depth_of_value-returns-in-Array : goal.depth::depth_of_value-returns-in-Array
depth::depth_of_value-returns-in-Array t c = rw c.in-Array.is (grind (arith, depth_inside-Array c.in-Array.items))

pub value::Document::depth-returns : goal.value::Document::depth-returns
value::Document::depth-returns t c = grind (arith, depth_of-elements c.args.self.now)
