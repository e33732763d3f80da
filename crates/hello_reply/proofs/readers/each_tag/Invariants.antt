use Rattle.std.proofs.Common.{◌≡◌, drop}
use Rattle.hello_reply.specs.Columns.{tag_of}
use Rattle.hello_reply.specs.Each.{each_or_none}
use Rattle.hello_reply.proofs.EachLemmas.{behind}
use Rattle.hello_reply.proofs.readers.each_tag.Given as goal

abbrev pub invariant-loop-name : goal.invariant-loop-name
invariant-loop-name l = behind l.tags (each_or_none tag_of (drop l.name-index l.elements)) ≡ each_or_none tag_of l.elements
