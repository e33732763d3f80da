use Rattle.std.proofs.Common.{◌≡◌, drop}
use Rattle.hello_reply.specs.Columns.{host_of}
use Rattle.hello_reply.specs.Each.{each_or_none}
use Rattle.hello_reply.proofs.EachLemmas.{behind}
use Rattle.hello_reply.proofs.readers.each_host.Given as goal

abbrev pub invariant-loop-item : goal.invariant-loop-item
invariant-loop-item l = behind l.hosts (each_or_none host_of (drop l.item-index l.items)) ≡ each_or_none host_of l.items
