use Rattle.std.proofs.Common.{sym, ◌∙◌}
use Rattle.hello_reply.specs.Columns.{host_of}
use Rattle.hello_reply.proofs.EachLemmas.{each_or_none-drop}
use Rattle.hello_reply.proofs.readers.each_host.Goals as goal

pub loop-item-preserved : goal.loop-item-preserved
loop-item-preserved c =
    let read = sym c.in_ok-host.ensures ∙ c.in-Some.is in
    let one = each_or_none-drop host_of c.args.items.now c.loop-item.hosts c.loop-item.item-index c.item-item.result c.in-Some.host
    c.loop-item-test.true c.item-item.is read in
    rw (c.in_ok-push-in-Some.ensures.ok) (one ∙ c.loop-item.invariant)
