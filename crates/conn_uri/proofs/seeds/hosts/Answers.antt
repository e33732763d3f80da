use Rattle.std.proofs.Common.{◌≡◌, not, sym, ap, ◌∙◌, subst}
use Rattle.std.specs.Prelude.{Ok}
use Rattle.conn_uri.specs.Seeds.{host_in, is_path}
use Rattle.conn_uri.proofs.EachLemmas.{read_kept-drop, ok_is_read}
use Rattle.conn_uri.proofs.seeds.hosts.Goals as goal

pub loop-text-preserved : goal.loop-text-preserved
loop-text-preserved c =
    let passes = ap not (ap is_path (sym c.as_str.ensures.value) ∙ sym c.is_path.ensures ∙ c.if-is_path.false) in
    let read = subst (λ t. host_in t ≡ Ok c.in-Ok.host) c.as_str-in-loop-text.ensures.value (ok_is_read _ _ _ _ c.host.ensures c.in-Ok.is) in
    let one = read_kept-drop host_in (λ t. not (is_path t)) c.args.texts.now c.loop-text.hosts c.loop-text.text-index c.text-item.result c.in-Ok.host
    c.loop-text-test.true c.text-item.is passes read in
    rw (c.in_ok-push-in-Ok.ensures.ok) (one ∙ c.loop-text.invariant)
