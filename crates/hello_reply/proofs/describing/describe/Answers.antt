use Rattle.std.proofs.Common.{[], sym, subst}
use Rattle.std.specs.List.{IsDistinct}
use Rattle.host_name.specs.Addresses.{is_same_address}
use Rattle.hello_reply.specs.declared.server_description.ServerDescription.{ServerDescription}
use Rattle.hello_reply.proofs.ListedLemmas.{kept_once-distinct, listed-distinct}
use Rattle.hello_reply.proofs.describing.describe.Goals as goal

pub returns-then-not-is_ok-clause-differ : goal.returns-then-not-is_ok-clause-differ
returns-then-not-is_ok-clause-differ c =
    let Differ : ServerDescription → Type 0 = λ d. IsDistinct is_same_address d.listed in
    subst Differ (sym c.in_ok-default_unknown.ensures) (kept_once-distinct [])

pub returns-clause-differ : goal.returns-clause-differ
returns-clause-differ c =
    let Differ : ServerDescription → Type 0 = λ d. IsDistinct is_same_address d.listed in
    subst Differ (sym c.in_ok-described.ensures) (listed-distinct c.args.reply.now.elements)
