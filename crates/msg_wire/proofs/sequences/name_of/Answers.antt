use Rattle.std.proofs.Common.{sym, subst}
use Rattle.bson_doc.specs.Names.{HasNoZero}
use Rattle.bson_doc.proofs.wire.Texts.{zero_parts}
use Rattle.msg_wire.proofs.Names.{text_at-Ok}
use Rattle.msg_wire.proofs.sequences.name_of.Goals as goal

pub returns-clause-no_zero : goal.returns-clause-no_zero
returns-clause-no_zero c =
    subst HasNoZero (text_at-Ok _ _ _ c.in_ok-name.ensures).0 (zero_parts c.args.bytes.now c.in-Some.zero (sym c.in-Some.ensures.first)).1
