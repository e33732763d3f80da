-- Every answer of a member is within the bounds of a message.
use Rattle.std.proofs.Common.{ℕ, ℤ, ◌<◌, Bool, true, false, List, length, codes, if◌then◌else◌, arith}
use Rattle.bson_doc.specs.Documents.{is_text}
use Rattle.bson_doc.specs.declared.value.Document.{Document}
use Rattle.msg_wire.specs.Framing.{frame}
use Rattle.msg_wire.specs.Limits.{most_message}
use Rattle.msg_wire.proofs.Framings.{length-frame}
use Rattle.net_link.specs.declared.event.Effect.{Effect}
use Rattle.net_link.specs.declared.event.Effect.TheVariants.{Added, Known, Refused, Nothing}
use Rattle.member_core.specs.Inside.{IsSmall}
use Rattle.member_core.specs.Members.{MemberState}
use Rattle.member_core.specs.Replies.{find_reply, hello_reply, plain_ok, refusal, reply_by, write_result}
use Rattle.member_core.specs.Sizes.{IsWithin}
use Rattle.member_core.proofs.DepthLemmas.{depth_of-find_reply, depth_of-hello_reply, depth_of-plain_ok, depth_of-refusal, depth_of-write_result}
use Rattle.member_core.proofs.SizeLemmas.{length-find_reply, length-hello_reply, length-plain_ok, length-refusal, length-write_result}

small_hello : (m : MemberState) → IsWithin m.set m.hosts → IsSmall (hello_reply m)
small_hello m within = (omega (arith, depth_of-hello_reply m), omega (arith, within, length-hello_reply m (omega (arith, within))))

small_find : IsSmall find_reply
small_find = (omega (arith, depth_of-find_reply), omega (arith, length-find_reply))

small_plain : IsSmall plain_ok
small_plain = (omega (arith, depth_of-plain_ok), omega (arith, length-plain_ok))

small_refusal : IsSmall refusal
small_refusal = (omega (arith, depth_of-refusal), omega (arith, length-refusal))

small_result : (is_update lead : Bool) → IsSmall (write_result is_update lead)
small_result is_update lead = (omega (arith, depth_of-write_result is_update lead), omega (arith, length-write_result is_update lead))

small_read : (m : MemberState) (is_hello is_find : Bool) → IsWithin m.set m.hosts
    → IsSmall (if is_hello then hello_reply m else if is_find then find_reply else plain_ok)
small_read m true is_find within = small_hello m within
small_read m false true within = small_find
small_read m false false within = small_plain

pub small_reply : (m : MemberState) (name : List ℕ) (lead : Bool) (effect : Effect) → IsWithin m.set m.hosts → IsSmall (reply_by m name lead effect)
small_reply m name lead Added within = small_result (is_text name (codes "update")) lead
small_reply m name lead Known within = small_result (is_text name (codes "update")) lead
small_reply m name lead Refused within = small_refusal
small_reply m name lead Nothing within = small_read m (is_text name (codes "hello")) (is_text name (codes "find")) within

-- The message of a small document is not too long.
pub small_fits : (id to : ℤ) (d : Document) → IsSmall d → most_message < length (frame id to 0 d) → ⊥
small_fits id to d small long = omega (arith, small.1, long, length-frame id to 0 d)
