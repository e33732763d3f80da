-- What a member keeps.
-- own: the refinement.
use Rattle.std.specs.Prelude.{◌+◌, ◌<◌, ◌≤◌, length}
use Rattle.bson_doc.specs.Documents.{depth_of}
use Rattle.bson_doc.specs.declared.value.Document.{Document}
use Rattle.bson_doc.specs.wire.Limits.{most_levels}
use Rattle.bson_doc.specs.wire.Spelled.{spelled}
use Rattle.msg_wire.specs.Limits.{most_message}
use Rattle.member_core.specs.Members.{MemberState}
use Rattle.member_core.specs.Sizes.{IsWithin}
use Rattle.member_core.specs.declared.member.Member.TheInside.{Inside}

-- The member that the fields stand for.
abbrev pub state_of : Inside → MemberState
state_of m = record { set = m.set; hosts = m.hosts; place = m.place; log = m.log; election = m.election; changes = m.changes }

-- The member's place is one of the hosts, and the set is within its bound.
pub record IsKept (m : Inside) : Type 0 where
  pub place : m.place < length m.hosts
  pub within : IsWithin m.set m.hosts

-- The document has a message: it is neither too deep nor, with the 21 bytes in front of it, too long.
abbrev pub IsSmall : Document → Type 0
IsSmall d = (depth_of d ≤ most_levels) × (length (spelled d) + 21 ≤ most_message)
