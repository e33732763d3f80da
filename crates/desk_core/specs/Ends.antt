-- How a check that runs ends, by what the net gave.
use Rattle.std.specs.Prelude.{◌≡◌, ◌≤◌, ℕ, ◌-◌, true, Option, None, Some}
use Rattle.bson_doc.specs.declared.cluster_time.ClusterTime.{ClusterTime}
use Rattle.host_name.specs.Addresses.{Address}
use Rattle.topo_rules.specs.declared.event.TopoEvent.{TopoEvent}
use Rattle.topo_rules.specs.declared.event.TopoEvent.TheVariants as event
use Rattle.msg_wire.specs.declared.message.Message.{Message}
use Rattle.desk_wire.specs.declared.answers.Pulled.{Pulled}
use Rattle.desk_wire.specs.declared.answers.Pulled.TheVariants as pulled
use Rattle.desk_trail.specs.declared.entry.CheckHow.{CheckHow}
use Rattle.desk_trail.specs.declared.entry.CheckHow.TheVariants as how
use Rattle.desk_trail.specs.Legal.{is_reply_end}
use Rattle.desk_trail.specs.Owed.{IsReplyOf}

-- A whole message came.
pub record IsWhole (answer : Pulled) : Type 0 where
  pub message : Message
  pub came : answer ≡ pulled.Whole message

-- What the net gave makes this end of a check of the host that began at a moment, with this limit; and what it is offered as: the
-- reply, or that the check broke (Server Monitoring; SDAM, Error handling).
abbrev pub IsEndBy : Address → (began limit moment : ℕ) → Pulled → TopoEvent → CheckHow → Type 0
IsEndBy host began limit moment answer offered (how.Reply sample) =
    (sample ≡ moment - began) × IsReplyOf host sample offered × IsWhole answer
IsEndBy host began limit moment answer offered (how.Refused code) = (offered ≡ event.Broken host None) × IsWhole answer
IsEndBy host began limit moment answer offered how.Cut = (offered ≡ event.Broken host None) × (answer ≡ pulled.End)
IsEndBy host began limit moment answer offered how.Fault = (offered ≡ event.Broken host None) × (answer ≡ pulled.Fault)
IsEndBy host began limit moment answer offered how.Late =
    (offered ≡ event.Broken host None) × (answer ≡ pulled.NotYet) × (limit ≤ moment)
IsEndBy host began limit moment answer offered (how.Bad at) = offered ≡ event.Broken host None
IsEndBy host began limit moment answer offered how.NoDial = ⊥

-- Only a reply has a cluster time (Driver Sessions, Gossipping the cluster time).
abbrev pub IsOfReply : CheckHow → Option ClusterTime → Type 0
IsOfReply h None = Unit {0}
IsOfReply h (Some time) = is_reply_end h ≡ true
