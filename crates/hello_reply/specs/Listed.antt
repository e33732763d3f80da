-- The hosts that a reply lists (SDAM, ServerDescription: hosts, passives, arbiters).
use denote.Ref.{Bor}
use Rattle.std.specs.Prelude.{◌≡◌, ◌-◌, ◌^◌, min, nat_le, List, [], ◌∷◌, ◌++◌, Result, Ok, Err, length, fold, if◌then◌else◌}
use Rattle.std.specs.BTreeSet.{BTreeSet, contains}
use Rattle.std.specs.List.{list_any}
use Rattle.bson_doc.specs.declared.name.Name.{Name}
use Rattle.bson_doc.specs.declared.value.Value.{Value}
use Rattle.host_name.specs.Addresses.{Address, is_same_address, address_cmp}
use Rattle.hello_reply.specs.Fields.{hosts_at}
use Rattle.hello_reply.specs.declared.fault.ReplyFault.{ReplyFault}
use Rattle.hello_reply.specs.declared.fault.ReplyFault.TheVariants as fault
use Rattle.hello_reply.specs.declared.field_name.FieldName.TheVariants as field

-- One more host goes last, unless it is there.
abbrev pub with_host : List Address → Address → List Address
with_host kept host = if list_any (is_same_address host) kept then kept else kept ++ host ∷ []

-- Each host once, where it comes first.
abbrev pub kept_once : List Address → List Address
kept_once hosts = fold with_host [] hosts

-- The hosts of the three lists, one list after the other, each once.
abbrev pub listed : List (Name × Value) → List Address
listed es = kept_once (hosts_at field.Hosts es ++ hosts_at field.Passives es ++ hosts_at field.Arbiters es)

-- The hosts, or how many they are where they are more than 1,000 (own: the limit; the count stands at the greatest number of
-- 32 bits where it would pass that).
abbrev pub within_limit : List Address → Result (List Address) ReplyFault
within_limit hosts = if nat_le (length hosts) 1000 then Ok hosts else Err (fault.Many (min (length hosts) (2 ^ 32 - 1)))

-- The set has exactly those hosts that were kept (own).
pub record HasSeen (seen : BTreeSet (Bor Address)) (kept : List Address) : Type 0 where
  pub same : (q : Bor Address) → contains (λ x y. address_cmp x.now y.now) seen q ≡ list_any (is_same_address q.now) kept
