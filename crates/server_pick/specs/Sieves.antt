-- What passes a sieve, the form in which the code keeps which servers are suitable.
use denote.Ref.{Bor}
use Rattle.std.specs.Prelude.{Bool, true, false, not, ◌&&◌, List, Option, None, Some}
use Rattle.host_name.specs.Addresses.{Address, is_same_address}
use Rattle.hello_reply.specs.declared.server_description.ServerDescription.{ServerDescription}
use Rattle.read_pref.specs.declared.tag.Tag.{Tag}
use Rattle.topo_rules.specs.Kinds.{is_known, is_primary}
use Rattle.server_pick.specs.Candidates.{is_mongos, is_secondary, is_member}
use Rattle.server_pick.specs.Tags.{fits}
use Rattle.server_pick.specs.declared.sieve.Kinds.{Kinds}
use Rattle.server_pick.specs.declared.sieve.Kinds.TheVariants as kinds
use Rattle.server_pick.specs.declared.sieve.Sieve.{Sieve}

abbrev pub lets : Kinds → ServerDescription → Bool
lets kinds.Nothing d = false
lets kinds.Known d = is_known d
lets kinds.Mongos d = is_mongos d
lets kinds.Primary d = is_primary d
lets kinds.Secondary d = is_secondary d
lets kinds.Member d = is_member d

abbrev pub is_fit : Option (Bor (List Tag)) → ServerDescription → Bool
is_fit None d = true
is_fit (Some tags) d = fits tags.now d

abbrev pub is_other : Option (Bor Address) → ServerDescription → Bool
is_other None d = true
is_other (Some host) d = not (is_same_address d.host host.now)

abbrev pub passes : Sieve → ServerDescription → Bool
passes s d = lets s.kinds d && is_fit s.tags d && is_other s.avoid d

-- The sieve of kinds alone.
abbrev pub plain : Kinds → Sieve
plain ks = record { kinds = ks; tags = None; avoid = None }
