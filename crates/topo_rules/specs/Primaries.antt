-- Whether a primary is stale, and what the greatest election and set version are behind it (SDAM, updateRSFromPrimary).
use Rattle.std.specs.Prelude.{ℤ, Bool, false, ◌&&◌, if◌then◌else◌, Option, None, Some, pos, int_le, is_some}
use Rattle.std.specs.Ordering.{int_cmp, ordering_then, is_lt, is_gt}
use Rattle.std.specs.Option.{option_cmp}
use Rattle.bson_doc.specs.Ids.{oid_cmp}
use Rattle.bson_doc.specs.declared.ids.Oid.{Oid}
use Rattle.hello_reply.specs.declared.server_description.ServerDescription.{ServerDescription}
use Rattle.topo_rules.specs.declared.maxima.Maxima.{Maxima}

-- At wire version 17 and above the pair (electionId, setVersion) is compared with the pair of the maxima, the election
-- first; none stands below all. A lesser pair is stale; of another one both maxima become the primary's.
abbrev pub elected : ServerDescription → Maxima → Option Maxima
elected d most =
    if is_lt (ordering_then (option_cmp oid_cmp d.election most.election) (option_cmp int_cmp d.set_version most.version))
    then None
    else Some (record { election = d.election; version = d.set_version })

-- What came is below the maxima, the set version first: election, set version, and then the two maxima. Where one of the
-- four is none it is not.
abbrev pub is_outranked : Option Oid → Option ℤ → Option Oid → Option ℤ → Bool
is_outranked (Some e) (Some v) (Some most_e) (Some most_v) = is_gt (ordering_then (int_cmp most_v v) (oid_cmp most_e e))
is_outranked _ _ _ _ = false

-- Below wire version 17 a pair that is outranked is stale. Of another one whose two parts are there, the greatest election
-- becomes the primary's; a set version that is above the greatest, or meets none, becomes the greatest.
abbrev pub elected_before_17 : ServerDescription → Maxima → Option Maxima
elected_before_17 d most =
    if is_outranked d.election d.set_version most.election most.version then None
    else Some (record {
      election = if is_some d.election && is_some d.set_version then d.election else most.election;
      version = if is_lt (option_cmp int_cmp most.version d.set_version) then d.set_version else most.version;
    })

-- None where the primary is stale, else the maxima behind it.
abbrev pub judged : ServerDescription → Maxima → Option Maxima
judged d most = if int_le (pos 17) d.max_wire then elected d most else elected_before_17 d most
