-- The cluster time that a reply gossips (Driver Sessions, Gossipping the cluster time).
use Rattle.std.specs.Prelude.{Option, codes}
use Rattle.std.specs.Option.{option_map, option_and_then}
use Rattle.bson_doc.specs.Readings.{stamp_of}
use Rattle.bson_doc.specs.declared.cluster_time.ClusterTime.{ClusterTime}
use Rattle.bson_doc.specs.declared.value.Document.{Document}
use Rattle.cmd_outcome.specs.Replies.{document_at, field}

-- A document with a timestamp clusterTime is a cluster time, with all else that it has.
abbrev pub time_from : Document → Option ClusterTime
time_from body = option_map (λ stamp. record { stamp = stamp; body = body }) (option_and_then stamp_of (field (codes "clusterTime") body))

-- The reply's `$clusterTime`, none where it is absent or no cluster time.
abbrev pub time_in : Document → Option ClusterTime
time_in reply = option_and_then time_from (document_at (codes "$clusterTime") reply)
