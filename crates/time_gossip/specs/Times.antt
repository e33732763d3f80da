-- The greatest cluster time that was seen (Driver Sessions, Gossipping the cluster time).
use Rattle.std.specs.Prelude.{◌≡◌, ◌<◌, ◌≤◌, nat_lt, List, [], ◌∷◌, ◌++◌, Option, None, Some, All, if◌then◌else◌}
use Rattle.bson_doc.specs.declared.cluster_time.ClusterTime.{ClusterTime}

-- Of the time that is kept and one that comes, the one with the greater stamp; of equal stamps the one that is kept (own: the
-- standard leaves open which of equals counts).
abbrev pub greater : Option ClusterTime → ClusterTime → Option ClusterTime
greater None came = Some came
greater (Some kept) came = if nat_lt kept.stamp came.stamp then Some came else Some kept

-- What is kept behind a list of times.
abbrev pub kept_behind : Option ClusterTime → List ClusterTime → Option ClusterTime
kept_behind kept [] = kept
kept_behind kept (came ∷ later) = kept_behind (greater kept came) later

-- Of the times that came, the first of those with the greatest stamp; none where no time came.
abbrev pub IsFirstGreatest : List ClusterTime → Option ClusterTime → Type 0
IsFirstGreatest came None = came ≡ []
IsFirstGreatest came (Some time) =
    (before after : List ClusterTime) × (came ≡ before ++ time ∷ after)
    × All (λ other. other.stamp < time.stamp) before × All (λ other. other.stamp ≤ time.stamp) after
