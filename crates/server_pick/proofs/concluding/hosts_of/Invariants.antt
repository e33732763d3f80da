use Rattle.std.proofs.Common.{◌≡◌, ◌≤◌, ◌+◌, drop, length, map, take}
use Rattle.server_pick.proofs.concluding.hosts_of.Given as goal

abbrev pub invariant-loop-place : goal.invariant-loop-place
invariant-loop-place l =
    (l.left.items ≡ drop l.place l.fn.kept.items)
    × (l.hosts.items ≡ map (λ c. c.host) (take l.place l.fn.kept.items))
    × (length l.fn.kept.items ≤ l.hosts.room + l.place)
