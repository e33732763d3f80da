use Rattle.std.proofs.Common.{◌≡◌, map}
use Rattle.std.specs.List.{range_with_len}
use Rattle.member_hall.specs.Making.{peer_of}
use Rattle.member_hall.proofs.making.members.Given as goal

abbrev pub invariant-loop-place : goal.invariant-loop-place
invariant-loop-place l = l.peers.items ≡ map (peer_of l.set l.hosts) (range_with_len 0 l.place)
