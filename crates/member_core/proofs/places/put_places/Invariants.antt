use Rattle.std.proofs.Common.{◌≡◌, take}
use Rattle.std.specs.BTreeMap.{get}
use Rattle.member_core.specs.Places.{key_cmp, placed}
use Rattle.member_core.specs.declared.key.Key.{Key}
use Rattle.member_core.proofs.places.put_places.Given as goal

abbrev pub invariant-putting : goal.invariant-putting
invariant-putting l = (key : Key) → get key_cmp l.places key ≡ placed l.from (take l.index l.entries) key (get key_cmp l.initial.places key)
