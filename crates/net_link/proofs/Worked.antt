-- The definitions at values worked out by hand.
use Rattle.std.proofs.Common.{◌≡◌, true, false, List, [], ◌∷◌, refl}
use Rattle.net_link.specs.Causes.{next_count}
use Rattle.net_link.specs.Script.{gone, piece_size}
use Rattle.net_link.specs.Seen.{seen}
use Rattle.net_link.specs.declared.event.NetEvent.{NetEvent}
use Rattle.net_link.specs.declared.event.NetEvent.TheVariants as event

-- Two streams, and an election in between.
abbrev two_streams : List NetEvent
two_streams =
    event.Dialled 0 (97 ∷ []) ∷ event.Out 0 (1 ∷ 2 ∷ []) ∷ event.Dialled 1 (98 ∷ []) ∷ event.Full 1 ∷ event.Elected 1 ∷ event.Came 0 (3 ∷ [])
    ∷ event.Out 1 (9 ∷ []) ∷ event.Fault 1 ∷ event.Dry 0 ∷ event.Out 0 (4 ∷ []) ∷ event.Came 0 (5 ∷ []) ∷ event.Ended 0 ∷ event.Closed 0 ∷ []

seen_first : seen 0 two_streams ≡ record { out = 1 ∷ 2 ∷ 4 ∷ []; came = 3 ∷ 5 ∷ []; ended = true; fault = false; waits = false }
unfolding seen
seen_first = refl

seen_second : seen 1 two_streams ≡ record { out = 9 ∷ []; came = []; ended = false; fault = true; waits = false }
unfolding seen
seen_second = refl

waits-dry : (seen 0 (event.Out 0 (1 ∷ []) ∷ event.Dry 0 ∷ event.Full 1 ∷ [])).waits ≡ true
unfolding seen
waits-dry = refl

-- A plan of no bytes a read hands out one.
piece_size-zero : piece_size 4 (record gone { left = 7 ∷ 8 ∷ [] }) ≡ 1
piece_size-zero = refl

piece_size-most : piece_size 4 (record gone { left = 7 ∷ 8 ∷ 9 ∷ []; most = 2 }) ≡ 2
piece_size-most = refl

next_count-last : next_count 18446744073709551615 ≡ 18446744073709551615
next_count-last = refl
