-- The stream of a connection stands at the connection's place.
use Rattle.std.proofs.Common.{◌≡◌, refl, ap, sym, ◌∙◌, subst, arith, eqb, ◌-◌, ℕ, zero, suc, ◌+◌, ◌<◌, Bool, true, false, List, [], ◌∷◌, ◌++◌, length, Option, None, Some, option_map, find, inl, inr}
use Rattle.std.proofs.lemmas.Bool.{eq-eqb}
use Rattle.std.proofs.lemmas.Bool.Decides.{eqb_tells}
use Rattle.std.specs.Prelude.{slice_get, slice_set}
use Rattle.std.specs.Option.{option_and_then}
use Rattle.desk_trail.specs.States.{ConnStream, ServerState, stream_of}
use Rattle.server_state.specs.Inside.{IsKept, state_of, streams_from, with_stream}
use Rattle.server_state.specs.declared.server.Server.TheInside.{Inside}

-- the stream of a connection among those that are kept
abbrev pub kept_of : ℕ → List ConnStream → Option ℕ
kept_of conn kept = option_map (λ l. l.stream) (find (λ l. eqb l.conn conn) kept)

different : (m n : ℕ) → (m ≡ n → ⊥) → eqb m n ≡ false
different m n h = elim (eqb_tells m n) [ inl w ↦ absurd (h w.1) | inr w ↦ w.0 ]

-- another connection's stream changes nothing of it
kept_of-other : (conn other : ℕ) (o : Option ℕ) (kept : List ConnStream) → (other ≡ conn → ⊥) → kept_of conn (with_stream other o kept) ≡ kept_of conn kept
kept_of-other conn other None kept h = refl
kept_of-other conn other (Some s) kept h = rw (different other conn h) refl

-- nor do those of connections behind it
kept_of-below : (conn from : ℕ) (os : List (Option ℕ)) (kept : List ConnStream) → conn < from → kept_of conn (streams_from from os kept) ≡ kept_of conn kept
kept_of-below conn from [] kept l = refl
kept_of-below conn from (o ∷ os) kept l =
    kept_of-below conn (from + 1) os (with_stream from o kept) (omega arith)
    ∙ kept_of-other conn from o kept (λ e. absurd (omega (arith, e)))

here : (conn : ℕ) (o : Option ℕ) (kept : List ConnStream) → kept_of conn kept ≡ None → kept_of conn (with_stream conn o kept) ≡ o
here conn None kept h = h
here conn (Some s) kept h = rw (eq-eqb conn conn refl) refl

kept_of-at : (from i conn : ℕ) (os : List (Option ℕ)) (kept : List ConnStream) → conn ≡ from + i → kept_of conn kept ≡ None →
    kept_of conn (streams_from from os kept) ≡ option_and_then (λ o. o) (slice_get os i)
kept_of-at from i conn [] kept e h = h
kept_of-at from zero conn (o ∷ os) kept e h =
    let same : conn ≡ from = omega (arith, e) in
    kept_of-below conn (from + 1) os (with_stream from o kept) (omega (arith, e))
    ∙ rw (← same) (here conn o kept h)
kept_of-at from (suc i) conn (o ∷ os) kept e h =
    kept_of-at (from + 1) i conn os (with_stream from o kept) (omega (arith, e))
    (kept_of-other conn from o kept (λ same. absurd (omega (arith, e, same))) ∙ h)

-- of the connections from 1 on
pub kept_of-place : (i : ℕ) (os : List (Option ℕ)) → kept_of (i + 1) (streams_from 1 os []) ≡ option_and_then (λ o. o) (slice_get os i)
kept_of-place i os = kept_of-at 1 i (i + 1) os [] (omega arith) refl

pub kept_of-zero : (os : List (Option ℕ)) → kept_of 0 (streams_from 1 os []) ≡ None
kept_of-zero os = kept_of-below 0 1 os [] (omega arith)

-- one more connection
pub streams_from-more : (from : ℕ) (os : List (Option ℕ)) (o : Option ℕ) (kept : List ConnStream) →
    streams_from from (os ++ o ∷ []) kept ≡ with_stream (from + length os) o (streams_from from os kept)
streams_from-more from [] o kept = ap (λ n. with_stream n o kept) (omega arith)
streams_from-more from (p ∷ os) o kept =
    streams_from-more (from + 1) os o (with_stream from p kept)
    ∙ ap (λ n. with_stream n o (streams_from (from + 1) os (with_stream from p kept))) (omega arith)

-- a place that has none
pub none-at : (os : List (Option ℕ)) (i : ℕ) → i < length os → option_and_then (λ o. o) (slice_get os i) ≡ None → slice_get os i ≡ Some None
none-at [] i l e = absurd (omega arith)
none-at (o ∷ os) zero l e = ap (λ p. Some p) e
none-at (o ∷ os) (suc i) l e = none-at os i (omega arith) e

-- the latest connection gets its stream
pub streams_from-last : (from i stream : ℕ) (os : List (Option ℕ)) (kept : List ConnStream) → length os ≡ suc i → slice_get os i ≡ Some None →
    streams_from from (slice_set os i (Some stream)) kept ≡ record { conn = from + i; stream = stream } ∷ streams_from from os kept
streams_from-last from i stream [] kept l e = absurd cc
streams_from-last from zero stream (o ∷ p ∷ os) kept l e = absurd (omega (arith, l))
streams_from-last from zero stream (o ∷ []) kept l e =
    let none : o ≡ None = cc in
    rw none (ap (λ n. let m : ConnStream = record { conn = n; stream = stream } in m ∷ kept) (omega arith))
streams_from-last from (suc i) stream (o ∷ os) kept l e =
    streams_from-last (from + 1) i stream os (with_stream from o kept) (omega (arith, l)) e
    ∙ ap (λ n. let m : ConnStream = record { conn = n; stream = stream } in m ∷ streams_from (from + 1) os (with_stream from o kept)) (omega arith)

-- a server whose latest connection gets its stream
abbrev pub with_latest : ServerState → ℕ → ServerState
with_latest s stream = record s { conn_streams = record { conn = s.pool.state.dialled; stream = stream } ∷ s.conn_streams }

latest : (s : Inside) (last stream : ℕ) → IsKept s → last ≡ length s.streams.items → 0 < s.pool.dialled → stream_of (state_of s) s.pool.dialled ≡ None →
    record (state_of s) { conn_streams = streams_from 1 (slice_set s.streams.items (last - 1) (Some stream)) [] } ≡ with_latest (state_of s) stream
latest s last stream k l some none =
    let os = s.streams.items in
    let i = s.pool.dialled - 1 in
    let size : length os ≡ suc i = omega (arith, k.dialled, some) in
    let number : i + 1 ≡ s.pool.dialled = omega (arith, some) in
    let nothing : option_and_then (λ o. o) (slice_get os i) ≡ None = sym (kept_of-place i os) ∙ ap (λ n. kept_of n (streams_from 1 os [])) number ∙ none in
    let empty = none-at os i (omega (arith, size)) nothing in
    let place : last - 1 ≡ i = omega (arith, l, k.dialled) in
    ap (λ ls. let t : ServerState = record (state_of s) { conn_streams = ls } in t)
    (ap (λ n. streams_from 1 (slice_set os n (Some stream)) []) place
    ∙ streams_from-last 1 i stream os [] size empty
    ∙ ap (λ n. let m : ConnStream = record { conn = n; stream = stream } in m ∷ streams_from 1 os []) (omega (arith, some)))

pub latest_of : (s : Inside) (now : ServerState) (last stream : ℕ) → state_of s ≡ now → IsKept s → last ≡ length s.streams.items → 0 < now.pool.state.dialled
    → stream_of now now.pool.state.dialled ≡ None
    → record (state_of s) { conn_streams = streams_from 1 (slice_set s.streams.items (last - 1) (Some stream)) [] } ≡ with_latest now stream
latest_of s now last stream v k l some none =
    latest s last stream k l (subst (λ (n : ServerState). 0 < n.pool.state.dialled) (sym v) some)
    (subst (λ (n : ServerState). stream_of n n.pool.state.dialled ≡ None) (sym v) none)
    ∙ ap (λ n. with_latest n stream) v
