use Rattle.std.proofs.Common.{◌≡◌, ◌∙◌, ap, sym, arith, ◌+◌, ◌-◌, [], Some, None}
use Rattle.std.proofs.lemmas.Option.{slice_get-get_or, slice_get_past}
use Rattle.std.specs.Option.{option_and_then}
use Rattle.std.specs.Prelude.{slice_get}
use Rattle.server_state.specs.Inside.{streams_from}
use Rattle.server_state.proofs.StreamLemmas.{kept_of, kept_of-place, kept_of-zero}
use Rattle.server_state.proofs.server.stream_at.Goals as goal

pub returns-then-conn-eq0 : goal.returns-then-conn-eq0
returns-then-conn-eq0 c = sym (ap (λ n. kept_of n (streams_from 1 c.args.streams.now [])) c.if-conn-eq0.true ∙ kept_of-zero c.args.streams.now)

pub returns-in-Some : goal.returns-in-Some
returns-in-Some c =
    let there : slice_get c.args.streams.now (c.args.conn - 1) ≡ Some c.in-Some.stream.now =
    slice_get-get_or c.args.streams.now (c.args.conn - 1) c.in-Some.stream.now c.in-Some.ensures.lookup.3.0 ∙ ap (λ o. Some o) (sym c.in-Some.ensures.lookup.1) in
    let number : c.args.conn ≡ c.args.conn - 1 + 1 = omega (arith, c.if-conn-eq0.false) in
    sym (ap (λ n. kept_of n (streams_from 1 c.args.streams.now [])) number
    ∙ kept_of-place (c.args.conn - 1) c.args.streams.now
    ∙ ap (option_and_then (λ o. o)) there)

pub returns-in-None : goal.returns-in-None
returns-in-None c =
    let nowhere : slice_get c.args.streams.now (c.args.conn - 1) ≡ None = slice_get_past c.args.streams.now (c.args.conn - 1) c.in-None.ensures.lookup.3 in
    let number : c.args.conn ≡ c.args.conn - 1 + 1 = omega (arith, c.if-conn-eq0.false) in
    sym (ap (λ n. kept_of n (streams_from 1 c.args.streams.now [])) number
    ∙ kept_of-place (c.args.conn - 1) c.args.streams.now
    ∙ ap (option_and_then (λ o. o)) nowhere)
