use Rattle.std.proofs.Common.{◌≡◌, ◌<◌, ◌≤◌, ℕ, suc, ◌+◌, ◌-◌, List, length, sym, ap, ◌∙◌, arith}
use Rattle.conn_uri.specs.Escapes.{behind_first, behind_number}
use Rattle.conn_uri.proofs.escapes.source_of.Goals as goal

-- one more byte or escape is behind
behind_number-less : (n i : ℕ) (text : List ℕ) → i < n → behind_number (n - i) text ≡ behind_number (n - (i + 1)) (behind_first text)
behind_number-less n i text lt = let e : n - i ≡ suc (n - (i + 1)) = omega (arith, lt) in ap (λ k. behind_number k text) e

pub loop-preserved : goal.loop-preserved
loop-preserved c =
    let lt = c.loop-test.true in
    record {
      same =
          ap (behind_number (c.args.number - (c.loop.counter + 1))) c.past_first-rest.ensures.rest
          ∙ sym (behind_number-less c.args.number c.loop.counter c.loop.rest.now lt)
          ∙ c.loop.invariant.same;
      counted = omega (arith, lt);
      shorter = let a = c.past_first-rest.ensures.shorter in let b = c.loop.invariant.shorter in omega (arith, a, b);
    }
