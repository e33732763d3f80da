use Rattle.std.proofs.Common.{rules, ◌≡◌, ℕ, Option, Some, None, refl, tests, ◌∙◌, sym}
use Rattle.std.specs.Option.{option_map}
use Rattle.std.proofs.lemmas.Iterator.{YieldsList-from_range}
use Rattle.std.proofs.lemmas.Iterator.Search.{find_from_yields_List}
use Rattle.msg_wire.specs.Flags.{refused_bit, is_set}
use Rattle.msg_wire.proofs.flags.refused_bit_of.Goals as goal

option_map-self : (o : Option ℕ) → option_map (λ x. x) o ≡ o
option_map-self None = refl
option_map-self (Some x) = refl

pub returns : goal.returns
unfolding refused_bit
returns c =
    let e = find_from_yields_List (is_set c.args.flags) _ _ c.find.result c.find.ensures.ran (YieldsList-from_range 2 16 14 refl refl) (λ x b q k. search (rules, tests)) in
    sym (option_map-self c.find.result) ∙ e
