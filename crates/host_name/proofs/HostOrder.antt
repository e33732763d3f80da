-- The order of hosts is total, only equal hosts tie in it, and equality is what ties.
use Rattle.std.proofs.Common.{◌≡◌, ℕ, ◌&&◌, Ordering, refl, sym, ◌∙◌, nat_eq, arith}
use Rattle.std.proofs.lemmas.Bool.Decides.{nat_tests}
use Rattle.std.proofs.lemmas.Cmp.{nat_cmp_total, nat_list_cmp_total}
use Rattle.std.specs.Cmp.{IsEquivalence, IsTotalOrder, eq_by_cmp_equiv, then_total, on_total}
use Rattle.std.specs.Cmp.Lexicographic.{slice_cmp, texts_ties}
use Rattle.std.specs.FinMap as map
use Rattle.std.specs.Ordering.{nat_cmp, eq_by_cmp, is_eq, ordering_then}
use Rattle.std.specs.declared.cmp.Ordering.TheVariants.{Less, Equal, Greater}
use Rattle.host_name.specs.Addresses.{Address, address_cmp, is_same_address}

pub host_total : IsTotalOrder address_cmp
host_total = then_total (on_total (λ (h : Address). h.name) nat_list_cmp_total) (on_total (λ (h : Address). h.port) nat_cmp_total)

first_tie : (r s : Ordering) → ordering_then r s ≡ Equal → r ≡ Equal
first_tie Less s e = e
first_tie Equal s e = refl
first_tie Greater s e = e

second_tie : (r s : Ordering) → ordering_then r s ≡ Equal → s ≡ Equal
second_tie Less s e = cc
second_tie Equal s e = e
second_tie Greater s e = cc

pub host_same : map.IsAntisymmetric address_cmp
host_same x y e =
    let name = map.slice_cmp-IsAntisymmetric map.nat_cmp-IsAntisymmetric x.name y.name (first_tie _ _ e) in
    let port = map.nat_cmp-IsAntisymmetric x.port y.port (second_tie _ _ e) in
    λ i. record { name = name i; port = port i }

both_tie : (r s : Ordering) → (is_eq r && is_eq s) ≡ is_eq (ordering_then r s)
both_tie Less s = refl
both_tie Equal s = refl
both_tie Greater s = refl

number_ties : (a b : ℕ) → nat_eq a b ≡ eq_by_cmp nat_cmp a b
number_ties a b = grind (arith, nat_tests)

pub host_ties : (x y : Address) → is_same_address x y ≡ eq_by_cmp address_cmp x y
host_ties x y = (λ i. texts_ties x.name y.name i && number_ties x.port y.port i) ∙ both_tie (slice_cmp nat_cmp x.name y.name) (nat_cmp x.port y.port)

-- equality of hosts is an equivalence
pub same_equivalence : IsEquivalence is_same_address
same_equivalence =
    let by_order : IsEquivalence (eq_by_cmp address_cmp) = eq_by_cmp_equiv host_total in
    record {
      refl = λ x. host_ties x x ∙ by_order.refl x;
      symm = λ x y. host_ties x y ∙ by_order.symm x y ∙ sym (host_ties y x);
      congr = λ x y z same. host_ties x z ∙ by_order.congr x y z (sym (host_ties x y) ∙ same) ∙ sym (host_ties y z);
    }
