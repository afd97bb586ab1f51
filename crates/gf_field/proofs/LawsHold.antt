-- The laws of the field, from the lemmas.
use Rattle.std.proofs.Common.{sym, ◌∙◌}
use Rattle.std.specs.Int.Bits.{xor_assoc, xor_self, xor_zero_r}
use Rattle.std.proofs.lemmas.Nat.{xor_comm, xor_lt}
use Rattle.gf_field.specs.Laws.{SumLaws, ProductLaws, InverseLaws, PowerLaws, ZerosLaw, PointsLaw, FormulaLaw}
use Rattle.gf_field.specs.Inverse.{inverse}
use Rattle.gf_field.proofs.Linear.{product-xor_r}
use Rattle.gf_field.proofs.Products.{product-lt, product_comm, product_assoc, one-product_octet}
use Rattle.gf_field.proofs.Inverses.{product-inverse, inverse-lt, zero_from_product, same_inverse, positive_from_product}
use Rattle.gf_field.proofs.Powers.{power_255, power_not_one, same_from_power}
use Rattle.gf_field.proofs.Polynomials.{zero_polynomial, same_polynomial}
use Rattle.gf_field.proofs.Interpolations.{FormulaHolds, formula_holds, value_from_formula}

pub sum_laws : SumLaws
sum_laws = record {
  closed = λ a b p q. xor_lt 8 a b p q;
  commutes = λ a b p q. xor_comm a b;
  associates = λ a b c p q r. xor_assoc a b c;
  zero_adds_nothing = λ a p. xor_zero_r a;
  opposite = λ a p. xor_self a;
}

pub product_laws : ProductLaws
product_laws = record {
  closed = λ a b p q. product-lt a b;
  commutes = λ a b p q. product_comm a b;
  associates = λ a b c p q r. product_assoc a b c;
  one = one-product_octet;
  distributes = λ a b c p q r. product-xor_r a b c;
}

pub inverse_laws : InverseLaws
inverse_laws = record {
  exists = λ a pos low. (inverse a, inverse-lt a, product-inverse a pos low);
  only = λ a b c p q r e f.
      same_inverse a b (positive_from_product a b e) p q e ∙ sym (same_inverse a c (positive_from_product a b e) p r f);
  no_divisors = zero_from_product;
}

pub power_laws : PowerLaws
power_laws = record { whole = power_255; none_before = power_not_one; different = same_from_power }

pub zeros_law : ZerosLaw
zeros_law cs xs o lows apart few zeros = zero_polynomial xs cs o lows apart few zeros

pub points_law : PointsLaw
points_law = record {
  exists = λ places values p.
      let f : FormulaHolds places values = formula_holds places values p.places_octets p.values_octets p.different p.paired in
      (f.coefficients, f.through);
  only = λ places values cs ds p a b. same_polynomial cs ds places values p.places_octets p.different a b;
}

pub formula_law : FormulaLaw
formula_law places values cs x p through =
    value_from_formula cs places values p.places_octets p.values_octets p.different p.paired through x
