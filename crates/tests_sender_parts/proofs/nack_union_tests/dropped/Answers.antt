use Rattle.std.proofs.Common.{◌≡◌, ◌-◌, List, [], ◌∷◌, length, None, Some, sym, ap, ◌∙◌, arith}
use Rattle.std.specs.Prelude.{slice_get}
use Rattle.nack_union.specs.Kept.{Kept, Marked, MayRetire}
use Rattle.tests_sender_parts.proofs.nack_union_tests.dropped.Goals as goal

-- a union of one object may retire to its end
may : (u : Kept) (m : Marked) → u.first ≡ 0 → u.objects ≡ m ∷ [] → MayRetire 1 0 u
may u m first is = record {
  not_back = omega (arith, first);
  within = let many = ap (λ (ms : List Marked). length ms) is in omega (arith, first, many);
  onward = λ x there.
      absurd (none x (ap (slice_get (m ∷ [])) (let e : 1 ≡ 1 - u.first = omega (arith, first) in e) ∙ sym (ap (λ (ms : List Marked). slice_get ms (1 - u.first)) is) ∙ there));
  some = λ lt. absurd (omega (arith, lt));
  moves = λ lt. absurd (omega (arith, lt));
}
  where
    none : (x : Marked) → None ≡ Some x → ⊥
    none x e = cc

pub retire-took-requires : goal.retire-took-requires
retire-took-requires g c = may _ _ c.three_blocks-union.ensures.first c.three_blocks-union.ensures.objects
