use Rattle.std.proofs.Common.{◌≡◌, ◌∙◌, ◌+◌, ◌-◌, ◌++◌, List, [], ◌∷◌, length, None, Some, false, refl, sym, ap, arith}
use Rattle.std.specs.Prelude.{slice_get, set}
use Rattle.fec_plan.specs.Partition.{Cut, most_blocks}
use Rattle.nack_union.specs.Kept.{Kept, Marked, MayRetire, admitted_stream}
use Rattle.nack_union.specs.UnionState.{UnionState}
use Rattle.tests_sender_parts.proofs.nack_union_tests.stream.Goals as goal

same : (x y : Marked) → Some x ≡ Some y → x ≡ y
same x y e = cc

-- a union of one stream may drop its first block
may : (u : Kept) (m : Marked) → u.first ≡ 0 → u.objects ≡ m ∷ [] → m.first ≡ 0 → m.cut.l ≡ None → m.info ≡ false → MayRetire 0 1 u
may u m first is start plain bare = record {
  not_back = omega (arith, first);
  within = let many = ap (λ (ms : List Marked). length ms) is in omega (arith, first, many);
  onward = λ x there. let e = ap (λ (y : Marked). y.first) (it x there) in omega (arith, e, start);
  some = λ lt. let many = ap (λ (ms : List Marked). length ms) is in omega (arith, first, many);
  moves = λ lt x there. record {
    stream = sym (ap (λ (y : Marked). y.cut.l) (it x there)) ∙ plain;
    plain = sym (ap (λ (y : Marked). y.info) (it x there)) ∙ bare;
    most = let most : most_blocks ≡ 16777216 = refl in omega (arith, most);
  };
}
  where
    it : (x : Marked) → slice_get u.objects (0 - u.first) ≡ Some x → m ≡ x
    it x there = same m x (ap (slice_get (m ∷ [])) (let e : 0 ≡ 0 - u.first = omega (arith, first) in e) ∙ sym (ap (λ (ms : List Marked). slice_get ms (0 - u.first)) is) ∙ there)

pub returns : goal.returns
returns g c =
    let m : Marked = admitted_stream c.stream_plan-plan.result c.new-union.result.p.blocks in
    let grows : Marked = record m { closed = c.from.result + 1 } in
    let first : c.admit_stream.new.self.kept.first ≡ 0 =
    ap (λ (u : UnionState). u.kept.first) c.in-Ok.ensures.exact ∙ ap (λ (u : UnionState). u.kept.first) c.new-union.ensures.empty in
    let objects : c.admit_stream.new.self.kept.objects ≡ m ∷ [] =
    ap (λ (u : UnionState). u.kept.objects) c.in-Ok.ensures.exact ∙ ap (λ (u : UnionState). u.kept.objects ++ m ∷ []) c.new-union.ensures.empty in
    let grown = c.grow.ensures.exact m (ap (λ (ms : List Marked). slice_get ms (length ms - 1)) objects) in
    may c.grow.new.self.kept grows (ap (λ (u : UnionState). u.kept.first) grown ∙ first)
    (ap (λ (u : UnionState). u.kept.objects) grown ∙ ap (λ (ms : List Marked). set ms (length ms - 1) grows) objects)
    refl (ap (λ (cut : Cut). cut.l) c.stream_plan-plan.ensures) refl
