use Rattle.std.proofs.Common.{◌≡◌, ℕ, List, suc, nat_lt, length, false, true, refl, ap, sym, ◌∙◌, arith}
use Rattle.norm_order.specs.Sets.{with_members, is_member}
use Rattle.symbol_mask.specs.Places.{Places}
use Rattle.symbol_mask.proofs.Bits.{few_members}
use Rattle.symbol_mask.proofs.Counting.{length-with_member, more, not_true, not_false}
use Rattle.symbol_mask.proofs.mask.Mask.take_all.Goals as goal

one_more : (c : goal.Then-insert) → length c.insert.new.self.members ≡ suc (length c.places.self.members)
one_more c =
    let new : is_member nat_lt c.in-Some.place c.places.self.members ≡ false = not_true _ (sym c.insert.ensures.new ∙ c.if-insert.true) in
    ap length c.insert.ensures.members ∙ length-with_member c.in-Some.place c.places.self.members
    ∙ ap (λ b. more b (length c.places.self.members)) new

pub overflow_add-new : goal.overflow_add-new
overflow_add-new c =
    let many = one_more c in
    let few = c.insert.ensures.few in
    let size = c.places.invariant.size in
    let most = c.requires.few in
    let so_far = c.places.invariant.new in
    omega (arith, many, few, most, size, so_far)

pub places-preserved-then-insert : goal.places-preserved-then-insert
places-preserved-then-insert c = record {
  members =
      ap (with_members nat_lt c.take_lowest.new.self.members) c.insert.ensures.members
      ∙ ap (λ (xs : List ℕ). with_members nat_lt xs c.places.self.members) (sym c.in-Some.ensures.members)
      ∙ c.places.invariant.members;
  new = let many = one_more c in let so_far = c.places.invariant.new in omega (arith, many, so_far);
  few = let few = c.insert.ensures.few in let size = c.places.invariant.size in omega (arith, few, size);
  size = c.insert.ensures.size ∙ c.places.invariant.size;
  other = c.take_lowest.ensures.size ∙ c.places.invariant.other;
}

pub places-preserved : goal.places-preserved
places-preserved c = record {
  members =
      ap (with_members nat_lt c.take_lowest.new.self.members) c.insert.ensures.members
      ∙ ap (λ (xs : List ℕ). with_members nat_lt xs c.places.self.members) (sym c.in-Some.ensures.members)
      ∙ c.places.invariant.members;
  new =
      let old : is_member nat_lt c.in-Some.place c.places.self.members ≡ true = not_false _ (sym c.insert.ensures.new ∙ c.if-insert.false) in
      ap length c.insert.ensures.members ∙ length-with_member c.in-Some.place c.places.self.members
      ∙ ap (λ b. more b (length c.places.self.members)) old ∙ c.places.invariant.new;
  few = let few = c.insert.ensures.few in let size = c.places.invariant.size in omega (arith, few, size);
  size = c.insert.ensures.size ∙ c.places.invariant.size;
  other = c.take_lowest.ensures.size ∙ c.places.invariant.other;
}

pub places-init : goal.places-init
places-init c = record {
  members = refl;
  new = omega arith;
  few =
      let size = ap (λ (p : Places). p.size) c.self.view_is in
      let many = ap (λ (p : Places). length p.members) c.self.view_is in
      let few = few_members c.self.inside.words.items c.self.inside.size in
      omega (arith, size, many, few);
  size = refl;
  other = refl;
}
