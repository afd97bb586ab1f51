use Rattle.std.proofs.Common.{nat_lt, length, refl, ap, sym, ◌∙◌, arith, subst}
use Rattle.std.specs.Prelude.{not, filter}
use Rattle.norm_order.specs.Sets.{Rises}
use Rattle.symbol_mask.specs.Places.{Places}
use Rattle.symbol_mask.proofs.Bits.{few_members}
use Rattle.symbol_mask.proofs.Below.{put_first, from_first, below_gone}
use Rattle.symbol_mask.proofs.mask.Mask.take_below.Goals as goal

pub places-init : goal.places-init
places-init c = record {
  members = refl;
  taken = omega arith;
  few =
      let size = ap (λ (p : Places). p.size) c.self.view_is in
      let many = ap (λ (p : Places). length p.members) c.self.view_is in
      let few = few_members c.self.inside.words.items c.self.inside.size in
      omega (arith, size, many, few);
  rises = c.rises.ensures.rises;
  size = refl;
}

pub returns-then-place-limit-clause-members : goal.returns-then-place-limit-clause-members
returns-then-place-limit-clause-members c =
    let rises = subst Rises c.in-Some.ensures.members c.places.invariant.rises in
    c.insert.ensures.members ∙ put_first c.in-Some.place c.take_lowest.new.self.members rises.0
    ∙ sym (from_first c.args.limit c.in-Some.place c.take_lowest.new.self.members (let at = c.if-place-limit.true in omega (arith, at)) rises.0)
    ∙ ap (filter (λ place. not (nat_lt place c.args.limit))) (sym c.in-Some.ensures.members)
    ∙ c.places.invariant.members

pub returns-then-place-limit-clause-taken : goal.returns-then-place-limit-clause-taken
returns-then-place-limit-clause-taken c =
    let rises = subst Rises c.in-Some.ensures.members c.places.invariant.rises in
    let same = ap length (c.insert.ensures.members ∙ put_first c.in-Some.place c.take_lowest.new.self.members rises.0 ∙ sym c.in-Some.ensures.members) in
    let taken = c.places.invariant.taken in omega (arith, same, taken)

pub places-preserved : goal.places-preserved
places-preserved c =
    let rises = subst Rises c.in-Some.ensures.members c.places.invariant.rises in
    let many = ap length c.in-Some.ensures.members in
    let taken = c.places.invariant.taken in
    record {
      members =
          sym (below_gone c.args.limit c.in-Some.place c.take_lowest.new.self.members (let at = c.if-place-limit.false in omega (arith, at)))
          ∙ ap (filter (λ place. not (nat_lt place c.args.limit))) (sym c.in-Some.ensures.members)
          ∙ c.places.invariant.members;
      taken = omega (arith, many, taken);
      few = c.places.invariant.few;
      rises = rises.1;
      size = c.take_lowest.ensures.size ∙ c.places.invariant.size;
    }
