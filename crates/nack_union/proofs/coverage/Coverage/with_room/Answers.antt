use Rattle.std.proofs.Common.{◌≡◌, ℕ, List, length, replicate, false, true, sym, ap, ◌∙◌, arith}
use Rattle.std.proofs.lemmas.List.{length-replicate}
use Rattle.norm_order.specs.Shapes.{Shape}
use Rattle.nack_union.specs.Repairs.{shape_closed}
use Rattle.nack_union.specs.Coverage.{Covered, covered_slots, lies_in_run}
use Rattle.nack_union.proofs.Coverages.{none_covered, no_lies}
use Rattle.nack_union.proofs.coverage.Coverage.with_room.Goals as goal

abbrev of : Shape → ℕ → List ℕ → Covered
of shape room members = record { shape = shape; room = room; members = members }

pub returns : goal.returns
returns c =
    let none : c.in_ok-ends.ends.items ≡ replicate c.args.room 0 = c.in_ok-ends.ensures.items_if_clones_equal (λ _ e. e) in
    let many : length c.in_ok-ends.ends.items ≡ c.args.room = ap length none ∙ length-replicate {A = ℕ} c.args.room 0 in
    ap (λ n. of (shape_closed c.args.plan.now c.args.closed) n (covered_slots (shape_closed c.args.plan.now c.args.closed) c.in_ok-ends.ends.items c.in_ok-alone.alone.members)) many
    ∙ ap (of (shape_closed c.args.plan.now c.args.closed) c.args.room)
    (none_covered (shape_closed c.args.plan.now c.args.closed) c.in_ok-ends.ends.items c.in_ok-alone.alone.members _ none c.in_ok-alone.ensures.empty)

clash : false ≡ true → ⊥
clash h = cc

pub invariant_of-result : goal.invariant_of-result
invariant_of-result c =
    let none : c.in_ok-ends.ends.items ≡ replicate c.args.room 0 = c.in_ok-ends.ensures.items_if_clones_equal (λ _ e. e) in
    let as_many : length c.in_ok-ends.ends.items ≡ c.args.room = ap length none ∙ length-replicate {A = ℕ} c.args.room 0 in
    let few = c.min.ensures in
    record {
      most = let fits = c.requires.within in let most = c.whole_blocks-whole.ensures.few in omega (arith, as_many, fits, most);
      within = let fits = c.requires.within in omega (arith, as_many, fits);
      size = let size = c.in_ok-alone.ensures.size in omega (arith, as_many, size);
      behind = λ block le. c.requires.behind block (omega (arith, as_many, le));
      until = omega (arith, as_many, few);
      whole = λ block lt. c.whole_blocks-whole.ensures.whole block (omega (arith, few, lt));
      runs = λ block lies. absurd (clash (sym (ap (λ (es : List ℕ). lies_in_run es block) none ∙ no_lies c.args.room block) ∙ lies));
      complete = λ e. absurd (clash e);
    }
