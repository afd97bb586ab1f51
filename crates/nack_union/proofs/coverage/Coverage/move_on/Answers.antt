use Rattle.std.proofs.Common.{◌≡◌, ◌+◌, ◌-◌, ◌*◌, ℕ, List, length, true, false, sym, ap, ◌∙◌, arith, nat_lt, None, refl}
use Rattle.std.proofs.lemmas.List.{length-replicate}
use Rattle.std.specs.Prelude.{◌||◌, ◌&&◌}
use Rattle.fec_plan.specs.Partition.{symbol_number}
use Rattle.norm_order.specs.Shapes.{closed_in, is_full}
use Rattle.norm_order.specs.Sets.{is_member}
use Rattle.nack_union.specs.Repairs.{shape_closed}
use Rattle.nack_union.specs.Coverage.{Covered, is_run_slot, lies_in_run}
use Rattle.nack_union.proofs.Coverages.{no_lies, all_alone, covered_moved}
use Rattle.nack_union.proofs.Streams.{closed_shifted, full_shifted}
use Rattle.nack_union.proofs.coverage.Coverage.move_on.Goals as goal

clash : false ≡ true → ⊥
clash h = cc

pub invariant_of-self : goal.invariant_of-self
invariant_of-self c =
    let none = c.fill.ensures.items (λ _ e. e) in
    let many = ap length none ∙ length-replicate {A = ℕ} _ 0 in
    let stream : c.self.inside.plan.l ≡ None = ap (λ (v : Covered). v.shape.cut.l) c.self.view_is ∙ c.requires in
    let less = c.saturating_sub-self-inside.ensures ∙ ap (λ n. c.self.inside.closed - n) c.symbol_number-gone.ensures.exact in
    record {
      most = let most = c.self.invariant.most in omega (arith, most, many);
      within = let fits = c.self.invariant.within in omega (arith, fits, many);
      size =
          let moved = c.move_on.ensures.size in
          let filled = c.insert_runs.ensures.size in
          let size = c.self.invariant.size in
          omega (arith, moved, filled, size, many);
      behind = λ block le.
          ap (λ n. closed_in (shape_closed c.self.inside.plan n) block) less
          ∙ closed_shifted c.self.inside.plan c.self.inside.closed c.args.count block stream
          ∙ c.self.invariant.behind (c.args.count + block) (omega (arith, le, many));
      until = let until = c.self.invariant.until in let down = c.saturating_sub-self-inside-2.ensures in omega (arith, until, many, down);
      whole = λ block lt.
          ap (λ n. is_full (shape_closed c.self.inside.plan n) block) less
          ∙ full_shifted c.self.inside.plan c.self.inside.closed c.args.count block stream
          ∙ c.self.invariant.whole (c.args.count + block) (let down = c.saturating_sub-self-inside-2.ensures in omega (arith, lt, down));
      runs = λ block lies. absurd (clash (sym (ap (λ (es : List ℕ). lies_in_run es block) none ∙ no_lies _ block) ∙ lies));
      complete = λ e. absurd (clash e);
    }

pub returns-clause-members : goal.returns-clause-members
returns-clause-members c =
    let none = c.fill.ensures.items (λ _ e. e) in
    let alone =
    all_alone (shape_closed c.self.inside.plan c.self.inside.closed) c.self.inside.ends.items c.self.inside.alone.members c.insert_runs.new.set.members
    (λ slot. c.insert_runs.ensures.members slot
    ∙ ap (λ (es : List ℕ). is_member nat_lt slot c.self.inside.alone.members || is_run_slot (shape_closed c.self.inside.plan c.self.inside.closed) es slot) c.deref.ensures.value)
    c.rises.ensures.rises
    (λ slot past. c.rises.ensures.within slot (let same = c.insert_runs.ensures.size in let size = c.self.invariant.size in let fits = c.self.invariant.within in omega (arith, past, same, size, fits))) in
    λ slot.
    covered_moved (shape_closed c.self.inside.plan c.self.inside.closed) (shape_closed c.self.inside.plan c.saturating_sub-self-inside.result) c.self.inside.ends.items c.fill.new.self.items
    c.self.inside.alone.members c.move_on.new.self.members _ c.args.count refl none
    (λ place. c.move_on.ensures.members place
    ∙ ap (λ n. is_member nat_lt (place + 64 * n) c.insert_runs.new.set.members && nat_lt 0 place) (let e : _ ≡ 4 * c.args.count = omega arith in e)
    ∙ ap (λ (xs : List ℕ). is_member nat_lt (place + 64 * (4 * c.args.count)) xs && nat_lt 0 place) alone)
    slot
    ∙ ap (λ (v : Covered). is_member nat_lt (slot + 256 * c.args.count) v.members && nat_lt 0 slot) c.self.view_is

pub returns-clause-shape : goal.returns-clause-shape
returns-clause-shape c =
    ap (shape_closed c.self.inside.plan) (c.saturating_sub-self-inside.ensures ∙ ap (λ n. c.self.inside.closed - n) c.symbol_number-gone.ensures.exact)
    ∙ ap (λ (v : Covered). shape_closed v.shape.cut (v.shape.closed - symbol_number v.shape.cut c.args.count 0)) c.self.view_is
