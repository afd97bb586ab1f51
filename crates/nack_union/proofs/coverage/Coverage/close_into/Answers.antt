use Rattle.std.proofs.Common.{◌≡◌, ℕ, List, length, true, false, sym, ap, ◌∙◌, arith, nat_lt}
use Rattle.std.proofs.lemmas.List.{length-replicate}
use Rattle.std.specs.Prelude.{◌||◌}
use Rattle.norm_order.specs.Sets.{is_member, with_members}
use Rattle.nack_union.specs.Repairs.{shape_closed, counted_slots}
use Rattle.nack_union.specs.Coverage.{Covered, is_run_slot, lies_in_run}
use Rattle.nack_union.proofs.Coverages.{none_covered, no_lies, all_alone}
use Rattle.nack_union.proofs.coverage.Coverage.close_into.Goals as goal

-- the slots, with those of the runs
alone : (c : goal.After-take_all) → c.insert_runs.new.set.members ≡ c.args.self.now.members
alone c =
    all_alone (shape_closed c.self.inside.plan c.self.inside.closed) c.self.inside.ends.items c.self.inside.alone.members c.insert_runs.new.set.members
    (λ slot. c.insert_runs.ensures.members slot
    ∙ ap (λ (es : List ℕ). is_member nat_lt slot c.self.inside.alone.members || is_run_slot (shape_closed c.self.inside.plan c.self.inside.closed) es slot) c.deref.ensures.value)
    c.rises.ensures.rises
    (λ slot past. c.rises.ensures.within slot (let same = c.insert_runs.ensures.size in let size = c.self.invariant.size in let fits = c.self.invariant.within in omega (arith, past, same, size, fits)))
    ∙ ap (λ (v : Covered). v.members) c.self.view_is

pub returns-clause-members : goal.returns-clause-members
returns-clause-members c =
    c.take_all.ensures.members
    ∙ ap (λ (xs : List ℕ). with_members nat_lt xs c.args.wants.now.members)
    (c.ask_counted.ensures.members
    ∙ ap (λ (xs : List ℕ). with_members nat_lt (counted_slots (shape_closed c.self.inside.plan c.self.inside.closed) c.args.sent.now.members 0 c.args.counts.now) xs) (alone c)
    ∙ ap (λ (v : Covered). with_members nat_lt (counted_slots v.shape c.args.sent.now.members 0 c.args.counts.now) c.args.self.now.members) c.self.view_is)

pub returns-clause-emptied : goal.returns-clause-emptied
returns-clause-emptied c =
    none_covered (shape_closed c.self.inside.plan c.self.inside.closed) c.fill.new.self.items c.take_all.new.other.members _ (c.fill.ensures.items (λ _ e. e)) c.take_all.ensures.emptied

clash : false ≡ true → ⊥
clash h = cc

pub invariant_of-self : goal.invariant_of-self
invariant_of-self c =
    let none = c.fill.ensures.items (λ _ e. e) in
    let many = ap length none ∙ length-replicate {A = ℕ} _ 0 in
    record {
      most = let most = c.self.invariant.most in omega (arith, most, many);
      within = let fits = c.self.invariant.within in omega (arith, fits, many);
      size =
          let taken = c.take_all.ensures.other_size in
          let asked = c.ask_counted.ensures.size in
          let filled = c.insert_runs.ensures.size in
          let size = c.self.invariant.size in
          omega (arith, taken, asked, filled, size, many);
      behind = λ block le. c.self.invariant.behind block (omega (arith, le, many));
      until = let until = c.self.invariant.until in omega (arith, until, many);
      whole = c.self.invariant.whole;
      runs = λ block lies. absurd (clash (sym (ap (λ (es : List ℕ). lies_in_run es block) none ∙ no_lies _ block) ∙ lies));
      complete = λ e. absurd (clash e);
    }
