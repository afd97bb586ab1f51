use Rattle.std.proofs.Common.{◌+◌, ap, sym, ◌∙◌, refl, arith, Some, None, Option}
use Rattle.norm_send_rules.specs.Sending.{next_new}
use Rattle.norm_send_rules.specs.Laws.{next_at}
use Rattle.norm_send_rules.specs.declared.want.Want.{Want}
use Rattle.tx_window.proofs.SearchLemmas.{next_laws}
use Rattle.tx_window.proofs.window.Window.first_new.Goals as goal

pub loop-next-init : goal.loop-next-init
loop-next-init c = record { so_far = λ s stands. refl }

pub returns-in-Some-clause-exact : goal.returns-in-Some-clause-exact
returns-in-Some-clause-exact c = λ s stands.
    let p = c.args.self.now.p in
    let next = c.loop-next.next in
    sym (c.loop-next.invariant.so_far s stands
    ∙ c.new_of.ensures.exact s stands (omega (arith, c.loop-next-test.true, c.next_index-next-end.ensures.exact s stands))
    ∙ ap (λ (r : Option Want). elim r as (λ v. Option Want) [ Some w ↦ Some w | None ↦ next_new p (next_at (next + 1) s) ]) c.in-Some.is)

pub loop-next-preserved : goal.loop-next-preserved
loop-next-preserved c = record {
  so_far = λ s stands.
      let p = c.args.self.now.p in
      let next = c.loop-next.next in
      c.loop-next.invariant.so_far s stands
      ∙ c.new_of.ensures.exact s stands (omega (arith, c.loop-next-test.true, c.next_index-next-end.ensures.exact s stands))
      ∙ ap (λ (r : Option Want). elim r as (λ v. Option Want) [ Some w ↦ Some w | None ↦ next_new p (next_at (next + 1) s) ]) c.in_default.is;
}

pub returns-clause-exact : goal.returns-clause-exact
returns-clause-exact c = λ s stands.
    sym (c.loop-next.invariant.so_far s stands
    ∙ next_laws.at_end c.args.self.now.p (next_at c.loop-next.next s) (omega (arith, c.loop-next-test.false, c.next_index-next-end.ensures.exact s stands)))
