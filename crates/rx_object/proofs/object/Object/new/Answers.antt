use Rattle.std.proofs.Common.{◌≡◌, ◌≤◌, ℕ, List, Some, None, sym, subst, ap, ◌∙◌, length}
use Rattle.std.specs.Prelude.{is_some}
use Rattle.std.proofs.lemmas.List.{length-replicate}
use Rattle.fec_plan.specs.Partition.{Cut, blocks, all_symbols}
use Rattle.norm_receive_rules.specs.Holding.{Held, new_plan}
use Rattle.norm_ext.specs.declared.fti.Fti.{Fti}
use Rattle.rx_object.specs.ObjectState.{ObjectState}
use Rattle.rx_object.proofs.NewLemmas.{frees, zeros, new_held, new_each, new_shorts}
use Rattle.rx_object.proofs.WordLemmas.{object_cut}
use Rattle.rx_object.proofs.object.Object.new.Goals as goal

pub new-requires-clause-object : goal.new-requires-clause-object
new-requires-clause-object c =
    ap (λ (d : Cut). is_some d.l) (c.requires.cut ∙ object_cut (new_plan c.args.index c.args.fti.now c.args.flags) c.requires.kind)

pub new-requires-clause-most : goal.new-requires-clause-most
new-requires-clause-most c = λ l is.
    subst (λ n. n ≤ 16777216)
    (some_same (sym (ap (λ (d : Cut). d.l) (c.requires.cut ∙ object_cut (new_plan c.args.index c.args.fti.now c.args.flags) c.requires.kind)) ∙ is))
    c.requires.length
  where
    some_same : {u v : ℕ} → Some u ≡ Some v → u ≡ v
    some_same e = cc e

pub invariant_of-result : goal.invariant_of-result
invariant_of-result c =
    let plan = c.in_ok-rows.ensures.plan in
    let rows = c.in_ok-rows.ensures.rows in
    let counts : c.in_ok-counts.counts.items ≡ zeros c.blocks-count.result = c.in_ok-counts.ensures.items_if_clones_equal (λ y e. e) in
    record {
      plan = plan ∙ c.requires.cut;
      kind = c.requires.kind;
      rows = rows;
      counted = ap length counts ∙ length-replicate {A = ℕ} c.blocks-count.result 0 ∙ c.blocks-count.ensures.exact ∙ ap blocks (sym plan);
      each = new_each c.args.index c.in_ok-rows.rows.plan c.in_ok-rows.rows.ids.items c.in_ok-rows.rows.octets.items c.in_ok-counts.counts.items c.blocks-count.result rows.sound rows.object
          (c.in_ok-rows.ensures.free ∙ ap (λ (d : Cut). frees (all_symbols d)) (sym plan)) counts;
      shorts = new_shorts c.in_ok-rows.rows.plan c.in_ok-counts.counts.items c.blocks-count.result c.in_ok-shorts.shorts rows.sound rows.object
          (c.blocks-count.ensures.exact ∙ ap blocks (sym plan)) counts c.in_ok-shorts.ensures.all;
    }

pub returns : goal.returns
returns c =
    let plan = c.in_ok-rows.ensures.plan in
    let rows = c.in_ok-rows.ensures.rows in
    ap (λ (hs : List Held). seen c.args.index c.args.fti.now c.args.flags hs)
    (new_held c.args.index c.in_ok-rows.rows.plan c.in_ok-rows.rows.ids.items c.in_ok-rows.rows.octets.items rows.sound rows.object
    (c.in_ok-rows.ensures.free ∙ ap (λ (d : Cut). frees (all_symbols d)) (sym plan)))
  where
    seen : ℕ → Fti → ℕ → List Held → ObjectState
    seen index fti flags hs = record { plan = new_plan index fti flags; info = None; held = hs }
