use Rattle.std.proofs.Common.{◌≡◌, ◌+◌, ◌*◌, ◌<◌, ◌≤◌, ℕ, ap, sym, ◌∙◌, refl, arith, suc, List, length, drop}
use Rattle.std.proofs.lemmas.List.{drop_all}
use Rattle.fec_plan.specs.Points.{point}
use Rattle.norm_order.specs.Entries.{Entry}
use Rattle.norm_order.specs.Shapes.{shape_of, shapes_of}
use Rattle.norm_send_rules.specs.Repairable.{encoded_from}
use Rattle.tx_object.proofs.ListLemmas.{get_there}
use Rattle.tx_window.specs.EntryState.{reads_of}
use Rattle.tx_window.specs.EntryRepairable.{repairable_from}
use Rattle.tx_window.specs.WindowState.{first_block}
use Rattle.tx_window.proofs.ListLemmas.{get_some}
use Rattle.tx_window.proofs.RepairableLemmas.{behind, one_entry, first_at, none_left}
use Rattle.tx_window.proofs.room.count_repairable.Goals as goal

pub loop-place-preserved : goal.loop-place-preserved
loop-place-preserved c =
    let n = c.loop-place.place in
    let items = c.args.held.now.items in
    let within : n < length items = omega (arith, c.loop-place-test.true, c.len-place-end.ensures) in
    let e = c.index.result.now in
    let held = get_there items n e within c.index.ensures in
    record {
      few = omega (arith, c.loop-place.invariant.few, c.repairable-repairable.ensures.most);
      total = λ ring p first s entries are only.
          let there = get_some n entries (omega (arith, are.long, within)) in
          let d = point first (first_block items) in
          let has = c.repairable-repairable.ensures.exact (reads_of ring p (first + n) there.0.object s) (are.each n there.0 e there.1 held) in
          let here = has ∙ ap (repairable_from (shape_of p there.0.object)) (first_at first n items e held only) in
          let next = ap (λ k. behind d (encoded_from (first + k) (shapes_of p (drop k entries)))) (let z : suc n ≡ n + 1 = omega arith in z) in
          omega (arith, c.loop-place.invariant.total ring p first s entries are only, one_entry p d entries n there.0 there.1, here, next);
    }

pub returns : goal.returns
returns c = λ ring p first s entries are only.
    let d = point first (first_block c.args.held.now.items) in
    let n = c.loop-place.place in
    let none = none_left d (first + n) (shapes_of p (drop n entries))
    (ap (shapes_of p) (drop_all n entries (omega (arith, are.long, c.loop-place-test.false, c.len-place-end.ensures)))) in
    omega (arith, c.loop-place.invariant.total ring p first s entries are only, none)
