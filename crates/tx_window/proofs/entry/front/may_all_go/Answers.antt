use Rattle.std.proofs.Common.{◌≡◌, ◌+◌, ◌<◌, ap, sym, ◌∙◌, arith, take, length}
use Rattle.std.proofs.lemmas.List.{length-take, drop_all}
use Rattle.norm_send_rules.specs.Room.{may_all_go}
use Rattle.tx_object.proofs.ListLemmas.{get_there}
use Rattle.tx_window.proofs.EntryFronts.{get_some, get_taken, go_on, stay, may_none}
use Rattle.tx_window.proofs.entry.front.may_all_go.Goals as goal

pub loop-place-init : goal.loop-place-init
loop-place-init c = record {
  so_far = λ ring s entries are past.
      ap (λ i. may_all_go c.args.profile.now s i (take c.args.count entries)) (let e : c.args.first ≡ c.args.first + 0 = omega arith in e);
}

pub returns-then-not-may_go : goal.returns-then-not-may_go
returns-then-not-may_go c = λ ring s entries are past.
    let p = c.args.profile.now in
    let n = c.loop-place.place in
    let within : n < length c.args.held.now.items = omega (arith, c.loop-place-test.true, c.requires.count) in
    let there = get_some n entries (omega (arith, are.long, within)) in
    let held = get_there c.args.held.now.items n c.index-entry.result.now within c.index-entry.ensures in
    sym (c.loop-place.invariant.so_far ring s entries are past
    ∙ stay p s c.args.first (take c.args.count entries) n there.0 (get_taken c.args.count n entries there.0 c.loop-place-test.true there.1)
    (sym (c.may_go.ensures ring there.0.object s (are.each n there.0 c.index-entry.result.now there.1 held) past) ∙ c.if-not-may_go.true))

pub loop-place-preserved : goal.loop-place-preserved
loop-place-preserved c = record {
  so_far = λ ring s entries are past.
      let p = c.args.profile.now in
      let n = c.loop-place.place in
      let within : n < length c.args.held.now.items = omega (arith, c.loop-place-test.true, c.requires.count) in
      let there = get_some n entries (omega (arith, are.long, within)) in
      let held = get_there c.args.held.now.items n c.index-entry.result.now within c.index-entry.ensures in
      c.loop-place.invariant.so_far ring s entries are past
      ∙ go_on p s c.args.first (take c.args.count entries) n there.0 (get_taken c.args.count n entries there.0 c.loop-place-test.true there.1)
      (sym (c.may_go.ensures ring there.0.object s (are.each n there.0 c.index-entry.result.now there.1 held) past) ∙ c.if-not-may_go.false);
}

pub returns : goal.returns
returns c = λ ring s entries are past.
    let p = c.args.profile.now in
    sym (c.loop-place.invariant.so_far ring s entries are past
    ∙ ap (may_all_go p s (c.args.first + c.loop-place.place))
    (drop_all c.loop-place.place (take c.args.count entries) (omega (arith, length-take c.args.count entries, c.loop-place-test.false)))
    ∙ may_none p s (c.args.first + c.loop-place.place))
