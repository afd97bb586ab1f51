use Rattle.std.proofs.Common.{◌∙◌, ap, sym, arith}
use Rattle.norm_receive_rules.specs.Plans.{plan_of}
use Rattle.norm_receiver.specs.Quiet.{is_nil}
use Rattle.norm_receiver.specs.Streams.{missing_in, sources}
use Rattle.norm_receiver.proofs.AskLemmas.{for_some}
use Rattle.norm_receiver.proofs.StreamLemmas.{all_held, held_goes_on, missing_open, nil_done, not_held}
use Rattle.norm_receiver.proofs.stream_needs.is_there.Goals as goal

pub returns-then-is_done : goal.returns-then-is_done
returns-then-is_done c = λ s stands.
    for_some (plan_of s c.args.index) (c.is_done.ensures.exact s stands) (λ found is done. nil_done s found c.args.run (sym c.if-is_done.true ∙ done))

pub loop-symbol-init : goal.loop-symbol-init
loop-symbol-init c = record {
  ahead = c.is_done.ensures.ahead c.if-is_done.false;
  there = λ s stands.
      for_some (plan_of s c.args.index) (c.is_done.ensures.exact s stands)
      (λ found is done. ap (λ symbols. is_nil (sources symbols)) (missing_open s c.args.index found c.args.run is (sym c.if-is_done.false ∙ done)));
}

pub returns-then-not-holds : goal.returns-then-not-holds
returns-then-not-holds c = λ s stands.
    for_some (plan_of s c.args.index) (c.loop-symbol.invariant.there s stands) (λ found is there.
    not_held s c.args.index c.args.run.block c.loop-symbol.symbol c.args.run.behind (is_nil (sources (missing_in s found c.args.run))) c.holds.result there c.loop-symbol-test.true
    (c.holds.ensures s stands) c.if-not-holds.true)

pub loop-symbol-preserved : goal.loop-symbol-preserved
loop-symbol-preserved c = record {
  ahead = c.loop-symbol.invariant.ahead;
  there = λ s stands.
      for_some (plan_of s c.args.index) (c.loop-symbol.invariant.there s stands) (λ found is there.
      held_goes_on s c.args.index c.args.run.block c.loop-symbol.symbol c.args.run.behind (is_nil (sources (missing_in s found c.args.run))) c.holds.result there c.loop-symbol-test.true
      (c.holds.ensures s stands) c.if-not-holds.false);
}

pub returns : goal.returns
returns c = λ s stands.
    for_some (plan_of s c.args.index) (c.loop-symbol.invariant.there s stands) (λ found is there.
    all_held s c.args.index c.args.run.block c.loop-symbol.symbol c.args.run.behind (is_nil (sources (missing_in s found c.args.run))) there (omega (arith, c.loop-symbol-test.false)))
