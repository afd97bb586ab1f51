use Rattle.std.proofs.Common.{◌+◌, ◌-◌, ap, sym, subst, ◌∙◌, not, arith}
use Rattle.fec_plan.specs.Points.{position}
use Rattle.norm_receive_rules.specs.HeardNeeds.{is_heard}
use Rattle.norm_receive_rules.specs.Needs.{Source}
use Rattle.norm_receive_rules.specs.Plans.{plan_of, holds}
use Rattle.norm_receiver.specs.Streams.{missing_in, sources, unheld}
use Rattle.norm_receiver.specs.Walking.{Walked, IsAt, walk_on, walk_where}
use Rattle.norm_receiver.proofs.AskLemmas.{for_some}
use Rattle.norm_receiver.proofs.StreamLemmas.{missing_open, no_symbols, none_missing, walk_on_symbol}
use Rattle.norm_receiver.proofs.WalkLemmas.{goes_begun, goes_more, goes_full, goes_ended}
use Rattle.norm_receiver.proofs.parts.Parts.ask_run.Goals as goal

pub returns-then-is_done-clause-walked : goal.returns-then-is_done-clause-walked
returns-then-is_done-clause-walked c = λ s front w stands at.
    for_some (plan_of s.holding c.args.index) (c.is_done.ensures.exact s.holding stands.hold) (λ found is done.
    subst (λ (v : Walked). IsAt c.args.self.now.profile (is_heard s.knows.heard s.holding) c.args.asking.now c.args.out.now front v)
    (sym (none_missing c.args.self.now.profile s.holding found c.args.run w (sym c.if-is_done.true ∙ done))) at)

pub loop-symbol-init : goal.loop-symbol-init
loop-symbol-init c = record {
  ahead = c.is_done.ensures.ahead c.if-is_done.false;
  room = c.requires.room;
  walked = λ s front w stands at.
      for_some (plan_of s.holding c.args.index) (c.is_done.ensures.exact s.holding stands.hold) (λ found is done.
      goes_begun c.args.self.now.profile (is_heard s.knows.heard s.holding) c.args.asking.now c.args.out.now front
      (sources (missing_in s.holding found c.args.run)) (sources (unheld s.holding c.args.index c.args.run.block c.args.run.first (c.args.run.behind - c.args.run.first))) w
      (ap (λ symbols. walk_on c.args.self.now.profile (sources symbols) w) (missing_open s.holding c.args.index found c.args.run is (sym c.if-is_done.false ∙ done))) at);
}

pub returns-then-asking-clause-walked : goal.returns-then-asking-clause-walked
returns-then-asking-clause-walked c = λ s front w stands at.
    for_some (plan_of s.holding c.args.index) (c.loop-symbol.invariant.walked s front w stands at) (λ found is g.
    goes_full c.args.self.now.profile (is_heard s.knows.heard s.holding) c.loop-symbol.asking c.loop-symbol.out front
    (sources (missing_in s.holding found c.args.run)) (sources (unheld s.holding c.args.index c.args.run.block c.loop-symbol.symbol (c.args.run.behind - c.loop-symbol.symbol))) w c.if-asking.true g)

pub loop-symbol-preserved : goal.loop-symbol-preserved
loop-symbol-preserved c = record {
  ahead = c.loop-symbol.invariant.ahead;
  room = c.ask_symbol.ensures.room;
  walked = λ s front w stands at.
      for_some (plan_of s.holding c.args.index) (c.loop-symbol.invariant.walked s front w stands at) (λ found is g.
      goes_more c.args.self.now.profile (is_heard s.knows.heard s.holding) c.loop-symbol.asking c.ask_symbol.new.asking c.loop-symbol.out c.ask_symbol.new.out front
      (sources (missing_in s.holding found c.args.run)) (sources (unheld s.holding c.args.index c.args.run.block c.loop-symbol.symbol (c.args.run.behind - c.loop-symbol.symbol)))
      (sources (unheld s.holding c.args.index c.args.run.block (c.loop-symbol.symbol + 1) (c.args.run.behind - (c.loop-symbol.symbol + 1)))) w
      (λ (v : Walked). walk_where c.args.self.now.profile (not (holds s.holding (position c.args.index c.args.run.block c.loop-symbol.symbol))) v (Source (position c.args.index c.args.run.block c.loop-symbol.symbol)))
      (λ v here. c.ask_symbol.ensures.walked s front v stands here)
      (λ v. walk_on_symbol c.args.self.now.profile s.holding c.args.index c.args.run.block c.loop-symbol.symbol c.args.run.behind v c.loop-symbol-test.true) g);
}

pub returns-clause-walked : goal.returns-clause-walked
returns-clause-walked c = λ s front w stands at.
    for_some (plan_of s.holding c.args.index) (c.loop-symbol.invariant.walked s front w stands at) (λ found is g.
    goes_ended c.args.self.now.profile (is_heard s.knows.heard s.holding) c.loop-symbol.asking c.loop-symbol.out front
    (sources (missing_in s.holding found c.args.run)) (sources (unheld s.holding c.args.index c.args.run.block c.loop-symbol.symbol (c.args.run.behind - c.loop-symbol.symbol))) w
    (no_symbols s.holding c.args.index c.args.run.block c.loop-symbol.symbol c.args.run.behind (omega (arith, c.loop-symbol-test.false))) g)
