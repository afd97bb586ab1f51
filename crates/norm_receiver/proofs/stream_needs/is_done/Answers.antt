use Rattle.std.proofs.Common.{◌∙◌, ap, sym, subst, Option}
use Rattle.std.specs.Prelude.{MatchOption, ⊤, ◌<◌}
use Rattle.fec_plan.specs.Partition.{Cut, blocks}
use Rattle.fec_plan.specs.Points.{point, point_before, point_of}
use Rattle.fec_plan.specs.declared.position.Position.{Position}
use Rattle.norm_receive_rules.specs.Plans.{plan_of}
use Rattle.norm_receive_rules.specs.declared.words.Missing.TheVariants as missing
use Rattle.norm_receiver.proofs.AskLemmas.{with_some}
use Rattle.norm_receiver.proofs.StreamLemmas.{all_blocks, done_before, done_by_word}
use Rattle.norm_receiver.proofs.stream_needs.is_done.Goals as goal

pub returns-then-is_before-clause-exact : goal.returns-then-is_before-clause-exact
returns-then-is_before-clause-exact c = λ s stands.
    with_some (plan_of s c.args.index) (λ found is. done_before c.args.hold.now s c.args.index c.args.block found stands c.requires.stream.reached is
    (ap (λ (at : Position). point_before (point c.args.index c.args.block) (point_of at)) (sym c.hand_up-at.ensures.exact) ∙ sym c.is_before.ensures ∙ c.if-is_before.true))

pub returns-in-Done-clause-exact : goal.returns-in-Done-clause-exact
returns-in-Done-clause-exact c = λ s stands.
    with_some (plan_of s c.args.index) (λ found is. done_by_word s c.args.index c.args.block found missing.Done is (c.in-Done.ensures s stands))

pub returns-in-Short-clause-exact : goal.returns-in-Short-clause-exact
returns-in-Short-clause-exact c = λ s stands.
    with_some (plan_of s c.args.index) (λ found is. done_by_word s c.args.index c.args.block found (missing.Short c.in-Short.wanted) is (c.in-Short.ensures s stands))

pub returns-in-Unseen-clause-exact : goal.returns-in-Unseen-clause-exact
returns-in-Unseen-clause-exact c = λ s stands.
    with_some (plan_of s c.args.index) (λ found is. done_by_word s c.args.index c.args.block found missing.Unseen is (c.in-Unseen.ensures s stands))

pub returns-in-Short-clause-ahead : goal.returns-in-Short-clause-ahead
returns-in-Short-clause-ahead c = λ e.
    ap (λ (at : Position). point_before (point c.args.index c.args.block) (point_of at)) (sym c.hand_up-at.ensures.exact) ∙ sym c.is_before.ensures ∙ c.if-is_before.false

pub returns-in-Unseen-clause-ahead : goal.returns-in-Unseen-clause-ahead
returns-in-Unseen-clause-ahead c = λ e.
    ap (λ (at : Position). point_before (point c.args.index c.args.block) (point_of at)) (sym c.hand_up-at.ensures.exact) ∙ sym c.is_before.ensures ∙ c.if-is_before.false

pub missing-requires : goal.missing-requires
missing-requires c = record {
  reached = ap (λ (at : Position). point_before (point c.args.index c.args.block) (point_of at)) (sym c.hand_up-at.ensures.exact) ∙ sym c.is_before.ensures ∙ c.if-is_before.false;
  block =
      subst (λ (o : Option Cut). MatchOption o ⊤ (λ cut. c.args.block < blocks cut)) (sym c.requires.stream.known.held)
      (all_blocks c.args.plan.now c.args.block c.requires.stream.stream c.requires.block);
}
