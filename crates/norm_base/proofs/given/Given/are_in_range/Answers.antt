use Rattle.std.proofs.Common.{◌∙◌, sym}
use Rattle.norm_base.specs.Given.{value_in}
use Rattle.norm_base.proofs.RangeLemmas.{range_of}
use Rattle.norm_base.proofs.given.Given.are_in_range.Goals as goal

pub returns-then-are_values-clause-range : goal.returns-then-are_values-clause-range
returns-then-are_values-clause-range c =
    λ met. range_of (value_in c.args.self.now) (sym c.are_values.ensures ∙ c.if-are_values.true) (sym c.meets_rules.ensures ∙ met)
