use Rattle.std.proofs.Common.{◌∙◌, sym}
use Rattle.mark_book.proofs.Lists.{least_step}
use Rattle.mark_book.proofs.listings.least_of.Goals as goal

pub loop-past-preserved : goal.loop-past-preserved
loop-past-preserved c = λ at.
    least_step c.args.listed.now c.loop-past.past-index c.past-item.result at c.loop-past.least c.in_ok-past.field-0 c.nearer-least.result _
    c.loop-past-test.true (sym c.past-item.is ∙ c.in_ok-past.was) (c.nearer-least.ensures.both at) (c.loop-past.invariant at)
