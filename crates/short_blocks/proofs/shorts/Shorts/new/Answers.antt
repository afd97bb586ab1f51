use Rattle.short_blocks.proofs.Windows.{new_view, new_window}
use Rattle.short_blocks.proofs.shorts.Shorts.new.Goals as goal

pub invariant_of-result : goal.invariant_of-result
invariant_of-result c = new_window c.args.count c.in_ok-links.links.items c.in_ok-links.ensures.few c.in_ok-links.ensures.many

pub returns-clause-all : goal.returns-clause-all
returns-clause-all c = new_view c.args.count c.in_ok-links.links.items c.in_ok-links.ensures.few c.in_ok-links.ensures.many
