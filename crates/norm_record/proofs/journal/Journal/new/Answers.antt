-- Nothing is kept.
use Rattle.norm_record.proofs.CountedLemmas.{nothing_counted}
use Rattle.norm_record.proofs.EventLemmas.{nothing_kept}
use Rattle.norm_record.proofs.HandLemmas.{no_hands}
use Rattle.norm_record.proofs.journal.Journal.new.Goals as goal

pub invariant_of-result : goal.invariant_of-result
invariant_of-result c = (
  nothing_kept _ _ c.new-2.ensures c.new-3.ensures c.new-4.ensures c.new.ensures.items,
  no_hands (record { offers = c.new-2.result; apart = c.new-3.result; ups = c.new-4.result; rares = c.new-5.result.items; turns = c.new-6.result.items }) _ _
      c.new-7.ensures.items c.new.ensures.items,
  nothing_counted (record { offers = c.new-2.result; apart = c.new-3.result; ups = c.new-4.result; rares = c.new-5.result.items; turns = c.new-6.result.items }) _
      c.new.ensures.items,
)
