use Rattle.std.proofs.Common.{◌≡◌, ◌∙◌, ap, drop, length, IfNone}
use Rattle.std.specs.BinaryHeap.{heap_items}
use Rattle.norm_memory.specs.Waiting.{first_of}
use Rattle.norm_memory.proofs.Turns.{Left, left-popped}
use Rattle.norm_memory.proofs.waiting.Waiting.take_first.Goals as goal

left : (c : goal.After-pop) → Left (heap_items c.self.inside.heap) (heap_items c.pop.new.self) c.pop.result
left c =
    let none : IfNone c.pop.result (length (heap_items c.self.inside.heap) ≡ 0) = rw c.self.inside.heap.data.ok.0 at c.pop.ensures.none in
    left-popped (heap_items c.self.inside.heap) (heap_items c.pop.new.self) _ _ c.pop.result none c.pop.ensures.unchanged c.pop.ensures.permutation c.self.invariant c.pop.ensures.below_top

pub returns-clause-copy : goal.returns-clause-copy
returns-clause-copy c = (left c).copy ∙ ap (λ s. first_of s.copies) c.self.view_is

pub returns-clause-rest : goal.returns-clause-rest
returns-clause-rest c = (left c).rest ∙ ap (λ s. drop 1 s.copies) c.self.view_is
