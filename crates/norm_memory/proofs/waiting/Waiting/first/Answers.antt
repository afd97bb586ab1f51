use Rattle.std.proofs.Common.{◌∙◌, ap}
use Rattle.std.specs.BinaryHeap.{heap_items}
use Rattle.norm_memory.specs.Waiting.{first_of}
use Rattle.norm_memory.proofs.Turns.{first-peeked}
use Rattle.norm_memory.proofs.waiting.Waiting.first.Goals as goal

pub returns : goal.returns
returns c =
    c.copied.ensures
    ∙ first-peeked (heap_items c.self.inside.heap) c.peek.result (rw c.self.inside.heap.data.ok.0 at c.peek.ensures.variant) c.peek.ensures.lookup c.self.invariant c.peek.ensures.greatest
    ∙ ap (λ s. first_of s.copies) c.self.view_is
