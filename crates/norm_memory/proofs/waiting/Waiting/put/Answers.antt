use Rattle.std.proofs.Common.{◌∙◌, ap}
use Rattle.std.specs.BinaryHeap.{heap_items}
use Rattle.norm_memory.specs.Waiting.{put_copies}
use Rattle.norm_memory.proofs.Turns.{in_turn-joined}
use Rattle.norm_memory.proofs.waiting.Waiting.put.Goals as goal

pub returns : goal.returns
returns c =
    in_turn-joined (heap_items c.self.inside.heap) (heap_items c.append.new.self) c.args.copies.items (heap_items c.from-fresh.result) c.from-fresh.ensures.1
    (rw c.unwrap.ensures at c.append.ensures.permutation)
    ∙ ap (λ s. put_copies c.args.copies.items s.copies) c.self.view_is
