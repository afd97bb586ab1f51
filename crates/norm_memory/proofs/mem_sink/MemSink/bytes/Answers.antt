use Rattle.std.proofs.Common.{◌≡◌, ◌∙◌, sym, ap}
use Rattle.std.specs.List.{concat}
use Rattle.norm_memory.specs.Writing.{Climbs}
use Rattle.norm_memory.proofs.PieceLemmas.{pieces-whole}
use Rattle.norm_memory.proofs.mem_sink.MemSink.bytes.Goals as goal

pub returns : goal.returns
returns c =
    c.as_slice.ensures.value
    ∙ sym (pieces-whole c.self.inside.octets.items c.self.inside.before c.self.inside.stops.items (rw c.self.inside.octets.ok.0 at c.self.invariant))
    ∙ ap (λ s. concat s.pieces) c.self.view_is
