use Rattle.std.proofs.Common.{◌∙◌, List, refl, sym, subst}
use Rattle.norm_order.specs.Entries.{Part}
use Rattle.stream_buffer.specs.StreamState.{with_cut}
use Rattle.stream_buffer.specs.HeldState.{Knows}
use Rattle.tx_window.specs.EntryState.{StandsFor}
use Rattle.tx_window.proofs.EntryGrowth.{same_parts}
use Rattle.tx_window.proofs.entry.HeldEntry.cut.Goals as goal

pub returns-in-Stream-clause-stream : goal.returns-in-Stream-clause-stream
returns-in-Stream-clause-stream c = λ r parts is same.
    let known = subst (StandsFor r) c.in-Stream.is is in
    record {
      parts = with_cut r.p.e parts;
      object = refl;
      knows = c.cut.ensures.knows r.p r.index parts r.sent
          (subst (λ (ps : List Part). Knows r.p r.index ps r.sent c.in-Stream.stream) (same_parts known.parts parts (sym known.object ∙ same)) known.knows);
    }
