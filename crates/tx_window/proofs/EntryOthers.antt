-- What an entry stands for stays so as another one is sent.
use Rattle.std.proofs.Common.{◌≡◌, ℕ, List, sym, ap, ◌∙◌}
use Rattle.std.specs.Prelude.{nat_lt}
use Rattle.fec_plan.specs.Points.{Position, position_before}
use Rattle.norm_order.specs.Entries.{Part, Object, Stream}
use Rattle.norm_order.specs.Sets.{is_member, with_member}
use Rattle.norm_order.specs.Shapes.{shape_of, sources_in}
use Rattle.norm_order.proofs.SetLemmas.{others_in, positions, numbers}
use Rattle.tx_object.proofs.MarkedLemmas.{map_same}
use Rattle.tx_object.proofs.SourcesLemmas.{source_index}
use Rattle.stream_buffer.proofs.NotedLemmas.{noted_other}
use Rattle.tx_window.specs.EntryState.{EntryReads, StandsFor}
use Rattle.tx_window.specs.EntryLaws.{OthersStay}
use Rattle.tx_window.specs.declared.entry.HeldEntry.{HeldEntry}
use Rattle.tx_window.specs.declared.entry.HeldEntry.TheVariants as held

-- a stream has its own parts
pub same_parts : (parts more : List Part) → ◌≡◌ {A = Object} (Stream parts) (Stream more) → parts ≡ more
same_parts parts more e = cc

symbol_stays : (r : EntryReads) (e : HeldEntry) (at : Position) → StandsFor r e → (at.index ≡ r.index → ⊥)
    → StandsFor (record r { sent = with_member position_before at r.sent }) e
symbol_stays r (held.Object h) at is apart = record {
  placed = is.placed;
  object = is.object;
  symbols = is.symbols ∙ sym (map_same (λ q. is_member position_before q r.sent) (λ q. is_member position_before q (with_member position_before at r.sent))
      (sources_in r.index (shape_of r.p r.object))
      (λ k q e. others_in position_before q at r.sent positions
      (λ same. apart (sym (ap (λ (x : Position). x.index) same) ∙ source_index r.index (shape_of r.p r.object) k q e))));
  info = is.info;
}
symbol_stays r (held.Stream stream) at is apart = record {
  parts = is.parts;
  object = is.object;
  knows = noted_other r.p r.index is.parts r.sent stream at apart is.knows;
}

info_stays : (r : EntryReads) (e : HeldEntry) (index : ℕ) → StandsFor r e → (index ≡ r.index → ⊥)
    → StandsFor (record r { infos = with_member nat_lt index r.infos }) e
info_stays r (held.Object h) index is apart = record {
  placed = is.placed;
  object = is.object;
  symbols = is.symbols;
  info = is.info ∙ sym (others_in nat_lt r.index index r.infos numbers (λ same. apart (sym same)));
}
info_stays r (held.Stream stream) index is apart = record { parts = is.parts; object = is.object; knows = is.knows }

pub others_stay : OthersStay
others_stay = record { symbol = symbol_stays; info = info_stays }
