use Rattle.std.proofs.Common.{◌+◌, ◌*◌, refl, ap, ◌∙◌}
use Rattle.std.specs.Prelude.{◌&&◌}
use Rattle.fec_plan.specs.Partition.{blocks}
use Rattle.nack_union.specs.Kept.{Marked, symbols_of_marked}
use Rattle.nack_union.specs.More.{is_source_slot, slot_from, slot_behind}
use Rattle.symbol_mask.specs.Words.{in_run}
use Rattle.nack_union.proofs.Mores.{more_by}
use Rattle.nack_union.proofs.Spans.{in_span}
use Rattle.nack_union.proofs.marks.Marks.ask_between.Goals as goal

pub returns : goal.returns
returns c =
    let cut = c.blocks-2.ensures.exact ∙ ap (λ (m : Marked). blocks m.cut) c.self.view_is in
    let end = c.slot_behind.ensures.slot ∙ ap (λ n. slot_behind c.args.index c.args.last (256 * n + 1)) cut in
    more_by _ _ _ _ c.args.self.now c.ask_sources.new.self c.ask_sources.ensures
    (λ slot.
    ap (λ n. is_source_slot (symbols_of_marked c.args.self.now) slot && in_run n c.slot_behind.result slot) c.slot_from.ensures.slot
    ∙ ap (λ n. is_source_slot (symbols_of_marked c.args.self.now) slot && in_run (slot_from c.args.index c.args.first) n slot) end
    ∙ in_span (symbols_of_marked c.args.self.now) c.args.index c.args.first c.args.last slot c.slot_from.ensures.named c.slot_behind.ensures.named c.requires.from c.requires.to)
    (λ block. refl)
