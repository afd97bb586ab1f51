use Rattle.std.proofs.Common.{subst}
use Rattle.std.specs.Prelude.{◌&&◌}
use Rattle.norm_ext.specs.Asking.{Span, span}
use Rattle.nack_union.specs.Kept.{symbols_of_marked}
use Rattle.nack_union.specs.More.{HasMore, is_source_slot, slot_in}
use Rattle.nack_union.proofs.Named.{named_more}
use Rattle.nack_union.proofs.marks.Marks.ask_by_flags.Goals as goal

pub returns : goal.returns
returns c =
    named_more c.args.named.now.flags (span c.args.named.now.first c.args.named.now.last) c.args.index c.args.self.now c.ask_where.new.self c.ask_where-2.new.self c.ask_where-3.new.self
    c.ask_info_where.new.self c.has_flag.result c.has_flag-2.result c.has_flag-3.result c.has_flag-4.result c.has_flag.ensures c.has_flag-2.ensures c.has_flag-3.ensures
    c.has_flag-4.ensures c.requires.from c.requires.to c.ask_where.ensures
    (subst (λ (s : Span). HasMore (λ slot. c.has_flag-2.result && (is_source_slot (symbols_of_marked c.ask_where.new.self) slot && slot_in c.args.index s slot)) (λ block. 0)
    c.ask_where.new.self c.ask_where-2.new.self) c.whole_blocks-blocks.ensures.span c.ask_where-2.ensures)
    (subst (λ (s : Span). HasMore (λ slot. c.has_flag-3.result && (is_source_slot (symbols_of_marked c.ask_where-2.new.self) slot && slot_in c.args.index s slot)) (λ block. 0)
    c.ask_where-2.new.self c.ask_where-3.new.self) c.whole_objects-objects.ensures.span c.ask_where-3.ensures)
    c.ask_info_where.ensures
