use Rattle.std.proofs.Common.{subst}
use Rattle.norm_ext.specs.Asking.{span}
use Rattle.nack_union.specs.More.{HasPart, named_part, part_where, symbol_part}
use Rattle.nack_union.proofs.Parts.{part_then}
use Rattle.nack_union.proofs.collection.Collection.ask_item.Goals as goal

pub returns : goal.returns
returns c =
    part_then (named_part c.args.flags (span c.args.at c.args.at)) _ c.args.self.now c.ask_named.new.self c.ask_symbol_where.new.self c.ask_named.ensures
    (subst (λ b. HasPart (part_where b (symbol_part c.args.at)) c.ask_named.new.self c.ask_symbol_where.new.self) c.has_flag.ensures c.ask_symbol_where.ensures)
