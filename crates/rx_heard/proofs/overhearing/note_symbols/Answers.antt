use Rattle.rx_heard.specs.Overhearing.{naming}
use Rattle.rx_heard.proofs.OverhearingLemmas.{all_widths}
use Rattle.rx_heard.proofs.overhearing.note_symbols.Goals as goal

pub returns : goal.returns
returns c =
    all_widths c.args.spans.now.items c.note_where.new.spans.items c.note_where-2.new.spans.items c.note_where-3.new.spans.items
    (naming c.args.flags c.args.named.now) c.in_ok-note_where.ensures c.in_ok-note_where-2.ensures c.in_ok-note_where-3.ensures
