use Rattle.std.proofs.Common.{◌≡◌, length, map}
use Rattle.norm_ext.specs.Requests.{items_named}
use Rattle.norm_text.specs.Words.{with_piece, with_pieces, joined}
use Rattle.norm_show.specs.Words.{item_word}
use Rattle.norm_show.proofs.lists.put_items.Given as goal

abbrev pub invariant-items : goal.invariant-items
invariant-items l = with_pieces 43 l.line (map item_word (items_named l.rest)) ≡ with_piece 58 l.fn.line (joined 43 (map item_word (items_named l.fn.items)))

abbrev pub decreases-items : goal.decreases-items
decreases-items l = length (items_named l.rest)
