-- A state that a book stands for.
use Rattle.std.proofs.Common.{◌≡◌, List, [], ◌∷◌, map, refl, ap}
use Rattle.norm_base.specs.Settings.{defaults}
use Rattle.norm_send_rules.specs.SenderState.{Watermark, sender_opening}
use Rattle.mark_book.specs.BookState.{MarkState, Kept, mark_state, kept_state, untold_marks}
use Rattle.mark_book.specs.Laws.{EachBookStands}

-- a watermark under the name of a command
abbrev named : Kept → Watermark
named k = record { mark = k.mark; by = record { producer = 1; number = k.mark }; at = k.at; quorum = k.quorum; ended = k.ended }

same_states : (ks : List Kept) → map kept_state ks ≡ map mark_state (map named ks)
same_states [] = refl
same_states (k ∷ ks) = ap (λ (states : List MarkState). kept_state k ∷ states) (same_states ks)

pub each_book_stands : EachBookStands
each_book_stands = λ b. (
  record defaults { receivers = b.receivers },
  record (sender_opening defaults 0) {
    listings = b.listings;
    watermarks = map named b.watermarks;
    untold_nodes = b.untold_nodes;
    untold_marks = untold_marks b.watermarks;
  },
  record { receivers = refl; listings = refl; watermarks = same_states b.watermarks; nodes = refl; marks = refl },
)
