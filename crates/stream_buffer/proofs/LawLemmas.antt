-- Why a stream of the window goes on or not, in the rules' words.
use Rattle.std.proofs.Common.{sym, ap, List, [], ◌∷◌, ◌++◌, length, Option}
use Rattle.std.specs.Prelude.{not, unwrap_or}
use Rattle.norm_order.specs.First.{first_where}
use Rattle.norm_order.specs.Entries.{Part, Stream}
use Rattle.norm_order.specs.Segments.{written}
use Rattle.norm_order.specs.Shapes.{shape_of}
use Rattle.norm_send_rules.specs.InWindow.{last_index}
use Rattle.norm_send_rules.specs.Room.{first_kept, stream_has_room}
use Rattle.norm_send_rules.specs.Streaming.{used_segments, is_spent}
use Rattle.norm_send_rules.specs.declared.fault.StreamFault.TheVariants.{Spent, Full}
use Rattle.stream_buffer.specs.Laws.{IsAsRuled}

pub as_ruled : IsAsRuled
as_ruled p s parts more open_ =
    ap (λ (o : Option (List Part)). first_where (
    (is_spent p (parts ++ more), Spent (length (written parts)))
    ∷ (not (stream_has_room p s (last_index s) (shape_of p (Stream (unwrap_or o []))) (used_segments p (parts ++ more))), Full (first_kept s (last_index s)))
    ∷ [])) (sym open_)
