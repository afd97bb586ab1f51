-- What is promised of why a stream goes on or not.
use Rattle.std.specs.Prelude.{◌≡◌, ◌-◌, List, [], ◌∷◌, ◌++◌, length, take, Some}
use Rattle.norm_base.specs.Settings.{Settings}
use Rattle.norm_order.specs.First.{first_where}
use Rattle.norm_order.specs.Entries.{Part}
use Rattle.norm_order.specs.Segments.{written}
use Rattle.norm_send_rules.specs.SenderState.{SenderState}
use Rattle.norm_send_rules.specs.InWindow.{last_index}
use Rattle.norm_send_rules.specs.Room.{window, may_all_go, first_kept}
use Rattle.norm_send_rules.specs.Enqueuing.{open_stream}
use Rattle.norm_send_rules.specs.Streaming.{is_spent, is_crowded}
use Rattle.norm_send_rules.specs.declared.fault.StreamFault.TheVariants.{Spent, Full}
use Rattle.stream_buffer.specs.Growing.{growing_fault}

-- Where the first block is the one that the state keeps, and the entries before the stream are those of the window, the stream
-- that is open does not go on exactly where the rules call it spent or crowded, in this order.
abbrev pub IsAsRuled : Type 0
IsAsRuled =
    (p : Settings) (s : SenderState) (parts more : List Part) → open_stream s ≡ Some parts
    → growing_fault p s (last_index s) parts more (first_kept s (last_index s))
    (may_all_go p s s.current.drop.index (take (last_index s - s.current.drop.index) (window s)))
    ≡ first_where (
    (is_spent p (parts ++ more), Spent (length (written parts)))
    ∷ (is_crowded p s (parts ++ more), Full (first_kept s (last_index s)))
    ∷ []
    )
