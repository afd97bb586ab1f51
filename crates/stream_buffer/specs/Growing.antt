-- When a stream of the window goes on, and why it does not (RFC 5740 section 5.1 on NORM_OBJECT_STREAM).
use Rattle.std.specs.Prelude.{ℕ, ◌≡◌, ◌-◌, ◌&&◌, ◌||◌, not, max, List, [], ◌∷◌, ◌++◌, length, Bool, nat_le, Option, MatchOption, Result, Ok, Err}
use Rattle.std.specs.List.{list_all, range_with_len}
use Rattle.norm_base.specs.Settings.{Settings}
use Rattle.norm_order.specs.First.{first_where}
use Rattle.norm_order.specs.Entries.{Part, Stream}
use Rattle.norm_order.specs.Segments.{written}
use Rattle.norm_order.specs.Shapes.{shape_of}
use Rattle.norm_send_rules.specs.SenderState.{SenderState}
use Rattle.norm_send_rules.specs.Room.{block_may_go, least_kept}
use Rattle.norm_send_rules.specs.Streaming.{used_segments, is_spent}
use Rattle.norm_send_rules.specs.declared.fault.StreamFault.{StreamFault}
use Rattle.norm_send_rules.specs.declared.fault.StreamFault.TheVariants.{Spent, Full}
use Rattle.stream_buffer.specs.HeldState.{HeldState, Knows}

-- no block has to go before the first that is kept is this one, or all may that have to, and the entries before the stream
abbrev pub has_room : Settings → SenderState → ℕ → List Part → ℕ → Bool → ℕ → Bool
has_room p s index parts first before least =
    nat_le least first || (before && list_all (block_may_go p s index (shape_of p (Stream parts))) (range_with_len first (least - first)))

-- why an open stream does not take these parts more: the first that applies
abbrev pub growing_fault : Settings → SenderState → ℕ → List Part → List Part → ℕ → Bool → Option StreamFault
growing_fault p s index parts more first before = first_where (
    (is_spent p (parts ++ more), Spent (length (written parts)))
    ∷ (not (has_room p s index parts first before (least_kept p (used_segments p (parts ++ more)))), Full first)
    ∷ []
    )

-- These parts join the stream, the first block that is kept is the least that has to be, and the answer is this value; or the
-- first fault that applies is answered, and nothing changes.
abbrev pub Grows : {X : Type 0} → Settings → SenderState → ℕ → List Part → List Part → Bool → X → HeldState → HeldState → Result X StreamFault → Type 0
Grows p s index parts more before value old new answer =
    MatchOption (growing_fault p s index parts more old.buffer.first before)
    ((answer ≡ Ok value) × Knows p index (parts ++ more) s.sent new
    × (new.buffer.first ≡ max old.buffer.first (least_kept p (used_segments p (parts ++ more)))))
    (λ fault. (answer ≡ Err fault) × (new ≡ old))
