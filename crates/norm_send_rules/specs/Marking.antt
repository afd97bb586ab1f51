-- A mark (RFC 5740 section 5.5.3): it asks that a quorum of the members, all where none is given, confirm everything that
-- was enqueued so far.
use Rattle.std.specs.Prelude.{ℕ, ◌+◌, [], ◌∷◌, ◌++◌, length, nat_le, Option, None, Some, Result, Ok, Err, true, false, Bool, nat_lt, ◌==◌, ◌||◌}
use Rattle.norm_base.specs.Settings.{Settings}
use Rattle.norm_base.specs.declared.node.Origin.{Origin}
use Rattle.fec_plan.specs.declared.position.Position.{Position}
use Rattle.norm_order.specs.Shapes.{last_source}
use Rattle.norm_send_rules.specs.SenderState.{SenderState, Watermark}
use Rattle.norm_send_rules.specs.InWindow.{current_shapes}
use Rattle.norm_send_rules.specs.Watermarks.{open_watermarks, counted_anew, settled}
use Rattle.norm_send_rules.specs.Streaming.{cut}
use Rattle.norm_send_rules.specs.declared.fault.MarkFault.{MarkFault}
use Rattle.norm_send_rules.specs.declared.fault.MarkFault.TheVariants.{Quorum, NothingEnqueued, TooMany}
use Rattle.norm_send_rules.specs.declared.job.Receipt.{Receipt}
use Rattle.norm_send_rules.specs.declared.job.Receipt.TheVariants.{Mark}

-- at most so many watermarks are open
abbrev pub most_open : ℕ
most_open = 16

-- no such quorum can be: it is 0, or more than the receivers of the profile
abbrev pub is_no_quorum : Settings → ℕ → Bool
is_no_quorum p quorum = quorum == 0 || nat_lt p.receivers quorum

-- one more watermark, which asks for everything up to this position. It is satisfied at once where enough members are
-- listed past it.
abbrev pub with_watermark : SenderState → Origin → Option ℕ → Position → SenderState
with_watermark s by quorum at =
    let w : Watermark = record { mark = length s.watermarks + 1; by = by; at = at; quorum = quorum; ended = None } in
    counted_anew s (settled (record s { watermarks = s.watermarks ++ w ∷ [] }))

-- a watermark for the position found, or the fault
abbrev pub watermark_at : SenderState → Origin → Option ℕ → Option Position → SenderState × Result Receipt MarkFault
watermark_at s by quorum None = (s, Err NothingEnqueued)
watermark_at s by quorum (Some at) = elim (nat_le most_open (length (open_watermarks s))) [
  | true ↦ (s, Err (TooMany (length (open_watermarks s))))
  | false ↦ (with_watermark s by quorum at, Ok (Mark (length s.watermarks + 1) at))
]

-- The open stream is cut, and the last closed source symbol of the order is asked for, also where it was dropped. The
-- cut stays where no watermark is made.
abbrev pub cut_and_marked : Settings → SenderState → Origin → Option ℕ → SenderState × Result Receipt MarkFault
cut_and_marked p s by quorum = let s' = cut p s in watermark_at s' by quorum (last_source (current_shapes p s'))

-- A quorum that can be none is refused before anything is cut.
abbrev pub marked : Settings → SenderState → Origin → Option ℕ → SenderState × Result Receipt MarkFault
marked p s by None = cut_and_marked p s by None
marked p s by (Some q) = elim (is_no_quorum p q) [ true ↦ (s, Err (Quorum q)) | false ↦ cut_and_marked p s by (Some q) ]
