-- What a book answers, in the words of the sender's rules.
use Rattle.std.specs.Prelude.{ℕ, List, [], ◌∷◌, ◌++◌, ⊤, true, false, fold, nat_eq, Option, None, Some, Result, Ok, Err, if◌then◌else◌}
use Rattle.std.specs.Set.{is_member}
use Rattle.norm_base.specs.Settings.{Settings}
use Rattle.norm_base.specs.declared.node.Origin.{Origin}
use Rattle.fec_plan.specs.declared.position.Position.{Position}
use Rattle.norm_send_rules.specs.SenderState.{SenderState, Watermark}
use Rattle.norm_send_rules.specs.Marking.{is_no_quorum, watermark_at}
use Rattle.norm_send_rules.specs.declared.fault.MarkFault.{MarkFault}
use Rattle.norm_send_rules.specs.declared.fault.MarkFault.TheVariants.{Quorum}
use Rattle.norm_send_rules.specs.declared.fault.StrikeFault.{StrikeFault}
use Rattle.norm_send_rules.specs.declared.job.Receipt.{Receipt}
use Rattle.norm_send_rules.specs.declared.job.Receipt.TheVariants.{Mark, Struck}
use Rattle.mark_book.specs.declared.watermark.OpenWatermark.{OpenWatermark}

-- the number in a receipt; watermarks are numbered from 1
abbrev pub number_of : Receipt → ℕ
number_of (Mark mark at) = mark
number_of _ = 0

-- the number of a watermark, or why none was made
abbrev pub numbered : Result Receipt MarkFault → Result ℕ MarkFault
numbered (Ok receipt) = Ok (number_of receipt)
numbered (Err fault) = Err fault

-- the fault of a quorum that can be none
abbrev pub quorum_refused : Settings → Option ℕ → Option MarkFault
quorum_refused p None = None
quorum_refused p (Some q) = elim (is_no_quorum p q) [ true ↦ Some (Quorum q) | false ↦ None ]

-- a watermark up to a position, where its quorum can be one
abbrev pub asked_for : Settings → SenderState → Origin → Option ℕ → Option Position → SenderState × Result Receipt MarkFault
asked_for p s by quorum at = elim (quorum_refused p quorum) [ Some fault ↦ (s, Err fault) | None ↦ watermark_at s by quorum at ]

-- the receipt of a strike of this node, or why it was refused
abbrev pub strike_receipt : ℕ → Result ⊤ StrikeFault → Result Receipt StrikeFault
strike_receipt node (Ok done) = Ok (Struck node)
strike_receipt node (Err fault) = Err fault

-- the number and the position of a watermark
abbrev pub open_watermark : Watermark → OpenWatermark
open_watermark w = record { mark = w.mark; at = w.at }

-- these nodes, each once, where it first stands
abbrev pub once_each : List ℕ → List ℕ
once_each nodes = fold (λ done node. if is_member nat_eq done node then done else done ++ node ∷ []) [] nodes
