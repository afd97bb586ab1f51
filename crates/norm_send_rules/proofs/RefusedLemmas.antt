-- What a refused command leaves.
use Rattle.std.proofs.Common.{◌≡◌, ℕ, [], ◌∷◌, ◌++◌, length, Bool, true, false, Option, None, Some, Result, Ok, Err, refl}
use Rattle.std.specs.Prelude.{nat_le}
use Rattle.norm_base.specs.Settings.{Settings}
use Rattle.norm_base.specs.declared.kinds.Kind.TheVariants as kind
use Rattle.norm_base.specs.declared.node.Origin.{Origin}
use Rattle.fec_plan.specs.declared.position.Position.{Position}
use Rattle.norm_order.specs.Entries.{Write, End, Whole, Stream}
use Rattle.norm_order.specs.Shapes.{last_source}
use Rattle.norm_send_rules.specs.SenderState.{SenderState}
use Rattle.norm_send_rules.specs.InWindow.{current_shapes}
use Rattle.norm_send_rules.specs.Watermarks.{open_watermarks}
use Rattle.norm_send_rules.specs.Enqueuing.{object_fault, joined}
use Rattle.norm_send_rules.specs.Streaming.{open_fault, write_fault, close_fault, grown, parts_now, cut}
use Rattle.norm_send_rules.specs.Marking.{is_no_quorum, most_open, watermark_at, with_watermark, cut_and_marked}
use Rattle.norm_send_rules.specs.Restarting.{is_used, begun_anew}
use Rattle.norm_send_rules.specs.Striking.{strike_fault, struck_off}
use Rattle.norm_send_rules.specs.Commanding.{answered}
use Rattle.norm_send_rules.specs.declared.fault.EnqueueFault.{EnqueueFault}
use Rattle.norm_send_rules.specs.declared.fault.MarkFault.{MarkFault}
use Rattle.norm_send_rules.specs.declared.fault.MarkFault.TheVariants.{TooMany, Quorum}
use Rattle.norm_send_rules.specs.declared.fault.StrikeFault.{StrikeFault}
use Rattle.norm_send_rules.specs.declared.fault.SendFault.{SendFault}
use Rattle.norm_send_rules.specs.declared.fault.SendFault.TheVariants.{Enqueue, Mark, Strike, IdUsed}
use Rattle.norm_send_rules.specs.declared.job.Receipt.{Receipt}
use Rattle.norm_send_rules.specs.declared.job.Job.TheVariants as job
use Rattle.norm_send_rules.specs.Laws.{RefusedLeaves}

abbrev as_ok : Receipt → Result Receipt SendFault
as_ok receipt = Ok receipt

abbrev as_err : SendFault → Result Receipt SendFault
as_err fault = Err fault

apart : (receipt : Receipt) (fault : SendFault) → as_ok receipt ≡ as_err fault → ⊥
apart receipt fault e = cc

-- a step that is refused where there is a fault
abbrev where_free : Option EnqueueFault → SenderState → SenderState → Receipt → SenderState × Result Receipt EnqueueFault
where_free found s after receipt = elim found [ Some fault ↦ (s, Err fault) | None ↦ (after, Ok receipt) ]

leaves : (found : Option EnqueueFault) (s after : SenderState) (receipt : Receipt) (fault : SendFault)
    → (answered Enqueue (where_free found s after receipt)).1 ≡ Err fault → (answered Enqueue (where_free found s after receipt)).0 ≡ s
leaves None s after receipt fault e = absurd (apart receipt fault e)
leaves (Some reason) s after receipt fault e = refl

-- a watermark that is refused where too many are open
abbrev where_few : Bool → SenderState → SenderState → ℕ → Receipt → SenderState × Result Receipt MarkFault
where_few many s after n receipt = elim many [ true ↦ (s, Err (TooMany n)) | false ↦ (after, Ok receipt) ]

mark_leaves : (many : Bool) (s after : SenderState) (n : ℕ) (receipt : Receipt) (fault : SendFault)
    → (answered Mark (where_few many s after n receipt)).1 ≡ Err fault → (answered Mark (where_few many s after n receipt)).0 ≡ s
mark_leaves true s after n receipt fault e = refl
mark_leaves false s after n receipt fault e = absurd (apart receipt fault e)

watermark_leaves : (s : SenderState) (by : Origin) (quorum : Option ℕ) (found : Option Position) (fault : SendFault)
    → (answered Mark (watermark_at s by quorum found)).1 ≡ Err fault → (answered Mark (watermark_at s by quorum found)).0 ≡ s
watermark_leaves s by quorum None fault e = refl
watermark_leaves s by quorum (Some at) fault e =
    mark_leaves (nat_le most_open (length (open_watermarks s))) s (with_watermark s by quorum at) (length (open_watermarks s)) _ fault e

cut_leaves : (p : Settings) (s : SenderState) (by : Origin) (quorum : Option ℕ) (fault : SendFault)
    → (answered Mark (cut_and_marked p s by quorum)).1 ≡ Err fault → (answered Mark (cut_and_marked p s by quorum)).0 ≡ cut p s
cut_leaves p s by quorum fault e = watermark_leaves (cut p s) by quorum (last_source (current_shapes p (cut p s))) fault e

-- a quorum that can be none is refused before the cut
quorum_leaves : (none : Bool) (p : Settings) (s : SenderState) (by : Origin) (q : ℕ) (fault : SendFault)
    → (answered Mark (elim none [ true ↦ (s, Err (Quorum q)) | false ↦ cut_and_marked p s by (Some q) ])).1 ≡ Err fault
    → (answered Mark (elim none [ true ↦ (s, Err (Quorum q)) | false ↦ cut_and_marked p s by (Some q) ])).0 ≡ elim none [ true ↦ s | false ↦ cut p s ]
quorum_leaves true p s by q fault e = refl
quorum_leaves false p s by q fault e = cut_leaves p s by (Some q) fault e

-- a strike that is refused where there is a fault
abbrev where_struck : Option StrikeFault → SenderState → SenderState → Receipt → SenderState × Result Receipt StrikeFault
where_struck found s after receipt = elim found [ Some fault ↦ (s, Err fault) | None ↦ (after, Ok receipt) ]

strike_leaves : (found : Option StrikeFault) (s after : SenderState) (receipt : Receipt) (fault : SendFault)
    → (answered Strike (where_struck found s after receipt)).1 ≡ Err fault → (answered Strike (where_struck found s after receipt)).0 ≡ s
strike_leaves None s after receipt fault e = absurd (apart receipt fault e)
strike_leaves (Some reason) s after receipt fault e = refl

-- a restart that is refused where the id was used
abbrev where_new : Bool → SenderState → SenderState → ℕ → Receipt → SenderState × Result Receipt SendFault
where_new used s after id receipt = elim used [ true ↦ (s, Err (IdUsed id)) | false ↦ (after, Ok receipt) ]

restart_leaves : (used : Bool) (s after : SenderState) (id : ℕ) (receipt : Receipt) (fault : SendFault)
    → (where_new used s after id receipt).1 ≡ Err fault → (where_new used s after id receipt).0 ≡ s
restart_leaves true s after id receipt fault e = refl
restart_leaves false s after id receipt fault e = absurd (apart receipt fault e)

pub refused_leaves : RefusedLeaves
refused_leaves p s by (job.Data info bytes) fault e =
    leaves (object_fault p s info bytes) s (joined p by (Whole kind.Data info bytes) s) _ fault e
refused_leaves p s by (job.File name bytes) fault e =
    leaves (object_fault p s (Some name) bytes) s (joined p by (Whole kind.File (Some name) bytes) s) _ fault e
refused_leaves p s by job.Open fault e = leaves (open_fault p s) s (joined p by (Stream []) s) _ fault e
refused_leaves p s by (job.Write bytes) fault e =
    let parts = parts_now s ++ Write by bytes ∷ [] in
    leaves (write_fault p s bytes parts) s (grown p s parts) _ fault e
refused_leaves p s by job.Close fault e =
    let parts = parts_now s ++ End ∷ [] in
    leaves (close_fault p s parts) s (grown p s parts) _ fault e
refused_leaves p s by (job.Mark None) fault e = cut_leaves p s by None fault e
refused_leaves p s by (job.Mark (Some q)) fault e = quorum_leaves (is_no_quorum p q) p s by q fault e
refused_leaves p s by (job.Restart instance) fault e = restart_leaves (is_used s instance) s (begun_anew instance s) instance _ fault e
refused_leaves p s by (job.Strike node) fault e = strike_leaves (strike_fault s node) s (struck_off node s) _ fault e
