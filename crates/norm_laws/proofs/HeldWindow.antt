-- Each event of a sender keeps its window within its profile.
use Rattle.std.proofs.Common.{◌≡◌, ℕ, List, [], ◌∷◌, ◌++◌, length, Bool, true, false, Option, None, Some, Result, Ok, Err, refl, ap, ◌∙◌}
use Rattle.norm_base.specs.Settings.{Settings, InRange}
use Rattle.norm_base.specs.declared.kinds.Kind.{Kind}
use Rattle.norm_base.specs.declared.kinds.Kind.TheVariants as kind
use Rattle.norm_base.specs.declared.node.Origin.{Origin}
use Rattle.norm_order.specs.Entries.{Part, Write, End, Whole, Stream}
use Rattle.norm_order.specs.Segments.{written}
use Rattle.norm_order.specs.Shapes.{last_source}
use Rattle.norm_send_rules.specs.SenderState.{SenderState}
use Rattle.norm_send_rules.specs.SenderStep.{SenderEvent, Commanded, Delivered, Ticked, NewsAsked, sender_step}
use Rattle.norm_send_rules.specs.InWindow.{last_index, current_shapes}
use Rattle.norm_send_rules.specs.Room.{size_of}
use Rattle.norm_send_rules.specs.Enqueuing.{object_fault, joined, enqueued}
use Rattle.norm_send_rules.specs.Streaming.{open_fault, opened, parts_now, used_segments, write_fault, close_fault, wrote, closed, grown, cut}
use Rattle.norm_send_rules.specs.Marking.{is_no_quorum, cut_and_marked}
use Rattle.norm_send_rules.specs.Restarting.{is_used, begun_anew}
use Rattle.norm_send_rules.specs.Striking.{strike_fault, struck_off}
use Rattle.norm_send_rules.specs.Commanding.{commanded, answered}
use Rattle.norm_send_rules.specs.Hearing.{heard}
use Rattle.norm_send_rules.specs.Ticking.{ticked}
use Rattle.norm_send_rules.specs.Telling.{told}
use Rattle.norm_send_rules.specs.DropLaws.{DropHolds}
use Rattle.norm_send_rules.specs.declared.fault.EnqueueFault.{EnqueueFault}
use Rattle.norm_send_rules.specs.declared.fault.MarkFault.TheVariants.{Quorum}
use Rattle.norm_send_rules.specs.declared.fault.StrikeFault.{StrikeFault}
use Rattle.norm_send_rules.specs.declared.fault.SendFault.{SendFault}
use Rattle.norm_send_rules.specs.declared.fault.SendFault.TheVariants.{Enqueue, Mark, Strike, IdUsed}
use Rattle.norm_send_rules.specs.declared.job.Job.{Job}
use Rattle.norm_send_rules.specs.declared.job.Job.TheVariants as job
use Rattle.norm_send_rules.specs.declared.job.Receipt.{Receipt}
use Rattle.norm_send_rules.specs.declared.job.Receipt.TheVariants as receipt
use Rattle.norm_safety.proofs.CommandSteps.{first_none}
use Rattle.norm_safety.proofs.SenderKeeps.{heard_keeps, ticked_keeps, told_keeps, struck_keeps}
use Rattle.norm_safety.proofs.SizedOrders.{not_less, mark_steady}
use Rattle.norm_laws.proofs.HeldRoom.{FitsNow, fits_nothing, fits_same, fits_joined, fits_grown, fits_cut, nothing_used}

abbrev state_of : SenderState × Result Receipt SendFault → SenderState
state_of step = step.0

enqueue_fits : (p : Settings) → InRange p → (s : SenderState) (by : Origin) (kind : Kind) (info : Option (List ℕ)) (octets : List ℕ) → FitsNow p s
    → FitsNow p (answered Enqueue (enqueued p s by kind info octets)).0
enqueue_fits p range s by kind info octets h = go (object_fault p s info octets) refl
  where
    no_stream : (parts : List Part) → Whole kind info octets ≡ Stream parts → used_segments p parts ≡ 0
    no_stream parts e = absurd (cc)

    go : (found : Option EnqueueFault) → object_fault p s info octets ≡ found → FitsNow p (state_of (answered Enqueue (elim found [
      | Some fault ↦ (s, Err fault)
      | None ↦ (joined p by (Whole kind info octets) s, Ok (receipt.Object (length s.current.order) (length octets)))
    ])))
    go (Some fault) e = h
    go None e =
        let first = first_none _ _ _ e in
        let second = first_none _ _ _ first.1 in
        fits_joined p range by (Whole kind info octets) s (not_less p.octets (length octets) second.0) no_stream h

open_fits : (p : Settings) → InRange p → (s : SenderState) (by : Origin) → FitsNow p s → FitsNow p (answered Enqueue (opened p s by)).0
open_fits p range s by h = go (open_fault p s) refl
  where
    stream_parts : (a b : List Part) → Stream a ≡ Stream b → b ≡ a
    stream_parts a b e = cc

    go : (found : Option EnqueueFault) → open_fault p s ≡ found → FitsNow p (state_of (answered Enqueue (elim found [
      | Some fault ↦ (s, Err fault)
      | None ↦ (joined p by (Stream []) s, Ok (receipt.Opened (length s.current.order)))
    ])))
    go (Some fault) e = h
    go None e =
        let first = first_none _ _ _ e in
        fits_joined p range by (Stream []) s (not_less p.octets (size_of p (Stream [])) first.0)
        (λ parts is. ap (used_segments p) (stream_parts [] parts is) ∙ nothing_used p) h

write_fits : (p : Settings) → InRange p → (s : SenderState) (by : Origin) (octets : List ℕ) → DropHolds s → FitsNow p s
    → FitsNow p (answered Enqueue (wrote p s by octets)).0
write_fits p range s by octets drops h = go (write_fault p s octets (parts_now s ++ Write by octets ∷ [])) refl
  where
    go : (found : Option EnqueueFault) → write_fault p s octets (parts_now s ++ Write by octets ∷ []) ≡ found → FitsNow p (state_of (answered Enqueue (elim found [
      | Some fault ↦ (s, Err fault)
      | None ↦ (grown p s (parts_now s ++ Write by octets ∷ []), Ok (receipt.Wrote (last_index s) (length (written (parts_now s))) (length octets)))
    ])))
    go (Some fault) e = h
    go None e =
        let first = first_none _ _ _ e in
        let second = first_none _ _ _ first.1 in
        let third = first_none _ _ _ second.1 in
        fits_grown p range s (Write by octets) third.0 drops h

close_fits : (p : Settings) → InRange p → (s : SenderState) → DropHolds s → FitsNow p s → FitsNow p (answered Enqueue (closed p s)).0
close_fits p range s drops h = go (close_fault p s (parts_now s ++ End ∷ [])) refl
  where
    go : (found : Option EnqueueFault) → close_fault p s (parts_now s ++ End ∷ []) ≡ found → FitsNow p (state_of (answered Enqueue (elim found [
      | Some fault ↦ (s, Err fault)
      | None ↦ (grown p s (parts_now s ++ End ∷ []), Ok (receipt.Closed (last_index s)))
    ])))
    go (Some fault) e = h
    go None e = fits_grown p range s End (first_none _ _ _ e).0 drops h

mark_fits : (p : Settings) (s : SenderState) (by : Origin) (quorum : Option ℕ) → DropHolds s → FitsNow p s
    → FitsNow p (answered Mark (cut_and_marked p s by quorum)).0
mark_fits p s by quorum drops h =
    fits_same p (cut p s) (answered Mark (cut_and_marked p s by quorum)).0
    (mark_steady p by quorum (cut p s) (last_source (current_shapes p (cut p s))) refl).current (fits_cut p s drops h)

pub fits_command : (p : Settings) → InRange p → (s : SenderState) (by : Origin) (job : Job) → DropHolds s → FitsNow p s → FitsNow p (commanded p s by job).0
fits_command p range s by (job.Data info bytes) drops h = enqueue_fits p range s by kind.Data info bytes h
fits_command p range s by (job.File name bytes) drops h = enqueue_fits p range s by kind.File (Some name) bytes h
fits_command p range s by job.Open drops h = open_fits p range s by h
fits_command p range s by (job.Write bytes) drops h = write_fits p range s by bytes drops h
fits_command p range s by job.Close drops h = close_fits p range s drops h
fits_command p range s by (job.Mark None) drops h = mark_fits p s by None drops h
fits_command p range s by (job.Mark (Some q)) drops h = go (is_no_quorum p q)
  where
    go : (no : Bool) → FitsNow p (state_of (answered Mark (elim no [ true ↦ (s, Err (Quorum q)) | false ↦ cut_and_marked p s by (Some q) ])))
    go true = h
    go false = mark_fits p s by (Some q) drops h
fits_command p range s by (job.Restart id) drops h = go (is_used s id)
  where
    go : (used : Bool) → FitsNow p (state_of (elim used [
      | true ↦ (s, Err (IdUsed id))
      | false ↦ (begun_anew id s, Ok (receipt.Restarted id))
    ]))
    go true = h
    go false = fits_nothing p
fits_command p range s by (job.Strike node) drops h = go (strike_fault s node)
  where
    go : (found : Option StrikeFault) → FitsNow p (state_of (answered Strike (elim found [
      | Some fault ↦ (s, Err fault)
      | None ↦ (struck_off node s, Ok (receipt.Struck node))
    ])))
    go (Some fault) = h
    go None = fits_same p s (struck_off node s) (struck_keeps node s).current h

pub fits_step : (p : Settings) → InRange p → (s : SenderState) (event : SenderEvent) → DropHolds s → FitsNow p s → FitsNow p (sender_step p s event).0
fits_step p range s (Commanded by job now) drops h = fits_command p range s by job drops h
fits_step p range s (Delivered datagram now) drops h = let keeps = heard_keeps p s datagram now in fits_same p s (heard p s datagram now) keeps.current h
fits_step p range s (Ticked now) drops h = let keeps = ticked_keeps p s now in fits_same p s (ticked p s now).0 keeps.current h
fits_step p range s NewsAsked drops h = let keeps = told_keeps s in fits_same p s (told s).0 keeps.current h
