use Rattle.std.proofs.Common.{◌∙◌, arith}
use Rattle.std.proofs.lemmas.Grind.{common_steps}
use Rattle.std.proofs.lemmas.List.{take-append-drop}
use Rattle.norm_text.proofs.DigitLemmas.{parted_digits}
use Rattle.norm_text.proofs.digits.put_digits.Goals as goal

pub lanes-preserved : goal.lanes-preserved
lanes-preserved c = record {
  whole =
      parted_digits c.lanes.rest.now c.split_at.result.0.now c.split_at.result.1.now c.lanes.text.items c.put_lanes.new.text.items
      (grind (arith, common_steps, take-append-drop)) c.put_lanes.ensures.digits ∙ c.lanes.invariant.whole;
  room = grind (arith, common_steps);
}
