-- What one sender has to send runs out.
use Rattle.std.proofs.Common.{◌+◌, ◌*◌, ◌≤◌, Bool, true, false, arith}
use Rattle.norm_base.specs.Settings.{Settings, InRange}
use Rattle.norm_send_rules.specs.Laws.{WantsHold}
use Rattle.norm_send_rules.specs.Repairable.{repairable}
use Rattle.norm_send_rules.specs.SenderState.{SenderState}
use Rattle.norm_recovery.specs.RunsOut.{one_if, to_send, RunsOutLaws}
use Rattle.norm_recovery.proofs.RunsOutTick.{begins, goes_on, is_out}
use Rattle.norm_recovery.proofs.RunsOutWindow.{few_wants, few_new}

pub few : (p : Settings) (s : SenderState) → InRange p → WantsHold p s → to_send p s ≤ 2 * repairable p s + 1
few p s range h =
    let wants = few_wants p s range h in
    let new = few_new p s range in
    let one = at_most_one s.squelch_due in
    omega (arith, wants, new, one)
  where
    at_most_one : (b : Bool) → one_if b ≤ 1
    at_most_one true = omega arith
    at_most_one false = omega arith

pub runs_out_laws : RunsOutLaws
runs_out_laws = record { begins = begins; goes_on = goes_on; is_out = is_out; few = few }
