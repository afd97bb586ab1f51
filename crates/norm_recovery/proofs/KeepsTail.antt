-- A tail leaves orders, drop points, members, struck nodes, and watermarks as they were made.
use Rattle.std.proofs.Common.{sym, subst}
use Rattle.std.specs.List.{AllByRecursion}
use Rattle.norm_safety.specs.Tail.{events_of}
use Rattle.norm_safety.specs.World.{World}
use Rattle.norm_safety.specs.WorldStep.{run}
use Rattle.norm_safety.proofs.WorldMoves.{all_front}
use Rattle.norm_recovery.specs.TailKeeps.{Stays, TailKeeps}
use Rattle.norm_recovery.specs.TailOf.{IsQuiet}
use Rattle.norm_recovery.proofs.KeepsSender.{quiet_run_stays}
use Rattle.norm_recovery.proofs.TailCourses.{run_tail_calm}

pub tail_keeps : TailKeeps
tail_keeps p events c tail v moment =
    let quiet : AllByRecursion IsQuiet (events_of c) = (run_tail_calm p events c tail).quiet in
    let first : AllByRecursion IsQuiet moment.front = all_front IsQuiet moment.front moment.rest (subst (AllByRecursion IsQuiet) (sym moment.all) quiet) in
    subst (λ (x : World). Stays (run p events).sender x.sender) moment.here (quiet_run_stays p (run p events) moment.front first)
