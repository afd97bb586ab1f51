use Rattle.std.proofs.Common.{◌≡◌}
use Rattle.std.specs.Prelude.{fold}
use Rattle.norm_safety.specs.Events.{Offered}
use Rattle.norm_tail.specs.SoFar.{Context, At}
use Rattle.norm_tail.specs.Steps.{words_of}
use Rattle.norm_safety.specs.Tail.{Course, comes, copy_comes, others_than}
use Rattle.norm_tail.proofs.PassLemmas.{Copying}
use Rattle.norm_world.specs.WorldKept.{IsReady}
use Rattle.norm_tail.proofs.copying.copy_to_all.Given as goal

abbrev pub invariant-loop-i : goal.invariant-loop-i
invariant-loop-i l = record {
  ready : IsReady l.world;
  profile : l.world.p ≡ l.initial.world.p;
  copies : (x : Context) (c : Course) → At x c l.initial.world l.initial.steps.items l.initial.draws
      → Copying x l.now l.bytes l.from l.i
      (fold (copy_comes x.p (words_of x.draws) l.now l.bytes) (comes x.p (Offered l.from l.bytes) c) (others_than x.p l.from))
      l.world l.steps.items l.draws;
}
