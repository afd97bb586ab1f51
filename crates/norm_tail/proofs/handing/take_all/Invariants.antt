use Rattle.std.proofs.Common.{◌≡◌, ◌-◌}
use Rattle.rand_pcg.specs.Lcg.{Lcg}
use Rattle.norm_safety.specs.Events.{UpTaken}
use Rattle.norm_tail.specs.SoFar.{Context, At}
use Rattle.norm_safety.specs.Tail.{Course, comes, takes}
use Rattle.norm_tail.proofs.CourseLemmas.{Toward}
use Rattle.norm_tail.proofs.handing.take_all.Given as goal

abbrev pub invariant-loop : goal.invariant-loop
invariant-loop l = record {
  profile : l.world.p ≡ l.initial.world.p;
  sender : l.world.sender ≡ l.initial.world.sender;
  takes : (g : Lcg) (x : Context) (c : Course) → At x c l.initial.world l.initial.steps.items g
      → Toward x (comes x.p (UpTaken l.node)) (l.end - l.counter) (takes x.p l.node c) l.world l.steps.items g;
}
