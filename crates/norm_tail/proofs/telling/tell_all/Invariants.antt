use Rattle.std.proofs.Common.{◌≡◌, ◌-◌}
use Rattle.rand_pcg.specs.Lcg.{Lcg}
use Rattle.norm_safety.specs.Events.{NewsAsked}
use Rattle.norm_tail.specs.SoFar.{Context, At}
use Rattle.norm_safety.specs.Tail.{Course, comes, tells}
use Rattle.norm_tail.proofs.CourseLemmas.{Toward}
use Rattle.norm_world.specs.WorldKept.{IsReady}
use Rattle.norm_tail.proofs.telling.tell_all.Given as goal

abbrev pub invariant-loop : goal.invariant-loop
invariant-loop l = record {
  ready : IsReady l.world;
  profile : l.world.p ≡ l.initial.world.p;
  tells : (g : Lcg) (x : Context) (c : Course) → At x c l.initial.world l.initial.steps.items g
      → Toward x (comes x.p NewsAsked) (l.end - l.counter) (tells x.p c) l.world l.steps.items g;
}
