use Rattle.std.proofs.Common.{◌≡◌}
use Rattle.std.specs.Prelude.{fold}
use Rattle.norm_base.specs.Members.{receivers_of}
use Rattle.norm_tail.specs.SoFar.{Context, At}
use Rattle.norm_tail.specs.Steps.{words_of}
use Rattle.norm_safety.specs.Tail.{Course, serves}
use Rattle.norm_tail.proofs.PassLemmas.{Serving}
use Rattle.norm_world.specs.WorldKept.{IsReady}
use Rattle.norm_tail.proofs.serving.serve_all.Given as goal

abbrev pub invariant-loop-i : goal.invariant-loop-i
invariant-loop-i l = record {
  ready : IsReady l.world;
  profile : l.world.p ≡ l.initial.world.p;
  serves : (x : Context) (c : Course) → At x c l.initial.world l.initial.steps.items l.initial.draws
      → Serving x l.now l.i (fold (serves x.p (words_of x.draws) l.now) c (receivers_of x.p x.p.receivers)) l.world l.steps.items l.draws;
}
