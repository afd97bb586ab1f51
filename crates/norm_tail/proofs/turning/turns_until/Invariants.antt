use Rattle.std.proofs.Common.{◌≡◌, ◌+◌, ◌-◌, ◌*◌, ◌<◌, ◌≤◌}
use Rattle.norm_tail.specs.SoFar.{Context, At}
use Rattle.norm_tail.specs.Steps.{words_of}
use Rattle.norm_safety.specs.Tail.{Tail, tail_until}
use Rattle.norm_tail.proofs.TurnLemmas.{Counting}
use Rattle.norm_world.specs.WorldKept.{IsReady}
use Rattle.norm_tail.proofs.turning.turns_until.Given as goal

abbrev pub invariant-loop-turns : goal.invariant-loop-turns
invariant-loop-turns l = record {
  ready : IsReady l.world;
  profile : l.world.p ≡ l.initial.world.p;
  within : l.turns ≤ l.bound;
  fits : l.now + (l.bound - l.turns) * l.profile.step < 18446744073709551616;
  counting : (x : Context) (t : Tail) → t.turns ≡ 0 → t.last ≡ l.fn.last → At x t.course l.initial.world l.initial.steps.items l.initial.draws
      → Counting x l.mark (l.bound - l.turns) (tail_until l.bound x.p (words_of x.draws) l.mark t) l.turns l.now l.world l.steps.items l.draws;
}
