use Rattle.std.proofs.Common.{◌≡◌, ◌≤◌, ◌<◌, ◌+◌, ◌⊎◌, ℕ, get_or, length}
use Rattle.std.specs.Prelude.{max}
use Rattle.std.specs.List.{AllByRecursion}
use Rattle.norm_ext.specs.Asking.{span}
use Rattle.nack_union.specs.Kept.{Marked}
use Rattle.nack_union.specs.More.{MoreOf, named_part}
use Rattle.nack_union.specs.Adding.{IsPlanned}
use Rattle.nack_union.proofs.asking.ask_range.Given as goal

abbrev pub invariant-places : goal.invariant-places
invariant-places l = record {
  each : (k : ℕ) (d : Marked) → k < length l.initial.objects → l.from ≤ k → k < l.place
      → MoreOf (named_part l.named.flags (span l.named.first l.named.last)) (l.first + k) (get_or l.initial.objects k d) (get_or l.objects k d);
  rest : (k : ℕ) (d : Marked) → (k < l.from) ⊎ (l.place ≤ k) → get_or l.objects k d ≡ get_or l.initial.objects k d;
  planned : AllByRecursion IsPlanned l.initial.objects → AllByRecursion IsPlanned l.objects;
  after : l.from ≤ l.place;
  most : l.place ≤ max l.from l.to;
}
