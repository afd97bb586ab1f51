use Rattle.std.proofs.Common.{◌≡◌}
use Rattle.norm_ext.specs.Extensions.{fti_of}
use Rattle.norm_ext.proofs.fti.read_fti.Given as goal

abbrev pub invariant-loop-kind : goal.invariant-loop-kind
invariant-loop-kind l =
    (goal.iterator-loop-kind).can_next l.kind-iterator × (goal.iterator-loop-kind).is_finite l.kind-iterator
    × (fti_of l.kind-iterator ≡ fti_of l.fn.exts)
