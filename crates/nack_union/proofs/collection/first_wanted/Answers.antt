use Rattle.std.proofs.Common.{false, ap, sym, ◌∙◌}
use Rattle.fec_plan.specs.Partition.{stream_cut}
use Rattle.nack_union.specs.Kept.{Marked, admitted}
use Rattle.nack_union.proofs.Quiet.{wanted, first_is, none_is}
use Rattle.nack_union.proofs.collection.first_wanted.Goals as goal

pub returns-then-is_wanted : goal.returns-then-is_wanted
returns-then-is_wanted c =
    sym (first_is c.args.objects.now c.objects.place c.index-objects-place.result c.objects.invariant c.objects-test.true
    (ap wanted (sym c.index-objects-place.is) ∙ sym c.is_wanted.ensures ∙ c.if-is_wanted.true))

pub returns : goal.returns
returns c = let d : Marked = admitted (stream_cut 0 0 0) false in sym (none_is c.args.objects.now c.objects.place d c.objects.invariant c.objects-test.false)
