use Rattle.std.proofs.Common.{ap, sym, subst, ◌∙◌, ◌≡◌, length, get_or, ◌+◌}
use Rattle.nack_union.specs.Kept.{Marked, IsCounted, closed_marks}
use Rattle.nack_union.proofs.Closings.{first_read, closed_more, counted_more, queued_more}
use Rattle.nack_union.proofs.collection.close_all.Goals as goal

pub objects-preserved : goal.objects-preserved
objects-preserved c =
    let done = c.objects.invariant.closed in
    let at : c.object-item.result ≡ get_or c.objects.objects c.objects.object-index c.object-item.result = c.object-item.is in
    let there = first_read c.args.objects.now c.objects.objects c.objects.object-index c.object-item.result c.objects-test.true done at in
    let marks : c.close.new.self ≡ closed_marks c.object-item.result = c.close.ensures.marks ∙ ap closed_marks (sym at) in
    let many : length c.close.new.self.wants ≡ length c.object-item.result.wants + c.close.result = c.close.ensures.new ∙ ap (λ (m : Marked). length m.wants + c.close.result) (sym at) in
    let counted : IsCounted c.object-item.result = subst IsCounted (sym at) c.close.ensures.counted in
    record {
      closed = closed_more c.args.objects.now c.objects.objects c.objects.object-index c.object-item.result c.close.new.self c.objects-test.true marks done at;
      counted = counted_more c.args.objects.now c.objects.object-index c.object-item.result c.objects-test.true there c.objects.invariant.counted counted;
      queued = queued_more c.args.objects.now c.objects.object-index c.object-item.result c.close.new.self c.objects.queued c.close.result c.saturating_add-queued.result _
          c.objects-test.true there marks many c.saturating_add-queued.ensures c.objects.invariant.queued;
    }
