use Rattle.std.proofs.Common.{◌≡◌, ◌∙◌, arith, length}
use Rattle.stream_buffer.proofs.MarkLemmas.{run_ends, run_goes_on, run_at_end}
use Rattle.stream_buffer.proofs.marks.run_from.Goals as goal

pub returns-then-not-index : goal.returns-then-not-index
returns-then-not-index c = run_ends c.args.sent.now.items c.loop-place.place c.index.result.now c.index.ensures c.if-not-index.true c.loop-place.invariant.sent_before

pub loop-place-preserved : goal.loop-place-preserved
loop-place-preserved c = record {
  sent_before = run_goes_on c.args.sent.now.items c.loop-place.place c.index.result.now (omega arith) c.index.ensures c.if-not-index.false c.loop-place.invariant.sent_before;
}

pub returns : goal.returns
returns c =
    let long : c.len.result ≡ length c.args.sent.now.items = omega (arith, c.len.ensures, c.args.sent.now.ok.0) in
    long ∙ run_at_end c.args.sent.now.items c.loop-place.place (omega (arith, c.loop-place-test.false, c.args.sent.now.ok.0)) c.loop-place.invariant.sent_before
