use Rattle.std.proofs.Common.{◌∙◌}
use Rattle.norm_script.specs.Generated.{StopsWithin, generated_pieces}
use Rattle.norm_script.proofs.RowLemmas.{row_written, all_written, text_written, stops, at_err}
use Rattle.norm_script.proofs.generator.generate.Goals as goal

pub returns-in_err-write-clause-err : goal.returns-in_err-write-clause-err
returns-in_err-write-clause-err g c =
    let told = g.K.Sink.pieces in
    at_err c.from_residual.result (StopsWithin (generated_pieces c.args.n) (told c.args.output.now) (told c.write.new.self))
    (stops (told c.args.output.now) (told c.loop-k.output) (told c.write.new.self) c.args.n c.loop-k.k c.as_slice.result.now c.loop-k-test.true
    c.loop-k.invariant.0 (c.as_slice.ensures.value ∙ c.row_at.ensures) c.in_err-write.ensures.err)

pub loop-k-preserved : goal.loop-k-preserved
loop-k-preserved g c =
    let told = g.K.Sink.pieces in (
      row_written (told c.args.output.now) (told c.loop-k.output) (told c.write.new.self) c.args.n c.loop-k.k c.as_slice.result.now c.loop-k-test.true
          c.loop-k.invariant.0 (c.as_slice.ensures.value ∙ c.row_at.ensures) c.in_ok-write.ensures.ok,
      c.in_ok-write.ensures.cause.exact ∙ c.loop-k.invariant.1,
    )

pub returns-clause-ok : goal.returns-clause-ok
returns-clause-ok g c =
    all_written (g.K.Sink.pieces c.args.output.now) (g.K.Sink.pieces c.loop-k.output) c.args.n c.loop-k.k c.loop-k-test.false c.loop-k.invariant.0

pub returns-clause-text : goal.returns-clause-text
returns-clause-text g c =
    let told = g.K.Sink.pieces in
    text_written (told c.args.output.now) (told c.loop-k.output) c.args.n
    (all_written (told c.args.output.now) (told c.loop-k.output) c.args.n c.loop-k.k c.loop-k-test.false c.loop-k.invariant.0)
