use Rattle.std.proofs.Common.{sym, ◌∙◌, arith}
use Rattle.rx_stream.proofs.FitLemmas.{fits_source, stream_blocks}
use Rattle.rx_stream.proofs.stream.fits.Goals as goal

pub returns-then-symbol-source_len-clause-exact : goal.returns-then-symbol-source_len-clause-exact
returns-then-symbol-source_len-clause-exact c = λ p same.
    c.is_one_segment.ensures.exact p (same ∙ sym c.e.ensures.exact)
    ∙ fits_source p c.args.plan.now c.args.block c.args.symbol c.args.payload.now
    (let n = stream_blocks c.args.plan.now c.requires in omega (arith, n, c.if-block-ge-MOST_BLOCKS.false))
    (let e = c.encoded_len.ensures in omega (arith, e, c.if-symbol-encoded_len.false))
    (let e = c.source_len.ensures.exact in omega (arith, e, c.if-symbol-source_len.true))
