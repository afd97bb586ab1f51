use Rattle.norm_program.specs.Asked.{Members}
use Rattle.norm_program.proofs.EndingLemmas.{text_ended}
use Rattle.norm_program.proofs.session.prepare.Goals as goal

-- where the text is no script
pub returns-clause-ending : goal.returns-clause-ending
returns-clause-ending g c =
    let left = g.S.Source.left in
    let pieces = g.K.Sink.pieces in
    let reads = g.S.Source.fault_count in
    let writes = g.K.Sink.fault_count in
    let ending = rw (c.in_ok-text.ensures.unwritten, c.in_ok-text.ensures.quiet.1, c.deref.ensures.value) at c.read_text.ensures.ending in
    text_ended c.read_text.result (Members c.args.options) c.in_ok-text.text.items (left c.args.input.now) (left c.read_input.new.input)
    (pieces c.args.output.now) (pieces c.read_text.new.output) (reads c.args.input.now) (reads c.read_input.new.input)
    (writes c.args.output.now) (writes c.read_text.new.output)
    c.in_ok-text.ensures.text c.in_ok-text.ensures.quiet.0 ending
