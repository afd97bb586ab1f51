use Rattle.norm_program.specs.Asked.{Mirror}
use Rattle.norm_program.proofs.EndingLemmas.{text_ended}
use Rattle.norm_program.proofs.mirror.prepare.Goals as goal

-- where the text names no folder
pub returns-clause-ending : goal.returns-clause-ending
returns-clause-ending g c files =
    let left = g.S.Source.left in
    let pieces = g.K.Sink.pieces in
    let reads = g.S.Source.fault_count in
    let writes = g.K.Sink.fault_count in
    let ending = rw (c.in_ok-text.ensures.unwritten, c.in_ok-text.ensures.quiet.1, c.deref.ensures.value) at (c.read_names.ensures.ending files) in
    text_ended c.read_names.result (Mirror files) c.in_ok-text.text.items (left c.args.input.now) (left c.read_input.new.input)
    (pieces c.args.output.now) (pieces c.read_names.new.output) (reads c.args.input.now) (reads c.read_input.new.input)
    (writes c.args.output.now) (writes c.read_names.new.output)
    c.in_ok-text.ensures.text c.in_ok-text.ensures.quiet.0 ending
