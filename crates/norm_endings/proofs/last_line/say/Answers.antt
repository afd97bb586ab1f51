use Rattle.norm_endings.proofs.SayLemmas.{says}
use Rattle.norm_endings.proofs.last_line.say.Goals as goal

pub returns : goal.returns
returns g c =
    let written = g.K.Sink.pieces in
    let count = g.K.Sink.fault_count in
    says c.write.result (written c.args.output.now) (written c.write.new.self) (count c.args.output.now) (count c.write.new.self)
    c.args.line.now c.write.ensures.ok c.write.ensures.err c.write.ensures.cause
