use Rattle.std.proofs.Common.{◌≡◌, Some, Option, List, ℕ, ◌<◌, length, arith, subst}
use Rattle.std.proofs.lemmas.Grind.{common_steps}
use Rattle.norm_base.specs.Told.{GainsFront}
use Rattle.norm_ext.specs.Reading.{decoded}
use Rattle.norm_show.specs.Line.{line_of}
use Rattle.norm_show.specs.Showing.{datagram_in}
use Rattle.norm_show.proofs.ShowLemmas.{leaves-datagram}
use Rattle.norm_show.proofs.stream.show_text.Goals as goal

-- a failed write
pub returns-clause-left : goal.returns-clause-left
returns-clause-left g c =
    let some : 0 < length c.args.line.now = grind (arith, common_steps) in
    let datagram : Option (List ℕ) = Some c.bytes.result.now in
    let spelled : datagram ≡ datagram_in c.args.line.now = cc (c.bytes.ensures, c.in-Some.is, c.in_ok-datagram.ensures) in
    let written : c.bytes-2.result.now ≡ line_of (decoded c.bytes.result.now) = cc (c.bytes-2.ensures, c.in_ok-shown.ensures.line) in
    let Front : List ℕ → Type 0 = λ line. GainsFront (g.K.Sink.pieces c.args.output.now) (g.K.Sink.pieces c.write.new.self) line in
    leaves-datagram c.args.number c.args.line.now c.bytes.result.now (g.K.Sink.pieces c.args.output.now) (g.K.Sink.pieces c.write.new.self)
    some spelled (subst Front written c.in-Err.ensures.err)
