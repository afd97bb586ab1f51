use Rattle.std.proofs.Common.{◌∙◌, ◌≤◌, length, ap, subst, arith}
use Rattle.norm_turns.specs.Causes.{Counted}
use Rattle.norm_session.specs.Reading.{ReadsOn, octets_there}
use Rattle.norm_session.proofs.ReadingLemmas.{reads_end}
use Rattle.norm_session.proofs.reading.read_all.Goals as goal

pub pieces-preserved : goal.pieces-preserved
pieces-preserved g c =
    let i = c.pieces.invariant in
    let room = c.pieces.invariant.room in
    let same_len = c.read_piece.auto.buf in
    let on = subst (λ fs. ReadsOn c.pieces.world c.read_piece.new.world fs c.args.name.now c.args.len (octets_there c.pieces.world)
    (octets_there c.read_piece.new.world)) c.pieces.invariant.same c.in_ok-done.ensures.goes in
    record {
      reading = on.reads c.args.world.now i.reading;
      part = c.in_ok-done.ensures.part;
      copy = c.in_ok-done.ensures.copies c.args.keeps i.copy;
      same = c.in_ok-done.ensures.same ∙ i.same;
      count = ap (λ (k : Counted). k.files) (c.in_ok-done.ensures.cause 0 0) ∙ i.count;
      room = omega (arith, room, same_len);
    }

pub returns-clause-read : goal.returns-clause-read
returns-clause-read g c =
    let no = c.pieces-test.false in
    let count = c.pieces.invariant.part.count in
    let most : c.args.len ≤ length (octets_there c.pieces.world) = omega (arith, no, count) in
    reads_end c.args.world.now c.pieces.world (g.D.Files.contents c.args.files.now) c.args.name.now (octets_there c.pieces.world) c.args.len c.requires.told
    most c.pieces.invariant.reading
