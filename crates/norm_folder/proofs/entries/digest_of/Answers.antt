use Rattle.std.proofs.Common.{◌∙◌, ap, arith, refl}
use Rattle.norm_turns.specs.Causes.{Counted}
use Rattle.norm_folder.proofs.ReadLemmas.{digest_is, nothing_read, reads_here}
use Rattle.norm_folder.proofs.entries.digest_of.Goals as goal

pub pieces-init : goal.pieces-init
pieces-init g c = record {
  read = nothing_read (g.D.Files.contents c.args.files.now) c.args.name.now c.args.len c.new-hasher.result c.new-hasher.ensures;
  same = refl;
  faults = refl;
  room = c.requires.room;
}

pub pieces-preserved : goal.pieces-preserved
pieces-preserved g c =
    let i = c.pieces.invariant in
    let room = c.pieces.invariant.room in
    let same_len = c.read_piece.auto.buf in
    record {
      read = reads_here (g.D.Files.contents c.args.files.now) (g.D.Files.contents c.pieces.files) c.args.name.now c.args.len c.pieces.done c.in_ok-done.done
          c.pieces.hasher c.read_piece.new.hasher i.same c.in_ok-done.ensures.on i.read;
      same = c.in_ok-done.ensures.same ∙ i.same;
      faults = ap (λ (k : Counted). k.files) (c.in_ok-done.ensures.cause 0 0) ∙ i.faults;
      room = omega (arith, room, same_len);
    }

pub returns-clause-digest : goal.returns-clause-digest
returns-clause-digest g c =
    let no = c.pieces-test.false in
    digest_is (g.D.Files.contents c.args.files.now) c.args.name.now c.args.len c.pieces.done c.pieces.hasher c.finalize.result c.pieces.invariant.read
    (omega (arith, no)) c.requires.told c.finalize.ensures
