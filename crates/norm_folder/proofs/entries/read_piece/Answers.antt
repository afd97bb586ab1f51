use Rattle.std.proofs.Common.{◌≡◌, ◌+◌, ◌≤◌, length, take, refl, arith}
use Rattle.std.proofs.lemmas.List.{length-take, length-take-le}
use Rattle.norm_folder.proofs.ReadLemmas.{reads_on}
use Rattle.norm_folder.proofs.entries.read_piece.Goals as goal

pub returns-in-Ok-clause-on : goal.returns-in-Ok-clause-on
returns-in-Ok-clause-on g c =
    let n = c.in-Ok.n in
    let piece = take n c.read_at.new.buf in
    let le : c.in-Ok.n ≤ length (take c.min-room.result c.args.buf.now) = c.in-Ok.ensures.count.1 in
    let same : length c.read_at.new.buf ≡ length (take c.min-room.result c.args.buf.now) = c.read_at.auto.buf in
    let least = c.min-room.ensures in
    let taken = length-take c.min-room.result c.args.buf.now in
    let more = c.requires.more in
    let fits : c.args.done + c.in-Ok.n ≤ c.args.len = omega (arith, le, taken, least, more) in
    reads_on (g.D.Files.contents c.args.files.now) c.args.name.now piece c.read_at.new.buf c.args.len c.args.done n c.args.hasher.now c.update.new.self refl
    (length-take-le n c.read_at.new.buf (omega (arith, le, same))) c.in-Ok.ensures.count.0 fits c.in-Ok.ensures.octets c.update.ensures
