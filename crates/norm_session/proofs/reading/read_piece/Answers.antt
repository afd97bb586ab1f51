use Rattle.std.proofs.Common.{◌≡◌, ◌+◌, ◌≤◌, length, take, refl, arith}
use Rattle.std.proofs.lemmas.List.{length-take, length-take-le}
use Rattle.norm_session.specs.Reading.{octets_there}
use Rattle.norm_session.proofs.ReadingLemmas.{begun_on, part_on, reads_on, there_on}
use Rattle.norm_session.proofs.reading.read_piece.Goals as goal

pub returns-in_ok-add-in-Ok-clause-begun : goal.returns-in_ok-add-in-Ok-clause-begun
returns-in_ok-add-in-Ok-clause-begun g c =
    begun_on c.args.world.now c.file_piece.new.self c.args.name.now (take c.in-Ok.n c.read_at.new.buf) c.args.len c.requires.part.filling
    c.file_piece.ensures.filling

pub returns-in_ok-add-in-Ok-clause-part : goal.returns-in_ok-add-in-Ok-clause-part
returns-in_ok-add-in-Ok-clause-part g c =
    let le : c.in-Ok.n ≤ length (take c.min-room.result c.args.buf.now) = c.in-Ok.ensures.count.1 in
    let same : length c.read_at.new.buf ≡ length (take c.min-room.result c.args.buf.now) = c.read_at.auto.buf in
    part_on c.args.world.now c.file_piece.new.self c.args.name.now (take c.in-Ok.n c.read_at.new.buf) c.args.len c.args.done c.in-Ok.n c.requires.part
    c.file_piece.ensures.filling (length-take-le c.in-Ok.n c.read_at.new.buf (omega (arith, le, same))) c.hold_octets.ensures

pub returns-in_ok-add-in-Ok-clause-goes : goal.returns-in_ok-add-in-Ok-clause-goes
returns-in_ok-add-in-Ok-clause-goes g c =
    let n = c.in-Ok.n in
    let old = c.args.world.now in
    let new = c.file_piece.new.self in
    let piece = take n c.read_at.new.buf in
    let le : c.in-Ok.n ≤ length (take c.min-room.result c.args.buf.now) = c.in-Ok.ensures.count.1 in
    let same : length c.read_at.new.buf ≡ length (take c.min-room.result c.args.buf.now) = c.read_at.auto.buf in
    let is_done : c.args.done ≡ length (octets_there c.args.world.now) = c.requires.part.count in
    let least = c.min-room.ensures in
    let taken = length-take c.min-room.result c.args.buf.now in
    let more = c.requires.more in
    let fits : length (octets_there c.args.world.now) + c.in-Ok.n ≤ c.args.len = omega (arith, le, taken, least, is_done, more) in
    reads_on old new (g.D.Files.contents c.args.files.now) c.args.name.now (octets_there old) (octets_there new) piece c.read_at.new.buf c.args.len
    c.args.done n c.file_piece.ensures.profile is_done
    (there_on old new c.args.name.now piece c.args.len c.requires.part.filling c.file_piece.ensures.filling) refl
    (length-take-le n c.read_at.new.buf (omega (arith, le, same))) c.in-Ok.ensures.count.0 fits c.in-Ok.ensures.octets c.file_piece.ensures.filling
    c.file_piece.ensures.begun
