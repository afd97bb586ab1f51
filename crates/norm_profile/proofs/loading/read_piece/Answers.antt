use Rattle.std.proofs.Common.{◌≡◌, ◌∙◌, ◌+◌, ◌≤◌, length, take, refl, arith}
use Rattle.std.proofs.lemmas.List.{length-take, length-take-le}
use Rattle.norm_profile.proofs.LoadLemmas.{reads_on}
use Rattle.norm_profile.proofs.loading.read_piece.Goals as goal

pub returns-in_ok-extend_from_slice-in-Ok-clause-goes : goal.returns-in_ok-extend_from_slice-in-Ok-clause-goes
returns-in_ok-extend_from_slice-in-Ok-clause-goes g c =
    let n = c.in-Ok.n in
    let le : c.in-Ok.n ≤ length (take c.min-room.result c.args.buf.now) = c.in-Ok.ensures.count.1 in
    let same : length c.read_at.new.buf ≡ length (take c.min-room.result c.args.buf.now) = c.read_at.auto.buf in
    let is_done : c.len-done.result ≡ length c.args.octets.now.items = c.len-done.ensures ∙ c.args.octets.now.ok.0 in
    let within : c.in-Ok.n ≤ length c.read_at.new.buf = omega (arith, le, same) in
    let least = c.min-room.ensures in
    let taken = length-take c.min-room.result c.args.buf.now in
    let more = c.requires.more in
    let fits : length c.args.octets.now.items + c.in-Ok.n ≤ c.args.len = omega (arith, le, taken, least, is_done, more) in
    (reads_on (g.D.Files.contents c.args.files.now) c.args.name.now c.args.octets.now.items c.extend_from_slice.new.self.items
    (take n c.read_at.new.buf) c.read_at.new.buf c.args.len c.len-done.result n is_done c.in_ok-extend_from_slice-in-Ok.ensures.items refl
    (length-take-le n c.read_at.new.buf within) c.in-Ok.ensures.count.0 fits c.in-Ok.ensures.octets).goes
