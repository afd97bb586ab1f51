use Rattle.std.proofs.Common.{◌≡◌, ◌+◌, ◌%◌, arith, ap}
use Rattle.norm_script.proofs.RowLemmas.{no_octets, one_more_octet, room_so_far}
use Rattle.norm_script.proofs.generator.put_octets.Goals as goal

pub loop-j-init : goal.loop-j-init
loop-j-init c = no_octets c.args.row.now.items

pub put_octet-requires : goal.put_octet-requires
put_octet-requires c =
    let room = room_so_far (λ j. (c.args.n + c.args.p + c.args.i + j) % 256) c.args.row.now.items c.loop-j.row.items c.loop-j.j c.loop-j.invariant in
    omega (arith, room)

pub loop-j-preserved : goal.loop-j-preserved
loop-j-preserved c =
    let sum : c.from.result + c.from-2.result + c.from-3.result + c.loop-j.j ≡ c.args.n + c.args.p + c.args.i + c.loop-j.j =
    omega (arith, c.from.ensures, c.from-2.ensures, c.from-3.ensures) in
    one_more_octet (λ j. (c.args.n + c.args.p + c.args.i + j) % 256) c.args.row.now.items c.loop-j.row.items c.put_octet.new.row.items c.loop-j.j _
    c.loop-j.invariant (ap (λ x. x % 256) sum) c.put_octet.ensures
