use Rattle.std.proofs.Common.{◌/◌, ◌%◌, ◌^◌, ◌<◌, ap, ◌∙◌, arith}
use Rattle.std.specs.Prelude.{bit_and, nat_eq, nat_lt}
use Rattle.std.proofs.lemmas.List.{get_or_read}
use Rattle.std.proofs.Math.Nat.{div-add-mod}
use Rattle.norm_order.specs.Sets.{is_member}
use Rattle.symbol_mask.specs.Places.{Places}
use Rattle.symbol_mask.proofs.Bits.{read_bit}
use Rattle.symbol_mask.proofs.mask.Mask.contains.Goals as goal

pub returns : goal.returns
returns c =
    let size = ap (λ (p : Places). p.size) c.self.view_is in
    let room = c.self.invariant.room in
    let lt : c.args.place < c.self.inside.size = omega (arith, size) in
    ap (λ w. nat_eq (bit_and (w / 2 ^ (c.args.place % 64)) 1) 1)
    (get_or_read c.self.inside.words.items (c.args.place / 64) c.index.result.now (omega (arith, lt, room, div-add-mod c.args.place 64)) c.index.ensures 0)
    ∙ read_bit c.self.inside.words.items c.self.inside.size c.args.place lt
    ∙ ap (λ (p : Places). is_member nat_lt c.args.place p.members) c.self.view_is
