use Rattle.std.proofs.Common.{List, ℕ, ◌/◌, ◌%◌, ◌^◌, get_or, ap, ◌∙◌, arith}
use Rattle.std.specs.Prelude.{bit_and, nat_eq, nat_lt}
use Rattle.norm_order.specs.Sets.{is_member}
use Rattle.symbol_mask.proofs.Bits.{read_bit}
use Rattle.symbol_mask.proofs.id_mask.IdMask.contains.Goals as goal

pub returns : goal.returns
returns c =
    ap (λ n. nat_eq (bit_and (get_or c.self.inside.words (n / 64) 0 / 2 ^ (c.args.id % 64)) 1) 1) c.from.ensures
    ∙ read_bit c.self.inside.words 256 c.args.id (let fits = c.ranges.id.fits in omega (arith, fits))
    ∙ ap (λ (members : List ℕ). is_member nat_lt c.args.id members) c.self.view_is
