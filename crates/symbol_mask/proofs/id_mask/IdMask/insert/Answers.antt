use Rattle.std.proofs.Common.{List, ℕ, ◌/◌, ◌%◌, ◌^◌, ◌*◌, set, get_or, ap, ◌∙◌, arith}
use Rattle.std.specs.Prelude.{bit_or, nat_lt}
use Rattle.norm_order.specs.Sets.{with_member}
use Rattle.symbol_mask.proofs.Bits.{set_puts}
use Rattle.symbol_mask.proofs.id_mask.IdMask.insert.Goals as goal

pub returns : goal.returns
returns c =
    set_puts c.self.inside.words _ 256 c.args.id (let fits = c.ranges.id.fits in omega (arith, fits)) (let four = c.self.invariant in omega (arith, four))
    (ap (λ n. set c.self.inside.words (n / 64) (bit_or (get_or c.self.inside.words (n / 64) 0) (1 * 2 ^ (c.args.id % 64) % 2 ^ 64))) c.from.ensures)
    ∙ ap (λ (members : List ℕ). with_member nat_lt c.args.id members) c.self.view_is
