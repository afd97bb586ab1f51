use Rattle.std.proofs.Common.{subst, ap, sym, ◌∙◌, arith, nat_lt}
use Rattle.norm_order.specs.Sets.{Rises, is_member}
use Rattle.symbol_mask.specs.Words.{has_bit}
use Rattle.symbol_mask.specs.Places.{Places}
use Rattle.symbol_mask.proofs.Rises.{set_rises}
use Rattle.symbol_mask.proofs.Filled.{none_past}
use Rattle.symbol_mask.proofs.mask.Mask.rises.Goals as goal

pub returns-clause-rises : goal.returns-clause-rises
returns-clause-rises c = subst (λ (p : Places). Rises p.members) c.self.view_is (set_rises c.self.inside.words.items c.self.inside.size)

pub returns-clause-within : goal.returns-clause-within
returns-clause-within c = λ place past.
    let size = ap (λ (p : Places). p.size) c.self.view_is in
    ap (λ (p : Places). is_member nat_lt place p.members) (sym c.self.view_is)
    ∙ none_past (has_bit c.self.inside.words.items) place 0 c.self.inside.size (omega (arith, past, size))
