use Rattle.std.proofs.Common.{◌∙◌, drop, replicate, refl}
use Rattle.norm_text.proofs.DigitLemmas.{halves_put}
use Rattle.norm_text.proofs.digits.digits_of.Goals as goal

pub returns : goal.returns
returns c =
    halves_put c.halves_of.result.0 c.halves_of.result.1 c.copy_from_slice.new.self c.copy_from_slice-2.new.self (drop 64 (replicate 128 0))
    c.copy_from_slice.ensures.after c.copy_from_slice-2.ensures.after c.halves_of.ensures.front c.halves_of.ensures.behind refl
    ∙ c.halves_of.ensures.digits
