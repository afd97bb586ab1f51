use Rattle.std.proofs.Common.{◌≡◌, ◌∙◌, ◌++◌, ◌*◌, ◌-◌, ap, take, length, replicate, List, ℕ, arith}
use Rattle.std.proofs.lemmas.Grind.{common_steps}
use Rattle.norm_text.proofs.DigitLemmas.{front_digits, no_digits}
use Rattle.norm_text.proofs.digits.put_few.Goals as goal

pub returns : goal.returns
returns c =
    let put : c.extend_from_slice.new.self.items ≡ c.args.text.now.items ++ take (2 * length c.args.octets.now) c.digits_of-digits.result = grind (arith, common_steps) in
    put
    ∙ ap (λ (ds : List ℕ). c.args.text.now.items ++ take (2 * length c.args.octets.now) ds) c.digits_of-digits.ensures
    ∙ ap (λ (ds : List ℕ). c.args.text.now.items ++ ds) (front_digits c.padded.result c.args.octets.now (replicate (64 - length c.args.octets.now) 0) c.padded.ensures)

pub returns-then-is_empty : goal.returns-then-is_empty
returns-then-is_empty c = no_digits c.args.text.now.items c.args.octets.now (grind (arith, common_steps))
