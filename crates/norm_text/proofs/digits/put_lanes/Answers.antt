use Rattle.std.proofs.Common.{◌≡◌, ◌∙◌, ◌++◌, ap, List, ℕ, arith}
use Rattle.std.proofs.lemmas.List.{take_all}
use Rattle.std.proofs.lemmas.Grind.{common_steps}
use Rattle.hex.specs.Hex.{encode_lower}
use Rattle.norm_text.proofs.digits.put_lanes.Goals as goal

pub returns-clause-digits : goal.returns-clause-digits
returns-clause-digits c =
    let put : c.extend_from_slice.new.self.items ≡ c.args.text.now.items ++ c.digits_of.result = grind (arith, common_steps) in
    put
    ∙ ap (λ (ds : List ℕ). c.args.text.now.items ++ ds) c.digits_of.ensures
    ∙ ap (λ (os : List ℕ). c.args.text.now.items ++ encode_lower os) (take_all 64 c.args.octets.now (omega (arith, c.requires.whole)))
