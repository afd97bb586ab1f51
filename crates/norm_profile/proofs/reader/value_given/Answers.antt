use Rattle.std.proofs.Common.{◌≡◌, ◌∙◌, sym, map, length, false, arith}
use Rattle.std.specs.Prelude.{◌==◌}
use Rattle.std.proofs.lemmas.Grind.{common_steps}
use Rattle.toml.specs.View.{view}
use Rattle.norm_profile.proofs.MemberLemmas.{words_there}
use Rattle.norm_profile.proofs.reader.value_given.Goals as goal

-- the key's values are words
pub returns-else-is_empty : goal.returns-else-is_empty
returns-else-is_empty c =
    let words = map (λ w. w.now) c.row.result.words.now in
    let some : (length words == 0) ≡ false = grind (arith, common_steps) in
    c.word_given.ensures ∙ sym (words_there c.args.key (view c.args.value.now) words (sym c.row.ensures.words) some)
