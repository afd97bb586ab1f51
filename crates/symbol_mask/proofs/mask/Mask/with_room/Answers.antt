use Rattle.std.proofs.Common.{List, ℕ, get_or, ap, ◌∙◌}
use Rattle.symbol_mask.proofs.Bits.{no_members, zero_words}
use Rattle.symbol_mask.proofs.mask.Mask.with_room.Goals as goal

pub returns-clause-empty : goal.returns-clause-empty
returns-clause-empty c =
    no_members c.in_ok-words.words.items c.args.places (λ k. ap (λ (ws : List ℕ). get_or ws k 0) (c.in_ok-words.ensures.items_if_clones_equal (λ _ e. e)) ∙ zero_words _ k)
