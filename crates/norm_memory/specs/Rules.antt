use Rattle.std.specs.Prelude.{ℕ, ◌==◌, ◌&&◌, nat_le, List, [], ◌∷◌, if◌then◌else◌}
use Rattle.norm_memory.specs.declared.fate.Fate.{Fate}
use Rattle.norm_memory.specs.declared.rule.Rule.{Rule}
use Rattle.norm_memory.specs.declared.rule.Rule.TheVariants as rule
use Rattle.norm_memory.specs.Fates.{once, lost}

-- what becomes of a member's offer of this number on its way to another, by the first rule that names both
abbrev pub fate_by_rules : List Rule → ℕ → ℕ → ℕ → Fate
fate_by_rules [] number from to = once
fate_by_rules (rule.Copies offer named copies after ∷ rules) number from to =
    if offer == number && named == to then record { copies = copies; after = after } else fate_by_rules rules number from to
fate_by_rules (rule.Mute named since ∷ rules) number from to =
    if named == from && nat_le since number then lost else fate_by_rules rules number from to
