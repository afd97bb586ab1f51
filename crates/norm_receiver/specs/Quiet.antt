-- Of what nothing is needed.
use Rattle.std.specs.Prelude.{ℕ, Bool, true, false, nat_le, Option, Some, None}
use Rattle.norm_receive_rules.specs.Lazy.{Lazy, Nil, Next}
use Rattle.norm_receive_rules.specs.Needs.{Need}

-- there is no need among these
abbrev pub is_nil : Lazy Need → Bool
is_nil needs = elim needs [ Nil ↦ true | Next need rest ↦ false ]

-- the first block that lacks symbols is not among the first so many
abbrev pub is_behind : Option ℕ → ℕ → Bool
is_behind first n = elim first [ Some block ↦ nat_le n block | None ↦ true ]
