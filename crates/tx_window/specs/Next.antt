-- What is new next of an object (RFC 5740 section 5.1).
use Rattle.std.specs.Prelude.{◌<◌, ⊤, Bool, not, ◌&&◌}
use Rattle.fec_plan.specs.Points.{Point}
use Rattle.norm_send_rules.specs.InWindow.{stands_behind}
use Rattle.norm_send_rules.specs.Wants.{want_before}
use Rattle.norm_send_rules.specs.declared.want.Want.{Want}
use Rattle.norm_send_rules.specs.declared.want.Want.TheVariants.{Info, Symbol}

-- what is looked for behind a place: it is no earlier, and was not dropped
abbrev pub is_next : Want → Point → Want → Bool
is_next next drop w = not (want_before w next) && stands_behind drop w

-- a symbol whose id is not the last of all
abbrev pub HasNext : Want → Type 0
HasNext (Info index) = ⊤
HasNext (Symbol at) = at.symbol < 255
