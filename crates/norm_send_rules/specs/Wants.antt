-- The order of wants, in which repairs are sent (RFC 5740 section 5.1): by index, then the info, then block and symbol.
use Rattle.std.specs.Prelude.{ℕ, Bool, nat_lt, nat_le}
use Rattle.fec_plan.specs.Points.{position_before}
use Rattle.norm_send_rules.specs.declared.want.Want.{Want}
use Rattle.norm_send_rules.specs.declared.want.Want.TheVariants.{Info, Symbol}

-- which of two wants is sent first
abbrev pub want_before : Want → Want → Bool
want_before (Info i) (Info j) = nat_lt i j
want_before (Info i) (Symbol at) = nat_le i at.index
want_before (Symbol at) (Info j) = nat_lt at.index j
want_before (Symbol at) (Symbol other) = position_before at other

-- the object of a want
abbrev pub want_index : Want → ℕ
want_index (Info index) = index
want_index (Symbol at) = at.index
