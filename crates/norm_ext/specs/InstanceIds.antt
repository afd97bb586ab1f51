-- Instance ids (RFC 5740 section 4.2.1): 16 bits that go round, of which a sender takes one above the other.
use Rattle.std.specs.Prelude.{ℕ, ◌&&◌, Bool, nat_le}
use Rattle.norm_ext.specs.ObjectIds.{ids_from}

-- how far an id lies above another, going round
abbrev pub rise : ℕ → ℕ → ℕ
rise from id = ids_from from id

-- an id lies above those of which it is less than half of all ids ahead
abbrev pub most_rise : ℕ
most_rise = 32767

-- an id lies above another
abbrev pub is_above : ℕ → ℕ → Bool
is_above from id = nat_le 1 (rise from id) && nat_le (rise from id) most_rise
