-- A member's entry in a book as a listing.
use Rattle.std.specs.Prelude.{ℕ, Option, None}
use Rattle.fec_plan.specs.declared.position.Position.{Position}
use Rattle.norm_send_rules.specs.SenderState.{Listing}

-- the node and what it is listed past
abbrev pub listing : ℕ × Option Position → Listing
listing e = record { node = e.0; past = e.1 }

-- an entry of a node that is listed past nothing
abbrev pub none_past : ℕ → ℕ × Option Position
none_past node = (node, None)

-- the entry, past nothing
abbrev pub unsaid : ℕ × Option Position → ℕ × Option Position
unsaid e = (e.0, None)
