-- Which instance a receiver is in, by what it takes (RFC 5740 section 4.2.1): it follows its sender to one that lies above its own, and never goes back.
use Rattle.std.specs.Prelude.{ℕ, ◌==◌, ◌&&◌, ◌||◌, not, Bool, true, false, Option, None, Some, is_some, if◌then◌else◌}
use Rattle.norm_base.specs.Settings.{Settings}
use Rattle.norm_ext.specs.InstanceIds.{is_above}
use Rattle.norm_ext.specs.ObjectIds.{index_named}
use Rattle.udp_rules.specs.declared.heard.Heard.{Heard}

-- a receiver in this instance goes on to that one: it is in none, or that one lies above its own
abbrev pub goes_to : Option ℕ → ℕ → Bool
goes_to current instance = elim current [ Some own ↦ is_above own instance | None ↦ true ]

-- a message names an object: at the beginning of an instance index 0 is known
abbrev pub names_index : Settings → Option ℕ → Bool
names_index p None = false
names_index p (Some object) = is_some (index_named p 0 object)

-- the instance after a message of its sender
abbrev pub followed : Settings → Option ℕ → Heard → Option ℕ
followed p current h = if goes_to current h.instance && names_index p h.object then Some h.instance else current

-- the instance after a datagram: what is of no sender, or of another, changes nothing
abbrev pub followed_by : Settings → Option ℕ → Option Heard → Option ℕ
followed_by p current None = current
followed_by p current (Some h) = if h.sender == p.sender then followed p current h else current

-- an instance that is neither the receiver's own nor above it
abbrev pub is_older : Option ℕ → ℕ → Bool
is_older current instance = elim current [ Some own ↦ not (own == instance || is_above own instance) | None ↦ false ]
