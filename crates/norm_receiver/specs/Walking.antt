-- The NACK as a walk along what is needed: a need is asked for where the requests still fit, and nothing is behind the
-- first that does not fit.
use Rattle.std.specs.Prelude.{ℕ, zero, suc, ◌≡◌, ◌+◌, ◌≤◌, List, [], ◌∷◌, ◌++◌, map, length, Bool, true, false, not, ◌&&◌, nat_le}
use Rattle.std.specs.List.{list_all}
use Rattle.norm_base.specs.Settings.{Settings}
use Rattle.norm_base.specs.Sizes.{datagram_room}
use Rattle.norm_ext.specs.Asked.{Writing, writing, asked_octets}
use Rattle.norm_receive_rules.specs.Holding.{Plan}
use Rattle.norm_receive_rules.specs.Lazy.{Lazy, Nil, Next}
use Rattle.norm_receive_rules.specs.Needs.{Need, Symbols}
use Rattle.norm_receive_rules.specs.Nack.{asked_of}
use Rattle.norm_receiver.specs.Requesting.{HasAsked}
use Rattle.norm_receiver.specs.declared.asking.Asking.{Asking}

-- the needs that are asked for, and whether one did not fit any more
pub record Walked : Type 0 where
  pub asked : List Need
  pub full : Bool

-- as it begins
abbrev pub asked_nothing : Walked
asked_nothing = record { asked = []; full = false }

-- the octets of the requests for these needs
abbrev pub octets_asked : Settings → List Need → ℕ
octets_asked p needs = length (asked_octets (map (asked_of p) needs))

-- the requests fit with a need more, and none before it did not
abbrev pub fits : Settings → Walked → Need → Bool
fits p w need = not w.full && nat_le (octets_asked p (w.asked ++ need ∷ [])) p.e

-- a need more, by whether it fits
abbrev pub walk_by : Bool → Walked → Need → Walked
walk_by test w need = elim test [
  | true ↦ record { asked = w.asked ++ need ∷ []; full = false }
  | false ↦ record w { full = true }
]

-- a need more
abbrev pub walk_need : Settings → Walked → Need → Walked
walk_need p w need = walk_by (fits p w need) w need

-- a need more, where there is one
abbrev pub walk_where : Settings → Bool → Walked → Need → Walked
walk_where p test w need = elim test [ true ↦ walk_need p w need | false ↦ w ]

-- so many symbols of a block more, where it lacks any
abbrev pub walk_lacking : Settings → Plan → ℕ → ℕ → Walked → Walked
walk_lacking p plan block less w = elim less [ zero ↦ w | suc k ↦ walk_need p w (Symbols plan.index block (suc k)) ]

-- all of these needs more
unfoldable pub walk_on : Settings → Lazy Need → Walked → Walked
walk_on p Nil w = w
walk_on p (Next need rest) w = walk_on p (rest tt) (walk_need p w need)

-- The datagram has room for as many octets of requests as the limit has left.
pub record HasRoom (w : Writing) (out : List ℕ) : Type 0 where
  pub used : w.used ≤ length out
  pub room : length out + w.limit ≤ datagram_room + w.used

-- as the code begins
abbrev pub asking_nothing : Settings → Asking
asking_nothing p = record { writer = writing p.e []; all_heard = true; full = false }

-- The code is where the walk is, by a test of what was heard: the datagram has the requests behind its front, and whether
-- all of them were heard is known.
pub record IsAt (p : Settings) (is_heard : Need → Bool) (k : Asking) (out front : List ℕ) (w : Walked) : Type 0 where
  pub limit : k.writer.limit ≡ p.e
  pub asked : HasAsked p k.writer out front w.asked
  pub heard : k.all_heard ≡ list_all is_heard w.asked
  pub full : k.full ≡ w.full
