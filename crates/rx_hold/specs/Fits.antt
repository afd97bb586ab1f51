-- When an object may be taken up (RFC 5740 section 4.1 on EXT_FTI), and what it is then.
use Rattle.std.specs.Prelude.{ℕ, ◌≡◌, ◌<◌, ◌≤◌, ◌+◌, ◌-◌, ◌==◌, ◌&&◌, ◌||◌, [], Bool, true, false, None}
use Rattle.std.specs.Bool.{beq}
use Rattle.fec_plan.specs.Partition.{Cut, IsSound}
use Rattle.fec_plan.specs.Points.{position}
use Rattle.norm_ext.specs.declared.fti.Fti.{Fti}
use Rattle.norm_receive_rules.specs.Fitting.{most_ahead, room_of}
use Rattle.norm_receive_rules.specs.Holding.{Plan}
use Rattle.norm_receive_rules.specs.Plans.{says_stream}
use Rattle.rx_hold.specs.EntryState.{EntryState}
use Rattle.rx_hold.specs.EntryHold.{at_place}
use Rattle.rx_hold.specs.declared.front.Front.{Front}

-- an object of which nothing is held, and for how many blocks there is room where it is a stream
abbrev pub empty_entry : Plan → ℕ → EntryState
empty_entry plan room = elim (says_stream plan.flags) [
  | true ↦ record { plan = plan; info = None; held = []; point = position plan.index 0 0; room = room }
  | false ↦ record { plan = plan; info = None; held = []; point = position 0 0 0; room = 0 }
]

-- two say the same plan
abbrev pub are_same : Fti → ℕ → Fti → ℕ → Bool
are_same f flags g known =
    f.e == g.e && f.b == g.b && f.max_n == g.max_n && beq (says_stream flags) (says_stream known) && (says_stream flags || f.l == g.l)

-- An object with this transmission information, cut so, may be taken up.
pub record MayTake (f : Front) (index : ℕ) (g : Fti) (flags : ℕ) (cut : Cut) : Type 0 where
  pub reached : f.point ≤ index
  pub near : index < f.point + most_ahead
  pub new : at_place f.ring.items (index - f.point) ≡ None
  pub room : f.taken + room_of f.profile g flags ≤ f.profile.octets
  pub e : g.e ≡ f.profile.e
  pub b : g.b ≡ f.profile.b
  pub sound : IsSound cut
