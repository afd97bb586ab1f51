-- What a hold keeps, and what it is seen as.
use Rattle.std.specs.Prelude.{◌≡◌, ◌+◌, [], false}
use Rattle.norm_base.specs.Settings.{Settings}
use Rattle.fec_plan.specs.Points.{position}
use Rattle.rx_hold.specs.EntryHold.{EntryHold}
use Rattle.rx_hold.specs.FrontSound.{IsFront, front_view}
use Rattle.rx_hold.specs.declared.hold.Hold.TheInside.{Inside}

-- besides what its front keeps, there is a solver of the blocks of either kind
pub record IsSoundHold (h : Inside) : Type 0 where
  pub front : IsFront h.front
  pub solver : h.solver ≡ record { k = h.front.profile.b; size = h.front.profile.e }
  pub stream_solver : h.stream_solver ≡ record { k = h.front.profile.b; size = h.front.profile.e + 8 }

abbrev pub hold_view : Inside → EntryHold
hold_view h = front_view h.front

-- nothing is held, and nothing was handed up or lost
abbrev pub empty_hold : Settings → EntryHold
empty_hold p = record { p = p; point = position 0 0 0; objects = []; ups = []; has_lost = false }
