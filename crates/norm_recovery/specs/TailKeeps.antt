-- What a tail leaves as it was: orders, drop points, members, struck nodes, and watermarks but for their outcomes.
use Rattle.std.specs.Prelude.{◌≡◌, List, map, None}
use Rattle.norm_base.specs.Settings.{Settings}
use Rattle.norm_send_rules.specs.SenderState.{SenderState, Watermark}
use Rattle.norm_send_rules.specs.Watermarks.{members}
use Rattle.norm_safety.specs.Events.{Event}
use Rattle.norm_safety.specs.Tail.{Course}
use Rattle.norm_safety.specs.World.{World}
use Rattle.norm_safety.specs.WorldStep.{run}
use Rattle.norm_recovery.specs.TailOf.{IsTail, IsMoment}

-- a watermark as it was made: its number, command, position and quorum
abbrev pub as_made : Watermark → Watermark
as_made w = record w { ended = None }

-- From one state to another instances stay, with their orders and drop points, and so do the members, who was struck, and all watermarks as
-- they were made.
pub record Stays (s t : SenderState) : Type 0 where
  pub earlier : t.earlier ≡ s.earlier
  pub current : t.current ≡ s.current
  pub members : members t ≡ members s
  pub struck : t.struck ≡ s.struck
  pub marks : map as_made t.watermarks ≡ map as_made s.watermarks

-- They stay at every moment of each tail of each run.
abbrev pub TailKeeps : Type 0
TailKeeps = (p : Settings) (events : List Event) (c : Course) → IsTail p (run p events) c → (v : World) → IsMoment p (run p events) c v
    → Stays (run p events).sender v.sender
