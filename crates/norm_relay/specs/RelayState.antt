-- The state of a relay: a receiver of the session above, and the sender of the one below.
use Rattle.std.specs.Prelude.{ℕ, ◌+◌, ◌==◌, ◌&&◌, not, List, [], length, Bool, true, false, Option, None}
use Rattle.std.specs.List.{list_any}
use Rattle.norm_base.specs.Settings.{Settings}
use Rattle.norm_base.specs.Members.{is_receiver, is_node, members_of}
use Rattle.norm_base.specs.declared.kinds.Mode.{Mode}
use Rattle.norm_base.specs.declared.kinds.Mode.TheVariants as mode
use Rattle.norm_base.specs.declared.node.Origin.{Origin}
use Rattle.fec_plan.specs.declared.position.Position.{Position}
use Rattle.norm_ext.specs.Written.{Written}
use Rattle.norm_order.specs.declared.up.Up.{Up}
use Rattle.norm_safety.specs.Hands.{instance_at}
use Rattle.norm_relay.specs.Sides.{Side, side_opening}

-- an acknowledgement that is held back, with the position below that every member has to be listed past
pub record Pledge : Type 0 where
  pub datagram : Written
  pub at : Position

-- The relay's node above, and the two sessions. Whether a restart below waits; the hand-ups that wait, in order; those of this upper
-- instance that were enqueued, and whether they leave a stream open; the acknowledgement that has no watermark, and the one that has
-- one; how many jobs were accepted.
pub record Relaying : Type 0 where
  pub node : ℕ
  pub upper : Side
  pub lower : Side
  pub anew : Bool
  pub waiting : List Up
  pub done : List Up
  pub opened : Bool
  pub unmarked : Option Written
  pub pledge : Option Pledge
  pub jobs : ℕ

-- a relay as it begins
abbrev pub relay_opening : Settings → ℕ → Settings → Relaying
relay_opening up node down = record {
  node = node;
  upper = side_opening up;
  lower = side_opening down;
  anew = false;
  waiting = [];
  done = [];
  opened = false;
  unmarked = None;
  pledge = None;
  jobs = 0;
}

-- the mode is hold
abbrev pub is_hold : Mode → Bool
is_hold mode.Hold = true
is_hold mode.Drop = false

-- no id is a member of both sessions
abbrev pub share_nobody : Settings → Settings → Bool
share_nobody up down = not (list_any (is_node down) (members_of up))

-- objects, symbols and streams of the upper session fit the lower one
abbrev pub same_sizes : Settings → Settings → Bool
same_sizes up down = up.e == down.e && up.b == down.b && up.blocks == down.blocks && up.octets == down.octets

-- Two sessions can be relayed at a node: their sizes are the same; the lower one holds what was not confirmed; the node is a receiver
-- above; and no id is a member of both.
abbrev pub can_relay : Settings → ℕ → Settings → Bool
can_relay up node down = same_sizes up down && is_hold down.mode && is_receiver up node && share_nobody up down

-- the origin of the next job
abbrev pub next_origin : Relaying → Origin
next_origin x = record { producer = 1; number = x.jobs + 1 }

-- the upper instance that the relay is in
abbrev pub upper_instance : Relaying → Option ℕ
upper_instance x = instance_at x.upper.world x.node

-- how many news the lower sender has still to tell
abbrev pub untold : Relaying → ℕ
untold x = length x.lower.world.sender.untold_nodes + length x.lower.world.sender.untold_marks

-- the lower instance
abbrev pub lower_instance : Relaying → ℕ
lower_instance x = x.lower.world.sender.current.id
