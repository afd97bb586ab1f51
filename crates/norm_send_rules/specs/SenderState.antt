-- The state of a sender (RFC 5740 section 5.1): what it was given, sent, was asked for, and has to tell.
use Rattle.std.specs.Prelude.{ℕ, List, [], Bool, false, Option, None, map}
use Rattle.norm_base.specs.Settings.{Settings}
use Rattle.norm_base.specs.Members.{receivers_of}
use Rattle.norm_base.specs.declared.node.Origin.{Origin}
use Rattle.fec_plan.specs.declared.position.Position.{Position}
use Rattle.norm_ext.specs.Asking.{Named}
use Rattle.fec_plan.specs.Points.{Point, point}
use Rattle.norm_order.specs.Entries.{Entry}
use Rattle.norm_send_rules.specs.declared.news.Outcome.{Outcome}
use Rattle.norm_send_rules.specs.declared.want.Want.{Want}
use Rattle.norm_send_rules.specs.declared.want.Want.TheVariants.{Info}

-- an instance: its id, its transport order, and its drop point, before which all was dropped
pub record Instance : Type 0 where
  pub id : ℕ
  pub order : List Entry
  pub drop : Point

-- a repair request of a NACK, by what its items named as it came: with the window's first point, the next object's index,
-- and the last closed source symbol of that moment
pub record Asked : Type 0 where
  pub request : Named
  pub first : Point
  pub next : ℕ
  pub last : Option Position

-- an open repair round: when it closes, and what was asked in it
pub record Round : Type 0 where
  pub closes : ℕ
  pub asked : List Asked

-- a member, and the position that it is listed past: everything up to there was handed up
pub record Listing : Type 0 where
  pub node : ℕ
  pub past : Option Position

-- a watermark: its number, its command, its position, how many members have to be listed past it (all, where that is not
-- said), and its outcome where it ended
pub record Watermark : Type 0 where
  pub mark : ℕ
  pub by : Origin
  pub at : Position
  pub quorum : Option ℕ
  pub ended : Option Outcome

-- The state: earlier instances and the current one; from where on symbols are new; the wants; the encoded symbols and
-- the infos that were sent in this instance; the open round; whether a squelch is due; what each member is listed past,
-- members being the receivers that were not struck; who was struck; all watermarks; the flushes counted, and the moment
-- of this instance's last one; from when on a datagram may be sent, and its sequence number; the members whose listing
-- rose and the watermarks that ended, where that was not told yet.
pub record SenderState : Type 0 where
  pub earlier : List Instance
  pub current : Instance
  pub next : Want
  pub wants : List Want
  pub sent : List Position
  pub sent_infos : List ℕ
  pub round : Option Round
  pub squelch_due : Bool
  pub listings : List Listing
  pub struck : List ℕ
  pub watermarks : List Watermark
  pub flushes : ℕ
  pub last_flush : Option ℕ
  pub next_send : ℕ
  pub sequence : ℕ
  pub untold_nodes : List ℕ
  pub untold_marks : List ℕ

-- an instance of which nothing was enqueued
abbrev pub begun : ℕ → Instance
begun id = record { id = id; order = []; drop = point 0 0 }

-- nodes that are listed past nothing
abbrev pub unlisted : List ℕ → List Listing
unlisted nodes = map (λ node. record { node = node; past = None }) nodes

-- as a sender begins, in an instance
abbrev pub sender_opening : Settings → ℕ → SenderState
sender_opening p instance = record {
  earlier = [];
  current = begun instance;
  next = Info 0;
  wants = [];
  sent = [];
  sent_infos = [];
  round = None;
  squelch_due = false;
  listings = unlisted (receivers_of p p.receivers);
  struck = [];
  watermarks = [];
  flushes = 0;
  last_flush = None;
  next_send = 0;
  sequence = 0;
  untold_nodes = [];
  untold_marks = [];
}
