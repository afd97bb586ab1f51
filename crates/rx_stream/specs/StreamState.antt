-- What is held of one stream from its next segment on, and what the rules say of it by itself (RFC 5740 section 5.2).
use Rattle.std.specs.Prelude.{ℕ, ◌≡◌, List, [], ◌∷◌, Option, Some, None}
use Rattle.norm_base.specs.Settings.{Settings}
use Rattle.fec_plan.specs.Points.{position}
use Rattle.fec_plan.specs.declared.position.Position.{Position}
use Rattle.norm_receive_rules.specs.Holding.{Holding, Plan, Held, HeldInfo, holding_nothing}

-- a stream: its plan, for how many blocks there is room, its info where that is held, the next source symbol that is to be
-- handed up, and the symbols that are held from that one's block on, in order
pub record StreamState : Type 0 where
  pub plan : Plan
  pub room : ℕ
  pub info : Option (List ℕ)
  pub point : Position
  pub held : List Held

-- a stream of which nothing is held
abbrev pub empty_stream : Plan → ℕ → StreamState
empty_stream plan room = record { plan = plan; room = room; info = None; point = position plan.index 0 0; held = [] }

-- the stream's info, as a state holds it
abbrev pub infos_of : StreamState → List HeldInfo
infos_of o = elim o.info [ Some info ↦ record { index = o.plan.index; info = info } ∷ [] | None ↦ [] ]

-- the state of a receiver that knows of this stream alone, and has it at its hand-up point
abbrev pub alone : StreamState → Holding
alone o = record holding_nothing { plans = o.plan ∷ []; held = o.held; infos = infos_of o; point = o.point }

-- The settings are those by which the stream was taken up.
pub record IsOf (p : Settings) (o : StreamState) : Type 0 where
  pub e : p.e ≡ o.plan.fti.e
  pub blocks : p.blocks ≡ o.room
