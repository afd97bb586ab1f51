-- What a receiver holds of an instance and handed up of it (RFC 5740 section 5.2).
use Rattle.std.specs.Prelude.{ℕ, List, []}
use Rattle.fec_plan.specs.Points.{position}
use Rattle.fec_plan.specs.declared.position.Position.{Position}
use Rattle.norm_ext.specs.declared.fti.Fti.{Fti}
use Rattle.norm_order.specs.declared.up.Up.{Up}

-- an object's plan: its transmission information and its flags, and of a stream the greatest block seen
pub record Plan : Type 0 where
  pub index : ℕ
  pub fti : Fti
  pub flags : ℕ
  pub seen : ℕ

-- a plan as it is taken up: no block was seen yet
abbrev pub new_plan : ℕ → Fti → ℕ → Plan
new_plan index f flags = record { index = index; fti = f; flags = flags; seen = 0 }

-- a symbol that is held
pub record Held : Type 0 where
  pub at : Position
  pub octets : List ℕ

-- an info that is held
pub record HeldInfo : Type 0 where
  pub index : ℕ
  pub info : List ℕ

-- Plans, symbols and infos that are held, in order; the hand-up point, which is the next source symbol to be handed up;
-- the objects that were lost; and the hand-ups that were not taken yet.
pub record Holding : Type 0 where
  pub plans : List Plan
  pub held : List Held
  pub infos : List HeldInfo
  pub point : Position
  pub lost : List ℕ
  pub ups : List Up

-- nothing is held, and nothing was handed up or lost
abbrev pub holding_nothing : Holding
holding_nothing = record { plans = []; held = []; infos = []; point = position 0 0 0; lost = []; ups = [] }
