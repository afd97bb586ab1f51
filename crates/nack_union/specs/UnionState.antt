-- What a union keeps, and for which states of a sender it stands.
use Rattle.norm_base.specs.Settings.{Settings}
use Rattle.norm_send_rules.specs.SenderState.{SenderState}
use Rattle.nack_union.specs.Kept.{Kept, UnionReads, reads, HoldsFor, begun_union}
use Rattle.nack_union.specs.Collected.{CollectsFor}

-- a union: its profile, and what it collected
pub record UnionState : Type 0 where
  pub p : Settings
  pub kept : Kept

-- a union as an instance begins
abbrev pub empty_union : Settings → UnionState
empty_union p = record { p = p; kept = begun_union }

-- A union stands for what was read of a sender's state: it has the objects of the window, the wants and what was sent, and it
-- collected what the open round was asked for.
pub record StandsFor (u : UnionState) (r : UnionReads) : Type 0 where
  pub holds : HoldsFor u.p u.kept r
  pub collects : CollectsFor u.p u.kept r r.asked

-- a union stands for a state
abbrev pub Stands : UnionState → SenderState → Type 0
Stands u s = StandsFor u (reads s)
