-- Acknowledging a flush (RFC 5740 section 5.5.3).
use Rattle.std.specs.Prelude.{ℕ, ◌==◌, ◌&&◌, List, [], ◌∷◌, Bool, true, false}
use Rattle.std.specs.List.{list_any}
use Rattle.fec_plan.specs.Points.{position_before, further}
use Rattle.fec_plan.specs.declared.position.Position.{Position}
use Rattle.norm_receive_rules.specs.Holding.{Holding}
use Rattle.norm_receive_rules.specs.ReceiverState.{ReceiverState, Knowledge}

-- nothing was lost in this instance
abbrev pub lost_nothing : Holding → Bool
lost_nothing s = elim s.lost [ [] ↦ true | index ∷ lost ↦ false ]

-- all through a position was handed up; what was lost never was
abbrev pub has_handed_up : Holding → Position → Bool
has_handed_up s at = position_before at s.point && lost_nothing s

-- the nodes that a flush asks have this one
abbrev pub names_this : ReceiverState → List ℕ → Bool
names_this s nodes = list_any (λ node. node == s.node) nodes

-- The greatest flush position is raised. Where the flush is to be acknowledged that is due; of two that are due the further
-- stays.
abbrev pub flushed : Position → Bool → Knowledge → Knowledge
flushed at acknowledged k = record k {
  flush = further at k.flush;
  due = elim acknowledged [ true ↦ further at k.due | false ↦ k.due ];
}

-- a flush is to be acknowledged: it asks this node, and all through its position was handed up
abbrev pub acknowledges : ReceiverState → Position → List ℕ → Bool
acknowledges s at nodes = names_this s nodes && has_handed_up s.holding at
