-- What a call of a union leaves.
use Rattle.norm_send_rules.specs.SenderState.{SenderState}
use Rattle.nack_union.specs.UnionState.{UnionState, Stands}

-- of each state that the union stood for, it stands for what a rule makes of it
abbrev pub UnionMoves : UnionState → UnionState → (SenderState → SenderState) → Type 0
UnionMoves old new rule = (s : SenderState) → Stands old s → Stands new (rule s)
