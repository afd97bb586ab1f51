-- The words that lines of a session share.
use Rattle.std.specs.Prelude.{ℕ, List, [], ◌∷◌, map}
use Rattle.std.specs.Fmt.{decimal}
use Rattle.fec_plan.specs.declared.position.Position.{Position}
use Rattle.norm_base.specs.declared.node.Origin.{Origin}

-- a producer and its number of the command
abbrev pub origin_words : Origin → List (List ℕ)
origin_words by = decimal by.producer ∷ decimal by.number ∷ []

-- an index, a block and a symbol
abbrev pub position_words : Position → List (List ℕ)
position_words at = decimal at.index ∷ decimal at.block ∷ decimal at.symbol ∷ []

-- nodes, in order
abbrev pub node_words : List ℕ → List (List ℕ)
node_words nodes = map decimal nodes
