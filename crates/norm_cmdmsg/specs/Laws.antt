-- What is promised of lists of nodes.
use Rattle.std.specs.Prelude.{ℕ, ◌≡◌, ◌<◌, ◌%◌, ◌^◌, List, [], ◌∷◌, ◌++◌, length}
use Rattle.std.specs.List.{AllByRecursion}
use Rattle.byteorder.specs.Endian.{big_bytes}
use Rattle.norm_ext.specs.Lists.{nodes_of}
use Rattle.norm_ext.specs.Octets.{nodes_octets}

-- a list of node ids is read again of the octets that spell it
abbrev pub NodesAreRead : Type 0
NodesAreRead = (nodes : List ℕ) → AllByRecursion (λ n. n < 4294967296) nodes → nodes_of (nodes_octets nodes) ≡ nodes

-- a node that is pushed behind a list of nodes is the last one of it
abbrev pub PushedIsListed : Type 0
PushedIsListed =
    (list : List ℕ) (node : ℕ) → length list % 4 ≡ 0 → node < 4294967296
    → nodes_of (list ++ big_bytes 4 node) ≡ nodes_of list ++ node ∷ []
