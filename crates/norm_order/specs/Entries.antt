-- The entries of a transport order: what a sender's commands put into it (RFC 5740 section 4.1).
use Rattle.std.specs.Prelude.{ℕ, List, Option}
use Rattle.norm_base.specs.declared.kinds.Kind.{Kind}
use Rattle.norm_base.specs.declared.node.Origin.{Origin}

-- what a stream is made of: the octets of a write command, a cut behind them, or the end
pub data Part : Type 0 where
  Write : (by : Origin) (octets : List ℕ) → Part
  Cut : Part
  End : Part

-- an object: octets with info or without, where a file's info is its name; or a stream
pub data Object : Type 0 where
  Whole : (kind : Kind) (info : Option (List ℕ)) (octets : List ℕ) → Object
  Stream : (parts : List Part) → Object

-- An object, and the command that it came by. A transport order is a list of entries, and an entry's index is its
-- place in it, from 0.
pub record Entry : Type 0 where
  pub by : Origin
  pub object : Object
