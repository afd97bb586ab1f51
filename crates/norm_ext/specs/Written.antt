-- Datagrams that a node wrote, as they are kept for what is said of a whole run.
use Rattle.std.specs.Prelude.{ℕ, List}
use Rattle.norm_ext.specs.Message.{Message}
use Rattle.norm_ext.specs.Octets.{octets_of}

-- a message, its octets, and the indices that it has as object transport ids, in their order
pub record Written : Type 0 where
  pub message : Message
  pub octets : List ℕ
  pub indices : List ℕ

-- a message is written, with ids of these indices
abbrev pub writes : Message → List ℕ → Written
writes m indices = record { message = m; octets = octets_of m; indices = indices }
