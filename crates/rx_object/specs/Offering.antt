-- A symbol that comes to an object, by the rules of the receiver (RFC 5740 sections 4.2.1 and 5.3).
use Rattle.std.specs.Prelude.{ℕ, ◌==◌, ◌&&◌, Bool, List, length, nat_lt}
use Rattle.fec_plan.specs.Partition.{Cut, blocks, encoding_symbols, sent_octets}

-- the symbol is an encoded symbol of the object, and the payload has its length
abbrev pub is_payload : Cut → ℕ → ℕ → List ℕ → Bool
is_payload c block symbol payload =
    nat_lt block (blocks c) && nat_lt symbol (encoding_symbols c block) && length payload == sent_octets c block symbol
