-- How large what is sent may be, and how many numbers 16 bits have.
use Rattle.std.specs.Prelude.{ℕ}

-- the most octets of a datagram
abbrev pub datagram_room : ℕ
datagram_room = 1500

-- the most octets of a symbol as it is coded: a symbol of 1,400, and the eight octets of a segment's place before it
abbrev pub symbol_room : ℕ
symbol_room = 1408

-- how many numbers have 16 bits: object transport ids, instances and sequence numbers count in these
abbrev pub id_count : ℕ
id_count = 65536
