-- The name by which an offered datagram is found again.
use Rattle.std.specs.Prelude.{ℕ, List, length, nat_lt, if◌then◌else◌}
use Rattle.norm_ext.specs.Numbers.{number}
use Rattle.norm_ext.specs.Places.{common, sequence_at}

-- a datagram's sequence number and source (RFC 5740 section 4.1), as one number of six octets; 0 without a common header
unfoldable pub name_of : List ℕ → ℕ
name_of octets = if nat_lt (length octets) common then 0 else number 6 sequence_at octets
