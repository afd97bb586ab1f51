-- The payload of a stream's symbol (RFC 5740 section 4.2.1): a segment and where it stands.
use Rattle.std.specs.Prelude.{ℕ, ◌+◌, nat_lt, ◌||◌, List, ◌++◌, length, take, drop, Option, None, Some, if◌then◌else◌}
use Rattle.byteorder.specs.Endian.{big_bytes}
use Rattle.fec_plan.specs.Partition.{place_octets}
use Rattle.norm_ext.specs.Numbers.{number}

-- a segment: the number that says its length, a message's start, its offset in the stream, and its octets
pub record Segment : Type 0 where
  pub size : ℕ
  pub msg_start : ℕ
  pub offset : ℕ
  pub octets : List ℕ

-- a segment as this project sends it: its own length, and no message starts
abbrev pub segment_octets : ℕ → List ℕ → List ℕ
segment_octets offset octets = big_bytes 2 (length octets) ++ big_bytes 2 0 ++ big_bytes 4 offset ++ octets

-- the segment that a payload has; octets behind it are padding
abbrev pub segment_in : List ℕ → Option Segment
segment_in payload =
    if nat_lt (length payload) place_octets || nat_lt (length payload) (place_octets + number 2 0 payload) then None
    else Some (
    record {
      size = number 2 0 payload;
      msg_start = number 2 2 payload;
      offset = number 4 4 payload;
      octets = take (number 2 0 payload) (drop place_octets payload);
    })
