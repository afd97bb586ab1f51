use Rattle.std.proofs.Common.{◌≡◌, ◌≤◌, ◌+◌, ◌*◌, ◌++◌, length}
use Rattle.std.specs.Vec.{vec_len, vec_capacity}
use Rattle.hex.specs.Hex.{encode_lower}
use Rattle.norm_text.proofs.digits.put_digits.Given as goal

-- the text and the digits of the rest are the old text and the digits of all, and there is room for them
abbrev pub invariant-lanes : goal.invariant-lanes
invariant-lanes l = record {
  whole : l.text.items ++ encode_lower l.rest ≡ l.fn.text.items ++ encode_lower l.octets;
  room : vec_len l.text + 2 * length l.rest ≤ vec_capacity l.text;
}

abbrev pub decreases-lanes : goal.decreases-lanes
decreases-lanes l = length l.rest
