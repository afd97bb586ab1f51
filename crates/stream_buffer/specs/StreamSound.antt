-- What a stream's buffer is seen as, and what it keeps.
use Rattle.std.specs.Prelude.{◌≡◌, ◌+◌, ◌*◌, ◌<◌, ◌≤◌, [], length, min, true}
use Rattle.fec_plan.specs.Partition.{stream_cut, place_octets}
use Rattle.stream_buffer.specs.StreamState.{StreamState}
use Rattle.stream_buffer.specs.declared.stream.StreamBuf.TheInside.{Inside}

abbrev pub stream_view : Inside → StreamState
stream_view s = record {
  cut = stream_cut s.e s.b s.max_n;
  blocks = s.blocks;
  first = s.first;
  rows = s.rows.rows;
  filling = s.rows.filling;
  octets = s.octets;
  ended = s.ended;
}

-- the code is that of its blocks, the ring has room for its segments, and there is a row for the one that fills
pub record StreamSound (s : Inside) : Type 0 where
  pub code : s.code ≡ record { k = s.b; n = s.max_n }
  pub least_e : 64 ≤ s.e
  pub most_e : s.e ≤ 1400
  pub least_b : 1 ≤ s.b
  pub most_b : s.b ≤ 200
  pub fits : s.b ≤ s.max_n
  pub most_n : s.max_n ≤ 255
  pub size : s.rows.size ≡ s.e + place_octets
  pub room : s.rows.room ≡ s.blocks * s.b
  pub some : 1 ≤ s.blocks
  pub first : s.rows.first ≡ s.first * s.b
  pub short : length s.rows.filling < s.e
  pub free : length s.rows.rows + min 1 (length s.rows.filling) ≤ s.rows.room
  pub few : s.rows.first + length s.rows.rows + min 1 (length s.rows.filling) ≤ 16777216 * s.b
  pub counted : length s.rows.filling ≤ s.octets
  pub octets : s.octets ≤ 4294967295
  pub ended : s.ended ≡ true → s.rows.filling ≡ []
