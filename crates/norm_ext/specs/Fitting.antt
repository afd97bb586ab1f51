-- Which extensions leave a message room.
use Rattle.std.specs.Prelude.{ℕ, ◌+◌, ◌*◌, ◌<◌, ◌≤◌, List, length}
use Rattle.norm_base.specs.Sizes.{datagram_room}
use Rattle.norm_ext.specs.Places.{word_size, most_header_words}
use Rattle.norm_ext.specs.Extensions.{Extension}
use Rattle.norm_ext.specs.Octets.{extensions_octets}

-- behind so many octets of fixed fields: a header of at most 255 words, and with so many octets of content 1,500 in all
pub record HasRoom (fixed : ℕ) (extensions : List Extension) (content : ℕ) : Type 0 where
  pub header : fixed + length (extensions_octets extensions) ≤ word_size * most_header_words
  pub most : fixed + length (extensions_octets extensions) + content ≤ datagram_room

-- the back-off factor and the group's size have four bits each
pub record IsNarrow (factor size : ℕ) : Type 0 where
  pub backoff : factor < 16
  pub gsize : size < 16
