-- Which INFO and DATA can be written.
use Rattle.std.specs.Prelude.{ℕ, ◌+◌, ◌*◌, ◌<◌, ◌≤◌, List, length}
use Rattle.norm_base.specs.Sizes.{datagram_room}
use Rattle.norm_ext.specs.Places.{word_size, most_header_words}
use Rattle.norm_ext.specs.Extensions.{Extension}
use Rattle.norm_ext.specs.Octets.{extensions_octets}
use Rattle.norm_ext.specs.declared.head.ObjHead.{ObjHead}

-- behind so many octets of fixed fields: a header of at most 255 words, and 1,500 octets in all
pub record CanWrite (fixed : ℕ) (head : ObjHead) (extensions : List Extension) (content : List ℕ) : Type 0 where
  pub backoff : head.backoff < 16
  pub gsize : head.gsize < 16
  pub header : fixed + length (extensions_octets extensions) ≤ word_size * most_header_words
  pub most : fixed + length (extensions_octets extensions) + length content ≤ datagram_room
