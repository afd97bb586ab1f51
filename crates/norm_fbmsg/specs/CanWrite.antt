-- Which feedback can be written.
use Rattle.std.specs.Prelude.{ℕ, ◌+◌, ◌*◌, ◌≡◌, ◌≢◌, ◌≤◌, List, [], ◌∷◌, length}
use Rattle.std.specs.List.{repeat}
use Rattle.norm_base.specs.Sizes.{datagram_room}
use Rattle.norm_ext.specs.Places.{word_size, most_header_words, feedback_header, item_width}
use Rattle.norm_ext.specs.Numbers.{flush_ack}
use Rattle.norm_ext.specs.Extensions.{Extension}
use Rattle.norm_ext.specs.Octets.{extensions_octets, requests_octets}
use Rattle.norm_fbmsg.specs.declared.message.NackMsg.{NackMsg}
use Rattle.norm_fbmsg.specs.declared.message.AckMsg.{AckMsg}
use Rattle.norm_fbmsg.specs.declared.message.AckBody.{AckBody}
use Rattle.norm_fbmsg.specs.declared.message.AckBody.TheVariants as lent

-- so many zeros
abbrev pub zero_list : ℕ → List ℕ
zero_list n = repeat n (0 ∷ [])

-- with so many octets of content: a header of at most 255 words, and 1,500 octets in all
pub record CanWriteParts (extensions : List Extension) (content : ℕ) : Type 0 where
  pub header : feedback_header + length (extensions_octets extensions) ≤ word_size * most_header_words
  pub most : feedback_header + length (extensions_octets extensions) + content ≤ datagram_room

abbrev pub CanWriteNack : NackMsg → Type 0
CanWriteNack m = CanWriteParts m.exts (length (requests_octets m.requests))

-- the octets of what an acknowledgement holds
abbrev pub body_length : AckBody → ℕ
body_length (lent.Mark item) = item_width
body_length (lent.Opaque octets) = length octets.now

-- a flush's acknowledgement, and no other, holds an item
abbrev pub HasBody : ℕ → AckBody → Type 0
HasBody ack_type (lent.Mark item) = ack_type ≡ flush_ack
HasBody ack_type (lent.Opaque octets) = ack_type ≢ flush_ack

pub record CanWriteAck (m : AckMsg) : Type 0 where
  pub parts : CanWriteParts m.exts (body_length m.body)
  pub body : HasBody m.ack_type m.body
