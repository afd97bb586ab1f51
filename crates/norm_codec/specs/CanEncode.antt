-- Which messages can be written.
use Rattle.std.specs.Prelude.{ℕ, ◌+◌, ◌*◌, ◌≤◌, List, length}
use Rattle.norm_base.specs.Sizes.{datagram_room}
use Rattle.norm_ext.specs.Places.{word_size, common, common_words, info_header, data_header}
use Rattle.norm_objmsg.specs.CanWriteMessage.{CanWrite as CanWriteObject}
use Rattle.norm_cmdmsg.specs.CanWrite.{CanWrite as CanWriteCommand}
use Rattle.norm_fbmsg.specs.CanWrite.{CanWriteNack, CanWriteAck}
use Rattle.norm_codec.specs.declared.message.Message.{Message}
use Rattle.norm_codec.specs.declared.message.Message.TheVariants as lent

-- a report whose header its octets have
pub record IsReport (words : ℕ) (rest : List ℕ) : Type 0 where
  pub least : common_words ≤ words
  pub header : word_size * words ≤ common + length rest
  pub most : common + length rest ≤ datagram_room

abbrev pub CanEncode : Message → Type 0
CanEncode (lent.Info m) = CanWriteObject info_header m.head m.exts m.info.now
CanEncode (lent.Data m) = CanWriteObject data_header m.head m.exts m.payload.now
CanEncode (lent.Command m) = CanWriteCommand m
CanEncode (lent.Nack m) = CanWriteNack m
CanEncode (lent.Ack m) = CanWriteAck m
CanEncode (lent.Report source sequence words rest) = IsReport words rest.now
