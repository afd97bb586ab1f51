-- What a message lends is whole, so that it may be walked. Extensions and requests are, by their types.
use Rattle.std.specs.Prelude.{⊤}
use Rattle.norm_cmdmsg.specs.Whole.{IsWhole as IsWholeCommand}
use Rattle.norm_codec.specs.declared.message.Message.{Message}
use Rattle.norm_codec.specs.declared.message.Message.TheVariants as lent

-- in a command node ids are whole numbers of four octets, and object ids of two
abbrev pub IsWhole : Message → Type 0
IsWhole (lent.Info m) = ⊤
IsWhole (lent.Data m) = ⊤
IsWhole (lent.Command m) = IsWholeCommand m
IsWhole (lent.Nack m) = ⊤
IsWhole (lent.Ack m) = ⊤
IsWhole (lent.Report source sequence words rest) = ⊤
