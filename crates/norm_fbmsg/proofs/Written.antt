-- What is written of an acknowledgement is how it is spelled.
use Rattle.std.proofs.Common.{◌≡◌, ℕ, ◌+◌, ◌/◌, List, [], ◌∷◌, ◌++◌, length, refl}
use Rattle.byteorder.specs.Endian.{big_bytes}
use Rattle.norm_ext.specs.Extensions.{Extension}
use Rattle.norm_ext.specs.Message.{Ack, AckContent, Mark, Unread}
use Rattle.norm_ext.specs.Octets.{front_octets, octets_of, extensions_octets, content_octets}
use Rattle.norm_fbmsg.specs.CanWrite.{zero_list}

pub ack_written : (source sequence sender instance ack_type ack_id : ℕ) (extensions : List Extension) (content : AckContent)
    → front_octets 5 (6 + length (extensions_octets extensions) / 4) sequence source ++ big_bytes 4 sender ++ big_bytes 2 instance ++ ack_type ∷ ack_id ∷ [] ++ zero_list 8
    ++ extensions_octets extensions ++ content_octets content (zero_list 1)
    ≡ octets_of (Ack (record { source = source; sequence = sequence; sender = sender; instance = instance; ack_type = ack_type; ack_id = ack_id; extensions = extensions; content = content }))
ack_written source sequence sender instance ack_type ack_id extensions (Mark item) = refl
ack_written source sequence sender instance ack_type ack_id extensions (Unread octets) = refl
