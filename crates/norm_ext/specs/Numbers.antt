-- The numbers of a message (RFC 5740 section 4): big-endian, in whole octets.
use Rattle.std.specs.Prelude.{ℕ, ◌-◌, ◌/◌, ◌%◌, ◌==◌, List, slice_index, take, drop, Option, None, Some, if◌then◌else◌}
use Rattle.byteorder.specs.Endian.{big_number}
use Rattle.fec_plan.specs.Payload.{Name}
use Rattle.norm_ext.specs.declared.kinds.MessageType.{MessageType}
use Rattle.norm_ext.specs.declared.kinds.MessageType.TheVariants as types
use Rattle.norm_ext.specs.declared.kinds.SubType.{SubType}
use Rattle.norm_ext.specs.declared.kinds.SubType.TheVariants as commands
use Rattle.norm_ext.specs.declared.kinds.Form.{Form}
use Rattle.norm_ext.specs.declared.kinds.Form.TheVariants as forms

-- the octet at a place
abbrev pub octet : ℕ → List ℕ → ℕ
octet at octets = slice_index octets at

-- the number in so many octets from a place on
abbrev pub number : ℕ → ℕ → List ℕ → ℕ
number width at octets = big_number width (drop at octets)

-- the octets from one place up to another
abbrev pub part : ℕ → ℕ → List ℕ → List ℕ
part from to octets = take (to - from) (drop from octets)

-- the symbol that four octets from a place on name: 24 bits of block and 8 of symbol (RFC 5510 section 5.1)
abbrev pub name_at : ℕ → List ℕ → Name
name_at at octets = record { block = number 4 at octets / 256; symbol = number 4 at octets % 256 }

-- the FEC Encoding ID of Reed-Solomon over GF(2^8) (RFC 5510)
abbrev pub encoding_id : ℕ
encoding_id = 5

-- the type of NORM's FEC Object Transmission Information among the header extensions
abbrev pub fti_type : ℕ
fti_type = 64

-- header extensions of a type below this say their length
abbrev pub first_short_type : ℕ
first_short_type = 128

abbrev pub type_number : MessageType → ℕ
type_number types.Info = 1
type_number types.Data = 2
type_number types.Command = 3
type_number types.Nack = 4
type_number types.Ack = 5
type_number types.Report = 6

abbrev pub type_of : ℕ → Option MessageType
type_of n =
    if n == 1 then Some types.Info else
    (if n == 2 then Some types.Data else
    (if n == 3 then Some types.Command else
    (if n == 4 then Some types.Nack else
    (if n == 5 then Some types.Ack else
    (if n == 6 then Some types.Report else None)))))

abbrev pub sub_type_number : SubType → ℕ
sub_type_number commands.Flush = 1
sub_type_number commands.EndOfTransmission = 2
sub_type_number commands.Squelch = 3
sub_type_number commands.CongestionControl = 4
sub_type_number commands.RepairAdvertisement = 5
sub_type_number commands.AckRequest = 6
sub_type_number commands.Application = 7

abbrev pub sub_type_of : ℕ → Option SubType
sub_type_of n =
    if n == 1 then Some commands.Flush else
    (if n == 2 then Some commands.EndOfTransmission else
    (if n == 3 then Some commands.Squelch else
    (if n == 4 then Some commands.CongestionControl else
    (if n == 5 then Some commands.RepairAdvertisement else
    (if n == 6 then Some commands.AckRequest else
    (if n == 7 then Some commands.Application else None))))))

abbrev pub form_number : Form → ℕ
form_number forms.Items = 1
form_number forms.Ranges = 2
form_number forms.Erasures = 3

abbrev pub form_of : ℕ → Option Form
form_of n =
    if n == 1 then Some forms.Items else
    (if n == 2 then Some forms.Ranges else
    (if n == 3 then Some forms.Erasures else None))

-- the type of an acknowledgement that answers a FLUSH (RFC 5740 section 4.3.2)
abbrev pub flush_ack : ℕ
flush_ack = 2
