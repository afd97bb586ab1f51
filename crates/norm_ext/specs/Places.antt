-- Where the fields of messages stand, and the least lengths of their headers (RFC 5740 section 4), in octets where no word is
-- said.
use Rattle.std.specs.Prelude.{ℕ}

-- the octets of a word, by which a header's length is counted
abbrev pub word_size : ℕ
word_size = 4

-- the most words of a header, which one octet counts
abbrev pub most_header_words : ℕ
most_header_words = 255

-- the octets of a node's id, and of an object's transport id
abbrev pub node_size : ℕ
node_size = 4

abbrev pub object_size : ℕ
object_size = 2

-- the header's length, the sequence number and the source
abbrev pub words_at : ℕ
words_at = 1

abbrev pub sequence_at : ℕ
sequence_at = 2

abbrev pub source_at : ℕ
source_at = 4

-- the common header
abbrev pub common : ℕ
common = 8

abbrev pub common_words : ℕ
common_words = 2

-- the instance, but in feedback; the round trip time; the back-off factor and the group's size
abbrev pub instance_at : ℕ
instance_at = 8

abbrev pub grtt_at : ℕ
grtt_at = 10

abbrev pub sizes_at : ℕ
sizes_at = 11

-- the flags of INFO and DATA, and a command's sub-type
abbrev pub flags_at : ℕ
flags_at = 12

abbrev pub sub_type_at : ℕ
sub_type_at = 12

-- the FEC Encoding ID, and a REPAIR_ADV's flags
abbrev pub encoding_at : ℕ
encoding_at = 13

abbrev pub adv_flags_at : ℕ
adv_flags_at = 13

-- an object's transport id, and the type and id of an acknowledgement
abbrev pub object_at : ℕ
object_at = 14

abbrev pub ack_type_at : ℕ
ack_type_at = 14

abbrev pub ack_id_at : ℕ
ack_id_at = 15

-- a symbol's name
abbrev pub symbol_at : ℕ
symbol_at = 16

-- the sender and the instance in feedback
abbrev pub sender_at : ℕ
sender_at = 8

abbrev pub feedback_instance_at : ℕ
feedback_instance_at = 12

-- the headers without extensions, in words and in octets: of INFO, of DATA, of a command, of a FLUSH and a SQUELCH, which name
-- a symbol, and of feedback
abbrev pub info_words : ℕ
info_words = 4

abbrev pub info_header : ℕ
info_header = 16

abbrev pub data_words : ℕ
data_words = 5

abbrev pub data_header : ℕ
data_header = 20

abbrev pub command_words : ℕ
command_words = 4

abbrev pub command_header : ℕ
command_header = 16

abbrev pub naming_words : ℕ
naming_words = 5

abbrev pub naming_header : ℕ
naming_header = 20

abbrev pub feedback_words : ℕ
feedback_words = 6

abbrev pub feedback_header : ℕ
feedback_header = 24

-- a request before its items, and the length of these there
abbrev pub request_front : ℕ
request_front = 4

abbrev pub items_length_at : ℕ
items_length_at = 2

-- an item, and there its object's transport id and its symbol's name
abbrev pub item_width : ℕ
item_width = 8

abbrev pub item_object_at : ℕ
item_object_at = 2

abbrev pub item_name_at : ℕ
item_name_at = 4
