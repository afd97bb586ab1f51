-- The line that shows a datagram: the words of the message that it spells, or why it is refused.
use Rattle.std.specs.Prelude.{ℕ, List, [], ◌∷◌, ◌++◌, length, codes, Result, Ok, Err}
use Rattle.std.specs.Fmt.{decimal}
use Rattle.norm_ext.specs.Message.{Message, AckContent, Info, Data, Flush, Eot, Squelch, RepairAdv, AckReq, Opaque, Nack, Ack, Report, Mark, Unread}
use Rattle.norm_ext.specs.declared.refusal.Refusal.{Refusal}
use Rattle.norm_text.specs.Words.{line, numbers_word, contents_word}
use Rattle.norm_show.specs.Words.{command_words, object_words, receiver_words, symbol_words, fti_word, requests_word, refusal_words}

-- what an acknowledgement holds: of a flush the symbol, else how many octets are not read
abbrev pub ack_words : AckContent → List (List ℕ)
ack_words (Mark item) = symbol_words item.object item.id.block item.id.symbol
ack_words (Unread octets) = codes "opaque" ∷ decimal (length octets) ∷ []

-- the line of a message
abbrev pub message_line : Message → List ℕ
message_line (Info m) = line (codes "info") (object_words m.head ++ fti_word m.extensions ∷ contents_word m.info ∷ [])
message_line (Data m) =
    line (codes "data") (object_words m.head ++ decimal m.id.block ∷ decimal m.id.symbol ∷ fti_word m.extensions ∷ contents_word m.payload ∷ [])
message_line (Flush m) =
    line (codes "flush") (command_words m.head ++ (symbol_words m.object m.id.block m.id.symbol ++ numbers_word m.nodes ∷ []))
message_line (Eot m) = line (codes "eot") (command_words m.head)
message_line (Squelch m) =
    line (codes "squelch") (command_words m.head ++ (symbol_words m.object m.id.block m.id.symbol ++ numbers_word m.invalid ∷ []))
message_line (RepairAdv m) = line (codes "adv") (command_words m.head ++ decimal m.flags ∷ requests_word m.requests ∷ [])
message_line (AckReq m) =
    line (codes "ackreq") (command_words m.head ++ decimal m.ack_type ∷ decimal m.ack_id ∷ numbers_word m.nodes ∷ [])
message_line (Opaque m) = line (codes "opaque") (command_words m.head ++ decimal m.sub_type ∷ [])
message_line (Nack m) = line (codes "nack") (receiver_words m.source m.sequence m.sender m.instance ++ requests_word m.requests ∷ [])
message_line (Ack m) =
    line (codes "ack") (receiver_words m.source m.sequence m.sender m.instance ++ decimal m.ack_type ∷ decimal m.ack_id ∷ ack_words m.content)
message_line (Report m) = line (codes "report") (decimal m.source ∷ decimal m.sequence ∷ [])

-- the line of a datagram that is refused
abbrev pub refused_line : Refusal → List ℕ
refused_line refusal = line (codes "refused") (refusal_words refusal)

-- the line of what was read of a datagram
abbrev pub line_of : Result Message Refusal → List ℕ
line_of (Ok m) = message_line m
line_of (Err refusal) = refused_line refusal
