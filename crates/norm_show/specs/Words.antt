-- The words for what messages share: heads, symbols, transmission information, repair requests, and refusals.
use Rattle.std.specs.Prelude.{ℕ, List, [], ◌∷◌, codes, map, Option, None, Some}
use Rattle.std.specs.Fmt.{decimal}
use Rattle.norm_ext.specs.Extensions.{Extension, fti_of}
use Rattle.norm_ext.specs.Numbers.{form_number}
use Rattle.norm_ext.specs.Requests.{Request}
use Rattle.norm_ext.specs.declared.fti.Fti.{Fti}
use Rattle.norm_ext.specs.declared.head.ObjHead.{ObjHead}
use Rattle.norm_ext.specs.declared.head.CmdHead.{CmdHead}
use Rattle.norm_ext.specs.declared.head.Item.{Item}
use Rattle.norm_ext.specs.declared.refusal.Refusal.{Refusal}
use Rattle.norm_ext.specs.declared.refusal.Refusal.TheVariants as refusal
use Rattle.norm_text.specs.Words.{joined, list_word}

-- the round trip time, the back-off factor and the group's size, as the octets say them
abbrev pub sizes_word : (grtt backoff gsize : ℕ) → List ℕ
sizes_word grtt backoff gsize = joined 46 (decimal grtt ∷ decimal backoff ∷ decimal gsize ∷ [])

-- what every message of a sender begins with
abbrev pub command_words : CmdHead → List (List ℕ)
command_words h = decimal h.source ∷ decimal h.sequence ∷ decimal h.instance ∷ sizes_word h.grtt h.backoff h.gsize ∷ []

-- the same, and the flags and the object of INFO and DATA
abbrev pub object_words : ObjHead → List (List ℕ)
object_words h =
    decimal h.source ∷ decimal h.sequence ∷ decimal h.instance ∷ sizes_word h.grtt h.backoff h.gsize ∷ decimal h.flags
    ∷ decimal h.object ∷ []

-- what a message of a receiver begins with
abbrev pub receiver_words : (source sequence sender instance : ℕ) → List (List ℕ)
receiver_words source sequence sender instance = decimal source ∷ decimal sequence ∷ decimal sender ∷ decimal instance ∷ []

-- an object and a symbol of it
abbrev pub symbol_words : (object block symbol : ℕ) → List (List ℕ)
symbol_words object block symbol = decimal object ∷ decimal block ∷ decimal symbol ∷ []

-- what the transmission information says; a dash stands for none
abbrev pub plan_word : Fti → List ℕ
plan_word f = joined 44 (decimal f.l ∷ decimal f.e ∷ decimal f.b ∷ decimal f.max_n ∷ [])

abbrev pub plan_or_dash : Option Fti → List ℕ
plan_or_dash None = codes "-"
plan_or_dash (Some f) = plan_word f

abbrev pub fti_word : List Extension → List ℕ
fti_word extensions = plan_or_dash (fti_of extensions)

-- an item of a request
abbrev pub item_word : Item → List ℕ
item_word x = joined 46 (decimal x.object ∷ decimal x.id.block ∷ decimal x.id.symbol ∷ [])

-- a request: its form, its flags and its items, joined by colons; the items are joined by plus signs
abbrev pub request_word : Request → List ℕ
request_word r =
    joined 58 (decimal (form_number r.form) ∷ decimal r.flags ∷ joined 43 (map item_word (map (λ x. x.item) r.items)) ∷ [])

abbrev pub requests_word : List Request → List ℕ
requests_word requests = list_word (map request_word requests)

-- why a datagram is refused: the reason, and its place or number
abbrev pub refusal_words : Refusal → List (List ℕ)
refusal_words (refusal.Short len) = codes "short" ∷ decimal len ∷ []
refusal_words (refusal.Version v) = codes "version" ∷ decimal v ∷ []
refusal_words (refusal.BadType t) = codes "type" ∷ decimal t ∷ []
refusal_words (refusal.HeaderLength words least) = codes "header" ∷ decimal words ∷ decimal least ∷ []
refusal_words (refusal.PastEnd words len) = codes "past-end" ∷ decimal words ∷ decimal len ∷ []
refusal_words (refusal.FecId id) = codes "fec-id" ∷ decimal id ∷ []
refusal_words (refusal.SubType s) = codes "sub-type" ∷ decimal s ∷ []
refusal_words (refusal.Ext at) = codes "extension" ∷ decimal at ∷ []
refusal_words (refusal.RequestForm at) = codes "form" ∷ decimal at ∷ []
refusal_words (refusal.RequestLength at) = codes "length" ∷ decimal at ∷ []
refusal_words (refusal.ItemFec at id) = codes "item-fec" ∷ decimal at ∷ decimal id ∷ []
refusal_words refusal.BadNode = codes "node" ∷ []
refusal_words (refusal.BadList rest) = codes "list" ∷ decimal rest ∷ []
