-- What each refusal says of octets (RFC 5740 section 4), and which of those that apply is the first.
use Rattle.std.specs.Prelude.{ℕ, ◌+◌, ◌*◌, ◌/◌, ◌%◌, ◌≡◌, ◌≢◌, ◌<◌, ◌⊎◌, true, List, ◌++◌, length, take, drop}
use Rattle.std.specs.List.{flat_map, AllByRecursion}
use Rattle.norm_ext.specs.Numbers.{octet, number, form_number, encoding_id}
use Rattle.norm_ext.specs.Extensions.{IsExtension, extension_octets, extension_length}
use Rattle.norm_ext.specs.Requests.{IsRequestItem, item_octets, IsRequest, request_octets, items_length, item_size}
use Rattle.norm_ext.specs.Reading.{words_of, type_in, source_of, content_of, header_from}
use Rattle.norm_ext.specs.Layouts.{Content, Nothing, Numbers, Requests, OneItem, layout_of}
use Rattle.norm_ext.specs.declared.kinds.Form.{Form}
use Rattle.norm_ext.specs.declared.refusal.Refusal.{Refusal}
use Rattle.norm_ext.specs.declared.refusal.Refusal.TheVariants.{Short, Version, BadType, HeaderLength, PastEnd, FecId, SubType, Ext, RequestForm, RequestLength, ItemFec, BadNode, BadList}

-- the number is not one of those from the first to the last
abbrev pub IsOutside : ℕ → ℕ → ℕ → Type 0
IsOutside first last n = (n < first) ⊎ (last < n)

-- The list begins with whole pieces, and behind them at this place the rest begins, which is not empty. The list
-- itself begins at the place from.
pub record Begins {A : Type 0} (octets_of : A → List ℕ) (Fits : A → Type 0) (from : ℕ) (list : List ℕ) (at : ℕ) (rest : List ℕ) : Type 0 where
  pub before : List A
  pub whole : AllByRecursion Fits before
  pub joined : list ≡ flat_map octets_of before ++ rest
  pub place : at ≡ from + length (flat_map octets_of before)
  pub some : 0 < length rest

-- an extension of length 0, or past the end: fewer octets than a word, or than it says
abbrev pub IsNoExtension : List ℕ → Type 0
IsNoExtension rest = (length rest < 4) ⊎ (extension_length rest ≡ 0) ⊎ (length rest < extension_length rest)

-- behind whole extensions one begins at this place that is none
pub record BadExtension (from : ℕ) (list : List ℕ) (at : ℕ) : Type 0 where
  pub rest : List ℕ
  pub begins : Begins extension_octets IsExtension from list at rest
  pub wrong : IsNoExtension rest

-- behind whole requests one begins at this place, and it has these octets and more
abbrev pub RequestBegins : ℕ → List ℕ → ℕ → List ℕ → Type 0
RequestBegins from list at rest = Begins request_octets IsRequest from list at rest

-- of another form than 1 to 3
pub record BadForm (from : ℕ) (list : List ℕ) (at : ℕ) : Type 0 where
  pub rest : List ℕ
  pub begins : RequestBegins from list at rest
  pub wrong : IsOutside 1 3 (octet 0 rest)

-- fewer than 4 octets, past the end, or no whole number of items, or of pairs of them in ranges
abbrev pub HasBadLength : Form → List ℕ → Type 0
HasBadLength form rest =
    (length rest < 4) ⊎ (length rest < 4 + items_length rest) ⊎ (items_length rest % item_size form ≢ 0)

-- of a form whose length is wrong
pub record BadLength (from : ℕ) (list : List ℕ) (at : ℕ) : Type 0 where
  pub rest : List ℕ
  pub begins : RequestBegins from list at rest
  pub form : Form
  pub named : octet 0 rest ≡ form_number form
  pub wrong : HasBadLength form rest

-- In a request of a form and a right length, behind whole items one begins at this place whose FEC Encoding ID is this
-- one, and another than 5.
pub record BadItem (from : ℕ) (list : List ℕ) (at id : ℕ) : Type 0 where
  pub rest : List ℕ
  pub start : ℕ
  pub begins : RequestBegins from list start rest
  pub form : Form
  pub named : octet 0 rest ≡ form_number form
  pub right : HasBadLength form rest → ⊥
  pub item : List ℕ
  pub items : Begins item_octets IsRequestItem (start + 4) (take (items_length rest) (drop 4 rest)) at item
  pub found : octet 0 item ≡ id
  pub wrong : id ≢ encoding_id

-- the one item of a flush's acknowledgement has another FEC Encoding ID than 5
pub record BadMark (from : ℕ) (content : List ℕ) (at id : ℕ) : Type 0 where
  pub place : at ≡ from
  pub whole : length content ≡ 8
  pub found : octet 0 content ≡ id
  pub wrong : id ≢ encoding_id

-- an item with another FEC Encoding ID than 5 stands at this place
abbrev pub BadEncoding : Content → ℕ → List ℕ → ℕ → ℕ → Type 0
BadEncoding Requests from content at id = BadItem from content at id
BadEncoding OneItem from content at id = BadMark from content at id
BadEncoding _ from content at id = ⊥

-- the ids 0 and 2^32 - 1 name no member of a session (RFC 5740 section 4.1)
abbrev pub NoMember : ℕ → Type 0
NoMember n = (n ≡ 0) ⊎ (n ≡ 4294967295)

-- so many octets of the content are left over
abbrev pub LeavesOver : Content → List ℕ → ℕ → Type 0
LeavesOver Nothing content rest = (rest ≡ length content) × (rest ≢ 0)
LeavesOver (Numbers width) content rest = (rest ≡ length content % width) × (rest ≢ 0)
LeavesOver OneItem content rest = (rest ≡ length content) × (rest ≢ 8)
LeavesOver _ content rest = ⊥

-- where the extensions begin: behind the least header
abbrev pub extensions_at : List ℕ → ℕ
extensions_at octets = 4 * (layout_of octets).least

-- where the content begins: behind the header
abbrev pub content_at : List ℕ → ℕ
content_at octets = 4 * words_of octets

-- what a refusal says of octets
abbrev pub Applies : Refusal → List ℕ → Type 0
Applies (Short len) octets = (len ≡ length octets) × (len < 8)
Applies (Version v) octets = (v ≡ octet 0 octets / 16) × (v ≢ 1)
Applies (BadType t) octets = (t ≡ type_in octets) × IsOutside 1 6 t
Applies (HeaderLength words least) octets = (words ≡ words_of octets) × (least ≡ (layout_of octets).least) × (words < least)
Applies (PastEnd words len) octets = (words ≡ words_of octets) × (len ≡ length octets) × (len < 4 * words)
Applies (FecId id) octets = ((layout_of octets).encoded ≡ true) × (id ≡ octet 13 octets) × (id ≢ encoding_id)
Applies (SubType s) octets = (type_in octets ≡ 3) × (s ≡ octet 12 octets) × IsOutside 1 7 s
Applies (Ext at) octets = ((layout_of octets).extended ≡ true) × BadExtension (extensions_at octets) (header_from (extensions_at octets) octets) at
Applies (RequestForm at) octets = ((layout_of octets).content ≡ Requests) × BadForm (content_at octets) (content_of octets) at
Applies (RequestLength at) octets = ((layout_of octets).content ≡ Requests) × BadLength (content_at octets) (content_of octets) at
Applies (ItemFec at id) octets = BadEncoding (layout_of octets).content (content_at octets) (content_of octets) at id
Applies BadNode octets = NoMember (source_of octets) ⊎ (((layout_of octets).sender ≡ true) × NoMember (number 4 8 octets))
Applies (BadList rest) octets = LeavesOver (layout_of octets).content (content_of octets) rest

-- The order of refusals. Requests are looked at one after the other, each behind whole ones, so that at most one of
-- the three that speak of them applies.
abbrev pub turn_of : Refusal → ℕ
turn_of (Short len) = 0
turn_of (Version v) = 1
turn_of (BadType t) = 2
turn_of (HeaderLength words least) = 3
turn_of (PastEnd words len) = 4
turn_of (FecId id) = 5
turn_of (SubType s) = 6
turn_of (Ext at) = 7
turn_of (RequestForm at) = 8
turn_of (RequestLength at) = 8
turn_of (ItemFec at id) = 8
turn_of BadNode = 9
turn_of (BadList rest) = 10

-- the refusal applies, and none does whose turn is earlier
pub record IsFirst (refusal : Refusal) (octets : List ℕ) : Type 0 where
  pub applies : Applies refusal octets
  pub none : (other : Refusal) → turn_of other < turn_of refusal → Applies other octets → ⊥
