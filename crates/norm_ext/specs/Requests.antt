-- Repair requests (RFC 5740 section 4.3.1): a list of requests, each of a form, with flags and items.
use Rattle.std.specs.Prelude.{ℕ, ◌+◌, ◌*◌, ◌%◌, ◌==◌, ◌≡◌, ◌<◌, nat_lt, not, ◌||◌, List, [], ◌∷◌, ◌++◌, length, take, drop, map, Option, None, Some, Result, Ok, Err}
use Rattle.std.specs.List.{flat_map, AllByRecursion}
use Rattle.byteorder.specs.Endian.{big_bytes}
use Rattle.norm_base.specs.Sizes.{id_count}
use Rattle.fec_plan.specs.Payload.{name_octets, IsName}
use Rattle.norm_ext.specs.Places.{request_front, items_length_at, item_width}
use Rattle.norm_ext.specs.Numbers.{octet, number, name_at, form_number, form_of, encoding_id}
use Rattle.norm_ext.specs.Steps.{refused_if}
use Rattle.norm_ext.specs.Pieces.{pieces_behind, checked_then, checked_behind}
use Rattle.norm_ext.specs.declared.kinds.Form.{Form}
use Rattle.norm_ext.specs.declared.kinds.Form.TheVariants as forms
use Rattle.norm_ext.specs.declared.head.Item.{Item}
use Rattle.norm_ext.specs.declared.refusal.Refusal.{Refusal}
use Rattle.norm_ext.specs.declared.refusal.Refusal.TheVariants.{RequestForm, RequestLength, ItemFec}

-- an item as it stands in a request: what it names, and its reserved octet
pub record RequestItem : Type 0 where
  pub reserved : ℕ
  pub item : Item

-- a request: its form, its flags, and its items; of ranges each two items are a pair
pub record Request : Type 0 where
  pub form : Form
  pub flags : ℕ
  pub items : List RequestItem

-- the octets of an item
abbrev pub item_octets : RequestItem → List ℕ
item_octets x = encoding_id ∷ x.reserved ∷ big_bytes 2 x.item.object ++ name_octets x.item.id

-- the octets of a request: its form, its flags, the length of its items in octets, and its items
abbrev pub request_octets : Request → List ℕ
request_octets r = form_number r.form ∷ r.flags ∷ big_bytes 2 (item_width * length r.items) ++ flat_map item_octets r.items

-- the items in each eight octets
abbrev pub items_of : List ℕ → List RequestItem
items_of (a ∷ b ∷ c ∷ d ∷ e ∷ f ∷ g ∷ h ∷ rest) =
    record {
      reserved = b;
      item = record { object = number 2 0 (c ∷ d ∷ []); id = name_at 0 (e ∷ f ∷ g ∷ h ∷ []) };
    } ∷ items_of rest
items_of _ = []

-- the length that the request at the front says for its items
abbrev pub items_length : List ℕ → ℕ
items_length octets = number 2 items_length_at octets

-- a request's form; of no form it is as good as any
abbrev pub form_or_any : Option Form → Form
form_or_any (Some form) = form
form_or_any None = forms.Items

-- the form of the request at the front
abbrev pub form_at : List ℕ → Form
form_at octets = form_or_any (form_of (octet 0 octets))

-- the request at the front
abbrev pub first_request : List ℕ → Request
first_request octets = record { form = form_at octets; flags = octet 1 octets; items = items_of (take (items_length octets) (drop request_front octets)) }

-- the octets of the request at the front
abbrev pub request_length : List ℕ → ℕ
request_length octets = request_front + items_length octets

-- the requests of a list of whole requests
abbrev pub requests_of : List ℕ → List Request
requests_of octets = pieces_behind first_request request_length 0 octets

-- the octets of an item of a request's form: of ranges a pair
abbrev pub item_size : Form → ℕ
item_size forms.Items = item_width
item_size forms.Ranges = 2 * item_width
item_size forms.Erasures = item_width

-- the first item of another FEC Encoding ID, where the items begin at a place
abbrev pub items_checked : ℕ → List ℕ → Result (Unit {0}) Refusal
items_checked at (a ∷ b ∷ c ∷ d ∷ e ∷ f ∷ g ∷ h ∷ rest) =
    checked_then (refused_if (not (a == encoding_id)) (ItemFec at a)) (items_checked (at + item_width) rest)
items_checked at _ = Ok tt

-- what is wrong with a request of a form at the front, which stands at a place
abbrev pub request_length_checked : ℕ → Form → List ℕ → Result (Unit {0}) Refusal
request_length_checked at form octets =
    refused_if
    (nat_lt (length octets) request_front || nat_lt (length octets) (request_front + items_length octets) || not (items_length octets % item_size form == 0))
    (RequestLength at)

-- what is wrong with a request that may be of a form: its form before its length, and its length before its items
abbrev pub request_checked_as : Option Form → ℕ → List ℕ → Result (Unit {0}) Refusal
request_checked_as (Some form) at octets =
    checked_then (request_length_checked at form octets) (items_checked (at + request_front) (take (items_length octets) (drop request_front octets)))
request_checked_as None at octets = Err (RequestForm at)

-- what is wrong with the request at the front, which stands at a place
abbrev pub request_checked : ℕ → List ℕ → Result (Unit {0}) Refusal
request_checked at octets = request_checked_as (form_of (octet 0 octets)) at octets

-- the first that is wrong with a list of requests that begins at a place
abbrev pub requests_checked : ℕ → List ℕ → Result (Unit {0}) Refusal
requests_checked at octets = checked_behind request_checked request_length at 0 octets

-- an item within its widths
pub record IsItem (x : Item) : Type 0 where
  pub object : x.object < id_count
  pub id : IsName x.id

-- an item of a request within its widths
pub record IsRequestItem (x : RequestItem) : Type 0 where
  pub reserved : x.reserved < 256
  pub item : IsItem x.item

-- a request that can be spelled
pub record IsRequest (r : Request) : Type 0 where
  pub flags : r.flags < 256
  pub items : AllByRecursion IsRequestItem r.items
  pub pairs : item_width * length r.items % item_size r.form ≡ 0
  pub most : item_width * length r.items < 65536

-- what a list of items names
abbrev pub items_named : List ℕ → List Item
items_named octets = map (λ x. x.item) (items_of octets)

-- a list of whole requests
pub record IsRequests (octets : List ℕ) : Type 0 where
  pub checked : requests_checked 0 octets ≡ Ok tt
