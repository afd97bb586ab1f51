-- Repair requests written item by item (RFC 5740 section 4.3.1): neighbours of one form and the same flags share a request.
use Rattle.std.specs.Prelude.{ℕ, ◌+◌, ◌*◌, ◌==◌, ◌&&◌, ◌≡◌, ◌≢◌, ◌<◌, ◌≤◌, Bool, false, List, [], ◌∷◌, ◌++◌, length, Option, Some, None, if◌then◌else◌}
use Rattle.std.specs.Option.{option_map}
use Rattle.std.specs.List.{last_or}
use Rattle.norm_ext.specs.Numbers.{form_number}
use Rattle.norm_ext.specs.Requests.{Request, RequestItem, IsItem}
use Rattle.norm_ext.specs.Octets.{requests_octets}
use Rattle.norm_ext.specs.declared.kinds.Form.{Form}
use Rattle.norm_ext.specs.declared.kinds.Form.TheVariants as forms
use Rattle.norm_ext.specs.declared.head.Item.{Item}

-- what is asked for at once: an item, or the two ends of a range
pub record Asked : Type 0 where
  pub form : Form
  pub flags : ℕ
  pub first : Item
  pub last : Option Item

abbrev pub asked_for : Form → ℕ → Item → Option Item → Asked
asked_for form flags first last = record { form = form; flags = flags; first = first; last = last }

-- an item as it is written, with a zero in the reserved place
abbrev pub written_item : Item → RequestItem
written_item item = record { reserved = 0; item = item }

-- an item, or of a range both ends
abbrev pub ends_of : Item → Option Item → List RequestItem
ends_of first None = written_item first ∷ []
ends_of first (Some last) = written_item first ∷ written_item last ∷ []

abbrev pub asked_items : Asked → List RequestItem
asked_items a = ends_of a.first a.last

-- a request of this alone
abbrev pub request_alone : Asked → Request
request_alone a = record { form = a.form; flags = a.flags; items = asked_items a }

-- it has the request's form and flags
abbrev pub is_like : Asked → Request → Bool
is_like a r = (form_number a.form == form_number r.form) && (a.flags == r.flags)

-- before these requests: it joins the first of them where it is like it
abbrev pub asked_before : Asked → List Request → List Request
asked_before a [] = request_alone a ∷ []
asked_before a (r ∷ requests) =
    if is_like a r then record r { items = asked_items a ++ r.items } ∷ requests else request_alone a ∷ r ∷ requests

-- it shares the request of what was asked before it
abbrev pub joins : Option Asked → Asked → Bool
joins None a = false
joins (Some before) a = is_like a (request_alone before)

-- the octets that it takes behind what was asked before it: eight for each item, and four of a request that it begins
abbrev pub octets_behind : Option Asked → Asked → ℕ
octets_behind before a = 8 * length (asked_items a) + (if joins before a then 0 else 4)

-- what is asked for, one after the other, as requests
abbrev pub requests_asked : List Asked → List Request
requests_asked [] = []
requests_asked (a ∷ asked) = asked_before a (requests_asked asked)

-- its octets
abbrev pub asked_octets : List Asked → List ℕ
asked_octets asked = requests_octets (requests_asked asked)

-- the second end is there exactly for a range, and within its widths
abbrev pub LastFits : Form → Option Item → Type 0
LastFits form None = form ≢ forms.Ranges
LastFits form (Some item) = (form ≡ forms.Ranges) × IsItem item

-- what can be asked for: within its widths
pub record IsAsked (a : Asked) : Type 0 where
  pub flags : a.flags < 256
  pub first : IsItem a.first
  pub last : LastFits a.form a.last

-- What a writer knows: the octets that the requests may have and those that they have, and of the last request, where
-- there is one, the form, the flags and the octets of its items.
pub record Writing : Type 0 where
  pub limit : ℕ
  pub used : ℕ
  pub form : Option Form
  pub flags : ℕ
  pub len : ℕ

-- the last request's flags, and the octets of its items, or 0 where there is none
abbrev pub last_flags : Option Request → ℕ
last_flags None = 0
last_flags (Some r) = r.flags

abbrev pub last_len : Option Request → ℕ
last_len None = 0
last_len (Some r) = 8 * length r.items

-- the writer of these requests
abbrev pub writing : ℕ → List Request → Writing
writing limit requests =
    record {
      limit = limit;
      used = length (requests_octets requests);
      form = option_map (λ r. r.form) (last_or None requests);
      flags = last_flags (last_or None requests);
      len = last_len (last_or None requests);
    }

-- The writer has written what was asked for, within its limit: the datagram has the requests' octets behind these.
pub record HasWritten (w : Writing) (out front : List ℕ) (asked : List Asked) : Type 0 where
  pub stands : w ≡ writing w.limit (requests_asked asked)
  pub written : out ≡ front ++ asked_octets asked
  pub within : w.used ≤ w.limit
