-- The word of an option that names a group: a broadcast address, and a port if it is not the profile's.
use Rattle.std.specs.Prelude.{ℕ, ◌==◌, Bool, List, [], ◌∷◌, Option, None, Some, codes, if◌then◌else◌, option_and_then}
use Rattle.std.specs.Cmp.Lexicographic.{pointwise}
use Rattle.std.specs.Option.{option_map}
use Rattle.std.specs.Net.Addr.{ipv4_octets}
use Rattle.clap.specs.Words.{App, Row, first_of}
use Rattle.norm_script.specs.Text.{split_at_first}
use Rattle.norm_script.specs.Words.{is_text, number_within}
use Rattle.norm_args.specs.Forms.{send_form, recv_form, found_in}
use Rattle.norm_args.specs.declared.group.GroupAddress.{GroupAddress}

infixl 10 ◌>>=◌
abbrev ◌>>=◌ : {A B : Type 0} → Option A → (A → Option B) → Option B
o >>= f = option_and_then f o

-- the number of an octet
abbrev pub octet_in : List ℕ → Option ℕ
octet_in word = number_within 0 255 word

-- four numbers with points between them
unfoldable pub address_in : List ℕ → Option (List ℕ)
address_in word = do
  a ← split_at_first 46 word
  b ← split_at_first 46 a.1
  c ← split_at_first 46 b.1
  first ← octet_in a.0
  second ← octet_in b.0
  third ← octet_in c.0
  fourth ← octet_in c.1
  Some (first ∷ second ∷ third ∷ fourth ∷ [])

-- The address of all machines of a subnet that is not named, which leaves by one interface alone: no group's.
abbrev pub is_unnamed : List ℕ → Bool
is_unnamed octets = pointwise ◌==◌ octets (255 ∷ 255 ∷ 255 ∷ 255 ∷ [])

-- an address and a port that may be left out
abbrev pub Named : Type 0
Named = List ℕ × Option ℕ

-- a group as a value of the program
abbrev pub group_seen : GroupAddress → Named
group_seen g = (ipv4_octets g.address, g.port)

abbrev pub named_by : Option (List ℕ) → Option (Option ℕ) → Option Named
named_by None port = None
named_by (Some octets) None = None
named_by (Some octets) (Some port) = if is_unnamed octets then None else Some (octets, port)

-- the port behind a colon; the one behind it is needed too
abbrev pub port_in : List ℕ → Option (Option ℕ)
port_in word = option_map Some (number_within 1024 65534 word)

-- the word whole: an address, or one with a colon and a port behind it
abbrev pub named_in : Option (List ℕ × List ℕ) → List ℕ → Option Named
named_in None word = named_by (address_in word) (Some None)
named_in (Some parts) word = named_by (address_in parts.0) (port_in parts.1)

abbrev pub group_of : List ℕ → Option Named
group_of word = named_in (split_at_first 58 word) word

-- what the option gives: none, or a group; None where it gives another word
abbrev pub group_given : Option (List ℕ) → Option (Option Named)
group_given None = Some None
group_given (Some word) = option_map Some (group_of word)

abbrev pub group_in : List Row → Option (Option Named)
group_in rows = group_given (first_of (codes "group") rows)

-- the group, if one is given
abbrev pub given_one : Option (Option Named) → Option Named
given_one None = None
given_one (Some group) = group

abbrev pub group_found : App → List (List ℕ) → Option Named
group_found form words = option_and_then (λ rows. given_one (group_in rows)) (found_in form words)

-- the group that words ask for whose first is this one
abbrev pub group_named : List ℕ → List (List ℕ) → Option Named
group_named word words =
    if is_text word (codes "send") then group_found send_form words else
    (if is_text word (codes "recv") then group_found recv_form words else None)

-- The group that the words behind the program's name ask for: those of a node of its own may name one.
unfoldable pub group_asked : List (List ℕ) → Option Named
group_asked [] = None
group_asked (word ∷ others) = group_named word (word ∷ others)
