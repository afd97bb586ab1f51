-- What a NACK asks for, and what was asked for already (RFC 5740 section 5.3, RFC 5401 section 3.2.2).
use Rattle.std.specs.Prelude.{◌≡◌, ◌<◌, ◌≤◌, ◌⊎◌, ◌-◌, ℕ, List, [], ◌∷◌, ◌++◌, map, flat_map, length, true, false, None}
use Rattle.std.specs.Bool.{Decides}
use Rattle.std.specs.List.{list_any}
use Rattle.norm_base.specs.Settings.{Settings}
use Rattle.fec_plan.specs.Points.{point, position}
use Rattle.norm_ext.specs.Asked.{asked_octets}
use Rattle.norm_ext.specs.Asking.{Named, asked_spans, asks_info, asked_counts}
use Rattle.norm_receive_rules.specs.Heard.{heard_all}
use Rattle.norm_receive_rules.specs.HeardNeeds.{width_of, is_asked, asks_as_many, is_heard}
use Rattle.norm_receive_rules.specs.Holding.{Holding}
use Rattle.norm_receive_rules.specs.Laws.{EachIsAsked}
use Rattle.norm_receive_rules.specs.Lazy.{Lazy, all_of}
use Rattle.norm_receive_rules.specs.Nack.{asked_of, fitting}
use Rattle.norm_receive_rules.specs.Needs.{Need, Object, ObjectInfo, Symbols, Source, Rest}
use Rattle.norm_receive_rules.specs.Overhearing.{asked_all, can_hear, heard_whole}
use Rattle.norm_receive_rules.specs.StreamNeeds.{last_block}

-- the octets of the requests for these needs
abbrev pub octets_asked : Settings → List Need → ℕ
octets_asked p wanted = length (asked_octets (map (asked_of p) wanted))

-- These begin what is needed, their requests fit so many octets, and with the next need they would not.
pub record IsLongest (p : Settings) (room : ℕ) (needed wanted : List Need) : Type 0 where
  pub rest : List Need
  pub begins : needed ≡ wanted ++ rest
  pub fits : octets_asked p wanted ≤ room
  pub longest : (next : Need) (behind : List Need) → rest ≡ next ∷ behind → room < octets_asked p (wanted ++ next ∷ [])

-- these requests name each source symbol of an object's blocks from one to another, where the blocks have so many
abbrev pub BlocksAreAsked : List Named → ℕ → ℕ → ℕ → ℕ → Type 0
BlocksAreAsked requests width index first last =
    EachIsAsked (flat_map asked_spans requests) width (position index first 0) (position index last (width - 1))

-- these requests ask for an object's info
abbrev pub InfoIsAsked : List Named → ℕ → Type 0
InfoIsAsked requests index = list_any (λ (r : Named). asks_info r index) requests ≡ true

-- the block of an object with which a need begins
abbrev pub width_at : Holding → Need → ℕ
width_at s (Object index) = width_of s (point index 0)
width_at s (ObjectInfo index) = width_of s (point index 0)
width_at s (Symbols index block wanted) = width_of s (point index block)
width_at s (Source at) = width_of s (point at.index at.block)
width_at s (Rest index block) = width_of s (point index block)

-- These requests ask for all of a need: for an unknown object each of its source symbols and its info; for as many symbols of a
-- block, or for each of its source symbols; for a source symbol; and for each of a stream from a block on.
abbrev pub IsAskedFor : List Named → Holding → Need → Type 0
IsAskedFor requests s (Object index) = BlocksAreAsked requests (width_of s (point index 0)) index 0 last_block × InfoIsAsked requests index
IsAskedFor requests s (ObjectInfo index) = InfoIsAsked requests index
IsAskedFor requests s (Symbols index block wanted) =
    (asks_as_many (flat_map asked_counts requests) (point index block) wanted ≡ true)
    ⊎ BlocksAreAsked requests (width_of s (point index block)) index block block
IsAskedFor requests s (Source at) = is_asked (flat_map asked_spans requests) at ≡ true
IsAskedFor requests s (Rest index block) = BlocksAreAsked requests (width_of s (point index block)) index block last_block

-- the blocks that a need names are those that 24 bits can
abbrev pub NamesBlocks : Need → Type 0
NamesBlocks (Object index) = 0 ≤ last_block
NamesBlocks (ObjectInfo index) = 0 ≤ last_block
NamesBlocks (Symbols index block wanted) = block ≤ last_block
NamesBlocks (Source at) = at.block ≤ last_block
NamesBlocks (Rest index block) = block ≤ last_block

-- the requests of the messages that were heard, after a further message
abbrev pub requests_heard : List Named → List Named → List Named
requests_heard requests message = elim (can_hear (heard_all requests) (asked_all message)) [ true ↦ requests ++ message | false ↦ requests ]

-- A NACK asks for the longest beginning of what is needed whose requests fit; and a need was heard exactly where the requests
-- of the messages that were heard ask for all of it, as they came. What was heard is that of all these requests: after a further
-- message it is that of its requests too if it can be heard, and else what it was.
pub record NackLaws : Type 0 where
  pub longest : (p : Settings) (needs : Lazy Need) (room : ℕ) → IsLongest p room (all_of needs) (fitting p needs None room)
  pub heard : (requests : List Named) (s : Holding) (need : Need) → 0 < width_at s need → NamesBlocks need
      → Decides (is_heard (heard_all requests) s need) (IsAskedFor requests s need)
  pub more : (requests message : List Named) → heard_whole (heard_all requests) (asked_all message) ≡ heard_all (requests_heard requests message)
