-- What is promised of the grammar, and of the indices that ids name.
use Rattle.std.specs.Prelude.{◌≡◌, ◌<◌, ◌≤◌, ◌+◌, ◌↔◌, ℕ, List, [], ◌∷◌, ◌++◌, length, None, Some, Ok, Err}
use Rattle.norm_base.specs.Octets.{AreOctets}
use Rattle.norm_base.specs.Settings.{Settings}
use Rattle.norm_base.specs.Sizes.{id_count}
use Rattle.norm_ext.specs.ObjectIds.{last_index, ids_below, ids_above, object_id, index_named}
use Rattle.norm_ext.specs.Message.{Message}
use Rattle.norm_ext.specs.Reading.{decoded}
use Rattle.norm_ext.specs.Spells.{Spells, IsMessage}
use Rattle.std.specs.List.{AllByRecursion, last_or}
use Rattle.norm_ext.specs.Extensions.{Extension, IsExtension, IsChecked, extensions_of}
use Rattle.norm_ext.specs.Requests.{Request, IsRequest, IsRequests, requests_of}
use Rattle.norm_ext.specs.Octets.{octets_of, extensions_octets, requests_octets}
use Rattle.norm_ext.specs.Asked.{Asked, IsAsked, requests_asked, asked_octets, octets_behind}
use Rattle.norm_ext.specs.Applies.{Applies, IsFirst}
use Rattle.norm_ext.specs.declared.refusal.Refusal.{Refusal}

-- what is read of octets is spelled by them
abbrev pub ReadIsSpelled : Type 0
ReadIsSpelled = (m : Message) (octets : List ℕ) → AreOctets octets → decoded octets ≡ Ok m → Spells m octets

-- what octets spell is read of them
abbrev pub SpelledIsRead : Type 0
SpelledIsRead = (m : Message) (octets : List ℕ) → Spells m octets → decoded octets ≡ Ok m

-- octets spell at most one message
abbrev pub SpellsOne : Type 0
SpellsOne = (m n : Message) (octets : List ℕ) → Spells m octets → Spells n octets → m ≡ n

-- a message whose fields fit is read again of its octets
abbrev pub ReadAgain : Type 0
ReadAgain = (m : Message) → IsMessage m → decoded (octets_of m) ≡ Ok m

-- a refusal that is given applies to the octets, and none before it does
abbrev pub RefusedIsFirst : Type 0
RefusedIsFirst = (refusal : Refusal) (octets : List ℕ) → AreOctets octets → decoded octets ≡ Err refusal → IsFirst refusal octets

-- the first refusal that applies is given
abbrev pub FirstIsRefused : Type 0
FirstIsRefused = (refusal : Refusal) (octets : List ℕ) → AreOctets octets → IsFirst refusal octets → decoded octets ≡ Err refusal

-- no refusal applies to octets that spell a message
abbrev pub SpelledIsNotRefused : Type 0
SpelledIsNotRefused = (m : Message) (octets : List ℕ) → AreOctets octets → Spells m octets → (refusal : Refusal) → Applies refusal octets → ⊥

-- Extensions that are lent stand for their list. Octets that were checked are the octets of what is read of them, which can be spelled. And of the
-- octets of extensions that can be spelled, these extensions are read.
pub record LentExtensions : Type 0 where
  pub fit : (octets : List ℕ) → AreOctets octets → IsChecked octets → AllByRecursion IsExtension (extensions_of octets)
  pub spelled : (octets : List ℕ) → AreOctets octets → IsChecked octets → extensions_octets (extensions_of octets) ≡ octets
  pub whole : (extensions : List Extension) → AllByRecursion IsExtension extensions → IsChecked (extensions_octets extensions)
  pub read : (extensions : List Extension) → AllByRecursion IsExtension extensions → extensions_of (extensions_octets extensions) ≡ extensions

-- the same of requests that are lent
pub record LentRequests : Type 0 where
  pub fit : (octets : List ℕ) → AreOctets octets → IsRequests octets → AllByRecursion IsRequest (requests_of octets)
  pub spelled : (octets : List ℕ) → AreOctets octets → IsRequests octets → requests_octets (requests_of octets) ≡ octets
  pub whole : (requests : List Request) → AllByRecursion IsRequest requests → IsRequests (requests_octets requests)
  pub read : (requests : List Request) → AllByRecursion IsRequest requests → requests_of (requests_octets requests) ≡ requests

-- what is asked for within its widths is a list of whole requests, and is read again as these
abbrev pub AskedIsRead : Type 0
AskedIsRead =
    (asked : List Asked) → AllByRecursion IsAsked asked → length (asked_octets asked) < id_count
    → IsRequests (asked_octets asked) × (requests_of (asked_octets asked) ≡ requests_asked asked)

-- one more that is asked for takes so many octets behind the others
abbrev pub OneMoreTakes : Type 0
OneMoreTakes =
    (asked : List Asked) (a : Asked)
    → length (asked_octets (asked ++ a ∷ [])) ≡ length (asked_octets asked) + octets_behind (last_or None asked) a

-- an index lies within 32,768 below and 32,767 above what is known, and an object can have it
abbrev pub IsNear : ℕ → ℕ → Type 0
IsNear known index = (known ≤ index + ids_below) × (index ≤ known + ids_above) × (index ≤ last_index)

-- an id names the index near what is known that has it, and no other
abbrev pub NamesNearest : Type 0
NamesNearest =
    (p : Settings) (known object index : ℕ) → object < id_count
    → ((index_named p known object ≡ Some index) ↔ (IsNear known index × (object_id p index ≡ object)))

-- the id of an index within 32,767 of what is known names that index
abbrev pub NamedAgain : Type 0
NamedAgain =
    (p : Settings) (known index : ℕ) → known ≤ index + ids_above → index ≤ known + ids_above → index ≤ last_index
    → index_named p known (object_id p index) ≡ Some index
