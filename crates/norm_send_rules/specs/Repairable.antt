-- How much of the window may still have to be repaired.
use Rattle.std.specs.Prelude.{ℕ, ◌+◌, List, [], ◌∷◌, ◌++◌, length, map, filter, Bool, true, false, flat_map, if◌then◌else◌}
use Rattle.std.specs.List.{range_with_len}
use Rattle.norm_base.specs.Settings.{Settings}
use Rattle.norm_order.specs.Entries.{Whole, Stream, Entry}
use Rattle.norm_order.specs.Shapes.{Shape, symbols_of, encoded_in, closed_blocks}
use Rattle.norm_send_rules.specs.SenderState.{SenderState}
use Rattle.norm_send_rules.specs.InWindow.{stands_behind, current_shapes}
use Rattle.norm_send_rules.specs.Room.{window}
use Rattle.norm_send_rules.specs.declared.want.Want.{Want}
use Rattle.norm_send_rules.specs.declared.want.Want.TheVariants.{Info, Symbol}

-- the info and the encoded symbols of the object with this index
abbrev pub encoded_of : ℕ → Shape → List Want
encoded_of index s =
    (if s.info then Info index ∷ [] else [])
    ++ map Symbol (flat_map (λ block. symbols_of index (encoded_in s block) block) (range_with_len 0 (closed_blocks s)))

-- those of the objects from this index on
unfoldable pub encoded_from : ℕ → List Shape → List Want
encoded_from index [] = []
encoded_from index (s ∷ shapes) = encoded_of index s ++ encoded_from (index + 1) shapes

-- how many infos and encoded symbols the window has
abbrev pub repairable : Settings → SenderState → ℕ
repairable p s = length (filter (stands_behind s.current.drop) (encoded_from 0 (current_shapes p s)))

-- the entry is a stream
abbrev pub is_stream : Entry → Bool
is_stream entry = elim entry.object [ Whole kind info octets ↦ false | Stream parts ↦ true ]

-- how many streams are enqueued and not dropped whole
abbrev pub streams : SenderState → ℕ
streams s = length (filter is_stream (window s))
