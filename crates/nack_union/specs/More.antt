-- What calls add to what the open round asks for, slot by slot and block by block.
use Rattle.std.specs.Prelude.{ℕ, zero, suc, ◌≡◌, ◌+◌, ◌<◌, ◌≤◌, ◌/◌, ◌%◌, ◌==◌, ◌&&◌, ◌||◌, length, max, Bool, true, false, nat_lt, get_or, slice_index, List, [], ◌∷◌}
use Rattle.fec_plan.specs.Partition.{blocks}
use Rattle.fec_plan.specs.Points.{position}
use Rattle.fec_plan.specs.declared.position.Position.{Position}
use Rattle.nack_union.specs.Slots.{symbol_slot, stands_from}
use Rattle.norm_ext.specs.declared.kinds.Form.TheVariants as form
use Rattle.norm_ext.specs.Asking.{Span, Named, is_proper, lies_in, block_span, object_span, has_flag, segment_flag, block_flag, object_flag, info_flag}
use Rattle.norm_order.specs.Sets.{is_member}
use Rattle.norm_order.specs.Shapes.{Shape, closed_in, encoded_in}
use Rattle.nack_union.specs.Kept.{Marked, Kept, symbols_of_marked}

-- the slot of a closed source symbol
abbrev pub is_source_slot : Shape → ℕ → Bool
is_source_slot c zero = false
is_source_slot c (suc n) = nat_lt (n / 256) (blocks c.cut) && nat_lt (n % 256) (closed_in c (n / 256))

-- the symbol at a slot of the object with this index lies in the span
abbrev pub slot_in : ℕ → Span → ℕ → Bool
slot_in index s zero = false
slot_in index s (suc n) = lies_in (position index (n / 256) (n % 256)) s

-- of what is kept of an object these slots are asked for too, and each block is counted as much as this says
pub record HasMore (slots : ℕ → Bool) (counts : ℕ → ℕ) (old new : Marked) : Type 0 where
  pub rest : new ≡ record old { asked = new.asked; counts = new.counts }
  pub asked : (slot : ℕ) → stands_from old.first slot ≡ true → is_member nat_lt slot new.asked ≡ (is_member nat_lt slot old.asked || slots slot)
  pub blocks : length new.counts ≡ length old.counts
  pub counted : (block : ℕ) → old.first ≤ block → block < length old.counts → slice_index new.counts block ≡ max (slice_index old.counts block) (counts block)

-- what is asked for of objects: slots, by their index, shape and whether they have info, and counts, by index, shape and block
pub record Part : Type 0 where
  pub slots : ℕ → Shape → Bool → ℕ → Bool
  pub counts : ℕ → Shape → ℕ → ℕ

-- a count, where something of the block is closed
abbrev pub kept_count : Shape → ℕ → ℕ → ℕ
kept_count s block count = elim (nat_lt 0 (closed_in s block)) [ true ↦ count | false ↦ 0 ]

-- what is asked of an object with this index
abbrev pub MoreOf : Part → ℕ → Marked → Marked → Type 0
MoreOf part index old new = HasMore (part.slots index (symbols_of_marked old) old.info) (part.counts index (symbols_of_marked old)) old new

-- of the objects of a union this part is asked for too
pub record HasPart (part : Part) (old new : Kept) : Type 0 where
  pub first : new.first ≡ old.first
  pub objects : length new.objects ≡ length old.objects
  pub each : (k : ℕ) (d : Marked) → k < length old.objects → MoreOf part (old.first + k) (get_or old.objects k d) (get_or new.objects k d)

-- the slot is of a block below this one
abbrev pub is_below : ℕ → ℕ → Bool
is_below block zero = true
is_below block (suc n) = nat_lt (n / 256) block

-- the slot of an encoded symbol
abbrev pub is_encoded_slot : Shape → ℕ → Bool
is_encoded_slot c zero = false
is_encoded_slot c (suc n) = nat_lt (n / 256) (blocks c.cut) && nat_lt (n % 256) (encoded_in c (n / 256))

-- so many are counted of one block, and none of another
abbrev pub count_at : ℕ → ℕ → ℕ → ℕ
count_at block lacking other = elim (block == other) [ true ↦ lacking | false ↦ 0 ]

-- where what begins at a position begins in the object with this index
abbrev pub slot_from : ℕ → Position → ℕ
slot_from index first = elim (index == first.index) [ true ↦ symbol_slot first.block first.symbol | false ↦ 0 ]

-- behind what ends with a position, or at the end of the object with this index
abbrev pub slot_behind : ℕ → Position → ℕ → ℕ
slot_behind index last most = elim (index == last.index) [ true ↦ symbol_slot last.block last.symbol + 1 | false ↦ most ]

-- What these flags ask of a named span: the closed source symbols that lie in it, in its blocks, or in its objects, and infos.
abbrev pub asks_by : ℕ → Span → ℕ → Shape → Bool → ℕ → Bool
asks_by flags s index c info slot =
    (is_source_slot c slot && (
    ((has_flag flags segment_flag && slot_in index s slot)
    || (has_flag flags block_flag && slot_in index (block_span s) slot))
    || (has_flag flags object_flag && slot_in index (object_span s) slot)))
    || ((has_flag flags info_flag && (info && slot == 0)) && lies_in (position index 0 0) (object_span s))

-- a named span, as a part
abbrev pub named_part : ℕ → Span → Part
named_part flags s = record { slots = asks_by flags s; counts = λ index c block. 0 }

-- the slot of a symbol of a block
abbrev pub is_slot_of : ℕ → ℕ → ℕ → Bool
is_slot_of block symbol zero = false
is_slot_of block symbol (suc n) = block == n / 256 && symbol == n % 256

-- an encoded symbol that is named
abbrev pub symbol_part : Position → Part
symbol_part at = record {
  slots = λ index c info slot. at.index == index && (is_encoded_slot c slot && is_slot_of at.block at.symbol slot);
  counts = λ index c block. 0;
}

-- a block that is counted
abbrev pub count_part : Position → Part
count_part at = record {
  slots = λ index c info slot. false;
  counts = λ index c block. elim (at.index == index) [ true ↦ kept_count c block (count_at at.block at.symbol block) | false ↦ 0 ];
}

-- nothing
abbrev pub no_part : Part
no_part = record { slots = λ index c info slot. false; counts = λ index c block. 0 }

-- two parts
abbrev pub and_part : Part → Part → Part
and_part a b = record {
  slots = λ index c info slot. a.slots index c info slot || b.slots index c info slot;
  counts = λ index c block. max (a.counts index c block) (b.counts index c block);
}

-- a part where the flags have this one
abbrev pub part_where : Bool → Part → Part
part_where wanted part = elim wanted [ true ↦ part | false ↦ no_part ]

-- an item asks for what it names: by SEGMENT for any encoded symbol
abbrev pub item_part : ℕ → Span → Part
item_part flags s = and_part (named_part flags s) (part_where (has_flag flags segment_flag) (symbol_part s.first))

-- items, one after another
abbrev pub items_part : ℕ → List Span → Part
items_part flags [] = no_part
items_part flags (s ∷ spans) = and_part (item_part flags s) (items_part flags spans)

-- pairs, those that are not empty
abbrev pub ranges_part : ℕ → List Span → Part
ranges_part flags [] = no_part
ranges_part flags (s ∷ spans) = and_part (part_where (is_proper s) (named_part flags s)) (ranges_part flags spans)

-- counts
abbrev pub counts_part : List Span → Part
counts_part [] = no_part
counts_part (s ∷ spans) = and_part (count_part s.first) (counts_part spans)

-- what a request asks for
abbrev pub request_part : Named → Part
request_part r = elim r.form [
  | form.Items ↦ items_part r.flags r.spans
  | form.Ranges ↦ ranges_part r.flags r.spans
  | form.Erasures ↦ part_where (has_flag r.flags segment_flag || has_flag r.flags block_flag) (counts_part r.spans)
]

-- requests, one after another
abbrev pub requests_part : List Named → Part
requests_part [] = no_part
requests_part (r ∷ rs) = and_part (request_part r) (requests_part rs)
