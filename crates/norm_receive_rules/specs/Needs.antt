-- What a receiver needs of data and files (RFC 5740 section 5.3, RFC 5401 section 3.2.2), from what it saw of the sender: the
-- farthest point and the greatest flush position.
use Rattle.std.specs.Prelude.{ℕ, zero, suc, ◌+◌, ◌==◌, ◌&&◌, ◌||◌, not, List, [], ◌∷◌, max, min, Bool, true, false, nat_lt, nat_le, Option, None, Some}
use Rattle.fec_plan.specs.Partition.{blocks}
use Rattle.fec_plan.specs.Points.{Point}
use Rattle.fec_plan.specs.declared.position.Position.{Position}
use Rattle.norm_receive_rules.specs.Holding.{Holding, Plan}
use Rattle.norm_receive_rules.specs.Lazy.{Lazy, Nil, Next}
use Rattle.norm_receive_rules.specs.Plans.{cut_of_plan, has_its_info, lacking}

-- A need: an object of which nothing is known, and its info; the info of an object; so many symbols of a block; a source
-- symbol; all of a stream from a block on.
pub data Need : Type 0 where
  Object : (index : ℕ) → Need
  ObjectInfo : (index : ℕ) → Need
  Symbols : (index block wanted : ℕ) → Need
  Source : (at : Position) → Need
  Rest : (index block : ℕ) → Need

-- the index of the farthest point seen, or 0
abbrev pub farthest_index : Option Point → ℕ
farthest_index farthest = elim farthest [ Some at ↦ at.index | None ↦ 0 ]

-- the sender was seen to be past the object, or flushed it or a later one
abbrev pub is_covered : Option Point → Option Position → ℕ → Bool
is_covered farthest flush index = nat_lt index (farthest_index farthest) || elim flush [ Some at ↦ nat_le index at.index | None ↦ false ]

-- the info of an object that is missing, where the object is covered
abbrev pub info_needs : Holding → Plan → Bool → List Need
info_needs s plan covered = elim (covered && not (has_its_info s plan)) [ true ↦ ObjectInfo plan.index ∷ [] | false ↦ [] ]

-- of so many blocks of an object: all where its index is below this one, so many where it is this one, and none above
abbrev pub blocks_before : ℕ → ℕ → ℕ → ℕ → ℕ
blocks_before own all index count = elim (nat_lt own index) [
  | true ↦ all
  | false ↦ elim (own == index) [ true ↦ min count all | false ↦ 0 ]
]

-- how many of an object's blocks lie before the farthest point, or at most at the flush's
abbrev pub blocks_due : Option Point → Option Position → ℕ → ℕ → ℕ
blocks_due farthest flush index all = max
    (elim farthest [ Some at ↦ blocks_before index all at.index at.block | None ↦ 0 ])
    (elim flush [ Some at ↦ blocks_before index all at.index (at.block + 1) | None ↦ 0 ])

-- the counts of n blocks from this one on that lack symbols
unfoldable pub counts_from : Holding → Plan → ℕ → ℕ → Lazy Need
counts_from s plan zero block = Nil
counts_from s plan (suc n) block = elim (lacking s plan block) [
  | zero ↦ counts_from s plan n (suc block)
  | suc less ↦ Next (Symbols plan.index block (suc less)) (λ u. counts_from s plan n (suc block))
]

-- what is needed of data or a file
abbrev pub object_needs : Option Point → Option Position → Holding → Plan → Lazy Need
object_needs farthest flush s plan = counts_from s plan (blocks_due farthest flush plan.index (blocks (cut_of_plan plan))) 0

-- what is needed of an object without a plan: all of it, where it is covered
abbrev pub unknown_needs : ℕ → Bool → List Need
unknown_needs index covered = elim covered [ true ↦ Object index ∷ [] | false ↦ [] ]
