-- What the open round of a union asks for.
use Rattle.std.specs.Prelude.{ℕ, suc, ◌-◌, ◌+◌, List, [], ◌∷◌, ◌++◌, length, map, min}
use Rattle.fec_plan.specs.Partition.{source_symbols}
use Rattle.fec_plan.specs.Points.{point}
use Rattle.norm_order.specs.Sets.{with_members}
use Rattle.norm_send_rules.specs.SenderState.{SenderState}
use Rattle.norm_send_rules.specs.Closing.{repairs}
use Rattle.norm_send_rules.specs.Wants.{want_before}
use Rattle.norm_send_rules.specs.declared.want.Want.{Want}
use Rattle.nack_union.specs.Slots.{want_at}
use Rattle.nack_union.specs.Kept.{Marked, Kept, shape_of_marked, closed_marks}

-- the repairs of the counted blocks of an object from one on, where at most all source symbols of a block are lacking
abbrev pub counted_of : SenderState → ℕ → Marked → ℕ → List ℕ → List Want
counted_of s index m block [] = []
counted_of s index m block (c ∷ counts) =
    repairs s (point index block) (shape_of_marked m) (min c (source_symbols m.cut block)) ++ counted_of s index m (suc block) counts

-- what the round asks for of the objects from an index on: the slots that were named, and the repairs of the counted blocks
abbrev pub asked_from : SenderState → ℕ → List Marked → List Want
asked_from s index [] = []
asked_from s index (m ∷ ms) = (map (want_at index) m.asked ++ counted_of s index m 0 m.counts) ++ asked_from s (suc index) ms

-- what the round asks for
abbrev pub asked_of : SenderState → Kept → List Want
asked_of s u = asked_from s u.first u.objects

-- the wants of a state as the round of a union closes
abbrev pub wants_closed : Kept → SenderState → List Want
wants_closed u s = with_members want_before (asked_of s u) s.wants

-- how many wants are new as the round closes
abbrev pub new_wants : List Marked → ℕ
new_wants [] = 0
new_wants (m ∷ ms) = (length (closed_marks m).wants - length m.wants) + new_wants ms
