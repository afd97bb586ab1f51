-- What a squelch makes lost (RFC 5740 section 5.4.3).
use Rattle.std.specs.Prelude.{ℕ, zero, suc, ◌-◌, ◌==◌, ◌&&◌, [], ◌∷◌, ◌++◌, Bool, true, false, nat_lt, None, Some, is_none}
use Rattle.norm_base.specs.Settings.{Settings}
use Rattle.fec_plan.specs.Points.{Point}
use Rattle.norm_order.specs.declared.up.Up.TheVariants as up
use Rattle.norm_receive_rules.specs.Holding.{Holding}
use Rattle.norm_receive_rules.specs.Plans.{says_stream, plan_of}
use Rattle.norm_receive_rules.specs.HandingUp.{handed, after_object, next_segment, handed_up}

-- the object at the hand-up point is lost, or the rest of it
abbrev pub loses_one : Holding → Holding
loses_one s =
    let index = s.point.index in
    record (handed (up.Lost index ∷ []) (after_object index) s) { lost = s.lost ++ index ∷ [] }

-- Up to n objects before this index, in order: each is handed up where it is whole, of a stream the segments that are
-- there next, and what is left is lost.
unfoldable pub loses_before : ℕ → Settings → ℕ → Holding → Holding
loses_before zero p index s = handed_up p s
loses_before (suc n) p index s =
    let s' = handed_up p s in
    elim (nat_lt s'.point.index index) [ true ↦ loses_before n p index (loses_one s') | false ↦ s' ]

-- A stream's next segment is in a block that was dropped, and is not there; or of an object without a plan some blocks
-- were dropped, so that it is a stream.
abbrev pub is_cut_off : Holding → Point → Bool
is_cut_off s first = elim (plan_of s s.point.index) [
  | Some plan ↦ says_stream plan.flags && nat_lt s.point.block first.block && is_none (next_segment s plan)
  | None ↦ nat_lt 0 first.block
]

-- the object at the hand-up point, where the window begins within it
abbrev pub loses_at : Settings → Point → Holding → Holding
loses_at p first s = elim (s.point.index == first.index && is_cut_off s first) [
  | true ↦ handed_up p (loses_one s)
  | false ↦ s
]

-- The sender's window begins at this point.
abbrev pub squelched : Settings → Point → Holding → Holding
squelched p first s = loses_at p first (loses_before (first.index - s.point.index) p first.index s)
