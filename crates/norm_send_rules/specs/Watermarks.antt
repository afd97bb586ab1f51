-- Watermarks and what confirms them (RFC 5740 section 5.5.3).
use Rattle.std.specs.Prelude.{ℕ, ◌==◌, ◌&&◌, List, length, map, filter, find, fold, min, Bool, true, false, not, nat_lt, nat_le, is_none, Option, None, Some, if◌then◌else◌}
use Rattle.std.specs.List.{list_all, list_any}
use Rattle.fec_plan.specs.declared.position.Position.{Position}
use Rattle.fec_plan.specs.Points.{reaches}
use Rattle.norm_order.specs.Sets.{with_member}
use Rattle.norm_send_rules.specs.SenderState.{SenderState, Listing, Watermark}
use Rattle.norm_send_rules.specs.declared.news.Outcome.{Outcome}
use Rattle.norm_send_rules.specs.declared.news.Outcome.TheVariants.{Open, Satisfied}

-- the members: the receivers that were not struck, in order
abbrev pub members : SenderState → List ℕ
members s = map (λ (l : Listing). l.node) s.listings

-- the node is a member
abbrev pub has_member : ℕ → SenderState → Bool
has_member node s = list_any (λ (l : Listing). l.node == node) s.listings

-- a member is listed past a position, or further
abbrev pub is_past : Position → Listing → Bool
is_past at listing = elim listing.past [ Some past ↦ reaches past at | None ↦ false ]

-- the members that are not listed past a position, in order
abbrev pub pending : SenderState → Position → List ℕ
pending s at = map (λ (l : Listing). l.node) (filter (λ l. not (is_past at l)) s.listings)

-- every member is listed past a position
abbrev pub all_past : SenderState → Position → Bool
all_past s at = list_all (is_past at) s.listings

-- how many members are listed past a position
abbrev pub count_past : SenderState → Position → ℕ
count_past s at = length (filter (is_past at) s.listings)

-- how many of so many members have to be listed: so many as the quorum says, and all where it says nothing or more than there are
abbrev pub needed_among : ℕ → Option ℕ → ℕ
needed_among members quorum = elim quorum [ Some q ↦ min q members | None ↦ members ]

-- how many members have to be listed
abbrev pub needed : SenderState → Option ℕ → ℕ
needed s quorum = needed_among (length s.listings) quorum

-- enough members are listed past a watermark
abbrev pub is_met : SenderState → Watermark → Bool
is_met s w = nat_le (needed s w.quorum) (count_past s w.at)

-- a watermark did not end
abbrev pub is_open : Watermark → Bool
is_open w = is_none w.ended

-- the open watermarks, the oldest first
abbrev pub open_watermarks : SenderState → List Watermark
open_watermarks s = filter is_open s.watermarks

-- the oldest open watermark
abbrev pub oldest : SenderState → Option Watermark
oldest s = find is_open s.watermarks

-- the two states have the same oldest watermark, or the second has none
abbrev pub keeps_oldest : SenderState → SenderState → Bool
keeps_oldest old new = elim (oldest new) [
  | Some w ↦ elim (oldest old) [ Some v ↦ v.mark == w.mark | None ↦ false ]
  | None ↦ true
]

-- The count of flushes begins anew where another watermark became the oldest. One that is satisfied as it is made never is.
abbrev pub counted_anew : SenderState → SenderState → SenderState
counted_anew old new = elim (keeps_oldest old new) [ true ↦ new | false ↦ record new { flushes = 0 } ]

-- a watermark with this outcome
abbrev pub ended_with : Outcome → Watermark → Watermark
ended_with outcome w = record w { ended = Some outcome }

-- the numbers of the watermarks that ended, to be told in order
abbrev pub told_later : List Watermark → List ℕ → List ℕ
told_later ended untold = fold (λ marks w. with_member nat_lt w.mark marks) untold ended

-- each open watermark of a test ends with its outcome, and that is to be told
abbrev pub end_where : (Watermark → Bool) → (Watermark → Outcome) → SenderState → SenderState
end_where test outcome s = record s {
  watermarks = map (λ w. if is_open w && test w then ended_with (outcome w) w else w) s.watermarks;
  untold_marks = told_later (filter (λ w. is_open w && test w) s.watermarks) s.untold_marks;
}

-- An open watermark is satisfied where enough members are listed past it.
abbrev pub settled : SenderState → SenderState
settled s = end_where (is_met s) (λ w. Satisfied) s

-- the watermark with this number
abbrev pub watermark_of : SenderState → ℕ → Option Watermark
watermark_of s mark = find (λ (w : Watermark). w.mark == mark) s.watermarks

-- what became of a watermark, and how many members are left
abbrev pub outcome_of : SenderState → Watermark → Outcome
outcome_of s w = elim w.ended [ Some outcome ↦ outcome | None ↦ Open (length (pending s w.at)) ]
