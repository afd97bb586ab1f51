-- How the watermarks of a book change.
use Rattle.std.specs.Prelude.{ℕ, ◌==◌, ◌&&◌, not, nat_le, List, [], ◌∷◌, length, map, filter, find, Bool, true, false, is_none, is_some, Option, None, Some, option_and_then}
use Rattle.fec_plan.specs.declared.position.Position.{Position}
use Rattle.norm_send_rules.specs.SenderState.{Listing}
use Rattle.norm_send_rules.specs.Watermarks.{is_past, needed_among}
use Rattle.norm_send_rules.specs.declared.news.Outcome.{Outcome}
use Rattle.norm_send_rules.specs.declared.news.Outcome.TheVariants.{Open, Satisfied, Expired, Cut}
use Rattle.mark_book.specs.BookState.{Kept}

-- the nodes of the listings that are not past a position, in their order
abbrev pub left_of : List Listing → Position → List ℕ
left_of listings at = map (λ (l : Listing). l.node) (filter (λ l. not (is_past at l)) listings)

-- how many these are
abbrev pub left_count : List Listing → Position → ℕ
left_count listings at = length (filter (λ l. not (is_past at l)) listings)

-- how many are past a position
abbrev pub past_count : List Listing → Position → ℕ
past_count listings at = length (filter (is_past at) listings)

-- what the first listing of a node says
abbrev pub past_in : List Listing → ℕ → Option Position
past_in listings node = option_and_then (λ (l : Listing). l.past) (find (λ l. l.node == node) listings)

-- enough listings are past a position
abbrev pub is_met_by : List Listing → Option ℕ → Position → Bool
is_met_by listings quorum at = nat_le (needed_among (length listings) quorum) (past_count listings at)

-- a kept watermark that is open and passes a test ends with its outcome, which is to be told
abbrev pub ended_where : (Kept → Bool) → (Kept → Outcome) → Kept → Kept
ended_where test outcome k = elim (is_none k.ended && test k) [
  | true ↦ record k { ended = Some (outcome k); untold = true }
  | false ↦ k
]

-- a watermark of which all is done: it ended, and that was told
abbrev pub is_finished : Kept → Bool
is_finished k = is_some k.ended && not k.untold

-- how many watermarks are open
abbrev pub open_count : List Kept → ℕ
open_count watermarks = length (filter (λ k. is_none k.ended) watermarks)

-- satisfied, where it is open and enough members are listed past it
abbrev pub settled_by : List Listing → Kept → Kept
settled_by listings k = ended_where (λ k. is_met_by listings k.quorum k.at) (λ k. Satisfied) k

-- expired, where it is open and has this number
abbrev pub expired_by : List Listing → ℕ → Kept → Kept
expired_by listings mark k =
    ended_where (λ k. k.mark == mark) (λ k. Expired (left_count listings k.at)) k

-- cut, where it is open
abbrev pub cut_off : Kept → Kept
cut_off k = ended_where (λ k. true) (λ k. Cut) k

-- the outcome of a kept watermark, or how many members are left
abbrev pub outcome_by : List Listing → Kept → Outcome
outcome_by listings k = elim k.ended [ Some outcome ↦ outcome | None ↦ Open (left_count listings k.at) ]

-- a watermark as it is made
abbrev pub opened : ℕ → Position → Option ℕ → Kept
opened mark at quorum = record { mark = mark; at = at; quorum = quorum; ended = None; untold = false }

-- the first watermark whose outcome is to be told is told
abbrev pub told_first : List Kept → List Kept
told_first [] = []
told_first (k ∷ ks) = elim k.untold [ true ↦ record k { untold = false } ∷ ks | false ↦ k ∷ told_first ks ]
