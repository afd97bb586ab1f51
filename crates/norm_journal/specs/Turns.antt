-- Where a run begins and ends, and its turns.
use Rattle.std.specs.Prelude.{ℕ, ◌+◌, ◌*◌, ◌==◌, ◌&&◌, Bool, true, false, not, nat_le, Option, None, Some}
use Rattle.norm_journal.specs.InWorld.{at}
use Rattle.norm_journal.specs.Judged.{Judged, is_done}
use Rattle.norm_journal.specs.Places.{Place, Starting, Between, Over, command_due}

-- A turn's moment: its number times the step; where the step is 0 the clock gives it, and it does not fall.
abbrev pub is_moment : Judged → ℕ → ℕ → Bool
is_moment j turn now = elim (j.profile.step == 0) [ true ↦ nat_le j.now now | false ↦ now == turn * j.profile.step ]

-- the network is started
abbrev pub starts_at : Place → Judged → Option Judged
starts_at Starting j = Some (at Between j)
starts_at _ j = None

-- a turn begins
abbrev pub in_turn : ℕ → ℕ → Judged → Judged
in_turn turn now j = record j { turn = turn; now = now; place = command_due j.waiting j.left }

-- the next turn begins, unless the last one was done
abbrev pub turns_at : Place → Judged → ℕ → ℕ → Option Judged
turns_at Between j turn now = elim (turn == j.turn + 1 && is_moment j turn now && not (is_done j)) [
  | true ↦ Some (in_turn turn now j)
  | false ↦ None
]
turns_at _ j turn now = None

-- the summary, where the last turn was done
abbrev pub ends_at : Place → Judged → Option Judged
ends_at Between j = elim (is_done j) [ true ↦ Some (at Over j) | false ↦ None ]
ends_at _ j = None
