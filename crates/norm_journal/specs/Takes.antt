-- Takes in a turn: what the network gives is delivered, until there is none, or 512 were taken.
use Rattle.std.specs.Prelude.{ℕ, ◌+◌, ◌==◌, List, Bool, true, false, Option, None, Some}
use Rattle.std.specs.List.{list_any}
use Rattle.norm_safety.specs.Events.{Delivered}
use Rattle.norm_journal.specs.Draws.{next_draw, draws_after}
use Rattle.norm_journal.specs.InWorld.{at, world_after}
use Rattle.norm_journal.specs.Judged.{Judged}
use Rattle.norm_journal.specs.Places.{Place, Taking, handing}

-- a turn takes at most so many datagrams
abbrev pub most_takes : ℕ
most_takes = 512

-- the parts of a turn of the receivers that the run has, in order of node
abbrev pub receivers_due : Judged → Place
receivers_due j = handing j.nodes

-- what is due after one more take
abbrev pub after_take : ℕ → Judged → Place
after_take taken j = elim (taken + 1 == most_takes) [ true ↦ receivers_due j | false ↦ Taking (taken + 1) ]

-- a receiver of the run
abbrev pub is_receiver : Judged → ℕ → Bool
is_receiver j node = list_any (λ other. other == node) j.nodes

-- A datagram comes to a node: to the sender without a draw, and to a receiver with the next one. A node that the run does
-- not have gets nothing, and uses no draw.
abbrev pub delivered : ℕ → List ℕ → Judged → Judged
delivered node octets j = elim (node == j.profile.sender) [
  | true ↦ world_after (Delivered node octets j.now 0) j
  | false ↦ elim (is_receiver j node) [
    | true ↦ record (world_after (Delivered node octets j.now (next_draw j.draws)) j) { draws = draws_after j.draws }
    | false ↦ j
  ]
]

-- a take that gave a datagram
abbrev pub takes_at : Place → Judged → ℕ → List ℕ → Option Judged
takes_at (Taking taken) j node octets = Some (at (after_take taken j) (delivered node octets j))
takes_at _ j node octets = None

-- a take that gave none
abbrev pub finds_none_at : Place → Judged → Option Judged
finds_none_at (Taking taken) j = Some (at (receivers_due j) j)
finds_none_at _ j = None
