-- Outcomes of watermarks, as a journal tells them and a board has them.
use Rattle.std.specs.Prelude.{ℕ, List, ◌++◌, map}
use Rattle.norm_journal.specs.Projections.{outcomes_in}
use Rattle.norm_journal.specs.declared.event.Event.{Event}
use Rattle.norm_send_rules.specs.declared.news.Outcome.{Outcome}
use Rattle.producer_gate.specs.Boards.{BoardState}
use Rattle.producer_gate.specs.Entries.{Entry, entry}

-- a told outcome, as an entry of its mark
abbrev pub entry_of : ℕ × Outcome → Entry
entry_of told = entry told.0 told.1

-- one entry for each outcome that a journal tells, in their order
abbrev pub entries_in : List Event → List Entry
entries_in events = map entry_of (outcomes_in events)

-- the board, with these behind its entries
abbrev pub posting : BoardState → List Entry → BoardState
posting b entries = record b { entries = b.entries ++ entries }
