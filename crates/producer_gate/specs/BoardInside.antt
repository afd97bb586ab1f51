-- What the fields of a board, a reader and a front stand for, and what holds of them.
use Rattle.std.specs.Prelude.{◌≡◌, ◌≤◌, [], length, map}
use Rattle.std.specs.Arc.{arc_value}
use Rattle.producer_gate.specs.declared.board.Board.TheInside as board
use Rattle.producer_gate.specs.declared.board.BoardReader.TheInside as reader
use Rattle.producer_gate.specs.declared.board.Front.TheInside as front
use Rattle.producer_gate.specs.Boards.{BoardState, ReaderState, FrontState}
use Rattle.producer_gate.specs.Entries.{entry_in}
use Rattle.producer_gate.specs.Places.{IsAt}
use Rattle.producer_gate.specs.Plays.{IsWriter, IsReader, own_in, known_in}

abbrev pub board_state : board.Inside → BoardState
board_state b = record { id = b.place.table_id; entries = map entry_in (own_in b.place.me.0) }

-- the seat writes, and the count is that of the entries
abbrev pub IsBoard : board.Inside → Type 0
IsBoard b =
    IsAt (arc_value b.words).shared.table_id b.place × IsWriter b.place.me.0
    × (b.count ≡ length (own_in b.place.me.0)) × (b.count ≤ 4096)

abbrev pub reader_state : reader.Inside → ReaderState
reader_state r = record { board = r.place.table_id; known = map entry_in (known_in r.place.me.0) }

-- the seat reads
abbrev pub IsBoardReader : reader.Inside → Type 0
IsBoardReader r = IsAt (arc_value r.words).shared.table_id r.place × IsReader r.place.me.0

abbrev pub front_state : front.Inside → FrontState
front_state f = record { board = f.place.table_id; entries = map entry_in (known_in f.place.me.0) }

-- the note is at rest, and the count is that of the entries
abbrev pub IsFrontSeat : front.Inside → Type 0
IsFrontSeat f = (f.place.me.1 ≡ []) × (f.count ≡ length (known_in f.place.me.0))
