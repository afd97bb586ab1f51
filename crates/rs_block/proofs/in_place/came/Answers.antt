use Rattle.std.proofs.Common.{length, arith}
use Rattle.rs_block.proofs.Formula.{within_symbols}
use Rattle.rs_block.proofs.in_place.came.Goals as goal

pub symbol-requires : goal.symbol-requires
symbol-requires g c = (length c.args.ids.now, (c.requires.within, c.requires.symbols))

pub came_at-requires-clause-room : goal.came_at-requires-clause-room
came_at-requires-clause-room g c =
    within_symbols (length c.args.ids.now) c.args.i c.args.size (length c.args.aside.now) c.requires.within c.requires.room

pub returns-clause-octets : goal.returns-clause-octets
returns-clause-octets g c = λ symbols lie.
    c.came_at.ensures.octets symbols (g.P.Piece.octets c.args.pieces.now) lie (λ t within. c.symbol.ensures.octets t (omega (arith, c.symbol.ensures.len)))
