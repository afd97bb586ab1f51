use Rattle.std.proofs.Common.{arith}
use Rattle.rs_block.proofs.InRows.{row_octet}
use Rattle.rs_block.proofs.piece.RowPiece.symbol.Goals as goal

pub returns-clause-octets : goal.returns-clause-octets
returns-clause-octets c = λ t lt.
    row_octet c.args.size c.args.i t c.args.pieces.now c.index-pieces-i.result c.octets.result.now c.requires.1.1.sizes
    (let count = c.requires.1.1.count in omega (arith, count, c.requires.1.0))
    c.index-pieces-i.is c.octets.ensures lt
