use Rattle.std.proofs.Common.{◌∙◌, ◌<◌, arith, length, sym}
use Rattle.gf_field.proofs.Places.{elements_of_octets}
use Rattle.rs_block.proofs.InRows.{long_at, set_here, set_others, symbols_set}
use Rattle.rs_block.proofs.piece.RowPiece.put.Goals as goal

pub copy-requires : goal.copy-requires
copy-requires c =
    let count = c.requires.within.1.1.count in
    let lt : c.args.i < length c.args.pieces.now = omega (arith, count, c.requires.within.1.0) in
    c.requires.size ∙ sym (long_at c.args.size c.args.pieces.now c.requires.within.1.1.sizes c.args.i c.index-pieces-i.result lt)

pub returns : goal.returns
returns c =
    let count = c.requires.within.1.1.count in
    let sizes = c.requires.within.1.1.sizes in
    let lt : c.args.i < length c.args.pieces.now = omega (arith, count, c.requires.within.1.0) in
    record {
      here = λ t below. set_here c.args.size c.args.i t c.args.pieces.now c.copy.new.self c.args.symbol.now c.copy.ensures c.requires.size sizes lt below;
      others = λ m t differ below. set_others c.args.size c.args.i m t c.args.pieces.now c.copy.new.self c.args.symbol.now c.copy.ensures c.requires.size sizes differ below;
      symbols = λ k are. symbols_set k c.args.size c.args.i c.args.pieces.now c.copy.new.self c.args.symbol.now c.copy.ensures c.requires.size
          (elements_of_octets c.args.symbol.now (λ n. (c.type_inv.symbol n).fits)) are;
    }
