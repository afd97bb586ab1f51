use Rattle.std.proofs.Common.{ap, arith, ◌∙◌, ◌≡◌, ◌+◌, ◌*◌, rules, refl, length, sym, subst, get_or, map}
use Rattle.gf_field.specs.Power.{power}
use Rattle.gf_field.specs.Interpolation.{interpolated}
use Rattle.rs_block.specs.Aside.{LieIn}
use Rattle.rs_block.specs.Column.{column}
use Rattle.rs_block.proofs.InPlace.{AreSolved, lie_still, solved_more, solved_own}
use Rattle.rs_block.proofs.Words.{sources_from_formula}
use Rattle.rs_block.proofs.in_place.put_lacking.Goals as goal
use Rattle.rs_block.proofs.in_place.put_lacking.Goals.{then-ids-i, else-ids-i}

pub loop-j-init : goal.loop-j-init
loop-j-init g c = record {
  solved = record {
    octets = c.requires.octets;
    own = λ m t m_lt t_lt own. refl;
    done = λ m t m_lt. absurd (omega arith);
  };
  symbols = c.requires.symbols;
}

pub returns : goal.returns
returns g c = record {
  sources = λ t lt.
      sources_from_formula (length c.args.ids.now) c.args.size t c.args.ids.now (g.P.Piece.octets c.args.pieces.now) (g.P.Piece.octets c.loop-j.pieces)
      (omega arith) c.requires.ids c.loop-j.invariant.solved.octets
      (λ j below. c.loop-j.invariant.solved.done j t (omega arith) lt);
  symbols = c.loop-j.invariant.symbols;
}

pub loop-j-preserved : goal.loop-j-preserved
loop-j-preserved g c = elim c.if-ids-i.branch [
  | then-ids-i w ↦
      let width : length c.loop-j.symbol ≡ c.args.size = search rules in
      let lie : LieIn (length c.loop-j.symbol) c.args.ids.now (g.P.Piece.octets c.args.pieces.now) (g.P.Piece.octets c.loop-j.pieces) c.args.aside.now =
      subst (λ n. LieIn n c.args.ids.now (g.P.Piece.octets c.args.pieces.now) (g.P.Piece.octets c.loop-j.pieces) c.args.aside.now) (sym width)
      (lie_still c.args.size c.loop-j.j c.args.ids.now (g.P.Piece.octets c.args.pieces.now) (g.P.Piece.octets c.loop-j.pieces) c.args.aside.now c.loop-j.invariant.solved c.requires.lie) in
      record {
        solved = subst (λ pieces. AreSolved c.args.size c.args.ids.now (g.P.Piece.octets c.args.pieces.now) (c.loop-j.j + 1) (g.P.Piece.octets pieces)) (sym w.pieces-is)
            (solved_more c.args.size c.loop-j.j c.args.ids.now (g.P.Piece.octets c.args.pieces.now) (g.P.Piece.octets c.loop-j.pieces) (g.P.Piece.octets w.put.new.pieces) w.recover_from.new.out
            (λ same. w.if-ids-i.true (ap (λ n. get_or c.args.ids.now n 0) c.from-i.ensures ∙ same))
            (λ t lt.
            w.recover_from.ensures (g.P.Piece.octets c.args.pieces.now) c.loop-j.invariant.solved.octets lie t (omega (arith, w.recover_from.auto.out, width))
            ∙ ap (λ n. interpolated (map power c.args.ids.now) (column (length c.args.ids.now) n (g.P.Piece.octets c.args.pieces.now) t) (power c.loop-j.j)) width)
            (λ t lt. ap (λ n. get_or (g.P.Piece.octets w.put.new.pieces) (n * c.args.size + t) 0) (sym c.from-i.ensures) ∙ w.put.ensures.here t lt)
            (λ m t differ lt. w.put.ensures.others m t (λ same. differ (same ∙ c.from-i.ensures)) lt)
            c.loop-j.invariant.solved);
        symbols = subst (g.P.Piece.are_symbols (length c.args.ids.now) c.args.size) (sym w.pieces-is) (w.put.ensures.symbols (length c.args.ids.now) c.loop-j.invariant.symbols);
      }
  | else-ids-i w ↦ record {
    solved = subst (λ pieces. AreSolved c.args.size c.args.ids.now (g.P.Piece.octets c.args.pieces.now) (c.loop-j.j + 1) (g.P.Piece.octets pieces)) (sym w.pieces-is)
        (solved_own c.args.size c.loop-j.j c.args.ids.now (g.P.Piece.octets c.args.pieces.now) (g.P.Piece.octets c.loop-j.pieces) c.requires.ids (omega arith)
        (ap (λ n. get_or c.args.ids.now n 0) (sym c.from-i.ensures) ∙ w.if-ids-i.false) c.loop-j.invariant.solved);
    symbols = subst (g.P.Piece.are_symbols (length c.args.ids.now) c.args.size) (sym w.pieces-is) c.loop-j.invariant.symbols;
  }
]
