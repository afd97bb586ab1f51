use Rattle.std.proofs.Common.{◌≡◌, ◌+◌, ◌*◌, ◌%◌, ◌≤◌, ◌<◌, ◌++◌, ◌∙◌, ap, sym, arith, ℕ, List, length, take, drop}
use Rattle.stream_buffer.specs.RowsState.{RowsState, over}
use Rattle.stream_buffer.proofs.RingLemmas.{length-over, kept_back}
use Rattle.stream_buffer.proofs.RowsLemmas.{many, filled_long, here_fits, after_fill}
use Rattle.stream_buffer.proofs.rows.Rows.fill.Goals as goal

abbrev start : goal.After-self-2-1 → ℕ
start c = c.row_start-start.result + 8 + c.self.inside.filled

-- the ring's octets after the piece was put
abbrev after : goal.After-self-2-1 → List ℕ
after c = take c.self.inside.ring.len (c.put.new.octets ++ drop (length c.put.new.octets) c.self.inside.ring.items)

free : (c : goal.After-self-2-1) → c.self.inside.closed < c.self.inside.first + c.self.inside.room
free c = omega (arith, ap (λ (v : RowsState). v.room) c.self.view_is, ap (λ (v : RowsState). length v.rows) c.self.view_is, many c.self.inside, c.self.invariant.from, c.requires.free)

fits : (c : goal.After-self-2-1) → 8 + c.self.inside.filled + length c.args.piece.now ≤ c.self.inside.size
fits c = omega (arith, ap (λ (v : RowsState). v.size) c.self.view_is, ap (λ (v : RowsState). length v.filling) c.self.view_is, filled_long c.self.inside c.self.invariant, c.requires.fits)

at : (c : goal.After-self-2-1) → start c ≡ c.self.inside.closed % c.self.inside.room * c.self.inside.size + (8 + c.self.inside.filled)
at c = omega (arith, c.row_start-start.ensures.at)

written : (c : goal.After-self-2-1) → after c ≡ over (start c) c.args.piece.now c.self.inside.ring.items
written c =
    kept_back c.put.new.octets c.self.inside.ring.items c.self.inside.ring.len (c.put.auto.octets ∙ ap length c.deref_mut.ensures.value)
    (sym c.deref_mut.ensures.len ∙ ap length c.deref_mut.ensures.value)
    ∙ c.put.ensures ∙ ap (λ (xs : List ℕ). over (start c) c.args.piece.now xs) c.deref_mut.ensures.value

pub invariant_of-self : goal.invariant_of-self
invariant_of-self c = record {
  ring = ap length (written c) ∙ length-over (start c) c.args.piece.now c.self.inside.ring.items (omega (arith, at c, fits c, here_fits c.self.inside c.self.invariant)) ∙ c.self.invariant.ring;
  some = c.self.invariant.some;
  fits = omega (arith, fits c);
  small = c.self.invariant.small;
  from = c.self.invariant.from;
  within = c.self.invariant.within;
}

pub returns : goal.returns
returns c =
    after_fill c.self.inside c.args.piece.now (after c) (start c) c.self.invariant (at c) (written c) (fits c) (free c)
    ∙ ap (λ (v : RowsState). record v { filling = v.filling ++ c.args.piece.now }) c.self.view_is
