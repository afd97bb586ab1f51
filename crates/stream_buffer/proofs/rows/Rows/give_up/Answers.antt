use Rattle.std.proofs.Common.{◌∙◌, ◌-◌, ◌≤◌, sym, ap, arith, length, drop}
use Rattle.stream_buffer.specs.RowsState.{RowsState, rows_view}
use Rattle.stream_buffer.proofs.RingLemmas.{fewer}
use Rattle.stream_buffer.proofs.RowsLemmas.{many}
use Rattle.stream_buffer.proofs.rows.Rows.give_up.Goals as goal

from : (c : goal.After-self-1) → c.self.inside.first ≤ c.args.first
from c = omega (arith, ap (λ (v : RowsState). v.first) c.self.view_is, c.requires.from)

to : (c : goal.After-self-1) → c.args.first ≤ c.self.inside.closed
to c = omega (arith, ap (λ (v : RowsState). v.first) c.self.view_is, ap (λ (v : RowsState). length v.rows) c.self.view_is, many c.self.inside, c.self.invariant.from, c.requires.to)

pub invariant_of-self : goal.invariant_of-self
invariant_of-self c = record {
  ring = c.self.invariant.ring;
  some = c.self.invariant.some;
  fits = c.self.invariant.fits;
  small = c.self.invariant.small;
  from = to c;
  within = omega (arith, from c, c.self.invariant.within);
}

pub returns : goal.returns
returns c =
    let r = c.self.inside in
    ap (λ rows. record (rows_view r) { first = c.args.first; rows = rows }) (sym (fewer r.size r.room r.ring.items r.first c.args.first r.closed (from c) (to c)))
    ∙ ap (λ (v : RowsState). record v { first = c.args.first; rows = drop (c.args.first - v.first) v.rows }) c.self.view_is
