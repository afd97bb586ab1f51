use Rattle.std.proofs.Common.{◌-◌, ◌∙◌, ap, sym, arith, ℕ, List, length, take, drop}
use Rattle.std.specs.Prelude.{slice_get, Some}
use Rattle.stream_buffer.specs.RowsState.{RowsState}
use Rattle.stream_buffer.proofs.RingLemmas.{row_of_number}
use Rattle.stream_buffer.proofs.RowsLemmas.{many}
use Rattle.stream_buffer.proofs.rows.Rows.row.Goals as goal

pub returns-clause-row : goal.returns-clause-row
returns-clause-row c =
    let r = c.self.inside in
    let is = c.part.ensures.part ∙ ap (λ (xs : List ℕ). take r.size (drop c.row_start-start.result xs)) c.deref.ensures.value
    ∙ ap (λ n. take r.size (drop n r.ring.items)) c.row_start-start.ensures.at in
    ap (λ (v : RowsState). slice_get v.rows (c.args.number - v.first)) (sym c.self.view_is)
    ∙ row_of_number r.size r.room r.ring.items r.first r.closed c.args.number
    (omega (arith, ap (λ (v : RowsState). v.first) c.self.view_is, c.requires.from))
    (omega (arith, ap (λ (v : RowsState). v.first) c.self.view_is, ap (λ (v : RowsState). length v.rows) c.self.view_is, many r, c.self.invariant.from, c.requires.to))
    ∙ ap Some (sym is)
