use Rattle.std.proofs.Common.{◌≤◌, ◌+◌, ◌*◌, ◌-◌, ◌%◌, ◌∙◌, ap, sym, arith, ℕ, List, length, take, drop}
use Rattle.std.specs.List.{concat}
use Rattle.std.proofs.Math.Nat.{mul-le-mul_right}
use Rattle.stream_buffer.specs.RowsState.{RowsState}
use Rattle.stream_buffer.proofs.RingLemmas.{run_of}
use Rattle.stream_buffer.proofs.RowsLemmas.{many}
use Rattle.stream_buffer.proofs.rows.Rows.run.Goals as goal

pub part-requires : goal.part-requires
part-requires c =
    let r = c.self.inside in
    let step : (c.args.number % r.room + c.args.count) * r.size ≤ r.room * r.size = mul-le-mul_right r.size (omega (arith, ap (λ (v : RowsState). v.room) c.self.view_is, ap (λ (v : RowsState). c.args.number % v.room) c.self.view_is, c.requires.whole)) in
    omega (arith, step, c.row_start-start.ensures.at, c.self.invariant.ring, ap length c.deref.ensures.value)

pub returns-clause-rows : goal.returns-clause-rows
returns-clause-rows c =
    let r = c.self.inside in
    c.part.ensures.part ∙ ap (λ (xs : List ℕ). take (c.args.count * r.size) (drop c.row_start-start.result xs)) c.deref.ensures.value
    ∙ ap (λ n. take (c.args.count * r.size) (drop n r.ring.items)) c.row_start-start.ensures.at
    ∙ sym (run_of r.size r.room r.ring.items r.first r.closed c.args.number c.args.count c.self.invariant.some
    (omega (arith, ap (λ (v : RowsState). v.first) c.self.view_is, c.requires.from))
    (omega (arith, ap (λ (v : RowsState). v.first) c.self.view_is, ap (λ (v : RowsState). length v.rows) c.self.view_is, many r, c.self.invariant.from, c.requires.to))
    (omega (arith, ap (λ (v : RowsState). v.room) c.self.view_is, ap (λ (v : RowsState). c.args.number % v.room) c.self.view_is, c.requires.whole)))
    ∙ ap (λ (v : RowsState). concat (take c.args.count (drop (c.args.number - v.first) v.rows))) c.self.view_is
