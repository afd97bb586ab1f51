use Rattle.std.proofs.Common.{◌≤◌, ap, arith, length}
use Rattle.std.proofs.Math.Nat.{mul-le-mul_right}
use Rattle.rs_block.specs.Solver.{SolverState}
use Rattle.rs_block.proofs.solve.Solver.solve_in.Goals as goal

pub solve_pieces-requires-clause-room : goal.solve_pieces-requires-clause-room
solve_pieces-requires-clause-room c =
    let k = ap (λ (s : SolverState). s.k) c.self.view_is in
    let few : length c.args.ids.now ≤ c.self.inside.k = omega (arith, k, c.requires.few) in
    let room = c.self.invariant.aside_room in
    omega (arith, room, mul-le-mul_right c.self.inside.size few)
