use Rattle.std.proofs.Common.{◌≡◌, ◌≤◌, ap, arith, length, subst, sym}
use Rattle.std.proofs.Math.Nat.{mul-le-mul_right}
use Rattle.gf_field.specs.Symbol.{AreSymbols, solved_sources}
use Rattle.rs_block.specs.Solver.{SolverState}
use Rattle.rs_block.proofs.Functions.{concat-octets}
use Rattle.rs_block.proofs.InRows.{rows_solved}
use Rattle.rs_block.proofs.solve.Solver.solve_rows.Goals as goal

pub solve_pieces-requires-clause-octets : goal.solve_pieces-requires-clause-octets
solve_pieces-requires-clause-octets c = concat-octets c.args.rows.now c.requires.rows.octets

pub solve_pieces-requires-clause-room : goal.solve_pieces-requires-clause-room
solve_pieces-requires-clause-room c =
    let k = ap (λ (s : SolverState). s.k) c.self.view_is in
    let few : length c.args.ids.now ≤ c.self.inside.k = omega (arith, k, c.requires.few) in
    let room = c.self.invariant.aside_room in
    omega (arith, room, mul-le-mul_right c.self.inside.size few)

pub returns-clause-sources : goal.returns-clause-sources
returns-clause-sources c =
    let k = length c.args.ids.now in
    let same : c.self.inside.size ≡ c.args.self.now.size = ap (λ (s : SolverState). s.size) c.self.view_is in
    subst (λ n. c.solve_pieces.new.pieces ≡ solved_sources n c.args.ids.now c.args.rows.now) same
    (rows_solved k c.self.inside.size c.args.ids.now c.args.rows.now c.solve_pieces.new.pieces
    (let few = ap (λ (s : SolverState). s.k) c.self.view_is in omega (arith, few, c.requires.few, c.self.invariant.most))
    c.requires.ids (subst (λ n. AreSymbols k n c.args.rows.now) (sym same) c.requires.rows)
    c.solve_pieces.ensures.symbols c.solve_pieces.ensures.sources)
