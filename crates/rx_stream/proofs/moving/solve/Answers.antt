use Rattle.std.proofs.Common.{ap, subst, sym, ◌∙◌}
use Rattle.gf_field.specs.Symbol.{AreIds, AreSymbols, solved_sources}
use Rattle.rx_stream.specs.SameBlock.{SameBlock}
use Rattle.rx_stream.proofs.moving.solve.Goals as goal

pub solve_rows-requires-clause-ids : goal.solve_rows-requires-clause-ids
solve_rows-requires-clause-ids c =
    let k = c.args.solver.now.k in
    let moved : SameBlock k c.args.solver.now.size c.copy_from_slice.new.self c.args.rows.now c.move_all_home.new.ids c.move_all_home.new.rows =
    c.move_all_home.ensures k c.args.solver.now.size c.requires.few (subst (AreIds k 255) (sym c.copy_from_slice.ensures.after) c.requires.ids) c.requires.rows in
    subst (λ n. AreIds n 255 c.move_all_home.new.ids) (sym moved.ids_are.count) moved.ids_are

pub solve_rows-requires-clause-rows : goal.solve_rows-requires-clause-rows
solve_rows-requires-clause-rows c =
    let k = c.args.solver.now.k in
    let moved : SameBlock k c.args.solver.now.size c.copy_from_slice.new.self c.args.rows.now c.move_all_home.new.ids c.move_all_home.new.rows =
    c.move_all_home.ensures k c.args.solver.now.size c.requires.few (subst (AreIds k 255) (sym c.copy_from_slice.ensures.after) c.requires.ids) c.requires.rows in
    subst (λ n. AreSymbols n c.args.solver.now.size c.move_all_home.new.rows) (sym moved.ids_are.count) moved.symbols_are

pub returns-clause-rows : goal.returns-clause-rows
returns-clause-rows c =
    let k = c.args.solver.now.k in
    let moved : SameBlock k c.args.solver.now.size c.copy_from_slice.new.self c.args.rows.now c.move_all_home.new.ids c.move_all_home.new.rows =
    c.move_all_home.ensures k c.args.solver.now.size c.requires.few (subst (AreIds k 255) (sym c.copy_from_slice.ensures.after) c.requires.ids) c.requires.rows in
    c.solve_rows.ensures.sources ∙ moved.sources ∙ ap (λ xs. solved_sources c.args.solver.now.size xs c.args.rows.now) c.copy_from_slice.ensures.after
