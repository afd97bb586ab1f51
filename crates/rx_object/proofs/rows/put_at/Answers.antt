use Rattle.std.proofs.Common.{◌≡◌, ◌*◌, ℕ, arith, sym, subst, ap, ◌∙◌}
use Rattle.fec_plan.specs.Partition.{Cut}
use Rattle.norm_order.specs.Symbols.{padded}
use Rattle.rs_block.specs.Solver.{SolverState}
use Rattle.rx_object.specs.Places.{AreApart}
use Rattle.rx_object.proofs.Cuts.{few_sources}
use Rattle.rx_object.proofs.RowLemmas.{put_symbols, ids_there, ids_elsewhere, ordered, ids_within, octets_within, part_long, row_long, starts_within, sources_are}
use Rattle.rx_object.proofs.rows.put_at.Goals as goal

pub slice_bounds-own-end : goal.slice_bounds-own-end
slice_bounds-own-end c =
    let within = ids_within c.args.plan.now c.args.block c.end_of-end.result c.args.ids.now c.e.ensures.sound c.requires.object c.requires.block c.end_of-end.ensures c.requires.ids in
    omega (arith, within)

pub put-requires-clause-most : goal.put-requires-clause-most
put-requires-clause-most c =
    let cut : Cut = c.args.plan.now in
    let within = ids_within cut c.args.block c.end_of-end.result c.args.ids.now c.e.ensures.sound c.requires.object c.requires.block c.end_of-end.ensures c.requires.ids in
    let long = part_long c.start_of-start.result c.end_of-end.result c.args.ids.now within in
    let count = sources_are cut c.args.block c.start_of-start.result c.end_of-end.result c.start_of-start.ensures.exact c.end_of-end.ensures in
    let few = few_sources cut c.args.block c.e.ensures.sound c.requires.object in
    let most = c.e.ensures.sound.most_b in
    omega (arith, long, count, few, most)

pub put-requires-clause-row : goal.put-requires-clause-row
put-requires-clause-row c =
    let s : ℕ = c.start_of-start.result in
    let e : ℕ = c.end_of-end.result in
    let z : ℕ = c.from-size.result in
    let cut : Cut = c.args.plan.now in
    let wide : z ≡ cut.e = c.from-size.ensures ∙ c.e.ensures.exact in
    let within = octets_within cut c.args.block e z c.args.octets.now c.e.ensures.sound c.requires.object c.requires.block c.end_of-end.ensures wide c.requires.octets in
    let places = ids_within cut c.args.block e c.args.ids.now c.e.ensures.sound c.requires.object c.requires.block c.end_of-end.ensures c.requires.ids in
    part_long (s * z) (e * z) c.args.octets.now within
    ∙ row_long s e z (ordered cut c.args.block s e c.start_of-start.ensures.exact c.end_of-end.ensures)
    ∙ ap (λ n. n * z) (sym (part_long s e c.args.ids.now places))

pub put-requires-clause-size : goal.put-requires-clause-size
put-requires-clause-size c = ap (λ (r : SolverState). r.size) c.requires.solver ∙ sym (c.from-size.ensures ∙ c.e.ensures.exact)

pub put-requires-clause-few : goal.put-requires-clause-few
put-requires-clause-few c =
    let cut : Cut = c.args.plan.now in
    let within = ids_within cut c.args.block c.end_of-end.result c.args.ids.now c.e.ensures.sound c.requires.object c.requires.block c.end_of-end.ensures c.requires.ids in
    let long = part_long c.start_of-start.result c.end_of-end.result c.args.ids.now within in
    let count = sources_are cut c.args.block c.start_of-start.result c.end_of-end.result c.start_of-start.ensures.exact c.end_of-end.ensures in
    let few = few_sources cut c.args.block c.e.ensures.sound c.requires.object in
    let room = ap (λ (r : SolverState). r.k) c.requires.solver in
    omega (arith, long, count, few, room)

pub returns-clause-symbols : goal.returns-clause-symbols
returns-clause-symbols c =
    let s : ℕ = c.start_of-start.result in
    let e : ℕ = c.end_of-end.result in
    let z : ℕ = c.from-size.result in
    let cut : Cut = c.args.plan.now in
    let wide : z ≡ cut.e = c.from-size.ensures ∙ c.e.ensures.exact in
    let within = octets_within cut c.args.block e z c.args.octets.now c.e.ensures.sound c.requires.object c.requires.block c.end_of-end.ensures wide c.requires.octets in
    let places = ids_within cut c.args.block e c.args.ids.now c.e.ensures.sound c.requires.object c.requires.block c.end_of-end.ensures c.requires.ids in
    put_symbols cut c.args.block c.args.symbol s e z c.args.ids.now c.args.octets.now c.put.new.ids c.put.new.row (padded z c.args.payload.now) (padded cut.e c.args.payload.now) c.requires.object
    c.start_of-start.ensures.exact c.end_of-end.ensures wide (ap (λ n. padded n c.args.payload.now) wide) places within (c.put.auto.ids ∙ part_long s e c.args.ids.now places)
    (c.put.auto.row ∙ part_long (s * z) (e * z) c.args.octets.now within) c.put.ensures.symbols

pub returns-clause-others : goal.returns-clause-others
returns-clause-others c = λ b other.
    let s : ℕ = c.start_of-start.result in
    let e : ℕ = c.end_of-end.result in
    let cut : Cut = c.args.plan.now in
    let places = ids_within cut c.args.block e c.args.ids.now c.e.ensures.sound c.requires.object c.requires.block c.end_of-end.ensures c.requires.ids in
    ids_elsewhere cut c.args.block b s e c.args.ids.now c.put.new.ids c.requires.object other c.start_of-start.ensures.exact c.end_of-end.ensures
    (starts_within cut c.args.block s e c.args.ids.now c.start_of-start.ensures.exact c.end_of-end.ensures places) (c.put.auto.ids ∙ part_long s e c.args.ids.now places)

pub returns-clause-apart : goal.returns-clause-apart
returns-clause-apart c =
    let s : ℕ = c.start_of-start.result in
    let e : ℕ = c.end_of-end.result in
    let cut : Cut = c.args.plan.now in
    let places = ids_within cut c.args.block e c.args.ids.now c.e.ensures.sound c.requires.object c.requires.block c.end_of-end.ensures c.requires.ids in
    subst AreApart (sym (ids_there cut c.args.block s e c.args.ids.now c.put.new.ids c.start_of-start.ensures.exact c.end_of-end.ensures
    (starts_within cut c.args.block s e c.args.ids.now c.start_of-start.ensures.exact c.end_of-end.ensures places) (c.put.auto.ids ∙ part_long s e c.args.ids.now places)))
    c.put.ensures.apart
