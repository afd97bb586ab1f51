use Rattle.std.proofs.Common.{◌∙◌, ap, arith, length, get_or, ◌<◌, refl, subst, sym}
use Rattle.rs_block.specs.Aside.{LieIn}
use Rattle.rs_block.proofs.Words.{places_differ, away_from_ids, given_octet}
use Rattle.rs_block.proofs.Formula.{recovered_octet}
use Rattle.rs_block.proofs.in_place.recover_from.Goals as goal

pub put_coefficients-requires-clause-different : goal.put_coefficients-requires-clause-different
put_coefficients-requires-clause-different g c =
    places_differ (length c.args.ids.now) c.args.ids.now c.args.places.now c.requires.ids c.requires.places

pub put_coefficients-requires-clause-away : goal.put_coefficients-requires-clause-away
put_coefficients-requires-clause-away g c =
    away_from_ids c.args.ids.now c.args.places.now c.args.j c.place_of.result c.requires.places
    c.place_of.ensures c.requires.ids.below c.requires.below c.in-None.ensures

pub symbol-requires : goal.symbol-requires
symbol-requires g c = (length c.args.ids.now, (c.in-Some.ensures.0, c.requires.symbols))

pub add_all-requires-clause-symbols : goal.add_all-requires-clause-symbols
add_all-requires-clause-symbols g c = subst (λ n. g.P.Piece.are_symbols (length c.args.ids.now) n c.args.pieces.now) (sym c.fill.auto.self) c.requires.symbols

pub returns-in-Some : goal.returns-in-Some
returns-in-Some g c = λ symbols octets lie t lt.
    let within : t < length c.args.out.now = omega arith in
    ap (λ xs. get_or xs t 0) c.copy_from_slice.ensures.after
    ∙ c.came_at.ensures.octets symbols (g.P.Piece.octets c.args.pieces.now) lie (λ u below. c.symbol.ensures.octets u (omega arith)) t (omega arith)
    ∙ given_octet c.args.ids.now symbols (length c.args.out.now) c.in-Some.i c.args.j t c.requires.ids
    octets c.in-Some.ensures.0 c.in-Some.ensures.1

pub returns-in-None : goal.returns-in-None
returns-in-None g c = λ symbols octets lie t lt.
    recovered_octet c.args.ids.now c.args.places.now c.put_coefficients.new.row symbols
    (get_or c.fill.new.self t 0) (length c.fill.new.self) (length c.args.out.now) c.args.j t c.place_of.result (get_or c.add_all.new.out t 0)
    c.put_coefficients.ensures c.requires.places c.place_of.ensures
    (c.fill.ensures.clones t 0 (omega arith) refl) c.fill.auto.self
    (c.add_all.ensures symbols (subst (λ n. LieIn n c.args.ids.now symbols (g.P.Piece.octets c.args.pieces.now) c.args.aside.now) (sym c.fill.auto.self) lie) t lt)
