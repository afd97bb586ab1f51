use Rattle.std.proofs.Common.{ℕ, ◌≡◌, ◌+◌, ◌-◌, ◌*◌, arith}
use Rattle.rx_object.proofs.FreePlaces.{apart_with, kept_symbols}
use Rattle.rx_object.proofs.block.keep.Goals as goal

pub returns-clause-symbols : goal.returns-clause-symbols
returns-clause-symbols c =
    let start : ℕ = c.free_place-place.result * c.args.size in
    let wide : start + c.args.size - start ≡ c.args.size = omega arith in
    kept_symbols c.args.size c.args.symbol c.free_place-place.result _ c.args.ids.now c.args.row.now c.put_padded.new.symbol c.args.payload.now
    c.requires.row c.free_place-place.ensures.within c.free_place-place.ensures.free c.requires.new wide c.requires.fits c.put_padded.ensures

pub returns-clause-apart : goal.returns-clause-apart
returns-clause-apart c = apart_with _ _ _ c.requires.apart c.requires.new c.free_place-place.ensures.within
