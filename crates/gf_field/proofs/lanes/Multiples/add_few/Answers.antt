use Rattle.std.proofs.Common.{◌∙◌, ap, map, take, length}
use Rattle.std.specs.Prelude.{bit_xor}
use lib.Lanes.{zip2}
use Rattle.gf_field.specs.Product.{product}
use Rattle.gf_field.proofs.LaneLemmas.{few_added}
use Rattle.gf_field.proofs.lanes.Multiples.add_few.Goals as goal

pub returns : goal.returns
returns c = λ k t.
    few_added k c.args.dst.now c.args.src.now c.copy_from_slice.new.self c.times.result c.requires.same c.requires.few
    (c.times.ensures k t ∙ ap (map (product k)) c.padded-2.ensures)
    (c.copy_from_slice.ensures.after ∙ ap (λ ds. take (length c.args.dst.now) (zip2 bit_xor ds c.times.result)) c.padded.ensures)
