use Rattle.std.proofs.Common.{◌∙◌, sym, ap, arith, length, ◌≡◌}
use Rattle.gf_field.proofs.Places.{length-powers}
use Rattle.rs_block.proofs.encode.rows_of.Goals as goal

pub weigh-requires-clause-count : goal.weigh-requires-clause-count
weigh-requires-clause-count c =
    c.deref_mut.ensures.len ∙ c.in_ok-weights.ensures.len ∙ c.from.ensures
    ∙ sym (length-powers c.args.k) ∙ sym (ap length (c.deref.ensures.value ∙ c.in_ok-places.ensures))

pub weigh-requires-clause-few : goal.weigh-requires-clause-few
weigh-requires-clause-few c =
    let count : length c.deref.result.now ≡ c.args.k = ap length (c.deref.ensures.value ∙ c.in_ok-places.ensures) ∙ length-powers c.args.k in
    omega arith
