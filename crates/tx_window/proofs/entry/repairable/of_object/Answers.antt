use Rattle.std.proofs.Common.{ap, sym, ◌∙◌, arith}
use Rattle.tx_window.proofs.EntryRepairs.{object_has, info_count}
use Rattle.tx_window.proofs.entry.repairable.of_object.Goals as goal

pub returns-then-not-has_info-clause-exact : goal.returns-then-not-has_info-clause-exact
returns-then-not-has_info-clause-exact c = λ r is.
    let info = ap info_count (sym c.has_info.ensures ∙ c.if-not-has_info.true) in
    omega (arith, c.encoded_blocks-encoded.ensures.exact, object_has r c.args.held.now is, info)

pub returns-clause-exact : goal.returns-clause-exact
returns-clause-exact c = λ r is.
    let info = ap info_count (sym c.has_info.ensures ∙ c.if-not-has_info.false) in
    omega (arith, c.encoded_blocks-encoded.ensures.exact, object_has r c.args.held.now is, info)
