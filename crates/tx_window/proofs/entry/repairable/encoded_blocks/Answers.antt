use Rattle.std.proofs.Common.{◌≡◌, ◌≤◌, ◌<◌, ◌+◌, ◌-◌, ◌*◌, arith, ap, sym, ◌∙◌}
use Rattle.std.proofs.Math.Nat.{mod-lt}
use Rattle.fec_plan.specs.Partition.{Cut, encoding_symbols}
use Rattle.fec_plan.proofs.PartitionLemmas.{some_blocks_of}
use Rattle.tx_window.proofs.EntryRepairs.{by_sizes}
use Rattle.tx_window.proofs.entry.repairable.encoded_blocks.Goals as goal

pub returns-clause-exact : goal.returns-clause-exact
returns-clause-exact c =
    let cut = c.args.held.now.cut in
    let blocks = c.blocks-blocks.result in
    let symbols = c.div_ceil-symbols.result in
    let same = c.plan-plan.ensures in
    let some = some_blocks_of c.plan-plan.result c.blocks-blocks.ensures.sound in
    let less = mod-lt symbols (let z : 0 < blocks = omega (arith, some, c.blocks-blocks.ensures.exact) in z) in
    ap (λ k. c.from-2.result * c.from-3.result + k * c.from-5.result) (c.from-4.ensures ∙ ap (λ k. blocks - k) (sym c.from-2.ensures))
    ∙ by_sizes cut c.len.result c.e.result c.from.result symbols blocks c.from-2.result c.from-3.result c.from-5.result c.len.ensures.object c.from.ensures
    (c.e.ensures.exact ∙ ap (λ (k : Cut). k.e) same) c.div_ceil-symbols.ensures (c.blocks-blocks.ensures.exact ∙ ap Rattle.fec_plan.specs.Partition.blocks same) c.from-2.ensures
    (let z : c.from-2.result ≤ blocks = omega (arith, less, c.from-2.ensures) in z)
    (c.from-3.ensures ∙ c.encoded_len.ensures ∙ ap (λ (k : Cut). encoding_symbols k 0) same)
    (c.from-5.ensures ∙ c.encoded_len-2.ensures ∙ ap (λ (k : Cut). encoding_symbols k (blocks - 1)) same)
