use Rattle.std.proofs.Common.{ℕ, ◌≤◌, refl, subst}
use Rattle.fec_plan.specs.Partition.{Cut, IsSound, encoding_symbols}
use Rattle.tx_window.proofs.EntryStreams.{stream_past}
use Rattle.tx_window.proofs.entry.stream_symbol.Goals as goal

pub returns-then-symbol-encoded_len : goal.returns-then-symbol-encoded_len
returns-then-symbol-encoded_len c = λ p parts st.
    let s = c.args.stream.now.buffer in
    stream_past p parts s c.args.block c.args.symbol c.args.out.now c.args.out.now st (subst IsSound c.plan-plan.ensures.exact c.e.ensures.sound)
    (subst (λ (k : Cut). encoding_symbols k c.args.block ≤ c.args.symbol) c.plan-plan.ensures.exact
    (subst (λ (n : ℕ). n ≤ c.args.symbol) c.encoded_len.ensures c.if-symbol-encoded_len.true)) refl
