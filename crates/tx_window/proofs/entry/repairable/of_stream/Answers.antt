use Rattle.std.proofs.Common.{◌-◌, ◌*◌, refl}
use Rattle.tx_window.proofs.EntryRepairs.{by_segments}
use Rattle.tx_window.proofs.entry.repairable.of_stream.Goals as goal

pub returns-clause-exact : goal.returns-clause-exact
returns-clause-exact c = λ p parts st.
    by_segments p parts c.args.stream.now.buffer c.plan-plan.result c.source_len.result c.from-b.result c.segments.result c.from.result c.first_block-first.result c.from-2.result
    (c.from.result - c.from-2.result * c.from-b.result) c.encoded_len.result c.from-3.result st c.source_len.ensures.sound c.plan-plan.ensures.exact c.first_block-first.ensures
    c.source_len.ensures.exact c.from-b.ensures c.segments.ensures.exact c.from.ensures c.from-2.ensures refl c.encoded_len.ensures c.from-3.ensures
