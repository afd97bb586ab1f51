use Rattle.std.proofs.Common.{◌+◌, subst, arith}
use Rattle.std.specs.Prelude.{option_copied}
use Rattle.norm_receive_rules.specs.HandingUp.{next_segment}
use Rattle.rx_stream.specs.BlockMoves.{IsRow}
use Rattle.rx_stream.specs.StreamState.{StreamState, alone}
use Rattle.rx_stream.proofs.StreamLemmas.{next_row}
use Rattle.rx_stream.proofs.stream.Stream.next.Goals as goal

pub returns-clause-coded : goal.returns-clause-coded
returns-clause-coded c =
    subst (λ (o : StreamState). IsRow (o.plan.fti.e + 8) (next_segment (alone o) o.plan) (option_copied c.row.result)) c.self.view_is
    (next_row (record { index = c.self.inside.index; fti = c.self.inside.fti; flags = c.self.inside.flags; seen = c.self.inside.seen }) c.self.inside.info c.self.inside.first c.self.inside.symbol c.self.inside.ring.items c.index.result.now (option_copied c.row.result) c.self.invariant.sound.stream c.self.invariant.sound.blocks
    (let n = c.self.invariant.sound.some in omega (arith, n)) c.index.ensures c.row.ensures.coded)
