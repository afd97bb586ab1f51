use Rattle.std.proofs.Common.{ℕ, cond, Option, Some, None, sym, ap, subst, ◌∙◌, arith}
use Rattle.std.specs.Prelude.{nat_lt, unwrap_or}
use Rattle.fec_plan.specs.Partition.{blocks}
use Rattle.norm_receive_rules.specs.Short.{IsShortFrom}
use Rattle.rx_stream.specs.StreamState.{StreamState, alone}
use Rattle.rx_stream.specs.StreamSound.{stream_of}
use Rattle.rx_stream.proofs.ShortLemmas.{found_short}
use Rattle.rx_stream.proofs.StreamLemmas.{stream_plan}
use Rattle.short_blocks.specs.State.{IsFirstFrom}
use Rattle.rx_stream.proofs.stream.Stream.first_short.Goals as goal

pub returns : goal.returns
returns c =
    subst (λ (o : StreamState). IsShortFrom (alone o) o.plan o.point.block c.first_of.result) c.self.view_is
    (subst (λ (r : Option ℕ). IsShortFrom (alone (stream_of (record { index = c.self.inside.index; fti = c.self.inside.fti; flags = c.self.inside.flags; seen = c.self.inside.seen }) c.self.inside.info c.self.inside.first c.self.inside.symbol c.self.inside.ring.items)) (record { index = c.self.inside.index; fti = c.self.inside.fti; flags = c.self.inside.flags; seen = c.self.inside.seen }) c.self.inside.first r)
    (sym (c.first_of.ensures ∙ ap (λ m. cond (nat_lt (unwrap_or c.first.result m) c.blocks-blocks.result) (Some (unwrap_or c.first.result m)) None) c.behind_ring-behind.ensures))
    (found_short (record { index = c.self.inside.index; fti = c.self.inside.fti; flags = c.self.inside.flags; seen = c.self.inside.seen }) c.self.inside.info c.self.inside.first c.self.inside.symbol c.self.inside.first c.blocks-blocks.result c.self.inside.ring.items c.self.inside.shorts c.first.result c.self.invariant.sound.stream (let n = c.self.invariant.sound.next in omega (arith, n))
    c.self.invariant.sound.blocks c.self.invariant.shorts (omega arith) (omega arith) (subst (λ m. IsFirstFrom c.self.inside.shorts m c.first.result) c.self.invariant.shorts.start c.first.ensures)
    (c.blocks-blocks.ensures.exact ∙ ap blocks (c.self.invariant.sound.cut_is ∙ sym (stream_plan (record { index = c.self.inside.index; fti = c.self.inside.fti; flags = c.self.inside.flags; seen = c.self.inside.seen }) c.self.invariant.sound.stream)))))
