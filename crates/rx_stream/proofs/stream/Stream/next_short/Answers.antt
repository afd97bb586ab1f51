use Rattle.std.proofs.Common.{◌+◌, ℕ, cond, Option, Some, None, sym, ap, subst, ◌∙◌, arith}
use Rattle.std.specs.Prelude.{nat_lt, unwrap_or}
use Rattle.fec_plan.specs.Partition.{blocks}
use Rattle.norm_receive_rules.specs.Short.{IsShortFrom}
use Rattle.rx_stream.specs.StreamState.{StreamState, alone}
use Rattle.rx_stream.specs.StreamSound.{stream_of}
use Rattle.rx_stream.proofs.ShortLemmas.{behind_short, found_short, short_is}
use Rattle.rx_stream.proofs.StreamLemmas.{stream_plan}
use Rattle.rx_stream.proofs.stream.Stream.next_short.Goals as goal

pub next-requires : goal.next-requires
next-requires c =
    let start = c.self.invariant.shorts.start in
    let at = c.place_of-place.ensures in
    let within = c.is_beyond.ensures.within c.if-is_beyond.false in
    record {
      reached = omega (arith, start, at);
      short = short_is (record { index = c.self.inside.index; fti = c.self.inside.fti; flags = c.self.inside.flags; seen = c.self.inside.seen }) c.self.inside.info c.self.inside.first c.self.inside.symbol c.args.block c.self.inside.ring.items c.self.inside.shorts c.args.self.now c.self.invariant.sound.stream c.self.invariant.sound.blocks c.self.invariant.shorts
          c.self.view_is c.requires.reached (omega (arith, at, within)) c.requires.short;
    }

pub returns-then-is_beyond : goal.returns-then-is_beyond
returns-then-is_beyond c =
    let at = c.place_of-place.ensures in
    let beyond = c.is_beyond.ensures.beyond c.if-is_beyond.true in
    subst (λ (o : StreamState). IsShortFrom (alone o) o.plan (c.args.block + 1) c.first_of.result) c.self.view_is
    (subst (λ (r : Option ℕ). IsShortFrom (alone (stream_of (record { index = c.self.inside.index; fti = c.self.inside.fti; flags = c.self.inside.flags; seen = c.self.inside.seen }) c.self.inside.info c.self.inside.first c.self.inside.symbol c.self.inside.ring.items)) (record { index = c.self.inside.index; fti = c.self.inside.fti; flags = c.self.inside.flags; seen = c.self.inside.seen }) (c.args.block + 1) r) (sym c.first_of.ensures)
    (behind_short (record { index = c.self.inside.index; fti = c.self.inside.fti; flags = c.self.inside.flags; seen = c.self.inside.seen }) c.self.inside.info c.self.inside.first c.self.inside.symbol (c.args.block + 1) c.blocks-blocks.result c.self.inside.ring.items c.self.invariant.sound.stream (let n = c.self.invariant.sound.next in omega (arith, n)) (omega (arith, at, beyond)) (c.blocks-blocks.ensures.exact ∙ ap blocks (c.self.invariant.sound.cut_is ∙ sym (stream_plan (record { index = c.self.inside.index; fti = c.self.inside.fti; flags = c.self.inside.flags; seen = c.self.inside.seen }) c.self.invariant.sound.stream)))))

pub returns : goal.returns
returns c =
    let at = c.place_of-place.ensures in
    let within = c.is_beyond.ensures.within c.if-is_beyond.false in
    subst (λ (o : StreamState). IsShortFrom (alone o) o.plan (c.args.block + 1) c.first_of-2.result) c.self.view_is
    (subst (λ (r : Option ℕ). IsShortFrom (alone (stream_of (record { index = c.self.inside.index; fti = c.self.inside.fti; flags = c.self.inside.flags; seen = c.self.inside.seen }) c.self.inside.info c.self.inside.first c.self.inside.symbol c.self.inside.ring.items)) (record { index = c.self.inside.index; fti = c.self.inside.fti; flags = c.self.inside.flags; seen = c.self.inside.seen }) (c.args.block + 1) r)
    (sym (c.first_of-2.ensures ∙ ap (λ m. cond (nat_lt (unwrap_or c.next.result m) c.blocks-blocks.result) (Some (unwrap_or c.next.result m)) None) c.behind_ring-behind.ensures))
    (found_short (record { index = c.self.inside.index; fti = c.self.inside.fti; flags = c.self.inside.flags; seen = c.self.inside.seen }) c.self.inside.info c.self.inside.first c.self.inside.symbol (c.args.block + 1) c.blocks-blocks.result c.self.inside.ring.items c.self.inside.shorts c.next.result c.self.invariant.sound.stream (let n = c.self.invariant.sound.next in omega (arith, n))
    c.self.invariant.sound.blocks c.self.invariant.shorts (omega (arith, at)) (omega (arith, at, within)) c.next.ensures
    (c.blocks-blocks.ensures.exact ∙ ap blocks (c.self.invariant.sound.cut_is ∙ sym (stream_plan (record { index = c.self.inside.index; fti = c.self.inside.fti; flags = c.self.inside.flags; seen = c.self.inside.seen }) c.self.invariant.sound.stream)))))
