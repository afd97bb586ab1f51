use Rattle.std.proofs.Common.{◌≡◌, ◌+◌, replicate, sym, ap, ◌∙◌, arith}
use Rattle.fec_plan.specs.Partition.{Cut, source_symbols}
use Rattle.norm_receive_rules.specs.Holding.{new_plan}
use Rattle.rx_stream.specs.BlockState.{empty_block}
use Rattle.rx_stream.proofs.SegmentLemmas.{sound_new}
use Rattle.rx_stream.proofs.ShortLemmas.{shorts_new}
use Rattle.short_blocks.specs.State.{all_short}
use Rattle.rx_stream.proofs.StreamLemmas.{new_stream}
use Rattle.rx_stream.proofs.stream.Stream.new.Goals as goal

pub returns : goal.returns
returns c =
    new_stream (new_plan c.args.index c.args.fti.now c.args.flags) c.source_len-2.result (c.from-size.result + 8) c.args.room c.fill.new.ring.items
    (c.fill.ensures ∙ ap (λ n. replicate n (empty_block c.source_len-2.result (c.from-size.result + 8))) c.from-2.ensures)

pub invariant_of-result : goal.invariant_of-result
invariant_of-result c =
    let b : c.source_len-2.result ≡ c.args.fti.now.b = c.source_len-2.ensures.exact ∙ ap (λ (x : Cut). source_symbols x 0) c.requires.cut in
    let e : c.e.result ≡ c.args.fti.now.e = c.e.ensures.exact ∙ ap (λ (x : Cut). x.e) c.requires.cut in
    let same : c.source_len.result ≡ c.source_len-2.result = c.source_len.ensures.exact ∙ ap (λ (x : Cut). source_symbols x 0) c.requires.cut ∙ sym b in
    record {
      sound =
          sound_new (new_plan c.args.index c.args.fti.now c.args.flags) c.args.plan.now c.source_len-2.result (c.from-size.result + 8) c.args.room c.fill.new.ring.items c.in_ok-spares.spares.items
          c.requires.stream c.requires.cut c.e.ensures.sound (let s = c.e.ensures.sound in let k = ap (λ (x : Cut). x.b) c.requires.cut in let least = s.least_b in omega (arith, k, least)) c.requires.some b
          (omega (arith, e, c.from-size.ensures))
          (c.fill.ensures ∙ ap (λ n. replicate n (empty_block c.source_len-2.result (c.from-size.result + 8))) c.from-2.ensures)
          (c.in_ok-spares.ensures.count ∙ same) c.in_ok-spares.ensures.sizes;
      shorts = shorts_new c.source_len-2.result (c.from-size.result + 8) c.args.room c.fill.new.ring.items c.in_ok-shorts.shorts
          (let s = c.e.ensures.sound in let k = ap (λ (x : Cut). x.b) c.requires.cut in let least = s.least_b in omega (arith, k, least, b))
          (let room = c.ranges.room in let fits = room.fits in omega (arith, fits))
          (c.fill.ensures ∙ ap (λ n. replicate n (empty_block c.source_len-2.result (c.from-size.result + 8))) c.from-2.ensures)
          (c.in_ok-shorts.ensures.all ∙ ap all_short c.from-3.ensures);
    }
