use Rattle.std.proofs.Common.{◌≡◌, ◌<◌, ◌-◌, List, length, get_or, false, sym, ap, subst, ◌∙◌, arith}
use Rattle.std.proofs.lemmas.Bool.{lt-ltb}
use Rattle.std.proofs.lemmas.List.{get_or-set_same, length-set}
use Rattle.fec_plan.specs.Points.{position}
use Rattle.norm_receive_rules.specs.Putting.{with_symbol}
use Rattle.norm_receive_rules.specs.declared.words.Put.TheVariants as put_word
use Rattle.rx_stream.specs.BlockState.{BlockState, empty_block, lacks}
use Rattle.rx_stream.specs.StreamMoves.{MayKeep}
use Rattle.rx_stream.specs.StreamState.{StreamState, alone}
use Rattle.rx_stream.proofs.ShortLemmas.{shorts_more}
use Rattle.rx_stream.proofs.StreamLemmas.{may_come, kept_stream, sound_more}
use Rattle.rx_stream.proofs.stream.Stream.keep.Goals as goal

pub put_at-requires-clause-comes : goal.put_at-requires-clause-comes
put_at-requires-clause-comes c = λ d.
    may_come (record { index = c.self.inside.index; fti = c.self.inside.fti; flags = c.self.inside.flags; seen = c.self.inside.seen }) c.self.inside.info c.self.inside.first c.self.inside.symbol c.place_of-place.result c.args.block c.args.symbol c.self.inside.ring.items c.args.payload.now d c.self.invariant.sound.stream c.self.invariant.sound.blocks (omega (arith, c.place_of-place.ensures))
    (let m = (subst (λ (o : StreamState). MayKeep o c.args.block c.args.symbol c.args.payload.now) (sym c.self.view_is) c.requires.comes) in let n = m.near in omega (arith, n, c.place_of-place.ensures))
    (subst (λ (o : StreamState). MayKeep o c.args.block c.args.symbol c.args.payload.now) (sym c.self.view_is) c.requires.comes)

pub note-requires : goal.note-requires
note-requires c =
    let start = c.self.invariant.shorts.start in
    let at = c.place_of-place.ensures in
    let lt : c.place_of-place.result < length c.self.inside.ring.items = (let m = (subst (λ (o : StreamState). MayKeep o c.args.block c.args.symbol c.args.payload.now) (sym c.self.view_is) c.requires.comes) in let n = m.near in omega (arith, n, c.place_of-place.ensures)) in
    let kept = ap length (c.in_ok-put_at.ensures.kept (empty_block 1 8)) in
    let comes = may_come (record { index = c.self.inside.index; fti = c.self.inside.fti; flags = c.self.inside.flags; seen = c.self.inside.seen }) c.self.inside.info c.self.inside.first c.self.inside.symbol c.place_of-place.result c.args.block c.args.symbol c.self.inside.ring.items c.args.payload.now (empty_block 1 8) c.self.invariant.sound.stream c.self.invariant.sound.blocks (omega (arith, c.place_of-place.ensures))
    (let m = (subst (λ (o : StreamState). MayKeep o c.args.block c.args.symbol c.args.payload.now) (sym c.self.view_is) c.requires.comes) in let n = m.near in omega (arith, n, c.place_of-place.ensures))
    (subst (λ (o : StreamState). MayKeep o c.args.block c.args.symbol c.args.payload.now) (sym c.self.view_is) c.requires.comes) in
    let lacks = comes.lacks in
    record {
      place = omega (arith, lt, kept, length-set {A = BlockState});
      reached = omega (arith, start, at);
      short = ap (λ n. get_or c.self.inside.shorts.short n false) (let own : c.args.block - c.self.inside.shorts.start ≡ c.place_of-place.result = omega (arith, start, at) in own)
          ∙ c.self.invariant.shorts.short c.place_of-place.result (empty_block 1 8) lt ∙ lt-ltb 0 _ lacks;
    }

pub invariant_of-self-2 : goal.invariant_of-self-2
invariant_of-self-2 c =
    let lt : c.place_of-place.result < length c.self.inside.ring.items = (let m = (subst (λ (o : StreamState). MayKeep o c.args.block c.args.symbol c.args.payload.now) (sym c.self.view_is) c.requires.comes) in let n = m.near in omega (arith, n, c.place_of-place.ensures)) in
    let comes = may_come (record { index = c.self.inside.index; fti = c.self.inside.fti; flags = c.self.inside.flags; seen = c.self.inside.seen }) c.self.inside.info c.self.inside.first c.self.inside.symbol c.place_of-place.result c.args.block c.args.symbol c.self.inside.ring.items c.args.payload.now (empty_block 1 8) c.self.invariant.sound.stream c.self.invariant.sound.blocks (omega (arith, c.place_of-place.ensures))
    (let m = (subst (λ (o : StreamState). MayKeep o c.args.block c.args.symbol c.args.payload.now) (sym c.self.view_is) c.requires.comes) in let n = m.near in omega (arith, n, c.place_of-place.ensures))
    (subst (λ (o : StreamState). MayKeep o c.args.block c.args.symbol c.args.payload.now) (sym c.self.view_is) c.requires.comes) in
    let after = c.in_ok-put_at.ensures.kept (empty_block 1 8) in
    let here = ap (λ (bs : List BlockState). get_or bs c.place_of-place.result (empty_block 1 8)) after ∙ get_or-set_same c.self.inside.ring.items c.place_of-place.result _ (empty_block 1 8) lt in
    record {
      sound =
          sound_more (record { index = c.self.inside.index; fti = c.self.inside.fti; flags = c.self.inside.flags; seen = c.self.inside.seen }) c.self.inside.plan c.self.inside.first c.self.inside.symbol c.place_of-place.result c.args.block c.args.symbol c.self.inside.ring.items c.put_at.new.ring.items c.args.payload.now (empty_block 1 8) c.self.inside.spares.items c.self.invariant.sound
          (omega (arith, c.place_of-place.ensures))
          (let m = (subst (λ (o : StreamState). MayKeep o c.args.block c.args.symbol c.args.payload.now) (sym c.self.view_is) c.requires.comes) in m.named)
          (let m = (subst (λ (o : StreamState). MayKeep o c.args.block c.args.symbol c.args.payload.now) (sym c.self.view_is) c.requires.comes) in let n = m.near in omega (arith, n, c.place_of-place.ensures))
          (c.in_ok-put_at.ensures.kept (empty_block 1 8));
      shorts = shorts_more c.self.inside.first c.place_of-place.result c.args.block c.self.inside.ring.items c.put_at.new.ring.items (empty_block 1 8) _ c.self.inside.shorts c.note.new.shorts
          c.self.invariant.shorts (omega (arith, c.place_of-place.ensures)) lt after comes.lacks
          (λ none. c.note.ensures.done (empty_block 1 8) (ap (λ (b : BlockState). lacks b) here ∙ none))
          (λ some. c.note.ensures.more (empty_block 1 8) (subst (λ (b : BlockState). 0 < lacks b) (sym here) some));
    }

pub returns-clause-kept : goal.returns-clause-kept
returns-clause-kept c =
    kept_stream (record { index = c.self.inside.index; fti = c.self.inside.fti; flags = c.self.inside.flags; seen = c.self.inside.seen }) c.self.inside.info c.self.inside.first c.self.inside.symbol c.place_of-place.result c.args.block c.args.symbol c.self.inside.ring.items c.put_at.new.ring.items c.args.payload.now (empty_block 1 8) (omega (arith, c.place_of-place.ensures))
    (let m = (subst (λ (o : StreamState). MayKeep o c.args.block c.args.symbol c.args.payload.now) (sym c.self.view_is) c.requires.comes) in let n = m.near in omega (arith, n, c.place_of-place.ensures))
    (c.in_ok-put_at.ensures.kept (empty_block 1 8))
    ∙ ap (λ (o : StreamState). record o { held = (with_symbol put_word.Kept (position o.plan.index c.args.block c.args.symbol) c.args.payload.now (alone o)).held }) c.self.view_is
