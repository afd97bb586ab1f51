use Rattle.std.proofs.Common.{◌≡◌, ◌<◌, ◌+◌, ℕ, List, [], ◌∷◌, ◌++◌, length, get_or, take, drop, true, false, ◌-◌, sym, ap, subst, ◌∙◌, arith, rules, Some, None, Option, Bor}
use Rattle.std.specs.Prelude.{min, is_some, option_copied, IfSome}
use Rattle.std.specs.Option.{IsSome}
use Rattle.std.proofs.lemmas.Bool.{le-ltb}
use Rattle.std.proofs.lemmas.List.{get_or_default}
use Rattle.std.specs.List.{AllByRecursion}
use Rattle.fec_plan.specs.Partition.{Cut, source_symbols}
use Rattle.norm_ext.specs.Numbers.{number}
use Rattle.norm_receive_rules.specs.HandingUp.{next_segment}
use Rattle.rx_stream.specs.BlockState.{BlockState, lacks, source_of}
use Rattle.rs_block.specs.declared.row.Row.{Row}
use Rattle.rx_stream.specs.BlockMoves.{IsRow}
use Rattle.rx_stream.specs.StreamMoves.{left, passed}
use Rattle.rx_stream.specs.StreamSound.{stream_of}
use Rattle.rx_stream.specs.StreamState.{StreamState, alone}
use Rattle.rx_stream.proofs.HandingLemmas.{begun_whole}
use Rattle.rx_stream.proofs.LeftLemmas.{came_many, left_next, left_passed}
use Rattle.rx_stream.proofs.ShortLemmas.{shorts_passed}
use Rattle.rx_stream.proofs.StreamLemmas.{next_row, passed_block}
use Rattle.rx_stream.proofs.SegmentLemmas.{there_by, none_row, next_value, size_first, k_first, first_named, octets_next, sound_next, sound_passed}
use Rattle.rx_stream.proofs.stream.Stream.take_segment.Goals as goal

pub unwrap-row-requires : goal.unwrap-row-requires
unwrap-row-requires c =
    let some : 0 < length c.self.inside.ring.items = (let n = c.self.invariant.sound.some in omega (arith, n)) in
    let there : is_some (source_of c.index.result.now c.self.inside.symbol) ≡ true =
    ap (λ (o : Option (List ℕ)). is_some o) (sym (next_value (record { index = c.self.inside.index; fti = c.self.inside.fti; flags = c.self.inside.flags; seen = c.self.inside.seen }) c.self.inside.info c.self.inside.first c.self.inside.symbol c.self.inside.ring.items c.index.result.now c.self.invariant.sound.stream c.self.invariant.sound.blocks some c.index.ensures))
    ∙ subst (λ (o : StreamState). is_some (next_segment (alone o) o.plan) ≡ true) (sym c.self.view_is)
    (there_by (next_segment (alone c.args.self.now) c.args.self.now.plan) (λ symbol. c.args.len ≡ min (number 2 0 symbol) c.args.self.now.plan.fti.e) c.requires) in
    elim c.row.result as (λ r. IsRow c.index.result.now.size (source_of c.index.result.now c.self.inside.symbol) (option_copied r) → IsSome r) [
      | Some x ↦ λ h. search rules
      | None ↦ λ h. absurd (none_row c.index.result.now.size (source_of c.index.result.now c.self.inside.symbol) there h)
    ] c.row.ensures.coded

pub copy_of-bytes-requires-clause-sizes : goal.copy_of-bytes-requires-clause-sizes
copy_of-bytes-requires-clause-sizes c =
    let some : 0 < length c.self.inside.ring.items = (let n = c.self.invariant.sound.some in omega (arith, n)) in
    let sized : length c.unwrap-row.result.now ≡ c.self.inside.fti.e + 8 =
    subst (λ (r : Option (Bor Row)). IfSome (option_copied r) (λ row. length row ≡ c.index.result.now.size)) c.unwrap-row.ensures c.row.ensures.long
    ∙ size_first c.self.inside.fti.b (c.self.inside.fti.e + 8) c.self.inside.ring.items c.index.result.now c.self.invariant.sound.blocks some c.index.ensures in
    subst (λ n. AllByRecursion (λ (spare : List ℕ). length spare ≡ n) c.self.inside.spares.items) (sym sized) c.self.invariant.sound.spare.sizes

pub overflow_add-self-2 : goal.overflow_add-self-2
overflow_add-self-2 c =
    let some : 0 < length c.self.inside.ring.items = (let n = c.self.invariant.sound.some in omega (arith, n)) in
    let there : is_some (source_of c.index.result.now c.self.inside.symbol) ≡ true =
    ap (λ (o : Option (List ℕ)). is_some o) (sym (next_value (record { index = c.self.inside.index; fti = c.self.inside.fti; flags = c.self.inside.flags; seen = c.self.inside.seen }) c.self.inside.info c.self.inside.first c.self.inside.symbol c.self.inside.ring.items c.index.result.now c.self.invariant.sound.stream c.self.invariant.sound.blocks some c.index.ensures))
    ∙ subst (λ (o : StreamState). is_some (next_segment (alone o) o.plan) ≡ true) (sym c.self.view_is)
    (there_by (next_segment (alone c.args.self.now) c.args.self.now.plan) (λ symbol. c.args.len ≡ min (number 2 0 symbol) c.args.self.now.plan.fti.e) c.requires) in
    let lt = first_named c.self.inside.index c.self.inside.first c.self.inside.fti.b (c.self.inside.fti.e + 8) c.self.inside.symbol c.self.inside.ring.items c.index.result.now c.self.invariant.sound.named c.self.invariant.sound.blocks some
    (let n = c.self.invariant.sound.next in omega (arith, n)) c.index.ensures there in
    omega (arith, lt)

pub shift-requires-clause-there : goal.shift-requires-clause-there
shift-requires-clause-there c = λ d symbol lt.
    let some : 0 < length c.self.inside.ring.items = (let n = c.self.invariant.sound.some in omega (arith, n)) in
    let there : is_some (source_of c.index.result.now c.self.inside.symbol) ≡ true =
    ap (λ (o : Option (List ℕ)). is_some o) (sym (next_value (record { index = c.self.inside.index; fti = c.self.inside.fti; flags = c.self.inside.flags; seen = c.self.inside.seen }) c.self.inside.info c.self.inside.first c.self.inside.symbol c.self.inside.ring.items c.index.result.now c.self.invariant.sound.stream c.self.invariant.sound.blocks some c.index.ensures))
    ∙ subst (λ (o : StreamState). is_some (next_segment (alone o) o.plan) ≡ true) (sym c.self.view_is)
    (there_by (next_segment (alone c.args.self.now) c.args.self.now.plan) (λ symbol. c.args.len ≡ min (number 2 0 symbol) c.args.self.now.plan.fti.e) c.requires) in
    let same : get_or c.self.inside.ring.items 0 d ≡ c.index.result.now = get_or_default c.self.inside.ring.items 0 d c.index.result.now some ∙ sym c.index.ensures in
    let count = c.source_len-count.ensures.exact ∙ ap (λ (x : Cut). source_symbols x 0) c.self.invariant.sound.cut_is in
    let blocks = k_first c.self.inside.fti.b (c.self.inside.fti.e + 8) c.self.inside.ring.items d c.self.invariant.sound.blocks some in
    begun_whole c.self.inside.symbol c.self.inside.ring.items d some c.self.invariant.sound.begun
    (ap (λ (b : BlockState). is_some (source_of b c.self.inside.symbol)) same ∙ there) symbol (omega (arith, lt, blocks, count, c.if-self-count.false))

pub advance-requires : goal.advance-requires
advance-requires c =
    let few = c.self.invariant.shorts.few in
    let all = c.self.invariant.shorts.all in
    let start = c.self.invariant.shorts.start in
    let some : 0 < length c.self.inside.ring.items = (let n = c.self.invariant.sound.some in omega (arith, n)) in
    let there : is_some (source_of c.index.result.now c.self.inside.symbol) ≡ true =
    ap (λ (o : Option (List ℕ)). is_some o) (sym (next_value (record { index = c.self.inside.index; fti = c.self.inside.fti; flags = c.self.inside.flags; seen = c.self.inside.seen }) c.self.inside.info c.self.inside.first c.self.inside.symbol c.self.inside.ring.items c.index.result.now c.self.invariant.sound.stream c.self.invariant.sound.blocks some c.index.ensures))
    ∙ subst (λ (o : StreamState). is_some (next_segment (alone o) o.plan) ≡ true) (sym c.self.view_is)
    (there_by (next_segment (alone c.args.self.now) c.args.self.now.plan) (λ symbol. c.args.len ≡ min (number 2 0 symbol) c.args.self.now.plan.fti.e) c.requires) in
    let lt = first_named c.self.inside.index c.self.inside.first c.self.inside.fti.b (c.self.inside.fti.e + 8) c.self.inside.symbol c.self.inside.ring.items c.index.result.now c.self.invariant.sound.named c.self.invariant.sound.blocks some
    (let n = c.self.invariant.sound.next in omega (arith, n)) c.index.ensures there in
    let d = c.index.result.now in
    let same : get_or c.self.inside.ring.items 0 d ≡ c.index.result.now = sym c.index.ensures in
    let count = c.source_len-count.ensures.exact ∙ ap (λ (x : Cut). source_symbols x 0) c.self.invariant.sound.cut_is in
    let blocks = k_first c.self.inside.fti.b (c.self.inside.fti.e + 8) c.self.inside.ring.items d c.self.invariant.sound.blocks some in
    let many = came_many (get_or c.self.inside.ring.items 0 d) (get_or c.self.inside.ring.items 0 d).k (omega arith)
    (λ symbol below. begun_whole c.self.inside.symbol c.self.inside.ring.items d some c.self.invariant.sound.begun
    (ap (λ (b : BlockState). is_some (source_of b c.self.inside.symbol)) same ∙ there) symbol (omega (arith, below, blocks, count, c.if-self-count.false))) in
    record {
      some = omega (arith, some, all);
      done = ap (λ n. get_or c.self.inside.shorts.short n false) (let own : c.self.inside.shorts.start - c.self.inside.shorts.start ≡ 0 = omega arith in own)
          ∙ c.self.invariant.shorts.short 0 d some ∙ le-ltb 0 (lacks (get_or c.self.inside.ring.items 0 d)) (omega (arith, many));
      room = omega (arith, few, all, start, lt);
    }

pub invariant_of-self : goal.invariant_of-self
invariant_of-self c =
    let some : 0 < length c.self.inside.ring.items = (let n = c.self.invariant.sound.some in omega (arith, n)) in
    let there : is_some (source_of c.index.result.now c.self.inside.symbol) ≡ true =
    ap (λ (o : Option (List ℕ)). is_some o) (sym (next_value (record { index = c.self.inside.index; fti = c.self.inside.fti; flags = c.self.inside.flags; seen = c.self.inside.seen }) c.self.inside.info c.self.inside.first c.self.inside.symbol c.self.inside.ring.items c.index.result.now c.self.invariant.sound.stream c.self.invariant.sound.blocks some c.index.ensures))
    ∙ subst (λ (o : StreamState). is_some (next_segment (alone o) o.plan) ≡ true) (sym c.self.view_is)
    (there_by (next_segment (alone c.args.self.now) c.args.self.now.plan) (λ symbol. c.args.len ≡ min (number 2 0 symbol) c.args.self.now.plan.fti.e) c.requires) in
    let sized : length c.unwrap-row.result.now ≡ c.self.inside.fti.e + 8 =
    subst (λ (r : Option (Bor Row)). IfSome (option_copied r) (λ row. length row ≡ c.index.result.now.size)) c.unwrap-row.ensures c.row.ensures.long
    ∙ size_first c.self.inside.fti.b (c.self.inside.fti.e + 8) c.self.inside.ring.items c.index.result.now c.self.invariant.sound.blocks some c.index.ensures in
    let at : is_some (source_of (get_or c.self.inside.ring.items 0 c.index.result.now) c.self.inside.symbol) ≡ true = ap (λ (b : BlockState). is_some (source_of b c.self.inside.symbol)) (sym c.index.ensures) ∙ there in
    record {
      sound =
          sound_next (record { index = c.self.inside.index; fti = c.self.inside.fti; flags = c.self.inside.flags; seen = c.self.inside.seen }) c.self.inside.plan c.self.inside.first c.self.inside.symbol c.self.inside.ring.items c.self.inside.spares.items c.copy_of-bytes.new.spares.items c.index.result.now c.self.invariant.sound
          (let e = c.source_len-count.ensures.exact ∙ ap (λ (x : Cut). source_symbols x 0) c.self.invariant.sound.cut_is in omega (arith, e, c.if-self-count.true)) at c.copy_of-bytes.ensures.count
          (subst (λ n. AllByRecursion (λ (spare : List ℕ). length spare ≡ n) c.copy_of-bytes.new.spares.items) sized c.copy_of-bytes.ensures.sizes);
      shorts = c.self.invariant.shorts;
    }

pub invariant_of-self-2 : goal.invariant_of-self-2
invariant_of-self-2 c =
    let some : 0 < length c.self.inside.ring.items = (let n = c.self.invariant.sound.some in omega (arith, n)) in
    let there : is_some (source_of c.index.result.now c.self.inside.symbol) ≡ true =
    ap (λ (o : Option (List ℕ)). is_some o) (sym (next_value (record { index = c.self.inside.index; fti = c.self.inside.fti; flags = c.self.inside.flags; seen = c.self.inside.seen }) c.self.inside.info c.self.inside.first c.self.inside.symbol c.self.inside.ring.items c.index.result.now c.self.invariant.sound.stream c.self.invariant.sound.blocks some c.index.ensures))
    ∙ subst (λ (o : StreamState). is_some (next_segment (alone o) o.plan) ≡ true) (sym c.self.view_is)
    (there_by (next_segment (alone c.args.self.now) c.args.self.now.plan) (λ symbol. c.args.len ≡ min (number 2 0 symbol) c.args.self.now.plan.fti.e) c.requires) in
    let lt = first_named c.self.inside.index c.self.inside.first c.self.inside.fti.b (c.self.inside.fti.e + 8) c.self.inside.symbol c.self.inside.ring.items c.index.result.now c.self.invariant.sound.named c.self.invariant.sound.blocks some
    (let n = c.self.invariant.sound.next in omega (arith, n)) c.index.ensures there in
    record {
      sound =
          sound_passed (record { index = c.self.inside.index; fti = c.self.inside.fti; flags = c.self.inside.flags; seen = c.self.inside.seen }) c.self.inside.plan c.self.inside.first c.self.inside.symbol c.source_len-count.result (c.from-size.result + 8) c.self.inside.ring.items c.shift.new.ring.items c.self.inside.spares.items c.shift.result.items
          c.index.result.now c.self.invariant.sound (c.source_len-count.ensures.exact ∙ ap (λ (x : Cut). source_symbols x 0) c.self.invariant.sound.cut_is)
          (let e = c.e.ensures.exact ∙ ap (λ (x : Cut). x.e) c.self.invariant.sound.cut_is in omega (arith, e, c.from-size.ensures))
          (c.shift.ensures.ring ∙ ap (λ (b : BlockState). drop 1 c.self.inside.ring.items ++ b ∷ []) c.new.ensures)
          (c.shift.ensures.count c.index.result.now) (c.shift.ensures.sizes c.index.result.now);
      shorts = shorts_passed c.self.inside.first c.source_len-count.result (c.from-size.result + 8) c.self.inside.ring.items c.shift.new.ring.items c.self.inside.shorts c.advance.new.self
          c.self.invariant.shorts some (let named = lt in omega (arith, named))
          (let e = c.source_len-count.ensures.exact ∙ ap (λ (x : Cut). source_symbols x 0) c.self.invariant.sound.cut_is in let next = c.self.invariant.sound.next in omega (arith, e, next))
          (c.shift.ensures.ring ∙ ap (λ (b : BlockState). drop 1 c.self.inside.ring.items ++ b ∷ []) c.new.ensures) c.advance.ensures;
    }

pub returns-then-self-count-clause-octets : goal.returns-then-self-count-clause-octets
returns-then-self-count-clause-octets c =
    let some : 0 < length c.self.inside.ring.items = (let n = c.self.invariant.sound.some in omega (arith, n)) in
    let is : IsRow (c.args.self.now.plan.fti.e + 8) (next_segment (alone c.args.self.now) c.args.self.now.plan) (Some c.unwrap-row.result.now) =
    subst (λ (o : StreamState). IsRow (o.plan.fti.e + 8) (next_segment (alone o) o.plan) (Some c.unwrap-row.result.now)) c.self.view_is
    (next_row (record { index = c.self.inside.index; fti = c.self.inside.fti; flags = c.self.inside.flags; seen = c.self.inside.seen }) c.self.inside.info c.self.inside.first c.self.inside.symbol c.self.inside.ring.items c.index.result.now (Some c.unwrap-row.result.now) c.self.invariant.sound.stream c.self.invariant.sound.blocks some c.index.ensures
    (subst (λ (r : Option (Bor Row)). IsRow c.index.result.now.size (source_of c.index.result.now c.self.inside.symbol) (option_copied r)) c.unwrap-row.ensures c.row.ensures.coded)) in
    octets_next c.args.self.now.plan.fti.e c.args.len c.unwrap-row.result.now c.copy_of-bytes.result (next_segment (alone c.args.self.now) c.args.self.now.plan) is c.requires
    (c.copy_of-bytes.ensures.octets ∙ ap (λ n. take n (drop 8 c.unwrap-row.result.now)) c.from.ensures)

pub returns-clause-octets : goal.returns-clause-octets
returns-clause-octets c =
    let some : 0 < length c.self.inside.ring.items = (let n = c.self.invariant.sound.some in omega (arith, n)) in
    let is : IsRow (c.args.self.now.plan.fti.e + 8) (next_segment (alone c.args.self.now) c.args.self.now.plan) (Some c.unwrap-row.result.now) =
    subst (λ (o : StreamState). IsRow (o.plan.fti.e + 8) (next_segment (alone o) o.plan) (Some c.unwrap-row.result.now)) c.self.view_is
    (next_row (record { index = c.self.inside.index; fti = c.self.inside.fti; flags = c.self.inside.flags; seen = c.self.inside.seen }) c.self.inside.info c.self.inside.first c.self.inside.symbol c.self.inside.ring.items c.index.result.now (Some c.unwrap-row.result.now) c.self.invariant.sound.stream c.self.invariant.sound.blocks some c.index.ensures
    (subst (λ (r : Option (Bor Row)). IsRow c.index.result.now.size (source_of c.index.result.now c.self.inside.symbol) (option_copied r)) c.unwrap-row.ensures c.row.ensures.coded)) in
    octets_next c.args.self.now.plan.fti.e c.args.len c.unwrap-row.result.now c.copy_of-bytes.result (next_segment (alone c.args.self.now) c.args.self.now.plan) is c.requires
    (c.copy_of-bytes.ensures.octets ∙ ap (λ n. take n (drop 8 c.unwrap-row.result.now)) c.from.ensures)

pub returns-clause-state : goal.returns-clause-state
returns-clause-state c =
    passed_block (record { index = c.self.inside.index; fti = c.self.inside.fti; flags = c.self.inside.flags; seen = c.self.inside.seen }) c.self.inside.info
    c.self.inside.first c.self.inside.symbol c.source_len-count.result (c.from-size.result + 8) c.self.inside.ring.items c.shift.new.ring.items
    (let e = c.source_len-count.ensures.exact ∙ ap (λ (x : Cut). source_symbols x 0) c.self.invariant.sound.cut_is in omega (arith, e, c.if-self-count.false))
    (let n = c.self.invariant.sound.some in omega (arith, n))
    (c.shift.ensures.ring ∙ ap (λ (b : BlockState). drop 1 c.self.inside.ring.items ++ b ∷ []) c.new.ensures)
    ∙ ap passed c.self.view_is

pub returns-then-self-count-clause-fewer : goal.returns-then-self-count-clause-fewer
returns-then-self-count-clause-fewer c =
    let some : 0 < length c.self.inside.ring.items = (let n = c.self.invariant.sound.some in omega (arith, n)) in
    let there : is_some (source_of c.index.result.now c.self.inside.symbol) ≡ true =
    ap (λ (o : Option (List ℕ)). is_some o) (sym (next_value (record { index = c.self.inside.index; fti = c.self.inside.fti; flags = c.self.inside.flags; seen = c.self.inside.seen }) c.self.inside.info c.self.inside.first c.self.inside.symbol c.self.inside.ring.items c.index.result.now c.self.invariant.sound.stream c.self.invariant.sound.blocks some c.index.ensures))
    ∙ subst (λ (o : StreamState). is_some (next_segment (alone o) o.plan) ≡ true) (sym c.self.view_is)
    (there_by (next_segment (alone c.args.self.now) c.args.self.now.plan) (λ symbol. c.args.len ≡ min (number 2 0 symbol) c.args.self.now.plan.fti.e) c.requires) in
    let at : is_some (source_of (get_or c.self.inside.ring.items 0 c.index.result.now) c.self.inside.symbol) ≡ true = ap (λ (b : BlockState). is_some (source_of b c.self.inside.symbol)) (sym c.index.ensures) ∙ there in
    subst (λ (o : StreamState). left (stream_of (record { index = c.self.inside.index; fti = c.self.inside.fti; flags = c.self.inside.flags; seen = c.self.inside.seen }) c.self.inside.info c.self.inside.first (c.self.inside.symbol + 1) c.self.inside.ring.items) < left o) c.self.view_is
    (left_next (record { index = c.self.inside.index; fti = c.self.inside.fti; flags = c.self.inside.flags; seen = c.self.inside.seen }) c.self.inside.plan c.self.inside.info c.self.inside.first c.self.inside.symbol c.self.inside.ring.items c.self.inside.spares.items c.index.result.now c.self.invariant.sound at)

pub returns-clause-fewer : goal.returns-clause-fewer
returns-clause-fewer c =
    let some : 0 < length c.self.inside.ring.items = (let n = c.self.invariant.sound.some in omega (arith, n)) in
    let there : is_some (source_of c.index.result.now c.self.inside.symbol) ≡ true =
    ap (λ (o : Option (List ℕ)). is_some o) (sym (next_value (record { index = c.self.inside.index; fti = c.self.inside.fti; flags = c.self.inside.flags; seen = c.self.inside.seen }) c.self.inside.info c.self.inside.first c.self.inside.symbol c.self.inside.ring.items c.index.result.now c.self.invariant.sound.stream c.self.invariant.sound.blocks some c.index.ensures))
    ∙ subst (λ (o : StreamState). is_some (next_segment (alone o) o.plan) ≡ true) (sym c.self.view_is)
    (there_by (next_segment (alone c.args.self.now) c.args.self.now.plan) (λ symbol. c.args.len ≡ min (number 2 0 symbol) c.args.self.now.plan.fti.e) c.requires) in
    let at : is_some (source_of (get_or c.self.inside.ring.items 0 c.index.result.now) c.self.inside.symbol) ≡ true = ap (λ (b : BlockState). is_some (source_of b c.self.inside.symbol)) (sym c.index.ensures) ∙ there in
    subst (λ (o : StreamState). left (stream_of (record { index = c.self.inside.index; fti = c.self.inside.fti; flags = c.self.inside.flags; seen = c.self.inside.seen }) c.self.inside.info (c.self.inside.first + 1) 0 c.shift.new.ring.items) < left o) c.self.view_is
    (left_passed (record { index = c.self.inside.index; fti = c.self.inside.fti; flags = c.self.inside.flags; seen = c.self.inside.seen }) c.self.inside.plan c.self.inside.info c.self.inside.first c.self.inside.symbol c.self.inside.ring.items c.self.inside.spares.items c.index.result.now c.self.invariant.sound at
    c.source_len-count.result (c.from-size.result + 8) c.shift.new.ring.items
    (let e = c.source_len-count.ensures.exact ∙ ap (λ (x : Cut). source_symbols x 0) c.self.invariant.sound.cut_is in omega (arith, e, c.if-self-count.false))
    (c.shift.ensures.ring ∙ ap (λ (b : BlockState). drop 1 c.self.inside.ring.items ++ b ∷ []) c.new.ensures))
