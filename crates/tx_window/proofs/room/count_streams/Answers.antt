use Rattle.std.proofs.Common.{◌≡◌, ◌+◌, ◌<◌, ap, sym, ◌∙◌, refl, arith, suc, length, drop, true, false}
use Rattle.std.specs.Prelude.{filter}
use Rattle.std.proofs.lemmas.List.{drop_all}
use Rattle.norm_order.specs.Entries.{Entry}
use Rattle.norm_send_rules.specs.Repairable.{is_stream}
use Rattle.tx_object.proofs.ListLemmas.{get_there}
use Rattle.tx_window.specs.EntryState.{reads_of}
use Rattle.tx_window.proofs.ListLemmas.{get_some}
use Rattle.tx_window.proofs.RoomLemmas.{kind_is, streams_from}
use Rattle.tx_window.proofs.room.count_streams.Goals.{then-is_stream, else-is_stream}
use Rattle.tx_window.proofs.room.count_streams.Goals as goal

pub loop-place-preserved : goal.loop-place-preserved
loop-place-preserved c =
    let n = c.loop-place.place in
    let within : n < length c.args.held.now.items = omega (arith, c.loop-place-test.true, c.len-place-end.ensures) in
    let e = c.index.result.now in
    let held = get_there c.args.held.now.items n e within c.index.ensures in
    record {
      few = elim c.if-is_stream.branch [
        | then-is_stream w ↦ omega (arith, w.streams-is, c.loop-place.invariant.few)
        | else-is_stream w ↦ omega (arith, w.streams-is, c.loop-place.invariant.few)
      ];
      total = λ ring p first s entries are.
          let there = get_some n entries (omega (arith, are.long, within)) in
          let kind = kind_is (reads_of ring p (first + n) there.0.object s) there.0 e refl (are.each n there.0 e there.1 held) ∙ sym c.is_stream.ensures in
          let next = ap (λ k. length (filter is_stream (drop k entries))) (let z : suc n ≡ n + 1 = omega arith in z) in
          elim c.if-is_stream.branch [
            | then-is_stream w ↦ omega (arith, w.streams-is, c.loop-place.invariant.total ring p first s entries are, streams_from entries n there.0 true there.1 (kind ∙ w.if-is_stream.true), next)
            | else-is_stream w ↦ omega (arith, w.streams-is, c.loop-place.invariant.total ring p first s entries are, streams_from entries n there.0 false there.1 (kind ∙ w.if-is_stream.false), next)
          ];
    }

pub returns : goal.returns
returns c = λ ring p first s entries are.
    let none = ap (λ (es : Rattle.std.specs.Prelude.List Entry). length (filter is_stream es)) (drop_all c.loop-place.place entries (omega (arith, are.long, c.loop-place-test.false, c.len-place-end.ensures))) in
    omega (arith, c.loop-place.invariant.total ring p first s entries are, none)
