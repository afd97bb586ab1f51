use Rattle.std.proofs.Common.{◌≡◌, ap, sym, ◌∙◌, arith, List, length, map, drop}
use Rattle.std.proofs.lemmas.List.{length-drop}
use Rattle.tx_window.specs.EntryPlaces.{held_size}
use Rattle.tx_window.specs.declared.entry.HeldEntry.{HeldEntry}
use Rattle.tx_window.specs.WindowSound.{all_sizes}
use Rattle.tx_window.proofs.room.make_room.Goals as goal

pub room_for-count-requires-clause-octets : goal.room_for-count-requires-clause-octets
room_for-count-requires-clause-octets c = c.requires.octets ∙ ap (all_sizes c.args.profile.now) (sym c.reserve.ensures.held)

pub returns-clause-made : goal.returns-clause-made
returns-clause-made c =
    let p = c.args.profile.now in
    let n = c.room_for-count.result.0 in
    let same : c.reserve.new.held.items ≡ c.args.held.now.items = c.reserve.ensures.held in
    record {
      entries = c.drop_front.ensures.items ∙ ap (drop n) same;
      count = omega (arith, c.room_for-count.ensures.count, ap length same);
      left = c.room_for-count.ensures.left ∙ ap (λ (es : List HeldEntry). all_sizes p (drop n es)) same;
      few = omega (arith, c.room_for-count.ensures.few, ap length same);
      fit = c.room_for-count.ensures.fit;
      exact = λ entries sizes. c.room_for-count.ensures.exact entries (sizes ∙ ap (map (held_size p)) (sym same));
    }

pub returns-clause-held_room : goal.returns-clause-held_room
returns-clause-held_room c =
    omega (
      arith,
      c.reserve.ensures.held_room c.if-not-reserve.false,
      c.drop_front.ensures.capacity,
      ap length c.drop_front.ensures.items,
      length-drop c.room_for-count.result.0 c.reserve.new.held.items,
    )
