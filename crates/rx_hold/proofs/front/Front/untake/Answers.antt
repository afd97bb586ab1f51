use Rattle.std.proofs.Common.{◌≡◌, ◌+◌, ◌-◌, refl, ap, ◌∙◌, arith}
use Rattle.rx_hold.specs.EntryHold.{at_place}
use Rattle.rx_hold.specs.Seats.{octets_at, waiting_at}
use Rattle.rx_hold.specs.declared.front.Front.{Front}
use Rattle.rx_hold.proofs.SeatLemmas.{within}
use Rattle.rx_hold.proofs.UntakeLemmas.{IsCleared, cleared_sound, least_octets, least_waiting, untaken_stands, unused_there}
use Rattle.rx_hold.proofs.front.Front.untake.Goals as goal

pub take_at-seat-requires : goal.take_at-seat-requires
take_at-seat-requires c =
    let f = c.args.self.now in
    let there = unused_there f c.args.index c.requires.front c.requires.unused in
    within f.ring.items (c.args.index - f.point) there.0 there.1.found

pub overflow_sub-self : goal.overflow_sub-self
overflow_sub-self c =
    let f = c.args.self.now in
    let i = c.args.index - f.point in
    let there = unused_there f c.args.index c.requires.front c.requires.unused in
    let octets : c.octets_of.result ≡ octets_at f.profile (at_place f.ring.items i) = c.octets_of.ensures ∙ ap (octets_at f.profile) c.take_at-seat.ensures.found in
    omega (arith, octets, least_octets f i there.0 c.requires.front there.1.found)

pub overflow_sub-self-2 : goal.overflow_sub-self-2
overflow_sub-self-2 c =
    let f = c.args.self.now in
    let i = c.args.index - f.point in
    let there = unused_there f c.args.index c.requires.front c.requires.unused in
    let octets : c.octets_of.result ≡ octets_at f.profile (at_place f.ring.items i) = c.octets_of.ensures ∙ ap (octets_at f.profile) c.take_at-seat.ensures.found in
    let waits : c.waiting_of.result ≡ waiting_at (at_place f.ring.items i) = c.waiting_of.ensures ∙ ap waiting_at c.take_at-seat.ensures.found in
    omega (arith, waits, least_waiting f i there.0 c.requires.front there.1.found)

pub returns-clause-sound : goal.returns-clause-sound
returns-clause-sound c =
    let f = c.args.self.now in
    let i = c.args.index - f.point in
    let there = unused_there f c.args.index c.requires.front c.requires.unused in
    let octets : c.octets_of.result ≡ octets_at f.profile (at_place f.ring.items i) = c.octets_of.ensures ∙ ap (octets_at f.profile) c.take_at-seat.ensures.found in
    let waits : c.waiting_of.result ≡ waiting_at (at_place f.ring.items i) = c.waiting_of.ensures ∙ ap waiting_at c.take_at-seat.ensures.found in
    let lt = within f.ring.items i there.0 there.1.found in
    let at : f.point + i ≡ c.args.index = (let le = there.1.reached in omega (arith, le)) in
    let g : Front = record { profile = f.profile; point = f.point; ring = c.take_at-seat.new.ring; taken = f.taken - c.octets_of.result; waiting = f.waiting - c.waiting_of.result; ups = f.ups; lost = f.lost } in
    let some_octets = least_octets f i there.0 c.requires.front there.1.found in
    let some_waits = least_waiting f i there.0 c.requires.front there.1.found in
    let is : IsCleared f g i = record {
      profile = refl;
      point = refl;
      ring = c.take_at-seat.ensures.items;
      ring_room = c.take_at-seat.ensures.capacity;
      taken = omega (arith, octets, some_octets);
      waiting = omega (arith, waits, some_waits);
      ups = refl;
      lost = refl;
    } in
    cleared_sound f g i c.requires.front lt is

pub returns-clause-state : goal.returns-clause-state
returns-clause-state c =
    let f = c.args.self.now in
    let i = c.args.index - f.point in
    let there = unused_there f c.args.index c.requires.front c.requires.unused in
    let octets : c.octets_of.result ≡ octets_at f.profile (at_place f.ring.items i) = c.octets_of.ensures ∙ ap (octets_at f.profile) c.take_at-seat.ensures.found in
    let waits : c.waiting_of.result ≡ waiting_at (at_place f.ring.items i) = c.waiting_of.ensures ∙ ap waiting_at c.take_at-seat.ensures.found in
    let lt = within f.ring.items i there.0 there.1.found in
    let at : f.point + i ≡ c.args.index = (let le = there.1.reached in omega (arith, le)) in
    let g : Front = record { profile = f.profile; point = f.point; ring = c.take_at-seat.new.ring; taken = f.taken - c.octets_of.result; waiting = f.waiting - c.waiting_of.result; ups = f.ups; lost = f.lost } in
    let some_octets = least_octets f i there.0 c.requires.front there.1.found in
    let some_waits = least_waiting f i there.0 c.requires.front there.1.found in
    let is : IsCleared f g i = record {
      profile = refl;
      point = refl;
      ring = c.take_at-seat.ensures.items;
      ring_room = c.take_at-seat.ensures.capacity;
      taken = omega (arith, octets, some_octets);
      waiting = omega (arith, waits, some_waits);
      ups = refl;
      lost = refl;
    } in
    untaken_stands f g i c.args.index there.0 c.requires.front there.1 at is
