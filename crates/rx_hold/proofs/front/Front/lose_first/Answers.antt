use Rattle.std.proofs.Common.{◌++◌, ◌∷◌, [], refl, ap, ◌∙◌, arith, length, true}
use Rattle.std.specs.VecDeque.{deque_capacity}
use Rattle.norm_order.specs.declared.up.Up.TheVariants as up
use Rattle.rx_hold.specs.Handing.{HasTold, IsPast}
use Rattle.rx_hold.specs.declared.front.Front.{Front}
use Rattle.rx_hold.proofs.LoseLemmas.{lost_stands}
use Rattle.rx_hold.proofs.PastLemmas.{lost_room, past_sound}
use Rattle.rx_hold.proofs.WholeLemmas.{first_octets, first_waiting}
use Rattle.rx_hold.proofs.front.Front.lose_first.Goals as goal

pub pass_first-requires-clause-octets : goal.pass_first-requires-clause-octets
pass_first-requires-clause-octets c = first_octets c.args.self.now c.requires.front

pub pass_first-requires-clause-waiting : goal.pass_first-requires-clause-waiting
pass_first-requires-clause-waiting c = first_waiting c.args.self.now c.requires.front

pub push-requires : goal.push-requires
push-requires c =
    omega (arith, c.requires.room, ap (λ us. length us.items) c.pass_first.ensures.ups, ap (λ us. deque_capacity us) c.pass_first.ensures.ups)

pub returns-clause-sound : goal.returns-clause-sound
returns-clause-sound c =
    let f = c.args.self.now in
    let m = c.pass_first.new.self in
    let past = c.pass_first.ensures.past in
    let g : Front = record { profile = m.profile; point = m.point; ring = m.ring; taken = m.taken; waiting = m.waiting; ups = c.push.new.ups; lost = true } in
    let is : IsPast f g = record { profile = past.profile; point = past.point; ring = past.ring; ring_room = past.ring_room; taken = past.taken; waiting = past.waiting } in
    let told : HasTold f g (up.Lost f.point ∷ []) = record {
      ups = c.push.ensures.items ∙ ap (λ us. us.items ++ up.Lost f.point ∷ []) c.pass_first.ensures.ups;
      room = c.push.ensures.capacity ∙ ap (λ us. deque_capacity us) c.pass_first.ensures.ups;
    } in
    past_sound f g c.requires.front is (lost_room f g (up.Lost f.point) is told 0 c.requires.room)

pub returns-clause-room : goal.returns-clause-room
returns-clause-room c =
    let f = c.args.self.now in
    let m = c.pass_first.new.self in
    let past = c.pass_first.ensures.past in
    let g : Front = record { profile = m.profile; point = m.point; ring = m.ring; taken = m.taken; waiting = m.waiting; ups = c.push.new.ups; lost = true } in
    let is : IsPast f g = record { profile = past.profile; point = past.point; ring = past.ring; ring_room = past.ring_room; taken = past.taken; waiting = past.waiting } in
    let told : HasTold f g (up.Lost f.point ∷ []) = record {
      ups = c.push.ensures.items ∙ ap (λ us. us.items ++ up.Lost f.point ∷ []) c.pass_first.ensures.ups;
      room = c.push.ensures.capacity ∙ ap (λ us. deque_capacity us) c.pass_first.ensures.ups;
    } in
    lost_room f g (up.Lost f.point) is told

pub returns-clause-state : goal.returns-clause-state
returns-clause-state c = λ s stands.
    let f = c.args.self.now in
    let m = c.pass_first.new.self in
    let past = c.pass_first.ensures.past in
    let g : Front = record { profile = m.profile; point = m.point; ring = m.ring; taken = m.taken; waiting = m.waiting; ups = c.push.new.ups; lost = true } in
    let is : IsPast f g = record { profile = past.profile; point = past.point; ring = past.ring; ring_room = past.ring_room; taken = past.taken; waiting = past.waiting } in
    let told : HasTold f g (up.Lost f.point ∷ []) = record {
      ups = c.push.ensures.items ∙ ap (λ us. us.items ++ up.Lost f.point ∷ []) c.pass_first.ensures.ups;
      room = c.push.ensures.capacity ∙ ap (λ us. deque_capacity us) c.pass_first.ensures.ups;
    } in
    lost_stands f g s c.requires.front is told refl stands
