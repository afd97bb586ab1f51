use Rattle.std.proofs.Common.{◌≡◌, ◌++◌, ◌∷◌, [], sym, ap, ◌∙◌, subst, Option}
use Rattle.std.specs.Prelude.{MatchOption}
use Rattle.std.specs.VecDeque.{deque_capacity}
use Rattle.rx_object.specs.ObjectState.{ObjectState}
use Rattle.rx_hold.specs.Handing.{HasTold, IsPast, object_of, up_of}
use Rattle.rx_hold.specs.declared.front.Front.{Front}
use Rattle.rx_hold.specs.declared.ring.Seat.{Seat}
use Rattle.rx_hold.proofs.WholeLemmas.{first_octets, first_waiting, short_none, whole_fewer, whole_hands, whole_last, whole_room, whole_sound}
use Rattle.rx_hold.proofs.front.Front.hand_up_object.Goals as goal

pub returns-then-not-is_whole_first-clause-state : goal.returns-then-not-is_whole_first-clause-state
returns-then-not-is_whole_first-clause-state c = λ s stands.
    (short_none c.args.self.now s c.requires.front c.requires.object (sym c.is_whole_first.ensures ∙ c.if-not-is_whole_first.true) stands, stands)

pub returns-then-not-is_whole_first-clause-settled : goal.returns-then-not-is_whole_first-clause-settled
returns-then-not-is_whole_first-clause-settled c = λ none s stands.
    short_none c.args.self.now s c.requires.front c.requires.object (sym c.is_whole_first.ensures ∙ c.if-not-is_whole_first.true) stands

pub pass_first-first-requires-clause-octets : goal.pass_first-first-requires-clause-octets
pass_first-first-requires-clause-octets c = first_octets c.args.self.now c.requires.front

pub pass_first-first-requires-clause-waiting : goal.pass_first-first-requires-clause-waiting
pass_first-first-requires-clause-waiting c = first_waiting c.args.self.now c.requires.front

pub pass_first-first-requires-clause-last : goal.pass_first-first-requires-clause-last
pass_first-first-requires-clause-last c = whole_last c.args.self.now c.requires.front (sym c.is_whole_first.ensures ∙ c.if-not-is_whole_first.false)

pub returns-clause-sound : goal.returns-clause-sound
returns-clause-sound c =
    let f = c.args.self.now in
    let m = c.pass_first-first.new.self in
    let past = c.pass_first-first.ensures.past in
    let u = c.up_at.result in
    let g : Front = record { profile = m.profile; point = m.point; ring = m.ring; taken = m.taken; waiting = m.waiting; ups = c.push.new.ups; lost = m.lost } in
    let whole = sym c.is_whole_first.ensures ∙ c.if-not-is_whole_first.false in
    let news = subst (λ (place : Option Seat). MatchOption (object_of place) ⊥ (λ (x : ObjectState). u ≡ up_of x)) c.pass_first-first.ensures.first c.up_at.ensures in
    let is : IsPast f g = record { profile = past.profile; point = past.point; ring = past.ring; ring_room = past.ring_room; taken = past.taken; waiting = past.waiting } in
    let told : HasTold f g (u ∷ []) = record { ups = c.push.ensures.items ∙ ap (λ us. us.items ++ u ∷ []) c.pass_first-first.ensures.ups; room = c.push.ensures.capacity ∙ ap (λ us. deque_capacity us) c.pass_first-first.ensures.ups } in
    whole_sound f g c.requires.front u whole news is told c.pass_first-first.ensures.lost

pub returns-clause-room : goal.returns-clause-room
returns-clause-room c =
    let f = c.args.self.now in
    let m = c.pass_first-first.new.self in
    let past = c.pass_first-first.ensures.past in
    let u = c.up_at.result in
    let g : Front = record { profile = m.profile; point = m.point; ring = m.ring; taken = m.taken; waiting = m.waiting; ups = c.push.new.ups; lost = m.lost } in
    let whole = sym c.is_whole_first.ensures ∙ c.if-not-is_whole_first.false in
    let news = subst (λ (place : Option Seat). MatchOption (object_of place) ⊥ (λ (x : ObjectState). u ≡ up_of x)) c.pass_first-first.ensures.first c.up_at.ensures in
    let is : IsPast f g = record { profile = past.profile; point = past.point; ring = past.ring; ring_room = past.ring_room; taken = past.taken; waiting = past.waiting } in
    let told : HasTold f g (u ∷ []) = record { ups = c.push.ensures.items ∙ ap (λ us. us.items ++ u ∷ []) c.pass_first-first.ensures.ups; room = c.push.ensures.capacity ∙ ap (λ us. deque_capacity us) c.pass_first-first.ensures.ups } in
    whole_room f g c.requires.front u whole news is told c.pass_first-first.ensures.lost

pub returns-clause-fewer : goal.returns-clause-fewer
returns-clause-fewer c = λ yes.
    let f = c.args.self.now in
    let m = c.pass_first-first.new.self in
    let past = c.pass_first-first.ensures.past in
    let u = c.up_at.result in
    let g : Front = record { profile = m.profile; point = m.point; ring = m.ring; taken = m.taken; waiting = m.waiting; ups = c.push.new.ups; lost = m.lost } in
    let whole = sym c.is_whole_first.ensures ∙ c.if-not-is_whole_first.false in
    let news = subst (λ (place : Option Seat). MatchOption (object_of place) ⊥ (λ (x : ObjectState). u ≡ up_of x)) c.pass_first-first.ensures.first c.up_at.ensures in
    let is : IsPast f g = record { profile = past.profile; point = past.point; ring = past.ring; ring_room = past.ring_room; taken = past.taken; waiting = past.waiting } in
    let told : HasTold f g (u ∷ []) = record { ups = c.push.ensures.items ∙ ap (λ us. us.items ++ u ∷ []) c.pass_first-first.ensures.ups; room = c.push.ensures.capacity ∙ ap (λ us. deque_capacity us) c.pass_first-first.ensures.ups } in
    whole_fewer f g c.requires.front u whole news is told c.pass_first-first.ensures.lost

pub returns-clause-state : goal.returns-clause-state
returns-clause-state c =
    let f = c.args.self.now in
    let m = c.pass_first-first.new.self in
    let past = c.pass_first-first.ensures.past in
    let u = c.up_at.result in
    let g : Front = record { profile = m.profile; point = m.point; ring = m.ring; taken = m.taken; waiting = m.waiting; ups = c.push.new.ups; lost = m.lost } in
    let whole = sym c.is_whole_first.ensures ∙ c.if-not-is_whole_first.false in
    let news = subst (λ (place : Option Seat). MatchOption (object_of place) ⊥ (λ (x : ObjectState). u ≡ up_of x)) c.pass_first-first.ensures.first c.up_at.ensures in
    let is : IsPast f g = record { profile = past.profile; point = past.point; ring = past.ring; ring_room = past.ring_room; taken = past.taken; waiting = past.waiting } in
    let told : HasTold f g (u ∷ []) = record { ups = c.push.ensures.items ∙ ap (λ us. us.items ++ u ∷ []) c.pass_first-first.ensures.ups; room = c.push.ensures.capacity ∙ ap (λ us. deque_capacity us) c.pass_first-first.ensures.ups } in
    whole_hands f g c.requires.front u whole news is told c.pass_first-first.ensures.lost
