use Rattle.std.proofs.Common.{◌-◌, refl, sym, ◌∙◌, subst, arith, Option, Some}
use Rattle.norm_order.specs.declared.up.Up.{Up}
use Rattle.rx_hold.specs.EntryHold.{EntryHold, StandsFor, at_place}
use Rattle.rx_hold.specs.Handing.{HasTold, told_ups, told_with}
use Rattle.rx_hold.specs.declared.front.Front.{Front}
use Rattle.rx_hold.proofs.ChangeLemmas.{IsChanged}
use Rattle.rx_hold.proofs.PutLemmas.{refused_sound, refused_view}
use Rattle.rx_hold.proofs.SegmentLemmas.{Came, IsOn, may_tell_all, stuck_none, stuck_same, went}
use Rattle.rx_hold.proofs.OnLemmas.{end_last, end_octets, end_waiting, ends_fewer, ends_hands, ends_room, ends_sound, goes_fewer, goes_hands, goes_room, goes_sound}
use Rattle.rx_hold.proofs.front.Front.hand_up_stream.Goals as goal

pub returns-in_default-clause-sound : goal.returns-in_default-clause-sound
returns-in_default-clause-sound c =
    let f = c.args.self.now in
    let came = subst (λ (r : Option Up). Came f.ring.items c.told_with-told.result r c.hand_on.new.ring.items (at_place f.ring.items 0)) c.in_default.is c.hand_on.ensures.items in
    let same = stuck_same f c.told_with-told.result c.hand_on.new.ring.items c.requires.front c.requires.stream came in
    let g : Front = record { profile = f.profile; point = f.point; ring = c.hand_on.new.ring; taken = f.taken; waiting = f.waiting; ups = f.ups; lost = f.lost } in
    let is : IsChanged f g = record { profile = refl; point = refl; ring_room = c.hand_on.ensures.capacity; taken = refl; ups = refl; lost = refl } in
    refused_sound f g 0 c.requires.front is same refl

pub returns-in_default-clause-state : goal.returns-in_default-clause-state
returns-in_default-clause-state c = λ s stands.
    let f = c.args.self.now in
    let came = subst (λ (r : Option Up). Came f.ring.items c.told_with-told.result r c.hand_on.new.ring.items (at_place f.ring.items 0)) c.in_default.is c.hand_on.ensures.items in
    let same = stuck_same f c.told_with-told.result c.hand_on.new.ring.items c.requires.front c.requires.stream came in
    let g : Front = record { profile = f.profile; point = f.point; ring = c.hand_on.new.ring; taken = f.taken; waiting = f.waiting; ups = f.ups; lost = f.lost } in
    let is : IsChanged f g = record { profile = refl; point = refl; ring_room = c.hand_on.ensures.capacity; taken = refl; ups = refl; lost = refl } in (
      stuck_none f c.told_with-told.result c.hand_on.new.ring.items s c.requires.front c.requires.stream came stands,
      subst (λ (h : EntryHold). StandsFor h s) (sym (refused_view f g 0 is same)) stands,
    )

pub returns-in_default-clause-settled : goal.returns-in_default-clause-settled
returns-in_default-clause-settled c = λ none s stands.
    let f = c.args.self.now in
    let came = subst (λ (r : Option Up). Came f.ring.items c.told_with-told.result r c.hand_on.new.ring.items (at_place f.ring.items 0)) c.in_default.is c.hand_on.ensures.items in
    let same = stuck_same f c.told_with-told.result c.hand_on.new.ring.items c.requires.front c.requires.stream came in
    let g : Front = record { profile = f.profile; point = f.point; ring = c.hand_on.new.ring; taken = f.taken; waiting = f.waiting; ups = f.ups; lost = f.lost } in
    let is : IsChanged f g = record { profile = refl; point = refl; ring_room = c.hand_on.ensures.capacity; taken = refl; ups = refl; lost = refl } in
    stuck_none f c.told_with-told.result c.hand_on.new.ring.items s c.requires.front c.requires.stream came
    (subst (λ (h : EntryHold). StandsFor h s) (refused_view f g 0 is same) stands)

pub overflow_sub-self : goal.overflow_sub-self
overflow_sub-self c =
    let few = may_tell_all c.args.self.now c.requires.front c.is_at_start-opens.result c.is_at_start-opens.ensures c.requires.stream in
    omega (arith, few, c.told_with-told.ensures)

pub tell-requires : goal.tell-requires
tell-requires c =
    let few = may_tell_all c.args.self.now c.requires.front c.is_at_start-opens.result c.is_at_start-opens.ensures c.requires.stream in
    omega (arith, few, c.requires.front.room)

pub pass_first-requires-clause-octets : goal.pass_first-requires-clause-octets
pass_first-requires-clause-octets c =
    let f = c.args.self.now in
    let opens = c.is_at_start-opens.result in
    let start = c.is_at_start-opens.ensures in
    let u = c.in-Some.up in
    let w = went f (told_with opens) (Some u) c.hand_on.new.ring.items c.requires.stream
    (subst (λ n. Came f.ring.items n (Some u) c.hand_on.new.ring.items (at_place f.ring.items 0)) c.told_with-told.ensures c.in-Some.ensures.items) in
    let few = may_tell_all f c.requires.front opens start c.requires.stream in
    let m : Front = (record { profile = f.profile; point = f.point; ring = c.hand_on.new.ring; taken = f.taken; waiting = f.waiting - c.told_with-told.result; ups = c.tell.new.ups; lost = f.lost }) in
    let is : IsOn f m (told_with opens) =
    record { profile = refl; point = refl; ring_room = c.hand_on.ensures.capacity; taken = refl; waiting = omega (arith, c.told_with-told.ensures, few); lost = refl } in
    let told : HasTold f m (told_ups opens f.point u) = record { ups = c.tell.ensures.items; room = c.tell.ensures.capacity } in
    end_octets f m c.requires.front opens start u w is told (sym c.is_end-ends.ensures ∙ c.if-ends.true)

pub pass_first-requires-clause-waiting : goal.pass_first-requires-clause-waiting
pass_first-requires-clause-waiting c =
    let f = c.args.self.now in
    let opens = c.is_at_start-opens.result in
    let start = c.is_at_start-opens.ensures in
    let u = c.in-Some.up in
    let w = went f (told_with opens) (Some u) c.hand_on.new.ring.items c.requires.stream
    (subst (λ n. Came f.ring.items n (Some u) c.hand_on.new.ring.items (at_place f.ring.items 0)) c.told_with-told.ensures c.in-Some.ensures.items) in
    let few = may_tell_all f c.requires.front opens start c.requires.stream in
    let m : Front = (record { profile = f.profile; point = f.point; ring = c.hand_on.new.ring; taken = f.taken; waiting = f.waiting - c.told_with-told.result; ups = c.tell.new.ups; lost = f.lost }) in
    let is : IsOn f m (told_with opens) =
    record { profile = refl; point = refl; ring_room = c.hand_on.ensures.capacity; taken = refl; waiting = omega (arith, c.told_with-told.ensures, few); lost = refl } in
    let told : HasTold f m (told_ups opens f.point u) = record { ups = c.tell.ensures.items; room = c.tell.ensures.capacity } in
    end_waiting f m c.requires.front opens start u w is told (sym c.is_end-ends.ensures ∙ c.if-ends.true)

pub pass_first-requires-clause-last : goal.pass_first-requires-clause-last
pass_first-requires-clause-last c =
    let f = c.args.self.now in
    let opens = c.is_at_start-opens.result in
    let start = c.is_at_start-opens.ensures in
    let u = c.in-Some.up in
    let w = went f (told_with opens) (Some u) c.hand_on.new.ring.items c.requires.stream
    (subst (λ n. Came f.ring.items n (Some u) c.hand_on.new.ring.items (at_place f.ring.items 0)) c.told_with-told.ensures c.in-Some.ensures.items) in
    let few = may_tell_all f c.requires.front opens start c.requires.stream in
    let m : Front = (record { profile = f.profile; point = f.point; ring = c.hand_on.new.ring; taken = f.taken; waiting = f.waiting - c.told_with-told.result; ups = c.tell.new.ups; lost = f.lost }) in
    let is : IsOn f m (told_with opens) =
    record { profile = refl; point = refl; ring_room = c.hand_on.ensures.capacity; taken = refl; waiting = omega (arith, c.told_with-told.ensures, few); lost = refl } in
    let told : HasTold f m (told_ups opens f.point u) = record { ups = c.tell.ensures.items; room = c.tell.ensures.capacity } in
    end_last f m c.requires.front opens start u w is told (sym c.is_end-ends.ensures ∙ c.if-ends.true)

pub returns-then-ends-clause-sound : goal.returns-then-ends-clause-sound
returns-then-ends-clause-sound c =
    let f = c.args.self.now in
    let opens = c.is_at_start-opens.result in
    let start = c.is_at_start-opens.ensures in
    let u = c.in-Some.up in
    let w = went f (told_with opens) (Some u) c.hand_on.new.ring.items c.requires.stream
    (subst (λ n. Came f.ring.items n (Some u) c.hand_on.new.ring.items (at_place f.ring.items 0)) c.told_with-told.ensures c.in-Some.ensures.items) in
    let few = may_tell_all f c.requires.front opens start c.requires.stream in
    let m : Front = (record { profile = f.profile; point = f.point; ring = c.hand_on.new.ring; taken = f.taken; waiting = f.waiting - c.told_with-told.result; ups = c.tell.new.ups; lost = f.lost }) in
    let is : IsOn f m (told_with opens) =
    record { profile = refl; point = refl; ring_room = c.hand_on.ensures.capacity; taken = refl; waiting = omega (arith, c.told_with-told.ensures, few); lost = refl } in
    let told : HasTold f m (told_ups opens f.point u) = record { ups = c.tell.ensures.items; room = c.tell.ensures.capacity } in
    ends_sound f m c.requires.front opens start u w is told (sym c.is_end-ends.ensures ∙ c.if-ends.true) c.pass_first.new.self c.pass_first.ensures.past c.pass_first.ensures.ups c.pass_first.ensures.lost

pub returns-then-ends-clause-room : goal.returns-then-ends-clause-room
returns-then-ends-clause-room c =
    let f = c.args.self.now in
    let opens = c.is_at_start-opens.result in
    let start = c.is_at_start-opens.ensures in
    let u = c.in-Some.up in
    let w = went f (told_with opens) (Some u) c.hand_on.new.ring.items c.requires.stream
    (subst (λ n. Came f.ring.items n (Some u) c.hand_on.new.ring.items (at_place f.ring.items 0)) c.told_with-told.ensures c.in-Some.ensures.items) in
    let few = may_tell_all f c.requires.front opens start c.requires.stream in
    let m : Front = (record { profile = f.profile; point = f.point; ring = c.hand_on.new.ring; taken = f.taken; waiting = f.waiting - c.told_with-told.result; ups = c.tell.new.ups; lost = f.lost }) in
    let is : IsOn f m (told_with opens) =
    record { profile = refl; point = refl; ring_room = c.hand_on.ensures.capacity; taken = refl; waiting = omega (arith, c.told_with-told.ensures, few); lost = refl } in
    let told : HasTold f m (told_ups opens f.point u) = record { ups = c.tell.ensures.items; room = c.tell.ensures.capacity } in
    ends_room f m c.requires.front opens start u w is told (sym c.is_end-ends.ensures ∙ c.if-ends.true) c.pass_first.new.self c.pass_first.ensures.past c.pass_first.ensures.ups c.pass_first.ensures.lost

pub returns-then-ends-clause-fewer : goal.returns-then-ends-clause-fewer
returns-then-ends-clause-fewer c = λ yes.
    let f = c.args.self.now in
    let opens = c.is_at_start-opens.result in
    let start = c.is_at_start-opens.ensures in
    let u = c.in-Some.up in
    let w = went f (told_with opens) (Some u) c.hand_on.new.ring.items c.requires.stream
    (subst (λ n. Came f.ring.items n (Some u) c.hand_on.new.ring.items (at_place f.ring.items 0)) c.told_with-told.ensures c.in-Some.ensures.items) in
    let few = may_tell_all f c.requires.front opens start c.requires.stream in
    let m : Front = (record { profile = f.profile; point = f.point; ring = c.hand_on.new.ring; taken = f.taken; waiting = f.waiting - c.told_with-told.result; ups = c.tell.new.ups; lost = f.lost }) in
    let is : IsOn f m (told_with opens) =
    record { profile = refl; point = refl; ring_room = c.hand_on.ensures.capacity; taken = refl; waiting = omega (arith, c.told_with-told.ensures, few); lost = refl } in
    let told : HasTold f m (told_ups opens f.point u) = record { ups = c.tell.ensures.items; room = c.tell.ensures.capacity } in
    ends_fewer f m c.requires.front opens start u w is told (sym c.is_end-ends.ensures ∙ c.if-ends.true) c.pass_first.new.self c.pass_first.ensures.past c.pass_first.ensures.ups c.pass_first.ensures.lost

pub returns-then-ends-clause-state : goal.returns-then-ends-clause-state
returns-then-ends-clause-state c =
    let f = c.args.self.now in
    let opens = c.is_at_start-opens.result in
    let start = c.is_at_start-opens.ensures in
    let u = c.in-Some.up in
    let w = went f (told_with opens) (Some u) c.hand_on.new.ring.items c.requires.stream
    (subst (λ n. Came f.ring.items n (Some u) c.hand_on.new.ring.items (at_place f.ring.items 0)) c.told_with-told.ensures c.in-Some.ensures.items) in
    let few = may_tell_all f c.requires.front opens start c.requires.stream in
    let m : Front = (record { profile = f.profile; point = f.point; ring = c.hand_on.new.ring; taken = f.taken; waiting = f.waiting - c.told_with-told.result; ups = c.tell.new.ups; lost = f.lost }) in
    let is : IsOn f m (told_with opens) =
    record { profile = refl; point = refl; ring_room = c.hand_on.ensures.capacity; taken = refl; waiting = omega (arith, c.told_with-told.ensures, few); lost = refl } in
    let told : HasTold f m (told_ups opens f.point u) = record { ups = c.tell.ensures.items; room = c.tell.ensures.capacity } in
    ends_hands f m c.requires.front opens start u w is told (sym c.is_end-ends.ensures ∙ c.if-ends.true) c.pass_first.new.self c.pass_first.ensures.past c.pass_first.ensures.ups c.pass_first.ensures.lost

pub returns-clause-sound : goal.returns-clause-sound
returns-clause-sound c =
    let f = c.args.self.now in
    let opens = c.is_at_start-opens.result in
    let start = c.is_at_start-opens.ensures in
    let u = c.in-Some.up in
    let w = went f (told_with opens) (Some u) c.hand_on.new.ring.items c.requires.stream
    (subst (λ n. Came f.ring.items n (Some u) c.hand_on.new.ring.items (at_place f.ring.items 0)) c.told_with-told.ensures c.in-Some.ensures.items) in
    let few = may_tell_all f c.requires.front opens start c.requires.stream in
    let m : Front = (record { profile = f.profile; point = f.point; ring = c.hand_on.new.ring; taken = f.taken; waiting = f.waiting - c.told_with-told.result; ups = c.tell.new.ups; lost = f.lost }) in
    let is : IsOn f m (told_with opens) =
    record { profile = refl; point = refl; ring_room = c.hand_on.ensures.capacity; taken = refl; waiting = omega (arith, c.told_with-told.ensures, few); lost = refl } in
    let told : HasTold f m (told_ups opens f.point u) = record { ups = c.tell.ensures.items; room = c.tell.ensures.capacity } in
    goes_sound f m c.requires.front opens start u w is told (sym c.is_end-ends.ensures ∙ c.if-ends.false)

pub returns-clause-room : goal.returns-clause-room
returns-clause-room c =
    let f = c.args.self.now in
    let opens = c.is_at_start-opens.result in
    let start = c.is_at_start-opens.ensures in
    let u = c.in-Some.up in
    let w = went f (told_with opens) (Some u) c.hand_on.new.ring.items c.requires.stream
    (subst (λ n. Came f.ring.items n (Some u) c.hand_on.new.ring.items (at_place f.ring.items 0)) c.told_with-told.ensures c.in-Some.ensures.items) in
    let few = may_tell_all f c.requires.front opens start c.requires.stream in
    let m : Front = (record { profile = f.profile; point = f.point; ring = c.hand_on.new.ring; taken = f.taken; waiting = f.waiting - c.told_with-told.result; ups = c.tell.new.ups; lost = f.lost }) in
    let is : IsOn f m (told_with opens) =
    record { profile = refl; point = refl; ring_room = c.hand_on.ensures.capacity; taken = refl; waiting = omega (arith, c.told_with-told.ensures, few); lost = refl } in
    let told : HasTold f m (told_ups opens f.point u) = record { ups = c.tell.ensures.items; room = c.tell.ensures.capacity } in
    goes_room f m c.requires.front opens start u w is told (sym c.is_end-ends.ensures ∙ c.if-ends.false)

pub returns-clause-fewer : goal.returns-clause-fewer
returns-clause-fewer c = λ yes.
    let f = c.args.self.now in
    let opens = c.is_at_start-opens.result in
    let start = c.is_at_start-opens.ensures in
    let u = c.in-Some.up in
    let w = went f (told_with opens) (Some u) c.hand_on.new.ring.items c.requires.stream
    (subst (λ n. Came f.ring.items n (Some u) c.hand_on.new.ring.items (at_place f.ring.items 0)) c.told_with-told.ensures c.in-Some.ensures.items) in
    let few = may_tell_all f c.requires.front opens start c.requires.stream in
    let m : Front = (record { profile = f.profile; point = f.point; ring = c.hand_on.new.ring; taken = f.taken; waiting = f.waiting - c.told_with-told.result; ups = c.tell.new.ups; lost = f.lost }) in
    let is : IsOn f m (told_with opens) =
    record { profile = refl; point = refl; ring_room = c.hand_on.ensures.capacity; taken = refl; waiting = omega (arith, c.told_with-told.ensures, few); lost = refl } in
    let told : HasTold f m (told_ups opens f.point u) = record { ups = c.tell.ensures.items; room = c.tell.ensures.capacity } in
    goes_fewer f m c.requires.front opens start u w is told (sym c.is_end-ends.ensures ∙ c.if-ends.false)

pub returns-clause-state : goal.returns-clause-state
returns-clause-state c =
    let f = c.args.self.now in
    let opens = c.is_at_start-opens.result in
    let start = c.is_at_start-opens.ensures in
    let u = c.in-Some.up in
    let w = went f (told_with opens) (Some u) c.hand_on.new.ring.items c.requires.stream
    (subst (λ n. Came f.ring.items n (Some u) c.hand_on.new.ring.items (at_place f.ring.items 0)) c.told_with-told.ensures c.in-Some.ensures.items) in
    let few = may_tell_all f c.requires.front opens start c.requires.stream in
    let m : Front = (record { profile = f.profile; point = f.point; ring = c.hand_on.new.ring; taken = f.taken; waiting = f.waiting - c.told_with-told.result; ups = c.tell.new.ups; lost = f.lost }) in
    let is : IsOn f m (told_with opens) =
    record { profile = refl; point = refl; ring_room = c.hand_on.ensures.capacity; taken = refl; waiting = omega (arith, c.told_with-told.ensures, few); lost = refl } in
    let told : HasTold f m (told_ups opens f.point u) = record { ups = c.tell.ensures.items; room = c.tell.ensures.capacity } in
    goes_hands f m c.requires.front opens start u w is told (sym c.is_end-ends.ensures ∙ c.if-ends.false)
