use Rattle.std.proofs.Common.{refl, arith}
use Rattle.rx_hold.proofs.SeenLemmas.{informed_sound, informed_stands, kinds_at, uninformed}
use Rattle.rx_hold.proofs.front.Front.put_info.Goals as goal

pub put_info_at-requires-clause-kind : goal.put_info_at-requires-clause-kind
put_info_at-requires-clause-kind c = kinds_at c.args.self.now c.args.place c.requires.front

pub put_info_at-requires-clause-new : goal.put_info_at-requires-clause-new
put_info_at-requires-clause-new c = uninformed c.args.self.now c.args.place c.requires.new

pub returns-clause-sound : goal.returns-clause-sound
returns-clause-sound c =
    informed_sound c.args.self.now (record { profile = c.args.self.now.profile; point = c.args.self.now.point; ring = c.put_info_at.new.ring; taken = c.args.self.now.taken; waiting = c.args.self.now.waiting; ups = c.args.self.now.ups; lost = c.args.self.now.lost }) c.args.place c.args.info c.requires.front
    (record { profile = refl; point = refl; ring_room = c.put_info_at.ensures.capacity; taken = refl; ups = refl; lost = refl }) c.put_info_at.ensures.items refl

pub returns-clause-state : goal.returns-clause-state
returns-clause-state c = λ s stands.
    informed_stands c.args.self.now s c.args.place c.requires.front stands (omega (arith, c.requires.place, c.requires.front.places)) (record { profile = c.args.self.now.profile; point = c.args.self.now.point; ring = c.put_info_at.new.ring; taken = c.args.self.now.taken; waiting = c.args.self.now.waiting; ups = c.args.self.now.ups; lost = c.args.self.now.lost }) c.args.info
    (record { profile = refl; point = refl; ring_room = c.put_info_at.ensures.capacity; taken = refl; ups = refl; lost = refl }) c.requires.new c.put_info_at.ensures.items
