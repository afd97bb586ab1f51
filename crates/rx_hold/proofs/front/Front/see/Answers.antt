use Rattle.std.proofs.Common.{refl, arith}
use Rattle.rx_hold.proofs.SeenLemmas.{kinds_at, seen_sound, seen_stands}
use Rattle.rx_hold.proofs.front.Front.see.Goals as goal

pub see_at-requires-clause-kind : goal.see_at-requires-clause-kind
see_at-requires-clause-kind c = kinds_at c.args.self.now c.args.place c.requires.front

pub returns-clause-sound : goal.returns-clause-sound
returns-clause-sound c =
    seen_sound c.args.self.now (record { profile = c.args.self.now.profile; point = c.args.self.now.point; ring = c.see_at.new.ring; taken = c.args.self.now.taken; waiting = c.args.self.now.waiting; ups = c.args.self.now.ups; lost = c.args.self.now.lost }) c.args.place c.args.block c.requires.front
    (record { profile = refl; point = refl; ring_room = c.see_at.ensures.capacity; taken = refl; ups = refl; lost = refl }) c.see_at.ensures.items refl

pub returns-clause-state : goal.returns-clause-state
returns-clause-state c = λ s stands.
    seen_stands c.args.self.now s c.args.place c.requires.front stands (omega (arith, c.requires.place, c.requires.front.places)) (record { profile = c.args.self.now.profile; point = c.args.self.now.point; ring = c.see_at.new.ring; taken = c.args.self.now.taken; waiting = c.args.self.now.waiting; ups = c.args.self.now.ups; lost = c.args.self.now.lost }) c.args.block
    (record { profile = refl; point = refl; ring_room = c.see_at.ensures.capacity; taken = refl; ups = refl; lost = refl }) c.see_at.ensures.items
