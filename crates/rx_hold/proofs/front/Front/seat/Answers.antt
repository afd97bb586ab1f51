use Rattle.std.proofs.Common.{◌+◌, refl, ap, arith}
use Rattle.std.specs.Prelude.{Some}
use Rattle.rx_hold.specs.FrontSound.{view_states}
use Rattle.rx_hold.proofs.SeatLemmas.{set_here, states_set}
use Rattle.rx_hold.proofs.TakeLemmas.{taken_sound}
use Rattle.rx_hold.proofs.front.Front.seat.Goals as goal

pub returns-clause-sound : goal.returns-clause-sound
returns-clause-sound c =
    taken_sound c.args.self.now _ c.args.place c.args.seat c.requires.front refl refl refl c.requires.free (omega (arith, c.requires.place, c.requires.front.places)) refl c.requires.new
    (ap (λ n. c.args.self.now.taken + n) c.requires.octets) (omega (arith, c.requires.within)) refl (omega (arith, c.requires.room))

pub returns-clause-view : goal.returns-clause-view
returns-clause-view c = ap (view_states c.args.self.now) (states_set c.args.self.now.ring.items c.args.place (Some c.args.seat))

pub returns-clause-there : goal.returns-clause-there
returns-clause-there c = set_here c.args.self.now.ring.items c.args.place (Some c.args.seat) (omega (arith, c.requires.place, c.requires.front.places))
