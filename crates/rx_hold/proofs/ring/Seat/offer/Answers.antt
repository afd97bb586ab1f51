use Rattle.std.proofs.Common.{◌+◌, ◌∙◌, ap, arith}
use Rattle.rx_hold.specs.Seats.{counted}
use Rattle.rx_hold.proofs.SeatLemmas.{counted_few}
use Rattle.rx_hold.proofs.ring.Seat.offer.Goals as goal

pub overflow_add-self : goal.overflow_add-self
overflow_add-self c = omega (arith, c.requires.count, c.counted.ensures, counted_few c.says_stream-is_stream.result c.in_ok-word.word)

pub returns-clause-offered : goal.returns-clause-offered
returns-clause-offered c = record { entry = c.in_ok-word.ensures.state; kind = c.in_ok-word.ensures.kind; waiting = ap (λ n. c.args.self.now.waiting + n) (c.counted.ensures ∙ ap (λ stream. counted stream c.in_ok-word.word) c.says_stream-is_stream.ensures) }
