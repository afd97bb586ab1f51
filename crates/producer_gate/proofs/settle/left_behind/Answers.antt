use Rattle.std.proofs.Common.{◌≡◌, ℕ, ◌-◌, ◌==◌, length, count_by, ap, ◌∙◌, arith}
use Rattle.crossbeam_queue.specs.Passes.{view}
use Rattle.producer_gate.specs.Commands.{of_producer}
use Rattle.producer_gate.specs.Inside.{pulled_in, items_in}
use Rattle.producer_gate.specs.Seats.{left_of}
use Rattle.producer_gate.proofs.RingCalls.{merges, learns, compared}
use Rattle.producer_gate.proofs.Names.{count_is}
use Rattle.producer_gate.proofs.settle.left_behind.Goals as goal

pub absorb-requires-clause-rule : goal.absorb-requires-clause-rule
absorb-requires-clause-rule c = merges _ _ _ _ _ _ c.requires.ring.1 c.seat.invariant.1

pub learn_as-requires-clause-rule : goal.learn_as-requires-clause-rule
learn_as-requires-clause-rule c = learns _ _ _ _ _ _ c.requires.ring.1 c.seat.invariant.1 c.absorb.ensures.rule

pub overflow_sub-result : goal.overflow_sub-result
overflow_sub-result c =
    let s = c.seat.inside in
    let front = compared _ _ _ _ _ c.requires.ring.1 c.seat.invariant.1 c.absorb.ensures.rule c.learn_as.ensures.rule in
    let n : c.count_of-pulled.result ≡ length (of_producer s.producer (pulled_in (view c.args.pull.now))) =
    c.count_of-pulled.ensures ∙ ap (count_by (λ (e : ℕ × ℕ). e.0 == s.producer)) c.requires.names ∙ count_is s.producer (pulled_in (view c.args.pull.now)) in
    let most = front.0 in
    let count = c.seat.invariant.2 in
    omega (arith, n, most, count)

pub returns-clause-left : goal.returns-clause-left
returns-clause-left c =
    let s = c.seat.inside in
    let pulled = pulled_in (view c.args.pull.now) in
    let n : c.count_of-pulled.result ≡ length (of_producer s.producer pulled) =
    c.count_of-pulled.ensures ∙ ap (count_by (λ (e : ℕ × ℕ). e.0 == s.producer)) c.requires.names ∙ count_is s.producer pulled in
    let count = c.seat.invariant.2 in
    let few = c.seat.invariant.3 in
    let rest : ℕ = s.count - c.count_of-pulled.result in
    let here : rest ≡ length (items_in (view s.pass)) - length (of_producer s.producer pulled) = omega (arith, n, count) in
    (here ∙ ap (left_of pulled) c.seat.view_is, omega (arith, few))
