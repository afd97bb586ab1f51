use Rattle.std.proofs.Common.{◌-◌, ◌++◌, ap, ◌∙◌, arith, List, ℕ, length, take, drop}
use Rattle.obj_buffer.proofs.PieceLemmas.{range_is}
use Rattle.tx_object.specs.Round.{round}
use Rattle.tx_object.proofs.ring.Ring.pieces.Goals as goal

pub returns-clause-octets : goal.returns-clause-octets
returns-clause-octets c =
    let ring = c.self.inside.octets.items in
    let n = c.min-in_front.result in
    ap (λ (xs : List ℕ). xs ++ c.split_at-3.result.0.now) (c.split_at-2.ensures.front ∙ ap (take n) (c.split_at.ensures.back ∙ ap (drop c.args.start) c.as_slice.ensures.value))
    ∙ ap (λ (xs : List ℕ). take n (drop c.args.start ring) ++ xs) (c.split_at-3.ensures.front ∙ ap (take (c.args.len - n)) c.as_slice-2.ensures.value)
    ∙ range_is ring ring c.args.start c.args.len c.args.start n 0 (omega (arith, ap length c.self.view_is)) (omega (arith, c.min-in_front.ensures, c.split_at.ensures.back_len, ap length c.as_slice.ensures.value)) (omega (arith, ap length c.self.view_is))
    ∙ ap (λ (xs : List ℕ). round xs c.args.start c.args.len) c.self.view_is
