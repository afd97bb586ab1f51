use Rattle.std.proofs.Common.{◌≡◌, ◌+◌, ◌-◌, arith, subst}
use Rattle.fec_plan.specs.Points.{point}
use Rattle.norm_receive_rules.specs.Seeing.{sees_block}
use Rattle.rx_hold.specs.EntryHold.{StandsFor}
use Rattle.rx_hold.specs.FrontSound.{front_view}
use Rattle.rx_hold.proofs.ReadLemmas.{past_end}
use Rattle.rx_hold.proofs.SeenLemmas.{seen_none, seen_over}
use Rattle.rx_hold.proofs.front.Front.see_block.Goals as goal

pub returns-then-is_over-clause-state : goal.returns-then-is_over-clause-state
returns-then-is_over-clause-state c = λ s stands. seen_over c.args.self.now s c.args.index c.args.block c.requires stands
    (c.is_over.ensures.over c.if-is_over.true)

pub returns-else-place-lt-PLACES-clause-state : goal.returns-else-place-lt-PLACES-clause-state
returns-else-place-lt-PLACES-clause-state c = λ s stands.
    let f = c.args.self.now in
    subst (λ n. StandsFor (front_view f) (sees_block (point n c.args.block) s)) (let at : f.point + (c.args.index - f.point) ≡ c.args.index = omega (
      arith,
      (c.is_over.ensures.ahead c.if-is_over.false),
    ) in at)
    (seen_none f s (c.args.index - f.point) c.requires stands c.args.block
    (past_end f.ring.items (c.args.index - f.point) (omega (arith, c.if-place-lt-PLACES.false, c.requires.places))))
