use Rattle.std.proofs.Common.{◌-◌, ap, arith}
use Rattle.fec_plan.specs.Payload.{Name}
use Rattle.rx_hold.specs.FrontSound.{front_view}
use Rattle.rx_hold.proofs.ReadLemmas.{if_ok, past_end, put_away, put_earlier, put_moved}
use Rattle.rx_hold.proofs.front.Front.put.Goals as goal

pub returns-then-place-ge-PLACES-clause-state : goal.returns-then-place-ge-PLACES-clause-state
returns-then-place-ge-PLACES-clause-state c = λ s stands. (
  put_away c.args.self.now s c.args.index c.requires.front stands
      (c.is_over.ensures.ahead c.if-is_over.false) c.args.id.block c.args.id.symbol c.args.payload.now
      (past_end c.args.self.now.ring.items _ (omega (arith, c.if-place-ge-PLACES.true, c.requires.front.places))),
  stands,
)

pub returns-then-id-first_block-clause-state : goal.returns-then-id-first_block-clause-state
returns-then-id-first_block-clause-state c = λ s stands. (
  put_earlier c.args.self.now s c.args.index c.args.id.block c.args.id.symbol c.args.payload.now c.requires.front stands
      (c.is_over.ensures.ahead c.if-is_over.false)
      (omega (arith, c.if-place-eq0.true)) (omega (arith, c.if-id-first_block.true, c.first_block.ensures, ap (λ (x : Name). x.block) c.id.view_is)),
  stands,
)

pub returns-clause-state : goal.returns-clause-state
returns-clause-state c =
    if_ok _ _ c.offer.result _ _
    (λ word is s stands. put_moved c.args.self.now c.reserve.new.self (front_view c.offer.new.self) c.args.index (c.args.index - c.args.self.now.point) c.args.id.block c.args.id.symbol c.args.payload.now word
    c.reserve.ensures.view c.reserve.ensures.profile (omega (
      arith,
      c.reserve.ensures.point,
      (c.is_over.ensures.ahead c.if-is_over.false),
    )) is s stands)
    c.offer.ensures.state
