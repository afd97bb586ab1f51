use Rattle.std.proofs.Common.{◌∙◌, sym, refl, true, false}
use Rattle.driven_nodes.proofs.GatherLemmas.{delivered}
use Rattle.driven_nodes.proofs.gathering.Gathering.deliver.Goals as goal

-- no draw was used
pub returns-then-not-is_some-clause-goes : goal.returns-then-not-is_some-clause-goes
returns-then-not-is_some-clause-goes c =
    let old = c.args.self.now in
    delivered false c.in_ok-owner.owner c.args.octets.now c.args.now old (record old { multi = c.deliver.new.self })
    c.in_ok-owner.ensures.owner c.in_ok-owner.ensures.call (sym c.is_some.ensures ∙ c.if-not-is_some.true) (refl, refl) refl refl

-- a draw was used
pub returns-clause-goes : goal.returns-clause-goes
returns-clause-goes c =
    let old = c.args.self.now in
    delivered true c.in_ok-owner.owner c.args.octets.now c.args.now old (record old { multi = c.deliver.new.self; draw = c.next_draw-self.result; draws = c.next_draw-self.new.draws })
    c.in_ok-owner.ensures.owner c.in_ok-owner.ensures.call (sym c.is_some.ensures ∙ c.if-not-is_some.false) (c.next_draw-self.ensures.word, c.next_draw-self.ensures.rest) refl refl
