use Rattle.std.proofs.Common.{◌≡◌, ap, arith}
use Rattle.nack_union.specs.Kept.{moved_front, any_gone}
use Rattle.nack_union.proofs.collection.Collection.move_to.Goals as goal

pub returns-then-block-eq0-clause-exact : goal.returns-then-block-eq0-clause-exact
returns-then-block-eq0-clause-exact c = ap (λ n. record (c.args.self.now) { objects = moved_front n c.args.self.now.objects }) (let e : 0 ≡ c.args.block = let is = c.if-block-eq0.true in omega (arith, is) in e)

pub returns-then-block-eq0-clause-gone : goal.returns-then-block-eq0-clause-gone
returns-then-block-eq0-clause-gone c = ap (λ n. any_gone n c.args.self.now.objects) (let e : 0 ≡ c.args.block = let is = c.if-block-eq0.true in omega (arith, is) in e)

pub move_first-requires-clause-first : goal.move_first-requires-clause-first
move_first-requires-clause-first c = c.requires.first (let ne = c.if-block-eq0.false in omega (arith, ne))
