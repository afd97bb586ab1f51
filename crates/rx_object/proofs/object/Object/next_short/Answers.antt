use Rattle.std.proofs.Common.{◌≡◌, ◌+◌, false, subst, sym, arith}
use Rattle.norm_receive_rules.specs.Plans.{is_done}
use Rattle.rx_object.specs.ObjectState.{ObjectState, alone}
use Rattle.rx_object.proofs.ObjectLemmas.{in_plan, short_from, short_is}
use Rattle.rx_object.proofs.object.Object.next_short.Goals as goal

pub next-requires : goal.next-requires
next-requires c = record {
  reached = let start = c.self.invariant.shorts.start in omega (arith, start);
  short = short_is c.self.inside c.args.block c.self.invariant (in_plan c.self.inside c.args.self.now c.args.block c.self.invariant c.self.view_is c.requires.block)
      (subst (λ (o : ObjectState). is_done (alone o) o.plan c.args.block ≡ false) (sym c.self.view_is) c.requires.short);
}

pub returns : goal.returns
returns c = short_from c.self.inside c.args.self.now (c.args.block + 1) c.next.result c.self.invariant c.self.view_is c.next.ensures
