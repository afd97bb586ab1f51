use Rattle.std.proofs.Common.{◌≡◌, ◌≤◌, ℕ, List, length, true, false, sym, ap, subst, ◌∙◌, arith}
use Rattle.norm_order.specs.Shapes.{closed_in}
use Rattle.nack_union.specs.Repairs.{shape_closed}
use Rattle.nack_union.specs.Coverage.{Covered}
use Rattle.nack_union.proofs.Coverages.{covered_grown}
use Rattle.nack_union.proofs.Wholes.{full_grown}
use Rattle.nack_union.proofs.coverage.Coverage.grow.Goals as goal

more : (c : goal.After-self-3-1) → c.self.inside.closed ≤ c.args.closed
more c = let is = ap (λ (v : Covered). v.shape.closed) c.self.view_is in let le = c.requires.more in omega (arith, is, le)

pub invariant_of-self : goal.invariant_of-self
invariant_of-self c =
    let few = c.min-whole.ensures in
    record {
      most = c.self.invariant.most;
      within = c.self.invariant.within;
      size = c.self.invariant.size;
      behind = subst (λ (v : Covered). (block : ℕ) → v.room ≤ block → closed_in (shape_closed v.shape.cut c.args.closed) block ≡ 0) (sym c.self.view_is) c.requires.room;
      until = omega (arith, few);
      whole = λ block lt. c.whole_blocks.ensures.whole block (omega (arith, few, lt));
      runs = λ block lies. (full_grown c.self.inside.plan c.self.inside.closed c.args.closed block (more c) (c.self.invariant.runs block lies)).1;
      complete = λ e. absurd (clash e);
    }
  where
    clash : false ≡ true → ⊥
    clash h = cc

pub returns : goal.returns
returns c =
    ap now (covered_grown c.self.inside.plan c.self.inside.closed c.args.closed c.self.inside.ends.items c.self.inside.alone.members (more c) c.self.invariant.runs)
    ∙ ap (λ (v : Covered). record v { shape = shape_closed v.shape.cut c.args.closed }) c.self.view_is
  where
    now : List ℕ → Covered
    now members = record { shape = shape_closed c.self.inside.plan c.args.closed; room = length c.self.inside.ends.items; members = members }
