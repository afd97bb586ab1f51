use Rattle.std.proofs.Common.{refl, ℕ, ◌-◌, ap, sym, subst, ◌∙◌, Option, Some}
use Rattle.std.specs.Prelude.{IsSome}
use Rattle.fec_plan.specs.Partition.{Cut, all_symbols, blocks, source_symbols}
use Rattle.fec_plan.specs.Points.{position}
use Rattle.norm_order.specs.Shapes.{last_in}
use Rattle.tx_object.specs.Held.{HeldObject}
use Rattle.tx_object.proofs.HeldLemmas.{last_is}
use Rattle.tx_object.proofs.held.Held.last.Goals as goal

pub returns : goal.returns
returns c = λ info.
    let same = ap (λ (h : HeldObject). h.cut) c.self.view_is in
    let plan = c.self.inside.plan in
    ap (λ (k : Cut). last_in c.args.index (record { cut = k; closed = all_symbols k; info = info })) (sym same)
    ∙ last_is plan info c.args.index c.self.invariant.sound (subst (λ (l : Option ℕ). IsSome l) (sym c.self.invariant.object) refl)
    ∙ ap (λ b. Some (position c.args.index b (source_symbols plan (blocks plan - 1) - 1))) (sym c.self.invariant.last_block)
    ∙ ap (λ n. Some (position c.args.index c.self.inside.last_block n)) (sym c.self.invariant.last_symbol)
