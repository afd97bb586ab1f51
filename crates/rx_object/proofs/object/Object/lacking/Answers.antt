use Rattle.std.proofs.Common.{◌≡◌, ◌-◌, sym, subst, ap, ◌∙◌, arith}
use Rattle.std.specs.Prelude.{slice_index}
use Rattle.fec_plan.specs.Partition.{source_symbols}
use Rattle.norm_receive_rules.specs.Plans.{lacking}
use Rattle.rx_object.specs.ObjectState.{ObjectState, alone}
use Rattle.rx_object.proofs.ObjectLemmas.{object_lacking, in_plan, read_at}
use Rattle.rx_object.proofs.object.Object.lacking.Goals as goal

pub returns : goal.returns
returns c =
    let within = in_plan c.self.inside c.args.self.now c.args.block c.self.invariant c.self.view_is c.requires in
    let counted = c.self.invariant.counted in
    let count = read_at c.self.inside.counts.items c.args.block c.index.result.now (omega (arith, within, counted)) c.index.ensures in
    ap (λ n. n - c.index.result.now) c.source_len.ensures.exact
    ∙ ap (λ n. source_symbols c.self.inside.rows.plan c.args.block - n) count
    ∙ subst (λ (o : ObjectState). source_symbols c.self.inside.rows.plan c.args.block - slice_index c.self.inside.counts.items c.args.block ≡ lacking (alone o) o.plan c.args.block)
    c.self.view_is (sym (object_lacking c.self.inside c.args.block c.self.invariant within))
