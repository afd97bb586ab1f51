use Rattle.std.proofs.Common.{◌≤◌, ◌-◌, subst, ap, sym, ◌∙◌, length, List, arith}
use Rattle.std.specs.Prelude.{filter, not, Bool}
use Rattle.std.specs.Int.{div_ceil}
use Rattle.std.proofs.lemmas.List.{length-replicate}
use Rattle.norm_base.specs.Settings.{Settings}
use Rattle.fec_plan.specs.Partition.{Cut, all_symbols, source_symbols}
use Rattle.fec_plan.proofs.PartitionLemmas.{some_sources}
use Rattle.tx_object.proofs.UnsentLemmas.{all_unsent}
use Rattle.tx_object.proofs.held.Held.new.Goals as goal

pub overflow_sub-last_symbol : goal.overflow_sub-last_symbol
overflow_sub-last_symbol c =
    subst (λ n. 1 ≤ n) (sym c.source_len-last_symbol.ensures.exact)
    (some_sources c.plan_of-plan.result (c.blocks-last_block.result - 1) c.source_len-last_symbol.ensures.sound)

pub invariant_of-result : goal.invariant_of-result
invariant_of-result c =
    let symbols = c.div_ceil-symbols.ensures ∙ ap (div_ceil c.args.len) (c.from.ensures ∙ ap (λ (p : Settings). p.e) c.profile.view_is) ∙ sym (ap all_symbols c.plan_of-plan.ensures) in
    let last = ap (λ n. n - 1) c.blocks-last_block.ensures.exact in
    record {
      sound = c.blocks-last_block.ensures.sound;
      codes = c.in_ok-codes.ensures;
      object = ap (λ (k : Cut). k.l) c.plan_of-plan.ensures;
      marks = omega (arith, ap length c.in_ok-sent.ensures, length-replicate {A = Bool} c.div_ceil-symbols.result Rattle.std.specs.Prelude.false, symbols, c.in_ok-sent.sent.ok.0);
      unsent = sym (ap (λ (bs : List Bool). length (filter not bs)) c.in_ok-sent.ensures ∙ all_unsent c.div_ceil-symbols.result);
      last_block = last;
      last_symbol = ap (λ n. n - 1) (c.source_len-last_symbol.ensures.exact ∙ ap (source_symbols c.plan_of-plan.result) last);
    }
