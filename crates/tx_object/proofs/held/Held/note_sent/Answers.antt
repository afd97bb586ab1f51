use Rattle.std.proofs.Common.{refl, ℕ, Option, ◌<◌, ◌∙◌, ap, sym, subst, arith, length, Some}
use Rattle.std.specs.Prelude.{IsSome}
use Rattle.fec_plan.specs.Partition.{Cut, blocks}
use Rattle.fec_plan.proofs.PartitionLemmas.{sources_within, number_from_first}
use Rattle.tx_object.specs.Held.{HeldObject}
use Rattle.tx_object.proofs.UnsentLemmas.{one_less}
use Rattle.tx_object.proofs.ListLemmas.{get_there}
use Rattle.tx_object.proofs.held.Held.note_sent.Goals as goal

pub index_mut-requires : goal.index_mut-requires
index_mut-requires c =
    let plan = c.self.inside.plan in
    let same = ap (λ (h : HeldObject). h.cut) (sym c.self.view_is) in
    let all = sources_within plan c.args.block c.source_len.ensures.sound (subst (λ (l : Option ℕ). IsSome l) (sym c.self.invariant.object) refl) (subst (λ (k : Cut). c.args.block < blocks k) same c.requires) in
    omega (arith, c.symbol_number-number.ensures.exact, number_from_first plan c.args.block c.args.symbol, all, c.self.invariant.marks, c.if-symbol-source_len.false, c.source_len.ensures.exact)

pub index-requires : goal.index-requires
index-requires c =
    let plan = c.self.inside.plan in
    let same = ap (λ (h : HeldObject). h.cut) (sym c.self.view_is) in
    let all = sources_within plan c.args.block c.source_len.ensures.sound (subst (λ (l : Option ℕ). IsSome l) (sym c.self.invariant.object) refl) (subst (λ (k : Cut). c.args.block < blocks k) same c.requires) in
    omega (arith, c.symbol_number-number.ensures.exact, number_from_first plan c.args.block c.args.symbol, all, c.self.invariant.marks, c.if-symbol-source_len.false, c.source_len.ensures.exact)

pub overflow_sub-self : goal.overflow_sub-self
overflow_sub-self c =
    let plan = c.self.inside.plan in
    let same = ap (λ (h : HeldObject). h.cut) (sym c.self.view_is) in
    let all = sources_within plan c.args.block c.source_len.ensures.sound (subst (λ (l : Option ℕ). IsSome l) (sym c.self.invariant.object) refl) (subst (λ (k : Cut). c.args.block < blocks k) same c.requires) in
    let within : c.symbol_number-number.result < length c.self.inside.sent.items =
    omega (arith, c.symbol_number-number.ensures.exact, number_from_first plan c.args.block c.args.symbol, all, c.self.invariant.marks, c.if-symbol-source_len.false, c.source_len.ensures.exact, c.self.inside.sent.ok.0) in
    let counted = one_less c.self.inside.sent.items c.symbol_number-number.result
    (get_there c.self.inside.sent.items c.symbol_number-number.result c.index.result.now within c.index.ensures ∙ ap Some c.if-index.false) in
    omega (arith, counted, c.self.invariant.unsent)

pub invariant_of-self : goal.invariant_of-self
invariant_of-self c =
    let plan = c.self.inside.plan in
    let same = ap (λ (h : HeldObject). h.cut) (sym c.self.view_is) in
    let all = sources_within plan c.args.block c.source_len.ensures.sound (subst (λ (l : Option ℕ). IsSome l) (sym c.self.invariant.object) refl) (subst (λ (k : Cut). c.args.block < blocks k) same c.requires) in
    let within : c.symbol_number-number.result < length c.self.inside.sent.items =
    omega (arith, c.symbol_number-number.ensures.exact, number_from_first plan c.args.block c.args.symbol, all, c.self.invariant.marks, c.if-symbol-source_len.false, c.source_len.ensures.exact, c.self.inside.sent.ok.0) in
    let counted = one_less c.self.inside.sent.items c.symbol_number-number.result
    (get_there c.self.inside.sent.items c.symbol_number-number.result c.index.result.now within c.index.ensures ∙ ap Some c.if-index.false) in
    record {
      sound = c.self.invariant.sound;
      codes = c.self.invariant.codes;
      object = c.self.invariant.object;
      marks = c.self.invariant.marks;
      unsent = omega (arith, counted, c.self.invariant.unsent);
      last_block = c.self.invariant.last_block;
      last_symbol = c.self.invariant.last_symbol;
    }
