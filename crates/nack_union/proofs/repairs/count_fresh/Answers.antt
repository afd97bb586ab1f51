use Rattle.std.proofs.Common.{◌≡◌, ◌+◌, ◌-◌, length, suc, ap, sym, ◌∙◌, arith, nat_lt}
use Rattle.norm_order.specs.Sets.{is_member}
use Rattle.nack_union.specs.Repairs.{fresh_symbols}
use Rattle.nack_union.proofs.Freshness.{fresh_new, fresh_old}
use Rattle.nack_union.proofs.repairs.count_fresh.Goals as goal
use Rattle.nack_union.proofs.repairs.count_fresh.Goals.{then-not-contains, else-not-contains}

pub symbols-preserved : goal.symbols-preserved
symbols-preserved c = elim c.if-not-contains.branch [
  | then-not-contains w ↦
      let more : length (fresh_symbols c.args.sent.now.members c.args.block c.symbols.symbol (c.args.to - c.symbols.symbol))
      ≡ suc (length (fresh_symbols c.args.sent.now.members c.args.block (c.symbols.symbol + 1) (c.args.to - (c.symbols.symbol + 1)))) =
      ap length (fresh_new c.args.sent.now.members c.args.block c.symbols.symbol c.args.to c.symbols-test.true
      (ap (λ slot. is_member nat_lt slot c.args.sent.now.members) (sym c.slot_of.ensures.slot) ∙ sym c.contains.ensures ∙ w.if-not-contains.true)) in
      let is = w.fresh-is in
      let few = c.symbols.invariant.few in
      let all = c.symbols.invariant.all in
      record { few = omega (arith, is, few); all = omega (arith, is, more, all) }
  | else-not-contains w ↦
      let same : length (fresh_symbols c.args.sent.now.members c.args.block c.symbols.symbol (c.args.to - c.symbols.symbol))
      ≡ length (fresh_symbols c.args.sent.now.members c.args.block (c.symbols.symbol + 1) (c.args.to - (c.symbols.symbol + 1))) =
      ap length (fresh_old c.args.sent.now.members c.args.block c.symbols.symbol c.args.to c.symbols-test.true
      (ap (λ slot. is_member nat_lt slot c.args.sent.now.members) (sym c.slot_of.ensures.slot) ∙ sym c.contains.ensures ∙ w.if-not-contains.false)) in
      let is = w.fresh-is in
      let few = c.symbols.invariant.few in
      let all = c.symbols.invariant.all in
      record { few = omega (arith, is, few); all = omega (arith, is, same, all) }
]
