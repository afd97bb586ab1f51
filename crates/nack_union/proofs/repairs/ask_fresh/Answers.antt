use Rattle.std.proofs.Common.{nat_lt, ap, sym, ◌∙◌, arith}
use Rattle.norm_order.specs.Sets.{with_member, is_member}
use Rattle.symbol_mask.specs.Places.{Places}
use Rattle.nack_union.proofs.Freshness.{asked_new, asked_old}
use Rattle.nack_union.proofs.repairs.ask_fresh.Goals as goal
use Rattle.nack_union.proofs.repairs.ask_fresh.Goals.{then-not-contains, else-not-contains}

pub symbols-preserved : goal.symbols-preserved
symbols-preserved c = elim c.if-not-contains.branch [
  | then-not-contains w ↦ record {
    members =
        asked_new c.args.sent.now.members c.args.block c.symbols.symbol c.args.to c.symbols.left c.if-not-contains.left c.symbols.asked.members c.if-not-contains.asked.members c.symbols-test.true
        (ap (λ slot. is_member nat_lt slot c.args.sent.now.members) (sym c.slot_of-slot.ensures.slot) ∙ sym c.contains.ensures ∙ w.if-not-contains.true)
        (let is = w.left-is in let some = c.if-left-eq0.false in omega (arith, is, some))
        (ap (λ (m : Places). m.members) w.asked-is ∙ w.insert.ensures.members ∙ ap (λ n. with_member nat_lt n c.symbols.asked.members) c.slot_of-slot.ensures.slot)
        ∙ c.symbols.invariant.members;
    size = ap (λ (m : Places). m.size) w.asked-is ∙ w.insert.ensures.size ∙ c.symbols.invariant.size;
  }
  | else-not-contains w ↦ record {
    members =
        asked_old c.args.sent.now.members c.args.block c.symbols.symbol c.args.to c.symbols.left c.if-not-contains.left c.symbols.asked.members c.if-not-contains.asked.members c.symbols-test.true
        (ap (λ slot. is_member nat_lt slot c.args.sent.now.members) (sym c.slot_of-slot.ensures.slot) ∙ sym c.contains.ensures ∙ w.if-not-contains.false)
        w.left-is (ap (λ (m : Places). m.members) w.asked-is)
        ∙ c.symbols.invariant.members;
    size = ap (λ (m : Places). m.size) w.asked-is ∙ c.symbols.invariant.size;
  }
]
