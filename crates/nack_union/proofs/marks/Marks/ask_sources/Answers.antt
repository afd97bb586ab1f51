use Rattle.std.proofs.Common.{◌≡◌, ℕ, ◌-◌, ◌*◌, ◌⊎◌, inl, inr, true, false, refl, sym, ap, subst, ◌∙◌, arith, nat_lt}
use Rattle.std.specs.Prelude.{max, slice_index, ◌||◌, ◌&&◌}
use Rattle.fec_plan.specs.Partition.{symbol_number}
use Rattle.norm_order.specs.Sets.{is_member}
use Rattle.norm_order.specs.Shapes.{Shape}
use Rattle.nack_union.specs.Repairs.{shape_closed}
use Rattle.nack_union.specs.Kept.{Marked}
use Rattle.nack_union.specs.Sound.{marks_view, slots_from}
use Rattle.nack_union.specs.More.{is_source_slot, HasMore}
use Rattle.symbol_mask.specs.Words.{in_run}
use Rattle.nack_union.proofs.Numbered.{sources_more}
use Rattle.nack_union.proofs.Streams.{shifts}
use Rattle.nack_union.proofs.Bounds.{sources_named}
use Rattle.nack_union.proofs.marks.Marks.ask_sources.Goals as goal

clash : true ≡ false → ⊥
clash e = cc

stream_or_first : {P : Type 0} {Q : Type 0} (first : ℕ) → (first ≡ 0) ⊎ (P × Q) → (first ≡ 0) ⊎ P
stream_or_first first (inl e) = inl e
stream_or_first first (inr both) = inr both.0

more : (c : goal.After-self-1) → (slot : ℕ) → is_member nat_lt slot c.insert_sources.new.self.members
    ≡ (is_member nat_lt slot c.self.inside.asked.members || (is_source_slot (shape_closed c.self.inside.plan (c.self.inside.closed - symbol_number c.self.inside.plan c.self.inside.first 0)) slot
    && in_run (c.args.from - 256 * c.self.inside.first) (c.args.to - 256 * c.self.inside.first) slot))
more c slot =
    let start = c.start-start.ensures ∙ ap (λ (m : Marked). 256 * m.first) (sym c.self.view_is) in
    c.insert_sources.ensures.members slot
    ∙ ap (λ (x : Shape). is_member nat_lt slot c.self.inside.asked.members || (is_source_slot x slot && in_run c.saturating_sub.result c.saturating_sub-2.result slot)) c.self.invariant.asked
    ∙ ap (λ n. is_member nat_lt slot c.self.inside.asked.members || (is_source_slot (shape_closed c.self.inside.plan (c.self.inside.closed - symbol_number c.self.inside.plan c.self.inside.first 0)) slot && in_run n c.saturating_sub-2.result slot)) (c.saturating_sub.ensures ∙ ap (λ n. c.args.from - n) start)
    ∙ ap (λ n. is_member nat_lt slot c.self.inside.asked.members || (is_source_slot (shape_closed c.self.inside.plan (c.self.inside.closed - symbol_number c.self.inside.plan c.self.inside.first 0)) slot && in_run (c.args.from - 256 * c.self.inside.first) n slot)) (c.saturating_sub-2.ensures ∙ ap (λ n. c.args.to - n) start)

pub invariant_of-self : goal.invariant_of-self
invariant_of-self c = record {
  wants = c.self.invariant.wants;
  most = c.self.invariant.most;
  front = c.self.invariant.front;
  moves = c.self.invariant.moves;
  sent = c.self.invariant.sent;
  closed = c.self.invariant.closed;
  whole = c.self.invariant.whole;
  behind = c.self.invariant.behind;
  asked = c.insert_sources.ensures.shape ∙ c.self.invariant.asked;
  room = c.insert_sources.ensures.room ∙ c.self.invariant.room;
  idle = λ e. absurd (clash e);
  counted = c.self.invariant.counted;
  numbers = c.self.invariant.numbers;
  named =
      sources_named c.self.inside.plan c.self.inside.closed c.self.inside.first (c.args.from - 256 * c.self.inside.first) (c.args.to - 256 * c.self.inside.first) c.self.inside.asked.members c.insert_sources.new.self.members
      (shifts c.self.inside.plan c.self.inside.closed c.self.inside.first (stream_or_first c.self.inside.first c.self.invariant.moves)) c.blocks-2.ensures.sound c.self.invariant.closed
      (let most = c.blocks-2.ensures.most in let is = c.blocks-2.ensures.exact in omega (arith, most, is)) c.rises.ensures c.self.invariant.named (more c);
  wanted = c.self.invariant.wanted;
  plain = λ e. (
    (c.self.invariant.plain e).0,
    (c.self.invariant.plain e).1,
    c.insert_sources.ensures.members 0 ∙ ap (λ b. b || false) (c.self.invariant.plain e).2,
  );
}

pub returns : goal.returns
returns c =
    subst (λ (m : Marked). HasMore (λ slot. is_source_slot (shape_closed m.cut m.closed) slot && in_run c.args.from c.args.to slot) (λ block. 0) m
    (record (marks_view c.self.inside) { asked = slots_from c.self.inside.first c.insert_sources.new.self.members })) c.self.view_is
    (record {
      rest = refl;
      asked =
          sources_more c.self.inside.plan c.self.inside.closed c.self.inside.first c.args.from c.args.to c.self.inside.asked.members c.insert_sources.new.self.members
          (shifts c.self.inside.plan c.self.inside.closed c.self.inside.first (stream_or_first c.self.inside.first c.self.invariant.moves))
          c.blocks-2.ensures.sound c.self.invariant.closed (more c);
      blocks = refl;
      counted = λ block from lt. let e : slice_index (marks_view c.self.inside).counts block ≡ max (slice_index (marks_view c.self.inside).counts block) 0 = omega arith in e;
    })
