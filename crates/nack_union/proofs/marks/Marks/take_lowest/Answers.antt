use Rattle.std.proofs.Common.{◌≡◌, ℕ, ◌<◌, [], ◌∷◌, length, Option, sym, ap, subst, ◌∙◌, arith, nat_lt}
use Rattle.fec_plan.specs.Partition.{most_blocks}
use Rattle.norm_order.specs.Sets.{is_member, Rises}
use Rattle.nack_union.specs.Slots.{slots}
use Rattle.nack_union.specs.Kept.{Marked}
use Rattle.nack_union.specs.Sound.{marks_view, slots_from}
use Rattle.std.specs.Prelude.{MatchOption}
use Rattle.nack_union.proofs.Numbered.{rest_plain}
use Rattle.std.specs.List.{AllByRecursion}
use Rattle.nack_union.specs.Sound.{HasNumber}
use Rattle.nack_union.proofs.marks.Marks.take_lowest.Goals as goal

pub invariant_of-self : goal.invariant_of-self
invariant_of-self c =
    let none = c.in_err-slot.ensures.members in
    record {
      wants = c.take_lowest.ensures.size ∙ c.self.invariant.wants;
      most = c.self.invariant.most;
      front = c.self.invariant.front;
      moves = c.self.invariant.moves;
      sent = c.self.invariant.sent;
      closed = c.self.invariant.closed;
      whole = c.self.invariant.whole;
      behind = c.self.invariant.behind;
      asked = c.self.invariant.asked;
      room = c.self.invariant.room;
      idle = c.self.invariant.idle;
      counted = c.self.invariant.counted;
      numbers = subst (AllByRecursion (HasNumber c.self.inside.first)) (none.0 ∙ sym none.1) c.self.invariant.numbers;
      named = c.self.invariant.named;
      wanted = c.self.invariant.wanted ∙ ap length (none.0 ∙ sym none.1);
      plain = λ e. (ap (is_member nat_lt 0) (none.1 ∙ sym none.0) ∙ (c.self.invariant.plain e).0, (c.self.invariant.plain e).1, (c.self.invariant.plain e).2);
    }

pub returns-in_err-slot : goal.returns-in_err-slot
returns-in_err-slot c =
    let none = c.in_err-slot.ensures.members in
    let gone = ap (λ (m : Marked). m.wants) (sym c.self.view_is) ∙ ap (slots_from c.self.inside.first) none.0 in
    let same = ap (λ xs. record (marks_view c.self.inside) { wants = slots_from c.self.inside.first xs }) (none.1 ∙ sym none.0) ∙ c.self.view_is in
    subst (λ (r : Option ℕ). MatchOption r ((c.args.self.now.wants ≡ []) × (record (marks_view c.self.inside) { wants = slots_from c.self.inside.first c.take_lowest.new.self.members } ≡ c.args.self.now))
    (λ slot. (c.args.self.now ≡ record (record (marks_view c.self.inside) { wants = slots_from c.self.inside.first c.take_lowest.new.self.members }) { wants = slot ∷ slots_from c.self.inside.first c.take_lowest.new.self.members }) × (slot < slots most_blocks)))
    (sym c.from_residual.ensures) (gone, same)

pub invariant_of-self-2 : goal.invariant_of-self-2
invariant_of-self-2 c =
    let rises = subst Rises c.in_ok-slot.ensures.members c.rises.ensures.rises in
    let many = ap length c.in_ok-slot.ensures.members in
    let wanted = c.self.invariant.wanted in
    record {
      wants = c.take_lowest.ensures.size ∙ c.self.invariant.wants;
      most = c.self.invariant.most;
      front = c.self.invariant.front;
      moves = c.self.invariant.moves;
      sent = c.self.invariant.sent;
      closed = c.self.invariant.closed;
      whole = c.self.invariant.whole;
      behind = c.self.invariant.behind;
      asked = c.self.invariant.asked;
      room = c.self.invariant.room;
      idle = c.self.invariant.idle;
      counted = c.self.invariant.counted;
      numbers = (subst (AllByRecursion (HasNumber c.self.inside.first)) c.in_ok-slot.ensures.members c.self.invariant.numbers).1;
      named = c.self.invariant.named;
      wanted = omega (arith, many, wanted);
      plain = λ e. (rest_plain c.in_ok-slot.slot c.take_lowest.new.self.members rises, (c.self.invariant.plain e).1, (c.self.invariant.plain e).2);
    }

pub returns : goal.returns
returns c =
    let number = (subst (AllByRecursion (HasNumber c.self.inside.first)) c.in_ok-slot.ensures.members c.self.invariant.numbers).0 in (
      sym c.self.view_is ∙ ap (λ xs. record (marks_view c.self.inside) { wants = slots_from c.self.inside.first xs }) c.in_ok-slot.ensures.members,
      omega (arith, number),
    )
