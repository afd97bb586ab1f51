use Rattle.std.proofs.Common.{◌≡◌, ℕ, ◌+◌, ◌-◌, ◌*◌, ◌<◌, ◌≤◌, ◌⊎◌, inl, inr, List, ◌++◌, length, replicate, sym, ap, subst, ◌∙◌, arith, nat_lt}
use Rattle.std.specs.Prelude.{slice_index, get_or}
use Rattle.std.proofs.lemmas.Bool.{cases_lt}
use Rattle.std.proofs.lemmas.List.{length-replicate, length-map}
use Rattle.fec_plan.specs.Partition.{symbol_number, most_blocks}
use Rattle.norm_order.specs.Sets.{is_member}
use Rattle.norm_order.specs.Shapes.{Shape}
use Rattle.nack_union.specs.Repairs.{shape_closed}
use Rattle.nack_union.specs.Kept.{Marked}
use Rattle.nack_union.specs.Sound.{marks_view, slots_from}
use Rattle.std.specs.List.{AllByRecursion}
use Rattle.norm_order.specs.Sets.{with_members}
use Rattle.nack_union.specs.Repairs.{counted_slots}
use Rattle.nack_union.specs.Kept.{closed_marks, IsCounted, IsRepairable}
use Rattle.symbol_mask.proofs.Ranges.{no_member}
use Rattle.nack_union.proofs.Closings.{idle_stays}
use Rattle.nack_union.proofs.Idle.{idle_counted, zeros}
use Rattle.nack_union.proofs.Numbered.{blank, zeros_joined, length-padded, closed_up, counted_plain, count_behind, no_count}
use Rattle.nack_union.proofs.Streams.{Shifts, shifts, repairable_up}
use Rattle.std.specs.List.{AllByRecursion}
use Rattle.nack_union.specs.Sound.{HasNumber}
use Rattle.std.specs.List.{AllByRecursion}
use Rattle.nack_union.specs.Sound.{HasNumber}
use Rattle.nack_union.proofs.Bounds.{all_with_all, counted_named}
use Rattle.nack_union.proofs.marks.Marks.close.Goals as goal

stream_or_first : {P : Type 0} {Q : Type 0} (first : ℕ) → (first ≡ 0) ⊎ (P × Q) → (first ≡ 0) ⊎ P
stream_or_first first (inl e) = inl e
stream_or_first first (inr both) = inr both.0

-- no block is counted
zeros_are : (first : ℕ) (counts : List ℕ) → counts ≡ replicate (length counts) 0 → replicate first 0 ++ counts ≡ replicate (length (replicate first 0 ++ counts)) 0
zeros_are first counts none =
    ap (λ xs. replicate first 0 ++ xs) none ∙ zeros_joined first (length counts)
    ∙ ap (λ xs. blank (length (blank first ++ xs))) (sym none)

pub overflow_add-self : goal.overflow_add-self
overflow_add-self c =
    let few = c.close_into-new.ensures.few in
    let new = c.close_into-new.ensures.new in
    let most = c.self.invariant.most in
    let size = c.self.invariant.wants in
    let wanted = c.self.invariant.wanted in
    omega (arith, few, new, most, size, wanted)

pub returns-then-not-self-clause-marks : goal.returns-then-not-self-clause-marks
returns-then-not-self-clause-marks c =
    let idle = c.self.invariant.idle c.if-not-self.true in
    sym c.self.view_is
    ∙ idle_stays (marks_view c.self.inside) (length (replicate c.self.inside.first 0 ++ c.self.inside.counts.items)) (ap (slots_from c.self.inside.first) idle.0) (zeros_are c.self.inside.first c.self.inside.counts.items idle.1)
    ∙ ap closed_marks c.self.view_is

pub returns-then-not-self-clause-counted : goal.returns-then-not-self-clause-counted
returns-then-not-self-clause-counted c =
    let idle = c.self.invariant.idle c.if-not-self.true in
    subst IsCounted c.self.view_is
    (idle_counted (marks_view c.self.inside) (ap (slots_from c.self.inside.first) idle.0, zeros_are c.self.inside.first c.self.inside.counts.items idle.1))

pub returns-clause-marks : goal.returns-clause-marks
returns-clause-marks c =
    let none = c.fill.ensures.items (λ _ e. e) in
    let many = ap length none ∙ length-replicate {A = ℕ} _ 0 in
    let sh = shifts c.self.inside.plan c.self.inside.closed c.self.inside.first (stream_or_first c.self.inside.first c.self.invariant.moves) in
    ap (λ xs. record (marks_view c.self.inside) { wants = slots_from c.self.inside.first xs; asked = slots_from c.self.inside.first c.close_into-new.new.self.members; counts = replicate c.self.inside.first 0 ++ c.fill.new.self.items })
    (c.close_into-new.ensures.members
    ∙ ap (λ (x : Shape). with_members nat_lt (with_members nat_lt (counted_slots x c.self.inside.sent.members 0 c.deref.result.now) c.self.inside.asked.members) c.self.inside.wants.members) c.self.invariant.asked
    ∙ ap (λ (cs : List ℕ). with_members nat_lt (with_members nat_lt (counted_slots (shape_closed c.self.inside.plan (c.self.inside.closed - symbol_number c.self.inside.plan c.self.inside.first 0)) c.self.inside.sent.members 0 cs) c.self.inside.asked.members) c.self.inside.wants.members) c.deref.ensures.value)
    ∙ ap (λ xs. record (marks_view c.self.inside) { wants = xs; asked = slots_from c.self.inside.first c.close_into-new.new.self.members; counts = replicate c.self.inside.first 0 ++ c.fill.new.self.items })
    (closed_up c.self.inside.plan c.self.inside.closed c.self.inside.first c.self.inside.sent.members c.self.inside.asked.members c.self.inside.wants.members c.self.inside.counts.items sh)
    ∙ ap (λ xs. record (closed_marks (marks_view c.self.inside)) { asked = slots_from c.self.inside.first xs; counts = replicate c.self.inside.first 0 ++ c.fill.new.self.items }) c.close_into-new.ensures.emptied
    ∙ ap (λ xs. record (closed_marks (marks_view c.self.inside)) { counts = xs })
    (zeros_are c.self.inside.first c.fill.new.self.items (none ∙ ap blank (sym many))
    ∙ ap blank (let here = length-padded c.self.inside.first c.fill.new.self.items in
    let was = length-padded c.self.inside.first c.self.inside.counts.items in
    let e : length (replicate c.self.inside.first 0 ++ c.fill.new.self.items) ≡ length (replicate c.self.inside.first 0 ++ c.self.inside.counts.items) = omega (arith, here, was, many) in e))
    ∙ ap closed_marks c.self.view_is

pub returns-clause-new : goal.returns-clause-new
returns-clause-new c =
    length-map c.close_into-new.new.wants.members (λ slot. 256 * c.self.inside.first + slot) ∙ c.close_into-new.ensures.new
    ∙ ap (λ n. n + c.close_into-new.result) (sym (length-map c.self.inside.wants.members (λ slot. 256 * c.self.inside.first + slot)))
    ∙ ap (λ (m : Marked). length m.wants + c.close_into-new.result) c.self.view_is

pub returns-clause-counted : goal.returns-clause-counted
returns-clause-counted c = subst IsCounted c.self.view_is (λ block some. by block some (cases_lt block c.self.inside.first))
  where
    sh : Shifts c.self.inside.plan c.self.inside.closed c.self.inside.first
    sh = shifts c.self.inside.plan c.self.inside.closed c.self.inside.first (stream_or_first c.self.inside.first c.self.invariant.moves)

    by : (block : ℕ) → 0 < slice_index (replicate c.self.inside.first 0 ++ c.self.inside.counts.items) block → (block < c.self.inside.first) ⊎ (c.self.inside.first ≤ block)
        → (c.self.inside.first ≤ block) × IsRepairable c.self.inside.plan block
    by block some (inl lt) = let none = no_count c.self.inside.first block c.self.inside.counts.items lt in absurd (omega (arith, none, some))
    by block some (inr le) = (
      le,
      repairable_up c.self.inside.plan c.self.inside.closed c.self.inside.first block sh le
          (subst (λ (x : Shape). IsRepairable x.cut (block - c.self.inside.first)) c.self.invariant.asked
          (c.close_into-new.ensures.repairable (block - c.self.inside.first)
          (subst (λ (cs : List ℕ). 0 < slice_index cs (block - c.self.inside.first)) (sym c.deref.ensures.value)
          (subst (λ n. 0 < n) (count_behind c.self.inside.first block c.self.inside.counts.items le) some)))),
    )

pub invariant_of-self : goal.invariant_of-self
invariant_of-self c =
    let none = c.fill.ensures.items (λ _ e. e) in
    let many = ap length none ∙ length-replicate {A = ℕ} _ 0 in
    let wanted = c.self.invariant.wanted in
    let new = c.close_into-new.ensures.new in
    record {
      wants = let size = c.close_into-new.ensures.size in let was = c.self.invariant.wants in omega (arith, size, was, many);
      most = let most = c.self.invariant.most in omega (arith, most, many);
      front = c.self.invariant.front;
      moves = c.self.invariant.moves;
      sent = let was = c.self.invariant.sent in omega (arith, was, many);
      closed = c.self.invariant.closed;
      whole = c.self.invariant.whole;
      behind = λ block le. c.self.invariant.behind block (omega (arith, le, many));
      asked = c.close_into-new.ensures.shape ∙ c.self.invariant.asked;
      room = let room = c.close_into-new.ensures.room in let was = c.self.invariant.room in omega (arith, room, was, many);
      idle = λ e. (c.close_into-new.ensures.emptied, none ∙ ap (λ n. replicate n 0) (sym many));
      counted = λ block some. absurd (let zero-is = ap (λ (xs : List ℕ). get_or xs block 0) none ∙ zeros _ block in omega (arith, zero-is, some));
      numbers =
          subst (AllByRecursion (HasNumber c.self.inside.first)) (sym (c.close_into-new.ensures.members
          ∙ ap (λ (x : Shape). with_members nat_lt (with_members nat_lt (counted_slots x c.self.inside.sent.members 0 c.deref.result.now) c.self.inside.asked.members) c.self.inside.wants.members) c.self.invariant.asked))
          (all_with_all (HasNumber c.self.inside.first) _ c.self.inside.wants.members
          (all_with_all (HasNumber c.self.inside.first) _ c.self.inside.asked.members
          (counted_named c.self.inside.plan _ c.self.inside.sent.members c.self.inside.first 0 c.deref.result.now
          (λ j some. subst (λ n. (c.self.inside.first + n < most_blocks) × IsRepairable c.self.inside.plan n) (let e : j ≡ 0 + j = omega arith in e) (
            c.self.invariant.counted j (subst (λ (cs : List ℕ). 0 < slice_index cs j) c.deref.ensures.value some),
            subst (λ (x : Shape). IsRepairable x.cut j) c.self.invariant.asked (c.close_into-new.ensures.repairable j some),
          ))) c.self.invariant.named) c.self.invariant.numbers);
      named = subst (AllByRecursion (HasNumber c.self.inside.first)) (sym c.close_into-new.ensures.emptied) tt;
      wanted = omega (arith, wanted, new);
      plain = λ e. (
        ap (is_member nat_lt 0) (c.close_into-new.ensures.members
            ∙ ap (λ (x : Shape). with_members nat_lt (with_members nat_lt (counted_slots x c.self.inside.sent.members 0 c.deref.result.now) c.self.inside.asked.members) c.self.inside.wants.members) c.self.invariant.asked)
            ∙ counted_plain c.self.inside.plan _ c.self.inside.sent.members c.self.inside.asked.members c.self.inside.wants.members c.deref.result.now c.rises.ensures
            (c.self.invariant.plain e).2 (c.self.invariant.plain e).0,
        (c.self.invariant.plain e).1,
        ap (is_member nat_lt 0) c.close_into-new.ensures.emptied ∙ no_member 0,
      );
    }
