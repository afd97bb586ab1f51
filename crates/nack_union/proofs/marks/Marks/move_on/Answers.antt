use Rattle.std.proofs.Common.{◌≡◌, ℕ, ◌+◌, ◌-◌, ◌*◌, ◌<◌, ◌≤◌, inr, List, ◌++◌, length, replicate, false, None, sym, ap, subst, ◌∙◌, arith, nat_lt}
use Rattle.std.specs.Prelude.{not, get_or, ◌&&◌}
use Rattle.std.proofs.lemmas.List.{length-map}
use Rattle.fec_plan.specs.Partition.{symbol_number}
use Rattle.norm_order.specs.Sets.{is_member}
use Rattle.norm_order.specs.Shapes.{Shape}
use Rattle.nack_union.specs.Slots.{stands_from}
use Rattle.nack_union.specs.Repairs.{shape_closed}
use Rattle.nack_union.specs.Kept.{Marked}
use Rattle.nack_union.specs.Sound.{marks_view, slots_from}
use Rattle.std.specs.Prelude.{filter}
use Rattle.std.specs.List.{list_any}
use Rattle.std.specs.Vec.{with_items}
use Rattle.std.proofs.lemmas.List.{with_items_is}
use Rattle.nack_union.specs.Kept.{moved_on}
use Rattle.nack_union.proofs.Numbered.{set_moved, as_many, twice_moved, counts_moved, any_by_length, less_more, none_moved, zeros_moved, plain_moved}
use Rattle.nack_union.proofs.Streams.{numbers_add}
use Rattle.nack_union.proofs.Bounds.{moved_named}
use Rattle.nack_union.proofs.marks.Marks.move_on.Goals as goal

abbrev count : (c : goal.After-self-3-1) → ℕ
count c = c.args.block - c.self.inside.first

onward : (c : goal.After-self-3-1) → c.self.inside.first ≤ c.args.block
onward c = let first = ap (λ (m : Marked). m.first) c.self.view_is in let le = c.requires.onward in omega (arith, first, le)

stream : (c : goal.After-self-3-1) → c.self.inside.plan.l ≡ None
stream c = ap (λ (m : Marked). m.cut.l) c.self.view_is ∙ c.requires.stream

uninformed : (c : goal.After-self-3-1) → c.self.inside.info ≡ false
uninformed c = ap (λ (m : Marked). m.info) c.self.view_is ∙ c.requires.plain

taken : (c : goal.After-self-3-1) → (place : ℕ) → is_member nat_lt place c.move_on.new.self.members ≡ (is_member nat_lt (place + 256 * count c) c.take_below-gone.new.self.members && nat_lt 0 place)
taken c place =
    c.move_on.ensures.members place
    ∙ ap (λ n. is_member nat_lt n c.take_below-gone.new.self.members && nat_lt 0 place) (let e : _ ≡ place + 256 * count c = omega arith in e)

wants : (c : goal.After-self-3-1) → (place : ℕ) → is_member nat_lt place c.move_on.new.self.members ≡ (is_member nat_lt (place + 256 * count c) c.self.inside.wants.members && nat_lt 0 place)
wants c = twice_moved (count c) c.self.inside.wants.members c.take_below-gone.new.self.members c.move_on.new.self.members c.rises.ensures.rises c.take_below-gone.ensures.members (taken c)

sent : (c : goal.After-self-3-1) → (place : ℕ) → is_member nat_lt place c.move_on-2.new.self.members ≡ (is_member nat_lt (place + 256 * count c) c.self.inside.sent.members && nat_lt 0 place)
sent c place =
    c.move_on-2.ensures.members place
    ∙ ap (λ n. is_member nat_lt n c.self.inside.sent.members && nat_lt 0 place) (let e : _ ≡ place + 256 * count c = omega arith in e)

asked : (c : goal.After-self-3-1) → (place : ℕ) → is_member nat_lt place c.move_on-3.new.self.members ≡ (is_member nat_lt (place + 256 * count c) c.self.inside.asked.members && nat_lt 0 place)
asked c = c.move_on-3.ensures.members

abbrev items : (c : goal.After-self-3-1) → List ℕ
items c = (with_items c.self.inside.counts c.move_counts.new.counts).items

now : (c : goal.After-self-3-1) → items c ≡ c.move_counts.new.counts
now c = with_items_is c.self.inside.counts c.move_counts.new.counts (c.move_counts.auto.counts ∙ c.deref_mut.ensures.len)

moved : (c : goal.After-self-3-1) → (k : ℕ) → get_or (items c) k 0 ≡ get_or c.self.inside.counts.items (k + count c) 0
moved c k =
    ap (λ (xs : List ℕ). get_or xs k 0) (now c) ∙ c.move_counts.ensures k
    ∙ ap (λ (xs : List ℕ). get_or xs (k + count c) 0) c.deref_mut.ensures.value

same_length : (c : goal.After-self-3-1) → length (items c) ≡ length c.self.inside.counts.items
same_length c = ap length (now c) ∙ c.move_counts.auto.counts ∙ ap length c.deref_mut.ensures.value

left : (c : goal.After-self-3-1) → length c.move_on.new.self.members ≡ length c.take_below-gone.new.self.members
left c = as_many (count c) c.self.inside.wants.members c.take_below-gone.new.self.members c.move_on.new.self.members c.rises.ensures.rises c.rises-4.ensures.rises c.take_below-gone.ensures.members (taken c)

wants_are : (c : goal.After-self-3-1) → slots_from c.args.block c.move_on.new.self.members ≡ filter (stands_from c.args.block) (slots_from c.self.inside.first c.self.inside.wants.members)
wants_are c =
    set_moved c.self.inside.first c.args.block c.self.inside.wants.members c.move_on.new.self.members (onward c) c.rises.ensures.rises c.rises-4.ensures.rises
    (c.self.invariant.plain (uninformed c)).0 (wants c)

pub invariant_of-self : goal.invariant_of-self
invariant_of-self c =
    let same = same_length c in
    let many = left c in
    let gone = c.take_below-gone.ensures.taken in
    let wanted = c.self.invariant.wanted in
    let le = onward c in
    record {
      wants = let size = c.move_on.ensures.size ∙ c.take_below-gone.ensures.size in let was = c.self.invariant.wants in omega (arith, size, was, same);
      most = let most = c.self.invariant.most in omega (arith, most, same);
      front = c.requires.most;
      moves = inr (stream c, uninformed c);
      sent = let size = c.move_on-2.ensures.size in let was = c.self.invariant.sent in omega (arith, size, was, same);
      closed = c.self.invariant.closed;
      whole = c.self.invariant.whole;
      behind = λ block past. c.self.invariant.behind block (omega (arith, past, same, le));
      asked =
          c.move_on-3.ensures.shape
          ∙ ap (λ (x : Shape). shape_closed x.cut (x.closed - symbol_number x.cut (count c) 0)) c.self.invariant.asked
          ∙ ap (shape_closed c.self.inside.plan) (numbers_add c.self.inside.plan c.self.inside.closed c.self.inside.first (count c) (stream c))
          ∙ ap (λ n. shape_closed c.self.inside.plan (c.self.inside.closed - symbol_number c.self.inside.plan n 0)) (let e : c.self.inside.first + count c ≡ c.args.block = omega (arith, le) in e);
      room = let room = c.move_on-3.ensures.room in let was = c.self.invariant.room in omega (arith, room, was, same);
      idle = λ e. (
        none_moved (count c) c.self.inside.asked.members c.move_on-3.new.self.members (c.self.invariant.idle e).0 (asked c),
        zeros_moved (count c) c.self.inside.counts.items (items c) (c.self.invariant.idle e).1 same (moved c),
      );
      counted = λ block some. let lt = c.self.invariant.counted (block + count c) (subst (λ n. 0 < n) (moved c block) some) in omega (arith, lt, le);
      numbers = moved_named c.self.inside.first c.args.block c.self.inside.wants.members c.move_on.new.self.members le c.rises-4.ensures.rises c.self.invariant.numbers (wants c);
      named = moved_named c.self.inside.first c.args.block c.self.inside.asked.members c.move_on-3.new.self.members le c.rises-6.ensures c.self.invariant.named (asked c);
      wanted = omega (arith, many, gone, wanted);
      plain = λ e. (
        plain_moved (count c) c.self.inside.wants.members c.move_on.new.self.members (wants c),
        plain_moved (count c) c.self.inside.sent.members c.move_on-2.new.self.members (sent c),
        plain_moved (count c) c.self.inside.asked.members c.move_on-3.new.self.members (asked c),
      );
    }

pub returns-clause-exact : goal.returns-clause-exact
returns-clause-exact c =
    ap (λ xs. record (marks_view c.self.inside) { first = c.args.block; wants = xs; sent = slots_from c.args.block c.move_on-2.new.self.members; asked = slots_from c.args.block c.move_on-3.new.self.members; counts = replicate c.args.block 0 ++ items c }) (wants_are c)
    ∙ ap (λ xs. record (moved_on c.args.block (marks_view c.self.inside)) { sent = xs; asked = slots_from c.args.block c.move_on-3.new.self.members; counts = replicate c.args.block 0 ++ items c })
    (set_moved c.self.inside.first c.args.block c.self.inside.sent.members c.move_on-2.new.self.members (onward c) c.rises-2.ensures.rises c.rises-5.ensures.rises (c.self.invariant.plain (uninformed c)).1 (sent c))
    ∙ ap (λ xs. record (moved_on c.args.block (marks_view c.self.inside)) { asked = xs; counts = replicate c.args.block 0 ++ items c })
    (set_moved c.self.inside.first c.args.block c.self.inside.asked.members c.move_on-3.new.self.members (onward c) c.rises-3.ensures c.rises-6.ensures (c.self.invariant.plain (uninformed c)).2 (asked c))
    ∙ ap (λ xs. record (moved_on c.args.block (marks_view c.self.inside)) { counts = xs })
    (counts_moved c.self.inside.first c.args.block c.self.inside.counts.items (items c) (onward c) (same_length c) (moved c))
    ∙ ap (moved_on c.args.block) c.self.view_is

pub returns-clause-gone : goal.returns-clause-gone
returns-clause-gone c =
    less_more (length c.take_below-gone.new.self.members) c.take_below-gone.result
    ∙ ap (λ n. nat_lt n (length c.take_below-gone.new.self.members + c.take_below-gone.result))
    (sym (left c) ∙ sym (length-map c.move_on.new.self.members (λ slot. 256 * c.args.block + slot)) ∙ ap length (wants_are c))
    ∙ ap (nat_lt (length (filter (stands_from c.args.block) (slots_from c.self.inside.first c.self.inside.wants.members))))
    (sym c.take_below-gone.ensures.taken ∙ sym (length-map c.self.inside.wants.members (λ slot. 256 * c.self.inside.first + slot)))
    ∙ sym (any_by_length (stands_from c.args.block) (slots_from c.self.inside.first c.self.inside.wants.members))
    ∙ ap (λ (m : Marked). list_any (λ slot. not (stands_from c.args.block slot)) m.wants) c.self.view_is
