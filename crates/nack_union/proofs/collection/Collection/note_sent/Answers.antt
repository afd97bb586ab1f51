use Rattle.std.proofs.Common.{◌≡◌, ◌-◌, ◌<◌, ◌≤◌, length, Some, subst, sym, ap, ◌∙◌, arith, ℕ}
use Rattle.std.specs.Prelude.{nat_lt, slice_get}
use Rattle.norm_order.specs.Sets.{with_member}
use Rattle.fec_plan.specs.Points.{Position}
use Rattle.nack_union.specs.Slots.{slots, symbol_slot, stands_from}
use Rattle.nack_union.proofs.Numbered.{symbol_from}
use Rattle.nack_union.specs.Kept.{Kept, Marked, Holds, IsEncodedIn}
use Rattle.nack_union.proofs.Wholes.{slot_there}
use Rattle.nack_union.proofs.Heard.{there_at}
use Rattle.nack_union.specs.Collected.{Collects}
use Rattle.std.specs.List.{AllByRecursion}
use Rattle.norm_send_rules.specs.InWindow.{next_index}
use Rattle.nack_union.specs.Collected.{IsKnownIn}
use Rattle.nack_union.specs.Adding.{IsPlanned}
use Rattle.nack_union.proofs.Came.{all_at}
use Rattle.nack_union.proofs.Planned.{planned_set, planned_sent, sound_at}
use Rattle.nack_union.proofs.Quiet.{quiet_same, idle_set, few_set}
use Rattle.nack_union.proofs.Wanting.{wanting_same}
use Rattle.nack_union.proofs.Collections.{collects_kept, known_kept}
use Rattle.nack_union.proofs.Standing.{stands_noted}
use Rattle.nack_union.proofs.collection.Collection.note_sent.Goals as goal

pub returns-clause-stands : goal.returns-clause-stands
returns-clause-stands c = λ p s st.
    let view = c.self.view_is in
    let first = ap (λ (u : Kept). u.first) view in
    let many = ap (λ (u : Kept). length u.objects) view in
    let from = c.requires.first in
    let to = c.requires.object in
    let at = ap (λ (x : Position). x.index) c.at.view_is in
    stands_noted p s _ (c.at.inside.index - c.self.inside.first) c.args.at c.note_sent.new.self c.index_mut-object.result.now
    (omega (arith, first, many, from, to, at)) (omega (arith, first, from, at))
    (subst (λ (m : Marked). m.first ≤ c.args.at.block) c.index_mut-object.ensures.value
    (c.requires.kept c.index_mut-object.result.now
    (subst (λ (u : Kept). slice_get u.objects (c.args.at.index - u.first) ≡ Some c.index_mut-object.result.now) view
    (subst (λ (x : Position). slice_get c.self.inside.objects.items (x.index - c.self.inside.first) ≡ Some c.index_mut-object.result.now) c.at.view_is
    (there_at c.self.inside.objects.items (c.at.inside.index - c.self.inside.first) c.index_mut-object.result.now (omega (arith, first, many, from, to, at)) c.index_mut-object.ensures.value)))))
    (omega arith)
    (c.note_sent.ensures
    ∙ ap (λ (n : ℕ). record (c.index_mut-object.result.now) { sent = with_member nat_lt n c.index_mut-object.result.now.sent }) (c.slot_of.ensures.slot ∙ ap (λ (x : Position). symbol_slot x.block x.symbol) c.at.view_is)
    ∙ ap (λ (m : Marked). record m { sent = with_member nat_lt (symbol_slot c.args.at.block c.args.at.symbol) m.sent }) c.index_mut-object.ensures.value)
    (subst (λ (u : Kept). Holds p u s) (sym view) st)

pub returns-clause-collects : goal.returns-clause-collects
returns-clause-collects c = λ p s asked col.
    let view = c.self.view_is in
    let first = ap (λ (u : Kept). u.first) view in
    let many = ap (λ (u : Kept). length u.objects) view in
    let from = c.requires.first in
    let to = c.requires.object in
    let at = ap (λ (x : Position). x.index) c.at.view_is in
    let there = c.index_mut-object.ensures.value in
    let kept = collects_kept p s (record { first = c.self.inside.first; objects = c.self.inside.objects.items; earliest = c.self.inside.earliest }) asked (c.at.inside.index - c.self.inside.first) c.note_sent.new.self c.index_mut-object.result.now
    (omega (arith, first, many, from, to, at))
    (ap (λ (m : Marked). m.asked) c.note_sent.ensures ∙ ap (λ (m : Marked). m.asked) there) (ap (λ (m : Marked). m.counts) c.note_sent.ensures ∙ ap (λ (m : Marked). m.counts) there) (ap (λ (m : Marked). m.first) c.note_sent.ensures ∙ ap (λ (m : Marked). m.first) there)
    (known_kept _ (c.at.inside.index - c.self.inside.first) (next_index s) c.note_sent.new.self c.index_mut-object.result.now asked
    (omega (arith, first, many, from, to, at)) (ap (λ (m : Marked). m.cut) c.note_sent.ensures ∙ ap (λ (m : Marked). m.cut) there)
    (ap (λ (m : Marked). m.closed) c.note_sent.ensures ∙ ap (λ (m : Marked). m.closed) there)
    (subst (λ (u : Kept). AllByRecursion (IsKnownIn u (next_index s)) asked) (sym view) col.known))
    (subst (λ (u : Kept). Collects p u s asked) (sym view) col) in
    record { known = kept.known; named = kept.named; counts = kept.counts; earliest = kept.earliest }

pub note_sent-requires-clause-within : goal.note_sent-requires-clause-within
note_sent-requires-clause-within c =
    let view = c.self.view_is in
    let items = c.self.inside.objects.items in
    let m = c.index_mut-object.result.now in
    let first = ap (λ (u : Kept). u.first) view in
    let many = ap (λ (u : Kept). length u.objects) view in
    let at = ap (λ (x : Position). x.index) c.at.view_is in
    let encoded = subst (λ (u : Kept). IsEncodedIn u c.args.at) (sym view) c.requires in
    let there = there_at items (c.at.inside.index - c.self.inside.first) m (omega (arith, first, many, encoded.first, encoded.object, at)) c.index_mut-object.ensures.value in
    subst (λ n. n < slots (length m.counts)) (sym (c.slot_of.ensures.slot ∙ ap (λ (x : Position). symbol_slot x.block x.symbol) c.at.view_is))
    (slot_there m c.args.at.block c.args.at.symbol (subst IsPlanned (sym c.index_mut-object.ensures.value) (all_at items (c.at.inside.index - c.self.inside.first) m c.self.invariant.planned (omega (arith, first, many, encoded.first, encoded.object, at))))
    (encoded.symbol m (subst (λ (x : Position). slice_get items (x.index - c.self.inside.first) ≡ Some m) c.at.view_is there))
    (subst (λ (x : Position). x.symbol < 256) c.at.view_is c.slot_of.ensures.named))

pub note_sent-requires-clause-kept : goal.note_sent-requires-clause-kept
note_sent-requires-clause-kept c =
    let view = c.self.view_is in
    let items = c.self.inside.objects.items in
    let m = c.index_mut-object.result.now in
    let first = ap (λ (u : Kept). u.first) view in
    let many = ap (λ (u : Kept). length u.objects) view in
    let at = ap (λ (x : Position). x.index) c.at.view_is in
    let encoded = subst (λ (u : Kept). IsEncodedIn u c.args.at) (sym view) c.requires in
    let there = there_at items (c.at.inside.index - c.self.inside.first) m (omega (arith, first, many, encoded.first, encoded.object, at)) c.index_mut-object.ensures.value in
    let low = encoded.kept m (subst (λ (x : Position). slice_get items (x.index - c.self.inside.first) ≡ Some m) c.at.view_is there) in
    ap (stands_from m.first) (c.slot_of.ensures.slot ∙ ap (λ (x : Position). symbol_slot x.block x.symbol) c.at.view_is)
    ∙ symbol_from m.first c.args.at.block c.args.at.symbol (subst (λ (x : Position). x.symbol < 256) c.at.view_is c.slot_of.ensures.named) low

pub note_sent-requires-clause-symbol : goal.note_sent-requires-clause-symbol
note_sent-requires-clause-symbol c = let at = c.slot_of.ensures.slot in omega (arith, at)

pub invariant_of-self : goal.invariant_of-self
invariant_of-self c =
    let items = c.self.inside.objects.items in
    let i = c.at.inside.index - c.self.inside.first in
    let m = c.index_mut-object.result.now in
    let first = ap (λ (u : Kept). u.first) c.self.view_is in
    let many = ap (λ (u : Kept). length u.objects) c.self.view_is in
    let at = ap (λ (x : Position). x.index) c.at.view_is in
    let from = c.requires.first in
    let to = c.requires.object in
    let lt : i < length items = omega (arith, first, many, from, to, at) in
    let same = c.note_sent.ensures in
    let was = c.index_mut-object.ensures.value in
    let wants = ap (λ (x : Marked). x.wants) same ∙ ap (λ (x : Marked). x.wants) was in
    record {
      few = few_set c.self.inside.first items i c.note_sent.new.self c.self.invariant.few;
      idle = idle_set c.self.inside.low c.self.inside.high i items c.note_sent.new.self m lt
          (ap (λ (x : Marked). x.asked) same ∙ ap (λ (x : Marked). x.asked) was) (ap (λ (x : Marked). x.counts) same ∙ ap (λ (x : Marked). x.counts) was) c.self.invariant.idle;
      quiet = quiet_same c.self.inside.quiet items i c.note_sent.new.self m lt wants c.self.invariant.quiet;
      counted = c.self.invariant.counted ∙ sym (wanting_same items i c.note_sent.new.self m lt wants);
      planned = planned_set items i c.note_sent.new.self c.self.invariant.planned
          (subst IsPlanned (sym same) (planned_sent m _ (subst IsPlanned (sym was) (all_at items i m c.self.invariant.planned lt))));
    }

pub returns-clause-sound : goal.returns-clause-sound
returns-clause-sound c = λ m there.
    sound_at c.args.self.now.objects (c.args.at.index - c.args.self.now.first) m (subst (λ (u : Kept). AllByRecursion IsPlanned u.objects) c.self.view_is c.self.invariant.planned) there
