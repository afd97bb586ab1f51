use Rattle.std.proofs.Common.{◌≡◌, ℕ, ◌+◌, ◌-◌, ◌*◌, ◌≤◌, None, Some, sym, ap, subst, ◌∙◌, arith, nat_lt}
use Rattle.std.specs.Prelude.{min}
use Rattle.fec_plan.specs.Partition.{Cut, all_symbols, most_blocks}
use Rattle.norm_order.specs.Sets.{is_member}
use Rattle.norm_order.specs.Shapes.{Shape, closed_in}
use Rattle.nack_union.specs.Repairs.{shape_closed}
use Rattle.nack_union.specs.Coverage.{Covered}
use Rattle.nack_union.specs.Kept.{Marked}
use Rattle.nack_union.specs.Sound.{marks_view, slots_from}
use Rattle.std.proofs.Math.Nat.{mul-le-mul_right}
use Rattle.nack_union.specs.Kept.{CanGrow}
use Rattle.nack_union.proofs.Numbered.{length-padded}
use Rattle.nack_union.proofs.Streams.{closed_shifted, all_stream}
use Rattle.nack_union.proofs.Wholes.{stream_room}
use Rattle.std.specs.List.{AllByRecursion}
use Rattle.nack_union.specs.Sound.{HasNumber}
use Rattle.nack_union.proofs.marks.Marks.grow.Goals as goal

-- nothing is closed behind the room
none_behind : (plan : Cut) (closed room block : ℕ) → plan.l ≡ None → closed ≤ min room most_blocks * plan.b → room ≤ block → closed_in (shape_closed plan closed) block ≡ 0
none_behind plan closed room block stream le past =
    let up : min room most_blocks * plan.b ≤ room * plan.b = mul-le-mul_right plan.b (omega arith) in
    stream_room plan closed room block stream (omega (arith, le, up)) past

few : (plan : Cut) (closed room : ℕ) → plan.l ≡ None → closed ≤ min room most_blocks * plan.b → closed ≤ all_symbols plan
few plan closed room stream le =
    let up : min room most_blocks * plan.b ≤ most_blocks * plan.b = mul-le-mul_right plan.b (omega arith) in
    let all = all_stream plan stream in
    omega (arith, le, up, all)

clash : {n : ℕ} → None ≡ Some n → ⊥
clash e = cc

pub grow-requires-clause-more : goal.grow-requires-clause-more
grow-requires-clause-more c =
    let can = subst (CanGrow c.args.closed) (sym c.self.view_is) c.requires in
    let more = can.more in
    let was = ap (λ (x : Shape). x.closed) c.self.invariant.asked in
    let gone = c.symbol_number-gone.ensures.exact in
    let now = c.saturating_sub.ensures in
    omega (arith, more, was, gone, now)

pub grow-requires-clause-room : goal.grow-requires-clause-room
grow-requires-clause-room c = λ block le.
    let can = subst (CanGrow c.args.closed) (sym c.self.view_is) c.requires in
    let room = c.self.invariant.room in
    let pad = length-padded c.self.inside.first c.self.inside.counts.items in
    ap (λ (x : Shape). closed_in (shape_closed x.cut c.saturating_sub.result) block) c.self.invariant.asked
    ∙ ap (λ n. closed_in (shape_closed c.self.inside.plan n) block) (c.saturating_sub.ensures ∙ ap (λ n. c.args.closed - n) c.symbol_number-gone.ensures.exact)
    ∙ closed_shifted c.self.inside.plan c.args.closed c.self.inside.first block can.stream
    ∙ none_behind c.self.inside.plan c.args.closed _ (c.self.inside.first + block) can.stream can.room (omega (arith, le, room, pad))

pub invariant_of-self : goal.invariant_of-self
invariant_of-self c =
    let can = subst (CanGrow c.args.closed) (sym c.self.view_is) c.requires in
    let pad = length-padded c.self.inside.first c.self.inside.counts.items in
    record {
      wants = c.self.invariant.wants;
      most = c.self.invariant.most;
      front = c.self.invariant.front;
      moves = c.self.invariant.moves;
      sent = c.self.invariant.sent;
      closed = few c.self.inside.plan c.args.closed _ can.stream can.room;
      whole = λ l is. absurd (clash (sym can.stream ∙ is));
      behind = λ block le. none_behind c.self.inside.plan c.args.closed _ block can.stream can.room (omega (arith, le, pad));
      asked =
          ap (λ (v : Covered). v.shape) c.grow.ensures
          ∙ ap (λ (x : Shape). shape_closed x.cut c.saturating_sub.result) c.self.invariant.asked
          ∙ ap (shape_closed c.self.inside.plan) (c.saturating_sub.ensures ∙ ap (λ n. c.args.closed - n) c.symbol_number-gone.ensures.exact);
      room = ap (λ (v : Covered). v.room) c.grow.ensures ∙ c.self.invariant.room;
      idle = λ e. (ap (λ (v : Covered). v.members) c.grow.ensures ∙ (c.self.invariant.idle e).0, (c.self.invariant.idle e).1);
      counted = c.self.invariant.counted;
      numbers = c.self.invariant.numbers;
      named = subst (AllByRecursion (HasNumber c.self.inside.first)) (sym (ap (λ (v : Covered). v.members) c.grow.ensures)) c.self.invariant.named;
      wanted = c.self.invariant.wanted;
      plain = λ e. (
        (c.self.invariant.plain e).0,
        (c.self.invariant.plain e).1,
        ap (λ (v : Covered). is_member nat_lt 0 v.members) c.grow.ensures ∙ (c.self.invariant.plain e).2,
      );
    }

pub returns : goal.returns
returns c =
    ap (λ (v : Covered). record (marks_view c.self.inside) { closed = c.args.closed; asked = slots_from c.self.inside.first v.members }) c.grow.ensures
    ∙ ap (λ (m : Marked). record m { closed = c.args.closed }) c.self.view_is
