use Rattle.std.proofs.Common.{◌≡◌, ℕ, ◌-◌, ◌*◌, ◌<◌, length, true, refl, sym, ap, ◌∙◌, arith, nat_lt}
use Rattle.norm_order.specs.Sets.{with_member, is_member}
use Rattle.nack_union.specs.Slots.{stands_from}
use Rattle.nack_union.specs.Kept.{Marked}
use Rattle.nack_union.specs.Sound.{marks_view, slots_from}
use Rattle.nack_union.proofs.Numbered.{stands_behind_start, plain_with, length-padded}
use Rattle.nack_union.proofs.Shifted.{with_from}
use Rattle.nack_union.proofs.marks.Marks.note_sent.Goals as goal

-- the slot lies behind those of earlier blocks, and in the room
behind : (first slot : ℕ) (m n : Marked) → m ≡ n → first ≡ m.first → stands_from n.first slot ≡ true → 0 < slot → 256 * first < slot
behind first slot m n same is kept some =
    stands_behind_start first slot (ap (λ k. stands_from k slot) (is ∙ ap (λ (x : Marked). x.first) same) ∙ kept) some

pub insert-requires : goal.insert-requires
insert-requires c =
    let low = behind c.self.inside.first c.args.slot (marks_view c.self.inside) c.args.self.now c.self.view_is refl c.requires.kept c.requires.symbol in
    let lt = c.requires.within in
    let many = ap (λ (m : Marked). length m.counts) c.self.view_is in
    let pad = length-padded c.self.inside.first c.self.inside.counts.items in
    let size = c.self.invariant.sent in
    let start = c.start-start.ensures ∙ ap (λ (m : Marked). 256 * m.first) (sym c.self.view_is) in
    omega (arith, low, lt, many, pad, size, start)

pub invariant_of-self : goal.invariant_of-self
invariant_of-self c =
    let low = behind c.self.inside.first c.args.slot (marks_view c.self.inside) c.args.self.now c.self.view_is refl c.requires.kept c.requires.symbol in
    let start = c.start-start.ensures ∙ ap (λ (m : Marked). 256 * m.first) (sym c.self.view_is) in
    record {
      wants = c.self.invariant.wants;
      most = c.self.invariant.most;
      front = c.self.invariant.front;
      moves = c.self.invariant.moves;
      sent = c.insert.ensures.size ∙ c.self.invariant.sent;
      closed = c.self.invariant.closed;
      whole = c.self.invariant.whole;
      behind = c.self.invariant.behind;
      asked = c.self.invariant.asked;
      room = c.self.invariant.room;
      idle = c.self.invariant.idle;
      counted = c.self.invariant.counted;
      numbers = c.self.invariant.numbers;
      named = c.self.invariant.named;
      wanted = c.self.invariant.wanted;
      plain = λ e. (
        (c.self.invariant.plain e).0,
        ap (is_member nat_lt 0) c.insert.ensures.members ∙ plain_with _ c.self.inside.sent.members (omega (arith, low, start)) (c.self.invariant.plain e).1,
        (c.self.invariant.plain e).2,
      );
    }

pub returns : goal.returns
returns c =
    let low = behind c.self.inside.first c.args.slot (marks_view c.self.inside) c.args.self.now c.self.view_is refl c.requires.kept c.requires.symbol in
    let start = c.start-start.ensures ∙ ap (λ (m : Marked). 256 * m.first) (sym c.self.view_is) in
    ap (λ xs. record (marks_view c.self.inside) { sent = slots_from c.self.inside.first xs }) (c.insert.ensures.members ∙ ap (λ n. with_member nat_lt (c.args.slot - n) c.self.inside.sent.members) start)
    ∙ ap (λ xs. record (marks_view c.self.inside) { sent = xs }) (with_from (256 * c.self.inside.first) c.args.slot c.self.inside.sent.members (omega (arith, low)))
    ∙ ap (λ (m : Marked). record m { sent = with_member nat_lt c.args.slot m.sent }) c.self.view_is
