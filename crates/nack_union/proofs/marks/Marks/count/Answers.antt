use Rattle.std.proofs.Common.{◌≡◌, ◌+◌, ◌-◌, ◌<◌, ◌≤◌, ◌++◌, length, set, replicate, true, false, sym, ap, ◌∙◌, arith}
use Rattle.std.specs.Prelude.{max, slice_index, get_or}
use Rattle.nack_union.specs.Kept.{Marked}
use Rattle.nack_union.specs.Sound.{marks_view}
use Rattle.std.proofs.lemmas.List.{get_or_read, length-set}
use Rattle.nack_union.proofs.Numbered.{set_padded, count_behind, length-padded}
use Rattle.nack_union.proofs.Bounds.{count_named}
use Rattle.nack_union.proofs.marks.Marks.count.Goals as goal

pub returns : goal.returns
returns c =
    let first = ap (λ (m : Marked). m.first) c.self.view_is in
    let many = ap (λ (m : Marked). length m.counts) c.self.view_is in
    let pad = length-padded c.self.inside.first c.self.inside.counts.items in
    let low : c.self.inside.first ≤ c.args.block = let le = c.requires.kept in omega (arith, le, first) in
    let lt : c.args.block - c.self.inside.first < length c.self.inside.counts.items = let less = c.requires.within in omega (arith, less, many, pad, low) in
    ap (λ v. record (marks_view c.self.inside) { counts = replicate c.self.inside.first 0 ++ set c.self.inside.counts.items (c.args.block - c.self.inside.first) v })
    (c.greater_count-most.ensures ∙ ap (λ n. max n c.args.lacking) (get_or_read c.self.inside.counts.items (c.args.block - c.self.inside.first) c.index.result.now lt c.index.ensures 0 ∙ sym (count_behind c.self.inside.first c.args.block c.self.inside.counts.items low)))
    ∙ ap (λ xs. record (marks_view c.self.inside) { counts = xs })
    (sym (set_padded c.self.inside.first (c.args.block - c.self.inside.first) (max (get_or (replicate c.self.inside.first 0 ++ c.self.inside.counts.items) c.args.block 0) c.args.lacking) c.self.inside.counts.items)
    ∙ ap (λ k. set (replicate c.self.inside.first 0 ++ c.self.inside.counts.items) k (max (get_or (replicate c.self.inside.first 0 ++ c.self.inside.counts.items) c.args.block 0) c.args.lacking)) (let e : c.self.inside.first + (c.args.block - c.self.inside.first) ≡ c.args.block = omega (arith, low) in e))
    ∙ ap (λ (m : Marked). record m { counts = set m.counts c.args.block (max (slice_index m.counts c.args.block) c.args.lacking) }) c.self.view_is

pub invariant_of-self : goal.invariant_of-self
invariant_of-self c =
    let first = ap (λ (m : Marked). m.first) c.self.view_is in
    let many = ap (λ (m : Marked). length m.counts) c.self.view_is in
    let pad = length-padded c.self.inside.first c.self.inside.counts.items in
    let low : c.self.inside.first ≤ c.args.block = let le = c.requires.kept in omega (arith, le, first) in
    let lt : c.args.block - c.self.inside.first < length c.self.inside.counts.items = let less = c.requires.within in omega (arith, less, many, pad, low) in
    let same = length-set c.self.inside.counts.items (c.args.block - c.self.inside.first) c.greater_count-most.result in
    record {
      wants = let was = c.self.invariant.wants in omega (arith, was, same);
      most = let was = c.self.invariant.most in omega (arith, was, same);
      front = c.self.invariant.front;
      moves = c.self.invariant.moves;
      sent = let was = c.self.invariant.sent in omega (arith, was, same);
      closed = c.self.invariant.closed;
      whole = c.self.invariant.whole;
      behind = λ block le. c.self.invariant.behind block (omega (arith, le, same));
      asked = c.self.invariant.asked;
      room = let was = c.self.invariant.room in omega (arith, was, same);
      idle = λ e. absurd (clash e);
      counted = count_named c.self.inside.first (c.args.block - c.self.inside.first) c.greater_count-most.result c.self.inside.counts.items (let number = c.requires.number in omega (arith, number, low)) lt c.self.invariant.counted;
      wanted = c.self.invariant.wanted;
      numbers = c.self.invariant.numbers;
      named = c.self.invariant.named;
      plain = c.self.invariant.plain;
    }
  where
    clash : true ≡ false → ⊥
    clash e = cc
