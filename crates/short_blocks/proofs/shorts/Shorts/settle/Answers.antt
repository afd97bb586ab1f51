use Rattle.std.proofs.Common.{ℕ, subst, sym, ap, ◌∙◌, arith, ◌≡◌, ◌<◌, ◌≤◌, true}
use Rattle.short_blocks.specs.State.{ShortsState, is_short, settled}
use Rattle.short_blocks.specs.Sound.{next_in, shorts_view}
use Rattle.short_blocks.specs.declared.links.Link.{Link}
use Rattle.short_blocks.specs.declared.shorts.Shorts.TheInside.{Inside}
use Rattle.short_blocks.proofs.Windows.{link_is, within, settled_view, settled_window}
use Rattle.short_blocks.proofs.shorts.Shorts.settle.Goals as goal

-- what is known of the block by the contract
record IsAt (s : Inside) (block : ℕ) : Type 0 where
  reached : s.start ≤ block
  under : block < s.end
  short : 0 < next_in s.start s.end s.first s.links.items block

at_block : (s : Inside) (block : ℕ) (w : ShortsState) → shorts_view s ≡ w → w.start ≤ block → is_short w block ≡ true → IsAt s block
at_block s block w is reached short =
    let le : s.start ≤ block = subst (λ (v : ShortsState). v.start ≤ block) (sym is) reached in
    let at = within s.start s.end s.first s.links.items block le (subst (λ (v : ShortsState). is_short v block ≡ true) (sym is) short) in
    record { reached = le; under = at.0; short = at.1 }

pub join_before-first-requires : goal.join_before-first-requires
join_before-first-requires c =
    let s = c.self.inside in
    let h = c.self.invariant in
    let at = at_block s c.args.block _ c.self.view_is c.requires.reached c.requires.short in
    let back = ap (λ (l : Link). l.done_from) (c.link_at-run.ensures ∙ link_is s.start s.end s.first s.done_from s.links.items h c.args.block at.reached at.under at.short) in
    let most = (h.linked.before c.args.block at.reached at.under at.short).most in
    let under = at.under in
    record { room = λ lt. let all = h.many (omega (arith, lt, back, most, under)) in omega (arith, lt, back, most, under, all) }

pub join_behind-last-requires : goal.join_behind-last-requires
join_behind-last-requires c =
    let s = c.self.inside in
    let h = c.self.invariant in
    let at = at_block s c.args.block _ c.self.view_is c.requires.reached c.requires.short in
    let next = ap (λ (l : Link). l.next) (c.link_at-run.ensures ∙ link_is s.start s.end s.first s.done_from s.links.items h c.args.block at.reached at.under at.short) in
    let above = (h.linked.next c.args.block at.reached at.under at.short).above in
    let reached = at.reached in
    record {
      above = omega (arith, next, above, reached);
      room = λ lt. let all = h.many (omega (arith, lt, next, above, reached)) in let same = c.join_before-first.ensures.length in omega (arith, lt, next, above, reached, all, same);
    }

pub invariant_of-self : goal.invariant_of-self
invariant_of-self c =
    let s = c.self.inside in
    let h = c.self.invariant in
    let at = at_block s c.args.block _ c.self.view_is c.requires.reached c.requires.short in
    settled_window s.start s.end s.first s.done_from c.args.block c.link_at-run.result s.links.items c.join_before-first.new.links.items c.join_behind-last.new.links.items c.mark_done.new.links.items
    c.join_before-first.result c.join_behind-last.result h at.reached at.under at.short
    (c.link_at-run.ensures ∙ link_is s.start s.end s.first s.done_from s.links.items h c.args.block at.reached at.under at.short)
    (record {
      before = c.join_before-first.ensures.joined;
      before_rest = c.join_before-first.ensures.others;
      before_same = c.join_before-first.ensures.same;
      behind = c.join_behind-last.ensures.joined;
      behind_rest = c.join_behind-last.ensures.others;
      behind_same = c.join_behind-last.ensures.same;
      done = c.mark_done.ensures.done;
      done_rest = c.mark_done.ensures.others;
      done_same = c.mark_done.ensures.same;
      joined_length = c.join_before-first.ensures.length;
      linked_length = c.join_behind-last.ensures.length;
      new_length = c.mark_done.ensures.length;
    })
    (record {
      first = c.join_before-first.ensures.first;
      next = c.join_before-first.ensures.next;
      last = c.join_behind-last.ensures.last;
      gone = c.join_behind-last.ensures.gone;
    })

pub returns : goal.returns
returns c =
    let s = c.self.inside in
    let h = c.self.invariant in
    let at = at_block s c.args.block _ c.self.view_is c.requires.reached c.requires.short in
    settled_view s.start s.end s.first s.done_from c.args.block c.link_at-run.result s.links.items c.join_before-first.new.links.items c.join_behind-last.new.links.items c.mark_done.new.links.items
    c.join_before-first.result c.join_behind-last.result h at.reached at.under at.short
    (c.link_at-run.ensures ∙ link_is s.start s.end s.first s.done_from s.links.items h c.args.block at.reached at.under at.short)
    (record {
      before = c.join_before-first.ensures.joined;
      before_rest = c.join_before-first.ensures.others;
      before_same = c.join_before-first.ensures.same;
      behind = c.join_behind-last.ensures.joined;
      behind_rest = c.join_behind-last.ensures.others;
      behind_same = c.join_behind-last.ensures.same;
      done = c.mark_done.ensures.done;
      done_rest = c.mark_done.ensures.others;
      done_same = c.mark_done.ensures.same;
      joined_length = c.join_before-first.ensures.length;
      linked_length = c.join_behind-last.ensures.length;
      new_length = c.mark_done.ensures.length;
    })
    (record {
      first = c.join_before-first.ensures.first;
      next = c.join_before-first.ensures.next;
      last = c.join_behind-last.ensures.last;
      gone = c.join_behind-last.ensures.gone;
    })
    ∙ ap (settled c.args.block) c.self.view_is
