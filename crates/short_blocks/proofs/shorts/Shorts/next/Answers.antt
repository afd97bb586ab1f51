use Rattle.std.proofs.Common.{ℕ, Option, subst, sym, ap, ◌∙◌, cond, nat_lt, Some, None, arith, ◌≡◌, ◌≤◌, ◌+◌, true}
use Rattle.short_blocks.specs.State.{IsFirstFrom, ShortsState, is_short}
use Rattle.short_blocks.specs.Sound.{shorts_view}
use Rattle.short_blocks.specs.declared.links.Link.{Link}
use Rattle.short_blocks.proofs.Windows.{first_from, link_is, within}
use Rattle.short_blocks.proofs.shorts.Shorts.next.Goals as goal

pub returns : goal.returns
returns c =
    let s = c.self.inside in
    let h = c.self.invariant in
    let le : s.start ≤ c.args.block = subst (λ (w : ShortsState). w.start ≤ c.args.block) (sym c.self.view_is) c.requires.reached in
    let at = within s.start s.end s.first s.links.items c.args.block le (subst (λ (w : ShortsState). is_short w c.args.block ≡ true) (sym c.self.view_is) c.requires.short) in
    let next = ap (λ (l : Link). l.next) (c.link_at-link.ensures ∙ link_is s.start s.end s.first s.done_from s.links.items h c.args.block le at.0 at.1) in
    subst (λ (w : ShortsState). IsFirstFrom w (c.args.block + 1) c.block_before.result) c.self.view_is
    (subst (λ (o : Option ℕ). IsFirstFrom (shorts_view s) (c.args.block + 1) o) (sym (c.block_before.ensures ∙ ap (λ (n : ℕ). cond (nat_lt n s.end) (Some n) None) next))
    (first_from s.start s.end s.first s.links.items (c.args.block + 1) _ h.linked.width (omega arith) (h.linked.next c.args.block le at.0 at.1)))
