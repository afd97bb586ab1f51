use Rattle.std.proofs.Common.{◌≡◌, ◌<◌, sym, subst, length, get_or, List, ℕ, rules}
use Rattle.norm_session.proofs.LeftLemmas.{some_left_read, none_more}
use Rattle.norm_session.proofs.left.Left.is_empty.Goals as goal

pub returns-then-index-lines : goal.returns-then-index-lines
returns-then-index-lines c =
    let lt : c.loop-at.at < length c.args.self.now = search rules in
    let read = subst (λ (ps : List ℕ). c.index.result.now ≡ get_or ps c.loop-at.at c.index.result.now) c.self.view_is c.index.ensures in
    sym (some_left_read c.args.lines.now c.args.self.now c.loop-at.at c.index.result.now lt read c.if-index-lines.true)

pub loop-at-preserved : goal.loop-at-preserved
loop-at-preserved c =
    let lt : c.loop-at.at < length c.args.self.now = search rules in
    let read = subst (λ (ps : List ℕ). c.index.result.now ≡ get_or ps c.loop-at.at c.index.result.now) c.self.view_is c.index.ensures in
    none_more c.args.lines.now c.args.self.now c.loop-at.at c.index.result.now lt read c.if-index-lines.false c.loop-at.invariant
