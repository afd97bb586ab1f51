use Rattle.std.proofs.Common.{ℕ, ◌+◌, ◌≤◌, rules, arith, ap, ◌∙◌}
use Rattle.norm_ext.specs.Asked.{Writing, asked_for}
use Rattle.norm_ext.proofs.AskedLemmas.{JoinsLast, longer, begun, added_longer, added_begun}
use Rattle.norm_ext.proofs.writer.RequestWriter.push_item.Goals as goal
use Rattle.norm_ext.proofs.writer.RequestWriter.push_item.Goals.{then-joins, else-joins, then-joins-2, else-joins-2}

pub returns-then-self-more-clause-added : goal.returns-then-self-more-clause-added
returns-then-self-more-clause-added c front asked has =
    let b = asked_for c.args.form c.args.flags c.args.first c.args.last in
    let size = c.ends_len-items.ensures.exact c.args.first in
    let limit = ap (λ (x : Writing). x.limit) c.self.view_is in
    let used = ap (λ (x : Writing). x.used) c.self.view_is in
    elim c.if-joins.branch [
      | then-joins w ↦
          let joins : JoinsLast c.args.self.now b = search rules in
          let l = longer c.args.self.now c.args.out.now front asked b has joins in
          omega (arith, l.size, size, w.more-is, c.if-self-more.true, limit, used)
      | else-joins w ↦
          let apart : JoinsLast c.args.self.now b → ⊥ = λ j. search rules in
          let l = begun c.args.self.now c.args.out.now front asked b has apart in
          omega (arith, l.size, size, w.more-is, c.if-self-more.true, limit, used)
    ]

pub returns-clause-added : goal.returns-clause-added
returns-clause-added c front asked has =
    let b = asked_for c.args.form c.args.flags c.args.first c.args.last in
    let n : ℕ = c.ends_len-items.result in
    let size = c.ends_len-items.ensures.exact c.args.first in
    let limit = ap (λ (x : Writing). x.limit) c.self.view_is in
    let used = ap (λ (x : Writing). x.used) c.self.view_is in
    elim c.if-joins-2.branch [
      | then-joins-2 w ↦
          let joins : JoinsLast c.args.self.now b = search rules in
          let fits : c.args.self.now.used + n ≤ c.args.self.now.limit =
          elim c.if-joins.branch [ then-joins v ↦ omega (arith, v.more-is, c.if-self-more.false, limit, used, has.within) | else-joins v ↦ omega (arith, v.more-is, c.if-self-more.false, limit, used, has.within) ] in
          added_longer c.args.self.now c.if-joins-2.self c.args.out.now c.if-joins-2.out c.push_ends.new.out front asked b n has joins size fits
          (w.out-is ∙ w.lengthen.ensures.out) (w.self-is ∙ w.lengthen.ensures.writer) c.push_ends.ensures
      | else-joins-2 w ↦
          let apart : JoinsLast c.args.self.now b → ⊥ = λ j. search rules in
          let fits : c.args.self.now.used + (4 + n) ≤ c.args.self.now.limit =
          elim c.if-joins.branch [ then-joins v ↦ absurd (search rules) | else-joins v ↦ omega (arith, v.more-is, c.if-self-more.false, limit, used, has.within) ] in
          added_begun c.args.self.now c.if-joins-2.self c.args.out.now c.if-joins-2.out c.push_ends.new.out front asked b n has apart size fits
          (w.out-is ∙ w.begin.ensures.out) (w.self-is ∙ w.begin.ensures.writer) c.push_ends.ensures
    ]
