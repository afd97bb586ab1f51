use Rattle.std.proofs.Common.{◌≡◌, ◌∙◌, ap, subst, get_or, List, ℕ}
use Rattle.std.specs.List.{remove}
use Rattle.norm_session.proofs.LeftLemmas.{is_taken}
use Rattle.norm_session.proofs.left.Left.take.Goals as goal

pub returns : goal.returns
returns c =
    is_taken c.args.lines.now c.args.self.now c.remove.new.self.items c.args.producer c.in-Some.at c.args.place c.index.result.now c.in-Some.ensures.first
    (subst (λ (ps : List ℕ). c.index.result.now ≡ get_or ps c.in-Some.at c.index.result.now) c.self.view_is c.index.ensures) c.if-index-place.false
    (c.remove.ensures.items ∙ ap (λ (ps : List ℕ). remove ps c.in-Some.at) c.self.view_is)
