use Rattle.std.proofs.Common.{map, refl, ap, subst, ◌∙◌}
use Rattle.mark_book.specs.BookMoves.{settled_by}
use Rattle.mark_book.specs.BookSound.{AreNumbered}
use Rattle.mark_book.proofs.Counts.{count_of_rest}
use Rattle.mark_book.proofs.Lists.{rest_written, finished_stays}
use Rattle.mark_book.proofs.Keeping.{front_of, kept_ended}
use Rattle.mark_book.proofs.watermarks.Watermarks.settle.Goals as goal

pub invariant_of-self : goal.invariant_of-self
invariant_of-self c =
    let e = rest_written c.self.inside.all _ _ c.self.inside.done (settled_by c.args.listings.now) (finished_stays _ _)
    c.deref_mut.ensures.value c.deref_mut.ensures.len c.self.invariant.within (front_of _ _ c.self.invariant.done) c.settle-still_open.ensures.settled in
    kept_ended c.self.inside _ _ _ c.self.invariant e refl (
    count_of_rest (settled_by c.args.listings.now) (finished_stays _ _) _ _ _ _ _ c.deref_mut.ensures.value (front_of _ _ c.self.invariant.done) c.settle-still_open.ensures.settled
    c.settle-still_open.ensures.still_open)

pub returns-clause-settled : goal.returns-clause-settled
returns-clause-settled c =
    rest_written c.self.inside.all _ _ c.self.inside.done (settled_by c.args.listings.now) (finished_stays _ _)
    c.deref_mut.ensures.value c.deref_mut.ensures.len c.self.invariant.within (front_of _ _ c.self.invariant.done) c.settle-still_open.ensures.settled
    ∙ ap (map (settled_by c.args.listings.now)) c.self.view_is

pub returns-clause-numbered : goal.returns-clause-numbered
returns-clause-numbered c = subst (AreNumbered 1) c.self.view_is c.self.invariant.numbered
