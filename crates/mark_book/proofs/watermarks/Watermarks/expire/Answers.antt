use Rattle.std.proofs.Common.{map, refl, ap, subst, ◌∙◌}
use Rattle.mark_book.specs.BookMoves.{expired_by}
use Rattle.mark_book.specs.BookSound.{AreNumbered}
use Rattle.mark_book.proofs.Counts.{count_of_rest}
use Rattle.mark_book.proofs.Lists.{rest_written, finished_stays}
use Rattle.mark_book.proofs.Keeping.{front_of, kept_ended}
use Rattle.mark_book.proofs.watermarks.Watermarks.expire.Goals as goal

pub invariant_of-self : goal.invariant_of-self
invariant_of-self c =
    let e = rest_written c.self.inside.all _ _ c.self.inside.done (expired_by c.args.listings.now c.args.mark) (finished_stays _ _)
    c.deref_mut.ensures.value c.deref_mut.ensures.len c.self.invariant.within (front_of _ _ c.self.invariant.done) c.expire-still_open.ensures.expired in
    kept_ended c.self.inside _ _ _ c.self.invariant e refl (
    count_of_rest (expired_by c.args.listings.now c.args.mark) (finished_stays _ _) _ _ _ _ _ c.deref_mut.ensures.value (front_of _ _ c.self.invariant.done) c.expire-still_open.ensures.expired
    c.expire-still_open.ensures.still_open)

pub returns-clause-expired : goal.returns-clause-expired
returns-clause-expired c =
    rest_written c.self.inside.all _ _ c.self.inside.done (expired_by c.args.listings.now c.args.mark) (finished_stays _ _)
    c.deref_mut.ensures.value c.deref_mut.ensures.len c.self.invariant.within (front_of _ _ c.self.invariant.done) c.expire-still_open.ensures.expired
    ∙ ap (map (expired_by c.args.listings.now c.args.mark)) c.self.view_is

pub returns-clause-numbered : goal.returns-clause-numbered
returns-clause-numbered c = subst (AreNumbered 1) c.self.view_is c.self.invariant.numbered
