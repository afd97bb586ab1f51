use Rattle.std.proofs.Common.{map, refl, sym, ap, subst, ◌∙◌}
use Rattle.mark_book.specs.BookMoves.{cut_off}
use Rattle.mark_book.specs.BookSound.{AreNumbered}
use Rattle.mark_book.proofs.Counts.{count_cut}
use Rattle.mark_book.proofs.Lists.{rest_written, finished_stays}
use Rattle.mark_book.proofs.Keeping.{front_of, kept_ended}
use Rattle.mark_book.proofs.watermarks.Watermarks.cut.Goals as goal

pub invariant_of-self : goal.invariant_of-self
invariant_of-self c =
    let e = rest_written c.self.inside.all _ _ c.self.inside.done cut_off (finished_stays _ _)
    c.deref_mut.ensures.value c.deref_mut.ensures.len c.self.invariant.within (front_of _ _ c.self.invariant.done) c.cut.ensures in
    kept_ended c.self.inside _ _ _ c.self.invariant e refl (sym (count_cut c.self.inside.all.items))

pub returns-clause-cut : goal.returns-clause-cut
returns-clause-cut c =
    rest_written c.self.inside.all _ _ c.self.inside.done cut_off (finished_stays _ _)
    c.deref_mut.ensures.value c.deref_mut.ensures.len c.self.invariant.within (front_of _ _ c.self.invariant.done) c.cut.ensures
    ∙ ap (map cut_off) c.self.view_is

pub returns-clause-numbered : goal.returns-clause-numbered
returns-clause-numbered c = subst (AreNumbered 1) c.self.view_is c.self.invariant.numbered
