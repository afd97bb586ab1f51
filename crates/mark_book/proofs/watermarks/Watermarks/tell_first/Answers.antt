use Rattle.std.proofs.Common.{◌≤◌, length, sym, ap, subst, ◌∙◌, arith}
use Rattle.std.specs.Prelude.{find}
use Rattle.std.specs.List.{prefix_len}
use Rattle.mark_book.specs.BookState.{Kept}
use Rattle.mark_book.specs.BookMoves.{told_first, is_finished, open_count}
use Rattle.mark_book.specs.BookSound.{AreNumbered}
use Rattle.mark_book.proofs.Counts.{count_told}
use Rattle.mark_book.proofs.Tellings.{told_length, told_numbered, first_stays}
use Rattle.mark_book.proofs.Keeping.{front_of, told_front, front_within, rest_told, first_of_rest}
use Rattle.mark_book.proofs.watermarks.Watermarks.tell_first.Goals as goal

pub returns-in_err-first-clause-first : goal.returns-in_err-first-clause-first
returns-in_err-first-clause-first c =
    c.from_residual.ensures ∙ sym c.in_err-first.was
    ∙ first_of_rest _ _ _ _ c.deref_mut.ensures.value (front_of _ _ c.self.invariant.done) c.tell_first.ensures.first
    ∙ ap (find (λ (k : Kept). k.untold)) c.self.view_is

pub returns-in_err-first-clause-told : goal.returns-in_err-first-clause-told
returns-in_err-first-clause-told c =
    rest_told c.self.inside.all _ _ c.self.inside.done c.deref_mut.ensures.value c.deref_mut.ensures.len c.self.invariant.within (front_of _ _ c.self.invariant.done) c.tell_first.ensures.told
    ∙ ap told_first c.self.view_is

pub invariant_of-self : goal.invariant_of-self
invariant_of-self c =
    let e = rest_told c.self.inside.all _ _ c.self.inside.done c.deref_mut.ensures.value c.deref_mut.ensures.len c.self.invariant.within (front_of _ _ c.self.invariant.done) c.tell_first.ensures.told in
    let first = first_of_rest _ _ _ _ c.deref_mut.ensures.value (front_of _ _ c.self.invariant.done) c.tell_first.ensures.first in
    let same = e ∙ first_stays c.self.inside.all.items (sym first ∙ c.in_err-first.was) in
    let many = ap length same in
    let counted = c.self.invariant.counted in
    let le : c.self.inside.done ≤ length c.self.inside.all.items = c.self.invariant.within in
    record {
      numbered = subst (AreNumbered 1) (sym same) c.self.invariant.numbered;
      counted = omega (arith, many, counted);
      within = omega (arith, many, le);
      done = c.self.invariant.done ∙ ap (prefix_len is_finished) (sym same);
      still_open = c.self.invariant.still_open ∙ ap open_count (sym same);
    }

pub overflow_add-self : goal.overflow_add-self
overflow_add-self c =
    let is = told_front c.self.inside.all.items _ c.self.inside.done _ c.self.invariant.done (c.deref.ensures.value
    ∙ rest_told c.self.inside.all _ _ c.self.inside.done c.deref_mut.ensures.value c.deref_mut.ensures.len c.self.invariant.within (front_of _ _ c.self.invariant.done) c.tell_first.ensures.told)
    c.count_finished.ensures in
    let le = front_within (told_first c.self.inside.all.items) in
    let many = told_length c.self.inside.all.items in
    let counted = c.self.invariant.counted in
    omega (arith, is, le, many, counted)

pub invariant_of-self-2 : goal.invariant_of-self-2
invariant_of-self-2 c =
    let e = rest_told c.self.inside.all _ _ c.self.inside.done c.deref_mut.ensures.value c.deref_mut.ensures.len c.self.invariant.within (front_of _ _ c.self.invariant.done) c.tell_first.ensures.told in
    let many = ap length e in
    let same = told_length c.self.inside.all.items in
    let counted = c.self.invariant.counted in
    let is = told_front c.self.inside.all.items _ c.self.inside.done _ c.self.invariant.done (c.deref.ensures.value
    ∙ rest_told c.self.inside.all _ _ c.self.inside.done c.deref_mut.ensures.value c.deref_mut.ensures.len c.self.invariant.within (front_of _ _ c.self.invariant.done) c.tell_first.ensures.told)
    c.count_finished.ensures in
    let le = front_within (told_first c.self.inside.all.items) in
    record {
      numbered = subst (AreNumbered 1) (sym e) (told_numbered 1 c.self.inside.all.items c.self.invariant.numbered);
      counted = omega (arith, many, same, counted);
      within = omega (arith, many, is, le);
      done = is ∙ ap (prefix_len is_finished) (sym e);
      still_open = c.self.invariant.still_open ∙ sym (ap open_count e ∙ count_told c.self.inside.all.items);
    }

pub returns-clause-first : goal.returns-clause-first
returns-clause-first c =
    sym c.in_ok-first.was
    ∙ first_of_rest _ _ _ _ c.deref_mut.ensures.value (front_of _ _ c.self.invariant.done) c.tell_first.ensures.first
    ∙ ap (find (λ (k : Kept). k.untold)) c.self.view_is

pub returns-clause-told : goal.returns-clause-told
returns-clause-told c =
    rest_told c.self.inside.all _ _ c.self.inside.done c.deref_mut.ensures.value c.deref_mut.ensures.len c.self.invariant.within (front_of _ _ c.self.invariant.done) c.tell_first.ensures.told
    ∙ ap told_first c.self.view_is
