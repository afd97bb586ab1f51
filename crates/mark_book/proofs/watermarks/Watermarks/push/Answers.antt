use Rattle.std.proofs.Common.{◌≡◌, ◌+◌, ◌≤◌, ◌++◌, [], ◌∷◌, length, sym, ap, subst, ◌∙◌, arith, List, rules, true}
use Rattle.std.specs.Prelude.{is_ok}
use Rattle.std.specs.List.{prefix_len}
use Rattle.std.proofs.lemmas.List.{length_push}
use Rattle.mark_book.specs.BookState.{Kept}
use Rattle.mark_book.specs.BookMoves.{opened, is_finished, open_count}
use Rattle.mark_book.specs.BookSound.{AreNumbered}
use Rattle.mark_book.proofs.Marks.{numbered_push}
use Rattle.mark_book.proofs.Counts.{count_at_most, count_pushed}
use Rattle.mark_book.proofs.Keeping.{pushed, front_pushed}
use Rattle.mark_book.proofs.watermarks.Watermarks.push.Goals as goal

-- the watermarks after the push
longer : (c : goal.Else-is_err) → c.push.new.self.items ≡ c.self.inside.all.items ++ opened (length c.self.inside.all.items + 1) c.args.at c.args.quorum ∷ []
longer c =
    let ok : is_ok c.push.result ≡ true = search rules in
    pushed {X = List Kept} c.push.result _ _ _ c.push.ensures.items ok
    ∙ ap (λ (k : Kept). c.self.inside.all.items ++ k ∷ []) (c.new.ensures ∙ ap (λ n. opened (n + 1) c.args.at c.args.quorum) (c.len-2.ensures ∙ c.self.inside.all.ok.0))

pub overflow_add-self : goal.overflow_add-self
overflow_add-self c =
    let most = count_at_most c.self.inside.all.items in
    let still = c.self.invariant.still_open in
    let counted = c.self.invariant.counted in
    omega (arith, most, still, counted)

pub invariant_of-self-2 : goal.invariant_of-self-2
invariant_of-self-2 c =
    let e = longer c.before in
    let many = ap length e in
    let p = length_push c.self.inside.all.items (opened (length c.self.inside.all.items + 1) c.args.at c.args.quorum) in
    let len = c.len.ensures ∙ c.self.inside.all.ok.0 in
    let le : c.self.inside.done ≤ length c.self.inside.all.items = c.self.invariant.within in
    record {
      numbered = subst (AreNumbered 1) (sym e) (numbered_push 1 c.self.inside.all.items _ c.self.invariant.numbered (omega arith));
      counted = omega (arith, many, p, len);
      within = omega (arith, many, p, le);
      done = c.self.invariant.done ∙ sym (ap (prefix_len is_finished) e ∙ front_pushed c.self.inside.all.items _ _ _);
      still_open = ap (λ n. n + 1) c.self.invariant.still_open ∙ sym (ap open_count e ∙ count_pushed c.self.inside.all.items _ _ _);
    }

pub returns-clause-numbered : goal.returns-clause-numbered
returns-clause-numbered c =
    subst (AreNumbered 1) (sym (longer c.before)) (numbered_push 1 c.self.inside.all.items _ c.self.invariant.numbered (omega arith))
