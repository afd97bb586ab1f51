use Rattle.std.proofs.Common.{sym, ap, subst, ◌∙◌, arith}
use Rattle.std.specs.Prelude.{nat_eq}
use Rattle.std.specs.List.{IsDistinct}
use Rattle.std.specs.Map.{keys_of}
use Rattle.mark_book.proofs.Members.{unsaid_more, unsaid_keys_at}
use Rattle.mark_book.proofs.listings.forget_all.Goals as goal

pub loop-place-preserved : goal.loop-place-preserved
loop-place-preserved c =
    unsaid_more c.args.past.now.entries _ c.loop-place.place (let lt = c.loop-place-test.true in let e = c.len-place-end.ensures.len in omega (arith, lt, e)) c.loop-place.invariant

pub returns-clause-unique : goal.returns-clause-unique
returns-clause-unique c =
    subst (IsDistinct nat_eq) (sym (ap keys_of c.loop-place.invariant ∙ unsaid_keys_at c.args.past.now.entries c.loop-place.place)) c.len-place-end.ensures.unique
