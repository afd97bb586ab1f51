-- One part after another.
use Rattle.std.proofs.Common.{ℕ, ◌+◌, ◌<◌, get_or, false, refl, sym, ap, ◌∙◌, subst}
use Rattle.norm_order.specs.Shapes.{Shape}
use Rattle.nack_union.specs.Kept.{Kept, Marked, symbols_of_marked}
use Rattle.nack_union.specs.More.{HasMore, HasPart, MoreOf, Part, no_part, and_part}
use Rattle.nack_union.proofs.Mores.{none_more, more_twice}

pub part_none : (u : Kept) → HasPart no_part u u
part_none u = record {
  first = refl;
  objects = refl;
  each = λ k d lt. none_more (λ slot. false) (λ block. 0) (get_or u.objects k d) (λ slot kept. refl) (λ block from. refl);
}

pub part_then : (a b : Part) (old mid new : Kept) → HasPart a old mid → HasPart b mid new → HasPart (and_part a b) old new
part_then a b old mid new one two = record {
  first = two.first ∙ one.first;
  objects = two.objects ∙ one.objects;
  each = λ k d lt. go k (get_or old.objects k d) (get_or mid.objects k d) (get_or new.objects k d) (one.each k d lt)
      (subst (λ first. MoreOf b (first + k) (get_or mid.objects k d) (get_or new.objects k d)) one.first (two.each k d (subst (λ n. k < n) (sym one.objects) lt)));
}
  where
    go : (k : ℕ) (x y z : Marked) → MoreOf a (old.first + k) x y → MoreOf b (old.first + k) y z → MoreOf (and_part a b) (old.first + k) x z
    go k x y z f g =
        more_twice (a.slots (old.first + k) (symbols_of_marked x) x.info) (b.slots (old.first + k) (symbols_of_marked x) x.info)
        (a.counts (old.first + k) (symbols_of_marked x)) (b.counts (old.first + k) (symbols_of_marked x)) x y z f
        (subst (λ (c : Shape). HasMore (b.slots (old.first + k) c x.info) (b.counts (old.first + k) c) y z) (ap symbols_of_marked f.rest)
        (subst (λ i. HasMore (b.slots (old.first + k) (symbols_of_marked y) i) (b.counts (old.first + k) (symbols_of_marked y)) y z) (ap (λ (m : Marked). m.info) f.rest) g))
