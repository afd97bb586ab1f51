-- What requests count of a block of the window, in all and by the rules.
use Rattle.std.proofs.Common.{◌≡◌, ℕ, ◌+◌, ◌<◌, ◌≤◌, ◌⊎◌, inl, inr, List, [], ◌∷◌, ◌++◌, map, length, get_or, Bool, true, false, cond, refl, sym, ap, subst, ◌∙◌, arith, flat_map}
use Rattle.std.specs.Prelude.{filter, fold, max, nat_lt, not, ◌&&◌}
use Rattle.std.specs.List.{AllByRecursion}
use Rattle.std.proofs.lemmas.Bool.{cases_lt}
use Rattle.std.proofs.lemmas.Bool.Decides.{Decides-eqb, Decides-and}
use Rattle.norm_base.specs.Settings.{Settings}
use Rattle.fec_plan.specs.Points.{Point, point, point_before, position, same_point}
use Rattle.norm_ext.specs.Asking.{Named, Count, asked_counts}
use Rattle.norm_order.specs.Shapes.{closed_in}
use Rattle.norm_send_rules.specs.SenderState.{SenderState, Asked}
use Rattle.norm_send_rules.specs.InWindow.{current_shapes}
use Rattle.norm_send_rules.specs.Asking.{as_it_came, counts_of, is_kept}
use Rattle.norm_send_rules.specs.Closing.{greatest}
use Rattle.nack_union.specs.Collected.{asked_of}
use Rattle.nack_union.specs.Kept.{Marked, Kept, Holds, shape_of_marked, symbols_of_marked}
use Rattle.nack_union.specs.More.{kept_count}
use Rattle.nack_union.specs.Adding.{IsPlanned}
use Rattle.nack_union.proofs.AskedSlots.{test_at}
use Rattle.nack_union.proofs.Collecting.{some_greatest}
use Rattle.nack_union.proofs.Fronts.{symbol_behind}
use Rattle.nack_union.proofs.Lists.{In, in_flat, in_filter}
use Rattle.nack_union.proofs.Sources.{in_map}

abbrev pub most : List Count → ℕ
most counts = fold (λ n (c : Count). max n c.lacking) 0 counts

pub most_from : (n : ℕ) (counts : List Count) → fold (λ n (c : Count). max n c.lacking) n counts ≡ max n (most counts)
most_from n [] = omega arith
most_from n (c ∷ counts) =
    let one = most_from (max n c.lacking) counts in
    let two = most_from (max 0 c.lacking) counts in
    omega (arith, one, two)

-- the greatest of two lists
pub greatest_both : (xs ys : List Count) (at : Point) → greatest (xs ++ ys) at ≡ max (greatest xs at) (greatest ys at)
greatest_both [] ys at = omega arith
greatest_both (c ∷ xs) ys at = go (same_point c.of at) (greatest_both xs ys at)
  where
    go : (b : Bool) → greatest (xs ++ ys) at ≡ max (greatest xs at) (greatest ys at)
        → most (cond b (c ∷ filter (λ c. same_point c.of at) (xs ++ ys)) (filter (λ c. same_point c.of at) (xs ++ ys)))
        ≡ max (most (cond b (c ∷ filter (λ c. same_point c.of at) xs) (filter (λ c. same_point c.of at) xs))) (greatest ys at)
    go true rest =
        let one = most_from (max 0 c.lacking) (filter (λ c. same_point c.of at) (xs ++ ys)) in
        let two = most_from (max 0 c.lacking) (filter (λ c. same_point c.of at) xs) in
        omega (arith, one, two, rest)
    go false rest = rest

same_of : (a b : Point) → same_point a b ≡ true → a ≡ b
same_of a b e =
    let both = (Decides-and _ _ (Decides-eqb a.index b.index) (Decides-eqb a.block b.block)).0 e in
    ap (λ i. point i a.block) both.0 ∙ ap (point b.index) both.1

-- what is kept at a block that is kept
kept_there : (kept : Point → Bool) (at : Point) (counts : List Count) → kept at ≡ true
    → filter (λ (c : Count). same_point c.of at) (filter (λ (c : Count). kept c.of) counts) ≡ filter (λ (c : Count). same_point c.of at) counts
kept_there kept at [] e = refl
kept_there kept at (c ∷ counts) e = go (kept c.of) (same_point c.of at) refl refl (kept_there kept at counts e)
  where
    go : (b t : Bool) → kept c.of ≡ b → same_point c.of at ≡ t
        → filter (λ (c : Count). same_point c.of at) (filter (λ (c : Count). kept c.of) counts) ≡ filter (λ (c : Count). same_point c.of at) counts
        → filter (λ (c : Count). same_point c.of at) (cond b (c ∷ filter (λ (c : Count). kept c.of) counts) (filter (λ (c : Count). kept c.of) counts))
        ≡ cond t (c ∷ filter (λ (c : Count). same_point c.of at) counts) (filter (λ (c : Count). same_point c.of at) counts)
    go true t f g rest =
        ap (λ b. cond b (c ∷ filter (λ (c : Count). same_point c.of at) (filter (λ (c : Count). kept c.of) counts)) (filter (λ (c : Count). same_point c.of at) (filter (λ (c : Count). kept c.of) counts))) g
        ∙ ap (λ cs. cond t (c ∷ cs) cs) rest
    go false true f g rest = let h = ap kept (same_of c.of at g) in absurd (cc)
    go false false f g rest = rest

-- A union that stands for a state, at whose moment requests come.
module _ (p : Settings) (s : SenderState) (u : Kept) (d : Marked) (st : Holds p u s) (planned : AllByRecursion IsPlanned u.objects) where
  abbrev kept_at : Named → Point → Bool
  kept_at r at = is_kept (as_it_came (asked_of p s r) (current_shapes p s)) s.current.drop at

  -- a kept block of the window of which something is closed is counted
  block_kept : (r : Named) (k block : ℕ) → k < length u.objects → (get_or u.objects k d).first ≤ block → nat_lt 0 (closed_in (shape_of_marked (get_or u.objects k d)) block) ≡ true → kept_at r (point (u.first + k) block) ≡ true
  block_kept r k block lt from some =
      go _ _ (symbol_behind s.current.drop u.first k (position (u.first + k) block 0) u.objects d st.fronts st.first lt refl from)
      (test_at p s u r d st planned k lt (λ x. nat_lt 0 (closed_in x block)) ∙ some)
    where
      go : (b c : Bool) → b ≡ true → c ≡ true → (b && c) ≡ true
      go true c e f = f
      go false c e f = absurd (cc)

  -- so that of such a block the rules keep all counts
  pub all_kept : (requests : List Named) (k block : ℕ) → k < length u.objects → (get_or u.objects k d).first ≤ block → nat_lt 0 (closed_in (shape_of_marked (get_or u.objects k d)) block) ≡ true
      → greatest (flat_map (counts_of (current_shapes p s)) (map (asked_of p s) requests)) (point (u.first + k) block)
      ≡ greatest (flat_map asked_counts requests) (point (u.first + k) block)
  all_kept [] k block lt from less = refl
  all_kept (r ∷ requests) k block lt from less =
      greatest_both (counts_of (current_shapes p s) (asked_of p s r)) (flat_map (counts_of (current_shapes p s)) (map (asked_of p s) requests)) (point (u.first + k) block)
      ∙ ap (λ cs. max (most cs) (greatest (flat_map (counts_of (current_shapes p s)) (map (asked_of p s) requests)) (point (u.first + k) block)))
      (kept_there (kept_at r) (point (u.first + k) block) (asked_counts r) (block_kept r k block lt from less))
      ∙ ap (max (greatest (asked_counts r) (point (u.first + k) block))) (all_kept requests k block lt from less)
      ∙ sym (greatest_both (asked_counts r) (flat_map asked_counts requests) (point (u.first + k) block))

  -- and of one of which nothing is closed, none
  pub none_kept : (requests : List Named) (k block : ℕ) → k < length u.objects → nat_lt 0 (closed_in (shape_of_marked (get_or u.objects k d)) block) ≡ false
      → greatest (flat_map (counts_of (current_shapes p s)) (map (asked_of p s) requests)) (point (u.first + k) block) ≡ 0
  none_kept requests k block lt empty = go (cases_lt 0 (greatest counts (point (u.first + k) block)))
    where
      counts : List Count
      counts = flat_map (counts_of (current_shapes p s)) (map (asked_of p s) requests)

      clash : false ≡ true → ⊥
      clash h = cc

      second : (b c : Bool) → (b && c) ≡ true → c ≡ true
      second true c e = e
      second false c e = absurd (cc)

      refuted : (r : Named) → kept_at r (point (u.first + k) block) ≡ true → ⊥
      refuted r e =
          clash (sym empty ∙ sym (test_at p s u r d st planned k lt (λ x. nat_lt 0 (closed_in x block))) ∙ second (not (point_before (point (u.first + k) block) s.current.drop)) _ e)

      go : (0 < greatest counts (point (u.first + k) block)) ⊎ (greatest counts (point (u.first + k) block) ≤ 0) → greatest counts (point (u.first + k) block) ≡ 0
      go (inl some) =
          let c = some_greatest counts (point (u.first + k) block) some in
          let a = in_flat (counts_of (current_shapes p s)) c.0 (map (asked_of p s) requests) c.1 in
          let r = in_map (asked_of p s) a.0 requests a.1 in
          let of : In c.0 (counts_of (current_shapes p s) (asked_of p s r.0)) = subst (λ (x : Asked). In c.0 (counts_of (current_shapes p s) x)) r.2 a.2 in
          let kept = (in_filter (λ (c : Count). kept_at r.0 c.of) c.0 (asked_counts r.0) of).1 in
          absurd (refuted r.0 (sym (ap (kept_at r.0) c.2) ∙ kept))
      go (inr none) = omega (arith, none)

  -- what the rules keep of the counts of a block
  pub counts_kept : (requests : List Named) (k block : ℕ) → k < length u.objects → (get_or u.objects k d).first ≤ block
      → kept_count (symbols_of_marked (get_or u.objects k d)) block (greatest (flat_map asked_counts requests) (point (u.first + k) block))
      ≡ greatest (flat_map (counts_of (current_shapes p s)) (map (asked_of p s) requests)) (point (u.first + k) block)
  counts_kept requests k block lt from = by (nat_lt 0 (closed_in (symbols_of_marked (get_or u.objects k d)) block)) refl
    where
      by : (b : Bool) → nat_lt 0 (closed_in (symbols_of_marked (get_or u.objects k d)) block) ≡ b
          → (elim b as (λ _. ℕ) [ true ↦ greatest (flat_map asked_counts requests) (point (u.first + k) block) | false ↦ 0 ])
          ≡ greatest (flat_map (counts_of (current_shapes p s)) (map (asked_of p s) requests)) (point (u.first + k) block)
      by true e = sym (all_kept requests k block lt from e)
      by false e = sym (none_kept requests k block lt e)
