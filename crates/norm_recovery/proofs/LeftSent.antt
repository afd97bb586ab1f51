-- What one will have with a want that it has by now, it will have without that want too.
use Rattle.std.proofs.Common.{◌≡◌, ℕ, ◌≤◌, cond, List, [], ◌∷◌, length, map, filter, Bool, true, false, Option, None, Some, refl, sym, ap, ◌∙◌, subst, arith, ◌⊎◌, inl, inr}
use Rattle.std.specs.Prelude.{◌==◌, ◌||◌, not, is_some, slice_get}
use Rattle.std.proofs.lemmas.Bool.Decides.{Decides-eqb}
use Rattle.norm_base.specs.Settings.{Settings}
use Rattle.fec_plan.specs.Partition.{source_symbols}
use Rattle.fec_plan.specs.Points.{position}
use Rattle.fec_plan.specs.declared.position.Position.{Position}
use Rattle.norm_order.specs.Sets.{is_member, Sides, Below, Same, Above}
use Rattle.norm_order.specs.Shapes.{Shape, symbols_of, encoded_in}
use Rattle.norm_receive_rules.specs.Holding.{Holding}
use Rattle.norm_receive_rules.specs.Plans.{is_over, holds, info_of}
use Rattle.norm_send_rules.specs.InWindow.{current_shapes}
use Rattle.norm_send_rules.specs.SenderState.{SenderState}
use Rattle.norm_send_rules.specs.Wants.{want_before}
use Rattle.norm_send_rules.specs.declared.want.Want.{Want}
use Rattle.norm_send_rules.specs.declared.want.Want.TheVariants.{Info, Symbol}
use Rattle.norm_safety.proofs.EntryLemmas.{clash}
use Rattle.norm_recovery.specs.Left.{is_there, is_complete, is_had}
use Rattle.norm_recovery.proofs.LeftFalls.{Among, wants_compare, there_among, complete_among, had_among}
use Rattle.norm_recovery.proofs.LeftHeard.{or_left, or_right}
use Rattle.norm_recovery.proofs.LeftStays.{at_most}

or_cases : (a b : Bool) → (a || b) ≡ true → (a ≡ true) ⊎ (b ≡ true)
or_cases true b e = inl refl
or_cases false b e = inr e

-- a want of a list is the first or one of the rest
member_of : (q y : Want) (rest : List Want) → is_member want_before q (y ∷ rest) ≡ true → (q ≡ y) ⊎ (is_member want_before q rest ≡ true)
unfolding is_member
member_of q y rest e = go (want_before y q) (want_before q y) refl refl e
  where
    both : want_before y q ≡ false → want_before q y ≡ false → Sides want_before y q → q ≡ y
    both past before (Below lt gt) = absurd (clash (sym past ∙ lt))
    both past before (Same lt gt same) = sym same
    both past before (Above lt gt) = absurd (clash (sym before ∙ gt))

    go : (b c : Bool) → want_before y q ≡ b → want_before q y ≡ c → (elim b as (λ _. Bool) [ true ↦ is_member want_before q rest | false ↦ not c ]) ≡ true
        → (q ≡ y) ⊎ (is_member want_before q rest ≡ true)
    go true c past before e = inr e
    go false true past before e = absurd (clash e)
    go false false past before e = inl (both past before (wants_compare.sides y q))

none_among : (wants : List Want) → Among [] wants
unfolding is_member
none_among wants q e = absurd (clash e)

-- whatever passes one test passes another, so no fewer do
more_of : {X : Type 0} (f : ℕ → X) (test other : X → Bool) (ids : List ℕ) → ((id : ℕ) → test (f id) ≡ true → other (f id) ≡ true)
    → length (filter test (map f ids)) ≤ length (filter other (map f ids))
more_of f test other [] implies = omega arith
more_of {X} f test other (id ∷ ids) implies = go (test (f id)) (other (f id)) (implies id) (more_of f test other ids implies)
  where
    go : (a b : Bool) → (a ≡ true → b ≡ true) → length (filter test (map f ids)) ≤ length (filter other (map f ids))
        → length (cond a (f id ∷ filter test (map f ids)) (filter test (map f ids))) ≤ length (cond b (f id ∷ filter other (map f ids)) (filter other (map f ids)))
    go true true g le = omega (arith, le)
    go true false g le = absurd (clash (g refl))
    go false true g le = omega (arith, le)
    go false false g le = le

-- a want is had with the wants
pub wanted_had : (wants : List Want) (p : Settings) (s : SenderState) (h : Holding) (q : Want) → is_member want_before q wants ≡ true → is_had wants p s h q ≡ true
wanted_had wants p s h (Info index) e = or_right (is_over h index || is_some (info_of h index)) (is_member want_before (Info index) wants) e
wanted_had wants p s h (Symbol at) e =
    or_left (is_over h at.index || is_there wants h at) (is_complete wants h at.index at.block (slice_get (current_shapes p s) at.index))
    (or_right (is_over h at.index) (is_there wants h at) (or_right (holds h at) (is_member want_before (Symbol at) wants) e))

-- ---- one want is had by now

module _ (p : Settings) (s : SenderState) (h : Holding) (y : Want) (rest : List Want) (has : is_had [] p s h y ≡ true) where
  abbrev shape_at : ℕ → Option Shape
  shape_at index = slice_get (current_shapes p s) index

  wanted_goes : (q : Want) → is_member want_before q (y ∷ rest) ≡ true → is_had rest p s h q ≡ true
  wanted_goes q e = go (member_of q y rest e)
    where
      go : (q ≡ y) ⊎ (is_member want_before q rest ≡ true) → is_had rest p s h q ≡ true
      go (inl same) = subst (λ (z : Want). is_had rest p s h z ≡ true) (sym same) (had_among [] rest p s h y (none_among rest) has)
      go (inr one) = wanted_had rest p s h q one

  -- a symbol that is there still is, if that is so of the want
  there_goes : (at : Position) → (Symbol at ≡ y → is_there rest h at ≡ true) → is_there (y ∷ rest) h at ≡ true → is_there rest h at ≡ true
  there_goes at own e = go (or_cases (holds h at) (is_member want_before (Symbol at) (y ∷ rest)) e)
    where
      of : (Symbol at ≡ y) ⊎ (is_member want_before (Symbol at) rest ≡ true) → is_there rest h at ≡ true
      of (inl same) = own same
      of (inr one) = or_right (holds h at) (is_member want_before (Symbol at) rest) one

      go : (holds h at ≡ true) ⊎ (is_member want_before (Symbol at) (y ∷ rest) ≡ true) → is_there rest h at ≡ true
      go (inl held) = or_left (holds h at) (is_member want_before (Symbol at) rest) held
      go (inr one) = of (member_of (Symbol at) y rest one)

  complete_goes : (index block : ℕ) (found : Option Shape)
      → ((id : ℕ) → Symbol (position index block id) ≡ y → is_there rest h (position index block id) ≡ true) → is_complete (y ∷ rest) h index block found ≡ true
      → is_complete rest h index block found ≡ true
  complete_goes index block None own e = e
  complete_goes index block (Some shape) own e =
      let all : List Position = symbols_of index (encoded_in shape block) block in
      at_most (source_symbols shape.cut block) (length (filter (is_there (y ∷ rest) h) all)) (length (filter (is_there rest h) all))
      (more_of (λ (id : ℕ). position index block id) (is_there (y ∷ rest) h) (is_there rest h) _
      (λ id one. there_goes (position index block id) (own id) one)) e

  -- a block that is complete still is, or its object is over
  block_goes : (x : Want) → y ≡ x → (index block : ℕ) → is_complete (y ∷ rest) h index block (shape_at index) ≡ true
      → (is_over h index ≡ true) ⊎ (is_complete rest h index block (shape_at index) ≡ true)
  block_goes (Info other) is index block e = inr (complete_goes index block (shape_at index) (λ id same. absurd (differ (same ∙ is))) e)
    where
      differ : {at : Position} → Symbol at ≡ Info other → ⊥
      differ e = cc
  block_goes (Symbol at) is index block e = go (at.index == index) (at.block == block) refl refl
    where
      same_at : {a b : Position} → Symbol a ≡ Symbol b → a ≡ b
      same_at e = cc

      at_is : (id : ℕ) → Symbol (position index block id) ≡ y → position index block id ≡ at
      at_is id same = same_at (same ∙ is)

      had : ((is_over h at.index || is_there [] h at) || is_complete [] h at.index at.block (shape_at at.index)) ≡ true
      had = subst (λ (z : Want). is_had [] p s h z ≡ true) is has

      apart : ((id : ℕ) → position index block id ≡ at → ⊥) → is_complete rest h index block (shape_at index) ≡ true
      apart never = complete_goes index block (shape_at index) (λ id same. absurd (never id (at_is id same))) e

      of_block : at.index ≡ index → at.block ≡ block → (is_over h at.index || is_there [] h at) ≡ true
          → (is_over h index ≡ true) ⊎ (is_complete rest h index block (shape_at index) ≡ true)
      of_block i b e' = by (or_cases (is_over h at.index) (is_there [] h at) e')
        where
          by : (is_over h at.index ≡ true) ⊎ (is_there [] h at ≡ true) → (is_over h index ≡ true) ⊎ (is_complete rest h index block (shape_at index) ≡ true)
          by (inl over) = inl (ap (is_over h) (sym i) ∙ over)
          by (inr there) =
              inr (complete_goes index block (shape_at index)
              (λ id same. ap (is_there rest h) (at_is id same) ∙ there_among [] rest h at (none_among rest) there) e)

      same : at.index ≡ index → at.block ≡ block → (is_over h index ≡ true) ⊎ (is_complete rest h index block (shape_at index) ≡ true)
      same i b = by (or_cases (is_over h at.index || is_there [] h at) (is_complete [] h at.index at.block (shape_at at.index)) had)
        where
          by : ((is_over h at.index || is_there [] h at) ≡ true) ⊎ (is_complete [] h at.index at.block (shape_at at.index) ≡ true)
              → (is_over h index ≡ true) ⊎ (is_complete rest h index block (shape_at index) ≡ true)
          by (inl e') = of_block i b e'
          by (inr complete) =
              inr (complete_among [] rest h index block (shape_at index) (none_among rest)
              (subst (λ (n : ℕ). is_complete [] h index n (shape_at index) ≡ true) b
              (subst (λ (n : ℕ). is_complete [] h n at.block (shape_at n) ≡ true) i complete)))

      go : (a b : Bool) → (at.index == index) ≡ a → (at.block == block) ≡ b
          → (is_over h index ≡ true) ⊎ (is_complete rest h index block (shape_at index) ≡ true)
      go true true i b = same ((Decides-eqb at.index index).0 i) ((Decides-eqb at.block block).0 b)
      go true false i b = inr (apart (λ id is. clash (sym b ∙ (Decides-eqb at.block block).1 (ap (λ (x : Position). x.block) (sym is)))))
      go false b i b' = inr (apart (λ id is. clash (sym i ∙ (Decides-eqb at.index index).1 (ap (λ (x : Position). x.index) (sym is)))))

  -- what will be had with the want will be had without it
  pub had_goes : (z : Want) → is_had (y ∷ rest) p s h z ≡ true → is_had rest p s h z ≡ true
  had_goes (Info index) e = go (or_cases (is_over h index || is_some (info_of h index)) (is_member want_before (Info index) (y ∷ rest)) e)
    where
      go : ((is_over h index || is_some (info_of h index)) ≡ true) ⊎ (is_member want_before (Info index) (y ∷ rest) ≡ true) → is_had rest p s h (Info index) ≡ true
      go (inl own) = or_left (is_over h index || is_some (info_of h index)) (is_member want_before (Info index) rest) own
      go (inr one) = wanted_goes (Info index) one
  had_goes (Symbol at) e = go (or_cases (is_over h at.index || is_there (y ∷ rest) h at) (is_complete (y ∷ rest) h at.index at.block (shape_at at.index)) e)
    where
      Had : Type 0
      Had = is_had rest p s h (Symbol at) ≡ true

      over : is_over h at.index ≡ true → Had
      over is =
          or_left (is_over h at.index || is_there rest h at) (is_complete rest h at.index at.block (shape_at at.index))
          (or_left (is_over h at.index) (is_there rest h at) is)

      held : (holds h at ≡ true) ⊎ (is_member want_before (Symbol at) (y ∷ rest) ≡ true) → Had
      held (inl is) =
          or_left (is_over h at.index || is_there rest h at) (is_complete rest h at.index at.block (shape_at at.index))
          (or_right (is_over h at.index) (is_there rest h at) (or_left (holds h at) (is_member want_before (Symbol at) rest) is))
      held (inr one) = wanted_goes (Symbol at) one

      there : (is_over h at.index ≡ true) ⊎ (is_there (y ∷ rest) h at ≡ true) → Had
      there (inl is) = over is
      there (inr is) = held (or_cases (holds h at) (is_member want_before (Symbol at) (y ∷ rest)) is)

      block : (is_over h at.index ≡ true) ⊎ (is_complete rest h at.index at.block (shape_at at.index) ≡ true) → Had
      block (inl is) = over is
      block (inr is) = or_right (is_over h at.index || is_there rest h at) (is_complete rest h at.index at.block (shape_at at.index)) is

      go : ((is_over h at.index || is_there (y ∷ rest) h at) ≡ true) ⊎ (is_complete (y ∷ rest) h at.index at.block (shape_at at.index) ≡ true) → Had
      go (inl is) = there (or_cases (is_over h at.index) (is_there (y ∷ rest) h at) is)
      go (inr is) = block (block_goes y refl at.index at.block is)
