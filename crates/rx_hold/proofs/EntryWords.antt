-- The word of a symbol, from what a hold of objects of either kind has: that of the object by itself, or that what was handed up or lost
-- is not needed any more.
use Rattle.std.proofs.Common.{◌≡◌, ℕ, zero, suc, ◌+◌, ◌<◌, ◌≤◌, ◌⊎◌, inl, inr, Bool, true, false, cond, refl, sym, ap, ◌∙◌, subst, arith, Option, Some, None, List}
use Rattle.std.specs.Prelude.{option_map, ◌==◌, ◌&&◌, ◌||◌, nat_lt}
use Rattle.std.proofs.lemmas.Bool.{eq-eqb, eqb-true, le-ltb, lt-ltb, ne_eqb}
use Rattle.norm_base.specs.Settings.{Settings}
use Rattle.fec_plan.specs.Points.{position}
use Rattle.fec_plan.specs.declared.position.Position.{Position}
use Rattle.norm_order.specs.declared.up.Up.{Up}
use Rattle.norm_receive_rules.specs.Holding.{Holding, Plan}
use Rattle.norm_receive_rules.specs.Laws.{HasPassed, IsAtStart, IsPassed, PassedBy}
use Rattle.norm_receive_rules.specs.Plans.{first_block, is_over, plan_of, says_stream}
use Rattle.norm_receive_rules.specs.Putting.{put_by, put_of}
use Rattle.norm_receive_rules.specs.declared.words.Put.{Put}
use Rattle.norm_receive_rules.specs.declared.words.Put.TheVariants as put
use Rattle.rx_hold.specs.EntryState.{EntryState, alone_in}
use Rattle.rx_hold.specs.EntryHold.{AreAsFar, PlacedEntries, StandsFor, block_at_place, entry_at}
use Rattle.rx_hold.specs.Told.{is_passed}
use Rattle.rx_hold.proofs.EntryLemmas.{AreAlikeAt, put_by_at, put_earlier}
use Rattle.rx_hold.proofs.EntryStands.{alike_at, not_over, placed_at, plan_found, view_with}

abbrev word_by : Settings → Holding → Position → List ℕ → Bool → Option Plan → Put
word_by p s at payload over found = elim over as (λ _. Put) [
  | true ↦ put.Had
  | false ↦ elim found as (λ _. Put) [ Some plan ↦ put_by p s plan at payload | None ↦ put.Away ]
]

pub put_over : (p : Settings) (s : Holding) (at : Position) (payload : List ℕ) → at.index < s.point.index → put_of p s at payload ≡ put.Had
put_over p s at payload lt = ap (λ b. word_by p s at payload b (plan_of s at.index)) (lt-ltb at.index s.point.index lt)

-- a block from the hand-up point's on was not handed up whole
pub is_ahead : (s : Holding) (index block : ℕ) → s.point.index ≤ index → (index ≡ s.point.index → s.point.block ≤ block) → is_passed s (position index block 0) ≡ false
is_ahead s index block le from =
    ap (λ b. b || (index == s.point.index && nat_lt block s.point.block)) (le-ltb index s.point.index le) ∙ go (index == s.point.index) refl
  where
    go : (b : Bool) → (index == s.point.index) ≡ b → (b && nat_lt block s.point.block) ≡ false
    go true e = le-ltb block s.point.block (from (eqb-true index s.point.index e))
    go false e = refl

abbrev first_by : ℕ → Bool → ℕ
first_by block here = elim here as (λ _. ℕ) [ true ↦ block | false ↦ 0 ]

first_here : (s : Holding) (m block index i : ℕ) → s.point.index ≡ m → s.point.block ≡ block → m + i ≡ index → first_block s index ≡ block_at_place block i
first_here s m block index zero is here at = ap (first_by s.point.block) (eq-eqb s.point.index index (omega (arith, is, at))) ∙ here
first_here s m block index (suc i) is here at = ap (first_by s.point.block) (ne_eqb s.point.index index (λ e. omega (arith, e, is, at)))

module _ (p : Settings) (from : Position) (ring : List (Option EntryState)) (ups : List Up) (lost : Bool) (s : Holding)
    (placed : PlacedEntries p from.index ring) (far : AreAsFar from.block ring) (stands : StandsFor (view_with p from ring ups lost) s) where
  from_index : s.point.index ≡ from.index
  from_index = ap (λ (point : Position). point.index) stands.point

  from_block : s.point.block ≡ from.block
  from_block = ap (λ (point : Position). point.block) stands.point

  own_index : (index i : ℕ) (o : EntryState) → from.index + i ≡ index → entry_at ring i ≡ Some o → o.plan.index ≡ index
  own_index index i o at e = (placed_at p from.index i ring o placed e).index ∙ at

  pub first_at_place : (index i : ℕ) (o : EntryState) → from.index + i ≡ index → entry_at ring i ≡ Some o → first_block s index ≡ first_block (alone_in o) index
  first_at_place index i o at e =
      first_here s from.index from.block index i from_index from_block at ∙ sym (far i o e) ∙ ap (first_block (alone_in o)) (own_index index i o at e)

  -- a symbol of a block that was not handed up whole gets the word that the object by itself gives it
  pub put_there : (index i block symbol : ℕ) (payload : List ℕ) (o : EntryState) → from.index + i ≡ index → entry_at ring i ≡ Some o → is_passed s (position index block 0) ≡ false
      → put_of p s (position index block symbol) payload ≡ put_by p (alone_in o) o.plan (position o.plan.index block symbol) payload
  put_there index i block symbol payload o at e ahead =
      ap (λ b. word_by p s (position index block symbol) payload b (plan_of s index)) (not_over s from.index index from_index (omega (arith, at)))
      ∙ ap (word_by p s (position index block symbol) payload false)
      (plan_found p from ring ups lost s placed stands index i at ∙ ap (λ (found : Option EntryState). option_map (λ (x : EntryState). x.plan) found) e)
      ∙ ap (λ n. put_by p s o.plan (position n block symbol) payload) (sym (own_index index i o at e))
      ∙ put_by_at p s (alone_in o) o.plan block symbol payload
      (subst (λ n. AreAlikeAt s (alone_in o) n block) (sym (own_index index i o at e))
      (alike_at p from ring ups lost s placed stands index i block o at e ahead (first_at_place index i o at e)))

  -- where there is no object there is no word but that
  pub put_nowhere : (index i block symbol : ℕ) (payload : List ℕ) → from.index + i ≡ index → entry_at ring i ≡ None → put_of p s (position index block symbol) payload ≡ put.Away
  put_nowhere index i block symbol payload at e =
      ap (λ b. word_by p s (position index block symbol) payload b (plan_of s index)) (not_over s from.index index from_index (omega (arith, at)))
      ∙ ap (word_by p s (position index block symbol) payload false)
      (plan_found p from ring ups lost s placed stands index i at ∙ ap (λ (found : Option EntryState). option_map (λ (x : EntryState). x.plan) found) e)

  -- a symbol of a block that was handed up whole is not needed any more
  pub put_passed : (block symbol : ℕ) (payload : List ℕ) (o : EntryState) → entry_at ring 0 ≡ Some o → block < from.block
      → put_of p s (position from.index block symbol) payload ≡ put.Had
  put_passed block symbol payload o e lt =
      ap (λ b. word_by p s (position from.index block symbol) payload b (plan_of s from.index)) (not_over s from.index from.index from_index (omega arith))
      ∙ ap (word_by p s (position from.index block symbol) payload false) found
      ∙ put_earlier p s o.plan (position from.index block symbol) payload stands.passed found_here stream (omega (arith, lt, from_block))
    where
      found : plan_of s from.index ≡ Some o.plan
      found = plan_found p from ring ups lost s placed stands from.index 0 (omega arith) ∙ ap (λ (x : Option EntryState). option_map (λ (y : EntryState). y.plan) x) e

      found_here : plan_of s s.point.index ≡ Some o.plan
      found_here = ap (plan_of s) from_index ∙ found

      -- the hand-up point lies within a stream alone
      by_kind : (b : Bool) → (elim b as (λ _. Type 0) [ true ↦ IsPassed p s o.plan | false ↦ IsAtStart s ]) → b ≡ true
      by_kind true is = refl
      by_kind false is = absurd (let none = is.block in omega (arith, none, from_block, lt))

      stream : says_stream o.plan.flags ≡ true
      stream = by_kind (says_stream o.plan.flags) (subst (PassedBy p s) found_here stands.passed)
