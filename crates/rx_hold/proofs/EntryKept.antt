-- A hold of objects of either kind goes on to stand for the state of the rules as a symbol is kept.
use Rattle.std.proofs.Common.{◌≡◌, ℕ, ◌+◌, ◌<◌, ◌≤◌, ◌⊎◌, inl, inr, Bool, true, false, refl, sym, ap, ◌∙◌, subst, arith, Option, Some, None, List}
use Rattle.std.specs.Prelude.{slice_set, not, nat_lt, ◌==◌, ◌&&◌, ◌||◌, length}
use Rattle.std.proofs.lemmas.Bool.{cases_order, eqb-true, eq-eqb, ltb-true, ltb-false}
use Rattle.norm_base.specs.Settings.{Settings}
use Rattle.fec_plan.specs.Points.{position, position_before}
use Rattle.fec_plan.specs.declared.position.Position.{Position}
use Rattle.fec_plan.proofs.PositionLemmas.{Before, before_decides, not_both}
use Rattle.norm_order.specs.declared.up.Up.{Up}
use Rattle.norm_order.specs.Sets.{with_member}
use Rattle.norm_receive_rules.specs.Holding.{Holding, Plan, Held, HeldInfo}
use Rattle.norm_receive_rules.specs.Putting.{held_before, put_of, with_symbol}
use Rattle.norm_receive_rules.specs.declared.words.Put.TheVariants as put
use Rattle.norm_receive_rules.proofs.PassedLemmas.{symbol_passed}
use Rattle.rx_object.specs.BlockState.{held_at}
use Rattle.rx_hold.specs.EntryState.{EntryState, infos_in, with_word}
use Rattle.rx_hold.specs.EntryHold.{PlacedEntries, StandsFor, entry_at, entries_there}
use Rattle.rx_hold.specs.Told.{is_passed}
use Rattle.rx_hold.proofs.EntryRing.{filter_joins, part_of, same_parts, with_part}
use Rattle.rx_hold.proofs.EntryStands.{held_in, held_key, own_held, own_info, own_plan, placed_at, plans_in, plans_joined, view_with}

-- ---- what was passed is before what was not

before_cases : (index block at from : ℕ) → (nat_lt index at || (index == at && nat_lt block from)) ≡ true → (index < at) ⊎ ((index ≡ at) × (block < from))
before_cases index block at from e = go (nat_lt index at) (index == at) (nat_lt block from) refl refl refl e
  where
    go : (a b d : Bool) → nat_lt index at ≡ a → (index == at) ≡ b → nat_lt block from ≡ d → (a || (b && d)) ≡ true → (index < at) ⊎ ((index ≡ at) × (block < from))
    go true b d f g h e = inl (ltb-true index at f)
    go false true true f g h e = inr (eqb-true index at g, ltb-true block from h)
    go false true false f g h e = absurd (cc e)
    go false false d f g h e = absurd (cc e)

ahead_cases : (index block at from : ℕ) → (nat_lt index at || (index == at && nat_lt block from)) ≡ false → (at ≤ index) × (index ≡ at → from ≤ block)
ahead_cases index block at from e = go (nat_lt index at) (index == at) (nat_lt block from) refl refl refl e
  where
    go : (a b d : Bool) → nat_lt index at ≡ a → (index == at) ≡ b → nat_lt block from ≡ d → (a || (b && d)) ≡ false → (at ≤ index) × (index ≡ at → from ≤ block)
    go true b d f g h e = absurd (cc e)
    go false true true f g h e = absurd (cc e)
    go false true false f g h e = (ltb-false index at f, λ same. ltb-false block from h)
    go false false d f g h e = (ltb-false index at f, λ same. absurd (let wrong : true ≡ false = sym (eq-eqb index at same) ∙ g in cc wrong))

is_before : (x y : Held) → Before x.at y.at → (held_before x y ≡ true) × (held_before y x ≡ false)
is_before x y l = ((before_decides x.at y.at).1 l, go (held_before y x) refl)
  where
    go : (b : Bool) → held_before y x ≡ b → b ≡ false
    go true e = absurd (not_both x.at y.at (inr l) ((before_decides y.at x.at).0 e))
    go false e = refl

passed_before : (s : Holding) (y : Held) (index block symbol : ℕ) (octets : List ℕ) → is_passed s y.at ≡ true → is_passed s (position index block 0) ≡ false
    → Before y.at (position index block symbol)
passed_before s y index block symbol octets passed ahead =
    go (cases_order y.at.index index) (before_cases y.at.index y.at.block s.point.index s.point.block passed) (ahead_cases index block s.point.index s.point.block ahead)
  where
    go : (y.at.index ≡ index) ⊎ ((y.at.index < index) ⊎ (index < y.at.index)) → (y.at.index < s.point.index) ⊎ ((y.at.index ≡ s.point.index) × (y.at.block < s.point.block))
        → ((s.point.index ≤ index) × (index ≡ s.point.index → s.point.block ≤ block)) → Before y.at (position index block symbol)
    go (inr (inl lt)) was is = inl (inl lt)
    go (inl e) (inl lt) is = absurd (let le = is.0 in omega (arith, e, lt, le))
    go (inl e) (inr here) is = inl (inr (e, let le = is.1 (sym e ∙ here.0) in let lt = here.1 in omega (arith, le, lt)))
    go (inr (inr gt)) (inl lt) is = absurd (let le = is.0 in omega (arith, gt, lt, le))
    go (inr (inr gt)) (inr here) is = absurd (let le = is.0 in let same = here.0 in omega (arith, gt, same, le))

by_index : (x y : Held) → x.at.index < y.at.index → (held_before x y ≡ true) × (held_before y x ≡ false)
by_index x y lt = is_before x y (inl (inl lt))

not_passed : (b : Bool) → not b ≡ false → b ≡ true
not_passed true e = refl
not_passed false e = absurd (cc e)

-- ---- a symbol is kept

module _ (p : Settings) (from : Position) (ring : List (Option EntryState)) (ups : List Up) (lost : Bool) (s : Holding)
    (placed : PlacedEntries p from.index ring) (stands : StandsFor (view_with p from ring ups lost) s) where
  pub entry_kept : (index i block symbol : ℕ) (payload : List ℕ) (x : EntryState) → from.index + i ≡ index → i < length ring → entry_at ring i ≡ Some x
      → is_passed s (position index block 0) ≡ false → put_of p s (position index block symbol) payload ≡ put.Kept
      → StandsFor (view_with p from (slice_set ring i (Some (with_word put.Kept block symbol payload x))) ups lost) (with_symbol put.Kept (position index block symbol) payload s)
  entry_kept index i block symbol payload x at lt e ahead word =
      let new : Held = held_at index block symbol payload in
      let o : EntryState = with_word put.Kept block symbol payload x in
      let here : x.plan.index ≡ index = (placed_at p from.index i ring x placed e).index ∙ at in
      record {
        point = stands.point;
        plans =
            stands.plans
            ∙ sym (plans_joined (entries_there ring))
            ∙ sym (same_parts Plan p plans_in (λ plan. plan.index) (own_plan p) ring i (Some o) lt (sym (ap (λ (found : Option EntryState). part_of Plan plans_in found) e)))
            ∙ plans_joined (entries_there (slice_set ring i (Some o)));
        held =
            filter_joins Held held_before (λ y. not (is_passed s y.at)) new s.held (ap not ahead)
            (λ y out. let apart = is_before y new (passed_before s y index block symbol payload (not_passed (is_passed s y.at) out) ahead) in (apart.1, apart.0))
            ∙ ap (with_member held_before new) stands.held
            ∙ with_part Held p held_in held_key (own_held p) held_before by_index new from.index ring i o placed lt at
            (ap (λ n. with_member held_before (held_at n block symbol payload) x.held) here
            ∙ ap (λ (found : Option EntryState). with_member held_before new (part_of Held held_in found)) (sym e));
        infos =
            stands.infos
            ∙ sym (same_parts HeldInfo p infos_in (λ y. y.index) (own_info p) ring i (Some o) lt (sym (ap (λ (found : Option EntryState). part_of HeldInfo infos_in found) e)));
        ups = stands.ups;
        lost = stands.lost;
        passed = symbol_passed p put.Kept (position index block symbol) payload s word stands.passed;
      }
