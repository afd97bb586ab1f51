-- What a hold of objects of either kind knows of the states that it stands for: of each object the same as of that object alone.
use Rattle.std.proofs.Common.{◌≡◌, ℕ, ◌+◌, ◌≤◌, zero, suc, Bool, true, false, cond, refl, sym, ap, ◌∙◌, subst, arith, Option, Some, None, List, [], ◌∷◌, map}
use Rattle.std.specs.Prelude.{filter, flat_map, find, slice_get, option_map, ◌==◌, ◌&&◌, ◌||◌, not, nat_lt}
use Rattle.std.specs.List.{AllByRecursion}
use Rattle.std.proofs.lemmas.Bool.{le-ltb, eqb-true, eq-eqb}
use Rattle.std.proofs.lemmas.List.Concat.{flat_map_single}
use Rattle.norm_base.specs.Settings.{Settings}
use Rattle.fec_plan.specs.Points.{point, position, point_of, point_before}
use Rattle.fec_plan.specs.declared.position.Position.{Position}
use Rattle.norm_order.specs.declared.up.Up.{Up}
use Rattle.norm_receive_rules.specs.Holding.{Holding, Plan, Held, HeldInfo}
use Rattle.norm_receive_rules.specs.Plans.{plan_of, is_over, held_of, info_of, first_block}
use Rattle.rx_hold.specs.EntryState.{EntryState, infos_in, alone_in}
use Rattle.rx_hold.specs.Told.{is_passed}
use Rattle.rx_hold.specs.EntryHold.{EntryHold, StandsFor, PlacedEntries, AreAsFar, IsEntryAt, block_at_place, entry_at, entries_there}
use Rattle.rx_hold.proofs.EntryRing.{filter_twice, part_of, IsOwn, found_in}
use Rattle.rx_hold.proofs.EntryLemmas.{AreAlikeAt}

pub placed_at : (p : Settings) (m i : ℕ) (ring : List (Option EntryState)) (o : EntryState) → PlacedEntries p m ring → entry_at ring i ≡ Some o → IsEntryAt p (m + i) o
placed_at p m i [] o placed e = absurd (cc)
placed_at p m zero (None ∷ ring) o placed e = absurd (cc)
placed_at p m zero (Some x ∷ ring) o placed e =
    subst (λ (n : ℕ). IsEntryAt p n o) (let n : m ≡ m + 0 = omega arith in n) (subst (λ (y : EntryState). IsEntryAt p m y) (let same : x ≡ o = cc in same) placed.0)
placed_at p m (suc i) (None ∷ ring) o placed e =
    subst (λ (n : ℕ). IsEntryAt p n o) (let n : suc m + i ≡ m + suc i = omega arith in n) (placed_at p (suc m) i ring o placed e)
placed_at p m (suc i) (Some x ∷ ring) o placed e =
    subst (λ (n : ℕ). IsEntryAt p n o) (let n : suc m + i ≡ m + suc i = omega arith in n) (placed_at p (suc m) i ring o placed.1 e)

-- a hold by its parts
abbrev pub view_with : Settings → Position → List (Option EntryState) → List Up → Bool → EntryHold
view_with p point ring ups lost = record { p = p; point = point; objects = entries_there ring; ups = ups; has_lost = lost }

-- ---- the parts of an object

abbrev pub plans_in : EntryState → List Plan
plans_in o = o.plan ∷ []

abbrev pub held_in : EntryState → List Held
held_in o = o.held

abbrev pub held_key : Held → ℕ
held_key x = x.at.index

pub own_plan : (p : Settings) → IsOwn Plan p plans_in (λ plan. plan.index)
own_plan p k o is = (is.index, tt)

pub own_held : (p : Settings) → IsOwn Held p held_in held_key
own_held p k o is = is.own

pub own_info : (p : Settings) → IsOwn HeldInfo p infos_in (λ info. info.index)
own_info p k o is = go o.info
  where
    go : (i : Option (List ℕ)) → AllByRecursion (λ (x : HeldInfo). x.index ≡ k)
        (elim i as (λ _. List HeldInfo) [ Some info ↦ record { index = o.plan.index; info = info } ∷ [] | None ↦ [] ])
    go (Some info) = (is.index, tt)
    go None = tt

pub plans_joined : (os : List EntryState) → flat_map plans_in os ≡ map (λ (o : EntryState). o.plan) os
plans_joined os = flat_map_single (λ (o : EntryState). o.plan) os

-- ---- what is not over

pub not_over : (s : Holding) (m : ℕ) (index : ℕ) → s.point.index ≡ m → m ≤ index → is_over s index ≡ false
not_over s m index at le = ap (λ n. nat_lt index n) at ∙ le-ltb index m le

-- the first that passes a test is the first that a filter keeps
find_first : (X : Type 0) (q : X → Bool) (xs : List X) → find q xs ≡ slice_get (filter q xs) 0
find_first X q [] = refl
find_first X q (x ∷ xs) = go (q x) (find_first X q xs)
  where
    go : (b : Bool) → find q xs ≡ slice_get (filter q xs) 0 → cond b (Some x) (find q xs) ≡ slice_get (cond b (x ∷ filter q xs) (filter q xs)) 0
    go true rest = refl
    go false rest = rest

pub found_same : (X : Type 0) (q : X → Bool) (xs ys : List X) → filter q xs ≡ filter q ys → find q xs ≡ find q ys
found_same X q xs ys e = find_first X q xs ∙ ap (λ (zs : List X). slice_get zs 0) e ∙ sym (find_first X q ys)

both_right : (a b : Bool) → (a && b) ≡ true → b ≡ true
both_right true b e = e
both_right false b e = absurd (cc e)

both_left : (a b : Bool) → (a && b) ≡ true → a ≡ true
both_left true b e = refl
both_left false b e = e

module _ (p : Settings) (at_point : Position) (ring : List (Option EntryState)) (ups : List Up) (lost : Bool) (s : Holding)
    (placed : PlacedEntries p at_point.index ring) (stands : StandsFor (view_with p at_point ring ups lost) s) where
  index_is : s.point.index ≡ at_point.index
  index_is = ap (λ (point : Position). point.index) stands.point

  -- what is asked of an index from the point on is asked of what is not over
  open_test : (X : Type 0) (key : X → ℕ) (q : X → Bool) (index : ℕ) → at_point.index ≤ index → ((x : X) → q x ≡ true → key x ≡ index) → (xs : List X)
      → filter q (filter (λ x. not (is_over s (key x))) xs) ≡ filter q xs
  open_test X key q index le about xs =
      filter_twice X q (λ x. not (is_over s (key x)))
      (λ x yes. ap not (not_over s at_point.index (key x) index_is (let same = about x yes in omega arith))) xs

  pub plan_found : (index i : ℕ) → at_point.index + i ≡ index → plan_of s index ≡ option_map (λ (o : EntryState). o.plan) (entry_at ring i)
  plan_found index i at =
      found_same Plan (λ plan. plan.index == index) s.plans (part_of Plan plans_in (entry_at ring i))
      (sym (open_test Plan (λ plan. plan.index) (λ plan. plan.index == index) index (omega arith) (λ plan yes. eqb-true plan.index index yes) s.plans)
      ∙ ap (filter (λ (plan : Plan). plan.index == index)) (stands.plans ∙ sym (plans_joined (entries_there ring)))
      ∙ found_in Plan p plans_in (λ plan. plan.index) (own_plan p) (λ plan. plan.index == index) index at_point.index i (λ plan yes. eqb-true plan.index index yes) ring placed at)
      ∙ go (entry_at ring i) refl
    where
      go : (found : Option EntryState) → entry_at ring i ≡ found
          → find (λ (plan : Plan). plan.index == index) (part_of Plan plans_in found) ≡ option_map (λ (o : EntryState). o.plan) found
      go None e = refl
      go (Some o) e = ap (λ b. cond b (Some o.plan) None) (eq-eqb o.plan.index index ((placed_at p at_point.index i ring o placed e).index ∙ at))

  -- of a block that was not handed up whole
  held_found : (index i block : ℕ) → at_point.index + i ≡ index → is_passed s (position index block 0) ≡ false
      → held_of s index block ≡ filter (λ (h : Held). h.at.index == index && h.at.block == block) (part_of Held held_in (entry_at ring i))
  held_found index i block at ahead =
      let about = λ (h : Held) (yes : (h.at.index == index && h.at.block == block) ≡ true). eqb-true h.at.index index (both_left (h.at.index == index) (h.at.block == block) yes) in
      sym (filter_twice Held (λ h. h.at.index == index && h.at.block == block) (λ x. not (is_passed s x.at))
      (λ x passes. ap not
      (ap (λ n. point_before (point n x.at.block) (point_of s.point)) (about x passes)
      ∙ ap (λ n. point_before (point index n) (point_of s.point)) (eqb-true x.at.block block (both_right (x.at.index == index) (x.at.block == block) passes))
      ∙ ahead))
      s.held)
      ∙ ap (filter (λ (h : Held). h.at.index == index && h.at.block == block)) stands.held
      ∙ found_in Held p held_in held_key (own_held p) (λ h. h.at.index == index && h.at.block == block) index at_point.index i about ring placed at

  info_found : (index i : ℕ) → at_point.index + i ≡ index
      → find (λ (h : HeldInfo). h.index == index) s.infos ≡ find (λ (h : HeldInfo). h.index == index) (part_of HeldInfo infos_in (entry_at ring i))
  info_found index i at =
      found_same HeldInfo (λ h. h.index == index) s.infos (part_of HeldInfo infos_in (entry_at ring i))
      (sym (open_test HeldInfo (λ h. h.index) (λ h. h.index == index) index (omega arith) (λ h yes. eqb-true h.index index yes) s.infos)
      ∙ ap (filter (λ (h : HeldInfo). h.index == index)) stands.infos
      ∙ found_in HeldInfo p infos_in (λ h. h.index) (own_info p) (λ h. h.index == index) index at_point.index i (λ h yes. eqb-true h.index index yes) ring placed at)

  -- of a block of an object at a place, that was not handed up whole, the state holds what that object alone holds
  pub alike_at : (index i block : ℕ) (o : EntryState) → at_point.index + i ≡ index → entry_at ring i ≡ Some o → is_passed s (position index block 0) ≡ false
      → first_block s index ≡ first_block (alone_in o) index → AreAlikeAt s (alone_in o) index block
  alike_at index i block o at e ahead first = record {
    held = held_found index i block at ahead ∙ ap (λ (found : Option EntryState). filter (λ (h : Held). h.at.index == index && h.at.block == block) (part_of Held held_in found)) e;
    first = first;
  }

  pub info_at : (index i : ℕ) (o : EntryState) → at_point.index + i ≡ index → entry_at ring i ≡ Some o → info_of s index ≡ info_of (alone_in o) index
  info_at index i o at e =
      ap (λ (found : Option HeldInfo). elim found as (λ _. Option (List ℕ)) [ Some h ↦ Some h.info | None ↦ None ])
      (info_found index i at ∙ ap (λ (found : Option EntryState). find (λ (h : HeldInfo). h.index == index) (part_of HeldInfo infos_in found)) e)
