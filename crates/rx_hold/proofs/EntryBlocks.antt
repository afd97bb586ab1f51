-- A hold of objects of either kind goes on to stand for the state as the hand-up point goes on to a stream's next block.
use Rattle.std.proofs.Common.{◌≡◌, ℕ, zero, suc, ◌+◌, ◌<◌, ◌≤◌, Bool, true, false, cond, refl, sym, ap, ◌∙◌, arith, Option, Some, None, List, [], ◌∷◌, ◌++◌, length}
use Rattle.std.specs.Prelude.{filter, flat_map, not, nat_lt, slice_set, ◌==◌, ◌&&◌, ◌||◌}
use Rattle.std.specs.List.{AllByRecursion}
use Rattle.std.proofs.lemmas.Bool.{eq-eqb, le-ltb, ltb-false, ne_eqb}
use Rattle.std.proofs.lemmas.List.Elements.{filter-append}
use Rattle.norm_base.specs.Settings.{Settings}
use Rattle.fec_plan.specs.Points.{Point, point, point_of, point_before, position}
use Rattle.fec_plan.specs.declared.position.Position.{Position}
use Rattle.norm_order.specs.declared.up.Up.{Up}
use Rattle.norm_receive_rules.specs.HandingUp.{handed}
use Rattle.norm_receive_rules.specs.Holding.{Holding, Plan, Held, HeldInfo}
use Rattle.norm_receive_rules.specs.Laws.{HasPassed}
use Rattle.rx_hold.specs.EntryState.{EntryState, infos_in}
use Rattle.rx_hold.specs.EntryHold.{PlacedEntries, StandsFor, entry_at, entries_there}
use Rattle.rx_hold.proofs.EntryRing.{all_mapped, filter_kept, filter_twice, from_first, part_of, same_parts}
use Rattle.rx_hold.proofs.EntryStands.{held_in, held_key, own_held, own_info, own_plan, plans_in, plans_joined, view_with}

abbrev before_by : Bool → Bool → Bool → Bool
before_by l e b = l || (e && b)

abbrev stays : ℕ → ℕ → Held → Bool
stays m b y = not (point_before (point_of y.at) (point m b))

own_stays : (m b : ℕ) (y : Held) → y.at.index ≡ m → stays m b y ≡ not (nat_lt y.at.block b)
own_stays m b y e =
    ap (λ l. not (before_by l (y.at.index == m) (nat_lt y.at.block b))) (le-ltb y.at.index m (omega (arith, e)))
    ∙ ap (λ l. not (before_by false l (nat_lt y.at.block b))) (eq-eqb y.at.index m e)

later_stays : (m b : ℕ) (y : Held) → suc m ≤ y.at.index → stays m b y ≡ true
later_stays m b y le =
    ap (λ l. not (before_by l (y.at.index == m) (nat_lt y.at.block b))) (le-ltb y.at.index m (omega (arith, le)))
    ∙ ap (λ l. not (before_by false l (nat_lt y.at.block b))) (ne_eqb y.at.index m (λ e. omega (arith, e, le)))

own_kept : (m b : ℕ) (ys : List Held) → AllByRecursion (λ (y : Held). y.at.index ≡ m) ys → filter (stays m b) ys ≡ filter (λ (y : Held). not (nat_lt y.at.block b)) ys
own_kept m b [] all = refl
own_kept m b (y ∷ ys) all =
    ap (λ t. cond t (y ∷ filter (stays m b) ys) (filter (stays m b) ys)) (own_stays m b y all.0)
    ∙ ap (λ (zs : List Held). cond (not (nat_lt y.at.block b)) (y ∷ zs) zs) (own_kept m b ys all.1)

-- of the first object what lies before the block goes, and of the others nothing
pub cut_first : (p : Settings) (m b : ℕ) (o x : EntryState) (ring : List (Option EntryState)) → PlacedEntries p m ring → entry_at ring 0 ≡ Some o
    → x.held ≡ filter (λ (y : Held). not (nat_lt y.at.block b)) o.held
    → filter (λ (y : Held). not (point_before (point_of y.at) (point m b))) (flat_map held_in (entries_there ring)) ≡ flat_map held_in (entries_there (slice_set ring 0 (Some x)))
cut_first p m b o x [] placed e is = absurd (cc)
cut_first p m b o x (None ∷ ring) placed e is = absurd (cc)
cut_first p m b o x (Some y ∷ ring) placed e is =
    let same : y ≡ o = cc in
    filter-append (stays m b) y.held (flat_map held_in (entries_there ring))
    ∙ ap (λ (hs : List Held). hs ++ filter (stays m b) (flat_map held_in (entries_there ring))) (own_kept m b y.held placed.0.own)
    ∙ ap (λ (hs : List Held). filter (λ (h : Held). not (nat_lt h.at.block b)) y.held ++ hs)
    (filter_kept Held (stays m b) (flat_map held_in (entries_there ring))
    (all_mapped Held (λ h. suc m ≤ held_key h) (λ h. stays m b h ≡ true) (λ h le. later_stays m b h le) (flat_map held_in (entries_there ring))
    (from_first Held p held_in held_key (own_held p) (suc m) ring placed.1)))
    ∙ ap (λ (hs : List Held). hs ++ flat_map held_in (entries_there ring)) (ap (λ (z : EntryState). filter (λ (h : Held). not (nat_lt h.at.block b)) z.held) same ∙ sym is)

-- what stays from the next block on stays from this one on
stricter : (m b : ℕ) (y : Held) → stays m (b + 1) y ≡ true → stays m b y ≡ true
stricter m b y e = go (nat_lt y.at.index m) (y.at.index == m) (nat_lt y.at.block (b + 1)) refl e
  where
    go : (l same later : Bool) → nat_lt y.at.block (b + 1) ≡ later → not (before_by l same later) ≡ true → not (before_by l same (nat_lt y.at.block b)) ≡ true
    go true same later f e = absurd (cc e)
    go false false later f e = refl
    go false true true f e = absurd (cc e)
    go false true false f e = ap not (le-ltb y.at.block b (let le = ltb-false y.at.block (b + 1) f in omega (arith, le)))

module _ (p : Settings) (from : Position) (ring : List (Option EntryState)) (ups : List Up) (lost : Bool) (s : Holding)
    (placed : PlacedEntries p from.index ring) (stands : StandsFor (view_with p from ring ups lost) s) where
  -- the hand-up point moves on to the next block, and of the object there what lies before goes
  pub moved_on : (more : List Up) (o x : EntryState) → 0 < length ring → entry_at ring 0 ≡ Some o → plans_in x ≡ plans_in o
      → x.held ≡ filter (λ (y : Held). not (nat_lt y.at.block (from.block + 1))) o.held → infos_in x ≡ infos_in o
      → HasPassed p (handed more (position from.index (from.block + 1) 0) s)
      → StandsFor (view_with p (position from.index (from.block + 1) 0) (slice_set ring 0 (Some x)) (ups ++ more) lost) (handed more (position from.index (from.block + 1) 0) s)
  moved_on more o x some e plan held infos passed = record {
    point = refl;
    plans =
        ap (λ n. filter (λ (y : Plan). not (nat_lt y.index n)) s.plans) (sym (ap (λ (at : Position). at.index) stands.point))
        ∙ stands.plans
        ∙ sym (plans_joined (entries_there ring))
        ∙ sym (same_parts Plan p plans_in (λ y. y.index) (own_plan p) ring 0 (Some x) some (plan ∙ sym (ap (λ (found : Option EntryState). part_of Plan plans_in found) e)))
        ∙ plans_joined (entries_there (slice_set ring 0 (Some x)));
    held =
        sym (filter_twice Held (stays from.index (from.block + 1)) (λ y. not (point_before (point_of y.at) (point_of s.point)))
        (λ y kept. ap (λ (at : Point). not (point_before (point_of y.at) at)) (ap point_of stands.point) ∙ stricter from.index from.block y kept) s.held)
        ∙ ap (filter (stays from.index (from.block + 1))) stands.held
        ∙ cut_first p from.index (from.block + 1) o x ring placed e held;
    infos =
        ap (λ n. filter (λ (y : HeldInfo). not (nat_lt y.index n)) s.infos) (sym (ap (λ (at : Position). at.index) stands.point))
        ∙ stands.infos
        ∙ sym (same_parts HeldInfo p infos_in (λ y. y.index) (own_info p) ring 0 (Some x) some (infos ∙ sym (ap (λ (found : Option EntryState). part_of HeldInfo infos_in found) e)));
    ups = ap (λ (us : List Up). us ++ more) stands.ups;
    lost = stands.lost;
    passed = passed;
  }
