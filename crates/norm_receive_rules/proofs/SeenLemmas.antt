-- The block of each held symbol was seen.
use Rattle.std.proofs.Common.{◌≡◌, ℕ, ◌<◌, ◌≤◌, ◌⊎◌, inl, inr, List, [], ◌∷◌, Bool, true, false, Option, None, Some, refl, sym, ap, subst, ◌∙◌, arith}
use Rattle.std.specs.Prelude.{find, max, not, nat_le, ◌==◌, ◌&&◌, ◌||◌, option_map}
use Rattle.std.specs.List.{list_all}
use Rattle.std.proofs.lemmas.Bool.Decides.{Decides-eqb, leb_tells}
use Rattle.norm_base.specs.Settings.{Settings}
use Rattle.fec_plan.specs.Points.{Point, point_of}
use Rattle.fec_plan.specs.declared.position.Position.{Position}
use Rattle.norm_ext.specs.Extensions.{Extension, fti_of}
use Rattle.norm_ext.specs.declared.fti.Fti.{Fti}
use Rattle.norm_order.specs.Sets.{with_member}
use Rattle.norm_receive_rules.specs.Fitting.{fit_of, fitted, lets_put, with_plan}
use Rattle.norm_receive_rules.specs.HandingUp.{handed_up}
use Rattle.norm_receive_rules.specs.Holding.{Holding, Plan, Held, new_plan}
use Rattle.norm_receive_rules.specs.Laws.{HoldsSame, was_seen, each_was_seen, SeenLaws}
use Rattle.norm_receive_rules.specs.Losing.{squelched}
use Rattle.norm_receive_rules.specs.Plans.{says_stream, plan_of}
use Rattle.norm_receive_rules.specs.Putting.{put_of, put_symbol, with_symbol, put_info_of, put_info, with_info, held_before}
use Rattle.norm_receive_rules.specs.Receiving.{object_held}
use Rattle.norm_receive_rules.specs.Seeing.{plan_seen, sees_block}
use Rattle.norm_receive_rules.specs.Taking.{up_taken}
use Rattle.norm_receive_rules.specs.declared.words.Fit.{Fit}
use Rattle.norm_receive_rules.specs.declared.words.Fit.TheVariants as fit
use Rattle.norm_receive_rules.specs.declared.words.Put.{Put}
use Rattle.norm_receive_rules.specs.declared.words.Put.TheVariants as put
use Rattle.norm_receive_rules.proofs.BesideLemmas.{handing_up, losing, taking}
use Rattle.norm_receive_rules.proofs.HandUpLemmas.{index_of_found}
use Rattle.norm_receive_rules.proofs.HoldingSteps.{HoldingIsKept, steps_keep}
use Rattle.norm_receive_rules.proofs.PassedLemmas.{new_found, taken_new, kept_new}
use Rattle.norm_receive_rules.proofs.PassedSteps.{seen_found}

clash : false ≡ true → ⊥
clash e = cc

both : (a b : Bool) → a ≡ true → b ≡ true → (a && b) ≡ true
both true b e f = f
both false b e f = absurd (clash e)

both_true : (a b : Bool) → (a && b) ≡ true → (a ≡ true) × (b ≡ true)
both_true true b e = (refl, e)
both_true false b e = absurd (clash e)

all_more : (f g : Held → Bool) → ((h : Held) → f h ≡ true → g h ≡ true) → (xs : List Held) → list_all f xs ≡ true → list_all g xs ≡ true
all_more f g more [] e = refl
all_more f g more (x ∷ xs) e =
    let parts = both_true (f x) (list_all f xs) e in
    both (g x) (list_all g xs) (more x parts.0) (all_more f g more xs parts.1)

all_joined : (f : Held → Bool) (x : Held) → f x ≡ true → (xs : List Held) → list_all f xs ≡ true → list_all f (with_member held_before x xs) ≡ true
unfolding with_member
all_joined f x own [] e = both (f x) true own refl
all_joined f x own (y ∷ xs) e = go (held_before x y) (held_before y x) (all_joined f x own xs parts.1)
  where
    parts : (f y ≡ true) × (list_all f xs ≡ true)
    parts = both_true (f y) (list_all f xs) e

    go : (b c : Bool) → list_all f (with_member held_before x xs) ≡ true → list_all f (elim b as (λ _. List Held) [
      | true ↦ x ∷ y ∷ xs
      | false ↦ elim c [ true ↦ y ∷ with_member held_before x xs | false ↦ y ∷ xs ]
    ]) ≡ true
    go true c more = both (f x) (list_all f (y ∷ xs)) own e
    go false true more = both (f y) (list_all f (with_member held_before x xs)) parts.0 more
    go false false more = e

-- the same by plans and symbols
abbrev seen_by : List Plan → List Held → Bool
seen_by plans held = list_all (λ (h : Held). was_seen (find (λ (plan : Plan). plan.index == h.at.index) plans) h.at.block) held

same_seen : (s t : Holding) → HoldsSame s t → each_was_seen s ≡ true → each_was_seen t ≡ true
same_seen s t same e =
    ap (λ (plans : List Plan). seen_by plans t.held) same.plans ∙ ap (λ (held : List Held). seen_by s.plans held) same.held ∙ e

-- ---- a plan more

fitted_seen : (p : Settings) (word : Fit) (index : ℕ) (f : Fti) (flags : ℕ) (s : Holding) → fit_of p s index f flags ≡ word
    → each_was_seen s ≡ true → each_was_seen (fitted word index f flags s) ≡ true
fitted_seen p fit.Known index f flags s e h = h
fitted_seen p fit.Away index f flags s e h = h
fitted_seen p fit.Unfit index f flags s e h = h
fitted_seen p fit.Taken index f flags s e h =
    all_more (λ (x : Held). was_seen (plan_of s x.at.index) x.at.block) (λ (x : Held). was_seen (plan_of t x.at.index) x.at.block)
    (λ x k. still x.at.index x.at.block k (new_found x.at.index (new_plan index f flags) s.plans)) s.held h
  where
    t : Holding
    t = with_plan index f flags s

    still : (at block : ℕ) → was_seen (plan_of s at) block ≡ true → (plan_of t at ≡ plan_of s at) ⊎ ((index == at) ≡ true)
        → was_seen (plan_of t at) block ≡ true
    still at block k (inl same) = ap (λ (o : Option Plan). was_seen o block) same ∙ k
    still at block k (inr own) =
        let none : plan_of s at ≡ None = ap (λ (n : ℕ). plan_of s n) (sym ((Decides-eqb index at).0 own)) ∙ taken_new p s index f flags e in
        absurd (clash (sym (ap (λ (o : Option Plan). was_seen o block) none) ∙ k))

-- ---- a block that is seen

le_more : (a b c : ℕ) → b ≤ c → nat_le a b ≡ true → nat_le a c ≡ true
le_more a b c le e = go (leb_tells a b) (leb_tells a c)
  where
    go : ((nat_le a b ≡ true) × (a ≤ b)) ⊎ ((nat_le a b ≡ false) × (b < a)) → ((nat_le a c ≡ true) × (a ≤ c)) ⊎ ((nat_le a c ≡ false) × (c < a))
        → nat_le a c ≡ true
    go (inr not_so) k = absurd (clash (sym not_so.0 ∙ e))
    go (inl so) (inl is) = is.0
    go (inl so) (inr not_so) = absurd (let x = so.1 in let y = not_so.1 in omega arith)

or_more : (a b c : Bool) → (b ≡ true → c ≡ true) → (a || b) ≡ true → (a || c) ≡ true
or_more true b c more e = refl
or_more false b c more e = more e

seen_more : (at : Point) (found : Option Plan) (block : ℕ) → was_seen found block ≡ true → was_seen (option_map (plan_seen at) found) block ≡ true
seen_more at None block e = absurd (clash e)
seen_more at (Some plan) block e = go (plan.index == at.index && says_stream plan.flags)
  where
    go : (b : Bool) → was_seen (Some (elim b as (λ _. Plan) [ true ↦ record plan { seen = max plan.seen at.block } | false ↦ plan ])) block ≡ true
    go true =
        or_more (not (says_stream plan.flags)) (nat_le block plan.seen) (nat_le block (max plan.seen at.block))
        (le_more block plan.seen (max plan.seen at.block) (omega arith)) e
    go false = e

sees_seen : (at : Point) (s : Holding) → each_was_seen s ≡ true → each_was_seen (sees_block at s) ≡ true
sees_seen at s h =
    all_more (λ (x : Held). was_seen (plan_of s x.at.index) x.at.block) (λ (x : Held). was_seen (plan_of (sees_block at s) x.at.index) x.at.block)
    (λ x k. ap (λ (o : Option Plan). was_seen o x.at.block) (seen_found at x.at.index s.plans) ∙ seen_more at (plan_of s x.at.index) x.at.block k) s.held h

-- ---- a symbol more, of a block that was just seen

some_plan : (found : Option Plan) (at : Point) (plan : Plan) → option_map (plan_seen at) found ≡ Some plan → (x : Plan) × (found ≡ Some x)
some_plan None at plan e = absurd (none e)
  where
    none : None ≡ Some plan → ⊥
    none h = cc
some_plan (Some x) at plan e = (x, refl)

own_seen : (at : Position) (plan : Plan) → plan.index ≡ at.index → was_seen (Some (plan_seen (point_of at) plan)) at.block ≡ true
own_seen at plan same = go (says_stream plan.flags) refl (plan.index == at.index) ((Decides-eqb plan.index at.index).1 same)
  where
    Seen : Bool → Type 0
    Seen b = was_seen (Some (elim b as (λ _. Plan) [ true ↦ record plan { seen = max plan.seen at.block } | false ↦ plan ])) at.block ≡ true

    is_le : nat_le at.block (max plan.seen at.block) ≡ true
    is_le = by (leb_tells at.block (max plan.seen at.block))
      where
        by : ((nat_le at.block (max plan.seen at.block) ≡ true) × (at.block ≤ max plan.seen at.block))
            ⊎ ((nat_le at.block (max plan.seen at.block) ≡ false) × (max plan.seen at.block < at.block)) → nat_le at.block (max plan.seen at.block) ≡ true
        by (inl is) = is.0
        by (inr not_so) = absurd (let x = not_so.1 in omega arith)

    or_right : (a b : Bool) → b ≡ true → (a || b) ≡ true
    or_right true b e = refl
    or_right false b e = e

    or_left : (a b : Bool) → a ≡ true → (a || b) ≡ true
    or_left true b e = refl
    or_left false b e = absurd (clash e)

    go : (c : Bool) → says_stream plan.flags ≡ c → (b : Bool) → b ≡ true → Seen (b && says_stream plan.flags)
    go c stream false e = absurd (clash e)
    go true stream true e = subst Seen (sym stream) (or_right (not (says_stream plan.flags)) (nat_le at.block (max plan.seen at.block)) is_le)
    go false stream true e = subst Seen (sym stream) (or_left (not (says_stream plan.flags)) (nat_le at.block plan.seen) (ap not stream))

symbol_seen : (p : Settings) (word : Put) (at : Position) (payload : List ℕ) (u : Holding) → put_of p (sees_block (point_of at) u) at payload ≡ word
    → each_was_seen (sees_block (point_of at) u) ≡ true → each_was_seen (with_symbol word at payload (sees_block (point_of at) u)) ≡ true
symbol_seen p put.Had at payload u e h = h
symbol_seen p put.Away at payload u e h = h
symbol_seen p put.Unfit at payload u e h = h
symbol_seen p put.Kept at payload u e h =
    let t : Holding = sees_block (point_of at) u in
    let new = kept_new p t at payload e in
    let found = some_plan (plan_of u at.index) (point_of at) new.0 (sym (seen_found (point_of at) at.index u.plans) ∙ new.1.planned) in
    let is : plan_of t at.index ≡ Some (plan_seen (point_of at) found.0) =
    seen_found (point_of at) at.index u.plans ∙ ap (λ (o : Option Plan). option_map (plan_seen (point_of at)) o) found.1 in
    all_joined (λ (x : Held). was_seen (plan_of t x.at.index) x.at.block) (record { at = at; octets = payload })
    (ap (λ (o : Option Plan). was_seen o at.block) is ∙ own_seen at found.0 (index_of_found at.index u.plans found.0 found.1)) t.held h

info_seen : (word : Put) (index : ℕ) (info : List ℕ) (s : Holding) → each_was_seen s ≡ true → each_was_seen (with_info word index info s) ≡ true
info_seen put.Had index info s h = h
info_seen put.Away index info s h = h
info_seen put.Unfit index info s h = h
info_seen put.Kept index info s h = h

-- ---- a message

object_seen : (p : Settings) (at : Position) (extensions : List Extension) (flags : ℕ) (brings : Holding → Holding) (s : Holding)
    → ((u : Holding) → each_was_seen (sees_block (point_of at) u) ≡ true → each_was_seen (brings (sees_block (point_of at) u)) ≡ true)
    → each_was_seen s ≡ true → each_was_seen (object_held p at extensions flags brings s) ≡ true
object_seen p at extensions flags brings s kept h = go (fti_of extensions)
  where
    put : (u : Holding) → each_was_seen u ≡ true → (b : Bool)
        → each_was_seen (elim b as (λ _. Holding) [ true ↦ handed_up p (brings (sees_block (point_of at) u)) | false ↦ sees_block (point_of at) u ]) ≡ true
    put u k true =
        same_seen (brings (sees_block (point_of at) u)) (handed_up p (brings (sees_block (point_of at) u)))
        (handing_up p (brings (sees_block (point_of at) u))).holds (kept u (sees_seen (point_of at) u k))
    put u k false = sees_seen (point_of at) u k

    go : (found : Option Fti) → each_was_seen (elim found as (λ _. Holding) [
      | Some f ↦ (
          let word = fit_of p s at.index f flags in
          let s' = sees_block (point_of at) (fitted word at.index f flags s) in
          elim (lets_put word) [ true ↦ handed_up p (brings s') | false ↦ s' ]
          )
      | None ↦ handed_up p (brings (sees_block (point_of at) s))
    ]) ≡ true
    go None = put s h true
    go (Some f) = put (fitted (fit_of p s at.index f flags) at.index f flags s) (fitted_seen p (fit_of p s at.index f flags) at.index f flags s refl h)
        (lets_put (fit_of p s at.index f flags))

is_kept : (p : Settings) → HoldingIsKept p (λ s. each_was_seen s ≡ true)
is_kept p = record {
  nothing = refl;
  symbol = λ at extensions flags payload s h.
      object_seen p at extensions flags (put_symbol p at payload) s (λ u k. symbol_seen p (put_of p (sees_block (point_of at) u) at payload) at payload u refl k) h;
  info = λ at extensions flags index info s h.
      object_seen p at extensions flags (put_info p index info) s
      (λ u k. info_seen (put_info_of p (sees_block (point_of at) u) index info) index info (sees_block (point_of at) u) k) h;
  squelch = λ first s h. same_seen s (squelched p first s) (losing p first s).holds h;
  take = λ s h. same_seen s (up_taken s).0 (taking s).holds h;
}

pub seen_laws : SeenLaws
seen_laws = record {
  begins = λ node. refl;
  goes_on = λ p s event h. steps_keep p (λ t. each_was_seen t ≡ true) (is_kept p) s event h;
}
