-- What the closing of a round leaves.
use Rattle.std.proofs.Common.{◌≡◌, ℕ, cond, ◌<◌, ◌≤◌, ◌⊎◌, inl, inr, List, [], ◌∷◌, Bool, true, false, refl, sym, ◌∙◌, arith}
use Rattle.std.specs.Prelude.{filter, nat_lt, nat_le}
use Rattle.std.specs.List.{AllByRecursion}
use Rattle.std.proofs.lemmas.Bool.Decides.{Decides-ltb, leb_tells}
use Rattle.fec_plan.specs.declared.position.Position.{Position}
use Rattle.fec_plan.specs.Points.{position_before}
use Rattle.fec_plan.proofs.PositionLemmas.{Before, before_decides, before_both}
use Rattle.norm_order.specs.Sets.{with_member, with_members}
use Rattle.norm_send_rules.specs.Wants.{want_before}
use Rattle.norm_send_rules.specs.InWindow.{stands_behind}
use Rattle.norm_send_rules.specs.Closing.{asked_in}
use Rattle.norm_send_rules.specs.Laws.{Rise, ClosingLaws}
use Rattle.norm_send_rules.specs.declared.want.Want.{Want}
use Rattle.norm_send_rules.specs.declared.want.Want.TheVariants.{Info, Symbol}

index_of_before : (a b : Position) → Before a b → a.index ≤ b.index
index_of_before a b (inl (inl h)) = omega arith
index_of_before a b (inl (inr (e, h))) = omega arith
index_of_before a b (inr ((e, f), h)) = omega arith

index_before : (a b : Position) → position_before a b ≡ true → a.index ≤ b.index
index_before a b h = index_of_before a b ((before_decides a b).0 h)

lt_from : (a b : ℕ) → nat_lt a b ≡ true → a < b
lt_from a b h = (Decides-ltb a b).0 h

to_lt : (a b : ℕ) → a < b → nat_lt a b ≡ true
to_lt a b h = (Decides-ltb a b).1 h

clash : false ≡ true → ⊥
clash e = cc

le_from : (a b : ℕ) → nat_le a b ≡ true → a ≤ b
le_from a b h = go (leb_tells a b)
  where
    go : ((nat_le a b ≡ true) × (a ≤ b)) ⊎ ((nat_le a b ≡ false) × (b < a)) → a ≤ b
    go (inl tells) = tells.1
    go (inr tells) = absurd (clash (sym tells.0 ∙ h))

to_le : (a b : ℕ) → a ≤ b → nat_le a b ≡ true
to_le a b h = go (leb_tells a b)
  where
    go : ((nat_le a b ≡ true) × (a ≤ b)) ⊎ ((nat_le a b ≡ false) × (b < a)) → nat_le a b ≡ true
    go (inl tells) = tells.0
    go (inr (e, lt)) = absurd (omega arith)

want_trans : (u v w : Want) → want_before u v ≡ true → want_before v w ≡ true → want_before u w ≡ true
want_trans (Info i) (Info j) (Info k) h g = let a = lt_from i j h in let b = lt_from j k g in to_lt i k (omega arith)
want_trans (Info i) (Info j) (Symbol c) h g = let a = lt_from i j h in let b = le_from j c.index g in to_le i c.index (omega arith)
want_trans (Info i) (Symbol b) (Info k) h g = let a = le_from i b.index h in let c = lt_from b.index k g in to_lt i k (omega arith)
want_trans (Info i) (Symbol b) (Symbol c) h g = let a = le_from i b.index h in let d = index_before b c g in to_le i c.index (omega arith)
want_trans (Symbol a) (Info j) (Info k) h g = let b = lt_from a.index j h in let c = lt_from j k g in to_lt a.index k (omega arith)
want_trans (Symbol a) (Info j) (Symbol c) h g =
    let b = lt_from a.index j h in let d = le_from j c.index g in (before_decides a c).1 (inl (inl (omega arith)))
want_trans (Symbol a) (Symbol b) (Info k) h g = let d = index_before a b h in let c = lt_from b.index k g in to_lt a.index k (omega arith)
want_trans (Symbol a) (Symbol b) (Symbol c) h g =
    (before_decides a c).1 (before_both a b c ((before_decides a b).0 h) ((before_decides b c).0 g))

-- of each want
abbrev pub Each : (Want → Bool) → List Want → Type 0
Each test wants = AllByRecursion (λ want. test want ≡ true) wants

each_later : (u v : Want) (wants : List Want) → want_before u v ≡ true → Each (want_before v) wants → Each (want_before u) wants
each_later u v [] h all = tt
each_later u v (w ∷ wants) h all = (want_trans u v w h all.0, each_later u v wants h all.1)

-- with one more, by what the two comparisons say
abbrev put : Bool → Bool → Want → Want → List Want → List Want
put b c x y ys = elim b [
  | true ↦ x ∷ y ∷ ys
  | false ↦ elim c [ true ↦ y ∷ with_member want_before x ys | false ↦ y ∷ ys ]
]

each_with : (test : Want → Bool) (x : Want) (ys : List Want) → test x ≡ true → Each test ys → Each test (with_member want_before x ys)
unfolding with_member
each_with test x [] h all = (h, tt)
each_with test x (y ∷ ys) h all = go (want_before x y) (want_before y x) (each_with test x ys h all.1)
  where
    go : (b c : Bool) → Each test (with_member want_before x ys) → Each test (put b c x y ys)
    go true c more = (h, (all.0, all.1))
    go false true more = (all.0, more)
    go false false more = (all.0, all.1)

rise_with : (x : Want) (ys : List Want) → Rise ys → Rise (with_member want_before x ys)
unfolding with_member
rise_with x [] rise = (tt, tt)
rise_with x (y ∷ ys) rise = go (want_before x y) (want_before y x) refl refl (rise_with x ys rise.1)
  where
    go : (b c : Bool) → want_before x y ≡ b → want_before y x ≡ c → Rise (with_member want_before x ys) → Rise (put b c x y ys)
    go true c e f more = ((e, each_later x y ys e rise.0), (rise.0, rise.1))
    go false true e f more = (each_with (want_before y) x ys f rise.0, more)
    go false false e f more = (rise.0, rise.1)

pub rise_more : (more wants : List Want) → Rise wants → Rise (with_members want_before more wants)
rise_more [] wants rise = rise
rise_more (x ∷ more) wants rise = rise_more more (with_member want_before x wants) (rise_with x wants rise)

pub each_more : (test : Want → Bool) (more wants : List Want) → Each test more → Each test wants → Each test (with_members want_before more wants)
each_more test [] wants all these = these
each_more test (x ∷ more) wants all these =
    each_more test more (with_member want_before x wants) all.1 (each_with test x wants all.0 these)

pub kept_passes : (test : Want → Bool) (wants : List Want) → Each test (filter test wants)
kept_passes test [] = tt
kept_passes test (w ∷ wants) = go (test w) refl (kept_passes test wants)
  where
    go : (b : Bool) → test w ≡ b → Each test (filter test wants) → Each test (cond b (w ∷ filter test wants) (filter test wants))
    go true e more = (e, more)
    go false e more = more

pub closing_laws : ClosingLaws
closing_laws = record {
  rise = λ p r s rise. rise_more (filter (stands_behind s.current.drop) (asked_in p s r.asked)) s.wants rise;
  in_window = λ p r s inside. each_more (stands_behind s.current.drop) (filter (stands_behind s.current.drop) (asked_in p s r.asked)) s.wants
      (kept_passes (stands_behind s.current.drop) (asked_in p s r.asked)) inside;
}
