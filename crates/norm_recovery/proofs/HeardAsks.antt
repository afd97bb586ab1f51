-- What was heard asks for what the requests asked for as they came: all of them, those of a message more, and all of a need.
use Rattle.std.proofs.Common.{◌≡◌, ℕ, zero, suc, ◌-◌, ◌<◌, ◌≤◌, List, [], ◌∷◌, ◌++◌, Bool, true, false, refl, sym, ap, ◌∙◌, arith, ◌⊎◌, inl, inr, flat_map}
use Rattle.std.specs.Prelude.{◌&&◌, ◌||◌, nat_le, ⊤}
use Rattle.std.specs.List.{list_any}
use Rattle.std.proofs.lemmas.Bool.Decides.{leb_tells}
use Rattle.std.proofs.lemmas.Grind.{flat_map-append}
use Rattle.std.proofs.lemmas.List.Folds.{list_any-append}
use Rattle.fec_plan.specs.Points.{Point, point, point_of, position, same_point}
use Rattle.fec_plan.specs.declared.position.Position.{Position}
use Rattle.fec_plan.proofs.PositionLemmas.{reached}
use Rattle.norm_ext.specs.Asking.{Named, Span, lies_in, asked_spans, asks_info, Count, asked_counts}
use Rattle.norm_receive_rules.specs.Heard.{heard_all}
use Rattle.norm_receive_rules.specs.HeardNeeds.{width_of, is_asked, asks_as_many, blocks_heard, info_heard, is_heard}
use Rattle.norm_receive_rules.specs.Holding.{Holding}
use Rattle.norm_receive_rules.specs.Laws.{EachIsAsked}
use Rattle.norm_receive_rules.specs.NackLaws.{BlocksAreAsked, width_at, IsAskedFor}
use Rattle.norm_receive_rules.specs.Needs.{Need, Object, ObjectInfo, Symbols, Source, Rest}
use Rattle.norm_receive_rules.proofs.HeardLemmas.{heard_laws}
use Rattle.norm_receive_rules.proofs.NackLemmas.{nack_laws}
use Rattle.norm_send_rules.specs.declared.want.Want.{Want}
use Rattle.norm_send_rules.specs.declared.want.Want.TheVariants as want
use Rattle.norm_safety.proofs.EntryLemmas.{clash}
use Rattle.norm_recovery.specs.Clean.{heard_asks}
use Rattle.norm_recovery.specs.RoundAsks.{IsOfNeed, IsNarrow}

-- requests ask for an info or a symbol: one of them names it, or counts its block by more than 0
abbrev pub asked_by : List Named → Want → Bool
asked_by rs (want.Info index) = list_any (λ (r : Named). asks_info r index) rs
asked_by rs (want.Symbol at) = is_asked (flat_map asked_spans rs) at || asks_as_many (flat_map asked_counts rs) (point_of at) 1

pub heard_is : (rs : List Named) (y : Want) → heard_asks (heard_all rs) y ≡ asked_by rs y
heard_is rs (want.Info index) = heard_laws.infos rs index
heard_is rs (want.Symbol at) =
    ap (λ (b : Bool). b || asks_as_many (heard_all rs).counts (point_of at) 1) (heard_laws.symbols rs at)
    ∙ ap (λ (b : Bool). is_asked (flat_map asked_spans rs) at || b) (heard_laws.counts rs (point_of at) 1)

-- what all of some requests ask for the first of them do, or the others
pub asked_more : (rs more : List Named) (y : Want) → asked_by (rs ++ more) y ≡ true → (asked_by rs y ≡ true) ⊎ (asked_by more y ≡ true)
asked_more rs more (want.Info index) e = go (list_any test rs) refl (sym (list_any-append test rs more) ∙ e)
  where
    test : Named → Bool
    test r = asks_info r index

    go : (b : Bool) → list_any test rs ≡ b → (b || list_any test more) ≡ true → (list_any test rs ≡ true) ⊎ (list_any test more ≡ true)
    go true is f = inl is
    go false is f = inr f
asked_more rs more (want.Symbol at) e =
    go (is_asked (flat_map asked_spans rs) at) (is_asked (flat_map asked_spans more) at) (asks_as_many (flat_map asked_counts rs) (point_of at) 1)
    (asks_as_many (flat_map asked_counts more) (point_of at) 1)
    (ap (λ (b : Bool). b || asks_as_many (flat_map asked_counts rs ++ flat_map asked_counts more) (point_of at) 1)
    (sym (list_any-append (lies_in at) (flat_map asked_spans rs) (flat_map asked_spans more)))
    ∙ ap (λ (spans : List Span). is_asked spans at || asks_as_many (flat_map asked_counts rs ++ flat_map asked_counts more) (point_of at) 1)
    (sym (flat_map-append asked_spans rs more))
    ∙ ap (λ (counts : List Count). is_asked (flat_map asked_spans (rs ++ more)) at || asks_as_many counts (point_of at) 1) (sym (flat_map-append asked_counts rs more))
    ∙ e)
    (list_any-append counted (flat_map asked_counts rs) (flat_map asked_counts more))
  where
    counted : Count → Bool
    counted c = same_point c.of (point_of at) && nat_le 1 c.lacking

    parts : (a b c d : Bool) → ((a || b) || (c || d)) ≡ true → ((a || c) ≡ true) ⊎ ((b || d) ≡ true)
    parts true b c d f = inl refl
    parts false b true d f = inl refl
    parts false true false d f = inr refl
    parts false false false d f = inr f

    go : (a b c d : Bool) → ((a || b) || asks_as_many (flat_map asked_counts rs ++ flat_map asked_counts more) (point_of at) 1) ≡ true
        → asks_as_many (flat_map asked_counts rs ++ flat_map asked_counts more) (point_of at) 1 ≡ (c || d) → ((a || c) ≡ true) ⊎ ((b || d) ≡ true)
    go a b c d f is = parts a b c d (sym (ap (λ (x : Bool). (a || b) || x) is) ∙ f)

-- ---- all of a need

left_is : (a b : Bool) → a ≡ true → (a || b) ≡ true
left_is true b e = refl
left_is false b e = absurd (clash e)

right_is : (a b : Bool) → b ≡ true → (a || b) ≡ true
right_is true b e = refl
right_is false b e = e

-- what lies between two blocks of an object is asked for with all of that
pub between_asked : (spans : List Span) (at : Position) (width index first last : ℕ) → EachIsAsked spans width (position index first 0) (position index last (width - 1))
    → at.index ≡ index → at.symbol < width → first ≤ at.block → at.block ≤ last → is_asked spans at ≡ true
between_asked spans at width index first last asked same narrow from to =
    asked at same narrow (reached at (position index first 0) (inr (sym same, low first at.block at.symbol from)))
    (reached (position index last (width - 1)) at (inr (same, high at.block last at.symbol to narrow)))
  where
    low : (a b n : ℕ) → a ≤ b → (a < b) ⊎ ((a ≡ b) × (0 ≤ n))
    low zero zero n le = inr (refl, omega arith)
    low zero (suc b) n le = inl (omega arith)
    low (suc a) zero n le = absurd (omega (arith, le))
    low (suc a) (suc b) n le = up (low a b n (omega (arith, le)))
      where
        up : (a < b) ⊎ ((a ≡ b) × (0 ≤ n)) → (suc a < suc b) ⊎ ((suc a ≡ suc b) × (0 ≤ n))
        up (inl lt) = inl (omega (arith, lt))
        up (inr e) = inr (ap suc e.0, e.1)

    high : (a b n : ℕ) → a ≤ b → n < width → (a < b) ⊎ ((a ≡ b) × (n ≤ width - 1))
    high zero zero n le lt = inr (refl, omega (arith, lt))
    high zero (suc b) n le lt = inl (omega arith)
    high (suc a) zero n le lt = absurd (omega (arith, le))
    high (suc a) (suc b) n le lt = up (high a b n (omega (arith, le)) lt)
      where
        up : (a < b) ⊎ ((a ≡ b) × (n ≤ width - 1)) → (suc a < suc b) ⊎ ((suc a ≡ suc b) × (n ≤ width - 1))
        up (inl less) = inl (omega (arith, less))
        up (inr e) = inr (ap suc e.0, e.1)

-- as many as more than 0 is one at least
counts_one : (counts : List Count) (at : Point) (wanted : ℕ) → 0 < wanted → asks_as_many counts at wanted ≡ true → asks_as_many counts at 1 ≡ true
counts_one counts at wanted some e = go counts e
  where
    least : (n : ℕ) → nat_le wanted n ≡ true → nat_le 1 n ≡ true
    least n f = by (leb_tells wanted n) (leb_tells 1 n)
      where
        by : ((nat_le wanted n ≡ true) × (wanted ≤ n)) ⊎ ((nat_le wanted n ≡ false) × (n < wanted)) → ((nat_le 1 n ≡ true) × (1 ≤ n)) ⊎ ((nat_le 1 n ≡ false) × (n < 1))
            → nat_le 1 n ≡ true
        by (inr less) other = absurd (clash (sym less.0 ∙ f))
        by (inl most) (inl one) = one.0
        by (inl most) (inr none) = absurd (let a = most.1 in let b = none.1 in omega (arith, a, b, some))

    one : (b : Bool) (n : ℕ) (rest others : Bool) → (rest ≡ true → others ≡ true) → ((b && nat_le wanted n) || rest) ≡ true → ((b && nat_le 1 n) || others) ≡ true
    one false n rest others more f = more f
    one true n rest others more f = by (nat_le wanted n) refl f
      where
        by : (c : Bool) → nat_le wanted n ≡ c → (c || rest) ≡ true → (nat_le 1 n || others) ≡ true
        by true is f = left_is (nat_le 1 n) others (least n is)
        by false is f = right_is (nat_le 1 n) others (more f)

    go : (cs : List Count) → asks_as_many cs at wanted ≡ true → asks_as_many cs at 1 ≡ true
    go [] f = f
    go (c ∷ cs) f = one (same_point c.of at) c.lacking (asks_as_many cs at wanted) (asks_as_many cs at 1) (λ g. go cs g) f

-- a symbol's block has 24 bits
abbrev pub IsLow : Want → Type 0
IsLow (want.Info index) = ⊤
IsLow (want.Symbol at) = at.block ≤ 16777215

both : (a b : Bool) → (a && b) ≡ true → (a ≡ true) × (b ≡ true)
both true b e = (refl, e)
both false b e = absurd (clash e)

-- if all of a need was heard, each info and each symbol of it was
pub need_heard : (rs : List Named) (h : Holding) (need : Need) (y : Want) → is_heard (heard_all rs) h need ≡ true → IsOfNeed need y → IsNarrow (width_at h need) y
    → IsLow y → heard_asks (heard_all rs) y ≡ true
need_heard rs h (Object index) (want.Info other) e same narrow low =
    ap (λ (i : ℕ). info_heard (heard_all rs) i) same ∙ (both (blocks_heard (heard_all rs) (width_of h (point index 0)) index 0 16777215) (info_heard (heard_all rs) index) e).1
need_heard rs h (Object index) (want.Symbol at) e same narrow low =
    let asked : IsAskedFor rs h (Object index) = (nack_laws.heard rs h (Object index) (omega (arith, narrow)) (omega arith)).0 e in
    by_name rs at (between_asked (flat_map asked_spans rs) at (width_of h (point index 0)) index 0 16777215 asked.0 same narrow (omega arith) low)
  where
    by_name : (rs : List Named) (at : Position) → is_asked (flat_map asked_spans rs) at ≡ true → heard_asks (heard_all rs) (want.Symbol at) ≡ true
    by_name rs at f = heard_is rs (want.Symbol at) ∙ left_is (is_asked (flat_map asked_spans rs) at) (asks_as_many (flat_map asked_counts rs) (point_of at) 1) f
need_heard rs h (ObjectInfo index) (want.Info other) e same narrow low = ap (λ (i : ℕ). info_heard (heard_all rs) i) same ∙ e
need_heard rs h (ObjectInfo index) (want.Symbol at) e same narrow low = absurd same
need_heard rs h (Symbols index block wanted) (want.Info other) e same narrow low = absurd same
need_heard rs h (Symbols index block wanted) (want.Symbol at) e same narrow low = heard_is rs (want.Symbol at) ∙ go asked
  where
    index_is : at.index ≡ index
    index_is = ap (λ (x : Point). x.index) same.0

    block_is : at.block ≡ block
    block_is = ap (λ (x : Point). x.block) same.0

    asked : IsAskedFor rs h (Symbols index block wanted)
    asked = (nack_laws.heard rs h (Symbols index block wanted) (omega (arith, narrow)) (let is = block_is in omega (arith, is, low))).0 e

    go : (asks_as_many (flat_map asked_counts rs) (point index block) wanted ≡ true) ⊎ BlocksAreAsked rs (width_of h (point index block)) index block block
        → asked_by rs (want.Symbol at) ≡ true
    go (inl counted) =
        right_is (is_asked (flat_map asked_spans rs) at) (asks_as_many (flat_map asked_counts rs) (point_of at) 1)
        (counts_one (flat_map asked_counts rs) (point_of at) wanted same.1 (ap (λ (x : Point). asks_as_many (flat_map asked_counts rs) x wanted) same.0 ∙ counted))
    go (inr all) =
        left_is (is_asked (flat_map asked_spans rs) at) (asks_as_many (flat_map asked_counts rs) (point_of at) 1)
        (between_asked (flat_map asked_spans rs) at (width_of h (point index block)) index block block all index_is narrow (let is = block_is in omega (arith, is))
        (let is = block_is in omega (arith, is)))
need_heard rs h (Source own) (want.Info other) e same narrow low = absurd same
need_heard rs h (Source own) (want.Symbol at) e same narrow low =
    left_is (is_asked (heard_all rs).symbols at) (asks_as_many (heard_all rs).counts (point_of at) 1) (ap (is_asked (heard_all rs).symbols) same ∙ e)
need_heard rs h (Rest index block) (want.Info other) e same narrow low = absurd same
need_heard rs h (Rest index block) (want.Symbol at) e same narrow low =
    let from = same.1 in
    let asked : IsAskedFor rs h (Rest index block) = (nack_laws.heard rs h (Rest index block) (omega (arith, narrow)) (omega (arith, from, low))).0 e in
    heard_is rs (want.Symbol at)
    ∙ left_is (is_asked (flat_map asked_spans rs) at) (asks_as_many (flat_map asked_counts rs) (point_of at) 1)
    (between_asked (flat_map asked_spans rs) at (width_of h (point index block)) index block 16777215 asked same.0 narrow same.1 low)
