-- What a receiver has of a symbol and of an info; and that a state which holds no less has it too.
use Rattle.std.proofs.Common.{◌≡◌, ℕ, ◌-◌, ◌<◌, ◌≤◌, cond, List, [], ◌∷◌, length, Bool, true, false, Option, None, Some, refl, sym, ap, ◌∙◌, subst, arith, ◌⊎◌, inl, inr}
use Rattle.std.specs.Prelude.{find, filter, max, ◌==◌, ◌&&◌, ◌||◌, is_some, option_map}
use Rattle.std.specs.List.{list_any}
use Rattle.std.proofs.lemmas.Bool.Decides.{Decides-eqb, Decides-ltb}
use Rattle.norm_base.specs.Settings.{Settings}
use Rattle.fec_plan.specs.Partition.{source_symbols}
use Rattle.fec_plan.specs.Points.{Point, position_before, reaches}
use Rattle.fec_plan.specs.declared.position.Position.{Position}
use Rattle.fec_plan.proofs.PositionLemmas.{Before, Behind, before_decides, behind, reached, behind_both}
use Rattle.norm_ext.specs.declared.fti.Fti.{Fti}
use Rattle.norm_order.specs.Sets.{with_member}
use Rattle.norm_receive_rules.specs.Holding.{Holding, Plan, Held, HeldInfo, new_plan}
use Rattle.norm_receive_rules.specs.Fitting.{fit_of, fitted, plan_before}
use Rattle.norm_receive_rules.specs.Laws.{HoldsSame}
use Rattle.norm_receive_rules.specs.Plans.{cut_by, cut_of_plan, says_stream, plan_of, is_over, held_of, holds, is_done, info_of}
use Rattle.norm_receive_rules.specs.Putting.{held_before, info_before, put_of, put_symbol, with_symbol, put_info_of, put_info, with_info}
use Rattle.norm_receive_rules.specs.ReceiverState.{ReceiverState}
use Rattle.norm_receive_rules.specs.Seeing.{plan_seen, sees_block}
use Rattle.norm_receive_rules.specs.declared.words.Fit.{Fit}
use Rattle.norm_receive_rules.specs.declared.words.Fit.TheVariants as fit
use Rattle.norm_receive_rules.specs.declared.words.Put.{Put}
use Rattle.norm_receive_rules.specs.declared.words.Put.TheVariants as put
use Rattle.norm_receive_rules.proofs.PassedLemmas.{new_found, taken_new}
use Rattle.norm_receive_rules.proofs.PassedSteps.{seen_found}

-- a symbol is behind the hand-up point; or its object's plan is known, and it is held or its block is done
abbrev pub HasSymbol : Holding → Position → Type 0
HasSymbol h at = (position_before at h.point ≡ true) ⊎ ((plan : Plan) × (plan_of h at.index ≡ Some plan) × ((holds h at || is_done h plan at.block) ≡ true))

-- an object is over, or its info is held
abbrev pub HasInfo : Holding → ℕ → Type 0
HasInfo h index = (is_over h index ≡ true) ⊎ (is_some (info_of h index) ≡ true)

-- of what a receiver holds while it is in an instance
abbrev pub InHas : (Holding → Type 0) → ℕ → ReceiverState → Type 0
InHas P id r = r.instance ≡ Some id → P r.holding

-- a plan as it is later: another block may be seen of it
pub record PlanLater (plan later : Plan) : Type 0 where
  pub index : later.index ≡ plan.index
  pub fti : later.fti ≡ plan.fti
  pub flags : later.flags ≡ plan.flags

-- one state holds no less than another, and its hand-up point is no earlier
pub record HoldsMore (s t : Holding) : Type 0 where
  pub point : reaches t.point s.point ≡ true
  pub plans : (index : ℕ) (plan : Plan) → plan_of s index ≡ Some plan → (later : Plan) × (plan_of t index ≡ Some later) × PlanLater plan later
  pub held : (at : Position) → holds s at ≡ true → holds t at ≡ true
  pub few : (index block : ℕ) → length (held_of s index block) ≤ length (held_of t index block)
  pub infos : (index : ℕ) → is_some (info_of s index) ≡ true → is_some (info_of t index) ≡ true

clash : false ≡ true → ⊥
clash e = cc

at_itself : (a : Position) → reaches a a ≡ true
at_itself a = reached a a (inr (refl, inr (refl, (let z : a.symbol ≤ a.symbol = omega arith in z))))

plan_itself : (plan : Plan) → PlanLater plan plan
plan_itself plan = record { index = refl; fti = refl; flags = refl }

-- ---- what is had is had of more

none_lacking : (k m n : ℕ) → m ≤ n → (k - m == 0) ≡ true → (k - n == 0) ≡ true
none_lacking k m n le e = (Decides-eqb (k - n) 0).1 (let z = (Decides-eqb (k - m) 0).0 e in omega arith)

-- a block that is done stays done
pub done_more : (s t : Holding) (plan later : Plan) (block : ℕ) → HoldsMore s t → PlanLater plan later → is_done s plan block ≡ true → is_done t later block ≡ true
done_more s t plan later block more is e =
    ap (λ (k : ℕ). k - length (held_of t later.index block) == 0) sources
    ∙ ap (λ (n : ℕ). source_symbols (cut_of_plan plan) block - length (held_of t n block) == 0) is.index
    ∙ none_lacking (source_symbols (cut_of_plan plan) block) (length (held_of s plan.index block)) (length (held_of t plan.index block)) (more.few plan.index block) e
  where
    sources : source_symbols (cut_of_plan later) block ≡ source_symbols (cut_of_plan plan) block
    sources =
        ap (λ (f : Fti). source_symbols (cut_by f later.flags) block) is.fti ∙ ap (λ (flags : ℕ). source_symbols (cut_by plan.fti flags) block) is.flags

either : (a b c d : Bool) → (a ≡ true → c ≡ true) → (b ≡ true → d ≡ true) → (a || b) ≡ true → (c || d) ≡ true
either true b c d f g e = ap (λ (x : Bool). x || d) (f refl)
either false b true d f g e = refl
either false b false d f g e = g e

before_still : (a b c : Position) → position_before a b ≡ true → reaches c b ≡ true → position_before a c ≡ true
before_still a b c e r = (before_decides a c).1 (go ((before_decides a b).0 e) (behind c b r))
  where
    go : Before a b → Behind c b → Before a c
    go (inl (inl h)) (inl k) = inl (inl (omega arith))
    go (inl (inl h)) (inr (same, k)) = inl (inl (omega arith))
    go (inl (inr (f, h))) (inl k) = inl (inl (omega arith))
    go (inl (inr (f, h))) (inr (same, inl k)) = inl (inr (omega arith, omega arith))
    go (inl (inr (f, h))) (inr (same, inr (g, k))) = inl (inr (omega arith, omega arith))
    go (inr ((f, g), h)) (inl k) = inl (inl (omega arith))
    go (inr ((f, g), h)) (inr (same, inl k)) = inl (inr (omega arith, omega arith))
    go (inr ((f, g), h)) (inr (same, inr (i, k))) = inr ((omega arith, omega arith), omega arith)

pub symbol_more : (s t : Holding) (at : Position) → HoldsMore s t → HasSymbol s at → HasSymbol t at
symbol_more s t at more (inl before) = inl (before_still at s.point t.point before more.point)
symbol_more s t at more (inr (plan, known, has)) =
    let later = more.plans at.index plan known in
    inr (
      later.0,
      later.1,
      either (holds s at) (is_done s plan at.block) (holds t at) (is_done t later.0 at.block) (more.held at)
          (done_more s t plan later.0 at.block more later.2) has,
    )

-- the hand-up point's object is no earlier
index_on : (s t : Holding) → HoldsMore s t → s.point.index ≤ t.point.index
index_on s t more = go (behind t.point s.point more.point)
  where
    go : Behind t.point s.point → s.point.index ≤ t.point.index
    go (inl lt) = omega arith
    go (inr (same, rest)) = omega arith

pub over_more : (s t : Holding) (index : ℕ) → HoldsMore s t → is_over s index ≡ true → is_over t index ≡ true
over_more s t index more over =
    let lt : index < s.point.index = (Decides-ltb index s.point.index).0 over in
    let le = index_on s t more in
    (Decides-ltb index t.point.index).1 (omega (arith, lt, le))

pub info_more : (s t : Holding) (index : ℕ) → HoldsMore s t → HasInfo s index → HasInfo t index
info_more s t index more (inl over) = inl (over_more s t index more over)
info_more s t index more (inr has) = inr (more.infos index has)

-- ---- what holds more

pub more_both : (s t u : Holding) → HoldsMore s t → HoldsMore t u → HoldsMore s u
more_both s t u f g = record {
  point = reached u.point s.point (behind_both u.point t.point s.point (behind u.point t.point g.point) (behind t.point s.point f.point));
  plans = λ index plan known. (
      let first = f.plans index plan known in
      let next = g.plans index first.0 first.1 in
      let was = first.2 in
      let is = next.2 in
      (next.0, next.1, record { index = is.index ∙ was.index; fti = is.fti ∙ was.fti; flags = is.flags ∙ was.flags })
      );
  held = λ at e. g.held at (f.held at e);
  few = λ index block. (let a = f.few index block in let b = g.few index block in omega (arith, a, b));
  infos = λ index e. g.infos index (f.infos index e);
}

pub more_itself : (s : Holding) → HoldsMore s s
more_itself s = record {
  point = at_itself s.point;
  plans = λ index plan known. (plan, known, plan_itself plan);
  held = λ at e. e;
  few = λ index block. (let z : length (held_of s index block) ≤ length (held_of s index block) = omega arith in z);
  infos = λ index e. e;
}

-- the same is held, and the hand-up point went on
pub same_more : (s t : Holding) → HoldsSame s t → reaches t.point s.point ≡ true → HoldsMore s t
same_more s t same point = record {
  point = point;
  plans = λ index plan known. (plan, ap (λ (plans : List Plan). find (λ (x : Plan). x.index == index) plans) same.plans ∙ known, plan_itself plan);
  held = λ at e. (let H : List Held → Type 0 = λ xs. list_any (λ (x : Held). x.at.symbol == at.symbol) (filter (λ (x : Held). x.at.index == at.index && x.at.block == at.block) xs) ≡ true in subst H (sym same.held) e);
  few = λ index block. (
      let same_long : length (held_of t index block) ≡ length (held_of s index block) =
      ap (λ (xs : List Held). length (filter (λ (x : Held). x.at.index == index && x.at.block == block) xs)) same.held in omega (arith, same_long)
      );
  infos = λ index e. (let I : List HeldInfo → Type 0 = λ xs. is_some (info_in xs index) ≡ true in subst I (sym same.infos) e);
}
  where
    info_in : List HeldInfo → ℕ → Option (List ℕ)
    info_in infos index = elim (find (λ (x : HeldInfo). x.index == index) infos) [ Some x ↦ Some x.info | None ↦ None ]

-- ---- a plan more

pub fitted_more : (p : Settings) (word : Fit) (index : ℕ) (f : Fti) (flags : ℕ) (s : Holding) → fit_of p s index f flags ≡ word → HoldsMore s (fitted word index f flags s)
fitted_more p fit.Known index f flags s e = more_itself s
fitted_more p fit.Away index f flags s e = more_itself s
fitted_more p fit.Unfit index f flags s e = more_itself s
fitted_more p fit.Taken index f flags s e = record {
  point = at_itself s.point;
  plans = λ other plan known. (plan, go other plan known (new_found other (new_plan index f flags) s.plans), plan_itself plan);
  held = λ at h. h;
  few = λ other block. (let z : length (held_of s other block) ≤ length (held_of s other block) = omega arith in z);
  infos = λ other h. h;
}
  where
    differ : (plan : Plan) → None ≡ Some plan → ⊥
    differ plan e = cc

    go : (other : ℕ) (plan : Plan) → plan_of s other ≡ Some plan
        → (find (λ (y : Plan). y.index == other) (with_member plan_before (new_plan index f flags) s.plans) ≡ find (λ (y : Plan). y.index == other) s.plans)
        ⊎ ((index == other) ≡ true)
        → find (λ (y : Plan). y.index == other) (with_member plan_before (new_plan index f flags) s.plans) ≡ Some plan
    go other plan known (inl same) = same ∙ known
    go other plan known (inr own) =
        let here : index ≡ other = (Decides-eqb index other).0 own in
        absurd (differ plan (sym (taken_new p s index f flags e) ∙ ap (λ (n : ℕ). plan_of s n) here ∙ known))

-- ---- a block that is seen

seen_later : (at : Point) (plan : Plan) → PlanLater plan (plan_seen at plan)
seen_later at plan = go (plan.index == at.index && says_stream plan.flags)
  where
    go : (b : Bool) → PlanLater plan (elim b as (λ _. Plan) [ true ↦ record plan { seen = max plan.seen at.block } | false ↦ plan ])
    go true = record { index = refl; fti = refl; flags = refl }
    go false = plan_itself plan

pub seen_more : (at : Point) (s : Holding) → HoldsMore s (sees_block at s)
seen_more at s = record {
  point = at_itself s.point;
  plans = λ index plan known. (plan_seen at plan, seen_found at index s.plans ∙ ap (option_map (plan_seen at)) known, seen_later at plan);
  held = λ other e. e;
  few = λ index block. (let z : length (held_of s index block) ≤ length (held_of s index block) = omega arith in z);
  infos = λ index e. e;
}

-- ---- a symbol more

grows : (q : Held → Bool) (x : Held) (xs : List Held) → length (filter q xs) ≤ length (filter q (with_member held_before x xs))
unfolding with_member
grows q x [] = omega arith
grows q x (y ∷ xs) = go (held_before x y) (held_before y x) (grows q x xs)
  where
    first : (b : Bool) (zs : List Held) → length zs ≤ length (cond b (x ∷ zs) zs)
    first true zs = omega arith
    first false zs = omega arith

    rest : (b : Bool) (zs ws : List Held) → length zs ≤ length ws → length (cond b (y ∷ zs) zs) ≤ length (cond b (y ∷ ws) ws)
    rest true zs ws le = omega arith
    rest false zs ws le = le

    go : (b c : Bool) → length (filter q xs) ≤ length (filter q (with_member held_before x xs)) → length (filter q (y ∷ xs)) ≤ length (filter q (elim b as (λ _. List Held) [
      | true ↦ x ∷ y ∷ xs
      | false ↦ elim c [ true ↦ y ∷ with_member held_before x xs | false ↦ y ∷ xs ]
    ]))
    go true c le = first (q x) (filter q (y ∷ xs))
    go false true le = rest (q y) (filter q xs) (filter q (with_member held_before x xs)) le
    go false false le = omega arith

or_true : (a b : Bool) → b ≡ true → (a || b) ≡ true
or_true true b f = refl
or_true false b f = f

any_grows : (r q : Held → Bool) (x : Held) (xs : List Held) → list_any r (filter q xs) ≡ true → list_any r (filter q (with_member held_before x xs)) ≡ true
unfolding with_member
any_grows r q x [] e = absurd (clash e)
any_grows r q x (y ∷ xs) e = go (held_before x y) (held_before y x) (any_grows r q x xs)
  where
    first : (b : Bool) (zs : List Held) → list_any r zs ≡ true → list_any r (cond b (x ∷ zs) zs) ≡ true
    first true zs f = or_true (r x) (list_any r zs) f
    first false zs f = f

    rest : (b : Bool) (zs ws : List Held) → list_any r (cond b (y ∷ zs) zs) ≡ true → (list_any r zs ≡ true → list_any r ws ≡ true)
        → list_any r (cond b (y ∷ ws) ws) ≡ true
    rest true zs ws f more = either (r y) (list_any r zs) (r y) (list_any r ws) (λ e. e) more f
    rest false zs ws f more = more f

    go : (b c : Bool) → (list_any r (filter q xs) ≡ true → list_any r (filter q (with_member held_before x xs)) ≡ true)
        → list_any r (filter q (elim b as (λ _. List Held) [
          | true ↦ x ∷ y ∷ xs
          | false ↦ elim c [ true ↦ y ∷ with_member held_before x xs | false ↦ y ∷ xs ]
        ])) ≡ true
    go true c more = first (q x) (filter q (y ∷ xs)) e
    go false true more = rest (q y) (filter q xs) (filter q (with_member held_before x xs)) e more
    go false false more = e

with_symbol_more : (word : Put) (at : Position) (payload : List ℕ) (s : Holding) → HoldsMore s (with_symbol word at payload s)
with_symbol_more put.Had at payload s = more_itself s
with_symbol_more put.Away at payload s = more_itself s
with_symbol_more put.Unfit at payload s = more_itself s
with_symbol_more put.Kept at payload s = record {
  point = at_itself s.point;
  plans = λ index plan known. (plan, known, plan_itself plan);
  held = λ other e. any_grows (λ (x : Held). x.at.symbol == other.symbol) (λ (x : Held). x.at.index == other.index && x.at.block == other.block)
      (record { at = at; octets = payload }) s.held e;
  few = λ index block. grows (λ (x : Held). x.at.index == index && x.at.block == block) (record { at = at; octets = payload }) s.held;
  infos = λ index e. e;
}

pub symbol_put_more : (p : Settings) (at : Position) (payload : List ℕ) (s : Holding) → HoldsMore s (put_symbol p at payload s)
symbol_put_more p at payload s = with_symbol_more (put_of p s at payload) at payload s

-- ---- an info more

-- the info of an object among infos
abbrev found_in : ℕ → List HeldInfo → Option HeldInfo
found_in index infos = find (λ (x : HeldInfo). x.index == index) infos

abbrev told_by : Option HeldInfo → Bool
told_by found = is_some (elim found as (λ _. Option (List ℕ)) [ Some x ↦ Some x.info | None ↦ None ])

info_grows : (index : ℕ) (x : HeldInfo) (xs : List HeldInfo) → told_by (found_in index xs) ≡ true → told_by (found_in index (with_member info_before x xs)) ≡ true
unfolding with_member
info_grows index x [] e = absurd (clash e)
info_grows index x (y ∷ xs) e = go (info_before x y) (info_before y x) (info_grows index x xs)
  where
    first : (b : Bool) → told_by (cond b (Some x) (found_in index (y ∷ xs))) ≡ true
    first true = refl
    first false = e

    rest : (b : Bool) → told_by (cond b (Some y) (found_in index xs)) ≡ true
        → (told_by (found_in index xs) ≡ true → told_by (found_in index (with_member info_before x xs)) ≡ true)
        → told_by (cond b (Some y) (found_in index (with_member info_before x xs))) ≡ true
    rest true f more = refl
    rest false f more = more f

    go : (b c : Bool) → (told_by (found_in index xs) ≡ true → told_by (found_in index (with_member info_before x xs)) ≡ true)
        → told_by (found_in index (elim b as (λ _. List HeldInfo) [
          | true ↦ x ∷ y ∷ xs
          | false ↦ elim c [ true ↦ y ∷ with_member info_before x xs | false ↦ y ∷ xs ]
        ])) ≡ true
    go true c more = first (x.index == index)
    go false true more = rest (y.index == index) e more
    go false false more = e

with_info_more : (word : Put) (index : ℕ) (info : List ℕ) (s : Holding) → HoldsMore s (with_info word index info s)
with_info_more put.Had index info s = more_itself s
with_info_more put.Away index info s = more_itself s
with_info_more put.Unfit index info s = more_itself s
with_info_more put.Kept index info s = record {
  point = at_itself s.point;
  plans = λ other plan known. (plan, known, plan_itself plan);
  held = λ at e. e;
  few = λ other block. (let z : length (held_of s other block) ≤ length (held_of s other block) = omega arith in z);
  infos = λ other e. info_grows other (record { index = index; info = info }) s.infos e;
}

pub info_put_more : (p : Settings) (index : ℕ) (info : List ℕ) (s : Holding) → HoldsMore s (put_info p index info s)
info_put_more p index info s = with_info_more (put_info_of p s index info) index info s
