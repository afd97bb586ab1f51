-- Of a stream each block before the hand-up point's is done.
use Rattle.std.proofs.Common.{◌≡◌, ℕ, zero, suc, cond, ◌-◌, ◌<◌, ◌≤◌, ◌⊎◌, inl, inr, List, [], ◌∷◌, map, length, Bool, true, false, Option, None, Some, refl, sym, ap, subst, ◌∙◌, arith}
use Rattle.std.specs.Prelude.{filter, find, not, ◌==◌, ◌&&◌, ◌||◌, is_some}
use Rattle.std.specs.List.{list_any}
use Rattle.std.proofs.lemmas.Bool.Decides.{Decides-eqb}
use Rattle.norm_base.specs.Settings.{Settings}
use Rattle.fec_plan.specs.Partition.{source_symbols, coded_octets}
use Rattle.fec_plan.specs.Points.{position}
use Rattle.fec_plan.specs.declared.position.Position.{Position}
use Rattle.gf_field.specs.Power.{power}
use Rattle.gf_field.specs.Symbol.{given, solved_symbol, symbol_at}
use Rattle.norm_ext.specs.declared.fti.Fti.{Fti}
use Rattle.norm_order.specs.First.{first_where}
use Rattle.norm_order.specs.Sets.{with_member}
use Rattle.norm_receive_rules.specs.BlockValue.{ids_of, octets_of_held, block_value, held_symbol}
use Rattle.norm_receive_rules.specs.Fitting.{is_known_plan, is_away, is_unfit, fit_of, fitted, plan_before, with_plan}
use Rattle.norm_receive_rules.specs.HandingUp.{segment_length}
use Rattle.norm_receive_rules.specs.Holding.{Holding, Plan, Held, new_plan}
use Rattle.norm_receive_rules.specs.Laws.{IsAtStart, IsPassed, PassedBy, HasPassed}
use Rattle.norm_receive_rules.specs.NothingMissing.{IsThere}
use Rattle.norm_receive_rules.specs.Plans.{cut_of_plan, says_stream, plan_of, is_over, held_of, holds, is_done}
use Rattle.norm_receive_rules.specs.StreamNeeds.{is_end}
use Rattle.norm_receive_rules.specs.Putting.{is_far, is_misfit, put_by, put_of, with_symbol, with_info, held_before}
use Rattle.norm_receive_rules.specs.declared.words.Fit.{Fit}
use Rattle.norm_receive_rules.specs.declared.words.Fit.TheVariants as fit
use Rattle.norm_receive_rules.specs.declared.words.Put.{Put}
use Rattle.norm_receive_rules.specs.declared.words.Put.TheVariants as put
use Rattle.norm_receive_rules.proofs.HandUpLemmas.{index_of_found}

pub clash : false ≡ true → ⊥
clash e = cc

-- ---- as many symbols as there are different ids

pub filter_few : {X : Type 0} (q : X → Bool) (xs : List X) → length (filter q xs) ≤ length xs
filter_few q [] = omega arith
filter_few q (x ∷ xs) = go (q x) (filter_few q xs)
  where
    go : (b : Bool) → length (filter q xs) ≤ length xs → length (cond b (x ∷ filter q xs) (filter q xs)) ≤ length (x ∷ xs)
    go true le = omega arith
    go false le = omega arith

-- without the ones of an id, of which there is one, a list is shorter
fewer : (id : ℕ) (xs : List Held) → list_any (λ (h : Held). h.at.symbol == id) xs ≡ true
    → length (filter (λ (h : Held). not (h.at.symbol == id)) xs) < length xs
fewer id [] e = absurd (clash e)
fewer id (x ∷ xs) e = go (x.at.symbol == id) e (fewer id xs) (filter_few (λ (h : Held). not (h.at.symbol == id)) xs)
  where
    go : (b : Bool) → (b || list_any (λ (h : Held). h.at.symbol == id) xs) ≡ true
        → (list_any (λ (h : Held). h.at.symbol == id) xs ≡ true → length (filter (λ (h : Held). not (h.at.symbol == id)) xs) < length xs)
        → length (filter (λ (h : Held). not (h.at.symbol == id)) xs) ≤ length xs
        → length (cond (not b) (x ∷ filter (λ (h : Held). not (h.at.symbol == id)) xs) (filter (λ (h : Held). not (h.at.symbol == id)) xs)) < length (x ∷ xs)
    go true f more le = omega arith
    go false f more le = (let lt = more f in omega arith)

-- what has another id is still there
others : (id other : ℕ) → other < id → (xs : List Held) → list_any (λ (h : Held). h.at.symbol == other) xs ≡ true
    → list_any (λ (h : Held). h.at.symbol == other) (filter (λ (h : Held). not (h.at.symbol == id)) xs) ≡ true
others id other lt [] e = e
others id other lt (x ∷ xs) e = go (x.at.symbol == other) (x.at.symbol == id) refl refl e (others id other lt xs)
  where
    rest : List Held
    rest = filter (λ (h : Held). not (h.at.symbol == id)) xs

    go : (b c : Bool) → (x.at.symbol == other) ≡ b → (x.at.symbol == id) ≡ c → (b || list_any (λ (h : Held). h.at.symbol == other) xs) ≡ true
        → (list_any (λ (h : Held). h.at.symbol == other) xs ≡ true → list_any (λ (h : Held). h.at.symbol == other) rest ≡ true)
        → list_any (λ (h : Held). h.at.symbol == other) (cond (not c) (x ∷ rest) rest) ≡ true
    go true true e f g more =
        absurd (let a = (Decides-eqb x.at.symbol other).0 e in let b = (Decides-eqb x.at.symbol id).0 f in omega (arith, lt))
    go true false e f g more = ap (λ b. b || list_any (λ (h : Held). h.at.symbol == other) rest) e
    go false true e f g more = more g
    go false false e f g more = ap (λ b. b || list_any (λ (h : Held). h.at.symbol == other) rest) e ∙ more g

pub many_ids : (n : ℕ) (xs : List Held) → ((id : ℕ) → id < n → list_any (λ (h : Held). h.at.symbol == id) xs ≡ true) → n ≤ length xs
many_ids zero xs each = omega arith
many_ids (suc n) xs each =
    let lt = fewer n xs (each n (omega arith)) in
    let le = many_ids n (filter (λ (h : Held). not (h.at.symbol == n)) xs) (λ id less. others n id less xs (each id (omega arith))) in
    omega (arith, lt, le)

-- ---- what holds of another state that holds as much

starts : (p : Settings) (s : Holding) (found : Option Plan) → IsAtStart s → PassedBy p s found
starts p s None h = h
starts p s (Some plan) h = go (says_stream plan.flags)
  where
    go : (b : Bool) → elim b as (λ _. Type 0) [ true ↦ IsPassed p s plan | false ↦ IsAtStart s ]
    go true = record {
      done = λ block lt. absurd (let z = h.block in omega arith);
      there = λ symbol lt. absurd (let z = h.symbol in omega arith);
      no_end = λ symbol lt. absurd (let z = h.symbol in omega arith);
    }
    go false = h

pub starts_here : (p : Settings) (s : Holding) → IsAtStart s → HasPassed p s
starts_here p s h = starts p s (plan_of s s.point.index) h

-- ---- what a source symbol is keeps, once it is there

-- what a symbol of a block is, by what is held of the block
abbrev value_by : Plan → ℕ → ℕ → List Held → Option (List ℕ)
value_by plan block symbol held = elim (source_symbols (cut_of_plan plan) block - length held == 0) [
  | true ↦ Some (solved_symbol (coded_octets (cut_of_plan plan)) (ids_of held) (octets_of_held held) symbol)
  | false ↦ elim (says_stream plan.flags) [ true ↦ held_symbol held symbol | false ↦ None ]
]

given_found : (held : List Held) (symbol : ℕ) → given (ids_of held) (octets_of_held held) symbol ≡ held_symbol held symbol
unfolding given
given_found [] symbol = refl
given_found (x ∷ held) symbol = go (x.at.symbol == symbol) (given_found held symbol)
  where
    rest : Option (List ℕ)
    rest = given (ids_of held) (octets_of_held held) symbol

    octets_in : Option Held → Option (List ℕ)
    octets_in found = elim found [ Some h ↦ Some h.octets | None ↦ None ]

    go : (b : Bool) → rest ≡ held_symbol held symbol
        → elim b as (λ _. Option (List ℕ)) [ true ↦ Some x.octets | false ↦ rest ]
        ≡ octets_in (cond b (Some x) (find (λ (h : Held). h.at.symbol == symbol) held))
    go true e = refl
    go false e = e

-- a symbol of a stream that is held is what is held
held_value : (plan : Plan) (block symbol : ℕ) (held : List Held) (octets : List ℕ) → says_stream plan.flags ≡ true
    → held_symbol held symbol ≡ Some octets → value_by plan block symbol held ≡ Some octets
unfolding solved_symbol
held_value plan block symbol held octets stream e = go (source_symbols (cut_of_plan plan) block - length held == 0)
  where
    size : ℕ
    size = coded_octets (cut_of_plan plan)

    solved : Option (List ℕ) → List ℕ
    solved found = elim found [ Some s ↦ s | None ↦ symbol_at size (map power (ids_of held)) (octets_of_held held) (power symbol) ]

    opened : solved_symbol size (ids_of held) (octets_of_held held) symbol ≡ solved (given (ids_of held) (octets_of_held held) symbol)
    opened = refl

    by_kind : Bool → Option (List ℕ)
    by_kind b = elim b as (λ _. Option (List ℕ)) [ true ↦ held_symbol held symbol | false ↦ None ]

    go : (b : Bool) → elim b as (λ _. Option (List ℕ)) [
      | true ↦ Some (solved_symbol size (ids_of held) (octets_of_held held) symbol)
      | false ↦ by_kind (says_stream plan.flags)
    ] ≡ Some octets
    go true = ap (λ (o : List ℕ). Some o) (opened ∙ ap solved (given_found held symbol ∙ e))
    go false = ap by_kind stream ∙ e

pub found_any : (symbol : ℕ) (octets : List ℕ) (xs : List Held) → held_symbol xs symbol ≡ Some octets → list_any (λ (h : Held). h.at.symbol == symbol) xs ≡ true
found_any symbol octets [] e = absurd (none e)
  where
    none : None ≡ Some octets → ⊥
    none h = cc
found_any symbol octets (x ∷ xs) e = go (x.at.symbol == symbol) e (found_any symbol octets xs)
  where
    go : (b : Bool) → elim (cond b (Some x) (find (λ (h : Held). h.at.symbol == symbol) xs)) as (λ _. Option (List ℕ)) [ Some h ↦ Some h.octets | None ↦ None ] ≡ Some octets
        → (held_symbol xs symbol ≡ Some octets → list_any (λ (h : Held). h.at.symbol == symbol) xs ≡ true)
        → (b || list_any (λ (h : Held). h.at.symbol == symbol) xs) ≡ true
    go true f more = refl
    go false f more = more f

any_found : (symbol : ℕ) (xs : List Held) → list_any (λ (h : Held). h.at.symbol == symbol) xs ≡ true
    → (octets : List ℕ) × (held_symbol xs symbol ≡ Some octets)
any_found symbol [] e = absurd (clash e)
any_found symbol (x ∷ xs) e = go (x.at.symbol == symbol) e (any_found symbol xs)
  where
    octets_in : Option Held → Option (List ℕ)
    octets_in found = elim found [ Some h ↦ Some h.octets | None ↦ None ]

    go : (b : Bool) → (b || list_any (λ (h : Held). h.at.symbol == symbol) xs) ≡ true
        → (list_any (λ (h : Held). h.at.symbol == symbol) xs ≡ true → (octets : List ℕ) × (held_symbol xs symbol ≡ Some octets))
        → (octets : List ℕ) × (octets_in (cond b (Some x) (find (λ (h : Held). h.at.symbol == symbol) xs)) ≡ Some octets)
    go true f more = (x.octets, refl)
    go false f more = more f

-- a symbol of a stream that is there has a value
pub there_value : (s : Holding) (plan : Plan) (block symbol : ℕ) → says_stream plan.flags ≡ true → IsThere s plan (position plan.index block symbol)
    → (octets : List ℕ) × (block_value s plan block symbol ≡ Some octets)
there_value s plan block symbol stream (inl done) =
    let held = held_of s plan.index block in
    let solved : List ℕ = solved_symbol (coded_octets (cut_of_plan plan)) (ids_of held) (octets_of_held held) symbol in
    let other : Option (List ℕ) = elim (says_stream plan.flags) [ true ↦ held_symbol held symbol | false ↦ None ] in
    (solved, ap (λ (b : Bool). elim b as (λ _. Option (List ℕ)) [ true ↦ Some solved | false ↦ other ]) done)
there_value s plan block symbol stream (inr is) =
    let held = held_of s plan.index block in
    let found = any_found symbol held is in
    (found.0, held_value plan block symbol held found.0 stream found.1)

-- a source symbol of the hand-up point's block that has a value has it there too
abbrev KeepsValues : Holding → Holding → Plan → Type 0
KeepsValues s t plan = (symbol : ℕ) (octets : List ℕ) → block_value s plan s.point.block symbol ≡ Some octets
    → block_value t plan s.point.block symbol ≡ Some octets

-- what the other has is done and held here too
pub record HasAll (s t : Holding) : Type 0 where
  pub point : t.point ≡ s.point
  pub done : (plan : Plan) (block : ℕ) → is_done s plan block ≡ true → is_done t plan block ≡ true
  pub held : (at : Position) → holds s at ≡ true → holds t at ≡ true

start_still : (s t : Holding) → HasAll s t → IsAtStart s → IsAtStart t
start_still s t all h = record {
  block = ap (λ (at : Position). at.block) all.point ∙ h.block;
  symbol = ap (λ (at : Position). at.symbol) all.point ∙ h.symbol;
}

pub more_passed : (p : Settings) (s t : Holding) (found : Option Plan) → HasAll s t
    → ((plan : Plan) → found ≡ Some plan → says_stream plan.flags ≡ true → KeepsValues s t plan) → PassedBy p s found → PassedBy p t found
more_passed p s t None all keeps h = start_still s t all h
more_passed p s t (Some plan) all keeps h = go (says_stream plan.flags) refl h
  where
    segment_ends : Option (List ℕ) → Bool
    segment_ends found = elim found [ Some octets ↦ segment_length p octets == 0 | None ↦ false ]

    no_end_still : says_stream plan.flags ≡ true → (symbol : ℕ) → IsThere s plan (position plan.index s.point.block symbol)
        → is_end p s plan (position plan.index s.point.block symbol) ≡ false → is_end p t plan (position plan.index s.point.block symbol) ≡ false
    no_end_still stream symbol is e =
        let value = there_value s plan s.point.block symbol stream is in
        ap segment_ends (keeps plan refl stream symbol value.0 value.1 ∙ sym value.1) ∙ e

    still : (at : Position) → IsThere s plan at → IsThere t plan at
    still at (inl done) = inl (all.done plan at.block done)
    still at (inr held) = inr (all.held at held)

    go : (b : Bool) → says_stream plan.flags ≡ b
        → elim b as (λ _. Type 0) [ true ↦ IsPassed p s plan | false ↦ IsAtStart s ]
        → elim b as (λ _. Type 0) [ true ↦ IsPassed p t plan | false ↦ IsAtStart t ]
    go true stream h = record {
      done = λ block lt. all.done plan block (h.done block (let same = ap (λ (at : Position). at.block) all.point in omega arith));
      there = λ symbol lt. (
          let S : ℕ → Type 0 = λ block. IsThere t plan (position plan.index block symbol) in
          subst S (sym (ap (λ (at : Position). at.block) all.point))
          (still (position plan.index s.point.block symbol) (h.there symbol (let same = ap (λ (at : Position). at.symbol) all.point in omega arith)))
          );
      no_end = λ symbol lt. (
          let E : ℕ → Type 0 = λ block. is_end p t plan (position plan.index block symbol) ≡ false in
          let within : symbol < s.point.symbol = let same = ap (λ (at : Position). at.symbol) all.point in omega arith in
          subst E (sym (ap (λ (at : Position). at.block) all.point)) (no_end_still stream symbol (h.there symbol within) (h.no_end symbol within))
          );
    }
    go false stream h = start_still s t all h

-- ---- a symbol more

grows : (q : Held → Bool) (x : Held) (xs : List Held) → length (filter q xs) ≤ length (filter q (with_member held_before x xs))
unfolding with_member
grows q x [] = omega arith
grows q x (y ∷ xs) = go (held_before x y) (held_before y x) (grows q x xs)
  where
    first : (b : Bool) (zs : List Held) → length zs ≤ length (cond b (x ∷ zs) zs)
    first true zs = omega arith
    first false zs = omega arith

    behind : (b : Bool) (zs ws : List Held) → length zs ≤ length ws → length (cond b (y ∷ zs) zs) ≤ length (cond b (y ∷ ws) ws)
    behind true zs ws le = omega arith
    behind false zs ws le = le

    go : (b c : Bool) → length (filter q xs) ≤ length (filter q (with_member held_before x xs)) → length (filter q (y ∷ xs)) ≤ length (filter q (elim b as (λ _. List Held) [
      | true ↦ x ∷ y ∷ xs
      | false ↦ elim c [ true ↦ y ∷ with_member held_before x xs | false ↦ y ∷ xs ]
    ]))
    go true c le = first (q x) (filter q (y ∷ xs))
    go false true le = behind (q y) (filter q xs) (filter q (with_member held_before x xs)) le
    go false false le = omega arith

any_grows : (r q : Held → Bool) (x : Held) (xs : List Held) → list_any r (filter q xs) ≡ true → list_any r (filter q (with_member held_before x xs)) ≡ true
unfolding with_member
any_grows r q x [] e = absurd (clash e)
any_grows r q x (y ∷ xs) e = go (held_before x y) (held_before y x) (any_grows r q x xs)
  where
    or_true : (a b : Bool) → b ≡ true → (a || b) ≡ true
    or_true true b f = refl
    or_true false b f = f

    first : (b : Bool) (zs : List Held) → list_any r zs ≡ true → list_any r (cond b (x ∷ zs) zs) ≡ true
    first true zs f = or_true (r x) (list_any r zs) f
    first false zs f = f

    either : (a b c : Bool) → (a || b) ≡ true → (b ≡ true → c ≡ true) → (a || c) ≡ true
    either true b c f more = refl
    either false b c f more = more f

    behind : (b : Bool) (zs ws : List Held) → list_any r (cond b (y ∷ zs) zs) ≡ true → (list_any r zs ≡ true → list_any r ws ≡ true)
        → list_any r (cond b (y ∷ ws) ws) ≡ true
    behind true zs ws f more = either (r y) (list_any r zs) (list_any r ws) f more
    behind false zs ws f more = more f

    go : (b c : Bool) → (list_any r (filter q xs) ≡ true → list_any r (filter q (with_member held_before x xs)) ≡ true)
        → list_any r (filter q (elim b as (λ _. List Held) [
          | true ↦ x ∷ y ∷ xs
          | false ↦ elim c [ true ↦ y ∷ with_member held_before x xs | false ↦ y ∷ xs ]
        ])) ≡ true
    go true c more = first (q x) (filter q (y ∷ xs)) e
    go false true more = behind (q y) (filter q xs) (filter q (with_member held_before x xs)) e more
    go false false more = e

none_lacking : (k m n : ℕ) → m ≤ n → (k - m == 0) ≡ true → (k - n == 0) ≡ true
none_lacking k m n le e = (Decides-eqb (k - n) 0).1 (let z = (Decides-eqb (k - m) 0).0 e in omega arith)

-- what an element that a test refuses joins is the same under the test
not_among : (q : Held → Bool) (x : Held) → q x ≡ false → (xs : List Held) → filter q (with_member held_before x xs) ≡ filter q xs
unfolding with_member
not_among q x out [] = ap (λ b. cond b (x ∷ []) []) out
not_among q x out (y ∷ xs) = go (held_before x y) (held_before y x) (not_among q x out xs)
  where
    go : (b c : Bool) → filter q (with_member held_before x xs) ≡ filter q xs → filter q (elim b as (λ _. List Held) [
      | true ↦ x ∷ y ∷ xs
      | false ↦ elim c [ true ↦ y ∷ with_member held_before x xs | false ↦ y ∷ xs ]
    ]) ≡ filter q (y ∷ xs)
    go true c e = ap (λ b. cond b (x ∷ filter q (y ∷ xs)) (filter q (y ∷ xs))) out
    go false true e = ap (λ (zs : List Held). cond (q y) (y ∷ zs) zs) e
    go false false e = refl

-- and where it is among them but no symbol of this id, the first of that id is the same
first_still : (symbol : ℕ) (q : Held → Bool) (x : Held) → (q x ≡ true → (x.at.symbol == symbol) ≡ false) → (xs : List Held)
    → held_symbol (filter q (with_member held_before x xs)) symbol ≡ held_symbol (filter q xs) symbol
unfolding with_member
first_still symbol q x other xs = ap octets_in (found xs)
  where
    octets_in : Option Held → Option (List ℕ)
    octets_in o = elim o [ Some h ↦ Some h.octets | None ↦ None ]

    first : List Held → Option Held
    first ys = find (λ (h : Held). h.at.symbol == symbol) ys

    joined : (b : Bool) → q x ≡ b → (ys : List Held) → first (cond b (x ∷ ys) ys) ≡ first ys
    joined true e ys = ap (λ c. cond c (Some x) (first ys)) (other e)
    joined false e ys = refl

    behind : (b : Bool) (y : Held) (ys zs : List Held) → first ys ≡ first zs → first (cond b (y ∷ ys) ys) ≡ first (cond b (y ∷ zs) zs)
    behind true y ys zs e = ap (λ (o : Option Held). cond (y.at.symbol == symbol) (Some y) o) e
    behind false y ys zs e = e

    found : (xs : List Held) → first (filter q (with_member held_before x xs)) ≡ first (filter q xs)
    found [] = joined (q x) refl []
    found (y ∷ xs) = go (held_before x y) (held_before y x) (found xs)
      where
        go : (b c : Bool) → first (filter q (with_member held_before x xs)) ≡ first (filter q xs) → first (filter q (elim b as (λ _. List Held) [
          | true ↦ x ∷ y ∷ xs
          | false ↦ elim c [ true ↦ y ∷ with_member held_before x xs | false ↦ y ∷ xs ]
        ])) ≡ first (filter q (y ∷ xs))
        go true c e = joined (q x) refl (filter q (y ∷ xs))
        go false true e = behind (q y) y (filter q (with_member held_before x xs)) (filter q xs) e
        go false false e = refl

pub or_false : (a b : Bool) → (a || b) ≡ false → (a ≡ false) × (b ≡ false)
or_false true b h = absurd (clash (sym h))
or_false false b h = (refl, h)

pub both_true : (a b : Bool) → (a && b) ≡ true → (a ≡ true) × (b ≡ true)
both_true true b e = (refl, e)
both_true false b e = absurd (clash e)

-- the word of a symbol by the three tests
abbrev put_word : Bool → Bool → Bool → Put
put_word a b c = elim (first_where ((a, put.Had) ∷ (b, put.Away) ∷ (c, put.Unfit) ∷ [])) [ Some word ↦ word | None ↦ put.Kept ]

not_had : (a b c : Bool) → put_word a b c ≡ put.Kept → a ≡ false
unfolding first_where
not_had true b c h = absurd (cc)
not_had false b c h = refl

-- of a symbol that is kept its object has a plan, it is not held, and its block is not done
pub record IsNew (s : Holding) (at : Position) (plan : Plan) : Type 0 where
  pub planned : plan_of s at.index ≡ Some plan
  pub held : holds s at ≡ false
  pub done : is_done s plan at.block ≡ false

pub kept_new : (p : Settings) (s : Holding) (at : Position) (payload : List ℕ) → put_of p s at payload ≡ put.Kept → (plan : Plan) × IsNew s at plan
kept_new p s at payload e = go (is_over s at.index) (plan_of s at.index) refl e
  where
    go : (b : Bool) (found : Option Plan) → plan_of s at.index ≡ found → elim b as (λ _. Put) [
      | true ↦ put.Had
      | false ↦ elim found [ Some plan ↦ put_by p s plan at payload | None ↦ put.Away ]
    ] ≡ put.Kept → (plan : Plan) × IsNew s at plan
    go true found is f = absurd (cc)
    go false None is f = absurd (cc)
    go false (Some plan) is f =
        let tests = or_false (holds s at) (is_done s plan at.block) (not_had (holds s at || is_done s plan at.block) (is_far p s plan at.block) (is_misfit p plan at payload) f) in
        (plan, record { planned = is; held = tests.0; done = tests.1 })

same_plan : (x y : Plan) → Some x ≡ Some y → x ≡ y
same_plan x y e = cc

-- a symbol that is kept leaves the value of each source symbol that has one
keeps_values : (p : Settings) (at : Position) (payload : List ℕ) (s : Holding) → put_of p s at payload ≡ put.Kept
    → (plan : Plan) → plan_of s s.point.index ≡ Some plan → says_stream plan.flags ≡ true → KeepsValues s (with_symbol put.Kept at payload s) plan
keeps_values p at payload s kept plan found stream symbol octets e =
    go (is_done s plan s.point.block) refl e
  where
    x : Held
    x = record { at = at; octets = payload }

    q : Held → Bool
    q h = h.at.index == plan.index && h.at.block == s.point.block

    held : List Held
    held = held_of s plan.index s.point.block

    new : (other : Plan) × IsNew s at other
    new = kept_new p s at payload kept

    -- a kept symbol of this block has this plan
    own : (at.index == plan.index) ≡ true → is_done s plan at.block ≡ false
    own same =
        let here : s.point.index ≡ at.index = sym (index_of_found s.point.index s.plans plan found) ∙ sym ((Decides-eqb at.index plan.index).0 same) in
        let mine : new.0 ≡ plan = same_plan new.0 plan (sym new.1.planned ∙ sym (ap (λ n. plan_of s n) here) ∙ found) in
        let D : Plan → Type 0 = λ y. is_done s y at.block ≡ false in subst D mine new.1.done

    not_here : is_done s plan s.point.block ≡ true → (b : Bool) → q x ≡ b → q x ≡ false
    not_here done false is = is
    not_here done true is =
        let parts = both_true (at.index == plan.index) (at.block == s.point.block) is in
        let D : ℕ → Type 0 = λ n. is_done s plan n ≡ false in
        absurd (clash (sym (subst D ((Decides-eqb at.block s.point.block).0 parts.1) (own parts.0)) ∙ done))

    other_id : held_symbol held symbol ≡ Some octets → q x ≡ true → (b : Bool) → (at.symbol == symbol) ≡ b → (at.symbol == symbol) ≡ false
    other_id first is false not = not
    other_id first is true same =
        let parts = both_true (at.index == plan.index) (at.block == s.point.block) is in
        let H : ℕ → ℕ → ℕ → Type 0 = λ index block id. holds s (position index block id) ≡ false in
        let none : holds s (position plan.index s.point.block symbol) ≡ false =
        subst (λ id. H plan.index s.point.block id) ((Decides-eqb at.symbol symbol).0 same)
        (subst (λ block. H plan.index block at.symbol) ((Decides-eqb at.block s.point.block).0 parts.1)
        (subst (λ index. H index at.block at.symbol) ((Decides-eqb at.index plan.index).0 parts.0) new.1.held)) in
        absurd (clash (sym none ∙ found_any symbol octets held first))

    by_kind : Bool → Option (List ℕ)
    by_kind b = elim b as (λ _. Option (List ℕ)) [ true ↦ held_symbol held symbol | false ↦ None ]

    go : (b : Bool) → is_done s plan s.point.block ≡ b
        → elim b as (λ _. Option (List ℕ)) [
          | true ↦ Some (solved_symbol (coded_octets (cut_of_plan plan)) (ids_of held) (octets_of_held held) symbol)
          | false ↦ by_kind (says_stream plan.flags)
        ] ≡ Some octets
        → value_by plan s.point.block symbol (filter q (with_member held_before x s.held)) ≡ Some octets
    go true done f =
        ap (value_by plan s.point.block symbol) (not_among q x (not_here done (q x) refl) s.held) ∙ e
    go false undone f =
        let first : held_symbol held symbol ≡ Some octets = sym (ap by_kind stream) ∙ f in
        held_value plan s.point.block symbol (filter q (with_member held_before x s.held)) octets stream
        (first_still symbol q x (λ is. other_id first is (at.symbol == symbol) refl) s.held ∙ first)

pub symbol_passed : (p : Settings) (word : Put) (at : Position) (payload : List ℕ) (s : Holding) → put_of p s at payload ≡ word → HasPassed p s
    → HasPassed p (with_symbol word at payload s)
symbol_passed p put.Had at payload s e h = h
symbol_passed p put.Away at payload s e h = h
symbol_passed p put.Unfit at payload s e h = h
symbol_passed p put.Kept at payload s e h =
    let x : Held = record { at = at; octets = payload } in
    more_passed p s (with_symbol put.Kept at payload s) (plan_of s s.point.index) (record {
      point = refl;
      done = λ plan block e.
          none_lacking (source_symbols (cut_of_plan plan) block) (length (held_of s plan.index block)) _
          (grows (λ (y : Held). y.at.index == plan.index && y.at.block == block) x s.held) e;
      held = λ to e. any_grows (λ (y : Held). y.at.symbol == to.symbol) (λ (y : Held). y.at.index == to.index && y.at.block == to.block) x s.held e;
    }) (λ plan found stream. keeps_values p at payload s e plan found stream) h

-- the same symbols and the same point
pub same_held : (s t : Holding) → t.held ≡ s.held → t.point ≡ s.point → HasAll s t
same_held s t held at = record {
  point = at;
  done = λ plan block e. (let D : List Held → Type 0 = λ xs. (source_symbols (cut_of_plan plan) block
      - length (filter (λ (y : Held). y.at.index == plan.index && y.at.block == block) xs) == 0) ≡ true in subst D (sym held) e);
  held = λ to e. (let H : List Held → Type 0 = λ xs. list_any (λ (y : Held). y.at.symbol == to.symbol)
      (filter (λ (y : Held). y.at.index == to.index && y.at.block == to.block) xs) ≡ true in subst H (sym held) e);
}

pub info_passed : (p : Settings) (word : Put) (index : ℕ) (info : List ℕ) (s : Holding) → HasPassed p s → HasPassed p (with_info word index info s)
info_passed p put.Had index info s h = h
info_passed p put.Away index info s h = h
info_passed p put.Unfit index info s h = h
info_passed p put.Kept index info s h =
    more_passed p s (with_info put.Kept index info s) (plan_of s s.point.index) (same_held s (with_info put.Kept index info s) refl refl)
    (λ plan found stream symbol octets e. e) h

-- ---- a plan more

pub new_found : (index : ℕ) (x : Plan) (plans : List Plan)
    → (find (λ (y : Plan). y.index == index) (with_member plan_before x plans) ≡ find (λ (y : Plan). y.index == index) plans)
    ⊎ ((x.index == index) ≡ true)
unfolding with_member
new_found index x [] = go (x.index == index) refl
  where
    go : (b : Bool) → (x.index == index) ≡ b → (cond {A = Option Plan} b (Some x) None ≡ None) ⊎ ((x.index == index) ≡ true)
    go true e = inr e
    go false e = inl refl
new_found index x (y ∷ plans) = go (plan_before x y) (plan_before y x) (new_found index x plans)
  where
    there : List Plan → Option Plan
    there zs = find (λ (z : Plan). z.index == index) zs

    first : (b : Bool) → (x.index == index) ≡ b → (cond b (Some x) (there (y ∷ plans)) ≡ there (y ∷ plans)) ⊎ ((x.index == index) ≡ true)
    first true e = inr e
    first false e = inl refl

    go : (b c : Bool) → (there (with_member plan_before x plans) ≡ there plans) ⊎ ((x.index == index) ≡ true)
        → (there (elim b as (λ _. List Plan) [
          | true ↦ x ∷ y ∷ plans
          | false ↦ elim c [ true ↦ y ∷ with_member plan_before x plans | false ↦ y ∷ plans ]
        ]) ≡ there (y ∷ plans)) ⊎ ((x.index == index) ≡ true)
    go true c more = first (x.index == index) refl
    go false true (inl same) = inl (ap (λ (o : Option Plan). cond (y.index == index) (Some y) o) same)
    go false true (inr own) = inr own
    go false false more = inl refl

-- the word by the three tests
abbrev word_of : Bool → Bool → Bool → Fit
word_of a b c = elim (first_where ((a, fit.Known) ∷ (b, fit.Away) ∷ (c, fit.Unfit) ∷ [])) [ Some word ↦ word | None ↦ fit.Taken ]

pub unfit : (a b c : Bool) → word_of a b c ≡ fit.Taken → c ≡ false
unfolding first_where
unfit true b c h = absurd (cc)
unfit false true c h = absurd (cc)
unfit false false true h = absurd (cc)
unfit false false false h = refl

-- what is taken up had no plan
pub taken_new : (p : Settings) (s : Holding) (index : ℕ) (f : Fti) (flags : ℕ) → fit_of p s index f flags ≡ fit.Taken → plan_of s index ≡ None
taken_new p s index f flags e =
    go (plan_of s index) refl (unfit (is_over s index || is_known_plan s index f flags) (is_away p s index f flags) (is_unfit p s index f flags) e)
  where
    go : (found : Option Plan) → plan_of s index ≡ found → is_unfit p s index f flags ≡ false → plan_of s index ≡ None
    go None is h = is
    go (Some plan) is h =
        let first = or_false _ _ h in
        let known = or_false _ _ first.0 in
        absurd (clash (sym known.1 ∙ ap (λ (o : Option Plan). is_some o) is))

pub fitted_passed : (p : Settings) (word : Fit) (index : ℕ) (f : Fti) (flags : ℕ) (s : Holding) → fit_of p s index f flags ≡ word → HasPassed p s
    → HasPassed p (fitted word index f flags s)
fitted_passed p fit.Known index f flags s e h = h
fitted_passed p fit.Away index f flags s e h = h
fitted_passed p fit.Unfit index f flags s e h = h
fitted_passed p fit.Taken index f flags s e h = go (new_found s.point.index (new_plan index f flags) s.plans)
  where
    t : Holding
    t = with_plan index f flags s

    all : HasAll s t
    all = same_held s t refl refl

    go : (plan_of t s.point.index ≡ plan_of s s.point.index) ⊎ ((index == s.point.index) ≡ true) → PassedBy p t (plan_of t s.point.index)
    go (inl same) =
        let P : Option Plan → Type 0 = λ found. PassedBy p t found in
        subst P (sym same) (more_passed p s t (plan_of s s.point.index) all (λ plan found stream symbol octets v. v) h)
    go (inr here) =
        let none : plan_of s s.point.index ≡ None =
        ap (λ (n : ℕ). plan_of s n) (sym ((Decides-eqb index s.point.index).0 here)) ∙ taken_new p s index f flags e in
        let P : Option Plan → Type 0 = λ found. PassedBy p s found in
        let start : IsAtStart s = subst P none h in
        starts p t (plan_of t s.point.index) (record { block = start.block; symbol = start.symbol })
