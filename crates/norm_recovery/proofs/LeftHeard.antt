-- A symbol or an info that a receiver has is had as the window counts it: where a block is done, it holds as many encoded symbols as the block has source symbols.
use Rattle.std.proofs.Common.{◌≡◌, ℕ, zero, suc, ◌+◌, ◌-◌, ◌<◌, ◌≤◌, inl, inr, cond, List, [], ◌∷◌, map, filter, length, Bool, true, false, Option, Some, refl, sym, ap, ◌∙◌, subst, arith}
use Rattle.std.specs.Prelude.{◌==◌, ◌||◌, nat_lt, nat_le, is_some, slice_get, option_map}
use Rattle.std.specs.List.{AllByRecursion, list_any, range_with_len}
use Rattle.std.proofs.lemmas.Bool.{and_parts, eqb-true}
use Rattle.std.proofs.lemmas.Bool.Decides.{Decides-eqb, Decides-ltb, leb_tells}
use Rattle.std.proofs.lemmas.List.{length-map}
use Rattle.std.proofs.lemmas.Option.{slice_get-map}
use Rattle.norm_base.specs.Settings.{Settings}
use Rattle.fec_plan.specs.Partition.{Cut, source_symbols}
use Rattle.fec_plan.specs.Points.{Point, position, position_before}
use Rattle.fec_plan.specs.declared.position.Position.{Position}
use Rattle.fec_plan.proofs.PositionLemmas.{Before, before_decides}
use Rattle.norm_order.specs.Entries.{Object, Whole, Stream, Entry}
use Rattle.norm_order.specs.Sets.{is_member}
use Rattle.norm_order.specs.Shapes.{shape_of, symbols_of, encoded_in}
use Rattle.norm_order.specs.declared.up.Up.{Up}
use Rattle.norm_receive_rules.specs.BlockValue.{ids_of}
use Rattle.norm_receive_rules.specs.Holding.{Holding, Plan, Held}
use Rattle.norm_receive_rules.specs.Plans.{cut_of_plan, plan_of, is_over, held_of, holds, is_done, info_of}
use Rattle.norm_send_rules.specs.InWindow.{current_shapes}
use Rattle.norm_send_rules.specs.SenderState.{SenderState}
use Rattle.norm_send_rules.specs.Wants.{want_before}
use Rattle.norm_send_rules.specs.declared.want.Want.{Want}
use Rattle.norm_send_rules.specs.declared.want.Want.TheVariants.{Info, Symbol}
use Rattle.norm_safety.specs.InOrder.{is_stream_object}
use Rattle.norm_safety.proofs.BlockLemmas.{Climbing}
use Rattle.norm_safety.proofs.EntryLemmas.{clash}
use Rattle.norm_safety.proofs.HeldLemmas.{Rising, is_in, climbs}
use Rattle.norm_safety.proofs.Holding.{IsSymbolOf, HoldsOf, found_plan, some_and}
use Rattle.norm_safety.proofs.Passed.{StandsIn, StandsAt}
use Rattle.norm_safety.proofs.WorldHolds.{all_later}
use Rattle.norm_laws.proofs.HeldFits.{plan_is}
use Rattle.norm_laws.proofs.HeldLengths.{PlanIs, its_cut}
use Rattle.norm_laws.proofs.HeldWords.{HasSymbol, HasInfo}
use Rattle.norm_recovery.specs.Left.{is_there, is_complete, is_had}

pub or_left : (a b : Bool) → a ≡ true → (a || b) ≡ true
or_left true b e = refl
or_left false b e = absurd (clash e)

pub or_right : (a b : Bool) → b ≡ true → (a || b) ≡ true
or_right true b e = refl
or_right false b e = e

-- ---- counting

-- a number of a range that passes
abbrev Passes : (ℕ → Bool) → ℕ → ℕ → ℕ → Type 0
Passes test from n x = (from ≤ x) × (x < from + n) × (test x ≡ true)

pass_above : (test : ℕ → Bool) (from n x : ℕ) (ys : List ℕ) → from ≤ x → AllByRecursion (λ (y : ℕ). x < y) ys → AllByRecursion (Passes test from (suc n)) ys
    → AllByRecursion (Passes test (from + 1) n) ys
pass_above test from n x [] le up all = tt
pass_above test from n x (y ∷ ys) le up all = (
  (let lt = up.0 in omega (arith, lt, le), (let most = all.0.1 in omega (arith, most)), all.0.2),
  pass_above test from n x ys le up.1 all.1,
)

-- numbers that climb and pass are no more than pass of their range
few_pass : {X : Type 0} (f : ℕ → X) (test : X → Bool) (n from : ℕ) (xs : List ℕ) → Climbing xs → AllByRecursion (Passes (λ x. test (f x)) from n) xs
    → length xs ≤ length (filter test (map f (range_with_len from n)))
few_pass f test n from [] up all = omega arith
few_pass f test zero from (x ∷ xs) up all = absurd (let a = all.0.0 in let b = all.0.1 in omega (arith, a, b))
few_pass {X} f test (suc n) from (x ∷ xs) up all =
    go (x == from) refl (λ later. few_pass f test n (from + 1) xs up.1 later) (λ later. few_pass f test n (from + 1) (x ∷ xs) up later)
  where
    rest : List X
    rest = filter test (map f (range_with_len (from + 1) n))

    P : ℕ → Type 0
    P = Passes (λ y. test (f y)) (from + 1) n

    first : (b : Bool) → b ≡ true → length xs ≤ length rest → length (x ∷ xs) ≤ length (cond b (f from ∷ rest) rest)
    first true e le = omega (arith, le)
    first false e le = absurd (clash e)

    further : (b : Bool) → length (x ∷ xs) ≤ length rest → length (x ∷ xs) ≤ length (cond b (f from ∷ rest) rest)
    further true le = omega (arith, le)
    further false le = le

    go : (b : Bool) → (x == from) ≡ b → (AllByRecursion P xs → length xs ≤ length rest) → (AllByRecursion P (x ∷ xs) → length (x ∷ xs) ≤ length rest)
        → length (x ∷ xs) ≤ length (cond (test (f from)) (f from ∷ rest) rest)
    go true e one more =
        let same : x ≡ from = (Decides-eqb x from).0 e in
        first (test (f from)) (ap (λ (y : ℕ). test (f y)) (sym same) ∙ all.0.2)
        (one (pass_above (λ y. test (f y)) from n x xs all.0.0 up.0 all.1))
    go false e one more =
        let differ : x ≡ from → ⊥ = λ same. clash (sym e ∙ (Decides-eqb x from).1 same) in
        further (test (f from))
        (more (
          ((let le = all.0.0 in omega (arith, le, differ)), (let most = all.0.1 in omega (arith, most)), all.0.2),
          pass_above (λ y. test (f y)) from n x xs all.0.0 up.0 all.1,
        ))

-- ---- the symbols that are held of a block

-- each id is that of one of them
ids_there : (held : List Held) → AllByRecursion (λ (x : ℕ). list_any (λ (h : Held). h.at.symbol == x) held ≡ true) (ids_of held)
ids_there [] = tt
ids_there (h ∷ held) = (
  or_left (h.at.symbol == h.at.symbol) (list_any (λ (y : Held). y.at.symbol == h.at.symbol) held) ((Decides-eqb h.at.symbol h.at.symbol).1 refl),
  all_later (λ (x : ℕ). list_any (λ (y : Held). y.at.symbol == x) held ≡ true) (λ (x : ℕ). list_any (λ (y : Held). y.at.symbol == x) (h ∷ held) ≡ true) (ids_of held)
      (λ x e. or_right (h.at.symbol == x) (list_any (λ (y : Held). y.at.symbol == x) held) e) (ids_there held),
)

-- each is an encoded symbol of the block
ids_low : (p : Settings) (order : List Entry) (index block : ℕ) (x : Entry) → slice_get order index ≡ Some x → (held : List Held)
    → AllByRecursion (IsSymbolOf p order) held
    → AllByRecursion (λ (id : ℕ). nat_lt id (encoded_in (shape_of p x.object) block) ≡ true) (ids_of (filter (is_in index block) held))
ids_low p order index block x found [] all = tt
ids_low p order index block x found (h ∷ held) all = go (is_in index block h) refl (ids_low p order index block x found held all.1)
  where
    E : List ℕ → Type 0
    E ids = AllByRecursion (λ (id : ℕ). nat_lt id (encoded_in (shape_of p x.object) block) ≡ true) ids

    same : (a b : Entry) → Some a ≡ Some b → a ≡ b
    same a b e = cc

    go : (b : Bool) → is_in index block h ≡ b → E (ids_of (filter (is_in index block) held))
        → E (ids_of (cond b (h ∷ filter (is_in index block) held) (filter (is_in index block) held)))
    go false e rest = rest
    go true e rest =
        let parts = and_parts (h.at.index == index) (h.at.block == block) e in
        let entry = some_and _ (slice_get order h.at.index) all.0 in
        let is_x : entry.0 ≡ x = same entry.0 x (sym entry.1 ∙ ap (slice_get order) (eqb-true h.at.index index parts.0) ∙ found) in
        let L : Entry → Type 0 = λ y. nat_lt h.at.symbol (encoded_in (shape_of p y.object) h.at.block) ≡ true in
        let low : nat_lt h.at.symbol (encoded_in (shape_of p x.object) h.at.block) ≡ true = subst L is_x entry.2.0 in
        (subst (λ (n : ℕ). nat_lt h.at.symbol (encoded_in (shape_of p x.object) n) ≡ true) (eqb-true h.at.block block parts.1) low, rest)

-- an id that is low is one of the range, and its symbol is there
ids_pass : (wants : List Want) (h : Holding) (index block n : ℕ) (ids : List ℕ) → AllByRecursion (λ (id : ℕ). nat_lt id n ≡ true) ids
    → AllByRecursion (λ (id : ℕ). holds h (position index block id) ≡ true) ids
    → AllByRecursion (Passes (λ id. is_there wants h (position index block id)) 0 n) ids
ids_pass wants h index block n [] low there = tt
ids_pass wants h index block n (id ∷ ids) low there = (
  (
    omega arith,
    (let lt = (Decides-ltb id n).0 low.0 in omega (arith, lt)),
    or_left (holds h (position index block id)) (is_member want_before (Symbol (position index block id)) wants) there.0,
  ),
  ids_pass wants h index block n ids low.1 there.1,
)

-- as many encoded symbols are there as are held of the block
held_counts : (wants : List Want) (p : Settings) (order : List Entry) (h : Holding) (index block : ℕ) (x : Entry) → slice_get order index ≡ Some x
    → AllByRecursion (IsSymbolOf p order) h.held → Rising h.held
    → length (held_of h index block) ≤ length (filter (is_there wants h) (symbols_of index (encoded_in (shape_of p x.object) block) block))
held_counts wants p order h index block x found symbols up =
    let ids : List ℕ = ids_of (filter (is_in index block) h.held) in
    let n : ℕ = encoded_in (shape_of p x.object) block in
    let long : length ids ≡ length (held_of h index block) = length-map (filter (is_in index block) h.held) (λ (y : Held). y.at.symbol) in
    let few : length ids ≤ length (filter (is_there wants h) (symbols_of index n block)) =
    few_pass (λ id. position index block id) (is_there wants h) n 0 ids (climbs index block h.held up)
    (ids_pass wants h index block n ids (ids_low p order index block x found h.held symbols) (ids_there (filter (is_in index block) h.held))) in
    omega (arith, long, few)

-- a block that is done is complete
pub complete_where_done : (wants : List Want) (p : Settings) (order : List Entry) (h : Holding) (plan : Plan) (block : ℕ) (x : Entry)
    → slice_get order plan.index ≡ Some x → PlanIs p x.object plan.fti plan.flags → AllByRecursion (IsSymbolOf p order) h.held → Rising h.held
    → is_done h plan block ≡ true → is_complete wants h plan.index block (Some (shape_of p x.object)) ≡ true
complete_where_done wants p order h plan block x found is symbols up done =
    let k : ℕ = source_symbols (shape_of p x.object).cut block in
    let cut : source_symbols (cut_of_plan plan) block ≡ k = ap (λ (c : Cut). source_symbols c block) (its_cut p x.object plan.fti plan.flags is) in
    let none = (Decides-eqb (source_symbols (cut_of_plan plan) block - length (held_of h plan.index block)) 0).0 done in
    let few = held_counts wants p order h plan.index block x found symbols up in
    let count : ℕ = length (filter (is_there wants h) (symbols_of plan.index (encoded_in (shape_of p x.object) block) block)) in
    enough k count (omega (arith, cut, none, few))
  where
    enough : (m n : ℕ) → m ≤ n → nat_le m n ≡ true
    enough m n le = grind (arith, leb_tells m n)

-- ---- what is had

-- of an object that is no stream, what is behind the hand-up point is over
pub over_where_behind : (p : Settings) (order : List Entry) (h : Holding) (at : Position) (x : Entry) → slice_get order at.index ≡ Some x
    → is_stream_object x.object ≡ false → StandsAt p (slice_get order h.point.index) h.point.block h.point.symbol → position_before at h.point ≡ true
    → is_over h at.index ≡ true
over_where_behind p order h at x found whole stands before = (Decides-ltb at.index h.point.index).1 (go ((before_decides at h.point).0 before))
  where
    begins : (o : Object) → is_stream_object o ≡ false → StandsIn p o h.point.block h.point.symbol → (h.point.block ≡ 0) × (h.point.symbol ≡ 0)
    begins (Whole kind info octets) e is = is
    begins (Stream parts) e is = absurd (clash (sym e))

    here : at.index ≡ h.point.index → (h.point.block ≡ 0) × (h.point.symbol ≡ 0)
    here same =
        let S : Option Entry → Type 0 = λ o. StandsAt p o h.point.block h.point.symbol in
        begins x.object whole (subst S (ap (slice_get order) (sym same) ∙ found) stands)

    go : Before at h.point → at.index < h.point.index
    go (inl (inl lt)) = lt
    go (inl (inr (same, lt))) = absurd (let zero_block = (here same).0 in omega (arith, lt, zero_block))
    go (inr ((same, block), lt)) = absurd (let zero_symbol = (here same).1 in omega (arith, lt, zero_symbol))

-- a symbol of an object that is no stream
pub symbol_had : (wants : List Want) (p : Settings) (s : SenderState) (d : Point) (taken : List Up) (due : Option Position) (h : Holding) (at : Position) (x : Entry)
    → HoldsOf p s.current.order d taken due h → slice_get s.current.order at.index ≡ Some x → is_stream_object x.object ≡ false → HasSymbol h at
    → is_had wants p s h (Symbol at) ≡ true
symbol_had wants p s d taken due h at x of found whole has = go has
  where
    there : Bool
    there = is_there wants h at

    complete : Bool
    complete = is_complete wants h at.index at.block (slice_get (current_shapes p s) at.index)

    shape : slice_get (current_shapes p s) at.index ≡ Some (shape_of p x.object)
    shape = slice_get-map (λ (e : Entry). shape_of p e.object) s.current.order at.index ∙ ap (option_map (λ (e : Entry). shape_of p e.object)) found

    by_plan : (plan : Plan) → plan_of h at.index ≡ Some plan → (b : Bool) → holds h at ≡ b → (b || is_done h plan at.block) ≡ true
        → ((is_over h at.index || there) || complete) ≡ true
    by_plan plan known true held e =
        or_left (is_over h at.index || there) complete
        (or_right (is_over h at.index) there (or_left (holds h at) (is_member want_before (Symbol at) wants) held))
    by_plan plan known false held e =
        let one = found_plan _ h.plans at.index plan of.plans known in
        let is_x : slice_get s.current.order plan.index ≡ Some x = ap (slice_get s.current.order) one.1 ∙ found in
        let done = complete_where_done wants p s.current.order h plan at.block x is_x (plan_is p s.current.order x plan one.0 is_x) of.symbols of.rising e in
        or_right (is_over h at.index || there) complete
        (ap (is_complete wants h at.index at.block) shape ∙ ap (λ (i : ℕ). is_complete wants h i at.block (Some (shape_of p x.object))) (sym one.1) ∙ done)

    go : HasSymbol h at → ((is_over h at.index || there) || complete) ≡ true
    go (inl before) =
        or_left (is_over h at.index || there) complete
        (or_left (is_over h at.index) there (over_where_behind p s.current.order h at x found whole of.gone.stands before))
    go (inr (plan, known, e)) = by_plan plan known (holds h at) refl e

-- an info
pub info_had : (wants : List Want) (p : Settings) (s : SenderState) (h : Holding) (index : ℕ) → HasInfo h index → is_had wants p s h (Info index) ≡ true
info_had wants p s h index (inl over) =
    or_left (is_over h index || is_some (info_of h index)) (is_member want_before (Info index) wants) (or_left (is_over h index) (is_some (info_of h index)) over)
info_had wants p s h index (inr has) =
    or_left (is_over h index || is_some (info_of h index)) (is_member want_before (Info index) wants) (or_right (is_over h index) (is_some (info_of h index)) has)
