-- The wants are no more than the infos and encoded symbols of the window, and nor is what is new.
use Rattle.std.proofs.Math.Nat.{zero-div}
use Rattle.std.proofs.Common.{◌≡◌, ℕ, zero, suc, ◌+◌, ◌*◌, ◌/◌, ◌<◌, ◌≤◌, cond, List, [], ◌∷◌, ◌++◌, length, Bool, true, false, Option, None, Some, refl, sym, ap, ◌∙◌, subst, arith, ◌⊎◌, inl, inr}
use Rattle.std.specs.Prelude.{filter, not, ◌&&◌, nat_lt, min, slice_get}
use Rattle.std.specs.List.{AllByRecursion}
use Rattle.std.proofs.lemmas.Bool.Decides.{Decides-eqb, Decides-ltb}
use Rattle.norm_base.specs.Settings.{Settings, InRange}
use Rattle.fec_plan.specs.Partition.{source_symbols, encoding_symbols}
use Rattle.fec_plan.specs.Points.{position}
use Rattle.norm_order.specs.Entries.{Entry}
use Rattle.norm_order.specs.Shapes.{Shape, shape_of, shapes_of, closed_in, encoded_in, is_full, closed_blocks, at_index}
use Rattle.norm_send_rules.specs.InWindow.{current_shapes, stands_behind}
use Rattle.norm_send_rules.specs.Laws.{Rise, AreInWindow, is_of_order, WantsHold}
use Rattle.norm_send_rules.specs.Repairable.{encoded_of, encoded_from, repairable}
use Rattle.norm_send_rules.specs.SenderState.{SenderState}
use Rattle.norm_send_rules.specs.Sending.{sent_once, new_from}
use Rattle.norm_send_rules.specs.Wants.{want_before, want_index}
use Rattle.norm_send_rules.specs.declared.want.Want.{Want}
use Rattle.norm_send_rules.specs.declared.want.Want.TheVariants.{Info, Symbol}
use Rattle.norm_send_rules.proofs.ShapeLemmas.{Blocks, blocks_of, HasParity, shape_parity}
use Rattle.norm_laws.proofs.GoneSent.{block_there}
use Rattle.norm_laws.proofs.NewOrder.{clash, all_implied, Earlier, earlier_decides, new_rises}
use Rattle.norm_laws.proofs.StreamNew.{IsNew, new_of_all, all_parts, rows_get}
use Rattle.norm_recovery.specs.RunsOut.{all_new}

-- ---- a rising list of wants that are all in another one is no longer

-- the want is one of these
abbrev In : Want → List Want → Type 0
In w [] = ⊥
In w (x ∷ xs) = (w ≡ x) ⊎ In w xs

all_at : (P : Want → Type 0) (ws : List Want) (w : Want) → AllByRecursion P ws → In w ws → P w
all_at P [] w all h = absurd h
all_at P (x ∷ ws) w all (inl e) = subst P (sym e) all.0
all_at P (x ∷ ws) w all (inr h) = all_at P ws w all.1 h

each_in : (ws : List Want) → AllByRecursion (λ w. In w ws) ws
each_in [] = tt
each_in (w ∷ ws) = (inl refl, all_implied (λ x. In x ws) (λ x. In x (w ∷ ws)) ws (λ x h. inr h) (each_in ws))

passing_in : (test : Want → Bool) (ws : List Want) (w : Want) → test w ≡ true → In w ws → In w (filter test ws)
passing_in test [] w e h = absurd h
passing_in test (x ∷ ws) w e h = go (test x) refl h (passing_in test ws w e)
  where
    go : (b : Bool) → test x ≡ b → (w ≡ x) ⊎ In w ws → (In w ws → In w (filter test ws)) → In w (cond b (x ∷ filter test ws) (filter test ws))
    go true is (inl same) rest = inl same
    go true is (inr more) rest = inr (rest more)
    go false is (inl same) rest = absurd (clash (sym is ∙ ap test (sym same) ∙ e))
    go false is (inr more) rest = rest more

-- the others, once one is taken out
record Without (w : Want) (ws : List Want) : Type 0 where
  rest : List Want
  many : length ws ≡ suc (length rest)
  others : (x : Want) → In x ws → (x ≡ w → ⊥) → In x rest

taken_out : (w : Want) (ws : List Want) → In w ws → Without w ws
taken_out w [] h = absurd h
taken_out w (y ∷ ws) (inl e) = record { rest = ws; many = refl; others = others }
  where
    others : (x : Want) → In x (y ∷ ws) → (x ≡ w → ⊥) → In x ws
    others x (inl same) other = absurd (other (same ∙ sym e))
    others x (inr h) other = h
taken_out w (y ∷ ws) (inr h) = behind_one (taken_out w ws h)
  where
    behind_one : Without w ws → Without w (y ∷ ws)
    behind_one r = record { rest = y ∷ r.rest; many = ap suc r.many; others = others }
      where
        others : (x : Want) → In x (y ∷ ws) → (x ≡ w → ⊥) → In x (y ∷ r.rest)
        others x (inl same) other = inl same
        others x (inr h) other = inr (r.others x h other)

-- no want comes before itself
not_itself : (w : Want) → want_before w w ≡ true → ⊥
not_itself w e = go w ((earlier_decides w w).0 e)
  where
    go : (w : Want) → Earlier w w → ⊥
    go (Info i) h = omega (arith, h)
    go (Symbol at) h = omega (arith, h)

no_longer : (ws xs : List Want) → Rise ws → ((w : Want) → In w ws → In w xs) → length ws ≤ length xs
no_longer [] xs rise sub = omega arith
no_longer (w ∷ ws) xs rise sub =
    let r = taken_out w xs (sub w (inl refl)) in
    let many = r.many in
    let more = no_longer ws r.rest rise.1 (λ x h. r.others x (sub x (inr h))
    (λ e. not_itself w (subst (λ (y : Want). want_before w y ≡ true) e (all_at (λ y. want_before w y ≡ true) ws x rise.0 h)))) in
    omega (arith, many, more)

-- ---- an info or encoded symbol of the order is one of those that the window is counted by

-- a block with an encoded symbol has a closed one
pub some_closed : (s : Shape) (block : ℕ) → 0 < encoded_in s block → 0 < closed_in s block
some_closed s block lt = go (is_full s block) refl lt
  where
    none : (k m b : ℕ) → k ≡ 0 → k * m / b ≡ 0
    none k m b e = ap (λ n. n * m / b) e ∙ (let z : 0 * m ≡ 0 = omega arith in ap (λ n. n / b) z) ∙ zero-div b

    full : closed_in s block ≡ source_symbols s.cut block → (n : ℕ) → closed_in s block ≡ n → 0 < encoding_symbols s.cut block → 0 < n
    full same zero e less = let no = none (source_symbols s.cut block) s.cut.max_n s.cut.b (sym same ∙ e) in absurd (omega (arith, less, no))
    full same (suc n) e less = omega arith

    go : (b : Bool) → is_full s block ≡ b → 0 < elim b as (λ _. ℕ) [ true ↦ encoding_symbols s.cut block | false ↦ closed_in s block ] → 0 < closed_in s block
    go true is less = full ((Decides-eqb (closed_in s block) (source_symbols s.cut block)).0 is) (closed_in s block) refl less
    go false is less = less

-- the object so many behind the first has this info or encoded symbol
abbrev pub is_of_object : List Shape → ℕ → Want → Bool
is_of_object shapes k (Info i) = at_index shapes k false (λ s. s.info)
is_of_object shapes k (Symbol at) = at_index shapes k false (λ s. nat_lt at.symbol (encoded_in s at.block))

pub encoded_get : (P : Want → Type 0) (p : Settings) → InRange p → (order : List Entry) (first k : ℕ) (w : Want) → want_index w ≡ first + k
    → is_of_object (shapes_of p order) k w ≡ true → AllByRecursion P (encoded_from first (shapes_of p order)) → P w
unfolding encoded_from
encoded_get P p range [] first k (Info i) e is all = absurd (clash is)
encoded_get P p range [] first k (Symbol at) e is all = absurd (clash is)
encoded_get P p range (x ∷ order) first zero (Info i) e is all =
    let own = (all_parts P (encoded_of first (shape_of p x.object)) (encoded_from (first + 1) (shapes_of p order)) all).0 in
    info (shape_of p x.object).info is _ own
  where
    info : (b : Bool) → b ≡ true → (rest : List Want) → AllByRecursion P (cond b (Info first ∷ []) [] ++ rest) → P (Info i)
    info true is rest own = subst (λ (n : ℕ). P (Info n)) (let z : first ≡ i = omega (arith, e) in z) own.0
    info false is rest own = absurd (clash is)
encoded_get P p range (x ∷ order) first zero (Symbol at) e is all =
    let s = shape_of p x.object in
    let own = (all_parts P (encoded_of first s) (encoded_from (first + 1) (shapes_of p order)) all).0 in
    let lt : at.symbol < encoded_in s at.block = (Decides-ltb at.symbol (encoded_in s at.block)).0 is in
    let there = block_there p range x.object at.block (some_closed s at.block (let less = lt in omega (arith, less))) in
    subst (λ (n : ℕ). P (Symbol (position n at.block at.symbol))) (let z : first ≡ at.index = omega (arith, e) in z)
    (rows_get P (encoded_in s) first 0 (closed_blocks s) at.block at.symbol (omega arith) (let less = there in omega (arith, less)) lt
    (all_parts P (cond s.info (Info first ∷ []) []) _ own).1)
encoded_get P p range (x ∷ order) first (suc k) (Info i) e is all =
    encoded_get P p range order (first + 1) k (Info i) (omega (arith, e)) is
    (all_parts P (encoded_of first (shape_of p x.object)) (encoded_from (first + 1) (shapes_of p order)) all).1
encoded_get P p range (x ∷ order) first (suc k) (Symbol at) e is all =
    encoded_get P p range order (first + 1) k (Symbol at) (omega (arith, e)) is
    (all_parts P (encoded_of first (shape_of p x.object)) (encoded_from (first + 1) (shapes_of p order)) all).1

fits_window : (p : Settings) (s : SenderState) → InRange p → (ws : List Want) → Rise ws → AllByRecursion (λ w. is_of_order (current_shapes p s) w ≡ true) ws
    → AreInWindow s ws → length ws ≤ repairable p s
fits_window p s range ws rise of_order in_window =
    no_longer ws (filter (stands_behind s.current.drop) all) rise
    (λ w h. passing_in (stands_behind s.current.drop) all w (all_at (λ x. stands_behind s.current.drop x ≡ true) ws w in_window h)
    (encoded_get (λ x. In x all) p range s.current.order 0 (want_index w) w (omega arith)
    (of_object w (all_at (λ x. is_of_order (current_shapes p s) x ≡ true) ws w of_order h)) (each_in all)))
  where
    all : List Want
    all = encoded_from 0 (current_shapes p s)

    of_object : (w : Want) → is_of_order (current_shapes p s) w ≡ true → is_of_object (shapes_of p s.current.order) (want_index w) w ≡ true
    of_object (Info i) e = e
    of_object (Symbol at) e = e

pub few_wants : (p : Settings) (s : SenderState) → InRange p → WantsHold p s → length s.wants ≤ repairable p s
few_wants p s range h = fits_window p s range s.wants h.rise h.of_order h.in_window

-- ---- what is new

-- what is sent by itself is encoded
once_encoded : (p : Settings) (s : Shape) (block : ℕ) → HasParity s.cut → sent_once p s block ≤ encoded_in s block
once_encoded p s block parity = go (is_full s block)
  where
    go : (b : Bool) → elim b [ true ↦ min (source_symbols s.cut block + p.auto) (encoding_symbols s.cut block) | false ↦ closed_in s block ]
        ≤ elim b [ true ↦ encoding_symbols s.cut block | false ↦ closed_in s block ]
    go true = omega arith
    go false = omega arith

pub parity_at : (p : Settings) → Blocks p → (order : List Entry) (i : ℕ) (s : Shape) → slice_get (shapes_of p order) i ≡ Some s → HasParity s.cut
parity_at p blocks [] i s e = absurd (none_some e)
  where
    none_some : None ≡ Some s → ⊥
    none_some e = cc
parity_at p blocks (x ∷ order) zero s e = subst (λ (y : Shape). HasParity y.cut) (same e) (shape_parity p blocks x.object)
  where
    same : Some (shape_of p x.object) ≡ Some s → shape_of p x.object ≡ s
    same e = cc
parity_at p blocks (x ∷ order) (suc i) s e = parity_at p blocks order i s e

new_of_order : (p : Settings) → InRange p → (order : List Entry) (w : Want) → IsNew p (shapes_of p order) w → is_of_order (shapes_of p order) w ≡ true
new_of_order p range order (Info i) (s, found, is) = ap (λ (o : Option Shape). elim o as (λ _. Bool) [ Some x ↦ x.info | None ↦ false ]) found ∙ is.1
new_of_order p range order (Symbol at) (s, found, is) =
    let less = is.2 in
    let most = once_encoded p s at.block (parity_at p (blocks_of p range) order at.index s found) in
    ap (λ (o : Option Shape). elim o as (λ _. Bool) [ Some x ↦ nat_lt at.symbol (encoded_in x at.block) | None ↦ false ]) found
    ∙ (Decides-ltb at.symbol (encoded_in s at.block)).1 (omega (arith, less, most))

all_filter : (P : Want → Type 0) (test : Want → Bool) (ws : List Want) → AllByRecursion P ws → AllByRecursion P (filter test ws)
all_filter P test [] all = tt
all_filter P test (w ∷ ws) all = go (test w) (all_filter P test ws all.1)
  where
    go : (b : Bool) → AllByRecursion P (filter test ws) → AllByRecursion P (cond b (w ∷ filter test ws) (filter test ws))
    go true rest = (all.0, rest)
    go false rest = rest

rise_filter : (test : Want → Bool) (ws : List Want) → Rise ws → Rise (filter test ws)
rise_filter test [] h = tt
rise_filter test (w ∷ ws) h = go (test w) (rise_filter test ws h.1)
  where
    go : (b : Bool) → Rise (filter test ws) → Rise (cond b (w ∷ filter test ws) (filter test ws))
    go true rest = (all_filter (λ x. want_before w x ≡ true) test ws h.0, rest)
    go false rest = rest

all_passing : (test : Want → Bool) (ws : List Want) → AllByRecursion (λ w. test w ≡ true) (filter test ws)
all_passing test [] = tt
all_passing test (w ∷ ws) = go (test w) refl (all_passing test ws)
  where
    go : (b : Bool) → test w ≡ b → AllByRecursion (λ x. test x ≡ true) (filter test ws)
        → AllByRecursion (λ x. test x ≡ true) (cond b (w ∷ filter test ws) (filter test ws))
    go true is rest = (is, rest)
    go false is rest = rest

pub few_new : (p : Settings) (s : SenderState) → InRange p → length (all_new p s) ≤ repairable p s
few_new p s range =
    fits_window p s range (all_new p s) (rise_filter test all (new_rises p 0 (current_shapes p s)))
    (all_filter (λ w. is_of_order (current_shapes p s) w ≡ true) test all
    (all_implied (IsNew p (current_shapes p s)) (λ w. is_of_order (current_shapes p s) w ≡ true) all (new_of_order p range s.current.order) (new_of_all p 0 (current_shapes p s))))
    (all_implied (λ w. test w ≡ true) (λ w. stands_behind s.current.drop w ≡ true) (all_new p s)
    (λ w e. second (want_before w s.next) (stands_behind s.current.drop w) e) (all_passing test all))
  where
    all : List Want
    all = new_from p 0 (current_shapes p s)

    test : Want → Bool
    test w = not (want_before w s.next) && stands_behind s.current.drop w

    second : (a b : Bool) → (not a && b) ≡ true → b ≡ true
    second false b e = e
    second true b e = absurd (clash e)
