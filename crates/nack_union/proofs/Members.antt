-- Whether something is a member of what is listed of objects, and of what a state has.
use Rattle.std.proofs.Common.{◌≡◌, ℕ, zero, suc, ◌+◌, ◌<◌, ◌≤◌, inl, inr, List, [], ◌∷◌, ◌++◌, map, length, get_or, Bool, true, false, refl, sym, ap, ◌∙◌, cond, arith}
use Rattle.std.specs.Prelude.{nat_lt, not, filter}
use Rattle.norm_base.specs.Settings.{Settings}
use Rattle.fec_plan.specs.Points.{position, position_before}
use Rattle.fec_plan.specs.declared.position.Position.{Position}
use Rattle.norm_order.specs.Sets.{is_member}
use Rattle.norm_send_rules.specs.SenderState.{SenderState}
use Rattle.norm_send_rules.specs.InWindow.{stands_behind}
use Rattle.norm_send_rules.specs.Laws.{Rise}
use Rattle.norm_send_rules.specs.Wants.{want_before}
use Rattle.norm_send_rules.specs.declared.want.Want.{Want}
use Rattle.norm_send_rules.specs.declared.want.Want.TheVariants.{Symbol}
use Rattle.norm_send_rules.proofs.ClosingLemmas.{Each}
use Rattle.nack_union.specs.Slots.{want_at, symbol_slot}
use Rattle.nack_union.specs.Kept.{Marked, Kept, Holds, listed}
use Rattle.nack_union.proofs.Orders.{same_order, earlier, later, symbol_at}
use Rattle.nack_union.proofs.Unions.{Side, side, not_itself}
use Rattle.nack_union.proofs.Dropped.{first_of}
use Rattle.nack_union.proofs.Fronts.{symbol_behind}

-- whether a member is one, by its comparisons with the first
by_first : (b c d e f g : Bool) → d ≡ b → e ≡ c → f ≡ g → elim d as (λ _. Bool) [ true ↦ f | false ↦ not e ] ≡ elim b as (λ _. Bool) [ true ↦ g | false ↦ not c ]
by_first true c true e f g is same rest = rest
by_first true c false e f g is same rest = absurd (cc)
by_first false c true e f g is same rest = absurd (cc)
by_first false c false e f g is same rest = ap not same

-- what is before the first is no member
none_first : (d e f : Bool) → d ≡ false → e ≡ true → elim d as (λ _. Bool) [ true ↦ f | false ↦ not e ] ≡ false
none_first true e f is same = absurd (cc)
none_first false true f is same = refl
none_first false false f is same = absurd (cc)

-- a slot of an object is found in the object's set
member_here : (index a : ℕ) (xs : List ℕ) (rest : List Want) → is_member want_before (want_at index a) rest ≡ false
    → is_member want_before (want_at index a) (map (want_at index) xs ++ rest) ≡ is_member nat_lt a xs
unfolding is_member
member_here index a [] rest none = none
member_here index a (x ∷ xs) rest none =
    by_first (nat_lt x a) (nat_lt a x) _ _ _ _ (same_order index x a) (same_order index a x) (member_here index a xs rest none)

-- and behind the sets of earlier objects
member_behind : (i j a : ℕ) (xs : List ℕ) (rest : List Want) → i < j
    → is_member want_before (want_at j a) (map (want_at i) xs ++ rest) ≡ is_member want_before (want_at j a) rest
unfolding is_member
member_behind i j a [] rest lt = refl
member_behind i j a (x ∷ xs) rest lt =
    by_first true false _ _ _ _ (earlier i j x a lt) (later i j x a lt) (member_behind i j a xs rest lt)

-- it is none of the sets of later objects
member_before : (slots : Marked → List ℕ) (i j a : ℕ) (ms : List Marked) → i < j → is_member want_before (want_at i a) (listed slots j ms) ≡ false
unfolding is_member
member_before slots i j a [] lt = refl
member_before slots i j a (m ∷ ms) lt = go (slots m) (member_before slots i (suc j) a ms (omega arith))
  where
    go : (xs : List ℕ) → is_member want_before (want_at i a) (listed slots (suc j) ms) ≡ false
        → is_member want_before (want_at i a) (map (want_at j) xs ++ listed slots (suc j) ms) ≡ false
    go [] rest = rest
    go (x ∷ xs) rest = none_first _ _ _ (later i j a x lt) (earlier i j a x lt)

pub member_at : (slots : Marked → List ℕ) (index k a : ℕ) (ms : List Marked) (d : Marked) → k < length ms
    → is_member want_before (want_at (index + k) a) (listed slots index ms) ≡ is_member nat_lt a (slots (get_or ms k d))
member_at slots index k a [] d lt = absurd (omega arith)
member_at slots index zero a (m ∷ ms) d lt =
    ap (λ i. is_member want_before (want_at i a) (listed slots index (m ∷ ms))) (let e : index + 0 ≡ index = omega arith in e)
    ∙ member_here index a (slots m) (listed slots (suc index) ms) (member_before slots index (suc index) a ms (omega arith))
member_at slots index (suc k) a (m ∷ ms) d lt =
    member_behind index (index + suc k) a (slots m) (listed slots (suc index) ms) (omega arith)
    ∙ ap (λ i. is_member want_before (want_at i a) (listed slots (suc index) ms)) (let e : index + suc k ≡ suc index + k = omega arith in e)
    ∙ member_at slots (suc index) k a ms d (omega arith)

-- what is before all of a list is no member of it
no_member : (w : Want) (ws : List Want) → Each (want_before w) ws → is_member want_before w ws ≡ false
unfolding is_member
no_member w [] all = refl
no_member w (v ∷ ws) all = go (side v w)
  where
    go : Side v w → elim (want_before v w) as (λ _. Bool) [ true ↦ is_member want_before w ws | false ↦ not (want_before w v) ] ≡ false
    go (inl h) = let e = all.0 in absurd (cc)
    go (inr (inl same)) = let e = all.0 in let g = ap (want_before w) same in let n = not_itself w in absurd (cc)
    go (inr (inr h)) = none_first _ _ _ h.0 h.1

-- a test that it passes takes nothing away
pub member_filter : (test : Want → Bool) (w : Want) (ws : List Want) → Rise ws → test w ≡ true
    → is_member want_before w (filter test ws) ≡ is_member want_before w ws
unfolding is_member
member_filter test w [] rise passes = refl
member_filter test w (v ∷ ws) rise passes = go (test v) refl (side v w) (member_filter test w ws rise.1 passes)
  where
    go : (b : Bool) → test v ≡ b → Side v w → is_member want_before w (filter test ws) ≡ is_member want_before w ws
        → is_member want_before w (cond b (v ∷ filter test ws) (filter test ws))
        ≡ elim (want_before v w) as (λ _. Bool) [ true ↦ is_member want_before w ws | false ↦ not (want_before w v) ]
    go true e s rest = by_first (want_before v w) (want_before w v) _ _ _ _ refl refl rest
    go false e (inl h) rest = rest ∙ sym (by_first true false _ _ _ _ h.0 h.1 refl)
    go false e (inr (inl same)) rest = let f = ap test same in absurd (cc)
    go false e (inr (inr h)) rest =
        rest ∙ no_member w ws (first_of w v ws h.1 rise).1 ∙ sym (none_first _ _ _ h.0 h.1)

-- of symbols
member_symbols : (at : Position) (all : List Position) → is_member want_before (Symbol at) (map Symbol all) ≡ is_member position_before at all
unfolding is_member
member_symbols at [] = refl
member_symbols at (x ∷ all) = by_first (position_before x at) (position_before at x) _ _ _ _ refl refl (member_symbols at all)

-- the slot of a symbol is among those that were sent where the symbol is
pub sent_is : (p : Settings) (s : SenderState) (u : Kept) (k block symbol : ℕ) (d : Marked) → k < length u.objects → (get_or u.objects k d).first ≤ block → symbol < 256 → Holds p u s
    → is_member nat_lt (symbol_slot block symbol) (get_or u.objects k d).sent ≡ is_member position_before (position (u.first + k) block symbol) s.sent
sent_is p s u k block symbol d lt from few st =
    sym (member_at (λ m. m.sent) u.first k (symbol_slot block symbol) u.objects d lt)
    ∙ ap (is_member want_before (want_at (u.first + k) (symbol_slot block symbol))) st.sent
    ∙ ap (λ w. is_member want_before w (filter (stands_behind s.current.drop) (map Symbol s.sent))) (symbol_at (u.first + k) block symbol few)
    ∙ member_filter (stands_behind s.current.drop) (Symbol (position (u.first + k) block symbol)) (map Symbol s.sent) st.rise
    (symbol_behind s.current.drop u.first k (position (u.first + k) block symbol) u.objects d st.fronts st.first lt refl from)
    ∙ member_symbols (position (u.first + k) block symbol) s.sent
