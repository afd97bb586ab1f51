-- The receivers whose listing is to be told.
use Rattle.std.proofs.Common.{◌≡◌, ◌≢◌, ℕ, zero, suc, ◌+◌, ◌<◌, ◌≤◌, ◌⊎◌, inl, inr, List, [], ◌∷◌, ◌++◌, length, map, take, drop, get_or, Bool, true, false, refl, sym, ap, subst, ◌∙◌, arith, cond}
use Rattle.std.specs.Prelude.{◌&&◌, ◌==◌, not, nat_lt, nat_eq, filter, find, is_some, Option, None, Some, option_and_then, Result, Ok, is_ok, if◌then◌else◌}
use Rattle.std.specs.List.{list_any, AllByRecursion, IsDistinct}
use Rattle.std.specs.Set.{is_member}
use Rattle.std.specs.Cmp.{nat_eq_equiv}
use Rattle.std.specs.Ordering.{is_lt, nat_cmp}
use Rattle.std.proofs.lemmas.Bool.Decides.{nat_tests}
use Rattle.std.proofs.lemmas.Bool.{or_cases, or_left, or_right, and_parts, ltb-true, eqb-true, eq-eqb, ne_eqb, false≢true}
use Rattle.std.proofs.lemmas.Map.Made.{length-le_from_is_member}
use Rattle.std.proofs.lemmas.List.{length-map, length-append, length-take-le, length-drop, drop_more, take_more, append_assoc, take-append-drop, take_all, drop_all, append-nil}
use Rattle.fec_plan.specs.declared.position.Position.{Position}
use Rattle.norm_order.specs.Sets.{with_member, Rises}
use Rattle.norm_order.proofs.SetLemmas.{in_front, again, behind, alone}
use Rattle.norm_send_rules.specs.SenderState.{Listing}
use Rattle.norm_send_rules.specs.Watermarks.{is_past}
use Rattle.norm_send_rules.specs.Hearing.{listed_past}
use Rattle.mark_book.specs.BookMoves.{past_in}

-- the nodes of listings
abbrev pub nodes_of : List Listing → List ℕ
nodes_of listings = map (λ (l : Listing). l.node) listings

later : (u v : ℕ) (ns : List ℕ) → u < v → AllByRecursion (λ m. v < m) ns → AllByRecursion (λ m. u < m) ns
later u v [] lt all = tt
later u v (n ∷ ns) lt all = (let here : v < n = all.0 in omega arith, later u v ns lt all.1)

-- with one more, by what the two comparisons say
abbrev pub put : Bool → Bool → ℕ → ℕ → List ℕ → List ℕ
put b c x y ys = elim b [
  | true ↦ x ∷ y ∷ ys
  | false ↦ elim c [ true ↦ y ∷ with_member nat_lt x ys | false ↦ y ∷ ys ]
]

each_with : (low x : ℕ) (ys : List ℕ) → low < x → AllByRecursion (λ m. low < m) ys → AllByRecursion (λ m. low < m) (with_member nat_lt x ys)
unfolding with_member
each_with low x [] lt all = (lt, tt)
each_with low x (y ∷ ys) lt all = go (nat_lt x y) (nat_lt y x) (each_with low x ys lt all.1)
  where
    go : (b c : Bool) → AllByRecursion (λ m. low < m) (with_member nat_lt x ys) → AllByRecursion (λ m. low < m) (put b c x y ys)
    go true c more = (lt, (all.0, all.1))
    go false true more = (all.0, more)
    go false false more = (all.0, all.1)

-- a rising list rises with one more
pub rise_with : (x : ℕ) (ys : List ℕ) → Rises ys → Rises (with_member nat_lt x ys)
unfolding with_member
rise_with x [] rise = (tt, tt)
rise_with x (y ∷ ys) rise = go (nat_lt x y) (nat_lt y x) refl refl (rise_with x ys rise.1)
  where
    go : (b c : Bool) → nat_lt x y ≡ b → nat_lt y x ≡ c → Rises (with_member nat_lt x ys) → Rises (put b c x y ys)
    go true c e f more = let lt = ltb-true x y e in ((lt, later x y ys lt rise.0), (rise.0, rise.1))
    go false true e f more = (each_with y x ys (ltb-true y x f) rise.0, more)
    go false false e f more = (rise.0, rise.1)

-- a member of a list with one more is that one or was there
pub member_with : (q x : ℕ) (ys : List ℕ) → is_member nat_eq (with_member nat_lt x ys) q ≡ true → (q ≡ x) ⊎ (is_member nat_eq ys q ≡ true)
unfolding with_member
member_with q x [] e = elim (or_cases (nat_eq q x) false e) [ inl h ↦ inl (eqb-true q x h) | inr h ↦ absurd (cc) ]
member_with q x (y ∷ ys) e = go (nat_lt x y) (nat_lt y x) (member_with q x ys) e
  where
    first : is_member nat_eq (x ∷ y ∷ ys) q ≡ true → (q ≡ x) ⊎ (is_member nat_eq (y ∷ ys) q ≡ true)
    first h = elim (or_cases (nat_eq q x) (is_member nat_eq (y ∷ ys) q) h) [ inl k ↦ inl (eqb-true q x k) | inr k ↦ inr k ]

    second : (is_member nat_eq (with_member nat_lt x ys) q ≡ true → (q ≡ x) ⊎ (is_member nat_eq ys q ≡ true))
        → (nat_eq q y ≡ true) ⊎ (is_member nat_eq (with_member nat_lt x ys) q ≡ true) → (q ≡ x) ⊎ (is_member nat_eq (y ∷ ys) q ≡ true)
    second more (inl k) = inr (or_left (nat_eq q y) (is_member nat_eq ys q) k)
    second more (inr k) = elim (more k) [ inl same ↦ inl same | inr was ↦ inr (or_right (nat_eq q y) (is_member nat_eq ys q) was) ]

    go : (b c : Bool) → (is_member nat_eq (with_member nat_lt x ys) q ≡ true → (q ≡ x) ⊎ (is_member nat_eq ys q ≡ true))
        → is_member nat_eq (put b c x y ys) q ≡ true → (q ≡ x) ⊎ (is_member nat_eq (y ∷ ys) q ≡ true)
    go true c more h = first h
    go false true more h = second more (or_cases (nat_eq q y) (is_member nat_eq (with_member nat_lt x ys) q) h)
    go false false more h = inr h

all_differ : (n : ℕ) (ns : List ℕ) → AllByRecursion (λ m. n < m) ns → AllByRecursion (λ m. nat_eq n m ≡ false) ns
all_differ n [] all = tt
all_differ n (m ∷ ns) all = (let lt : n < m = all.0 in ne_eqb n m (λ e. omega arith), all_differ n ns all.1)

distinct_from_rise : (ns : List ℕ) → Rises ns → IsDistinct nat_eq ns
unfolding IsDistinct
distinct_from_rise [] rise = tt
distinct_from_rise (n ∷ ns) rise = (all_differ n ns rise.0, distinct_from_rise ns rise.1)

-- rising nodes that are all listed are no more than the listings
pub no_more_than_listed : (ns : List ℕ) (ls : List Listing) → Rises ns
    → ((q : ℕ) → is_member nat_eq ns q ≡ true → is_member nat_eq (nodes_of ls) q ≡ true) → length ns ≤ length ls
no_more_than_listed ns ls rise listed =
    let le = length-le_from_is_member nat_eq_equiv ns (nodes_of ls) (distinct_from_rise ns rise) listed in
    omega (arith, le, length-map ls (λ (l : Listing). l.node))

-- a listing keeps its node
pub same_node : (node : ℕ) (at : Position) (l : Listing) → (listed_past node at l).node ≡ l.node
same_node node at l = go (l.node == node && is_past at l) (l.node == node)
  where
    go : (b c : Bool) → (elim b as (λ _. Listing) [ true ↦ l | false ↦ elim c [ true ↦ record l { past = Some at } | false ↦ l ] ]).node ≡ l.node
    go true c = refl
    go false true = refl
    go false false = refl

pub same_nodes : (node : ℕ) (at : Position) (ls : List Listing) → nodes_of (map (listed_past node at) ls) ≡ nodes_of ls
same_nodes node at [] = refl
same_nodes node at (l ∷ ls) = rw (same_node node at l, same_nodes node at ls)

-- a node whose acknowledgement is news is listed
pub listed_where_news : (node : ℕ) (at : Position) (ls : List Listing) → list_any (λ (l : Listing). l.node == node && not (is_past at l)) ls ≡ true
    → is_member nat_eq (nodes_of ls) node ≡ true
listed_where_news node at [] e = e
listed_where_news node at (l ∷ ls) e = go (listed_where_news node at ls) (or_cases _ _ e)
  where
    go : (list_any (λ (k : Listing). k.node == node && not (is_past at k)) ls ≡ true → is_member nat_eq (nodes_of ls) node ≡ true)
        → ((l.node == node && not (is_past at l)) ≡ true) ⊎ (list_any (λ (k : Listing). k.node == node && not (is_past at k)) ls ≡ true)
        → is_member nat_eq (l.node ∷ nodes_of ls) node ≡ true
    go more (inl h) = or_left (nat_eq node l.node) _ (let same = eqb-true l.node node (and_parts _ _ h).0 in eq-eqb node l.node (sym same))
    go more (inr h) = or_right (nat_eq node l.node) _ (more h)

-- what `<` of two nodes says
pub lower_where : (a b : ℕ) (r : Bool) → r ≡ is_lt (nat_cmp a b) → r ≡ true → a < b
lower_where a b r e h = grind (arith, nat_tests)

pub higher_where : (a b : ℕ) (r same : Bool) → r ≡ is_lt (nat_cmp a b) → r ≡ false → same ≡ nat_eq a b → same ≡ false → b < a
higher_where a b r same e h f g = grind (arith, nat_tests)

-- a node is not put before a lower one
pub put_on : (n : ℕ) (xs : List ℕ) (i x : ℕ) → i < length xs → x ≡ get_or xs i x → x < n
    → take i xs ++ with_member nat_lt n (drop i xs) ≡ take (i + 1) xs ++ with_member nat_lt n (drop (i + 1) xs)
put_on n xs i x lt is lower =
    ap (λ r. take i xs ++ with_member nat_lt n r) (drop_more xs i x lt)
    ∙ ap (λ y. take i xs ++ with_member nat_lt n (y ∷ drop (i + 1) xs)) (sym is)
    ∙ ap (λ r. take i xs ++ r) (behind x n (drop (i + 1) xs) lower)
    ∙ sym (append_assoc (take i xs) (x ∷ []) (with_member nat_lt n (drop (i + 1) xs)))
    ∙ ap (λ t. t ++ with_member nat_lt n (drop (i + 1) xs)) (ap (λ y. take i xs ++ y ∷ []) is ∙ sym (take_more xs i x lt))

-- a node that is there already is not put again
pub put_same : (n : ℕ) (xs : List ℕ) (i x : ℕ) → i < length xs → x ≡ get_or xs i x → n ≡ x → take i xs ++ with_member nat_lt n (drop i xs) ≡ xs
put_same n xs i x lt is same =
    let rest : drop i xs ≡ n ∷ drop (i + 1) xs = drop_more xs i x lt ∙ ap (λ y. y ∷ drop (i + 1) xs) (sym is ∙ sym same) in
    ap (λ r. take i xs ++ with_member nat_lt n r) rest
    ∙ ap (λ r. take i xs ++ r) (again n (drop (i + 1) xs) ∙ sym rest)
    ∙ take-append-drop i xs

-- a node is put before a higher one
pub put_here : (n : ℕ) (xs : List ℕ) (i x : ℕ) → i < length xs → x ≡ get_or xs i x → n < x
    → take i xs ++ with_member nat_lt n (drop i xs) ≡ take i xs ++ n ∷ drop i xs
put_here n xs i x lt is lower =
    let rest : drop i xs ≡ x ∷ drop (i + 1) xs = drop_more xs i x lt ∙ ap (λ y. y ∷ drop (i + 1) xs) (sym is) in
    ap (λ r. take i xs ++ with_member nat_lt n r) rest
    ∙ ap (λ r. take i xs ++ r) (in_front n x (drop (i + 1) xs) lower)
    ∙ ap (λ r. take i xs ++ n ∷ r) (sym rest)

-- a node that is above all is put last
pub put_last : (n : ℕ) (xs : List ℕ) (i : ℕ) → length xs ≤ i → take i xs ++ with_member nat_lt n (drop i xs) ≡ xs ++ n ∷ []
put_last n xs i le =
    ap (λ t. t ++ with_member nat_lt n (drop i xs)) (take_all i xs le)
    ∙ ap (λ r. xs ++ with_member nat_lt n r) (drop_all i xs le)
    ∙ ap (λ r. xs ++ r) (alone n)

pub one_longer : (n : ℕ) (xs : List ℕ) (i : ℕ) → i ≤ length xs → length (take i xs ++ n ∷ drop i xs) ≡ length xs + 1
one_longer n xs i le = omega (arith, length-append (take i xs) (n ∷ drop i xs), length-take-le i xs le, length-drop i xs)

-- what an edit that went well left
pub edited : {T E : Type 0} (r : Result T E) (t : T) (new changed old : List ℕ) → new ≡ (if is_ok r then changed else old) → r ≡ Ok t → new ≡ changed
edited r t new changed old e is = e ∙ ap (λ r. if is_ok r then changed else old) is

-- a member whose listing says something is among the nodes
pub said_listed : (ls : List Listing) (q : ℕ) → is_some (past_in ls q) ≡ true → is_member nat_eq (nodes_of ls) q ≡ true
said_listed [] q e = e
said_listed (l ∷ ls) q e = go (l.node == q) refl (said_listed ls q) e
  where
    go : (b : Bool) → (l.node == q) ≡ b → (is_some (past_in ls q) ≡ true → is_member nat_eq (nodes_of ls) q ≡ true)
        → is_some (option_and_then (λ (l : Listing). l.past) (cond b (Some l) (find (λ (l : Listing). l.node == q) ls))) ≡ true
        → is_member nat_eq (l.node ∷ nodes_of ls) q ≡ true
    go true is rest e = or_left (nat_eq q l.node) _ (eq-eqb q l.node (sym (eqb-true l.node q is)))
    go false is rest e = or_right (nat_eq q l.node) _ (rest e)

-- what listings say stays said as one rises, and is said of the one that rose
abbrev past_by : Bool → Listing → Option Position → Option Position
past_by b l rest = cond b l.past rest

past_step : (l : Listing) (ls : List Listing) (q : ℕ) → past_in (l ∷ ls) q ≡ past_by (l.node == q) l (past_in ls q)
past_step l ls q = go (l.node == q)
  where
    go : (b : Bool) → option_and_then (λ (l : Listing). l.past) (cond b (Some l) (find (λ (l : Listing). l.node == q) ls)) ≡ cond b l.past (past_in ls q)
    go true = refl
    go false = refl

raised_says : (node : ℕ) (at : Position) (l : Listing) → is_some l.past ≡ true → is_some (listed_past node at l).past ≡ true
raised_says node at l e = go (l.node == node && is_past at l) (l.node == node)
  where
    go : (b c : Bool) → is_some (elim b as (λ _. Listing) [ true ↦ l | false ↦ elim c [ true ↦ record l { past = Some at } | false ↦ l ] ]).past ≡ true
    go true c = e
    go false true = refl
    go false false = e

-- a listing of the node says something, once it rose
own_says : (node : ℕ) (at : Position) (l : Listing) → (l.node == node) ≡ true → is_some (listed_past node at l).past ≡ true
own_says node at l own = subst (λ c. is_some (elim (c && is_past at l) as (λ _. Listing) [ true ↦ l | false ↦ elim c [ true ↦ record l { past = Some at } | false ↦ l ] ]).past ≡ true) (sym own) (go l.past)
  where
    go : (o : Option Position) → is_some (elim (is_past at (record l { past = o })) as (λ _. Listing) [ true ↦ record l { past = o } | false ↦ record l { past = Some at } ]).past ≡ true
    go None = refl
    go (Some past) = by (is_past at (record l { past = Some past }))
      where
        by : (b : Bool) → is_some (elim b as (λ _. Listing) [ true ↦ record l { past = Some past } | false ↦ record l { past = Some at } ]).past ≡ true
        by true = refl
        by false = refl

pub still_said : (node : ℕ) (at : Position) (ls : List Listing) (q : ℕ) → is_some (past_in ls q) ≡ true → is_some (past_in (map (listed_past node at) ls) q) ≡ true
still_said node at [] q e = e
still_said node at (l ∷ ls) q e =
    ap is_some (past_step (listed_past node at l) (map (listed_past node at) ls) q ∙ ap (λ n. past_by (n == q) (listed_past node at l) (past_in (map (listed_past node at) ls) q)) (same_node node at l))
    ∙ go (l.node == q) (still_said node at ls q) (ap is_some (sym (past_step l ls q)) ∙ e)
  where
    go : (b : Bool) → (is_some (past_in ls q) ≡ true → is_some (past_in (map (listed_past node at) ls) q) ≡ true)
        → is_some (past_by b l (past_in ls q)) ≡ true → is_some (past_by b (listed_past node at l) (past_in (map (listed_past node at) ls) q)) ≡ true
    go true rest e = raised_says node at l e
    go false rest e = rest e

pub said_of_news : (node : ℕ) (at : Position) (ls : List Listing) → list_any (λ (l : Listing). l.node == node && not (is_past at l)) ls ≡ true
    → is_some (past_in (map (listed_past node at) ls) node) ≡ true
said_of_news node at [] e = absurd (cc)
said_of_news node at (l ∷ ls) e =
    ap is_some (past_step (listed_past node at l) (map (listed_past node at) ls) node ∙ ap (λ n. past_by (n == node) (listed_past node at l) (past_in (map (listed_past node at) ls) node)) (same_node node at l))
    ∙ go (l.node == node) refl (said_of_news node at ls) (or_cases _ _ e)
  where
    go : (b : Bool) → (l.node == node) ≡ b → (list_any (λ (k : Listing). k.node == node && not (is_past at k)) ls ≡ true → is_some (past_in (map (listed_past node at) ls) node) ≡ true)
        → ((l.node == node && not (is_past at l)) ≡ true) ⊎ (list_any (λ (k : Listing). k.node == node && not (is_past at k)) ls ≡ true)
        → is_some (past_by b (listed_past node at l) (past_in (map (listed_past node at) ls) node)) ≡ true
    go true is rest h = own_says node at l is
    go false is rest (inl h) = absurd (false≢true (sym is ∙ (and_parts _ _ h).0))
    go false is rest (inr h) = rest h

-- a node that is news leaves the nodes to be told listed past something
pub said_with : (ns : List ℕ) (ls : List Listing) (node : ℕ) (at : Position)
    → ((q : ℕ) → is_member nat_eq ns q ≡ true → is_some (past_in ls q) ≡ true)
    → list_any (λ (l : Listing). l.node == node && not (is_past at l)) ls ≡ true
    → (q : ℕ) → is_member nat_eq (with_member nat_lt node ns) q ≡ true → is_some (past_in (map (listed_past node at) ls) q) ≡ true
said_with ns ls node at said news q member = go (member_with q node ns member)
  where
    go : (q ≡ node) ⊎ (is_member nat_eq ns q ≡ true) → is_some (past_in (map (listed_past node at) ls) q) ≡ true
    go (inl same) = ap (λ n. is_some (past_in (map (listed_past node at) ls) n)) same ∙ said_of_news node at ls news
    go (inr was) = still_said node at ls q (said q was)

-- rising nodes that are listed past something have room where the listings have
pub have_room : (ns : List ℕ) (ls : List Listing) → Rises ns → ((q : ℕ) → is_member nat_eq ns q ≡ true → is_some (past_in ls q) ≡ true) → length ns ≤ length ls
have_room ns ls rise said = no_more_than_listed ns ls rise (λ q member. said_listed ls q (said q member))

-- without a node
left_step : (b : Bool) (x : ℕ) (xs ys : List ℕ) → Rises (x ∷ xs) → AllByRecursion (λ m. x < m) ys → Rises ys → Rises (cond b (x ∷ ys) ys)
left_step true x xs ys rise low more = (low, more)
left_step false x xs ys rise low more = more

low_left : (low : ℕ) (test : ℕ → Bool) (xs : List ℕ) → AllByRecursion (λ m. low < m) xs → AllByRecursion (λ m. low < m) (filter test xs)
low_left low test [] all = tt
low_left low test (x ∷ xs) all = go (test x) (low_left low test xs all.1)
  where
    go : (b : Bool) → AllByRecursion (λ m. low < m) (filter test xs) → AllByRecursion (λ m. low < m) (cond b (x ∷ filter test xs) (filter test xs))
    go true rest = (all.0, rest)
    go false rest = rest

pub rise_left : (test : ℕ → Bool) (xs : List ℕ) → Rises xs → Rises (filter test xs)
rise_left test [] rise = tt
rise_left test (x ∷ xs) rise = left_step (test x) x xs (filter test xs) rise (low_left x test xs rise.0) (rise_left test xs rise.1)

-- a member of what is left was one, and is not the node
pub member_left : (node q : ℕ) (xs : List ℕ) → is_member nat_eq (filter (λ other. not (other == node)) xs) q ≡ true
    → (is_member nat_eq xs q ≡ true) × ((q == node) ≡ false)
member_left node q [] e = absurd (cc)
member_left node q (x ∷ xs) e = go (x == node) refl (member_left node q xs) e
  where
    go : (b : Bool) → (x == node) ≡ b → (is_member nat_eq (filter (λ other. not (other == node)) xs) q ≡ true → (is_member nat_eq xs q ≡ true) × ((q == node) ≡ false))
        → is_member nat_eq (cond (not b) (x ∷ filter (λ other. not (other == node)) xs) (filter (λ other. not (other == node)) xs)) q ≡ true
        → (is_member nat_eq (x ∷ xs) q ≡ true) × ((q == node) ≡ false)
    go true is rest e = let r = rest e in (or_right (nat_eq q x) _ r.0, r.1)
    go false is rest e = elim (or_cases (nat_eq q x) _ e) [
      | inl h ↦ (or_left (nat_eq q x) _ h, ap (λ n. n == node) (eqb-true q x h) ∙ is)
      | inr h ↦ (let r = rest h in (or_right (nat_eq q x) _ r.0, r.1))
    ]

-- what is left says of another node what was said
pub said_left : (node q : ℕ) (ls : List Listing) → (q == node) ≡ false → past_in (filter (λ (l : Listing). not (l.node == node)) ls) q ≡ past_in ls q
said_left node q [] e = refl
said_left node q (l ∷ ls) e = go (l.node == node) refl (said_left node q ls e) ∙ sym (past_step l ls q)
  where
    other : (l.node == node) ≡ true → (l.node == q) ≡ false
    other is = ne_eqb l.node q (λ same. false≢true (sym e ∙ eq-eqb q node (sym same ∙ eqb-true l.node node is)))

    go : (b : Bool) → (l.node == node) ≡ b → past_in (filter (λ (l : Listing). not (l.node == node)) ls) q ≡ past_in ls q
        → past_in (cond (not b) (l ∷ filter (λ (l : Listing). not (l.node == node)) ls) (filter (λ (l : Listing). not (l.node == node)) ls)) q
        ≡ past_by (l.node == q) l (past_in ls q)
    go true is rest = rest ∙ sym (ap (λ b. past_by b l (past_in ls q)) (other is))
    go false is rest = past_step l (filter (λ (l : Listing). not (l.node == node)) ls) q ∙ ap (past_by (l.node == q) l) rest

-- the nodes to be told, without one
pub said_without : (node : ℕ) (ns : List ℕ) (ls : List Listing) → ((q : ℕ) → is_member nat_eq ns q ≡ true → is_some (past_in ls q) ≡ true)
    → (q : ℕ) → is_member nat_eq (filter (λ other. not (other == node)) ns) q ≡ true → is_some (past_in (filter (λ (l : Listing). not (l.node == node)) ls) q) ≡ true
said_without node ns ls said q member =
    let parts = member_left node q ns member in
    ap is_some (said_left node q ls parts.1) ∙ said q parts.0

-- the first of a list and the rest
pub first_node : (ns rest : List ℕ) (n : ℕ) → 0 < length ns → n ≡ get_or ns 0 n → rest ≡ take 0 ns ++ drop 1 ns → ns ≡ n ∷ rest
first_node [] rest n lt is gone = absurd (omega arith)
first_node (m ∷ ns) rest n lt is gone = ap (λ (k : ℕ). k ∷ ns) (sym is) ∙ ap (λ (xs : List ℕ). n ∷ xs) (sym gone)

-- a node is taken out
rises_behind : (i : ℕ) (xs : List ℕ) → Rises xs → Rises (drop i xs)
rises_behind zero xs rise = rise
rises_behind (suc i) [] rise = tt
rises_behind (suc i) (x ∷ xs) rise = rises_behind i xs rise.1

all_above : (n : ℕ) (xs : List ℕ) → AllByRecursion (λ m. n < m) xs → filter (λ other. not (other == n)) xs ≡ xs
all_above n [] all = refl
all_above n (x ∷ xs) all =
    ap (λ b. cond (not b) (x ∷ filter (λ other. not (other == n)) xs) (filter (λ other. not (other == n)) xs)) (let lt : n < x = all.0 in ne_eqb x n (λ same. omega arith))
    ∙ ap (λ (ys : List ℕ). x ∷ ys) (all_above n xs all.1)

pub taken_here : (n : ℕ) (xs : List ℕ) (i x : ℕ) → i < length xs → x ≡ get_or xs i x → n ≡ x → Rises xs
    → take i xs ++ filter (λ other. not (other == n)) (drop i xs) ≡ filter (λ other. not (other == n)) xs
    → take i xs ++ drop (i + 1) xs ≡ filter (λ other. not (other == n)) xs
taken_here n xs i x lt is same rise so_far =
    let rest : drop i xs ≡ n ∷ drop (i + 1) xs = drop_more xs i x lt ∙ ap (λ y. y ∷ drop (i + 1) xs) (sym is ∙ sym same) in
    let above = (subst Rises rest (rises_behind i xs rise)).0 in
    let goes : filter (λ other. not (other == n)) (drop i xs) ≡ drop (i + 1) xs =
    ap (filter (λ other. not (other == n))) rest
    ∙ ap (λ b. cond (not b) (n ∷ filter (λ other. not (other == n)) (drop (i + 1) xs)) (filter (λ other. not (other == n)) (drop (i + 1) xs))) (eq-eqb n n refl)
    ∙ all_above n (drop (i + 1) xs) above in
    ap (λ ys. take i xs ++ ys) (sym goes) ∙ so_far

pub taken_on : (n : ℕ) (xs : List ℕ) (i x : ℕ) → i < length xs → x ≡ get_or xs i x → n ≢ x
    → take i xs ++ filter (λ other. not (other == n)) (drop i xs) ≡ filter (λ other. not (other == n)) xs
    → take (i + 1) xs ++ filter (λ other. not (other == n)) (drop (i + 1) xs) ≡ filter (λ other. not (other == n)) xs
taken_on n xs i x lt is differ so_far =
    ap (λ t. t ++ filter (λ other. not (other == n)) (drop (i + 1) xs)) (take_more xs i x lt ∙ ap (λ y. take i xs ++ y ∷ []) (sym is))
    ∙ append_assoc (take i xs) (x ∷ []) (filter (λ other. not (other == n)) (drop (i + 1) xs))
    ∙ ap (λ r. take i xs ++ r) (
    ap (λ b. cond (not b) (x ∷ filter (λ other. not (other == n)) (drop (i + 1) xs)) (filter (λ other. not (other == n)) (drop (i + 1) xs))) (sym (ne_eqb x n (λ same. differ (sym same))))
    ∙ sym (ap (filter (λ other. not (other == n))) (drop_more xs i x lt ∙ ap (λ y. y ∷ drop (i + 1) xs) (sym is))))
    ∙ so_far

pub taken_none : (n : ℕ) (xs : List ℕ) (i : ℕ) → length xs ≤ i
    → take i xs ++ filter (λ other. not (other == n)) (drop i xs) ≡ filter (λ other. not (other == n)) xs → xs ≡ filter (λ other. not (other == n)) xs
taken_none n xs i le so_far =
    sym (append-nil xs) ∙ sym (ap (λ t. t ++ filter (λ other. not (other == n)) (drop i xs)) (take_all i xs le)
    ∙ ap (λ r. xs ++ filter (λ other. not (other == n)) r) (drop_all i xs le)) ∙ so_far
