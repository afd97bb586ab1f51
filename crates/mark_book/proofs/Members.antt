-- The entries of a book's members as listings.
use Rattle.std.proofs.Common.{◌≡◌, ℕ, ◌+◌, ◌<◌, ◌≤◌, List, [], ◌∷◌, ◌++◌, length, map, filter, take, drop, add-one, Bool, true, false, refl, sym, ap, ◌∙◌, cond, arith, suc, zero, fold}
use Rattle.std.specs.Prelude.{◌&&◌, ◌||◌, ◌==◌, not, find, is_some, nat_eq, Option, None, Some, option_and_then, if◌then◌else◌}
use Rattle.std.specs.List.{list_any, list_all, AllByRecursion, IsDistinct}
use Rattle.std.specs.Map.{keys_of, values_of, lookup, set_value, remove_entry}
use Rattle.std.specs.Set.{is_member}
use Rattle.std.proofs.lemmas.Bool.{eqb-true, eq-eqb, ne_eqb, false≢true, not-true}
use Rattle.std.proofs.lemmas.List.{length-append}
use Rattle.std.proofs.lemmas.List.Folds.{list_any-append}
use Rattle.std.proofs.lemmas.List.Sums.{fold-append}
use Rattle.indexmap.specs.IndexMap.{insert_entry, insert_all, set_value_at}
use Rattle.norm_base.specs.Settings.{Settings}
use Rattle.norm_base.specs.Members.{receivers_of}
use Rattle.fec_plan.specs.declared.position.Position.{Position}
use Rattle.fec_plan.specs.Points.{reached_by}
use Rattle.norm_send_rules.specs.SenderState.{Listing, unlisted}
use Rattle.norm_send_rules.specs.Watermarks.{is_past}
use Rattle.norm_send_rules.specs.Hearing.{listed_past}
use Rattle.mark_book.specs.Listed.{listing, none_past, unsaid}
use Rattle.mark_book.specs.BookMoves.{past_in, past_count, left_count, left_of}
use Rattle.mark_book.specs.Answers.{once_each}

eq_flip : (a b : ℕ) → nat_eq a b ≡ (b == a)
eq_flip a b = go (nat_eq a b) refl
  where
    go : (c : Bool) → nat_eq a b ≡ c → nat_eq a b ≡ (b == a)
    go true e = e ∙ sym (eq-eqb b a (sym (eqb-true a b e)))
    go false e = e ∙ sym (ne_eqb b a (λ same. false≢true (sym e ∙ eq-eqb a b (sym same))))

-- a listing is past a position where what it says reaches it
pub past_is_reached : (at : Position) (node : ℕ) (o : Option Position) → is_past at (record { node = node; past = o }) ≡ reached_by o at
past_is_reached at node None = refl
past_is_reached at node (Some past) = refl

-- what a node is listed past
pub past_at : (node : ℕ) (es : List (ℕ × Option Position)) → past_in (map listing es) node ≡ option_and_then (λ (o : Option Position). o) (lookup (nat_eq node) es)
past_at node [] = refl
past_at node (e ∷ es) =
    go (e.0 == node) (past_at node es)
    ∙ ap (λ b. option_and_then (λ (o : Option Position). o) (cond b (Some e.1) (lookup (nat_eq node) es))) (sym (eq_flip node e.0))
  where
    go : (b : Bool) → past_in (map listing es) node ≡ option_and_then (λ (o : Option Position). o) (lookup (nat_eq node) es)
        → option_and_then (λ (l : Listing). l.past) (cond b (Some (listing e)) (find (λ (l : Listing). l.node == node) (map listing es)))
        ≡ option_and_then (λ (o : Option Position). o) (cond b (Some e.1) (lookup (nat_eq node) es))
    go true rest = refl
    go false rest = rest

-- whether a node is a member
pub listed_at : (node : ℕ) (es : List (ℕ × Option Position)) → list_any (λ (l : Listing). l.node == node) (map listing es) ≡ is_some (lookup (nat_eq node) es)
listed_at node [] = refl
listed_at node (e ∷ es) =
    go (e.0 == node) (listed_at node es) ∙ ap (λ b. is_some (cond b (Some e.1) (lookup (nat_eq node) es))) (sym (eq_flip node e.0))
  where
    go : (b : Bool) → list_any (λ (l : Listing). l.node == node) (map listing es) ≡ is_some (lookup (nat_eq node) es)
        → (b || list_any (λ (l : Listing). l.node == node) (map listing es)) ≡ is_some (cond b (Some e.1) (lookup (nat_eq node) es))
    go true rest = refl
    go false rest = rest

-- a node that no key is
absent_any : (node : ℕ) (test : Listing → Bool) (es : List (ℕ × Option Position)) → AllByRecursion (λ y. nat_eq node y ≡ false) (keys_of es)
    → list_any (λ (l : Listing). l.node == node && test l) (map listing es) ≡ false
absent_any node test [] all = refl
absent_any node test (e ∷ es) all = ap (λ b. (b && test (listing e)) || list_any (λ (l : Listing). l.node == node && test l) (map listing es)) (sym (eq_flip node e.0) ∙ all.0) ∙ absent_any node test es all.1

absent_raised : (node : ℕ) (at : Position) (es : List (ℕ × Option Position)) → AllByRecursion (λ y. nat_eq node y ≡ false) (keys_of es)
    → map (listed_past node at) (map listing es) ≡ map listing es
absent_raised node at [] all = refl
absent_raised node at (e ∷ es) all = go (e.0 == node) (sym (eq_flip node e.0) ∙ all.0) (absent_raised node at es all.1)
  where
    go : (b : Bool) → b ≡ false → map (listed_past node at) (map listing es) ≡ map listing es
        → (elim (b && is_past at (listing e)) as (λ _. Listing) [ true ↦ listing e | false ↦ elim b [ true ↦ record (listing e) { past = Some at } | false ↦ listing e ] ])
        ∷ map (listed_past node at) (map listing es) ≡ listing e ∷ map listing es
    go true is rest = absurd (false≢true (sym is))
    go false is rest = ap (λ (ls : List Listing). listing e ∷ ls) rest

absent_left : (node : ℕ) (es : List (ℕ × Option Position)) → AllByRecursion (λ y. nat_eq node y ≡ false) (keys_of es)
    → filter (λ (l : Listing). not (l.node == node)) (map listing es) ≡ map listing es
absent_left node [] all = refl
absent_left node (e ∷ es) all =
    ap (λ b. cond (not b) (listing e ∷ filter (λ (l : Listing). not (l.node == node)) (map listing es)) (filter (λ (l : Listing). not (l.node == node)) (map listing es))) (sym (eq_flip node e.0) ∙ all.0)
    ∙ ap (λ (ls : List Listing). listing e ∷ ls) (absent_left node es all.1)

-- keys apart from one that is equal to the first
apart_from : (node k : ℕ) (ks : List ℕ) → (k == node) ≡ true → AllByRecursion (λ y. nat_eq k y ≡ false) ks → AllByRecursion (λ y. nat_eq node y ≡ false) ks
apart_from node k [] e all = tt
apart_from node k (y ∷ ks) e all = (ap (λ n. nat_eq n y) (sym (eqb-true k node e)) ∙ all.0, apart_from node k ks e all.1)

-- whether an acknowledgement is news, by what its node is listed past
abbrev pub rises_from : Position → Option (Option Position) → Bool
rises_from at None = false
rises_from at (Some past) = not (reached_by past at)

or_false : (b : Bool) → (b || false) ≡ b
or_false true = refl
or_false false = refl

pub rises_at : (node : ℕ) (at : Position) (es : List (ℕ × Option Position)) → IsDistinct nat_eq (keys_of es)
    → list_any (λ (l : Listing). l.node == node && not (is_past at l)) (map listing es) ≡ rises_from at (lookup (nat_eq node) es)
unfolding IsDistinct
rises_at node at [] distinct = refl
rises_at node at (e ∷ es) distinct =
    go (e.0 == node) refl (rises_at node at es distinct.1)
    ∙ ap (λ b. rises_from at (cond b (Some e.1) (lookup (nat_eq node) es))) (sym (eq_flip node e.0))
  where
    go : (b : Bool) → (e.0 == node) ≡ b
        → list_any (λ (l : Listing). l.node == node && not (is_past at l)) (map listing es) ≡ rises_from at (lookup (nat_eq node) es)
        → ((b && not (is_past at (listing e))) || list_any (λ (l : Listing). l.node == node && not (is_past at l)) (map listing es))
        ≡ rises_from at (cond b (Some e.1) (lookup (nat_eq node) es))
    go true is rest =
        ap (λ b. not (is_past at (listing e)) || b) (absent_any node (λ l. not (is_past at l)) es (apart_from node e.0 (keys_of es) is distinct.0))
        ∙ or_false (not (is_past at (listing e))) ∙ ap not (past_is_reached at e.0 e.1)
    go false is rest = rest

-- a member's listing rises
pub raised_at : (node : ℕ) (at : Position) (es : List (ℕ × Option Position)) → IsDistinct nat_eq (keys_of es)
    → rises_from at (lookup (nat_eq node) es) ≡ true
    → map listing (set_value (nat_eq node) es (Some at)) ≡ map (listed_past node at) (map listing es)
unfolding IsDistinct
raised_at node at [] distinct news = absurd (false≢true news)
raised_at node at (e ∷ es) distinct news =
    ap (λ b. map listing (cond b ((e.0, Some at) ∷ es) (e ∷ set_value (nat_eq node) es (Some at)))) (eq_flip node e.0)
    ∙ go (e.0 == node) refl (ap (λ b. rises_from at (cond b (Some e.1) (lookup (nat_eq node) es))) (sym (eq_flip node e.0)) ∙ news) (raised_at node at es distinct.1)
  where
    here : (b : Bool) → b ≡ false
        → record { node = e.0; past = Some at }
        ≡ (elim b as (λ _. Listing) [ true ↦ listing e | false ↦ record (listing e) { past = Some at } ])
    here true is = absurd (false≢true (sym is))
    here false is = refl

    go : (b : Bool) → (e.0 == node) ≡ b → rises_from at (cond b (Some e.1) (lookup (nat_eq node) es)) ≡ true
        → (rises_from at (lookup (nat_eq node) es) ≡ true → map listing (set_value (nat_eq node) es (Some at)) ≡ map (listed_past node at) (map listing es))
        → map listing (cond b ((e.0, Some at) ∷ es) (e ∷ set_value (nat_eq node) es (Some at)))
        ≡ (elim (b && is_past at (listing e)) as (λ _. Listing) [ true ↦ listing e | false ↦ elim b [ true ↦ record (listing e) { past = Some at } | false ↦ listing e ] ])
        ∷ map (listed_past node at) (map listing es)
    go true is news rest =
        ap (λ (ls : List Listing). record { node = e.0; past = Some at } ∷ ls) (sym (absent_raised node at es (apart_from node e.0 (keys_of es) is distinct.0)))
        ∙ ap (λ (l : Listing). l ∷ map (listed_past node at) (map listing es)) (here (is_past at (listing e)) (past_is_reached at e.0 e.1 ∙ not-true (reached_by e.1 at) news))
    go false is news rest = ap (λ (ls : List Listing). listing e ∷ ls) (rest news)

-- a member is struck
pub struck_at : (node : ℕ) (es : List (ℕ × Option Position)) → IsDistinct nat_eq (keys_of es)
    → map listing (remove_entry (nat_eq node) es) ≡ filter (λ (l : Listing). not (l.node == node)) (map listing es)
unfolding IsDistinct
struck_at node [] distinct = refl
struck_at node (e ∷ es) distinct =
    ap (λ b. map listing (cond b es (e ∷ remove_entry (nat_eq node) es))) (eq_flip node e.0) ∙ go (e.0 == node) refl (struck_at node es distinct.1)
  where
    go : (b : Bool) → (e.0 == node) ≡ b
        → map listing (remove_entry (nat_eq node) es) ≡ filter (λ (l : Listing). not (l.node == node)) (map listing es)
        → map listing (cond b es (e ∷ remove_entry (nat_eq node) es))
        ≡ cond (not b) (listing e ∷ filter (λ (l : Listing). not (l.node == node)) (map listing es)) (filter (λ (l : Listing). not (l.node == node)) (map listing es))
    go true is rest = sym (absent_left node es (apart_from node e.0 (keys_of es) is distinct.0))
    go false is rest = ap (λ (ls : List Listing). listing e ∷ ls) rest

-- how many are past a position, and how many not
pub past_counted : (at : Position) (es : List (ℕ × Option Position)) → past_count (map listing es) at ≡ length (filter (λ o. reached_by o at) (values_of es))
past_counted at [] = refl
past_counted at (e ∷ es) =
    ap (λ b. length (cond b (listing e ∷ filter (is_past at) (map listing es)) (filter (is_past at) (map listing es)))) (past_is_reached at e.0 e.1)
    ∙ go (reached_by e.1 at) (past_counted at es)
  where
    go : (b : Bool) → past_count (map listing es) at ≡ length (filter (λ o. reached_by o at) (values_of es))
        → length (cond b (listing e ∷ filter (is_past at) (map listing es)) (filter (is_past at) (map listing es)))
        ≡ length (cond b (e.1 ∷ filter (λ o. reached_by o at) (values_of es)) (filter (λ o. reached_by o at) (values_of es)))
    go true rest = ap suc rest
    go false rest = rest

pub left_counted : (at : Position) (es : List (ℕ × Option Position)) → left_count (map listing es) at ≡ length (filter (λ o. not (reached_by o at)) (values_of es))
left_counted at [] = refl
left_counted at (e ∷ es) =
    ap (λ b. length (cond (not b) (listing e ∷ filter (λ l. not (is_past at l)) (map listing es)) (filter (λ l. not (is_past at l)) (map listing es)))) (past_is_reached at e.0 e.1)
    ∙ go (not (reached_by e.1 at)) (left_counted at es)
  where
    go : (b : Bool) → left_count (map listing es) at ≡ length (filter (λ o. not (reached_by o at)) (values_of es))
        → length (cond b (listing e ∷ filter (λ l. not (is_past at l)) (map listing es)) (filter (λ l. not (is_past at l)) (map listing es)))
        ≡ length (cond b (e.1 ∷ filter (λ o. not (reached_by o at)) (values_of es)) (filter (λ o. not (reached_by o at)) (values_of es)))
    go true rest = ap suc rest
    go false rest = rest

-- those that are left, one more passed over or taken
pub left_behind : (at : Position) (e : ℕ × Option Position) (es : List (ℕ × Option Position)) → reached_by e.1 at ≡ true
    → left_of (map listing (e ∷ es)) at ≡ left_of (map listing es) at
left_behind at e es is =
    ap (λ b. map (λ (l : Listing). l.node) (cond (not b) (listing e ∷ filter (λ l. not (is_past at l)) (map listing es)) (filter (λ l. not (is_past at l)) (map listing es))))
    (past_is_reached at e.0 e.1 ∙ is)

pub left_here : (at : Position) (e : ℕ × Option Position) (es : List (ℕ × Option Position)) → reached_by e.1 at ≡ false
    → left_of (map listing (e ∷ es)) at ≡ e.0 ∷ left_of (map listing es) at
left_here at e es is =
    ap (λ b. map (λ (l : Listing). l.node) (cond (not b) (listing e ∷ filter (λ l. not (is_past at l)) (map listing es)) (filter (λ l. not (is_past at l)) (map listing es))))
    (past_is_reached at e.0 e.1 ∙ is)

-- all are past a position
pub all_past_at : (at : Position) (es : List (ℕ × Option Position)) → list_all (is_past at) (map listing es) ≡ list_all (λ o. reached_by o at) (values_of es)
all_past_at at [] = refl
all_past_at at (e ∷ es) = rw (past_is_reached at e.0 e.1, all_past_at at es)

inserted_once : (done : List ℕ) (node : ℕ)
    → insert_entry nat_eq (map none_past done) node None ≡ map none_past (if is_member nat_eq done node then done else done ++ node ∷ [])
inserted_once [] node = refl
inserted_once (d ∷ done) node = go (nat_eq node d) (is_member nat_eq done node) (inserted_once done node)
  where
    go : (b c : Bool) → insert_entry nat_eq (map none_past done) node None ≡ map none_past (if c then done else done ++ node ∷ [])
        → (if b then (d, None) ∷ map none_past done else none_past d ∷ insert_entry nat_eq (map none_past done) node None)
        ≡ map none_past (if (b || c) then d ∷ done else d ∷ (done ++ node ∷ []))
    go true c rest = refl
    go false true rest = ap (λ xs. none_past d ∷ xs) rest
    go false false rest = ap (λ xs. none_past d ∷ xs) rest

inserted_from : (done nodes : List ℕ)
    → insert_all nat_eq (map none_past done) (map none_past nodes)
    ≡ map none_past (fold (λ done node. if is_member nat_eq done node then done else done ++ node ∷ []) done nodes)
inserted_from done [] = refl
inserted_from done (node ∷ nodes) =
    ap (λ es. insert_all nat_eq es (map none_past nodes)) (inserted_once done node)
    ∙ inserted_from (if is_member nat_eq done node then done else done ++ node ∷ []) nodes

unlisted_entries : (nodes : List ℕ) → map listing (map none_past nodes) ≡ unlisted nodes
unlisted_entries [] = refl
unlisted_entries (node ∷ nodes) = ap (λ (ls : List Listing). record { node = node; past = None } ∷ ls) (unlisted_entries nodes)

-- the members as a book begins
pub begun_entries : (nodes : List ℕ) → map listing (insert_all nat_eq [] (map none_past nodes)) ≡ unlisted (once_each nodes)
begun_entries nodes = ap (map listing) (inserted_from [] nodes) ∙ unlisted_entries (once_each nodes)

-- nodes that differ stand once each
once_longer : (done : List ℕ) (node : ℕ) → length (if is_member nat_eq done node then done else done ++ node ∷ []) ≤ length done + 1
once_longer done node = go (is_member nat_eq done node)
  where
    go : (b : Bool) → length (if b then done else done ++ node ∷ []) ≤ length done + 1
    go true = omega arith
    go false = omega (arith, length-append done (node ∷ []))

once_kept : (done : List ℕ) (node : ℕ) → length done ≤ length (if is_member nat_eq done node then done else done ++ node ∷ [])
once_kept done node = go (is_member nat_eq done node)
  where
    go : (b : Bool) → length done ≤ length (if b then done else done ++ node ∷ [])
    go true = omega arith
    go false = omega (arith, length-append done (node ∷ []))

once_most : (done nodes : List ℕ)
    → length (fold (λ done node. if is_member nat_eq done node then done else done ++ node ∷ []) done nodes) ≤ length done + length nodes
once_most done [] = omega arith
once_most done (node ∷ nodes) =
    let one = once_longer done node in
    let rest = once_most (if is_member nat_eq done node then done else done ++ node ∷ []) nodes in
    omega (arith, one, rest)

once_least : (done nodes : List ℕ)
    → length done ≤ length (fold (λ done node. if is_member nat_eq done node then done else done ++ node ∷ []) done nodes)
once_least done [] = omega arith
once_least done (node ∷ nodes) =
    let one = once_kept done node in
    let rest = once_least (if is_member nat_eq done node then done else done ++ node ∷ []) nodes in
    omega (arith, one, rest)

pub at_most_once : (nodes : List ℕ) → length (once_each nodes) ≤ length nodes
at_most_once nodes = let le = once_most [] nodes in omega (arith, le)

pub once_some : (nodes : List ℕ) → 0 < length nodes → 0 < length (once_each nodes)
once_some [] some = absurd (omega arith)
once_some (node ∷ nodes) some = let le = once_least (node ∷ []) nodes in omega (arith, le)

-- the receivers of a profile differ
not_among : (p : Settings) (i n : ℕ) → p.sender + 1 + i ≤ n → is_member nat_eq (receivers_of p i) n ≡ false
not_among p zero n le = refl
not_among p (suc i) n le =
    list_any-append (nat_eq n) (receivers_of p i) ((p.sender + 1 + i) ∷ [])
    ∙ ap (λ b. b || (nat_eq n (p.sender + 1 + i) || false)) (not_among p i n (omega arith))
    ∙ ap (λ b. b || false) (ne_eqb n (p.sender + 1 + i) (λ same. omega arith))

once_of : (p : Settings) (i : ℕ) → once_each (receivers_of p i) ≡ receivers_of p i
once_of p zero = refl
once_of p (suc i) =
    fold-append (λ (done : List ℕ) (node : ℕ). if is_member nat_eq done node then done else done ++ node ∷ []) [] (receivers_of p i) ((p.sender + 1 + i) ∷ [])
    ∙ ap (λ done. if is_member nat_eq done (p.sender + 1 + i) then done else done ++ (p.sender + 1 + i) ∷ []) (once_of p i)
    ∙ ap (λ b. if b then receivers_of p i else receivers_of p i ++ (p.sender + 1 + i) ∷ []) (not_among p i (p.sender + 1 + i) (omega arith))

pub receivers_once : (p : Settings) (nodes : List ℕ) → nodes ≡ receivers_of p p.receivers → once_each nodes ≡ nodes
receivers_once p nodes is = ap once_each is ∙ once_of p p.receivers ∙ sym is

receivers_count : (p : Settings) (i : ℕ) → length (receivers_of p i) ≡ i
receivers_count p zero = refl
receivers_count p (suc i) = let rest = receivers_count p i in omega (arith, rest, length-append (receivers_of p i) ((p.sender + 1 + i) ∷ []))

pub receivers_many : (p : Settings) (nodes : List ℕ) → nodes ≡ receivers_of p p.receivers → length nodes ≡ p.receivers
receivers_many p nodes is = ap length is ∙ receivers_count p p.receivers

-- forgetting one more
unsaid_at : (es : List (ℕ × Option Position)) (i : ℕ) → i < length es
    → set_value_at (map unsaid (take i es) ++ drop i es) i None ≡ map unsaid (take (suc i) es) ++ drop (suc i) es
unsaid_at [] i lt = absurd (omega arith)
unsaid_at (e ∷ es) zero lt = refl
unsaid_at (e ∷ es) (suc i) lt = ap (λ (xs : List (ℕ × Option Position)). unsaid e ∷ xs) (unsaid_at es i (omega arith))

pub unsaid_more : (es now : List (ℕ × Option Position)) (i : ℕ) → i < length es → now ≡ map unsaid (take i es) ++ drop i es
    → set_value_at now i None ≡ map unsaid (take (i + 1) es) ++ drop (i + 1) es
unsaid_more es now i lt is =
    ap (λ (xs : List (ℕ × Option Position)). set_value_at xs i None) is ∙ unsaid_at es i lt
    ∙ ap (λ n. map unsaid (take n es) ++ drop n es) (sym (add-one i))

pub unsaid_keys : (es : List (ℕ × Option Position)) → keys_of (map unsaid es) ≡ keys_of es
unsaid_keys [] = refl
unsaid_keys (e ∷ es) = ap (λ (ks : List ℕ). e.0 ∷ ks) (unsaid_keys es)

pub unsaid_keys_at : (es : List (ℕ × Option Position)) (i : ℕ) → keys_of (map unsaid (take i es) ++ drop i es) ≡ keys_of es
unsaid_keys_at [] zero = refl
unsaid_keys_at [] (suc i) = refl
unsaid_keys_at (e ∷ es) zero = refl
unsaid_keys_at (e ∷ es) (suc i) = ap (λ (ks : List ℕ). e.0 ∷ ks) (unsaid_keys_at es i)

pub unsaid_length : (es : List (ℕ × Option Position)) (i : ℕ) → length (map unsaid (take i es) ++ drop i es) ≡ length es
unsaid_length [] zero = refl
unsaid_length [] (suc i) = refl
unsaid_length (e ∷ es) zero = refl
unsaid_length (e ∷ es) (suc i) = ap suc (unsaid_length es i)

pub forgotten_entries : (es : List (ℕ × Option Position)) → map listing (map unsaid es) ≡ unlisted (map (λ (l : Listing). l.node) (map listing es))
forgotten_entries [] = refl
forgotten_entries (e ∷ es) = ap (λ (ls : List Listing). record { node = e.0; past = None } ∷ ls) (forgotten_entries es)
