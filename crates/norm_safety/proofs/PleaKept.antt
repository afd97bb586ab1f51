-- What a NACK counted is in the round that it joined until that closes, or was dropped.
use Rattle.std.proofs.Common.{◌≡◌, ℕ, zero, suc, ◌+◌, ◌-◌, ◌<◌, ◌≤◌, cond, List, [], ◌∷◌, ◌++◌, length, map, Bool, true, false, Option, None, Some, refl, sym, ap, ◌∙◌, subst, arith, ◌⊎◌, inl, inr}
use Rattle.std.specs.Prelude.{Contains, filter, flat_map, min, slice_get, not, nat_lt, ◌==◌, ◌&&◌, ◌||◌}
use Rattle.std.specs.List.{AllByRecursion, list_all}
use Rattle.std.proofs.lemmas.Bool.Decides.{Decides-eqb, Decides-ltb}
use Rattle.norm_base.specs.Settings.{Settings, InRange}
use Rattle.fec_plan.specs.Partition.{Cut, source_symbols, symbol_number}
use Rattle.fec_plan.specs.Points.{Point, point_before}
use Rattle.fec_plan.proofs.PointLemmas.{point_before_is, behind_point}
use Rattle.norm_ext.specs.Asking.{named, Count, asked_counts}
use Rattle.norm_ext.specs.Requests.{Request}
use Rattle.norm_order.specs.Entries.{Entry}
use Rattle.norm_order.specs.Shapes.{Shape, shape_of, shapes_of, closed_in, is_full}
use Rattle.norm_order.proofs.UptoLemmas.{nothing_there, same_entry}
use Rattle.norm_order.proofs.GoingOnLemmas.{entry_source}
use Rattle.fec_plan.specs.declared.position.Position.{Position}
use Rattle.norm_receive_rules.specs.Holding.{Held}
use Rattle.norm_receive_rules.specs.ReceiverState.{ReceiverState}
use Rattle.norm_send_rules.specs.SenderState.{SenderState, Instance, Asked, Round}
use Rattle.norm_send_rules.specs.InWindow.{last_index, current_shapes}
use Rattle.norm_send_rules.specs.Asking.{is_kept, counts_of}
use Rattle.norm_send_rules.specs.Closing.{round_closed}
use Rattle.norm_send_rules.specs.Hearing.{asked_now}
use Rattle.norm_send_rules.specs.Reached.{IsReached}
use Rattle.norm_safety.specs.RepairSuffices.{Plea, completes, ids_in}
use Rattle.norm_safety.proofs.ClosingLemmas.{closing_completes}
use Rattle.norm_safety.proofs.EntryLemmas.{clash}
use Rattle.norm_safety.proofs.GoesOn.{OrderLater, later_entry}
use Rattle.norm_safety.proofs.HeldPasses.{HeldPass}
use Rattle.norm_safety.proofs.TickNoted.{was_sent}
use Rattle.norm_safety.proofs.WorldHolds.{all_later}
use Rattle.norm_safety.specs.AsItCame.{asked_yet}
use Rattle.norm_safety.proofs.AsItCame.{order_then}
use Rattle.norm_safety.proofs.PleaDefs.{Lacks}
use Rattle.norm_safety.proofs.ShapesThen.{Longer, Grew, grew_itself, grew_both}

-- ---- members of lists

-- a member
abbrev pub IsIn : {X : Type 0} → List X → X → Type 0
IsIn [] x = ⊥
IsIn (y ∷ ys) x = (y ≡ x) ⊎ IsIn ys x

pub in_of : {X : Type 0} (xs : List X) (x : X) → Contains xs x → IsIn xs x
in_of [] x has = absurd (omega (arith, has.1))
in_of (y ∷ xs) x (zero, lt, is) = inl is
in_of (y ∷ xs) x (suc k, lt, is) = inr (in_of xs x (k, omega (arith, lt), is))

pub contains_of : {X : Type 0} (xs : List X) (x : X) → IsIn xs x → Contains xs x
contains_of [] x has = absurd has
contains_of (y ∷ xs) x (inl is) = (zero, omega arith, is)
contains_of (y ∷ xs) x (inr has) = let more = contains_of xs x has in (suc more.0, (let lt = more.1 in omega (arith, lt)), more.2)

pub in_front : {X : Type 0} (xs ys : List X) (x : X) → IsIn xs x → IsIn (xs ++ ys) x
in_front [] ys x has = absurd has
in_front (y ∷ xs) ys x (inl is) = inl is
in_front (y ∷ xs) ys x (inr has) = inr (in_front xs ys x has)

pub in_behind : {X : Type 0} (xs ys : List X) (x : X) → IsIn ys x → IsIn (xs ++ ys) x
in_behind [] ys x has = has
in_behind (y ∷ xs) ys x has = inr (in_behind xs ys x has)

pub in_map : {X Y : Type 0} (f : X → Y) (xs : List X) (x : X) → IsIn xs x → IsIn (map f xs) (f x)
in_map f [] x has = absurd has
in_map f (y ∷ xs) x (inl is) = inl (ap f is)
in_map f (y ∷ xs) x (inr has) = inr (in_map f xs x has)

in_flat : {X Y : Type 0} (f : X → List Y) (xs : List X) (x : X) (y : Y) → IsIn xs x → IsIn (f x) y → IsIn (flat_map f xs) y
in_flat f [] x y has own = absurd has
in_flat {X} {Y} f (z ∷ xs) x y (inl is) own =
    let F : X → Type 0 = λ w. IsIn (f w) y in in_front (f z) (flat_map f xs) y (subst F (sym is) own)
in_flat f (z ∷ xs) x y (inr has) own = in_behind (f z) (flat_map f xs) y (in_flat f xs x y has own)

in_filter : {X : Type 0} (test : X → Bool) (xs : List X) (x : X) → test x ≡ true → IsIn xs x → IsIn (filter test xs) x
in_filter test [] x e has = absurd has
in_filter {X} test (y ∷ xs) x e has = go (test y) refl has (in_filter test xs x e)
  where
    go : (b : Bool) → test y ≡ b → (y ≡ x) ⊎ IsIn xs x → (IsIn xs x → IsIn (filter test xs) x) → IsIn (cond b (y ∷ filter test xs) (filter test xs)) x
    go true f (inl is) more = inl is
    go true f (inr has) more = inr (more has)
    go false f (inl is) more = absurd (clash (sym f ∙ ap test is ∙ e))
    go false f (inr has) more = more has

pub all_tested : {X : Type 0} (test : X → Bool) (xs : List X) → ((x : X) → IsIn xs x → test x ≡ true) → list_all test xs ≡ true
all_tested test [] h = refl
all_tested test (x ∷ xs) h = ap (λ (b : Bool). b && list_all test xs) (h x (inl refl)) ∙ all_tested test xs (λ y has. h y (inr has))

pub all_is : {X : Type 0} (P : X → Type 0) (xs : List X) (x : X) → AllByRecursion P xs → IsIn xs x → P x
all_is P [] x all has = absurd has
all_is P (y ∷ xs) x all (inl is) = subst P is all.0
all_is P (y ∷ xs) x all (inr has) = all_is P xs x all.1 has

-- ---- a block of an order that goes on

shape_found : (p : Settings) (order : List Entry) (i : ℕ) (x : Entry) → slice_get order i ≡ Some x → slice_get (shapes_of p order) i ≡ Some (shape_of p x.object)
shape_found p [] i x e = absurd (nothing_there x e)
shape_found p (y ∷ order) zero x e = ap (λ (z : Entry). Some (shape_of p z.object)) (same_entry y x e)
shape_found p (y ∷ order) (suc i) x e = shape_found p order i x e

grew_found : (was now : List Shape) (i : ℕ) (s t : Shape) → Grew was now → slice_get was i ≡ Some s → slice_get now i ≡ Some t → Longer s t
grew_found [] now i s t h e f = absurd (none s e)
  where
    none : (s : Shape) → None ≡ Some s → ⊥
    none s e = cc
grew_found (x ∷ was) [] i s t h e f = absurd (none t f)
  where
    none : (s : Shape) → None ≡ Some s → ⊥
    none s e = cc
grew_found (x ∷ was) (y ∷ now) zero s t h e f =
    let L : Shape → Type 0 = λ a. Longer a t in
    let M : Shape → Type 0 = λ b. Longer x b in
    subst L (same x s e) (subst M (same y t f) (first was h))
  where
    same : (a b : Shape) → Some a ≡ Some b → a ≡ b
    same a b e = cc

    first : (was : List Shape) → Grew (x ∷ was) (y ∷ now) → Longer x y
    first [] h = h
    first (z ∷ was) h = let M : Shape → Type 0 = λ b. Longer x b in subst M (sym h.0) (record { cut = refl; closed = omega arith; info = refl })
grew_found (x ∷ []) (y ∷ now) (suc i) s t h e f = absurd (none s e)
  where
    none : (s : Shape) → None ≡ Some s → ⊥
    none s e = cc
grew_found (x ∷ z ∷ was) (y ∷ now) (suc i) s t h e f = grew_found (z ∷ was) now i s t h.1 e f

-- a block that is full stays so
still_full : (s t : Shape) (block : ℕ) → Longer s t → is_full s block ≡ true → is_full t block ≡ true
still_full s t block longer full =
    let is = (Decides-eqb (closed_in s block) (source_symbols s.cut block)).0 full in
    go s.cut t.cut (sym longer.cut) s.closed t.closed longer.closed is
  where
    go : (c d : Cut) → c ≡ d → (was now : ℕ) → was ≤ now
        → min (source_symbols c block) (was - symbol_number c block 0) ≡ source_symbols c block
        → (min (source_symbols d block) (now - symbol_number d block 0) == source_symbols d block) ≡ true
    go c d e was now le is =
        let F : Cut → Type 0 = λ x. (min (source_symbols x block) (now - symbol_number x block 0) == source_symbols x block) ≡ true in
        subst F e ((Decides-eqb (min (source_symbols c block) (now - symbol_number c block 0)) (source_symbols c block)).1 (omega (arith, le, is)))

-- what a receiver lacks of a block of the order is so as that goes on
pub lacks_on : (p : Settings) (order later : List Entry) (r : ReceiverState) (b : Point) (lack : ℕ) → OrderLater order later → Grew (shapes_of p order) (shapes_of p later)
    → Lacks p order r b lack → Lacks p later r b lack
lacks_on p order later r b lack on grew h =
    let now = later_entry order later b.index h.entry on h.found in
    let longer = grew_found (shapes_of p order) (shapes_of p later) b.index (shape_of p h.entry.object) (shape_of p now.0.object) grew
    (shape_found p order b.index h.entry h.found) (shape_found p later b.index now.0 now.1) in
    let S : Cut → Type 0 = λ c. 0 < source_symbols c b.block in
    let E : Cut → Type 0 = λ c. source_symbols c b.block ≤ length (ids_in b (map (λ (x : Held). x.at) r.holding.held)) + lack in
    record {
      entry = now.0;
      found = now.1;
      full = still_full (shape_of p h.entry.object) (shape_of p now.0.object) b.block longer h.full;
      some = subst S (sym longer.cut) h.some;
      enough = subst E (sym longer.cut) h.enough;
    }

-- ---- in the round, or dropped

-- A block that a NACK counts is counted in the round, as it came, by no less than its receiver lacks, which holds what was sent.
pub record InRound (p : Settings) (s : SenderState) (x : Plea) (b : Point) : Type 0 where
  pub then : SenderState
  pub reached : IsReached p then
  pub grew : Grew (current_shapes p then) (current_shapes p s)
  pub request : Request
  pub has : IsIn (asked_yet s) (asked_now p then request)
  pub lack : ℕ
  pub kept : IsIn (filter (λ (c : Count). is_kept (current_shapes p then) then.current.drop c.of) (asked_counts (named p (last_index then) request)))
      (record { of = b; lacking = lack })
  pub lacks : Lacks p s.current.order x.receiver b lack
  pub sent : HeldPass (was_sent s) x.receiver.holding

-- or it was dropped
abbrev pub Awaits : Settings → SenderState → Plea → Point → Type 0
Awaits p s x b = (point_before b s.current.drop ≡ true) ⊎ InRound p s x b

-- how a sender goes on in its instance while its round stays open
pub record RoundOn (p : Settings) (s t : SenderState) : Type 0 where
  pub order : OrderLater s.current.order t.current.order
  pub grew : Grew (current_shapes p s) (current_shapes p t)
  pub drop : point_before t.current.drop s.current.drop ≡ false
  pub more : List Asked
  pub asked : asked_yet t ≡ asked_yet s ++ more
  pub sent : (at : Position) → was_sent s at ≡ true → was_sent t at ≡ true

pub held_on : (s t : SenderState) (r : ReceiverState) → ((at : Position) → was_sent s at ≡ true → was_sent t at ≡ true)
    → HeldPass (was_sent s) r.holding → HeldPass (was_sent t) r.holding
held_on s t r sent h = all_later (λ (x : Held). was_sent s x.at ≡ true) (λ (x : Held). was_sent t x.at ≡ true) r.holding.held (λ x n. sent x.at n) h

-- what lies before a drop point lies before a further one
before_on : (b d e : Point) → point_before e d ≡ false → point_before b d ≡ true → point_before b e ≡ true
before_on b d e on before = go (point_before b e) refl
  where
    both : (d.index < e.index) ⊎ ((d.index ≡ e.index) × (d.block ≤ e.block)) → (e.index < b.index) ⊎ ((e.index ≡ b.index) × (e.block ≤ b.block))
        → (b.index < d.index) ⊎ ((b.index ≡ d.index) × (b.block < d.block)) → ⊥
    both (inl x) (inl y) (inl z) = omega arith
    both (inl x) (inl y) (inr z) = (let a = z.0 in omega arith)
    both (inl x) (inr y) (inl z) = (let a = y.0 in omega arith)
    both (inl x) (inr y) (inr z) = (let a = y.0 in let c = z.0 in omega arith)
    both (inr x) (inl y) (inl z) = (let a = x.0 in omega arith)
    both (inr x) (inl y) (inr z) = (let a = x.0 in let c = z.0 in omega arith)
    both (inr x) (inr y) (inl z) = (let a = x.0 in let c = y.0 in omega arith)
    both (inr x) (inr y) (inr z) = (let a = x.1 in let c = y.1 in let f = z.1 in omega arith)

    go : (t : Bool) → point_before b e ≡ t → t ≡ true
    go true f = refl
    go false f = absurd (both (behind_point e d on) (behind_point b e f) (point_before_is b d before))

pub awaits_on : (p : Settings) (s t : SenderState) (x : Plea) (b : Point) → RoundOn p s t → Awaits p s x b → Awaits p t x b
awaits_on p s t x b on (inl before) = inl (before_on b s.current.drop t.current.drop on.drop before)
awaits_on p s t x b on (inr h) =
    let A : List Asked → Type 0 = λ asked. IsIn asked (asked_now p h.then h.request) in
    inr (record {
      then = h.then;
      reached = h.reached;
      grew = grew_both (current_shapes p h.then) (current_shapes p s) (current_shapes p t) h.grew on.grew;
      request = h.request;
      has = subst A (sym on.asked) (in_front (asked_yet s) on.more (asked_now p h.then h.request) h.has);
      lack = h.lack;
      kept = h.kept;
      lacks = lacks_on p s.current.order t.current.order x.receiver b h.lack on.order on.grew h.lacks;
      sent = held_on s t x.receiver on.sent h.sent;
    })

-- As a round closes, what it wants completes each block that it counts so.
pub closing_of : (p : Settings) → InRange p → (s : SenderState) (r : Round) (x : Plea) (b : Point) → s.round ≡ Some r → Awaits p s x b
    → completes p (round_closed p r s) (round_closed p r s).wants x.receiver b ≡ true
closing_of p range s r x b open_round (inl before) = or_first _ _ before
  where
    or_first : (a c : Bool) → a ≡ true → (a || c) ≡ true
    or_first true c e = refl
    or_first false c e = absurd (clash e)
closing_of p range s r x b open_round (inr h) =
    let a : Asked = asked_now p h.then h.request in
    let c : Count = record { of = b; lacking = h.lack } in
    let asked_in : Option Round → List Asked = λ o. elim o [ Some y ↦ y.asked | None ↦ [] ] in
    let A : List Asked → Type 0 = λ asked. IsIn asked (asked_now p h.then h.request) in
    let there = subst A (ap asked_in open_round) h.has in
    let then_is = order_then p range h.then h.request (current_shapes p s) h.reached h.grew in
    let C : List Shape → Type 0 = λ shapes. IsIn (filter (λ (c : Count). is_kept shapes h.then.current.drop c.of) (asked_counts (named p (last_index h.then) h.request))) c in
    let own : IsIn (counts_of (current_shapes p s) a) c = subst C (sym then_is) h.kept in
    let has = contains_of (flat_map (counts_of (current_shapes p s)) r.asked) c (in_flat (counts_of (current_shapes p s)) r.asked a c there own) in
    closing_completes p s r x.receiver c (shape_of p h.lacks.entry.object) has (shape_found p s.current.order b.index h.lacks.entry h.lacks.found) h.lacks.full h.lacks.enough h.sent

-- ---- a NACK joins

-- what a NACK counts stands in the round that it joins
pub joins_round : (p : Settings) → InRange p → (s t : SenderState) (x : Plea) (b : Point) (request : Request) (requests : List Request) (lack : ℕ) → IsReached p s
    → last_index s ≤ b.index + 32767 → b.index ≤ last_index s + 32767 → IsIn requests request → Lacks p s.current.order x.receiver b lack
    → ((known : ℕ) → known ≤ b.index + 32767 → b.index ≤ known + 32767 → Contains (asked_counts (named p known request)) (record { of = b; lacking = lack }))
    → HeldPass (was_sent s) x.receiver.holding
    → t.current ≡ s.current → asked_yet t ≡ asked_yet s ++ map (asked_now p s) requests → ((at : Position) → was_sent s at ≡ true → was_sent t at ≡ true)
    → Awaits p t x b
joins_round p range s t x b request requests lack reached low high has lacks names held same asked sent = go (point_before b s.current.drop) refl
  where
    c : Count
    c = record { of = b; lacking = lack }

    closed : nat_lt 0 (closed_in (shape_of p lacks.entry.object) b.block) ≡ true
    closed =
        let is = (Decides-eqb (closed_in (shape_of p lacks.entry.object) b.block) (source_symbols (shape_of p lacks.entry.object).cut b.block)).0 lacks.full in
        let some = lacks.some in
        (Decides-ltb 0 (closed_in (shape_of p lacks.entry.object) b.block)).1 (omega (arith, is, some))

    go : (before : Bool) → point_before b s.current.drop ≡ before → Awaits p t x b
    go true e = inl (ap (λ (i : Instance). point_before b i.drop) same ∙ e)
    go false e =
        let A : List Asked → Type 0 = λ all. IsIn all (asked_now p s request) in
        let G : Instance → Type 0 = λ i. Grew (current_shapes p s) (shapes_of p i.order) in
        let L : Instance → Type 0 = λ i. Lacks p i.order x.receiver b lack in
        let near = in_of (asked_counts (named p (last_index s) request)) c (names (last_index s) low high) in
        let test : is_kept (current_shapes p s) s.current.drop b ≡ true =
        both _ _ (ap not e) (entry_source p s.current.order b.index (λ y. nat_lt 0 (closed_in y b.block)) lacks.entry lacks.found closed) in
        inr (record {
          then = s;
          reached = reached;
          grew = subst G (sym same) (grew_itself (current_shapes p s));
          request = request;
          has = subst A (sym asked) (in_behind (asked_yet s) (map (asked_now p s) requests) (asked_now p s request) (in_map (asked_now p s) requests request has));
          lack = lack;
          kept = in_filter (λ (y : Count). is_kept (current_shapes p s) s.current.drop y.of) (asked_counts (named p (last_index s) request)) c test near;
          lacks = subst L (sym same) lacks;
          sent = held_on s t x.receiver sent held;
        })
      where
        both : (a b : Bool) → a ≡ true → b ≡ true → (a && b) ≡ true
        both true b e f = f
        both false b e f = absurd (clash e)
