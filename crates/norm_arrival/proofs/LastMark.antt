-- Where a script ends in a mark, all that it brought was handed up by every member.
use Rattle.std.proofs.Common.{◌≡◌, ℕ, zero, suc, ◌+◌, ◌<◌, ◌≤◌, cond, List, [], ◌∷◌, ◌++◌, length, Bool, true, false, Option, None, Some, refl, sym, ap, ◌∙◌, subst, append_assoc, arith, ◌*◌, map, ◌⊎◌, inl, inr}
use Rattle.std.specs.Prelude.{filter, find, ◌==◌, Contains, IfSome, slice_index_or, take}
use Rattle.std.specs.List.{AllByRecursion, list_all}
use Rattle.std.specs.Int.{div_ceil}
use Rattle.std.proofs.lemmas.Bool.{cases_lt}
use Rattle.std.proofs.lemmas.Bool.Decides.{Decides-eqb}
use Rattle.std.proofs.lemmas.Grind.{div_ceil_times}
use Rattle.std.proofs.lemmas.List.{append-nil, length-append}
use Rattle.std.proofs.lemmas.Option.{none-some}
use Rattle.std.proofs.Math.Seq.{take-append_seam}
use Rattle.norm_base.specs.Members.{receivers_of}
use Rattle.norm_base.specs.Settings.{Settings, InRange}
use Rattle.fec_plan.specs.Partition.{symbols_in}
use Rattle.fec_plan.specs.Points.{reaches}
use Rattle.fec_plan.specs.declared.position.Position.{Position}
use Rattle.fec_plan.proofs.PositionLemmas.{reached}
use Rattle.norm_order.specs.Entries.{Object, Whole, Stream, Entry}
use Rattle.norm_script.specs.declared.script.Line.{Line}
use Rattle.norm_script.specs.declared.script.Verb.{Verb}
use Rattle.norm_script.specs.declared.script.Verb.TheVariants as verb
use Rattle.norm_order.specs.Shapes.{Shape, shape_of, shapes_of, is_source, last_in, last_from, last_source}
use Rattle.norm_order.specs.Upto.{parts_of, all_parts, ends_at, parts_through, upto}
use Rattle.norm_order.specs.declared.up.Up.{Up}
use Rattle.norm_order.proofs.GoingOnLemmas.{last_there}
use Rattle.norm_order.proofs.UptoLemmas.{there, grows_with_position}
use Rattle.norm_send_rules.specs.InWindow.{current_shapes}
use Rattle.norm_send_rules.specs.Reached.{FitsProfile}
use Rattle.norm_send_rules.specs.SenderState.{SenderState, Instance, Listing, Watermark}
use Rattle.norm_send_rules.specs.Telling.{listing_of, past_news, done_news, told}
use Rattle.norm_send_rules.specs.Watermarks.{is_past, is_open, watermark_of}
use Rattle.norm_send_rules.specs.declared.news.News.{News}
use Rattle.norm_send_rules.specs.declared.news.Outcome.{Outcome}
use Rattle.norm_send_rules.specs.declared.news.Outcome.TheVariants.{Open, Satisfied, Expired, Cut}
use Rattle.norm_send_rules.proofs.CutNames.{cut_range}
use Rattle.norm_send_rules.proofs.PlaceLemmas.{last_is_source}
use Rattle.norm_send_rules.proofs.ReachedLemmas.{reached_laws}
use Rattle.norm_safety.specs.Fronts.{IsFront}
use Rattle.norm_safety.specs.Hands.{hands}
use Rattle.norm_safety.specs.History.{History}
use Rattle.norm_safety.specs.InOrder.{GoesThrough, drop_of}
use Rattle.norm_safety.specs.ListedAfter.{handed_now, before_mark}
use Rattle.norm_safety.specs.OnceEach.{order_of}
use Rattle.norm_safety.specs.Safe.{IsSafe}
use Rattle.norm_safety.proofs.EntryLemmas.{clash, ends}
use Rattle.norm_safety.proofs.Released.{last_position, last_of_end, shapes_end, shapes_many}
use Rattle.norm_safety.proofs.SenderKeeps.{nodes_in}
use Rattle.norm_safety.proofs.Stood.{all_parts_end}
use Rattle.norm_journal.proofs.NameLemmas.{both}
use Rattle.norm_laws.proofs.WholeOrders.{IsWhole, AreWhole, through_few}
use Rattle.norm_arrival.proofs.BookSteps.{EndedWell, IsWell, asked_in}
use Rattle.norm_arrival.proofs.SenderSteps.{ObjectsWhole, Orderly, order_is_whole, shapes_of_objects}
use Rattle.norm_arrival.proofs.ScriptRun.{Contents, Plan, plan_by, planned, planned_more, Finished}

-- ---- every watermark was satisfied

longer : (x : ℕ) (xs : List ℕ) → xs ≡ x ∷ xs → ⊥
longer x xs e = (let many = ap length e in omega (arith, many))

-- where nothing is to be told, no outcome is
none_untold : (s : SenderState) → (told s).0 ≡ s → s.untold_marks ≡ []
none_untold s same = go s.untold_nodes s.untold_marks refl refl same
  where
    by : List ℕ → List ℕ → SenderState
    by nodes marks = (elim nodes as (λ _. SenderState × Option News) [
      | node ∷ others ↦ (record s { untold_nodes = others }, past_news node (listing_of s node))
      | [] ↦ elim marks [
        | mark ∷ others ↦ (record s { untold_marks = others }, done_news s mark (watermark_of s mark))
        | [] ↦ (s, None)
      ]
    ]).0

    go : (nodes marks : List ℕ) → s.untold_nodes ≡ nodes → s.untold_marks ≡ marks → by nodes marks ≡ s → s.untold_marks ≡ []
    go (node ∷ nodes) marks has_nodes has e = absurd (longer node nodes (ap (λ (t : SenderState). t.untold_nodes) e ∙ has_nodes))
    go [] (mark ∷ marks) has_nodes has e = absurd (longer mark marks (ap (λ (t : SenderState). t.untold_marks) e ∙ has))
    go [] [] has_nodes has e = has

-- a watermark that all members are listed past
abbrev IsPassed : List Listing → Watermark → Type 0
IsPassed ls w = list_all (is_past w.at) ls ≡ true

passed : (ls : List Listing) (w : Watermark) → is_open w ≡ false → IsWell ls [] w → IsPassed ls w
passed ls w closed well = go w.ended closed well.ended
  where
    go : (o : Option Outcome) → is_open (record w { ended = o }) ≡ false → EndedWell ls [] w.mark w.at o → IsPassed ls w
    go None closed h = absurd (clash (sym closed))
    go (Some Satisfied) closed h = h
    go (Some (Expired left)) closed h = absurd (clash h)
    go (Some (Open left)) closed h = absurd h
    go (Some Cut) closed h = absurd h

passed_all : (ls : List Listing) (ws : List Watermark) → filter is_open ws ≡ [] → AllByRecursion (IsWell ls []) ws → AllByRecursion (IsPassed ls) ws
passed_all ls [] closed well = tt
passed_all ls (w ∷ ws) closed well = go (is_open w) refl closed (λ none. passed_all ls ws none well.1)
  where
    some : (x : Watermark) (xs : List Watermark) → (x ∷ xs) ≡ [] → ⊥
    some x xs e = cc

    go : (b : Bool) → is_open w ≡ b → cond b (w ∷ filter is_open ws) (filter is_open ws) ≡ [] → (filter is_open ws ≡ [] → AllByRecursion (IsPassed ls) ws)
        → AllByRecursion (IsPassed ls) (w ∷ ws)
    go true is e more = absurd (some w (filter is_open ws) e)
    go false is e more = (passed ls w is well.0, more e)

-- the last that is asked for is so of a watermark
last_asked : (P : Watermark → Type 0) (ws : List Watermark) (front : List (Option Position)) (last : Option Position) → asked_in ws ≡ front ++ last ∷ []
    → AllByRecursion P ws → (w : Watermark) × (Some w.at ≡ last) × P w
last_asked P [] [] last e all = absurd (nothing [] last e)
  where
    nothing : (xs : List (Option Position)) (x : Option Position) → [] ≡ x ∷ xs → ⊥
    nothing xs x e = cc
last_asked P [] (y ∷ front) last e all = absurd (nothing (front ++ last ∷ []) y e)
  where
    nothing : (xs : List (Option Position)) (x : Option Position) → [] ≡ x ∷ xs → ⊥
    nothing xs x e = cc
last_asked P (w ∷ ws) [] last e all = (w, heads (Some w.at) last (asked_in ws) [] e, all.0)
  where
    heads : (x y : Option Position) (xs ys : List (Option Position)) → (x ∷ xs) ≡ y ∷ ys → x ≡ y
    heads x y xs ys e = cc
last_asked P (w ∷ ws) (y ∷ front) last e all = last_asked P ws front last (tails (Some w.at) y (asked_in ws) (front ++ last ∷ []) e) all.1
  where
    tails : (x y : Option Position) (xs ys : List (Option Position)) → (x ∷ xs) ≡ y ∷ ys → xs ≡ ys
    tails x y xs ys e = cc

-- everything that was asked for last is what all members are listed past
pub record AllPast (p : Settings) (s : SenderState) : Type 0 where
  pub at : Position
  pub last : last_source (current_shapes p s) ≡ Some at
  pub past : list_all (is_past at) s.listings ≡ true

-- a finished script whose last line is a mark asked for everything
pub all_past : (p : Settings) (files : Contents) (front : List Line) (line : Line) (quorum : Option ℕ) (s : SenderState) → line.verb ≡ verb.Mark quorum
    → Finished p files (front ++ line ∷ []) s → AllPast p s
all_past p files front line quorum s is done =
    let plan : Plan = planned p files front in
    let P : Plan → Type 0 = λ x. Orderly p x.objects x.asked s in
    let made : Orderly p plan.objects (plan.asked ++ last_source (map (shape_of p) plan.objects) ∷ []) s =
    subst P (planned_more p files front line ∙ ap (λ (v : Verb). plan_by p files v plan) is) done.made in
    let W : List ℕ → Type 0 = λ untold. AllByRecursion (IsWell s.listings untold) s.watermarks in
    let well = subst W (none_untold s (reached_laws.quiet p s made.reached done.quiet)) made.book.well in
    let found = last_asked (IsPassed s.listings) s.watermarks plan.asked (last_source (map (shape_of p) plan.objects)) made.book.asks
    (passed_all s.listings s.watermarks done.closed well) in
    record {
      at = found.0.at;
      last = ap last_source (shapes_of_objects p s.current.order ∙ ap (λ (os : List Object). map (shape_of p) os) made.order) ∙ sym found.1;
      past = found.2;
    }

-- ---- what stands up to the last closed symbol

same_position : (a b : Position) → Some a ≡ Some b → a ≡ b
same_position a b e = cc

-- data and files have a closed symbol
some_closed : (p : Settings) → InRange p → (o : Object) → IsWhole o → FitsProfile p o → 0 < (shape_of p o).closed
some_closed p range (Whole kind info octets) whole fits = go (cases_lt 0 (symbols_in (length octets) p.e))
  where
    go : (0 < symbols_in (length octets) p.e) ⊎ (symbols_in (length octets) p.e ≤ 0) → 0 < symbols_in (length octets) p.e
    go (inl lt) = lt
    go (inr none) =
        let e_pos : 0 < p.e = (let least = range.e.0 in omega (arith, least)) in
        let up : length octets ≤ div_ceil (length octets) p.e * p.e = (div_ceil_times (length octets) p.e e_pos).0 in
        let zero_is : div_ceil (length octets) p.e * p.e ≡ 0 * p.e = ap (λ m. m * p.e) (let z : div_ceil (length octets) p.e ≡ 0 = omega (arith, none) in z) in
        let some = fits.0 in
        absurd (omega (arith, up, zero_is, some))
some_closed p range (Stream parts) whole fits = absurd whole

closed_last : (index : ℕ) (s : Shape) → 0 < s.closed → last_in index s ≡ Some (last_position index s)
closed_last index s some = go (s.closed == 0) refl
  where
    go : (b : Bool) → (s.closed == 0) ≡ b → (elim b [ true ↦ None | false ↦ Some (last_position index s) ]) ≡ Some (last_position index s)
    go true e = let none = (Decides-eqb s.closed 0).0 e in absurd (omega (arith, some, none))
    go false e = refl

order_last : (p : Settings) (front : List Entry) (x : Entry) → 0 < (shape_of p x.object).closed
    → last_source (shapes_of p (front ++ x ∷ [])) ≡ Some (last_position (length front) (shape_of p x.object))
order_last p front x some =
    let many = shapes_many p front in
    ap (λ (ss : List Shape). last_from 0 None ss) (shapes_end p front x)
    ∙ last_of_end None 0 (length front) (shapes_of p front) (shape_of p x.object) (last_position (length front) (shape_of p x.object)) (omega arith)
    (closed_last (length front) (shape_of p x.object) some)

-- all of it stands up to its last closed symbol
all_of_last : (p : Settings) (index : ℕ) (o : Object) → IsWhole o → 0 < (shape_of p o).closed
    → parts_through p (last_position index (shape_of p o)) o ≡ parts_of p index o
all_of_last p index (Stream parts) whole some = absurd whole
all_of_last p index (Whole kind info octets) whole some =
    let at : Position = last_position index (shape_of p (Whole kind info octets)) in
    let ends : ends_at p (Whole kind info octets) at ≡ true =
    ap (λ (o : Option Position). elim o [ Some l ↦ reaches at l | None ↦ false ]) (closed_last index (shape_of p (Whole kind info octets)) some)
    ∙ reached at at (inr (refl, inr (refl, omega arith))) in
    ap (λ (b : Bool). elim b [ true ↦ parts_of p index (Whole kind info octets) | false ↦ [] ]) ends

upto_end : (p : Settings) (front : List Entry) (x : Entry) → IsWhole x.object → 0 < (shape_of p x.object).closed
    → upto p (front ++ x ∷ []) (last_position (length front) (shape_of p x.object)) ≡ all_parts p 0 (front ++ x ∷ [])
upto_end p front x whole some =
    let at : Position = last_position (length front) (shape_of p x.object) in
    ap (λ (o : Option Entry). all_parts p 0 (take (length front) (front ++ x ∷ [])) ++ there p at o) (last_there front x)
    ∙ ap (λ (es : List Entry). all_parts p 0 es ++ parts_through p at x.object) (take-append_seam front (x ∷ []))
    ∙ ap (λ (us : List Up). all_parts p 0 front ++ us) (all_of_last p (length front) x.object whole some)
    ∙ sym (all_parts_end p 0 (length front) front x (omega arith))

-- each object of an order fits the profile
abbrev AllFit : Settings → List Entry → Type 0
AllFit p order = AllByRecursion (λ (x : Entry). FitsProfile p x.object) order

last_of : (P : Entry → Type 0) (front : List Entry) (x : Entry) → AllByRecursion P (front ++ x ∷ []) → P x
last_of P [] x all = all.0
last_of P (y ∷ front) x all = last_of P front x all.1

nothing_last : (p : Settings) → last_source (shapes_of p []) ≡ None
unfolding last_from
nothing_last p = refl

all_upto : (p : Settings) → InRange p → (order : List Entry) (at : Position) → AreWhole order → AllFit p order → last_source (shapes_of p order) ≡ Some at
    → upto p order at ≡ all_parts p 0 order
all_upto p range order at whole fits e = go (ends order)
  where
    go : (order ≡ []) ⊎ ((front : List Entry) × (x : Entry) × (order ≡ front ++ x ∷ [])) → upto p order at ≡ all_parts p 0 order
    go (inl nothing) = absurd (none-some at (sym (nothing_last p) ∙ ap (λ (es : List Entry). last_source (shapes_of p es)) (sym nothing) ∙ e))
    go (inr (front, x, is)) =
        let W : List Entry → Type 0 = λ es. AreWhole es in
        let F : List Entry → Type 0 = λ es. AllFit p es in
        let its = last_of (λ (y : Entry). IsWhole y.object) front x (subst W is whole) in
        let some = some_closed p range x.object its (last_of (λ (y : Entry). FitsProfile p y.object) front x (subst F is fits)) in
        let here : at ≡ last_position (length front) (shape_of p x.object) =
        same_position at (last_position (length front) (shape_of p x.object)) (sym e ∙ ap (λ (es : List Entry). last_source (shapes_of p es)) is ∙ order_last p front x some) in
        ap (λ (a : Position). upto p order a) here
        ∙ ap (λ (es : List Entry). upto p es (last_position (length front) (shape_of p x.object))) is
        ∙ upto_end p front x its some ∙ ap (all_parts p 0) (sym is)

-- ---- what every member handed up

pub order_is : (s : SenderState) → s.earlier ≡ [] → order_of s s.current.id ≡ s.current.order
order_is s none =
    ap (λ (all : List Instance). order_in (find (λ (i : Instance). i.id == s.current.id) (all ++ s.current ∷ []))) none
    ∙ ap (λ (b : Bool). order_in (cond b (Some s.current) None)) ((Decides-eqb s.current.id s.current.id).1 refl)
  where
    order_in : Option Instance → List Entry
    order_in found = elim found [ Some i ↦ i.order | None ↦ [] ]

other_order : (s : SenderState) (id : ℕ) → s.earlier ≡ [] → (s.current.id == id) ≡ false → order_of s id ≡ []
other_order s id none other =
    ap (λ (all : List Instance). order_in (find (λ (i : Instance). i.id == id) (all ++ s.current ∷ []))) none
    ∙ ap (λ (b : Bool). order_in (cond b (Some s.current) None)) other
  where
    order_in : Option Instance → List Entry
    order_in found = elim found [ Some i ↦ i.order | None ↦ [] ]

no_length : (ups : List Up) → length ups ≤ 0 → ups ≡ []
no_length [] le = refl
no_length (x ∷ ups) le = absurd (omega (arith, le))

-- nothing was handed up in another instance
pub none_elsewhere : (p : Settings) (h : History) (node id : ℕ) → IsSafe p h → h.now.sender.earlier ≡ [] → (h.now.sender.current.id == id) ≡ false
    → hands h.happened node id ≡ []
none_elsewhere p h node id safe none other =
    let G : List Entry → Type 0 = λ order. GoesThrough p (drop_of h.now.sender id) 0 order (hands h.happened node id) in
    no_length (hands h.happened node id) (through_few p (drop_of h.now.sender id) 0 [] (hands h.happened node id) tt
    (subst G (other_order h.now.sender id none other) (safe.order.through node id)))

parts_many : (p : Settings) (n : ℕ) (order : List Entry) → AreWhole order → length (all_parts p n order) ≡ length order
unfolding all_parts
parts_many p n [] whole = refl
parts_many p n (x ∷ order) whole =
    length-append (parts_of p n x.object) (all_parts p (n + 1) order) ∙ (let one = one_part x.object whole.0 in let more = parts_many p (n + 1) order whole.1 in omega (arith, one, more))
  where
    one_part : (object : Object) → IsWhole object → length (parts_of p n object) ≡ 1
    one_part (Whole kind info octets) h = refl
    one_part (Stream parts) h = absurd h

-- one of the listings is a node's
found_listing : (P : Listing → Type 0) (ls : List Listing) (node k : ℕ) → AllByRecursion P ls → k < length (nodes_in ls) → slice_index_or (nodes_in ls) k node ≡ node
    → (l : Listing) × (l.node ≡ node) × P l
found_listing P [] node k all within is = absurd (omega (arith, within))
found_listing P (l ∷ ls) node zero all within is = (l, is, all.0)
found_listing P (l ∷ ls) node (suc k) all within is = found_listing P ls node k all.1 (omega (arith, within)) is

-- each listing is past a position, and what stands before its own was handed up
record IsPast (p : Settings) (h : History) (at : Position) (l : Listing) : Type 0 where
  listed : IfSome l.past (λ own. IsFront (before_mark p h own) (handed_now h l.node))
  past : is_past at l ≡ true

all_both : (p : Settings) (h : History) (at : Position) (ls : List Listing)
    → AllByRecursion (λ (l : Listing). IfSome l.past (λ own. IsFront (before_mark p h own) (handed_now h l.node))) ls → list_all (is_past at) ls ≡ true
    → AllByRecursion (IsPast p h at) ls
all_both p h at [] listed past = tt
all_both p h at (l ∷ ls) listed past =
    let two = both (is_past at l) (list_all (is_past at) ls) past in (record { listed = listed.0; past = two.0 }, all_both p h at ls listed.1 two.1)

-- what stands before a position was handed up by whoever is listed past it
front_handed : (p : Settings) (h : History) (at : Position) (l : Listing) → is_source (current_shapes p h.now.sender) at ≡ true → IsPast p h at l
    → IsFront (before_mark p h at) (handed_now h l.node)
front_handed p h at l source is = go l.past is.listed is.past
  where
    order : List Entry
    order = h.now.sender.current.order

    go : (o : Option Position) → IfSome o (λ own. IsFront (before_mark p h own) (handed_now h l.node))
        → (elim o [ Some past ↦ reaches past at | None ↦ false ]) ≡ true → IsFront (before_mark p h at) (handed_now h l.node)
    go None listed past = absurd (clash past)
    go (Some own) (rest, is) past =
        let grows = grows_with_position p order at own source past in (
          grows.0 ++ rest,
          is ∙ ap (λ (us : List Up). us ++ rest) (sym grows.1) ∙ append_assoc (upto p order at) grows.0 rest,
        )

-- Every member handed up all of the order, and no more.
pub all_handed : (p : Settings) → InRange p → (h : History) (objects : List Object) (asked : List (Option Position)) (node : ℕ) → IsSafe p h
    → Orderly p objects asked h.now.sender → ObjectsWhole objects → AllPast p h.now.sender → Contains (receivers_of p p.receivers) node
    → hands h.happened node h.now.sender.current.id ≡ all_parts p 0 h.now.sender.current.order
all_handed p range h objects asked node safe made whole_objects last there = exactly front.0 front.1
  where
    s : SenderState
    s = h.now.sender

    order : List Entry
    order = s.current.order

    whole : AreWhole order
    whole = order_is_whole p objects asked s made whole_objects

    source : is_source (current_shapes p s) last.at ≡ true
    source = last_is_source p (cut_range p range) order last.at made.reached.objects last.last

    N : List ℕ → Type 0
    N nodes = Contains nodes node

    member : Contains (nodes_in s.listings) node
    member = subst N (sym made.book.members) there

    found : (l : Listing) × (l.node ≡ node) × IsPast p h last.at l
    found = found_listing (IsPast p h last.at) s.listings node member.0 (all_both p h last.at s.listings safe.listed.each last.past) member.1 member.2

    H : ℕ → Type 0
    H n = IsFront (before_mark p h last.at) (handed_now h n)

    front : IsFront (before_mark p h last.at) (handed_now h node)
    front = subst H found.1 (front_handed p h last.at found.0 source found.2)

    all : before_mark p h last.at ≡ all_parts p 0 order
    all = all_upto p range order last.at whole made.reached.objects last.last

    G : List Entry → Type 0
    G es = GoesThrough p (drop_of s s.current.id) 0 es (handed_now h node)

    few : length (handed_now h node) ≤ length order
    few = through_few p (drop_of s s.current.id) 0 order (handed_now h node) whole (subst G (order_is s made.earlier) (safe.order.through node s.current.id))

    exactly : (rest : List Up) → handed_now h node ≡ before_mark p h last.at ++ rest → handed_now h node ≡ all_parts p 0 order
    exactly rest is =
        let parts = is ∙ ap (λ (us : List Up). us ++ rest) all in
        let long = ap length parts in
        let joined = length-append (all_parts p 0 order) rest in
        let many = parts_many p 0 order whole in
        parts ∙ ap (λ (us : List Up). all_parts p 0 order ++ us) (no_length rest (omega (arith, long, joined, many, few))) ∙ append-nil (all_parts p 0 order)
