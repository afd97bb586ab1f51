-- Positions that are asked for or listed are source symbols of the order, and have 24 and 8 bits.
use Rattle.std.proofs.Common.{◌≡◌, ℕ, zero, suc, ◌+◌, ◌-◌, ◌*◌, ◌<◌, ◌≤◌, cond, List, [], ◌∷◌, ◌++◌, length, map, Bool, true, false, Option, None, Some, refl, sym, ap, ◌∙◌, subst, append_assoc, arith}
use Rattle.std.specs.Prelude.{min, filter, not, nat_lt, is_some, IfSome, ◌==◌, ◌&&◌, ◌/◌}
use Rattle.std.specs.List.{AllByRecursion}
use Rattle.std.specs.Int.{div_ceil}
use Rattle.std.proofs.Math.Nat.{mul-le-mul_right, div-le_of_le-mul}
use Rattle.std.proofs.lemmas.Grind.{div_ceil_times}
use Rattle.std.proofs.lemmas.Bool.Decides.{Decides-ltb, Decides-eqb}
use Rattle.std.proofs.lemmas.List.{length-append}
use Rattle.norm_base.specs.Settings.{Settings, InRange}
use Rattle.fec_plan.specs.Points.{position}
use Rattle.fec_plan.specs.declared.position.Position.{Position}
use Rattle.norm_order.specs.Entries.{Part, Object, Whole, Stream, Entry}
use Rattle.norm_order.specs.Segments.{closed_from}
use Rattle.norm_order.specs.Shapes.{Shape, shape_of, shapes_of, closed_in, closed_blocks, encoded_in, at_index, is_source, is_encoded, last_in, last_from, last_source}
use Rattle.norm_order.specs.Sets.{with_member}
use Rattle.norm_send_rules.specs.SenderState.{SenderState, Listing, Watermark, unlisted}
use Rattle.norm_send_rules.specs.Watermarks.{members, is_past, is_open, ended_with, end_where, counted_anew, keeps_oldest}
use Rattle.norm_send_rules.specs.Hearing.{listed_past}
use Rattle.norm_send_rules.specs.Striking.{without_node}
use Rattle.norm_send_rules.specs.Restarting.{begun_anew}
use Rattle.norm_send_rules.specs.declared.news.Outcome.{Outcome}
use Rattle.norm_send_rules.specs.declared.news.Outcome.TheVariants.{Cut as CutOff}
use Rattle.norm_send_rules.specs.Streaming.{used_segments}
use Rattle.norm_send_rules.specs.Reached.{FitsProfile, HasName}
use Rattle.norm_send_rules.proofs.CutNames.{CutRange, cut_range, AreNames, names_fit, ends_closed}
use Rattle.norm_send_rules.proofs.ShapeLemmas.{blocks_of, shape_parity, closed_is_encoded}
use Rattle.norm_send_rules.proofs.NewLemmas.{found_behind}

clash : false ≡ true → ⊥
clash e = cc

-- ---- names of symbols have their bits

-- of a stream's block something is closed only where as many segments are
stream_names : (p : Settings) → InRange p → (parts : List Part) (block symbol : ℕ) → used_segments p parts ≤ 16777216 * p.b
    → nat_lt symbol (encoded_in (shape_of p (Stream parts)) block) ≡ true → AreNames block symbol
stream_names p range parts block symbol few e =
    go (closed_in s block == p.b) refl ((Decides-ltb symbol (encoded_in s block)).0 e)
  where
    s : Shape
    s = shape_of p (Stream parts)

    blocks_few : (closed : ℕ) → closed ≤ 16777216 * p.b → 0 < closed - (block * p.b + 0) → block < 16777216
    blocks_few closed le some = go (nat_lt block 16777216) refl
      where
        go : (b : Bool) → nat_lt block 16777216 ≡ b → block < 16777216
        go true is = (Decides-ltb block 16777216).0 is
        go false is =
            let ge : 16777216 ≤ block = (let no : block < 16777216 → ⊥ = λ lt. clash (sym is ∙ (Decides-ltb block 16777216).1 lt) in omega arith) in
            let more : 16777216 * p.b ≤ block * p.b = mul-le-mul_right p.b ge in
            absurd (omega (arith, le, some, more))

    closed_few : s.closed ≤ 16777216 * p.b
    closed_few = omega (arith, few)

    go : (b : Bool) → (closed_in s block == p.b) ≡ b → symbol < elim b [ true ↦ p.b * p.max_n / p.b | false ↦ closed_in s block ] → AreNames block symbol
    go true is lt =
        let all : closed_in s block ≡ p.b = (Decides-eqb (closed_in s block) p.b).0 is in
        let some : 0 < s.closed - (block * p.b + 0) = omega (arith, all, range.b.0) in
        let most : p.b * p.max_n / p.b ≤ p.max_n = div-le_of_le-mul p.b (let z : p.b * p.max_n ≤ p.b * p.max_n = omega arith in z) in
        (blocks_few s.closed closed_few some, omega (arith, lt, most, range.max_n.1))
    go false is lt =
        let some : 0 < s.closed - (block * p.b + 0) = omega (arith, lt) in
        (blocks_few s.closed closed_few some, omega (arith, lt, range.b.1))

-- an encoded symbol of an object that fits the profile
pub object_names : (p : Settings) → InRange p → (object : Object) (block symbol : ℕ) → FitsProfile p object
    → nat_lt symbol (encoded_in (shape_of p object) block) ≡ true → AreNames block symbol
object_names p range (Whole kind info octets) block symbol fits e =
    names_fit p (cut_range p range) (length octets) (is_some info) block symbol fits.0 fits.1 e
object_names p range (Stream parts) block symbol few e = stream_names p range parts block symbol few e

-- what a test of the shape at an index tells of its entry
pub entry_tells : (p : Settings) (Fits : Object → Type 0) (Tells : Type 0) (order : List Entry) (index : ℕ) (test : Shape → Bool)
    → AllByRecursion (λ (x : Entry). Fits x.object) order → ((object : Object) → Fits object → test (shape_of p object) ≡ true → Tells)
    → at_index (shapes_of p order) index false test ≡ true → (index < length order) × Tells
entry_tells p Fits Tells [] index test fits tells e = absurd (clash e)
entry_tells p Fits Tells (x ∷ order) zero test fits tells e = (omega arith, tells x.object fits.0 e)
entry_tells p Fits Tells (x ∷ order) (suc index) test fits tells e =
    let more = entry_tells p Fits Tells order index test fits.1 tells e in (omega (arith, more.0), more.1)

pub symbol_names : (p : Settings) → InRange p → (order : List Entry) (at : Position) → AllByRecursion (λ (x : Entry). FitsProfile p x.object) order
    → length order ≤ 4294967295 → is_encoded (shapes_of p order) at ≡ true → HasName at
symbol_names p range order at fits many e =
    let tells = entry_tells p (FitsProfile p) (AreNames at.block at.symbol) order at.index (λ s. nat_lt at.symbol (encoded_in s at.block)) fits
    (λ object fit test. object_names p range object at.block at.symbol fit test) e in
    (omega (arith, many, tells.0), tells.1.0, tells.1.1)

pub source_names : (p : Settings) → InRange p → (order : List Entry) (at : Position) → AllByRecursion (λ (x : Entry). FitsProfile p x.object) order
    → length order ≤ 4294967295 → is_source (shapes_of p order) at ≡ true → HasName at
source_names p range order at fits many e =
    let tells = entry_tells p (FitsProfile p) (AreNames at.block at.symbol) order at.index (λ s. nat_lt at.symbol (closed_in s at.block)) fits
    (λ object fit test. object_names p range object at.block at.symbol fit (encodes object test)) e in
    (omega (arith, many, tells.0), tells.1.0, tells.1.1)
  where
    encodes : (object : Object) → nat_lt at.symbol (closed_in (shape_of p object) at.block) ≡ true → nat_lt at.symbol (encoded_in (shape_of p object) at.block) ≡ true
    encodes object test =
        let lt : at.symbol < closed_in (shape_of p object) at.block = (Decides-ltb at.symbol (closed_in (shape_of p object) at.block)).0 test in
        let le = closed_is_encoded (shape_of p object) at.block (shape_parity p (blocks_of p range) object) in
        (Decides-ltb at.symbol (encoded_in (shape_of p object) at.block)).1 (omega (arith, lt, le))

-- ---- the last closed source symbol is a source symbol

-- where something of an object is closed, something of its last block is
abbrev EndsClosed : Shape → Type 0
EndsClosed s = (s.closed == 0) ≡ false → 0 < closed_in s (closed_blocks s - 1)

stream_ends : (p : Settings) → CutRange p → (parts : List Part) → EndsClosed (shape_of p (Stream parts))
stream_ends p range parts e = go (length (closed_from p.e [] parts)) e
  where
    go : (n : ℕ) → (n == 0) ≡ false → 0 < min p.b (n - ((div_ceil n p.b - 1) * p.b + 0))
    go zero e = absurd (clash (sym e))
    go (suc n) e = let times = div_ceil_times (suc n) p.b (omega (arith, range.least_b)) in within n (div_ceil (suc n) p.b) times.0 times.1
      where
        within : (n c : ℕ) → suc n ≤ c * p.b → c * p.b < suc n + p.b → 0 < min p.b (suc n - ((c - 1) * p.b + 0))
        within n zero le lt = absurd (omega (arith, le))
        within n (suc c) le lt =
            let same : (suc c - 1) * p.b ≡ c * p.b = ap (λ (k : ℕ). k * p.b) (let z : suc c - 1 ≡ c = omega arith in z) in
            let next : suc c * p.b ≡ c * p.b + p.b = omega arith in
            omega (arith, lt, same, next, range.least_b)

object_ends : (p : Settings) → CutRange p → (object : Object) → FitsProfile p object → EndsClosed (shape_of p object)
object_ends p range (Whole kind info octets) fits e = ends_closed p range (length octets) (is_some info) fits.0 fits.1
object_ends p range (Stream parts) fits e = stream_ends p range parts e

-- the last block of each shape of which something is closed has a closed source symbol
abbrev AllEnd : List Shape → Type 0
AllEnd shapes = AllByRecursion EndsClosed shapes

order_ends : (p : Settings) → CutRange p → (order : List Entry) → AllByRecursion (λ (x : Entry). FitsProfile p x.object) order → AllEnd (shapes_of p order)
order_ends p range [] all = tt
order_ends p range (x ∷ order) all = (object_ends p range x.object all.0, order_ends p range order all.1)

none_some : (at : Position) → None ≡ Some at → ⊥
none_some at e = cc

same_at : (a b : Position) → Some a ≡ Some b → a ≡ b
same_at a b e = cc

-- the last closed source symbol of a shape behind others is a source symbol
shape_last : (front : List Shape) (s : Shape) (rest : List Shape) (index : ℕ) (at : Position) → index ≡ length front → EndsClosed s
    → last_in index s ≡ Some at → is_source (front ++ s ∷ rest) at ≡ true
shape_last front s rest index at here ends e = go (s.closed == 0) refl e
  where
    go : (b : Bool) → (s.closed == 0) ≡ b → (elim b [ true ↦ None | false ↦ Some (position index (closed_blocks s - 1) (closed_in s (closed_blocks s - 1) - 1)) ]) ≡ Some at
        → is_source (front ++ s ∷ rest) at ≡ true
    go true is e = absurd (none_some at e)
    go false is e =
        let some = ends is in
        let test : Shape → Bool = λ x. nat_lt (closed_in s (closed_blocks s - 1) - 1) (closed_in x (closed_blocks s - 1)) in
        let S : Position → Type 0 = λ a. is_source (front ++ s ∷ rest) a ≡ true in
        subst S (same_at _ at e) (
        ap (λ (i : ℕ). at_index (front ++ s ∷ rest) i false test) here ∙ found_behind front s rest test
        ∙ (Decides-ltb (closed_in s (closed_blocks s - 1) - 1) (closed_in s (closed_blocks s - 1))).1 (omega arith)
        )

last_found : (front rest : List Shape) (index : ℕ) (found : Option Position) (at : Position) → index ≡ length front → AllEnd rest
    → ((f : Position) → found ≡ Some f → is_source (front ++ rest) f ≡ true) → last_from index found rest ≡ Some at → is_source (front ++ rest) at ≡ true
unfolding last_from
last_found front [] index found at here ends known e = known at e
last_found front (s ∷ rest) index found at here ends known e =
    let A : List Shape → Type 0 = λ all. is_source all at ≡ true in
    let more = length-append front (s ∷ []) in
    subst A (append_assoc front (s ∷ []) rest) (last_found (front ++ s ∷ []) rest (index + 1)
    (elim (last_in index s) [ Some at ↦ Some at | None ↦ found ]) at (omega arith) ends.1 (λ f g. next f (last_in index s) refl g) e)
  where
    next : (f : Position) (own : Option Position) → last_in index s ≡ own → (elim own [ Some at ↦ Some at | None ↦ found ]) ≡ Some f
        → is_source ((front ++ s ∷ []) ++ rest) f ≡ true
    next f own is g =
        let A : List Shape → Type 0 = λ all. is_source all f ≡ true in
        subst A (sym (append_assoc front (s ∷ []) rest)) (by own is g)
      where
        by : (own : Option Position) → last_in index s ≡ own → (elim own [ Some at ↦ Some at | None ↦ found ]) ≡ Some f
            → is_source (front ++ s ∷ rest) f ≡ true
        by None is g = known f g
        by (Some a) is g = shape_last front s rest index f here ends.0 (is ∙ g)

-- The last closed source symbol of an order that fits the profile is one of its source symbols.
pub last_is_source : (p : Settings) → CutRange p → (order : List Entry) (at : Position) → AllByRecursion (λ (x : Entry). FitsProfile p x.object) order
    → last_source (shapes_of p order) ≡ Some at → is_source (shapes_of p order) at ≡ true
last_is_source p range order at fits e =
    last_found [] (shapes_of p order) 0 None at refl (order_ends p range order fits) (λ f g. absurd (none_some f g)) e

-- ---- what is asked for and listed

-- each open watermark is of a position that passes a test, and so is what each member is listed past
pub record PlacesPass (test : Position → Bool) (s : SenderState) : Type 0 where
  pub asked : AllByRecursion (λ (w : Watermark). is_open w ≡ true → test w.at ≡ true) s.watermarks
  pub listed : AllByRecursion (λ (l : Listing). IfSome l.past (λ at. test at ≡ true)) s.listings

if_more : (test more : Position → Bool) → ((at : Position) → test at ≡ true → more at ≡ true) → (past : Option Position)
    → IfSome past (λ at. test at ≡ true) → IfSome past (λ at. more at ≡ true)
if_more test more kept None h = h
if_more test more kept (Some at) h = kept at h

pub places_more : (test more : Position → Bool) → ((at : Position) → test at ≡ true → more at ≡ true) → (s : SenderState) → PlacesPass test s → PlacesPass more s
places_more test more kept s h = record { asked = marks s.watermarks h.asked; listed = listings s.listings h.listed }
  where
    marks : (ws : List Watermark) → AllByRecursion (λ (w : Watermark). is_open w ≡ true → test w.at ≡ true) ws
        → AllByRecursion (λ (w : Watermark). is_open w ≡ true → more w.at ≡ true) ws
    marks [] all = tt
    marks (w ∷ ws) all = (λ is. kept w.at (all.0 is), marks ws all.1)

    listings : (ls : List Listing) → AllByRecursion (λ (l : Listing). IfSome l.past (λ at. test at ≡ true)) ls
        → AllByRecursion (λ (l : Listing). IfSome l.past (λ at. more at ≡ true)) ls
    listings [] all = tt
    listings (l ∷ ls) all = (if_more test more kept l.past all.0, listings ls all.1)

ended_pass : (test : Position → Bool) (ends : Watermark → Bool) (outcome : Watermark → Outcome) (ws : List Watermark)
    → AllByRecursion (λ (w : Watermark). is_open w ≡ true → test w.at ≡ true) ws
    → AllByRecursion (λ (w : Watermark). is_open w ≡ true → test w.at ≡ true) (map (λ w. cond (is_open w && ends w) (ended_with (outcome w) w) w) ws)
ended_pass test ends outcome [] all = tt
ended_pass test ends outcome (w ∷ ws) all = (go (is_open w && ends w), ended_pass test ends outcome ws all.1)
  where
    now : Bool → Watermark
    now b = cond b (ended_with (outcome w) w) w

    place : Watermark → Position
    place v = v.at

    go : (b : Bool) → is_open (now b) ≡ true → test (place (now b)) ≡ true
    go true e = absurd (cc)
    go false e = all.0 e

pub ends_places : (test : Position → Bool) (ends : Watermark → Bool) (outcome : Watermark → Outcome) (s : SenderState) → PlacesPass test s
    → PlacesPass test (end_where ends outcome s)
ends_places test ends outcome s h = record { asked = ended_pass test ends outcome s.watermarks h.asked; listed = h.listed }

anew_places : (test : Position → Bool) (b : Bool) (s : SenderState) → PlacesPass test s → PlacesPass test (elim b [ true ↦ s | false ↦ record s { flushes = 0 } ])
anew_places test true s h = h
anew_places test false s h = record { asked = h.asked; listed = h.listed }

pub counted_places : (test : Position → Bool) (old s : SenderState) → PlacesPass test s → PlacesPass test (counted_anew old s)
counted_places test old s h = anew_places test (keeps_oldest old s) s h

pub more_places : (test : Position → Bool) (s : SenderState) (w : Watermark) → test w.at ≡ true → PlacesPass test s
    → PlacesPass test (record s { watermarks = s.watermarks ++ w ∷ [] })
more_places test s w passes h = record { asked = go s.watermarks h.asked; listed = h.listed }
  where
    go : (ws : List Watermark) → AllByRecursion (λ (v : Watermark). is_open v ≡ true → test v.at ≡ true) ws
        → AllByRecursion (λ (v : Watermark). is_open v ≡ true → test v.at ≡ true) (ws ++ w ∷ [])
    go [] all = (λ is. passes, tt)
    go (v ∷ ws) all = (all.0, go ws all.1)

pub risen_places : (test : Position → Bool) (node : ℕ) (at : Position) (s : SenderState) → test at ≡ true → PlacesPass test s
    → PlacesPass test (record s { listings = map (listed_past node at) s.listings; untold_nodes = with_member nat_lt node s.untold_nodes })
risen_places test node at s passes h = record { asked = h.asked; listed = go s.listings h.listed }
  where
    past_of : Listing → Option Position
    past_of l = l.past

    one : (l : Listing) (b c : Bool) → IfSome l.past (λ at. test at ≡ true)
        → IfSome (past_of (elim b [ true ↦ l | false ↦ elim c [ true ↦ record l { past = Some at } | false ↦ l ] ])) (λ at. test at ≡ true)
    one l true c h = h
    one l false true h = passes
    one l false false h = h

    go : (ls : List Listing) → AllByRecursion (λ (l : Listing). IfSome l.past (λ at. test at ≡ true)) ls
        → AllByRecursion (λ (l : Listing). IfSome l.past (λ at. test at ≡ true)) (map (listed_past node at) ls)
    go [] all = tt
    go (l ∷ ls) all = (one l (l.node == node && is_past at l) (l.node == node) all.0, go ls all.1)

pub fewer_places : (test : Position → Bool) (node : ℕ) (s : SenderState) → PlacesPass test s → PlacesPass test (without_node node s)
fewer_places test node s h = record { asked = h.asked; listed = go s.listings h.listed }
  where
    go : (ls : List Listing) → AllByRecursion (λ (l : Listing). IfSome l.past (λ at. test at ≡ true)) ls
        → AllByRecursion (λ (l : Listing). IfSome l.past (λ at. test at ≡ true)) (filter (λ (l : Listing). not (l.node == node)) ls)
    go [] all = tt
    go (l ∷ ls) all = by (not (l.node == node)) (go ls all.1)
      where
        rest : List Listing
        rest = filter (λ (l : Listing). not (l.node == node)) ls

        by : (b : Bool) → AllByRecursion (λ (l : Listing). IfSome l.past (λ at. test at ≡ true)) rest
            → AllByRecursion (λ (l : Listing). IfSome l.past (λ at. test at ≡ true)) (cond b (l ∷ rest) rest)
        by true more = (all.0, more)
        by false more = more

pub unlisted_places : (test : Position → Bool) (nodes : List ℕ) → AllByRecursion (λ (l : Listing). IfSome l.past (λ at. test at ≡ true)) (unlisted nodes)
unlisted_places test [] = tt
unlisted_places test (node ∷ nodes) = (tt, unlisted_places test nodes)

pub anew_holds_places : (test : Position → Bool) (id : ℕ) (s : SenderState) → PlacesPass test (begun_anew id s)
anew_holds_places test id s = record { asked = go s.watermarks; listed = unlisted_places test (members s) }
  where
    now : Watermark → Bool → Watermark
    now w b = cond (b && true) (ended_with CutOff w) w

    place : Watermark → Position
    place v = v.at

    one : (w : Watermark) (b : Bool) → is_open w ≡ b → is_open (now w b) ≡ true → test (place (now w b)) ≡ true
    one w true is e = absurd (cc)
    one w false is e = absurd (clash (sym is ∙ e))

    go : (ws : List Watermark) → AllByRecursion (λ (w : Watermark). is_open w ≡ true → test w.at ≡ true) (map (λ w. cond (is_open w && true) (ended_with CutOff w) w) ws)
    go [] = tt
    go (w ∷ ws) = (one w (is_open w) refl, go ws)
