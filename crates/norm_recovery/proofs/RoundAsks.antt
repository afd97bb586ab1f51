-- A round asks for all that the requests that join it ask for.
use Rattle.std.proofs.Common.{◌≡◌, ℕ, zero, suc, ◌+◌, ◌<◌, ◌≤◌, List, [], ◌∷◌, ◌++◌, length, map, filter, Bool, true, false, Option, None, Some, refl, sym, ap, ◌∙◌, subst, arith, ◌⊎◌, inl, inr, flat_map}
use Rattle.std.specs.Prelude.{◌==◌, ◌&&◌, ◌||◌, not, nat_lt, nat_le, slice_get}
use Rattle.std.specs.List.{list_any, range_with_len}
use Rattle.std.proofs.lemmas.Bool.Decides.{Decides-eqb, Decides-ltb, leb_tells}
use Rattle.std.proofs.lemmas.Option.{slice_get_within}
use Rattle.norm_base.specs.Settings.{Settings, InRange}
use Rattle.fec_plan.specs.Points.{Point, point, point_of, position, point_before, same_point}
use Rattle.fec_plan.specs.declared.position.Position.{Position}
use Rattle.fec_plan.proofs.PositionLemmas.{position_itself}
use Rattle.norm_ext.specs.Asking.{Named, named, lies_in, asked_spans, asks_source, asks_info, asked_symbols, Count, asked_counts}
use Rattle.norm_ext.specs.Requests.{Request}
use Rattle.norm_order.specs.Entries.{Entry}
use Rattle.norm_order.specs.Shapes.{Shape, shape_of, shapes_of, at_index, closed_in, closed_blocks, symbols_of, sources_in, is_source, is_encoded, has_info}
use Rattle.norm_receive_rules.specs.HeardNeeds.{width_of, is_asked, asks_as_many}
use Rattle.norm_receive_rules.specs.Holding.{Holding}
use Rattle.norm_receive_rules.specs.NackLaws.{BlocksAreAsked, InfoIsAsked, width_at, IsAskedFor}
use Rattle.norm_receive_rules.specs.Needs.{Need, Object, ObjectInfo, Symbols, Source, Rest}
use Rattle.norm_send_rules.specs.Asking.{all_sources, asks_for, wants_of, is_kept, counts_of}
use Rattle.norm_send_rules.specs.Hearing.{asked_now, round_at, joined_round}
use Rattle.norm_send_rules.specs.InWindow.{stands_behind, last_index, current_shapes}
use Rattle.norm_send_rules.specs.Reached.{IsReached}
use Rattle.norm_send_rules.specs.SenderState.{SenderState, Asked, Round}
use Rattle.norm_send_rules.specs.declared.want.Want.{Want}
use Rattle.norm_send_rules.specs.declared.want.Want.TheVariants as want
use Rattle.norm_send_rules.proofs.ReachedLemmas.{reached_laws}
use Rattle.norm_safety.specs.AsItCame.{after}
use Rattle.norm_safety.proofs.AsItCame.{as_it_came_law}
use Rattle.norm_safety.proofs.EntryLemmas.{clash}
use Rattle.norm_laws.proofs.GoneSent.{block_there}
use Rattle.norm_recovery.specs.Asking.{same_want, names, counts}
use Rattle.norm_recovery.specs.RoundAsks.{asks_open, IsOfNeed, is_info_or_source, IsNarrow, RoundAsks}
use Rattle.norm_recovery.proofs.ClosingLists.{In, in_left, in_right, in_map, of_map, in_flat, of_flat, in_kept, in_range, of_any}
use Rattle.norm_recovery.proofs.HeardAsks.{asked_by, between_asked}

-- ---- lists

any_in : {X : Type 0} (test : X → Bool) (x : X) (xs : List X) → In x xs → test x ≡ true → list_any test xs ≡ true
any_in test x [] h e = absurd h
any_in test x (y ∷ xs) (inl same) e = ap (λ (b : Bool). b || list_any test xs) (ap test (sym same) ∙ e)
any_in {X} test x (y ∷ xs) (inr more) e = go (test y) (any_in test x xs more e)
  where
    go : (b : Bool) → list_any test xs ≡ true → (b || list_any test xs) ≡ true
    go true f = refl
    go false f = f

both : (a b : Bool) → (a && b) ≡ true → (a ≡ true) × (b ≡ true)
both true b e = (refl, e)
both false b e = absurd (clash e)

and_is : (a b : Bool) → a ≡ true → b ≡ true → (a && b) ≡ true
and_is true b e f = f
and_is false b e f = absurd (clash e)

left_is : (a b : Bool) → a ≡ true → (a || b) ≡ true
left_is true b e = refl
left_is false b e = absurd (clash e)

right_is : (a b : Bool) → b ≡ true → (a || b) ≡ true
right_is true b e = refl
right_is false b e = e

-- ---- an order's closed source symbols and infos

-- the shape at an index, which passes a test
shape_at : (shapes : List Shape) (i : ℕ) (test : Shape → Bool) → at_index shapes i false test ≡ true
    → (shape : Shape) × (slice_get shapes i ≡ Some shape) × (test shape ≡ true)
shape_at shapes i test e = go (slice_get shapes i) refl e
  where
    go : (o : Option Shape) → slice_get shapes i ≡ o → (elim o as (λ _. Bool) [ Some x ↦ test x | None ↦ false ]) ≡ true
        → (shape : Shape) × (slice_get shapes i ≡ Some shape) × (test shape ≡ true)
    go None is f = absurd (clash f)
    go (Some shape) is f = (shape, is, f)

in_own : (index block symbol : ℕ) (s : Shape) → block < closed_blocks s → symbol < closed_in s block → In (position index block symbol) (sources_in index s)
in_own index block symbol s low lt =
    in_flat (λ b. symbols_of index (closed_in s b) b) block (position index block symbol) (range_with_len 0 (closed_blocks s))
    (in_range block 0 (closed_blocks s) (omega arith) (omega (arith, low)))
    (in_map (λ i. position index block i) symbol (range_with_len 0 (closed_in s block)) (in_range symbol 0 (closed_in s block) (omega arith) (omega (arith, lt))))

in_sources : (p : Settings) → InRange p → (order : List Entry) (first k block symbol : ℕ)
    → at_index (shapes_of p order) k false (λ s. nat_lt symbol (closed_in s block)) ≡ true → In (position (first + k) block symbol) (all_sources first (shapes_of p order))
unfolding all_sources
in_sources p range [] first k block symbol e = absurd (clash e)
in_sources p range (x ∷ order) first zero block symbol e =
    let s : Shape = shape_of p x.object in
    let lt : symbol < closed_in s block = (Decides-ltb symbol (closed_in s block)).0 e in
    let I : ℕ → Type 0 = λ n. In (position n block symbol) (sources_in first s ++ all_sources (first + 1) (shapes_of p order)) in
    subst I (let z : first ≡ first + 0 = omega arith in z)
    (in_left (position first block symbol) (sources_in first s) (all_sources (first + 1) (shapes_of p order))
    (in_own first block symbol s (block_there p range x.object block (let less = lt in omega (arith, less))) lt))
in_sources p range (x ∷ order) first (suc k) block symbol e =
    let I : ℕ → Type 0 = λ n. In (position n block symbol) (all_sources (first + 1) (shapes_of p order)) in
    in_right (position (first + suc k) block symbol) (sources_in first (shape_of p x.object)) (all_sources (first + 1) (shapes_of p order))
    (subst I (let z : first + 1 + k ≡ first + suc k = omega arith in z) (in_sources p range order (first + 1) k block symbol e))

source_in : (p : Settings) → InRange p → (order : List Entry) (at : Position) → is_source (shapes_of p order) at ≡ true → In at (all_sources 0 (shapes_of p order))
source_in p range order at e =
    let I : ℕ → Type 0 = λ n. In (position n at.block at.symbol) (all_sources 0 (shapes_of p order)) in
    subst I (let z : 0 + at.index ≡ at.index = omega arith in z) (in_sources p range order 0 at.index at.block at.symbol e)

-- ---- a request that joins

same_self : (y : Want) → same_want y y ≡ true
same_self (want.Info index) = (Decides-eqb index index).1 refl
same_self (want.Symbol at) = position_itself at

module _ (p : Settings) (range : InRange p) (s : SenderState) (reach : IsReached p s) where
  abbrev shapes : List Shape
  shapes = current_shapes p s

  abbrev read : Request → Named
  read q = named p (last_index s) q

  wants_now : (q : Request) → wants_of shapes (asked_now p s q) ≡ asks_for shapes (read q)
  unfolding after
  wants_now q = as_it_came_law.wants p s q [] range reach refl

  counts_now : (q : Request) → counts_of shapes (asked_now p s q) ≡ filter (λ (c : Count). is_kept shapes s.current.drop c.of) (asked_counts (read q))
  unfolding after
  counts_now q = as_it_came_law.counts p s q [] range reach refl

  -- what a request that joins names or counts the round asks for
  abbrev Asking : Want → Asked → Bool
  Asking y a = names shapes y a || counts shapes y a

  -- a request among these asks for it
  abbrev OneAsks : List Request → Want → Type 0
  OneAsks requests y = (q : Request) × In q requests × (Asking y (asked_now p s q) ≡ true)

  named_so : (q : Request) (y : Want) → In y (asks_for shapes (read q)) → Asking y (asked_now p s q) ≡ true
  named_so q y there =
      let I : List Want → Type 0 = λ ws. In y ws in
      left_is (names shapes y (asked_now p s q)) (counts shapes y (asked_now p s q))
      (any_in (same_want y) y (wants_of shapes (asked_now p s q)) (subst I (sym (wants_now q)) there) (same_self y))

  source_named : (requests : List Request) (at : Position) → is_source shapes at ≡ true → is_asked (flat_map asked_spans (map read requests)) at ≡ true
      → OneAsks requests (want.Symbol at)
  source_named requests at closed asked =
      let found = of_any (lies_in at) (flat_map asked_spans (map read requests)) asked in
      let n = of_flat asked_spans found.0 (map read requests) found.1 in
      let q = of_map read n.0 requests n.1 in
      let S : Named → Type 0 = λ x. In found.0 (asked_spans x) in
      (q.0, q.1, named_so q.0 (want.Symbol at) (named_by q.0 (any_in (lies_in at) found.0 (asked_spans (read q.0)) (subst S q.2 n.2) found.2)))
    where
      named_by : (q : Request) → asks_source (read q) at ≡ true → In (want.Symbol at) (asks_for shapes (read q))
      named_by q e =
          in_left (want.Symbol at) (map want.Symbol (filter (asks_source (read q)) (all_sources 0 shapes)) ++ map want.Symbol (filter (is_encoded shapes) (asked_symbols (read q))))
          (map want.Info (filter (λ index. has_info shapes index && asks_info (read q) index) (range_with_len 0 (length shapes))))
          (in_left (want.Symbol at) (map want.Symbol (filter (asks_source (read q)) (all_sources 0 shapes))) (map want.Symbol (filter (is_encoded shapes) (asked_symbols (read q))))
          (in_map want.Symbol at (filter (asks_source (read q)) (all_sources 0 shapes))
          (in_kept (asks_source (read q)) at (all_sources 0 shapes) e (source_in p range s.current.order at closed))))

  info_named : (requests : List Request) (index : ℕ) → has_info shapes index ≡ true → InfoIsAsked (map read requests) index → OneAsks requests (want.Info index)
  info_named requests index has asked =
      let n = of_any (λ (r : Named). asks_info r index) (map read requests) asked in
      let q = of_map read n.0 requests n.1 in
      (q.0, q.1, named_so q.0 (want.Info index) (named_by q.0 (ap (λ (r : Named). asks_info r index) (sym q.2) ∙ n.2)))
    where
      within : index < length shapes
      within = let shape = shape_at shapes index (λ x. x.info) has in slice_get_within shapes index shape.0 shape.1

      named_by : (q : Request) → asks_info (read q) index ≡ true → In (want.Info index) (asks_for shapes (read q))
      named_by q e =
          in_right (want.Info index) (map want.Symbol (filter (asks_source (read q)) (all_sources 0 shapes)) ++ map want.Symbol (filter (is_encoded shapes) (asked_symbols (read q))))
          (map want.Info (filter (λ index. has_info shapes index && asks_info (read q) index) (range_with_len 0 (length shapes))))
          (in_map want.Info index (filter (λ index. has_info shapes index && asks_info (read q) index) (range_with_len 0 (length shapes)))
          (in_kept (λ index. has_info shapes index && asks_info (read q) index) index (range_with_len 0 (length shapes)) (and_is (has_info shapes index) (asks_info (read q) index) has e)
          (in_range index 0 (length shapes) (omega arith) (let lt = within in omega (arith, lt)))))

  counted_so : (requests : List Request) (at : Position) (wanted : ℕ) → is_source shapes at ≡ true → stands_behind s.current.drop (want.Symbol at) ≡ true → 0 < wanted
      → asks_as_many (flat_map asked_counts (map read requests)) (point_of at) wanted ≡ true → OneAsks requests (want.Symbol at)
  counted_so requests at wanted closed behind some asked =
      let found = of_any (λ (c : Count). same_point c.of (point_of at) && nat_le wanted c.lacking) (flat_map asked_counts (map read requests)) asked in
      let n = of_flat asked_counts found.0 (map read requests) found.1 in
      let q = of_map read n.0 requests n.1 in
      let parts = both (same_point (found.0).of (point_of at)) (nat_le wanted (found.0).lacking) found.2 in
      let S : Named → Type 0 = λ x. In found.0 (asked_counts x) in
      let L : List Count → Type 0 = λ cs. In found.0 cs in
      let kept = in_kept (λ (c : Count). is_kept shapes s.current.drop c.of) found.0 (asked_counts (read q.0))
      (ap (is_kept shapes s.current.drop) (points_same (found.0).of (point_of at) parts.0) ∙ here) (subst S q.2 n.2) in (
        q.0,
        q.1,
        right_is (names shapes (want.Symbol at) (asked_now p s q.0)) (counts shapes (want.Symbol at) (asked_now p s q.0))
            (any_in (λ (c : Count). same_point c.of (point_of at) && nat_lt 0 c.lacking) found.0 (counts_of shapes (asked_now p s q.0)) (subst L (sym (counts_now q.0)) kept)
            (and_is (same_point (found.0).of (point_of at)) (nat_lt 0 (found.0).lacking) parts.0 (more wanted (found.0).lacking some parts.1))),
      )
    where
      more : (a b : ℕ) → 0 < a → nat_le a b ≡ true → nat_lt 0 b ≡ true
      more a b lt e = go (leb_tells a b)
        where
          go : ((nat_le a b ≡ true) × (a ≤ b)) ⊎ ((nat_le a b ≡ false) × (b < a)) → nat_lt 0 b ≡ true
          go (inl le) = (Decides-ltb 0 b).1 (let most = le.1 in omega (arith, lt, most))
          go (inr gt) = absurd (clash (sym gt.0 ∙ e))

      points_same : (a b : Point) → same_point a b ≡ true → a ≡ b
      points_same a b e = ap (λ (n : ℕ). record { index = n; block = a.block }) ((Decides-eqb a.index b.index).0 parts.0)
          ∙ ap (λ (n : ℕ). record { index = b.index; block = n }) ((Decides-eqb a.block b.block).0 parts.1)
        where
          parts : ((a.index == b.index) ≡ true) × ((a.block == b.block) ≡ true)
          parts = both (a.index == b.index) (a.block == b.block) e

      here : is_kept shapes s.current.drop (point_of at) ≡ true
      here =
          let shape = shape_at shapes at.index (λ x. nat_lt at.symbol (closed_in x at.block)) closed in
          let lt = (Decides-ltb at.symbol (closed_in shape.0 at.block)).0 shape.2 in
          and_is (not (point_before (point_of at) s.current.drop)) (at_index shapes at.index false (λ x. nat_lt 0 (closed_in x at.block))) behind
          (ap (λ (o : Option Shape). elim o as (λ _. Bool) [ Some x ↦ nat_lt 0 (closed_in x at.block) | None ↦ false ]) shape.1
          ∙ (Decides-ltb 0 (closed_in shape.0 at.block)).1 (omega (arith, lt)))

  -- ---- each kind of need

  blocks_named : (requests : List Request) (at : Position) (width index first last : ℕ) → is_source shapes at ≡ true → BlocksAreAsked (map read requests) width index first last
      → at.index ≡ index → at.symbol < width → first ≤ at.block → at.block ≤ last → OneAsks requests (want.Symbol at)
  blocks_named requests at width index first last closed asked same narrow from to =
      source_named requests at closed (between_asked (flat_map asked_spans (map read requests)) at width index first last asked same narrow from to)

  -- a source symbol's block has 24 bits
  block_low : (at : Position) → is_source shapes at ≡ true → at.block ≤ 16777215
  block_low at closed = let name = reached_laws.sources p s at range reach closed in let lt = name.1 in omega (arith, lt)

  need_asked : (requests : List Request) (h : Holding) (need : Need) → IsAskedFor (map read requests) h need → (y : Want) → IsOfNeed need y
      → IsNarrow (width_at h need) y → is_info_or_source shapes y ≡ true → stands_behind s.current.drop y ≡ true → OneAsks requests y
  need_asked requests h (Object index) asked (want.Info other) same narrow there behind =
      info_named requests other there (subst (λ (i : ℕ). InfoIsAsked (map read requests) i) (sym same) asked.1)
  need_asked requests h (Object index) asked (want.Symbol at) same narrow there behind =
      blocks_named requests at (width_of h (point index 0)) index 0 16777215 there asked.0 same narrow (omega arith) (block_low at there)
  need_asked requests h (ObjectInfo index) asked (want.Info other) same narrow there behind =
      info_named requests other there (subst (λ (i : ℕ). InfoIsAsked (map read requests) i) (sym same) asked)
  need_asked requests h (ObjectInfo index) asked (want.Symbol at) same narrow there behind = absurd same
  need_asked requests h (Symbols index block wanted) asked (want.Info other) same narrow there behind = absurd same
  need_asked requests h (Symbols index block wanted) asked (want.Symbol at) same narrow there behind = go asked
    where
      index_is : at.index ≡ index
      index_is = ap (λ (x : Point). x.index) same.0

      block_is : at.block ≡ block
      block_is = ap (λ (x : Point). x.block) same.0

      go : (asks_as_many (flat_map asked_counts (map read requests)) (point index block) wanted ≡ true)
          ⊎ BlocksAreAsked (map read requests) (width_of h (point index block)) index block block → OneAsks requests (want.Symbol at)
      go (inl counted) =
          counted_so requests at wanted there behind same.1 (ap (λ (x : Point). asks_as_many (flat_map asked_counts (map read requests)) x wanted) same.0 ∙ counted)
      go (inr all) =
          blocks_named requests at (width_of h (point index block)) index block block there all index_is narrow (omega (arith, block_is)) (omega (arith, block_is))
  need_asked requests h (Source own) asked (want.Info other) same narrow there behind = absurd same
  need_asked requests h (Source own) asked (want.Symbol at) same narrow there behind =
      source_named requests at there (ap (is_asked (flat_map asked_spans (map read requests))) same ∙ asked)
  need_asked requests h (Rest index block) asked (want.Info other) same narrow there behind = absurd same
  need_asked requests h (Rest index block) asked (want.Symbol at) same narrow there behind =
      blocks_named requests at (width_of h (point index block)) index block 16777215 there asked same.0 narrow same.1 (block_low at there)

  -- what the requests ask for
  request_asked : (requests : List Request) (y : Want) → asked_by (map read requests) y ≡ true → is_info_or_source shapes y ≡ true
      → stands_behind s.current.drop y ≡ true → OneAsks requests y
  request_asked requests (want.Info index) e there behind = info_named requests index there e
  request_asked requests (want.Symbol at) e there behind = go (is_asked (flat_map asked_spans (map read requests)) at) refl e
    where
      go : (b : Bool) → is_asked (flat_map asked_spans (map read requests)) at ≡ b
          → (b || asks_as_many (flat_map asked_counts (map read requests)) (point_of at) 1) ≡ true → OneAsks requests (want.Symbol at)
      go true is f = source_named requests at there is
      go false is f = counted_so requests at 1 there behind (omega arith) f

-- ---- the round

any_left : (test : Asked → Bool) (xs ys : List Asked) → list_any test xs ≡ true → list_any test (xs ++ ys) ≡ true
any_left test xs ys e = let found = of_any test xs e in any_in test found.0 (xs ++ ys) (in_left found.0 xs ys found.1) found.2

module _ (p : Settings) (range : InRange p) (s : SenderState) (reach : IsReached p s) (now : ℕ) (y : Want) where
  one_joins : (rs : List Request) → OneAsks p range s reach rs y → asks_open p (joined_round p s now rs) y ≡ true
  one_joins [] one = absurd one.1
  one_joins (r ∷ rs) one =
      any_in (Asking p range s reach y) (asked_now p s one.0) ((round_at p s now).asked ++ map (asked_now p s) (r ∷ rs))
      (in_right (asked_now p s one.0) (round_at p s now).asked (map (asked_now p s) (r ∷ rs)) (in_map (asked_now p s) one.0 (r ∷ rs) one.1)) one.2

round_joins : (p : Settings) → InRange p → (s : SenderState) → IsReached p s → (now : ℕ) (requests : List Request) (h : Holding) (need : Need)
    → IsAskedFor (map (named p (last_index s)) requests) h need → (y : Want) → IsOfNeed need y → IsNarrow (width_at h need) y
    → is_info_or_source (current_shapes p s) y ≡ true → stands_behind s.current.drop y ≡ true → asks_open p (joined_round p s now requests) y ≡ true
round_joins p range s reach now requests h need asked y of narrow there behind =
    one_joins p range s reach now y requests (need_asked p range s reach requests h need asked y of narrow there behind)

-- the round asks for whatever the requests that join it ask for
pub requests_join : (p : Settings) → InRange p → (s : SenderState) → IsReached p s → (now : ℕ) (requests : List Request) (y : Want)
    → asked_by (map (named p (last_index s)) requests) y ≡ true → is_info_or_source (current_shapes p s) y ≡ true → stands_behind s.current.drop y ≡ true
    → asks_open p (joined_round p s now requests) y ≡ true
requests_join p range s reach now requests y asked there behind =
    one_joins p range s reach now y requests (request_asked p range s reach requests y asked there behind)

round_stays : (p : Settings) (s : SenderState) (now : ℕ) (requests : List Request) (y : Want) → asks_open p s y ≡ true
    → asks_open p (joined_round p s now requests) y ≡ true
round_stays p s now [] y e = e
round_stays p s now (r ∷ requests) y e = go s.round refl e
  where
    test : Asked → Bool
    test a = names (current_shapes p s) y a || counts (current_shapes p s) y a

    of : Option Round → Round
    of o = elim o as (λ _. Round) [ Some x ↦ x | None ↦ round_at p (record s { round = None }) now ]

    go : (o : Option Round) → s.round ≡ o → (elim o as (λ _. Bool) [ Some x ↦ list_any test x.asked | None ↦ false ]) ≡ true
        → list_any test ((round_at p s now).asked ++ map (asked_now p s) (r ∷ requests)) ≡ true
    go None is f = absurd (clash f)
    go (Some round) is f =
        any_left test (round_at p s now).asked (map (asked_now p s) (r ∷ requests)) (ap (λ (o : Option Round). list_any test (of o).asked) is ∙ f)

pub round_asks : RoundAsks
round_asks = record { joins = round_joins; stays = round_stays }
