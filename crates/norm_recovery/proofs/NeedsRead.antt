-- The requests of a NACK ask for all of each need that they were written for.
use Rattle.std.proofs.Common.{◌≡◌, ℕ, ◌-◌, ◌<◌, ◌≤◌, cond, List, [], ◌∷◌, ◌++◌, map, filter, Bool, true, false, Option, None, Some, refl, sym, ap, ◌∙◌, subst, arith, ◌⊎◌, inl, inr}
use Rattle.std.specs.Prelude.{◌==◌, ◌&&◌, ◌||◌, flat_map, nat_le}
use Rattle.std.specs.List.{AllByRecursion, list_any}
use Rattle.std.proofs.lemmas.Bool.{cases_lt}
use Rattle.std.proofs.lemmas.Bool.Decides.{Decides-eqb, leb_tells}
use Rattle.norm_base.specs.Settings.{Settings}
use Rattle.fec_plan.specs.Points.{point, point_of, position, same_point, reaches}
use Rattle.fec_plan.specs.declared.position.Position.{Position}
use Rattle.fec_plan.proofs.PositionLemmas.{Behind, behind, reached}
use Rattle.norm_ext.specs.Asked.{asked_items, written_item, request_alone, asked_before, requests_asked}
use Rattle.norm_ext.specs.Asking.{Span, span, Named, named, named_by, spans_of, pairs, pair_span, item_span, is_proper, block_span, object_span, asked_spans, asks_info, lies_in, Count, asked_counts}
use Rattle.norm_ext.specs.Requests.{Request, RequestItem}
use Rattle.norm_ext.specs.declared.kinds.Form.{Form}
use Rattle.norm_ext.specs.declared.kinds.Form.TheVariants as form
use Rattle.norm_ext.proofs.AskedLemmas.{alike, alike_is}
use Rattle.norm_ext.proofs.IdLemmas.{named_again_law}
use Rattle.norm_receive_rules.specs.HeardNeeds.{is_asked}
use Rattle.norm_receive_rules.specs.Holding.{Holding}
use Rattle.norm_receive_rules.specs.Nack.{item_of, asked_of, indices_of}
use Rattle.norm_receive_rules.specs.NackLaws.{InfoIsAsked, width_at, IsAskedFor, NamesBlocks}
use Rattle.norm_receive_rules.specs.Needs.{Need, Object as Unknown, ObjectInfo, Symbols, Source, Rest}
use Rattle.norm_safety.proofs.EntryLemmas.{clash}
use Rattle.norm_safety.proofs.PleaKept.{IsIn, in_of, in_front, in_behind, in_map}
use Rattle.norm_recovery.specs.NeedsRead.{IsNear, NeedsAreRead}

in_both : {X : Type 0} (xs ys : List X) (x : X) → IsIn (xs ++ ys) x → IsIn xs x ⊎ IsIn ys x
in_both [] ys x has = inr has
in_both (y ∷ xs) ys x (inl is) = inl (inl is)
in_both {X} (y ∷ xs) ys x (inr has) = go (in_both xs ys x has)
  where
    go : IsIn xs x ⊎ IsIn ys x → IsIn (y ∷ xs) x ⊎ IsIn ys x
    go (inl h) = inl (inr h)
    go (inr h) = inr h

flat_in : {X Y : Type 0} (f : X → List Y) (xs : List X) (x : X) (y : Y) → IsIn xs x → IsIn (f x) y → IsIn (flat_map f xs) y
flat_in f [] x y has h = absurd has
flat_in {X} {Y} f (z ∷ xs) x y (inl is) h = let F : X → Type 0 = λ w. IsIn (f w) y in in_front (f z) (flat_map f xs) y (subst F (sym is) h)
flat_in f (z ∷ xs) x y (inr has) h = in_behind (f z) (flat_map f xs) y (flat_in f xs x y has h)

pub filter_in : {X : Type 0} (test : X → Bool) (xs : List X) (x : X) → test x ≡ true → IsIn xs x → IsIn (filter test xs) x
filter_in test [] x e has = absurd has
filter_in {X} test (y ∷ xs) x e has = go has (λ later. filter_in test xs x e later)
  where
    first : (b : Bool) → b ≡ true → y ≡ x → IsIn (cond b (y ∷ filter test xs) (filter test xs)) x
    first true is same = inl same
    first false is same = absurd (clash is)

    further : (b : Bool) → IsIn (filter test xs) x → IsIn (cond b (y ∷ filter test xs) (filter test xs)) x
    further true later = inr later
    further false later = later

    go : (y ≡ x) ⊎ IsIn xs x → (IsIn xs x → IsIn (filter test xs) x) → IsIn (cond (test y) (y ∷ filter test xs) (filter test xs)) x
    go (inl same) more = first (test y) (ap test same ∙ e) same
    go (inr later) more = further (test y) (more later)

-- one that passes is one of them
any_in : {X : Type 0} (test : X → Bool) (xs : List X) (x : X) → IsIn xs x → test x ≡ true → list_any test xs ≡ true
any_in test [] x has e = absurd has
any_in {X} test (y ∷ xs) x has e = go has (λ later. any_in test xs x later e)
  where
    by : (a b : Bool) → a ≡ true → (a || b) ≡ true
    by true b e = refl
    by false b e = absurd (clash e)

    or : (a b : Bool) → b ≡ true → (a || b) ≡ true
    or true b e = refl
    or false b e = e

    go : (y ≡ x) ⊎ IsIn xs x → (IsIn xs x → list_any test xs ≡ true) → (test y || list_any test xs) ≡ true
    go (inl same) more = by (test y) (list_any test xs) (ap test same ∙ e)
    go (inr later) more = or (test y) (list_any test xs) (more later)

-- ---- what a need is written as

-- from what to what a need names symbols
abbrev span_for : Need → Span
span_for (Unknown index) = span (position index 0 0) (position index 0 0)
span_for (ObjectInfo index) = span (position index 0 0) (position index 0 0)
span_for (Symbols index block wanted) = span (position index block wanted) (position index block wanted)
span_for (Source at) = span at at
span_for (Rest index block) = span (position index block 0) (position index 16777215 0)

-- ---- a request names what it was written for

module _ (p : Settings) (known : ℕ) where
  -- what the items of a need name
  abbrev taken : List RequestItem → List (Option Position)
  taken items = map (named_by p known) items

  abbrev spans_for : Need → List RequestItem → List Span
  spans_for need items = spans_of (asked_of p need).form (map (named_by p known) items)

  names_it : (index block symbol : ℕ) → IsNear known index → named_by p known (written_item (item_of p (position index block symbol))) ≡ Some (position index block symbol)
  names_it index block symbol near =
      ap (λ (found : Option ℕ). elim found [ Some i ↦ Some (position i block symbol) | None ↦ None ]) (named_again_law p known index near.0 near.1 near.2)

  own_item : (f : List (Option Position) → List Span) (index block symbol : ℕ) → IsNear known index
      → f (named_by p known (written_item (item_of p (position index block symbol))) ∷ []) ≡ f (Some (position index block symbol) ∷ [])
  own_item f index block symbol near = ap (λ (o : Option Position). f (o ∷ [])) (names_it index block symbol near)

  -- alone it names the need's span
  own_span : (need : Need) → AllByRecursion (IsNear known) (indices_of need) → IsIn (spans_for need (asked_items (asked_of p need))) (span_for need)
  unfolding pairs
  own_span (Unknown index) near = subst (λ (spans : List Span). IsIn spans (span_for (Unknown index))) (sym (own_item (spans_of form.Items) index 0 0 near.0)) (inl refl)
  own_span (ObjectInfo index) near =
      subst (λ (spans : List Span). IsIn spans (span_for (ObjectInfo index))) (sym (own_item (spans_of form.Items) index 0 0 near.0)) (inl refl)
  own_span (Symbols index block wanted) near =
      subst (λ (spans : List Span). IsIn spans (span_for (Symbols index block wanted))) (sym (own_item (spans_of form.Erasures) index block wanted near.0)) (inl refl)
  own_span (Source at) near =
      subst (λ (spans : List Span). IsIn spans (span_for (Source at))) (sym (own_item (spans_of form.Items) at.index at.block at.symbol near.0)) (inl refl)
  own_span (Rest index block) near =
      subst (λ (a : Option Position). IsIn (pair_span a (named_by p known (written_item (item_of p (position index 16777215 0)))) ++ []) (span_for (Rest index block)))
      (sym (names_it index block 0 near.0))
      (subst (λ (b : Option Position). IsIn (pair_span (Some (position index block 0)) b ++ []) (span_for (Rest index block))) (sym (names_it index 16777215 0 near.0))
      (inl refl))

  -- and in front of further items, too
  in_joined : (need : Need) (items : List RequestItem) (x : Span) → IsIn (spans_for need (asked_items (asked_of p need))) x
      → IsIn (spans_for need (asked_items (asked_of p need) ++ items)) x
  unfolding pairs
  in_joined need items x has = go need has
    where
      front : (xs ys : List Span) → IsIn (xs ++ []) x → IsIn (xs ++ ys) x
      front xs ys has = by (in_both xs [] x has)
        where
          by : IsIn xs x ⊎ IsIn [] x → IsIn (xs ++ ys) x
          by (inl h) = in_front xs ys x h
          by (inr h) = absurd h

      go : (n : Need) → IsIn (spans_for n (asked_items (asked_of p n))) x → IsIn (spans_for n (asked_items (asked_of p n) ++ items)) x
      go (Unknown index) h = front (item_span (named_by p known (written_item (item_of p (position index 0 0))))) (spans_of form.Items (map (named_by p known) items)) h
      go (ObjectInfo index) h = front (item_span (named_by p known (written_item (item_of p (position index 0 0))))) (spans_of form.Items (map (named_by p known) items)) h
      go (Symbols index block wanted) h =
          front (item_span (named_by p known (written_item (item_of p (position index block wanted))))) (spans_of form.Erasures (map (named_by p known) items)) h
      go (Source at) h = front (item_span (named_by p known (written_item (item_of p at)))) (spans_of form.Items (map (named_by p known) items)) h
      go (Rest index block) h =
          front (pair_span (named_by p known (written_item (item_of p (position index block 0)))) (named_by p known (written_item (item_of p (position index 16777215 0)))))
          (spans_of form.Ranges (map (named_by p known) items)) h

  -- and so do those items behind it
  in_behind_it : (need : Need) (items : List RequestItem) (x : Span) → IsIn (spans_for need items) x → IsIn (spans_for need (asked_items (asked_of p need) ++ items)) x
  unfolding pairs
  in_behind_it (Unknown index) items x has = in_behind (item_span (named_by p known (written_item (item_of p (position index 0 0))))) (spans_of form.Items (map (named_by p known) items)) x has
  in_behind_it (ObjectInfo index) items x has = in_behind (item_span (named_by p known (written_item (item_of p (position index 0 0))))) (spans_of form.Items (map (named_by p known) items)) x has
  in_behind_it (Symbols index block wanted) items x has =
      in_behind (item_span (named_by p known (written_item (item_of p (position index block wanted))))) (spans_of form.Erasures (map (named_by p known) items)) x has
  in_behind_it (Source at) items x has = in_behind (item_span (named_by p known (written_item (item_of p at)))) (spans_of form.Items (map (named_by p known) items)) x has
  in_behind_it (Rest index block) items x has =
      in_behind (pair_span (named_by p known (written_item (item_of p (position index block 0)))) (named_by p known (written_item (item_of p (position index 16777215 0)))))
      (spans_of form.Ranges (map (named_by p known) items)) x has

  -- a request is of the need's form and flags, and names its span
  record Gives (need : Need) (q : Request) : Type 0 where
    form : q.form ≡ (asked_of p need).form
    flags : q.flags ≡ (asked_of p need).flags
    spans : IsIn (named p known q).spans (span_for need)

  -- one of some requests does
  abbrev Found : Need → List Request → Type 0
  Found need rs = (q : Request) × IsIn rs q × Gives need q

  alone_gives : (need : Need) → AllByRecursion (IsNear known) (indices_of need) → Gives need (request_alone (asked_of p need))
  alone_gives need near = record { form = refl; flags = refl; spans = own_span need near }

  own_found : (need : Need) (rs : List Request) → AllByRecursion (IsNear known) (indices_of need) → Found need (asked_before (asked_of p need) rs)
  own_found need [] near = (request_alone (asked_of p need), inl refl, alone_gives need near)
  own_found need (r ∷ rs) near = go (alike (asked_of p need).form (asked_of p need).flags r.form r.flags) refl
    where
      more : Request
      more = record r { items = asked_items (asked_of p need) ++ r.items }

      joins : r.form ≡ (asked_of p need).form → IsIn (named p known (record r { items = asked_items (asked_of p need) ++ r.items })).spans (span_for need)
      joins same =
          let S : Form → Type 0 = λ f. IsIn (spans_of f (map (named_by p known) (asked_items (asked_of p need) ++ r.items))) (span_for need) in
          subst S (sym same) (in_joined need r.items (span_for need) (own_span need near))

      go : (t : Bool) → alike (asked_of p need).form (asked_of p need).flags r.form r.flags ≡ t
          → Found need (cond t (record r { items = asked_items (asked_of p need) ++ r.items } ∷ rs) (request_alone (asked_of p need) ∷ r ∷ rs))
      go true e =
          let same = alike_is (asked_of p need).form (asked_of p need).flags r.form r.flags e in
          (more, inl refl, record { form = sym same.0; flags = sym same.1; spans = joins (sym same.0) })
      go false e = (request_alone (asked_of p need), inl refl, alone_gives need near)

  -- what is asked for before leaves it so
  still_found : (need first : Need) (rs : List Request) → Found need rs → Found need (asked_before (asked_of p first) rs)
  still_found need first [] (q, has, gives) = absurd has
  still_found need first (r ∷ rs) (q, has, gives) = go (alike (asked_of p first).form (asked_of p first).flags r.form r.flags) refl has
    where
      more : Request
      more = record r { items = asked_items (asked_of p first) ++ r.items }

      joined : (asked_of p first).form ≡ r.form → Gives need r → Gives need (record r { items = asked_items (asked_of p first) ++ r.items })
      joined same own =
          let S : Form → Type 0 = λ f. IsIn (spans_of f (map (named_by p known) r.items)) (span_for need) in
          let T : Form → Type 0 = λ f. IsIn (spans_of f (map (named_by p known) (asked_items (asked_of p first) ++ r.items))) (span_for need) in
          record { form = own.form; flags = own.flags; spans = subst T same (in_behind_it first r.items (span_for need) (subst S (sym same) own.spans)) }

      go : (t : Bool) → alike (asked_of p first).form (asked_of p first).flags r.form r.flags ≡ t → (r ≡ q) ⊎ IsIn rs q
          → Found need (cond t (record r { items = asked_items (asked_of p first) ++ r.items } ∷ rs) (request_alone (asked_of p first) ∷ r ∷ rs))
      go true e (inl is) =
          let same = alike_is (asked_of p first).form (asked_of p first).flags r.form r.flags e in
          (more, inl refl, joined same.0 (subst (Gives need) (sym is) gives))
      go true e (inr later) = (q, inr later, gives)
      go false e h = (q, inr h, gives)

  all_found : (wanted : List Need) (need : Need) → IsIn wanted need → AllByRecursion (IsNear known) (indices_of need)
      → Found need (requests_asked (map (asked_of p) wanted))
  all_found [] need has near = absurd has
  all_found (n ∷ wanted) need (inl is) near =
      subst (λ (x : Need). Found need (asked_before (asked_of p x) (requests_asked (map (asked_of p) wanted)))) (sym is)
      (own_found need (requests_asked (map (asked_of p) wanted)) near)
  all_found (n ∷ wanted) need (inr has) near =
      still_found need n (requests_asked (map (asked_of p) wanted)) (all_found wanted need has near)

-- ---- a request that names a need's span asks for it

-- a position of blocks that are at most so wide lies in the span of whole blocks
in_blocks : (index first width : ℕ) (at : Position) → width ≤ 256 → at.index ≡ index → at.symbol < width → reaches at (position index first 0) ≡ true
    → reaches (position index 16777215 (width - 1)) at ≡ true → lies_in at (span (position index first 0) (position index 16777215 255)) ≡ true
in_blocks index first width at wide same low past before =
    both (reaches at (position index first 0)) (reaches (position index 16777215 255) at) past
    (reached (position index 16777215 255) at (go (behind (position index 16777215 (width - 1)) at before)))
  where
    both : (a b : Bool) → a ≡ true → b ≡ true → (a && b) ≡ true
    both true b e f = f
    both false b e f = absurd (clash e)

    go : Behind (position index 16777215 (width - 1)) at → Behind (position index 16777215 255) at
    go (inl lt) = inl lt
    go (inr (is, inl lt)) = inr (is, inl lt)
    go (inr (is, inr (block, le))) = inr (is, inr (block, omega (arith, low, wide)))

either_so : (a b : Bool) → a ≡ true → b ≡ true → (a && b) ≡ true
either_so true b e f = f
either_so false b e f = absurd (clash e)

reaches_itself : (at : Position) → reaches at at ≡ true
reaches_itself at = reached at at (inr (refl, inr (refl, omega arith)))

-- the first symbol of an object lies in the object
first_in_object : (index : ℕ) → lies_in (position index 0 0) (object_span (span (position index 0 0) (position index 0 0))) ≡ true
first_in_object index =
    either_so (reaches (position index 0 0) (position index 0 0)) (reaches (position index 16777215 255) (position index 0 0)) (reaches_itself (position index 0 0))
    (reached (position index 16777215 255) (position index 0 0) (inr (refl, inl (omega arith))))

-- a range of blocks is not empty
range_proper : (index block : ℕ) → block ≤ 16777215 → is_proper (span (position index block 0) (position index 16777215 0)) ≡ true
range_proper index block low = reached (position index 16777215 0) (position index block 0) (inr (refl, go (cases_lt block 16777215)))
  where
    go : (block < 16777215) ⊎ (16777215 ≤ block) → (block < 16777215) ⊎ ((block ≡ 16777215) × (0 ≤ 0))
    go (inl lt) = inl lt
    go (inr ge) = inr (omega (arith, low, ge), omega arith)

-- a request as it was taken
abbrev request_of : Form → ℕ → List Span → Named
request_of f flags spans = record { form = f; flags = flags; spans = spans }

module _ (rs : List Named) (n : Named) (has : IsIn rs n) where
  asked_in_span : (at : Position) (x : Span) → IsIn (asked_spans n) x → lies_in at x ≡ true → is_asked (flat_map asked_spans rs) at ≡ true
  asked_in_span at x own lies = any_in (lies_in at) (flat_map asked_spans rs) x (flat_in asked_spans rs n x has own) lies

  info_in : (index : ℕ) → asks_info n index ≡ true → InfoIsAsked rs index
  info_in index e = any_in (λ (r : Named). asks_info r index) rs n has e

  count_in : (index block wanted : ℕ) → IsIn (asked_counts n) (record { of = point index block; lacking = wanted })
      → list_any (λ (c : Count). same_point c.of (point index block) && nat_le wanted c.lacking) (flat_map asked_counts rs) ≡ true
  count_in index block wanted own =
      any_in (λ (c : Count). same_point c.of (point index block) && nat_le wanted c.lacking) (flat_map asked_counts rs) (record { of = point index block; lacking = wanted })
      (flat_in asked_counts rs n (record { of = point index block; lacking = wanted }) has own) same
    where
      le : (k : ℕ) → nat_le k k ≡ true
      le k = grind (arith, leb_tells k k)

      same : (((index == index) && (block == block)) && nat_le wanted wanted) ≡ true
      same = ap (λ (b : Bool). (b && (block == block)) && nat_le wanted wanted) ((Decides-eqb index index).1 refl)
          ∙ ap (λ (b : Bool). b && nat_le wanted wanted) ((Decides-eqb block block).1 refl) ∙ le wanted

-- so do requests with it among them
asks_need : (p : Settings) (s : Holding) (need : Need) (rs : List Named) (spans : List Span)
    → IsIn rs (request_of (asked_of p need).form (asked_of p need).flags spans) → IsIn spans (span_for need) → width_at s need ≤ 256 → NamesBlocks need
    → IsAskedFor rs s need
asks_need p s (Unknown index) rs spans has there wide low = (
  λ at same narrow past before.
      asked_in_span rs (request_of form.Items 12 spans) has at (object_span (span (position index 0 0) (position index 0 0)))
      (in_map object_span spans (span (position index 0 0) (position index 0 0)) there)
      (in_blocks index 0 (width_at s (Unknown index)) at wide same narrow past before),
  info_in rs (request_of form.Items 12 spans) has index
      (any_in (λ (x : Span). lies_in (position index 0 0) (object_span x)) spans (span (position index 0 0) (position index 0 0)) there (first_in_object index)),
)
asks_need p s (ObjectInfo index) rs spans has there wide low =
    info_in rs (request_of form.Items 4 spans) has index
    (any_in (λ (x : Span). lies_in (position index 0 0) (object_span x)) spans (span (position index 0 0) (position index 0 0)) there (first_in_object index))
asks_need p s (Symbols index block wanted) rs spans has there wide low =
    inl (count_in rs (request_of form.Erasures 1 spans) has index block wanted
    (in_map count_at spans (span (position index block wanted) (position index block wanted)) there))
  where
    count_at : Span → Count
    count_at x = record { of = point_of x.first; lacking = x.first.symbol }
asks_need p s (Source at) rs spans has there wide low =
    asked_in_span rs (request_of form.Items 1 spans) has at (span at at)
    (in_front (spans ++ []) [] (span at at) (in_front spans [] (span at at) there))
    (either_so (reaches at at) (reaches at at) (reaches_itself at) (reaches_itself at))
asks_need p s (Rest index block) rs spans has there wide low = λ at same narrow past before.
    asked_in_span rs (request_of form.Ranges 2 spans) has at (block_span (span (position index block 0) (position index 16777215 0)))
    (in_front (map block_span (filter is_proper spans)) [] (block_span (span (position index block 0) (position index 16777215 0)))
    (in_map block_span (filter is_proper spans) (span (position index block 0) (position index 16777215 0))
    (filter_in is_proper spans (span (position index block 0) (position index 16777215 0)) (range_proper index block low) there)))
    (in_blocks index block (width_at s (Rest index block)) at wide same narrow past before)

pub needs_are_read : NeedsAreRead
needs_are_read p known s wanted need has near wide low =
    asks_need p s need (map (named p known) requests) (named p known found.0).spans
    (subst (λ (f : Form). IsIn (map (named p known) requests) (request_of f (asked_of p need).flags (named p known found.0).spans)) found.2.form
    (subst (λ (n : ℕ). IsIn (map (named p known) requests) (request_of found.0.form n (named p known found.0).spans)) found.2.flags
    (in_map (named p known) requests found.0 found.1))) found.2.spans wide low
  where
    requests : List Request
    requests = requests_asked (map (asked_of p) wanted)

    found : Found p known need (requests_asked (map (asked_of p) wanted))
    found = all_found p known wanted need (in_of wanted need has) near
