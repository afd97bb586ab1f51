-- A round that closes by the rules: what a union collected becomes wants as the requests of the round ask.
use Rattle.std.proofs.Common.{◌≡◌, ℕ, zero, suc, ◌+◌, ◌<◌, ◌⊎◌, inl, inr, List, [], ◌∷◌, ◌++◌, map, length, get_or, drop, take, Bool, true, false, Some, None, refl, sym, ap, subst, ◌∙◌, arith}
use Rattle.std.specs.Prelude.{nat_le, not, ◌&&◌, filter, fold, min, max, slice_get}
use Rattle.std.specs.List.{range_with_len}
use Rattle.std.proofs.lemmas.Bool.Decides.{Decides-eqb, Decides-and}
use Rattle.norm_base.specs.Settings.{Settings}
use Rattle.fec_plan.specs.Partition.{source_symbols}
use Rattle.fec_plan.specs.Points.{Point, point, point_of, position, position_before, same_point}
use Rattle.fec_plan.specs.declared.position.Position.{Position}
use Rattle.norm_ext.specs.Asking.{Count}
use Rattle.norm_order.specs.Sets.{is_member, with_members}
use Rattle.norm_order.specs.Shapes.{Shape, symbols_of, closed_in, encoded_in}
use Rattle.norm_send_rules.specs.SenderState.{SenderState}
use Rattle.norm_send_rules.specs.InWindow.{current_shapes}
use Rattle.norm_send_rules.specs.Closing.{greatest, repairs, fresh_parity, block_wants}
use Rattle.norm_send_rules.specs.Wants.{want_before, want_index}
use Rattle.norm_send_rules.specs.declared.want.Want.{Want}
use Rattle.norm_send_rules.specs.declared.want.Want.TheVariants.{Symbol}
use Rattle.nack_union.specs.Slots.{want_at}
use Rattle.nack_union.specs.Kept.{Marked, Kept, Holds, listed, shape_of_marked}
use Rattle.nack_union.specs.Rounds.{counted_of, asked_from}
use Rattle.nack_union.proofs.Unions.{put_swap}
use Rattle.nack_union.proofs.Freshness.{put_both}
use Rattle.nack_union.proofs.Lists.{In, in_left, in_right, in_either, in_filter}

-- the repairs of the counted blocks of the objects from an index on
abbrev pub counted_from : SenderState → ℕ → List Marked → List Want
counted_from s index [] = []
counted_from s index (m ∷ ms) = counted_of s index m 0 m.counts ++ counted_from s (suc index) ms

-- what the round asks for by name may come first
pub named_first : (s : SenderState) (index : ℕ) (ms : List Marked) (ws : List Want)
    → with_members want_before (asked_from s index ms) ws ≡ with_members want_before (counted_from s index ms) (with_members want_before (listed (λ m. m.asked) index ms) ws)
named_first s index [] ws = refl
named_first s index (m ∷ ms) ws =
    put_both want_before (named ++ here) (asked_from s (suc index) ms) ws
    ∙ ap (with_members want_before (asked_from s (suc index) ms)) (put_both want_before named here ws)
    ∙ named_first s (suc index) ms (with_members want_before here (with_members want_before named ws))
    ∙ ap (with_members want_before (counted_from s (suc index) ms)) (put_swap later here (with_members want_before named ws))
    ∙ sym (put_both want_before here (counted_from s (suc index) ms) (with_members want_before later (with_members want_before named ws)))
    ∙ ap (with_members want_before (here ++ counted_from s (suc index) ms)) (sym (put_both want_before named later ws))
  where
    named : List Want
    named = map (want_at index) m.asked

    here : List Want
    here = counted_of s index m 0 m.counts

    later : List Want
    later = listed (λ m. m.asked) (suc index) ms

-- the repairs of a block of an object, by its count
abbrev pub block_repairs : SenderState → ℕ → Marked → ℕ → ℕ → List Want
block_repairs s index m block count = repairs s (point index block) (shape_of_marked m) (min count (source_symbols m.cut block))

-- where something stands among those of the counted blocks
in_counted : (s : SenderState) (index : ℕ) (m : Marked) (block : ℕ) (counts : List ℕ) (w : Want) → In w (counted_of s index m block counts)
    → (j : ℕ) × In w (block_repairs s index m (block + j) (get_or counts j 0))
in_counted s index m block [] w here = absurd here
in_counted s index m block (c ∷ counts) w here =
    go (in_either w (block_repairs s index m block c) (counted_of s index m (suc block) counts) here) (in_counted s index m (suc block) counts w)
  where
    go : In w (block_repairs s index m block c) ⊎ In w (counted_of s index m (suc block) counts)
        → (In w (counted_of s index m (suc block) counts) → (j : ℕ) × In w (block_repairs s index m (suc block + j) (get_or counts j 0)))
        → (j : ℕ) × In w (block_repairs s index m (block + j) (get_or (c ∷ counts) j 0))
    go (inl l) later = (0, subst (λ b. In w (block_repairs s index m b c)) (let e : block ≡ block + 0 = omega arith in e) l)
    go (inr r) later =
        let found = later r in
        (suc found.0, subst (λ b. In w (block_repairs s index m b (get_or counts found.0 0))) (let e : suc block + found.0 ≡ block + suc found.0 = omega arith in e) found.1)

counted_in : (s : SenderState) (index : ℕ) (m : Marked) (block : ℕ) (counts : List ℕ) (w : Want) (j : ℕ) → j < length counts
    → In w (block_repairs s index m (block + j) (get_or counts j 0)) → In w (counted_of s index m block counts)
counted_in s index m block [] w j lt here = absurd (omega arith)
counted_in s index m block (c ∷ counts) w zero lt here =
    in_left w (block_repairs s index m block c) (counted_of s index m (suc block) counts)
    (subst (λ b. In w (block_repairs s index m b c)) (let e : block + 0 ≡ block = omega arith in e) here)
counted_in s index m block (c ∷ counts) w (suc j) lt here =
    in_right w (block_repairs s index m block c) (counted_of s index m (suc block) counts)
    (counted_in s index m (suc block) counts w j (omega arith)
    (subst (λ b. In w (block_repairs s index m b (get_or counts j 0))) (let e : block + suc j ≡ suc block + j = omega arith in e) here))

-- and among those of all objects
pub in_all : (s : SenderState) (index : ℕ) (ms : List Marked) (d : Marked) (w : Want) → In w (counted_from s index ms)
    → (k : ℕ) × (j : ℕ) × (k < length ms) × In w (block_repairs s (index + k) (get_or ms k d) j (get_or (get_or ms k d).counts j 0))
in_all s index [] d w here = absurd here
in_all s index (m ∷ ms) d w here =
    go (in_either w (counted_of s index m 0 m.counts) (counted_from s (suc index) ms) here) (in_all s (suc index) ms d w)
  where
    go : In w (counted_of s index m 0 m.counts) ⊎ In w (counted_from s (suc index) ms)
        → (In w (counted_from s (suc index) ms) → (k : ℕ) × (j : ℕ) × (k < length ms) × In w (block_repairs s (suc index + k) (get_or ms k d) j (get_or (get_or ms k d).counts j 0)))
        → (k : ℕ) × (j : ℕ) × (k < suc (length ms)) × In w (block_repairs s (index + k) (get_or (m ∷ ms) k d) j (get_or (get_or (m ∷ ms) k d).counts j 0))
    go (inl l) later =
        let found = in_counted s index m 0 m.counts w l in (
          0,
          found.0,
          omega arith,
          subst (λ i. In w (block_repairs s i m found.0 (get_or m.counts found.0 0))) (let e : index ≡ index + 0 = omega arith in e)
              (subst (λ b. In w (block_repairs s index m b (get_or m.counts found.0 0))) (let e : 0 + found.0 ≡ found.0 = omega arith in e) found.1),
        )
    go (inr r) later =
        let found = later r in
        let lt = found.2 in (
          suc found.0,
          found.1,
          omega (arith, lt),
          subst (λ i. In w (block_repairs s i (get_or ms found.0 d) found.1 (get_or (get_or ms found.0 d).counts found.1 0))) (let e : suc index + found.0 ≡ index + suc found.0 = omega arith in e) found.3,
        )

pub all_in : (s : SenderState) (index : ℕ) (ms : List Marked) (d : Marked) (w : Want) (k j : ℕ) → k < length ms → j < length (get_or ms k d).counts
    → In w (block_repairs s (index + k) (get_or ms k d) j (get_or (get_or ms k d).counts j 0)) → In w (counted_from s index ms)
all_in s index [] d w k j lt some here = absurd (omega arith)
all_in s index (m ∷ ms) d w zero j lt some here =
    in_left w (counted_of s index m 0 m.counts) (counted_from s (suc index) ms)
    (counted_in s index m 0 m.counts w j some
    (subst (λ b. In w (block_repairs s index m b (get_or m.counts j 0))) (let e : j ≡ 0 + j = omega arith in e)
    (subst (λ i. In w (block_repairs s i m j (get_or m.counts j 0))) (let e : index + 0 ≡ index = omega arith in e) here)))
all_in s index (m ∷ ms) d w (suc k) j lt some here =
    in_right w (counted_of s index m 0 m.counts) (counted_from s (suc index) ms)
    (all_in s (suc index) ms d w k j (omega arith) some
    (subst (λ i. In w (block_repairs s i (get_or ms k d) j (get_or (get_or ms k d).counts j 0))) (let e : index + suc k ≡ suc index + k = omega arith in e) here))

-- repairs are of their object
symbols_of_index : (at : Point) (w : Want) (all : List Position) → ((x : Position) → In x all → x.index ≡ at.index) → In w (map Symbol all) → want_index w ≡ at.index
symbols_of_index at w [] each here = absurd here
symbols_of_index at w (x ∷ all) each (inl same) = ap want_index same ∙ each x (inl refl)
symbols_of_index at w (x ∷ all) each (inr later) = symbols_of_index at w all (λ y there. each y (inr there)) later

of_index : (index block : ℕ) (ids : List ℕ) (x : Position) → In x (map (position index block) ids) → x.index ≡ index
of_index index block [] x here = absurd here
of_index index block (i ∷ ids) x (inl same) = ap (λ (y : Position). y.index) same
of_index index block (i ∷ ids) x (inr later) = of_index index block ids x later

in_taken : {X : Type 0} (x : X) (n : ℕ) (xs : List X) → In x (take n xs) → In x xs
in_taken x zero xs here = absurd here
in_taken x (suc n) [] here = absurd here
in_taken x (suc n) (y ∷ xs) (inl same) = inl same
in_taken x (suc n) (y ∷ xs) (inr later) = inr (in_taken x n xs later)

pub repairs_of_index : (s : SenderState) (at : Point) (shape : Shape) (count : ℕ) (w : Want) → In w (repairs s at shape count) → want_index w ≡ at.index
repairs_of_index s at shape count w here = go (nat_le count (length (fresh_parity s at shape))) here
  where
    go : (b : Bool) → In w (elim b as (λ _. List Want) [ true ↦ map Symbol (take count (fresh_parity s at shape)) | false ↦ block_wants at shape ]) → want_index w ≡ at.index
    go true there =
        symbols_of_index at w (take count (fresh_parity s at shape))
        (λ x taken. of_index at.index at.block (range_with_len 0 (encoded_in shape at.block)) x (in_filter (λ symbol. nat_le (source_symbols shape.cut at.block) symbol.symbol && not (is_member position_before symbol s.sent)) x (symbols_of at.index (encoded_in shape at.block) at.block) (in_taken x count (fresh_parity s at shape) taken)).0) there
    go false there =
        symbols_of_index at w (symbols_of at.index (closed_in shape at.block) at.block)
        (λ x closed. of_index at.index at.block (range_with_len 0 (closed_in shape at.block)) x closed) there

-- a repair is a symbol of its block
symbols_of_point : (of : Point) (w : Want) (all : List Position) → ((x : Position) → In x all → point_of x ≡ of) → In w (map Symbol all)
    → (at : Position) × (w ≡ Symbol at) × (point_of at ≡ of)
symbols_of_point of w [] each here = absurd here
symbols_of_point of w (x ∷ all) each (inl same) = (x, same, each x (inl refl))
symbols_of_point of w (x ∷ all) each (inr later) = symbols_of_point of w all (λ y there. each y (inr there)) later

of_point : (of : Point) (ids : List ℕ) (x : Position) → In x (map (position of.index of.block) ids) → point_of x ≡ of
of_point of [] x here = absurd here
of_point of (i ∷ ids) x (inl same) = ap point_of same
of_point of (i ∷ ids) x (inr later) = of_point of ids x later

pub repair_symbol : (s : SenderState) (at : Point) (shape : Shape) (count : ℕ) (w : Want) → In w (repairs s at shape count)
    → (x : Position) × (w ≡ Symbol x) × (point_of x ≡ at)
repair_symbol s at shape count w here = go (nat_le count (length (fresh_parity s at shape))) here
  where
    go : (b : Bool) → In w (elim b as (λ _. List Want) [ true ↦ map Symbol (take count (fresh_parity s at shape)) | false ↦ block_wants at shape ])
        → (x : Position) × (w ≡ Symbol x) × (point_of x ≡ at)
    go true there =
        symbols_of_point at w (take count (fresh_parity s at shape))
        (λ x taken. of_point at (range_with_len 0 (encoded_in shape at.block)) x (in_filter (λ symbol. nat_le (source_symbols shape.cut at.block) symbol.symbol && not (is_member position_before symbol s.sent)) x (symbols_of at.index (encoded_in shape at.block) at.block) (in_taken x count (fresh_parity s at shape) taken)).0) there
    go false there =
        symbols_of_point at w (symbols_of at.index (closed_in shape at.block) at.block)
        (λ x closed. of_point at (range_with_len 0 (closed_in shape at.block)) x closed) there

-- a count that is kept
pub some_greatest : (counts : List Count) (at : Point) → 0 < greatest counts at → (c : Count) × In c counts × (c.of ≡ at)
some_greatest counts at some = go (filter (λ c. same_point c.of at) counts) (λ c. in_filter (λ (c : Count). same_point c.of at) c counts) some
  where
    same : (c : Count) → same_point c.of at ≡ true → c.of ≡ at
    same c e =
        let both = (Decides-and _ _ (Decides-eqb c.of.index at.index) (Decides-eqb c.of.block at.block)).0 e in
        ap (λ i. point i c.of.block) both.0 ∙ ap (point at.index) both.1

    go : (found : List Count) → ((c : Count) → In c found → In c counts × (same_point c.of at ≡ true)) → 0 < fold (λ most c. max most c.lacking) 0 found
        → (c : Count) × In c counts × (c.of ≡ at)
    go [] each some = absurd (omega (arith, some))
    go (c ∷ found) each some = let this = each c (inl refl) in (c, this.0, same c this.1)

-- the shapes of the window
shape_at : (ms : List Marked) (k : ℕ) (d : Marked) → k < length ms → slice_get (map shape_of_marked ms) k ≡ Some (shape_of_marked (get_or ms k d))
shape_at [] k d lt = absurd (omega arith)
shape_at (m ∷ ms) zero d lt = refl
shape_at (m ∷ ms) (suc k) d lt = shape_at ms k d (omega arith)

get_behind : (n : ℕ) (shapes : List Shape) (k : ℕ) → slice_get (drop n shapes) k ≡ slice_get shapes (n + k)
get_behind zero shapes k = ap (slice_get shapes) (let e : k ≡ 0 + k = omega arith in e)
get_behind (suc n) [] k = refl
get_behind (suc n) (x ∷ shapes) k = get_behind n shapes k ∙ ap (slice_get (x ∷ shapes)) (let e : suc (n + k) ≡ suc n + k = omega arith in e)

pub window_shape : (p : Settings) (s : SenderState) (u : Kept) (k : ℕ) (d : Marked) → Holds p u s → k < length u.objects
    → slice_get (current_shapes p s) (u.first + k) ≡ Some (shape_of_marked (get_or u.objects k d))
window_shape p s u k d st lt =
    sym (get_behind u.first (current_shapes p s) k) ∙ ap (λ shapes. slice_get shapes k) (sym st.shapes) ∙ shape_at u.objects k d lt

-- a list has nothing behind its end
pub past_end : (shapes : List Shape) (i : ℕ) (x : Shape) → slice_get shapes i ≡ Some x → i < length shapes
past_end [] i x e = absurd (no x e)
  where
    no : (y : Shape) → None ≡ Some y → ⊥
    no y h = cc
past_end (y ∷ shapes) zero x e = omega arith
past_end (y ∷ shapes) (suc i) x e = let rest = past_end shapes i x e in omega (arith, rest)
