-- An object that is whole is handed up as its rows, cut to its length.
use Rattle.std.proofs.Common.{◌≡◌, ◌-◌, ℕ, zero, suc, ◌+◌, ◌*◌, ◌<◌, ◌≤◌, ◌⊎◌, inl, inr, List, length, map, take, drop, cond, Option, Some, None, Bool, true, false, refl, sym, ap, ◌∙◌, subst, arith}
use Rattle.std.specs.Prelude.{◌&&◌, flat_map, min, slice_index, if◌then◌else◌}
use Rattle.std.specs.List.{concat, list_all, range_with_len, slice_range}
use Rattle.std.proofs.lemmas.Bool.{both_ways, cases_lt, eq-eqb, eqb-true, lt-ltb, true_from_ne_false}
use Rattle.std.proofs.lemmas.List.{length-map, length-take, take_all}
use Rattle.std.proofs.Math.Nat.{mul-le-mul_right, add-mul}
use Rattle.fec_plan.specs.Partition.{Cut, cut_of, blocks, source_symbols, all_symbols, symbol_number, sent_octets, coded_octets}
use Rattle.gf_field.specs.Symbol.{encoded_symbol, solved_symbol, solved_sources}
use Rattle.gf_field.specs.Element.{AreElements}
use Rattle.norm_order.specs.Symbols.{padded}
use Rattle.norm_receive_rules.specs.Holding.{Held, HeldInfo}
use Rattle.norm_receive_rules.specs.Plans.{cut_of_plan, info_of, is_done}
use Rattle.norm_receive_rules.specs.BlockValue.{ids_of, octets_of_held}
use Rattle.norm_receive_rules.specs.HandingUp.{block_octets, object_octets, is_whole}
use Rattle.norm_receive_rules.specs.Plans.{has_its_info}
use Rattle.norm_base.specs.Octets.{AreOctets}
use Rattle.rx_object.specs.BlockState.{held_at}
use Rattle.rx_object.specs.ObjectState.{ObjectState, alone}
use Rattle.rx_object.specs.ObjectSound.{IsObject, IsBlock, object_view, plan_inside, symbols_inside}
use Rattle.rx_object.specs.Places.{pieces, free_places}
use Rattle.rx_object.specs.Rows.{start_of, end_of, block_ids, block_row, held_in}
use Rattle.rx_object.specs.RowsSound.{IsCoded}
use Rattle.rx_object.specs.declared.object.Object.TheInside.{Inside}
use Rattle.rx_object.proofs.Cuts.{start_none, start_next, start_all, ends_within, few_sources, sent_most}
use Rattle.rx_object.proofs.Alone.{held_of_block}
use Rattle.rx_object.proofs.ObjectLemmas.{object_done, one_fails}
use Rattle.rx_object.proofs.RowLemmas.{part_long}
use Rattle.rx_object.proofs.SolvedLemmas.{full_in, bytes_take, bytes_drop}
use Rattle.rx_object.proofs.SourceLemmas.{IsEncoded, row_is}
use Rattle.rx_object.proofs.Covering.{Covers, covers_range, blocks_covered, rows_join}
use Rattle.rx_object.proofs.DoneBlocks.{handed_block, block_below, held_ids, encoded_some, solved_reaches}
use Rattle.rx_object.proofs.WordLemmas.{object_cut}

-- ---- the length that is sent of a source symbol

sent_is : (c : Cut) (l block symbol : ℕ) → c.l ≡ Some l → symbol < source_symbols c block → sent_octets c block symbol ≡ min c.e (l - (start_of c block + symbol) * c.e)
sent_is c l block symbol is lt = go c.l is lt
  where
    go : (o : Option ℕ) → o ≡ Some l → symbol < source_symbols (record { l = o; e = c.e; b = c.b; max_n = c.max_n }) block
        → sent_octets (record { l = o; e = c.e; b = c.b; max_n = c.max_n }) block symbol
        ≡ min c.e (l - (start_of (record { l = o; e = c.e; b = c.b; max_n = c.max_n }) block + symbol) * c.e)
    go (Some n) e less =
        ap (λ (t : Bool). if t then min c.e (n - symbol_number (cut_of n c.e c.b c.max_n) block symbol * c.e) else c.e) (lt-ltb symbol (source_symbols (cut_of n c.e c.b c.max_n) block) less)
        ∙ ap (λ m. min c.e (m - symbol_number (cut_of n c.e c.b c.max_n) block symbol * c.e)) (some_same e)
        ∙ ap (λ m. min c.e (l - m * c.e)) (let sum : symbol_number (cut_of n c.e c.b c.max_n) block symbol ≡ start_of (cut_of n c.e c.b c.max_n) block + symbol = omega arith in sum)
      where
        some_same : ◌≡◌ {A = Option ℕ} (Some n) (Some l) → n ≡ l
        some_same e = cc e
    go None e less = absurd (cc e)

held_reaches : (c : Cut) (l block id : ℕ) (x : List ℕ) → c.l ≡ Some l → length x ≡ c.e → id < source_symbols c block
    → (length (take (sent_octets c block id) x) ≡ c.e) ⊎ (l - start_of c block * c.e - id * c.e ≤ length (take (sent_octets c block id) x))
held_reaches c l block id x is long lt =
    let sent = sent_is c l block id is lt in
    let sum = add-mul (start_of c block) id c.e in
    let count = length-take (sent_octets c block id) x in
    elim (cases_lt (l - (start_of c block + id) * c.e) c.e) [
      | inl short ↦ inr (omega (arith, sent, sum, count, long, short))
      | inr full ↦ inl (omega (arith, sent, count, long, full))
    ]

-- ---- a block

object_length : (x : Inside) → IsObject x → x.rows.plan.l ≡ Some x.fti.l
object_length x sound = ap (λ (c : Cut). c.l) (sound.plan ∙ object_cut (plan_inside x) sound.kind)

object_wide : (x : Inside) → IsObject x → coded_octets (cut_of_plan (plan_inside x)) ≡ x.rows.plan.e
object_wide x sound = ap coded_octets (object_cut (plan_inside x) sound.kind) ∙ sym (ap (λ (c : Cut). c.e) (sound.plan ∙ object_cut (plan_inside x) sound.kind))

abbrev sources_at : Inside → ℕ → List (List ℕ)
sources_at x block =
    solved_sources x.rows.plan.e (ids_of (held_in x.index x.rows.plan (symbols_inside x) block)) (octets_of_held (held_in x.index x.rows.plan (symbols_inside x) block))

record IsDone (x : Inside) (block : ℕ) : Type 0 where
  count : length (held_in x.index x.rows.plan (symbols_inside x) block) ≡ source_symbols x.rows.plan block
  free : free_places (block_ids x.rows.plan x.rows.ids.items block) ≡ 0
  places : length (block_ids x.rows.plan x.rows.ids.items block) ≡ source_symbols x.rows.plan block
  long : length (block_row x.rows.plan x.rows.octets.items block) ≡ source_symbols x.rows.plan block * x.rows.plan.e
  most : source_symbols x.rows.plan block ≤ 255

done_there : (x : Inside) → IsObject x → (block : ℕ) → block < blocks x.rows.plan → is_done (alone (object_view x)) (plan_inside x) block ≡ true → IsDone x block
done_there x sound block lt done =
    let c : Cut = x.rows.plan in
    let b : IsBlock x.index x.rows.plan x.rows.ids.items x.rows.octets.items x.counts.items block = sound.each block lt in
    let none = eqb-true (source_symbols x.rows.plan block - slice_index x.counts.items block) 0 (sym (object_done x block sound lt) ∙ done) in
    let held = b.held in
    let sum = b.count in
    let whole : slice_index x.counts.items block ≡ source_symbols x.rows.plan block = omega (arith, none, sum) in
    let within = ends_within x.rows.plan block sound.rows.sound sound.rows.object lt in
    let ids = sound.rows.ids in
    let octets = sound.rows.octets in
    let wide : end_of x.rows.plan block * x.rows.plan.e ≤ all_symbols x.rows.plan * x.rows.plan.e = mul-le-mul_right x.rows.plan.e within in
    let few = few_sources x.rows.plan block sound.rows.sound sound.rows.object in
    let most = sound.rows.sound.most_b in
    let row = part_long (start_of x.rows.plan block * x.rows.plan.e) (end_of x.rows.plan block * x.rows.plan.e) x.rows.octets.items (omega (arith, wide, octets)) in
    let place = part_long (start_of x.rows.plan block) (end_of x.rows.plan block) x.rows.ids.items (omega (arith, within, ids)) in
    record {
      count = held ∙ whole;
      free = omega (arith, sum, whole);
      places = omega (arith, place);
      long = omega (arith, row, add-mul (start_of x.rows.plan block) (source_symbols x.rows.plan block) x.rows.plan.e);
      most = omega (arith, few, most);
    }

row_there : (x : Inside) → IsObject x → AreOctets x.rows.octets.items → (block : ℕ) → block < blocks x.rows.plan → IsDone x block
    → block_row x.rows.plan x.rows.octets.items block ≡ concat (map (padded x.rows.plan.e) (sources_at x block))
row_there x sound bytes block lt done =
    row_is (source_symbols x.rows.plan block) x.rows.plan.e (block_row x.rows.plan x.rows.octets.items block) (held_in x.index x.rows.plan (symbols_inside x) block) done.most done.long
    (bytes_take (end_of x.rows.plan block * x.rows.plan.e - start_of x.rows.plan block * x.rows.plan.e) (drop (start_of x.rows.plan block * x.rows.plan.e) x.rows.octets.items)
    (bytes_drop (start_of x.rows.plan block * x.rows.plan.e) x.rows.octets.items bytes))
    done.count (held_ids x.index x.rows.plan (symbols_inside x) block (source_symbols x.rows.plan block) done.count)
    (block_below (IsEncoded x.rows.plan.e (pieces x.rows.plan.e (source_symbols x.rows.plan block) (block_row x.rows.plan x.rows.octets.items block))) x.index x.rows.plan (symbols_inside x) block encoded)
  where
    encoded : (id : ℕ) (s : List ℕ) → id < 255 → symbols_inside x block id ≡ Some s
        → IsEncoded x.rows.plan.e (pieces x.rows.plan.e (source_symbols x.rows.plan block) (block_row x.rows.plan x.rows.octets.items block)) (held_at x.index block id (take (sent_octets x.rows.plan block id) s))
    encoded id s small there =
        let b : IsBlock x.index x.rows.plan x.rows.ids.items x.rows.octets.items x.counts.items block = sound.each block lt in
        let coded : IsCoded x.rows.plan block id s = b.coded id small s there in
        let long = coded.long in
        let sent = sent_most x.rows.plan block id sound.rows.object in
        record {
          small = small;
          short = omega (arith, length-take (sent_octets x.rows.plan block id) s, sent);
          octets = subst AreElements (sym coded.zeros) coded.octets;
          is =
              coded.zeros
              ∙ encoded_some x.rows.plan.e id (block_ids x.rows.plan x.rows.ids.items block) (pieces x.rows.plan.e (length (block_ids x.rows.plan x.rows.ids.items block)) (block_row x.rows.plan x.rows.octets.items block)) s
              (sym (full_in x.rows.plan.e (block_ids x.rows.plan x.rows.ids.items block) (block_row x.rows.plan x.rows.octets.items block) id done.free) ∙ there)
              ∙ ap (λ n. encoded_symbol x.rows.plan.e (pieces x.rows.plan.e n (block_row x.rows.plan x.rows.octets.items block)) id) done.places;
        }

sources_cover : (x : Inside) → IsObject x → (block : ℕ) → block < blocks x.rows.plan → IsDone x block → Covers x.rows.plan.e (x.fti.l - start_of x.rows.plan block * x.rows.plan.e) (sources_at x block)
unfolding solved_sources
sources_cover x sound block lt done =
    subst (λ n. Covers x.rows.plan.e n (sources_at x block)) (let e : x.fti.l - start_of x.rows.plan block * x.rows.plan.e - 0 * x.rows.plan.e ≡ x.fti.l - start_of x.rows.plan block * x.rows.plan.e = omega arith in e)
    (covers_range x.rows.plan.e (x.fti.l - start_of x.rows.plan block * x.rows.plan.e)
    (solved_symbol x.rows.plan.e (ids_of (held_in x.index x.rows.plan (symbols_inside x) block)) (octets_of_held (held_in x.index x.rows.plan (symbols_inside x) block)))
    0 (length (ids_of (held_in x.index x.rows.plan (symbols_inside x) block)))
    (λ m less.
    solved_reaches x.rows.plan.e (x.fti.l - start_of x.rows.plan block * x.rows.plan.e) (source_symbols x.rows.plan block) m (held_in x.index x.rows.plan (symbols_inside x) block)
    (block_below (λ (h : Held). h.at.symbol < source_symbols x.rows.plan block → (length h.octets ≡ x.rows.plan.e) ⊎ (x.fti.l - start_of x.rows.plan block * x.rows.plan.e - h.at.symbol * x.rows.plan.e ≤ length h.octets))
    x.index x.rows.plan (symbols_inside x) block
    (λ id s small there own.
    let b : IsBlock x.index x.rows.plan x.rows.ids.items x.rows.octets.items x.counts.items block = sound.each block lt in
    let coded : IsCoded x.rows.plan block id s = b.coded id small s there in
    held_reaches x.rows.plan x.fti.l block id s (object_length x sound) coded.long own))
    (let count = done.count in let ids = length-map (held_in x.index x.rows.plan (symbols_inside x) block) (λ (h : Held). h.at.symbol) in omega (arith, less, count, ids))))

many_sources : (x : Inside) (block : ℕ) → IsDone x block → length (sources_at x block) ≡ source_symbols x.rows.plan block
unfolding solved_sources
many_sources x block done =
    length-map (range_with_len 0 (length (ids_of (held_in x.index x.rows.plan (symbols_inside x) block)))) _
    ∙ length-range 0 (length (ids_of (held_in x.index x.rows.plan (symbols_inside x) block)))
    ∙ length-map (held_in x.index x.rows.plan (symbols_inside x) block) (λ (h : Held). h.at.symbol)
    ∙ done.count
  where
    length-range : (a n : ℕ) → length (range_with_len a n) ≡ n
    length-range a zero = refl
    length-range a (suc n) = ap suc (length-range (a + 1) n)

-- ---- the object

all_done_of : (x : Inside) → IsObject x → is_whole (alone (object_view x)) (plan_inside x) ≡ true → (block : ℕ) → block < blocks x.rows.plan → is_done (alone (object_view x)) (plan_inside x) block ≡ true
all_done_of x sound whole block lt =
    let all = second (has_its_info (alone (object_view x)) (plan_inside x)) _ whole in
    true_from_ne_false (is_done (alone (object_view x)) (plan_inside x) block)
    (λ no. both_ways (list_all (is_done (alone (object_view x)) (plan_inside x)) (range_with_len 0 (blocks (cut_of_plan (plan_inside x)))))
    (ap (λ (d : Cut). list_all (is_done (alone (object_view x)) (plan_inside x)) (range_with_len 0 (blocks d))) (sym sound.plan)
    ∙ one_fails (is_done (alone (object_view x)) (plan_inside x)) block 0 (blocks x.rows.plan) (omega arith) (omega (arith, lt)) no)
    all)
  where
    second : (a b : Bool) → (a && b) ≡ true → b ≡ true
    second true b e = e
    second false b e = absurd (cc e)

pub object_bytes : (x : Inside) → IsObject x → AreOctets x.rows.octets.items → is_whole (alone (object_view x)) (plan_inside x) ≡ true
    → take x.fti.l x.rows.octets.items ≡ object_octets (alone (object_view x)) (plan_inside x)
object_bytes x sound bytes whole =
    let c : Cut = x.rows.plan in
    let all = all_done_of x sound whole in
    let covered =
    blocks_covered x.rows.plan.e x.fti.l (start_of x.rows.plan) (sources_at x) (block_octets (alone (object_view x)) (plan_inside x)) (block_row x.rows.plan x.rows.octets.items) 0 (blocks x.rows.plan)
    (λ b lt.
    let done = done_there x sound b (omega (arith, lt)) (all b (omega (arith, lt))) in
    handed_block (alone (object_view x)) (plan_inside x) b x.rows.plan.e (held_in x.index x.rows.plan (symbols_inside x) b)
    (held_of_block x.index x.rows.plan (symbols_inside x) b (omega (arith, lt))) (all b (omega (arith, lt))) (object_wide x sound)
    (ap (λ (d : Cut). source_symbols d b) (sym sound.plan) ∙ sym done.count))
    (λ b lt. row_there x sound bytes b (omega (arith, lt)) (done_there x sound b (omega (arith, lt)) (all b (omega (arith, lt)))))
    (λ b lt. sources_cover x sound b (omega (arith, lt)) (done_there x sound b (omega (arith, lt)) (all b (omega (arith, lt)))))
    (λ b lt. start_next x.rows.plan b sound.rows.object ∙ ap (λ n. start_of x.rows.plan b + n) (sym (many_sources x b (done_there x sound b (omega (arith, lt)) (all b (omega (arith, lt))))))) in
    let joined =
    rows_join x.rows.octets.items (λ b. start_of x.rows.plan b * x.rows.plan.e) (block_row x.rows.plan x.rows.octets.items) 0 (blocks x.rows.plan)
    (λ b lt. mul-le-mul_right x.rows.plan.e (let next = start_next x.rows.plan b sound.rows.object in omega (arith, next)))
    (λ b lt. ap (λ n. slice_range x.rows.octets.items (start_of x.rows.plan b * x.rows.plan.e) (n * x.rows.plan.e)) (sym (start_next x.rows.plan b sound.rows.object))) in
    let none : start_of x.rows.plan 0 * x.rows.plan.e ≡ 0 = ap (λ n. n * x.rows.plan.e) (start_none x.rows.plan sound.rows.object) ∙ (let z : 0 * x.rows.plan.e ≡ 0 = omega arith in z) in
    let end : start_of x.rows.plan (0 + blocks x.rows.plan) * x.rows.plan.e ≡ length x.rows.octets.items =
    ap (λ n. start_of x.rows.plan n * x.rows.plan.e) (let z : 0 + blocks x.rows.plan ≡ blocks x.rows.plan = omega arith in z)
    ∙ ap (λ n. n * x.rows.plan.e) (start_all x.rows.plan sound.rows.sound sound.rows.object) ∙ sym sound.rows.octets in
    let rows : flat_map (block_row x.rows.plan x.rows.octets.items) (range_with_len 0 (blocks x.rows.plan)) ≡ x.rows.octets.items =
    joined.1
    ∙ ap (λ n. slice_range x.rows.octets.items n (start_of x.rows.plan (0 + blocks x.rows.plan) * x.rows.plan.e)) none
    ∙ ap (slice_range x.rows.octets.items 0) end
    ∙ take_all (length x.rows.octets.items - 0) x.rows.octets.items (omega arith) in
    let far : x.fti.l - start_of x.rows.plan 0 * x.rows.plan.e ≡ x.fti.l = omega (arith, none) in
    sym (ap (λ (d : Cut). take x.fti.l (flat_map (block_octets (alone (object_view x)) (plan_inside x)) (range_with_len 0 (blocks d)))) (sym sound.plan)
    ∙ ap (λ n. take n (flat_map (block_octets (alone (object_view x)) (plan_inside x)) (range_with_len 0 (blocks x.rows.plan)))) (sym far)
    ∙ covered
    ∙ ap (λ n. take n (flat_map (block_row x.rows.plan x.rows.octets.items) (range_with_len 0 (blocks x.rows.plan)))) far
    ∙ ap (take x.fti.l) rows)

-- the info of an object by itself is its own
pub own_info : (o : ObjectState) → info_of (alone o) o.plan.index ≡ o.info
own_info o = go o.info
  where
    own : List ℕ → HeldInfo
    own info = record { index = o.plan.index; info = info }

    said : Bool → List ℕ → Option (List ℕ)
    said b info = elim (cond b (Some (own info)) None) as (λ _. Option (List ℕ)) [ Some h ↦ Some h.info | None ↦ None ]

    go : (i : Option (List ℕ)) → info_of (alone (record o { info = i })) o.plan.index ≡ i
    go (Some info) = ap (λ (b : Bool). said b info) (eq-eqb o.plan.index o.plan.index refl)
    go None = refl
