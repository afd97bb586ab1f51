-- An object after a symbol was kept: what is kept of it, and what it is seen as.
use Rattle.std.proofs.Common.{◌≡◌, ℕ, ◌+◌, ◌-◌, ◌<◌, ◌≤◌, ◌⊎◌, inl, inr, List, length, set, get_or, Bool, true, false, refl, sym, ap, ◌∙◌, subst, arith, Vec, Global}
use Rattle.std.specs.Prelude.{◌==◌, ◌&&◌, ◌≢◌, nat_lt, slice_index}
use Rattle.std.proofs.lemmas.Bool.{cases_eq, cases_lt, eq-eqb, eqb-true, le-ltb, lt-ltb, ltb-true}
use Rattle.std.proofs.lemmas.List.{length-set, get_or-set_same, get_or-set_other}
use Rattle.fec_plan.specs.Partition.{Cut, blocks, source_symbols, encoding_symbols, sent_octets}
use Rattle.fec_plan.specs.Points.{position}
use Rattle.gf_field.specs.Element.{AreElements}
use Rattle.norm_order.specs.Sets.{with_member}
use Rattle.norm_order.specs.Symbols.{padded}
use Rattle.norm_receive_rules.specs.Holding.{Held}
use Rattle.norm_receive_rules.specs.Plans.{cut_of_plan, holds, is_done, lacking}
use Rattle.norm_receive_rules.specs.Putting.{held_before}
use Rattle.rx_object.specs.BlockState.{held_at}
use Rattle.rx_object.specs.ObjectState.{ObjectState, alone}
use Rattle.rx_object.specs.ObjectSound.{AreShorts, IsObject, IsBlock, object_view, plan_inside, symbols_inside}
use Rattle.rx_object.specs.Offering.{is_payload}
use Rattle.rx_object.specs.Places.{AreApart, free_places, has_id}
use Rattle.rx_object.specs.Rows.{block_ids, coded_symbol, with_coded, all_held}
use Rattle.rx_object.specs.RowsSound.{AreRows}
use Rattle.rx_object.specs.declared.object.Object.TheInside.{Inside}
use Rattle.rx_object.specs.declared.rows.Rows.{Rows}
use Rattle.short_blocks.specs.State.{ShortsState, is_short, settled}
use Rattle.rx_object.proofs.Cuts.{sent_most}
use Rattle.rx_object.proofs.Listed.{object_with}
use Rattle.rx_object.proofs.ObjectLemmas.{object_holds, object_done, object_lacking}
use Rattle.rx_object.proofs.OneMore.{Comes, each_then, none_there, sent_of}

-- ---- a symbol that is news

pub record IsNews (x : Inside) (block q : ℕ) (payload : List ℕ) : Type 0 where
  pub within : block < blocks x.rows.plan
  pub small : q < 255
  pub long : length payload ≡ sent_octets x.rows.plan block q
  pub new : has_id q (block_ids x.rows.plan x.rows.ids.items block) ≡ false
  pub less : slice_index x.counts.items block < source_symbols x.rows.plan block
  pub free : 0 < free_places (block_ids x.rows.plan x.rows.ids.items block)

first_set : (a b : Bool) → (a && b) ≡ true → a ≡ true
first_set true b e = refl
first_set false b e = absurd (cc e)

second_set : (a b : Bool) → (a && b) ≡ true → b ≡ true
second_set true b e = e
second_set false b e = absurd (cc e)

pub news : (x : Inside) (o : ObjectState) (block q : ℕ) (payload : List ℕ) → IsObject x → object_view x ≡ o → q < 255
    → holds (alone o) (position o.plan.index block q) ≡ false → is_done (alone o) o.plan block ≡ false → is_payload (cut_of_plan o.plan) block q payload ≡ true
    → IsNews x block q payload
news x o block q payload sound is small new lacks fits =
    let c : Cut = x.rows.plan in
    let payload_is : is_payload x.rows.plan block q payload ≡ true =
    ap (λ (d : Cut). is_payload d block q payload) sound.plan ∙ subst (λ (v : ObjectState). is_payload (cut_of_plan v.plan) block q payload ≡ true) (sym is) fits in
    let both = first_set (nat_lt block (blocks x.rows.plan) && nat_lt q (encoding_symbols x.rows.plan block)) (length payload == sent_octets x.rows.plan block q) payload_is in
    let there : block < blocks x.rows.plan = ltb-true block (blocks x.rows.plan) (first_set (nat_lt block (blocks x.rows.plan)) (nat_lt q (encoding_symbols x.rows.plan block)) both) in
    let b : IsBlock x.index x.rows.plan x.rows.ids.items x.rows.octets.items x.counts.items block = sound.each block there in
    let count = b.count in
    let open_still : (source_symbols x.rows.plan block - slice_index x.counts.items block == 0) ≡ false =
    sym (object_done x block sound there) ∙ subst (λ (v : ObjectState). is_done (alone v) v.plan block ≡ false) (sym is) lacks in
    let under : slice_index x.counts.items block < source_symbols x.rows.plan block = less_of (cases_lt (slice_index x.counts.items block) (source_symbols x.rows.plan block)) open_still in
    record {
      within = there;
      small = small;
      long = eqb-true (length payload) (sent_octets x.rows.plan block q)
          (second_set (nat_lt block (blocks x.rows.plan) && nat_lt q (encoding_symbols x.rows.plan block)) (length payload == sent_octets x.rows.plan block q) payload_is);
      new = sym (object_holds x block q there small) ∙ subst (λ (v : ObjectState). holds (alone v) (position v.plan.index block q) ≡ false) (sym is) new;
      less = under;
      free = omega (arith, count, under);
    }
  where
    less_of : {n m : ℕ} → (n < m) ⊎ (m ≤ n) → (m - n == 0) ≡ false → n < m
    less_of (inl lt) e = lt
    less_of {n = n} {m = m} (inr le) e = absurd (cc (e, eq-eqb (m - n) 0 (let none : m - n ≡ 0 = omega (arith, le) in none)))

-- as many places are free as the rules say are lacking
pub free_are : (x : Inside) (o : ObjectState) (block q : ℕ) (payload : List ℕ) (n : ℕ) → IsObject x → object_view x ≡ o → IsNews x block q payload
    → n ≡ lacking (alone o) o.plan block → free_places (block_ids x.rows.plan x.rows.ids.items block) ≡ n
free_are x o block q payload n sound seen is told =
    let b : IsBlock x.index x.rows.plan x.rows.ids.items x.rows.octets.items x.counts.items block = sound.each block is.within in
    let count = b.count in
    let same : n ≡ source_symbols x.rows.plan block - slice_index x.counts.items block =
    told ∙ subst (λ (v : ObjectState). lacking (alone v) v.plan block ≡ source_symbols x.rows.plan block - slice_index x.counts.items block) seen
    (object_lacking x block sound is.within) in
    omega (arith, same, count)

-- ---- the counts

-- the short blocks after a symbol of one came that lacked so many
pub shorts_then : (x : Inside) (block q : ℕ) (payload counts : List ℕ) (lacked : ℕ) (shorts : ShortsState) → IsObject x → IsNews x block q payload
    → free_places (block_ids x.rows.plan x.rows.ids.items block) ≡ lacked
    → counts ≡ set x.counts.items block (get_or x.counts.items block 0 + 1)
    → (lacked ≡ 1 → shorts ≡ settled block x.shorts) → ((lacked ≡ 1 → ⊥) → shorts ≡ x.shorts)
    → AreShorts x.rows.plan counts shorts
shorts_then x block q payload counts lacked shorts sound is lacks after last more = go (cases_eq lacked 1)
  where
    here : slice_index counts block ≡ slice_index x.counts.items block + 1
    here =
        let within = is.within in
        let counted = sound.counted in
        ap (λ xs. get_or xs block 0) after ∙ get_or-set_same x.counts.items block (get_or x.counts.items block 0 + 1) 0 (omega (arith, within, counted))

    there : (b : ℕ) → b ≢ block → slice_index counts b ≡ slice_index x.counts.items b
    there b other = ap (λ xs. get_or xs b 0) after ∙ get_or-set_other x.counts.items block b (get_or x.counts.items block 0 + 1) 0 other

    counted_out : slice_index x.counts.items block + lacked ≡ source_symbols x.rows.plan block
    counted_out =
        let b : IsBlock x.index x.rows.plan x.rows.ids.items x.rows.octets.items x.counts.items block = sound.each block is.within in
        let count = b.count in omega (arith, count, lacks)

    rest : (b : ℕ) → b < blocks x.rows.plan → b ≢ block → is_short x.shorts b ≡ nat_lt (slice_index counts b) (source_symbols x.rows.plan b)
    rest b lt other = sound.shorts.short b lt ∙ ap (λ n. nat_lt n (source_symbols x.rows.plan b)) (sym (there b other))

    go : (lacked ≡ 1) ⊎ (lacked ≡ 1 → ⊥) → AreShorts x.rows.plan counts shorts
    go (inl one) = subst (AreShorts x.rows.plan counts) (sym (last one)) (record {
      start = sound.shorts.start;
      all = length-set x.shorts.short (block - x.shorts.start) false ∙ sound.shorts.all;
      short = λ b lt. elim (cases_eq b block) [
        | inl e ↦
            let start = sound.shorts.start in
            let all = sound.shorts.all in
            let within = is.within in
            ap (λ n. get_or (set x.shorts.short (block - x.shorts.start) false) (n - x.shorts.start) false) e
            ∙ get_or-set_same x.shorts.short (block - x.shorts.start) false false (omega (arith, all, within))
            ∙ sym (le-ltb (slice_index counts b) (source_symbols x.rows.plan b)
            (let same = ap (slice_index counts) e in let own = ap (source_symbols x.rows.plan) e in omega (arith, counted_out, here, same, own, one)))
        | inr other ↦
            let start = sound.shorts.start in
            get_or-set_other x.shorts.short (block - x.shorts.start) (b - x.shorts.start) false false (λ same. other (omega (arith, same, start)))
            ∙ rest b lt other
      ];
    })
    go (inr many) = subst (AreShorts x.rows.plan counts) (sym (more many)) (record {
      start = sound.shorts.start;
      all = sound.shorts.all;
      short = λ b lt. elim (cases_eq b block) [
        | inl e ↦
            let less = is.less in
            let own = ap (source_symbols x.rows.plan) e in
            let count = ap (slice_index x.counts.items) e in
            let same = ap (slice_index counts) e in
            sound.shorts.short b lt
            ∙ lt-ltb (slice_index x.counts.items b) (source_symbols x.rows.plan b) (omega (arith, less, own, count))
            ∙ sym (lt-ltb (slice_index counts b) (source_symbols x.rows.plan b) (omega (arith, less, counted_out, here, same, own, many)))
        | inr other ↦ rest b lt other
      ];
    })

-- ---- the object

pub object_then : (x : Inside) (rows : Rows) (counts : Vec ℕ Global) (shorts : ShortsState) (block q : ℕ) (payload : List ℕ) → IsObject x → IsNews x block q payload → AreElements payload
    → rows.plan ≡ x.rows.plan → AreRows rows
    → ((b id : ℕ) → b < blocks x.rows.plan → id < 255 → coded_symbol x.rows.plan rows.ids.items rows.octets.items b id
    ≡ with_coded block q (padded x.rows.plan.e payload) (coded_symbol x.rows.plan x.rows.ids.items x.rows.octets.items) b id)
    → ((b : ℕ) → b ≢ block → block_ids x.rows.plan rows.ids.items b ≡ block_ids x.rows.plan x.rows.ids.items b)
    → free_places (block_ids x.rows.plan x.rows.ids.items block) ≡ free_places (block_ids x.rows.plan rows.ids.items block) + 1
    → AreApart (block_ids x.rows.plan rows.ids.items block)
    → counts.items ≡ set x.counts.items block (get_or x.counts.items block 0 + 1)
    → AreShorts x.rows.plan counts.items shorts
    → IsObject (record x { rows = rows; counts = counts; shorts = shorts })
object_then x rows counts shorts block q payload sound is bytes same are symbols others lacks apart after short = record {
  plan = same ∙ sound.plan;
  kind = sound.kind;
  rows = are;
  counted = ap length after ∙ length-set x.counts.items block (get_or x.counts.items block 0 + 1) ∙ sound.counted ∙ ap blocks (sym same);
  each =
      subst (λ (d : Cut). (b : ℕ) → b < blocks d → IsBlock x.index d rows.ids.items rows.octets.items counts.items b) (sym same)
      (subst (λ xs. (b : ℕ) → b < blocks x.rows.plan → IsBlock x.index x.rows.plan rows.ids.items rows.octets.items xs b) (sym after)
      (each_then x.index x.rows.plan block q payload x.rows.ids.items x.rows.octets.items x.counts.items rows.ids.items rows.octets.items sound.counted comes sound.each));
  shorts = subst (λ (d : Cut). AreShorts d counts.items shorts) (sym same) short;
}
  where
    comes : Comes x.rows.plan block q payload x.rows.ids.items x.rows.octets.items rows.ids.items rows.octets.items
    comes = record {
      within = is.within;
      small = is.small;
      long = is.long;
      fits = (let most = sent_most x.rows.plan block q sound.rows.object in let long = is.long in omega (arith, most, long));
      bytes = bytes;
      new = is.new;
      symbols = symbols;
      others = others;
      lacks = lacks;
      apart = apart;
    }

pub view_then : (x : Inside) (o : ObjectState) (rows : Rows) (counts : Vec ℕ Global) (shorts : ShortsState) (block q : ℕ) (payload : List ℕ) → IsObject x → object_view x ≡ o → IsNews x block q payload
    → rows.plan ≡ x.rows.plan
    → ((b id : ℕ) → b < blocks x.rows.plan → id < 255 → coded_symbol x.rows.plan rows.ids.items rows.octets.items b id
    ≡ with_coded block q (padded x.rows.plan.e payload) (coded_symbol x.rows.plan x.rows.ids.items x.rows.octets.items) b id)
    → object_view (record x { rows = rows; counts = counts; shorts = shorts })
    ≡ record { plan = o.plan; info = o.info; held = with_member held_before (held_at o.plan.index block q payload) o.held }
view_then x o rows counts shorts block q payload sound seen is same symbols =
    ap (λ (d : Cut). seen_as (all_held x.index d (coded_symbol d rows.ids.items rows.octets.items))) same
    ∙ ap seen_as (object_with x.index x.rows.plan block q (padded x.rows.plan.e payload) (symbols_inside x) (coded_symbol x.rows.plan rows.ids.items rows.octets.items)
    is.within is.small (none_there x.rows.plan x.rows.ids.items x.rows.octets.items block q is.new) symbols
    ∙ ap (λ xs. with_member held_before (held_at x.index block q xs) (all_held x.index x.rows.plan (symbols_inside x))) (sent_of x.rows.plan block q payload is.long))
    ∙ ap (λ (v : ObjectState). record { plan = v.plan; info = v.info; held = with_member held_before (held_at v.plan.index block q payload) v.held }) seen
  where
    seen_as : List Held → ObjectState
    seen_as held = record { plan = plan_inside x; info = x.info; held = held }
