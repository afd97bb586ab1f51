-- What the rules say of an object, from what is kept of it.
use Rattle.std.proofs.Common.{◌≡◌, ℕ, zero, suc, ◌+◌, ◌-◌, ◌<◌, ◌≤◌, ◌⊎◌, inl, inr, List, [], ◌∷◌, length, get_or, cond, Bool, true, false, Option, Some, None, refl, sym, ap, ◌∙◌, subst, arith}
use Rattle.std.specs.Prelude.{◌==◌, ◌&&◌, filter, is_some, not, slice_get, slice_index}
use Rattle.std.specs.List.{list_all, list_any, range_with_len}
use Rattle.std.proofs.lemmas.Bool.{both_ways, cases_lt, cases_order, eq-eqb, ltb-false, ltb-true, ne_eqb, true_from_ne_false}
use Rattle.fec_plan.specs.Partition.{Cut, blocks, source_symbols}
use Rattle.fec_plan.specs.Points.{position}
use Rattle.norm_receive_rules.specs.Holding.{Held}
use Rattle.norm_receive_rules.specs.Plans.{cut_of_plan, held_of, holds, lacking, is_done}
use Rattle.rx_object.specs.ObjectState.{ObjectState, alone, short_blocks}
use Rattle.rx_object.specs.ObjectSound.{IsObject, IsBlock, object_view, plan_inside, symbols_inside}
use Rattle.rx_object.specs.Places.{has_id}
use Rattle.rx_object.specs.Rows.{block_ids, block_row}
use Rattle.rx_object.specs.declared.object.Object.TheInside.{Inside}
use Rattle.norm_receive_rules.specs.Short.{IsShortFrom}
use Rattle.short_blocks.specs.State.{IsFirstFrom, end_of, is_short}
use Rattle.rx_object.proofs.Alone.{held_of_block, held_of_none, any_in, none_in, some_in}
use Rattle.rx_object.proofs.Cuts.{some_sources}

-- ---- a symbol

pub object_holds : (x : Inside) (block symbol : ℕ) → block < blocks x.rows.plan → symbol < 255
    → holds (alone (object_view x)) (position x.index block symbol) ≡ has_id symbol (block_ids x.rows.plan x.rows.ids.items block)
object_holds x block symbol lt small =
    ap (list_any (λ (h : Held). h.at.symbol == symbol)) (held_of_block x.index x.rows.plan (symbols_inside x) block lt)
    ∙ any_in x.index x.rows.plan (symbols_inside x) block symbol small
    ∙ some_in x.rows.plan.e (block_ids x.rows.plan x.rows.ids.items block) (block_row x.rows.plan x.rows.octets.items block) symbol

pub holds_nothing : (x : Inside) (block symbol : ℕ) → blocks x.rows.plan ≤ block → holds (alone (object_view x)) (position x.index block symbol) ≡ false
holds_nothing x block symbol le = ap (list_any (λ (h : Held). h.at.symbol == symbol)) (held_of_none x.index x.rows.plan (symbols_inside x) block le)

pub holds_none : (x : Inside) (block symbol : ℕ) → 255 ≤ symbol → holds (alone (object_view x)) (position x.index block symbol) ≡ false
holds_none x block symbol large = go (cases_lt block (blocks x.rows.plan))
  where
    go : (block < blocks x.rows.plan) ⊎ (blocks x.rows.plan ≤ block) → holds (alone (object_view x)) (position x.index block symbol) ≡ false
    go (inl lt) =
        ap (list_any (λ (h : Held). h.at.symbol == symbol)) (held_of_block x.index x.rows.plan (symbols_inside x) block lt)
        ∙ none_in x.index x.rows.plan (symbols_inside x) block symbol large
    go (inr le) = holds_nothing x block symbol le

-- ---- a block

pub object_lacking : (x : Inside) (block : ℕ) → IsObject x → block < blocks x.rows.plan
    → lacking (alone (object_view x)) (plan_inside x) block ≡ source_symbols x.rows.plan block - slice_index x.counts.items block
object_lacking x block sound lt =
    ap (λ (d : Cut). source_symbols d block - length (held_of (alone (object_view x)) x.index block)) (sym sound.plan)
    ∙ ap (λ (hs : List Held). source_symbols x.rows.plan block - length hs) (held_of_block x.index x.rows.plan (symbols_inside x) block lt)
    ∙ ap (λ n. source_symbols x.rows.plan block - n) (let b : IsBlock x.index x.rows.plan x.rows.ids.items x.rows.octets.items x.counts.items block = sound.each block lt in b.held)

pub object_done : (x : Inside) (block : ℕ) → IsObject x → block < blocks x.rows.plan
    → is_done (alone (object_view x)) (plan_inside x) block ≡ (source_symbols x.rows.plan block - slice_index x.counts.items block == 0)
object_done x block sound lt = ap (λ n. n == 0) (object_lacking x block sound lt)

-- a block that the object has not is not done
pub never_done : (x : Inside) (block : ℕ) → IsObject x → blocks x.rows.plan ≤ block → is_done (alone (object_view x)) (plan_inside x) block ≡ false
never_done x block sound le =
    ap (λ (d : Cut). source_symbols d block - length (held_of (alone (object_view x)) x.index block) == 0) (sym sound.plan)
    ∙ ap (λ (hs : List Held). source_symbols x.rows.plan block - length hs == 0) (held_of_none x.index x.rows.plan (symbols_inside x) block le)
    ∙ ne_eqb (source_symbols x.rows.plan block - 0) 0 (λ e. let some = some_sources x.rows.plan block sound.rows.sound sound.rows.object in omega (arith, e, some))

-- a block that is short lacks symbols, and no other
pub done_where : (x : Inside) (block : ℕ) → IsObject x → block < blocks x.rows.plan → is_short x.shorts block ≡ false → is_done (alone (object_view x)) (plan_inside x) block ≡ true
done_where x block sound lt done =
    object_done x block sound lt
    ∙ eq-eqb (source_symbols x.rows.plan block - slice_index x.counts.items block) 0
    (let most = ltb-false (slice_index x.counts.items block) (source_symbols x.rows.plan block) (sym (sound.shorts.short block lt) ∙ done) in omega (arith, most))

pub short_where : (x : Inside) (block : ℕ) → IsObject x → block < blocks x.rows.plan → is_short x.shorts block ≡ true → is_done (alone (object_view x)) (plan_inside x) block ≡ false
short_where x block sound lt is =
    object_done x block sound lt
    ∙ ne_eqb (source_symbols x.rows.plan block - slice_index x.counts.items block) 0
    (λ e. let less = ltb-true (slice_index x.counts.items block) (source_symbols x.rows.plan block) (sym (sound.shorts.short block lt) ∙ is) in omega (arith, e, less))

pub short_is : (x : Inside) (block : ℕ) → IsObject x → block < blocks x.rows.plan → is_done (alone (object_view x)) (plan_inside x) block ≡ false → is_short x.shorts block ≡ true
short_is x block sound lt lacks =
    true_from_ne_false (is_short x.shorts block) (λ done. both_ways (is_done (alone (object_view x)) (plan_inside x) block) lacks (done_where x block sound lt done))

-- where the window of the short blocks ends
ends : (x : Inside) → IsObject x → end_of x.shorts ≡ blocks x.rows.plan
ends x sound = let start = sound.shorts.start in let all = sound.shorts.all in omega (arith, start, all)

-- ---- all blocks

first_passes : (p : ℕ → Bool) (s a n : ℕ) → a ≤ s → s < a + n → ((b : ℕ) → b < s → p b ≡ false) → p s ≡ true → slice_get (filter p (range_with_len a n)) 0 ≡ Some s
first_passes p s a zero le lt before here = absurd (omega arith)
first_passes p s a (suc n) le lt before here = go (cases_order a s) (λ below. first_passes p s (a + 1) n (omega arith) (omega arith) before here)
  where
    go : (a ≡ s) ⊎ ((a < s) ⊎ (s < a)) → (a < s → slice_get (filter p (range_with_len (a + 1) n)) 0 ≡ Some s)
        → slice_get (cond (p a) (a ∷ filter p (range_with_len (a + 1) n)) (filter p (range_with_len (a + 1) n))) 0 ≡ Some s
    go (inl e) more =
        ap (λ b. slice_get (cond b (a ∷ filter p (range_with_len (a + 1) n)) (filter p (range_with_len (a + 1) n))) 0) (ap p e ∙ here)
        ∙ ap Some e
    go (inr (inl below)) more =
        ap (λ b. slice_get (cond b (a ∷ filter p (range_with_len (a + 1) n)) (filter p (range_with_len (a + 1) n))) 0) (before a below) ∙ more below
    go (inr (inr above)) more = absurd (omega arith)

none_passes : (p : ℕ → Bool) (a n : ℕ) → ((b : ℕ) → b < a + n → p b ≡ false) → filter p (range_with_len a n) ≡ []
none_passes p a zero none = refl
none_passes p a (suc n) none =
    ap (λ b. cond b (a ∷ filter p (range_with_len (a + 1) n)) (filter p (range_with_len (a + 1) n))) (none a (omega arith))
    ∙ none_passes p (a + 1) n (λ b lt. none b (omega arith))

all_pass : (p : ℕ → Bool) (a n : ℕ) → ((b : ℕ) → b < a + n → p b ≡ true) → list_all p (range_with_len a n) ≡ true
all_pass p a zero all = refl
all_pass p a (suc n) all = ap (λ b. b && list_all p (range_with_len (a + 1) n)) (all a (omega arith)) ∙ all_pass p (a + 1) n (λ b lt. all b (omega arith))

pub one_fails : (p : ℕ → Bool) (s a n : ℕ) → a ≤ s → s < a + n → p s ≡ false → list_all p (range_with_len a n) ≡ false
one_fails p s a zero le lt here = absurd (omega arith)
one_fails p s a (suc n) le lt here = go (cases_order a s) (p a) refl (λ below. one_fails p s (a + 1) n (omega arith) (omega arith) here)
  where
    go : (a ≡ s) ⊎ ((a < s) ⊎ (s < a)) → (b : Bool) → p a ≡ b → (a < s → list_all p (range_with_len (a + 1) n) ≡ false) → (b && list_all p (range_with_len (a + 1) n)) ≡ false
    go (inl e) true same more = absurd (cc (same, ap p e, here))
    go (inr (inl below)) true same more = more below
    go (inr (inr above)) true same more = absurd (omega arith)
    go o false same more = refl

-- what is found of the short blocks is found of those that are not done
pub short_from : (x : Inside) (o : ObjectState) (from : ℕ) (found : Option ℕ) → IsObject x → object_view x ≡ o → IsFirstFrom x.shorts from found → IsShortFrom (alone o) o.plan from found
short_from x o from found sound is answer = subst (λ (v : ObjectState). IsShortFrom (alone v) v.plan from found) is (go found answer)
  where
    go : (found : Option ℕ) → IsFirstFrom x.shorts from found → IsShortFrom (alone (object_view x)) (plan_inside x) from found
    go (Some s) answer =
        let lt : s < blocks x.rows.plan = subst (λ n. s < n) (ends x sound) answer.short.1 in
        record {
          before = λ block lo hi. done_where x block sound (omega (arith, hi, lt)) (answer.before block lo hi);
          short = (answer.short.0, subst (λ (d : Cut). s < blocks d) sound.plan lt, short_where x s sound lt answer.short.2);
        }
    go None answer = record {
      before = λ block lo hi.
          let lt : block < blocks x.rows.plan = subst (λ (d : Cut). block < blocks d) (sym sound.plan) hi in
          done_where x block sound lt (answer.before block lo (subst (λ n. block < n) (sym (ends x sound)) lt));
      short = tt;
    }

-- the first block that is not done
pub object_short : (x : Inside) (found : Option ℕ) → IsObject x → IsFirstFrom x.shorts x.shorts.start found → found ≡ slice_get (short_blocks (object_view x)) 0
object_short x (Some s) sound answer =
    let start = sound.shorts.start in
    let lt : s < blocks x.rows.plan = subst (λ n. s < n) (ends x sound) answer.short.1 in
    sym (ap (λ (d : Cut). slice_get (filter (λ block. not (is_done (alone (object_view x)) (plan_inside x) block)) (range_with_len 0 (blocks d))) 0) (sym sound.plan)
    ∙ first_passes (λ block. not (is_done (alone (object_view x)) (plan_inside x) block)) s 0 (blocks x.rows.plan) (omega arith) (omega (arith, lt))
    (λ b less. ap not (done_where x b sound (omega (arith, less, lt)) (answer.before b (omega (arith, start)) less))) (ap not (short_where x s sound lt answer.short.2)))
object_short x None sound answer =
    let start = sound.shorts.start in
    sym (ap (λ (d : Cut). slice_get (filter (λ block. not (is_done (alone (object_view x)) (plan_inside x) block)) (range_with_len 0 (blocks d))) 0) (sym sound.plan)
    ∙ ap (λ (bs : List ℕ). slice_get bs 0) (none_passes (λ block. not (is_done (alone (object_view x)) (plan_inside x) block)) 0 (blocks x.rows.plan)
    (λ b lt. ap not (done_where x b sound (omega (arith, lt)) (answer.before b (omega (arith, start)) (subst (λ n. b < n) (sym (ends x sound)) (omega (arith, lt))))))))

pub object_all_done : (x : Inside) (found : Option ℕ) → IsObject x → IsFirstFrom x.shorts x.shorts.start found
    → is_some found ≡ not (list_all (is_done (alone (object_view x)) (plan_inside x)) (range_with_len 0 (blocks (cut_of_plan (plan_inside x)))))
object_all_done x (Some s) sound answer =
    let lt : s < blocks x.rows.plan = subst (λ n. s < n) (ends x sound) answer.short.1 in
    sym (ap (λ (d : Cut). not (list_all (is_done (alone (object_view x)) (plan_inside x)) (range_with_len 0 (blocks d)))) (sym sound.plan)
    ∙ ap not (one_fails (is_done (alone (object_view x)) (plan_inside x)) s 0 (blocks x.rows.plan) (omega arith) (omega (arith, lt)) (short_where x s sound lt answer.short.2)))
object_all_done x None sound answer =
    let start = sound.shorts.start in
    sym (ap (λ (d : Cut). not (list_all (is_done (alone (object_view x)) (plan_inside x)) (range_with_len 0 (blocks d)))) (sym sound.plan)
    ∙ ap not (all_pass (is_done (alone (object_view x)) (plan_inside x)) 0 (blocks x.rows.plan)
    (λ b lt. done_where x b sound (omega (arith, lt)) (answer.before b (omega (arith, start)) (subst (λ n. b < n) (sym (ends x sound)) (omega (arith, lt)))))))

-- ---- reading

-- an element that is read at a place of the list
pub read_at : (xs : List ℕ) (i v : ℕ) → i < length xs → v ≡ get_or xs i v → v ≡ get_or xs i 0
read_at xs i v lt e = e ∙ any_default xs i v 0 lt
  where
    any_default : (xs : List ℕ) (i a b : ℕ) → i < length xs → get_or xs i a ≡ get_or xs i b
    any_default [] i a b lt = absurd (omega arith)
    any_default (x ∷ xs) zero a b lt = refl
    any_default (x ∷ xs) (suc i) a b lt = any_default xs i a b (omega arith)

pub in_plan : (x : Inside) (o : ObjectState) (block : ℕ) → IsObject x → object_view x ≡ o → block < blocks (cut_of_plan o.plan) → block < blocks x.rows.plan
in_plan x o block sound is lt =
    subst (λ (d : Cut). block < blocks d) (sym sound.plan) (subst (λ (v : ObjectState). block < blocks (cut_of_plan v.plan)) (sym is) lt)
