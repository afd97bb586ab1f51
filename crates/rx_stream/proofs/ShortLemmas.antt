-- The blocks of a stream's ring that are not done, as the stream goes on, and what is found of them.
use Rattle.std.proofs.Common.{◌≡◌, ℕ, ◌+◌, ◌-◌, ◌<◌, ◌≤◌, ◌⊎◌, inl, inr, List, [], ◌∷◌, ◌++◌, length, set, get_or, drop, replicate, cond, true, false, Option, Some, None, refl, sym, ap, ◌∙◌, subst, arith}
use Rattle.std.specs.Prelude.{nat_lt, unwrap_or}
use Rattle.std.proofs.lemmas.Bool.{cases_eq, cases_lt, eq-eqb, le-ltb, lt-ltb, ltb-false, ltb-true, eqb-false, ne_eqb}
use Rattle.std.proofs.lemmas.List.{get_or-drop, get_or-replicate, get_or-set_other, get_or-set_same, get_or_append_left, get_or_push, length-drop, length-replicate, length-set, length_push}
use Rattle.fec_plan.specs.Partition.{blocks}
use Rattle.norm_receive_rules.specs.Holding.{Plan}
use Rattle.norm_receive_rules.specs.Plans.{cut_of_plan, is_done, lacking, says_stream}
use Rattle.rx_stream.specs.BlockState.{BlockState, empty_block, lacks}
use Rattle.norm_receive_rules.specs.Short.{IsShortFrom}
use Rattle.rx_stream.specs.StreamSound.{AreOf, AreShorts, stream_of}
use Rattle.rx_stream.specs.StreamState.{StreamState, alone}
use Rattle.rx_stream.proofs.StreamLemmas.{lacking_later, stream_lacking}
use Rattle.short_blocks.specs.State.{IsFirstFrom, ShortsState, all_short, end_of, gone_on, is_short, settled}

pub shorts_new : (k size room : ℕ) (ring : List BlockState) (shorts : ShortsState) → 1 ≤ k → room < 65536 → ring ≡ replicate room (empty_block k size) → shorts ≡ all_short room → AreShorts 0 ring shorts
shorts_new k size room ring shorts some few is same = subst (AreShorts 0 ring) (sym same) (subst (λ (bs : List BlockState). AreShorts 0 bs (all_short room)) (sym is) (record {
  start = refl;
  all = length-replicate room true ∙ sym (length-replicate room (empty_block k size));
  few = let n = length-replicate room (empty_block k size) in omega (arith, n, few);
  named = omega arith;
  short = λ place d lt.
      let n = length-replicate room (empty_block k size) in
      let within : place < room = omega (arith, n, lt) in
      get_or-replicate room place true false within
      ∙ sym (ap (λ (b : BlockState). nat_lt 0 (lacks b)) (get_or-replicate room place (empty_block k size) d within) ∙ lt-ltb 0 (k - 0) (omega (arith, some)));
}))

pub shorts_more : (first i block : ℕ) (ring after : List BlockState) (d b : BlockState) (shorts new : ShortsState) → AreShorts first ring shorts → block ≡ first + i → i < length ring → after ≡ set ring i b
    → 0 < lacks (get_or ring i d) → (lacks b ≡ 0 → new ≡ settled block shorts) → (0 < lacks b → new ≡ shorts) → AreShorts first after new
shorts_more first i block ring after d b shorts new h at lt is lacked done more = subst (λ (bs : List BlockState). AreShorts first bs new) (sym is) (go (cases_eq (lacks b) 0))
  where
    was : get_or shorts.short i false ≡ true
    was = h.short i d lt ∙ lt-ltb 0 (lacks (get_or ring i d)) lacked

    long : length (set ring i b) ≡ length ring
    long = length-set ring i b

    go : (lacks b ≡ 0) ⊎ (lacks b ≡ 0 → ⊥) → AreShorts first (set ring i b) new
    go (inl none) = subst (AreShorts first (set ring i b)) (sym (done none)) (record {
      start = h.start;
      all = length-set shorts.short (block - shorts.start) false ∙ h.all ∙ sym long;
      few = let few = h.few in omega (arith, few, long);
      named = h.named;
      short = λ place e within.
          let start = h.start in
          let all = h.all in
          let own : block - shorts.start ≡ i = omega (arith, start, at) in
          ap (λ n. get_or (set shorts.short n false) place false) own
          ∙ elim (cases_eq place i) [
            | inl same ↦
                ap (λ n. get_or (set shorts.short i false) n false) same ∙ get_or-set_same shorts.short i false false (omega (arith, all, lt))
                ∙ sym (ap (λ n. nat_lt 0 (lacks (get_or (set ring i b) n e))) same ∙ ap (λ (x : BlockState). nat_lt 0 (lacks x)) (get_or-set_same ring i b e lt)
                ∙ le-ltb 0 (lacks b) (omega (arith, none)))
            | inr other ↦
                get_or-set_other shorts.short i place false false other ∙ h.short place e (omega (arith, within, long))
                ∙ sym (ap (λ (x : BlockState). nat_lt 0 (lacks x)) (get_or-set_other ring i place b e other))
          ];
    })
    go (inr some) = subst (AreShorts first (set ring i b)) (sym (more (omega (arith, some)))) (record {
      start = h.start;
      all = h.all ∙ sym long;
      few = let few = h.few in omega (arith, few, long);
      named = h.named;
      short = λ place e within. elim (cases_eq place i) [
        | inl same ↦
            ap (λ n. get_or shorts.short n false) same ∙ was
            ∙ sym (ap (λ n. nat_lt 0 (lacks (get_or (set ring i b) n e))) same ∙ ap (λ (x : BlockState). nat_lt 0 (lacks x)) (get_or-set_same ring i b e lt)
            ∙ lt-ltb 0 (lacks b) (omega (arith, some)))
        | inr other ↦
            h.short place e (omega (arith, within, long))
            ∙ sym (ap (λ (x : BlockState). nat_lt 0 (lacks x)) (get_or-set_other ring i place b e other))
      ];
    })

pub shorts_passed : (first k size : ℕ) (ring after : List BlockState) (shorts new : ShortsState) → AreShorts first ring shorts → 0 < length ring → first < 16777216 → 1 ≤ k
    → after ≡ drop 1 ring ++ empty_block k size ∷ [] → new ≡ gone_on shorts → AreShorts (first + 1) after new
shorts_passed first k size ring after shorts new h some under least is gone = subst (AreShorts (first + 1) after) (sym gone) (subst (λ (bs : List BlockState). AreShorts (first + 1) bs (gone_on shorts)) (sym is) (record {
  start = ap (λ n. n + 1) h.start;
  all = let a = length_push (drop 1 shorts.short) true in let b = length-drop 1 shorts.short in let x = h.all in omega (arith, a, b, x, some, long);
  few = let few = h.few in omega (arith, few, long, some);
  named = omega (arith, under);
  short = λ place e within.
      let a = length-drop 1 shorts.short in
      let b = length-drop 1 ring in
      let all = h.all in
      elim (cases_lt (place + 1) (length ring)) [
        | inl before ↦
            get_or_append_left (drop 1 shorts.short) (true ∷ []) false place (omega (arith, a, all, before)) ∙ get_or-drop 1 shorts.short place false
            ∙ h.short (1 + place) e (omega (arith, before))
            ∙ sym (ap (λ (x : BlockState). nat_lt 0 (lacks x)) (get_or_append_left (drop 1 ring) (empty_block k size ∷ []) e place (omega (arith, b, before)) ∙ get_or-drop 1 ring place e))
        | inr last ↦
            get_or_push (drop 1 shorts.short) true false place (omega (arith, a, all, last, within, long, some))
            ∙ sym (ap (λ (x : BlockState). nat_lt 0 (lacks x)) (get_or_push (drop 1 ring) (empty_block k size) e place (omega (arith, b, last, within, long, some)))
            ∙ lt-ltb 0 (k - 0) (omega (arith, least)))
      ];
}))
  where
    long : length (drop 1 ring ++ empty_block k size ∷ []) ≡ length ring - 1 + 1
    long = let a = length_push (drop 1 ring) (empty_block k size) in let b = length-drop 1 ring in omega (arith, a, b)

-- a block of the ring is short where symbols of it are lacking
pub ring_short : (plan : Plan) (info : Option (List ℕ)) (first symbol block : ℕ) (ring : List BlockState) (shorts : ShortsState) → says_stream plan.flags ≡ true → AreOf plan.fti.b (plan.fti.e + 8) ring
    → AreShorts first ring shorts → first ≤ block → block < first + length ring → is_short shorts block ≡ nat_lt 0 (lacking (alone (stream_of plan info first symbol ring)) plan block)
ring_short plan info first symbol block ring shorts stream of h le lt =
    ap (λ m. get_or shorts.short (block - m) false) h.start
    ∙ h.short (block - first) (empty_block 1 8) (omega (arith, lt, le))
    ∙ ap (λ m. nat_lt 0 m) (sym (stream_lacking plan info first symbol (block - first) block ring (empty_block 1 8) stream of (omega (arith, le)) (omega (arith, lt, le))))

pub short_is : (plan : Plan) (info : Option (List ℕ)) (first symbol block : ℕ) (ring : List BlockState) (shorts : ShortsState) (o : StreamState) → says_stream plan.flags ≡ true → AreOf plan.fti.b (plan.fti.e + 8) ring
    → AreShorts first ring shorts → stream_of plan info first symbol ring ≡ o → o.point.block ≤ block → block < first + length ring → is_done (alone o) o.plan block ≡ false → is_short shorts block ≡ true
short_is plan info first symbol block ring shorts o stream of h seen le lt lacks =
    let reached : first ≤ block = subst (λ (v : StreamState). v.point.block ≤ block) (sym seen) le in
    let none = eqb-false (lacking (alone (stream_of plan info first symbol ring)) plan block) 0 (subst (λ (v : StreamState). is_done (alone v) v.plan block ≡ false) (sym seen) lacks) in
    ring_short plan info first symbol block ring shorts stream of h reached lt
    ∙ lt-ltb 0 (lacking (alone (stream_of plan info first symbol ring)) plan block) (omega (arith, none))

-- a block behind the ring is short, where the stream has it
pub behind_short : (plan : Plan) (info : Option (List ℕ)) (first symbol from n : ℕ) (ring : List BlockState) → says_stream plan.flags ≡ true → 1 ≤ plan.fti.b → first + length ring ≤ from → n ≡ blocks (cut_of_plan plan)
    → IsShortFrom (alone (stream_of plan info first symbol ring)) plan from (cond (nat_lt from n) (Some from) None)
behind_short plan info first symbol from n ring stream some le same = elim (cases_lt from n) [
  | inl lt ↦ subst (λ b. IsShortFrom (alone (stream_of plan info first symbol ring)) plan from (cond b (Some from) None)) (sym (lt-ltb from n lt)) (record {
    before = λ block lo hi. absurd (omega arith);
    short = (
      omega arith,
      subst (λ m. from < m) same lt,
      let all = lacking_later plan info first symbol from ring stream le in
          ne_eqb (lacking (alone (stream_of plan info first symbol ring)) plan from) 0 (λ e. omega (arith, e, all, some)),
    );
  })
  | inr over ↦ subst (λ b. IsShortFrom (alone (stream_of plan info first symbol ring)) plan from (cond b (Some from) None)) (sym (le-ltb from n over)) (record {
    before = λ block lo hi. absurd (let in_plan : block < n = subst (λ m. block < m) (sym same) hi in omega (arith, in_plan, lo, over));
    short = tt;
  })
]

-- what is found of the ring's blocks: the first short one, or the block behind the ring, where the stream has that
pub found_short : (plan : Plan) (info : Option (List ℕ)) (first symbol from n : ℕ) (ring : List BlockState) (shorts : ShortsState) (found : Option ℕ) → says_stream plan.flags ≡ true → 1 ≤ plan.fti.b
    → AreOf plan.fti.b (plan.fti.e + 8) ring → AreShorts first ring shorts → first ≤ from → from ≤ first + length ring → IsFirstFrom shorts from found → n ≡ blocks (cut_of_plan plan)
    → IsShortFrom (alone (stream_of plan info first symbol ring)) plan from (cond (nat_lt (unwrap_or found (first + length ring)) n) (Some (unwrap_or found (first + length ring))) None)
found_short plan info first symbol from n ring shorts found stream some of h reached under answer same = go found answer (cases_lt (unwrap_or found (first + length ring)) n)
  where
    ends : end_of shorts ≡ first + length ring
    ends = let start = h.start in let all = h.all in omega (arith, start, all)

    done_at : (block : ℕ) → first ≤ block → block < first + length ring → is_short shorts block ≡ false → is_done (alone (stream_of plan info first symbol ring)) plan block ≡ true
    done_at block le lt done =
        let none = ltb-false 0 (lacking (alone (stream_of plan info first symbol ring)) plan block) (sym (ring_short plan info first symbol block ring shorts stream of h le lt) ∙ done) in
        eq-eqb (lacking (alone (stream_of plan info first symbol ring)) plan block) 0 (omega (arith, none))

    short_at : (block : ℕ) → first ≤ block → block < first + length ring → is_short shorts block ≡ true → is_done (alone (stream_of plan info first symbol ring)) plan block ≡ false
    short_at block le lt is =
        let less = ltb-true 0 (lacking (alone (stream_of plan info first symbol ring)) plan block) (sym (ring_short plan info first symbol block ring shorts stream of h le lt) ∙ is) in
        ne_eqb (lacking (alone (stream_of plan info first symbol ring)) plan block) 0 (λ e. omega (arith, e, less))

    behind : is_done (alone (stream_of plan info first symbol ring)) plan (first + length ring) ≡ false
    behind =
        let all = lacking_later plan info first symbol (first + length ring) ring stream (omega arith) in
        ne_eqb (lacking (alone (stream_of plan info first symbol ring)) plan (first + length ring)) 0 (λ e. omega (arith, e, all, some))

    go : (found : Option ℕ) → IsFirstFrom shorts from found → (unwrap_or found (first + length ring) < n) ⊎ (n ≤ unwrap_or found (first + length ring))
        → IsShortFrom (alone (stream_of plan info first symbol ring)) plan from (cond (nat_lt (unwrap_or found (first + length ring)) n) (Some (unwrap_or found (first + length ring))) None)
    go (Some s) answer (inl lt) =
        let under : s < first + length ring = subst (λ m. s < m) ends answer.short.1 in
        subst (λ b. IsShortFrom (alone (stream_of plan info first symbol ring)) plan from (cond b (Some s) None)) (sym (lt-ltb s n lt)) (record {
          before = λ block lo hi. done_at block (omega (arith, lo, reached)) (omega (arith, hi, under)) (answer.before block lo hi);
          short = (answer.short.0, subst (λ m. s < m) same lt, short_at s (let lo = answer.short.0 in omega (arith, lo, reached)) under answer.short.2);
        })
    go (Some s) answer (inr le) =
        let under : s < first + length ring = subst (λ m. s < m) ends answer.short.1 in
        subst (λ b. IsShortFrom (alone (stream_of plan info first symbol ring)) plan from (cond b (Some s) None)) (sym (le-ltb s n le)) (record {
          before = λ block lo hi.
              let less : block < s = (let in_plan : block < n = subst (λ m. block < m) (sym same) hi in omega (arith, in_plan, le)) in
              done_at block (omega (arith, lo, reached)) (omega (arith, less, under)) (answer.before block lo less);
          short = tt;
        })
    go None answer (inl lt) =
        subst (λ b. IsShortFrom (alone (stream_of plan info first symbol ring)) plan from (cond b (Some (first + length ring)) None)) (sym (lt-ltb (first + length ring) n lt)) (record {
          before = λ block lo hi. done_at block (omega (arith, lo, reached)) hi (answer.before block lo (subst (λ m. block < m) (sym ends) hi));
          short = (under, subst (λ m. first + length ring < m) same lt, behind);
        })
    go None answer (inr le) =
        subst (λ b. IsShortFrom (alone (stream_of plan info first symbol ring)) plan from (cond b (Some (first + length ring)) None)) (sym (le-ltb (first + length ring) n le)) (record {
          before = λ block lo hi.
              let less : block < first + length ring = (let in_plan : block < n = subst (λ m. block < m) (sym same) hi in omega (arith, in_plan, le)) in
              done_at block (omega (arith, lo, reached)) less (answer.before block lo (subst (λ m. block < m) (sym ends) less));
          short = tt;
        })
