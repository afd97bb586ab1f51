-- What a window is seen as, by its links, and what each call leaves of it.
use Rattle.std.proofs.Common.{ℕ, ◌≡◌, ◌<◌, ◌≤◌, ◌+◌, ◌-◌, ◌==◌, inl, inr, Bool, true, false, cond, nat_lt, List, [], ◌∷◌, ◌++◌, length, map, drop, set, get_or, replicate, Some, None, subst, sym, ap, ◌∙◌, arith, refl}
use Rattle.std.specs.List.{range_with_len}
use Rattle.std.proofs.lemmas.Bool.{cases_eq, cases_lt, lt-ltb, le-ltb, ltb-true, eq-eqb, ne_eqb, both_ways}
use Rattle.std.proofs.lemmas.List.{get_or_past, get_or_default, same_lists, length-set, length-drop, get_or-set_same, get_or-set_other, get_or_append_left, get_or_push, get_or-drop, get_or-replicate, length-replicate, length_push}
use Rattle.std.proofs.lemmas.List.FromFn.{get_or-map-range_with_len, length-map-range_with_len}
use Rattle.short_blocks.specs.State.{ShortsState, IsFirstFrom, all_short, end_of, gone_on, is_short, settled}
use Rattle.short_blocks.specs.Links.{IsNext, all_linked}
use Rattle.short_blocks.specs.Sound.{IsWindow, lone, link_in, next_in, before_in, window_of}
use Rattle.short_blocks.specs.declared.links.Link.{Link}
use Rattle.short_blocks.proofs.Linking.{Settles, settles, Leaves, left_linked, Joins, joined_linked, all_are_linked}

-- what a window is seen as

module _ (start end first : ℕ) (links : List Link) where
  pub end_seen : start ≤ end → end_of (window_of start end first links) ≡ end
  end_seen le = let n = length-map-range_with_len (λ block. nat_lt 0 (next_in start end first links block)) start (end - start) in omega (arith, n)

  pub short_seen : (block : ℕ) → start ≤ block → block < end → is_short (window_of start end first links) block ≡ nat_lt 0 (next_in start end first links block)
  short_seen block le lt =
      get_or-map-range_with_len (λ k. nat_lt 0 (next_in start end first links k)) start (end - start) (block - start) block false (omega arith) (omega arith)

  pub within : (block : ℕ) → start ≤ block → is_short (window_of start end first links) block ≡ true → (block < end) × (0 < next_in start end first links block)
  within block le short = elim (cases_lt block end) [
    | inl lt ↦ (lt, ltb-true 0 _ (sym (short_seen block le lt) ∙ short))
    | inr over ↦ absurd (both_ways (is_short (window_of start end first links) block)
        (get_or_past (map (λ k. nat_lt 0 (next_in start end first links k)) (range_with_len start (end - start))) (block - start) false
        (let n = length-map-range_with_len (λ k. nat_lt 0 (next_in start end first links k)) start (end - start) in omega (arith, n)))
        short)
  ]

  pub first_from : (from next : ℕ) → start ≤ end → start ≤ from → IsNext (next_in start end first links) from end next
      → IsFirstFrom (window_of start end first links) from (cond (nat_lt next end) (Some next) None)
  first_from from next width le it = elim (cases_lt next end) [
    | inl lt ↦ subst (λ (b : Bool). IsFirstFrom (window_of start end first links) from (cond b (Some next) None)) (sym (lt-ltb next end lt)) (record {
      before = λ block lo hi. short_seen block (omega arith) (omega arith) ∙ ap (λ (n : ℕ). nat_lt 0 n) (it.done block lo hi);
      short = (it.above, subst (λ (n : ℕ). next < n) (sym (end_seen width)) lt, short_seen next (let above = it.above in omega (arith, above)) lt ∙ lt-ltb 0 _ (it.short lt));
    })
    | inr over ↦ subst (λ (b : Bool). IsFirstFrom (window_of start end first links) from (cond b (Some next) None)) (sym (le-ltb next end over)) (record {
      before = λ block lo hi.
          let lt : block < end = subst (λ (n : ℕ). block < n) (end_seen width) hi in
          short_seen block (omega arith) lt ∙ ap (λ (n : ℕ). nat_lt 0 n) (it.done block lo (omega arith));
      short = tt;
    })
  ]

-- a link at a place within is none that was given instead
kept_links : (links : List Link) (i : ℕ) (d e : Link) → i < length links → get_or links i d ≡ get_or links i e
kept_links links i d e lt = get_or_default links i d e lt

lone_is : (start end : ℕ) (alone : Bool) → 0 < cond alone end 0 → (let a : Link = record { done_from = start; next = cond alone end 0 } in a) ≡ record { done_from = start; next = end }
lone_is start end true some = refl
lone_is start end false some = absurd (omega arith)

-- the link of a short block, also where it is alone in its window
pub link_is : (start end first tail : ℕ) (links : List Link) → IsWindow start end first tail links → (block : ℕ) → start ≤ block → block < end
    → 0 < next_in start end first links block → get_or links (block - start) (record { done_from = start; next = end }) ≡ link_in start end first links block
link_is start end first tail links h block le lt some = elim (cases_lt 1 (end - start)) [
  | inl more ↦ let n = h.many more in kept_links links (block - start) _ _ (omega (arith, n))
  | inr few ↦
      let n = h.few few in
      let past : length links ≤ block - start = omega (arith, n) in
      let e = get_or_past links (block - start) (lone start end first) past in
      get_or_past links (block - start) (record { done_from = start; next = end }) past
      ∙ sym (e ∙ lone_is start end (first == start) (subst (λ (x : Link). 0 < x.next) e some))
]

-- a block leaves

same_back : (links : List Link) (i : ℕ) (d e : Link) → d.done_from ≡ e.done_from → (get_or links i d).done_from ≡ (get_or links i e).done_from
same_back links i d e same = elim (cases_lt i (length links)) [
  | inl lt ↦ ap (λ (x : Link). x.done_from) (get_or_default links i d e lt)
  | inr past ↦ ap (λ (x : Link). x.done_from) (get_or_past links i d past) ∙ same ∙ sym (ap (λ (x : Link). x.done_from) (get_or_past links i e past))
]

-- What the three steps leave of the links as a block leaves.
pub record AreTaken (start end b : ℕ) (run : Link) (old joined linked new : List Link) : Type 0 where
  pub before : (place : ℕ) (d : Link) → place + start + 1 ≡ run.done_from → (get_or joined place d).next ≡ run.next
  pub before_rest : (place : ℕ) (d : Link) → (place + start + 1 ≡ run.done_from → ⊥) → (get_or joined place d).next ≡ (get_or old place d).next
  pub before_same : (place : ℕ) (d : Link) → (get_or joined place d).done_from ≡ (get_or old place d).done_from
  pub behind : (place : ℕ) (d : Link) → place + start < end → place + start ≡ run.next → (get_or linked place d).done_from ≡ run.done_from
  pub behind_rest : (place : ℕ) (d : Link) → (place + start ≡ run.next → ⊥) → (get_or linked place d).done_from ≡ (get_or joined place d).done_from
  pub behind_same : (place : ℕ) (d : Link) → (get_or linked place d).next ≡ (get_or joined place d).next
  pub done : (d : Link) → b - start < length linked → (get_or new (b - start) d).next ≡ 0
  pub done_rest : (place : ℕ) (d : Link) → (place ≡ b - start → ⊥) → (get_or new place d).next ≡ (get_or linked place d).next
  pub done_same : (place : ℕ) (d : Link) → (get_or new place d).done_from ≡ (get_or linked place d).done_from
  pub joined_length : length joined ≡ length old
  pub linked_length : length linked ≡ length joined
  pub new_length : length new ≡ length linked

-- What is kept of the ends as a block leaves.
pub record AreEnds (start end : ℕ) (run : Link) (head tail head' tail' : ℕ) : Type 0 where
  pub first : start < run.done_from → head' ≡ head
  pub next : run.done_from ≤ start → head' ≡ run.next
  pub last : run.next < end → tail' ≡ tail
  pub gone : end ≤ run.next → tail' ≡ run.done_from

module _ (start end head tail b : ℕ) (run : Link) (old joined linked new : List Link) (head' tail' : ℕ) (h : IsWindow start end head tail old)
    (le : start ≤ b) (lt : b < end) (is : 0 < next_in start end head old b) (e : run ≡ link_in start end head old b)
    (t : AreTaken start end b run old joined linked new) (ends : AreEnds start end run head tail head' tail') where
  back_is : run.done_from ≡ before_in start end head old b
  back_is = ap (λ (x : Link). x.done_from) e

  next_is : run.next ≡ next_in start end head old b
  next_is = ap (λ (x : Link). x.next) e

  lengths : length new ≡ length old
  lengths = t.new_length ∙ t.linked_length ∙ t.joined_length

  -- more than one block: each has its link
  is_kept : (k : ℕ) → start ≤ k → k < end → (k ≡ b → ⊥) → k - start < length old
  is_kept k from to ne = let n = h.many (omega arith) in omega (arith, n)

  here_done : next_in start end head' new b ≡ 0
  here_done = elim (cases_lt 1 (end - start)) [
    | inl more ↦ let n = h.many more in let a = t.joined_length in let c = t.linked_length in t.done (lone start end head') (omega (arith, n, a, c))
    | inr few ↦
        let n = h.few few in
        let most = (h.linked.before b le lt is).most in
        let above = (h.linked.next b le lt is).above in
        let under : run.done_from ≤ start = omega (arith, most, back_is) in
        let head_is = ends.next under in
        ap (λ (x : Link). x.next) (get_or_past new (b - start) (lone start end head') (omega (arith, n, lengths)))
        ∙ ap (λ (x : Bool). cond x end 0) (ne_eqb head' start (λ same. omega (arith, same, head_is, next_is, above)))
  ]

  leaves : Leaves start end head tail b (next_in start end head old) (before_in start end head old) (next_in start end head' new) (before_in start end head' new) head' tail'
  leaves = record {
    here = here_done;
    joined = λ k from to ne at.
        t.done_rest (k - start) (lone start end head') (λ same. ne (omega arith))
        ∙ t.behind_same (k - start) (lone start end head')
        ∙ t.before (k - start) (lone start end head') (omega (arith, at, back_is))
        ∙ next_is;
    others = λ k from to ne other.
        t.done_rest (k - start) (lone start end head') (λ same. ne (omega arith))
        ∙ t.behind_same (k - start) (lone start end head')
        ∙ t.before_rest (k - start) (lone start end head') (λ same. other (omega (arith, same, back_is)))
        ∙ ap (λ (x : Link). x.next) (kept_links old (k - start) (lone start end head') (lone start end head) (is_kept k from to ne));
    joined_back = λ k from to at.
        t.done_same (k - start) (lone start end head')
        ∙ t.behind (k - start) (lone start end head') (omega arith) (omega (arith, at, next_is))
        ∙ back_is;
    others_back = λ k from to other.
        t.done_same (k - start) (lone start end head')
        ∙ t.behind_rest (k - start) (lone start end head') (λ same. other (omega (arith, same, next_is)))
        ∙ t.before_same (k - start) (lone start end head')
        ∙ same_back old (k - start) (lone start end head') (lone start end head) refl;
    head_stays = λ under. ends.first (omega (arith, under, back_is));
    head_goes = λ over. ends.next (omega (arith, over, back_is)) ∙ next_is;
    tail_stays = λ under. ends.last (omega (arith, under, next_is));
    tail_goes = λ over. ends.gone (omega (arith, over, next_is)) ∙ back_is;
  }

  pub settled_window : IsWindow start end head' tail' new
  settled_window = record {
    few = λ few. lengths ∙ h.few few;
    many = λ more. lengths ∙ h.many more;
    linked = left_linked start end head tail b _ _ _ _ head' tail' h.linked le lt is leaves;
  }

  gone : Settles start end b (next_in start end head old) (next_in start end head' new)
  gone = settles start end head tail b _ _ _ _ head' tail' h.linked le lt is leaves

  same_test : (k : ℕ) → start ≤ k → k < end → (k ≡ b → ⊥) → nat_lt 0 (next_in start end head' new k) ≡ nat_lt 0 (next_in start end head old k)
  same_test k from to ne = elim (cases_eq (next_in start end head old k) 0) [
    | inl zero ↦ ap (λ (n : ℕ). nat_lt 0 n) (gone.done k from to zero ∙ sym zero)
    | inr some ↦ lt-ltb 0 _ (gone.short k from to ne (omega (arith, some))) ∙ sym (lt-ltb 0 _ (omega (arith, some)))
  ]

  old_shorts : List Bool
  old_shorts = (window_of start end head old).short

  pub settled_view : window_of start end head' new ≡ settled b (window_of start end head old)
  settled_view = ap (λ (s : List Bool). let w : ShortsState = record { start = start; short = s } in w)
      (same_lists (window_of start end head' new).short (set (window_of start end head old).short (b - start) false)
      (length-map-range_with_len (λ k. nat_lt 0 (next_in start end head' new k)) start (end - start)
      ∙ sym (length-map-range_with_len (λ k. nat_lt 0 (next_in start end head old k)) start (end - start))
      ∙ sym (length-set (window_of start end head old).short (b - start) false))
      (λ k d below.
      let n = length-map-range_with_len (λ k. nat_lt 0 (next_in start end head' new k)) start (end - start) in
      let m = length-map-range_with_len (λ k. nat_lt 0 (next_in start end head old k)) start (end - start) in
      let in_window : k < end - start = omega (arith, n, below) in
      get_or-map-range_with_len (λ k. nat_lt 0 (next_in start end head' new k)) start (end - start) k (start + k) d in_window refl
      ∙ elim (cases_eq (start + k) b) [
        | inl at ↦
            let place : k ≡ b - start = omega (arith, at) in
            ap (λ (x : ℕ). nat_lt 0 (next_in start end head' new x)) at ∙ ap (λ (n : ℕ). nat_lt 0 n) here_done
            ∙ sym (ap (λ (x : ℕ). get_or (set (window_of start end head old).short (b - start) false) x d) place
            ∙ get_or-set_same (window_of start end head old).short (b - start) false d (omega (arith, m)))
        | inr ne ↦
            same_test (start + k) (omega arith) (omega (arith, in_window)) ne
            ∙ sym (get_or-set_other (window_of start end head old).short (b - start) k false d (λ same. ne (omega (arith, same)))
            ∙ get_or-map-range_with_len (λ k. nat_lt 0 (next_in start end head old k)) start (end - start) k (start + k) d in_window refl)
      ]))

-- the window goes on

module _ (start end head tail : ℕ) (last : Link) (old new : List Link) (h : IsWindow start end head tail old)
    (some : start < end) (gone : next_in start end head old start ≡ 0) (e : last ≡ record { done_from = tail; next = end + 1 })
    (n : length new ≡ length old)
    (moved : (place : ℕ) (d : Link) → place + 1 < length old → get_or new place d ≡ get_or old (place + 1) d)
    (put : (place : ℕ) (d : Link) → place + 1 ≡ length old → get_or new place d ≡ last) where
  -- the first short one was not the block that goes
  head_above : start + 1 ≤ head
  head_above = elim (cases_eq head start) [
    | inl same ↦ absurd (let short = subst (λ (x : ℕ). 0 < next_in start end head old x) same (h.linked.first.short (omega (arith, same))) in omega (arith, short, gone))
    | inr ne ↦ let above = h.linked.first.above in omega (arith, above, ne)
  ]

  few_is : end - start ≤ 1 → head ≡ start + 1
  few_is few = let most = h.linked.first.most in omega (arith, most, head_above)

  -- with one block no links are kept
  alone : end - start ≤ 1 → (block : ℕ) → link_in (start + 1) (end + 1) head new block ≡ record { done_from = start + 1; next = end + 1 }
  alone few block =
      let none = h.few few in
      get_or_past new (block - (start + 1)) (lone (start + 1) (end + 1) head) (omega (arith, none, n))
      ∙ ap (λ (b : Bool). let a : Link = record { done_from = start + 1; next = cond b (end + 1) 0 } in a) (eq-eqb head (start + 1) (few_is few))

  at_end : 1 < end - start → link_in (start + 1) (end + 1) head new end ≡ record { done_from = tail; next = end + 1 }
  at_end more = let all = h.many more in put (end - (start + 1)) (lone (start + 1) (end + 1) head) (omega (arith, all)) ∙ e

  before_end : (k : ℕ) → start < k → k < end → link_in (start + 1) (end + 1) head new k ≡ link_in start end head old k
  before_end k from to =
      let all = h.many (omega arith) in
      let place : k - (start + 1) + 1 ≡ k - start = omega arith in
      moved (k - (start + 1)) (lone (start + 1) (end + 1) head) (omega (arith, all))
      ∙ ap (λ (x : ℕ). get_or old x (lone (start + 1) (end + 1) head)) place
      ∙ kept_links old (k - start) _ _ (omega (arith, all))

  joins : Joins start end tail (next_in start end head old) (before_in start end head old) (next_in (start + 1) (end + 1) head new) (before_in (start + 1) (end + 1) head new)
  joins = record {
    here = elim (cases_lt 1 (end - start)) [
      | inl more ↦ ap (λ (x : Link). x.next) (at_end more)
      | inr few ↦ ap (λ (x : Link). x.next) (alone few end)
    ];
    kept = λ k from to. ap (λ (x : Link). x.next) (before_end k from to);
    here_back = elim (cases_lt 1 (end - start)) [
      | inl more ↦ inl (ap (λ (x : Link). x.done_from) (at_end more))
      | inr few ↦ inr (omega (arith, few), ap (λ (x : Link). x.done_from) (alone few end))
    ];
    kept_back = λ k from to. ap (λ (x : Link). x.done_from) (before_end k from to);
  }

  pub gone_on_window : IsWindow (start + 1) (end + 1) head (end + 1) new
  gone_on_window = record {
    few = λ few. n ∙ h.few (omega arith);
    many = λ more. let all = h.many (omega arith) in omega (arith, all, n);
    linked = joined_linked start end head tail _ _ _ _ h.linked some gone joins;
  }

  pub gone_on_view : window_of (start + 1) (end + 1) head new ≡ gone_on (window_of start end head old)
  gone_on_view =
      let f : ℕ → Bool = λ k. nat_lt 0 (next_in start end head old k) in
      let g : ℕ → Bool = λ k. nat_lt 0 (next_in (start + 1) (end + 1) head new k) in
      let width : (end + 1) - (start + 1) ≡ end - start = omega arith in
      let old_length = length-map-range_with_len f start (end - start) in
      let dropped = length-drop 1 (map f (range_with_len start (end - start))) in
      let pushed = length_push (drop 1 (map f (range_with_len start (end - start)))) true in
      ap (λ (s : List Bool). let w : ShortsState = record { start = start + 1; short = s } in w)
      (ap (λ (m : ℕ). map g (range_with_len (start + 1) m)) width
      ∙ same_lists (map g (range_with_len (start + 1) (end - start))) (drop 1 (map f (range_with_len start (end - start))) ++ true ∷ [])
      (let new_length = length-map-range_with_len g (start + 1) (end - start) in omega (arith, new_length, old_length, dropped, pushed))
      (λ k d below.
      let new_length = length-map-range_with_len g (start + 1) (end - start) in
      let in_window : k < end - start = omega (arith, new_length, below) in
      get_or-map-range_with_len g (start + 1) (end - start) k (start + 1 + k) d in_window refl
      ∙ elim (cases_lt (k + 1) (end - start)) [
        | inl before ↦
            ap (λ (x : Link). nat_lt 0 x.next) (before_end (start + 1 + k) (omega arith) (omega (arith, before)))
            ∙ sym (get_or_append_left (drop 1 (map f (range_with_len start (end - start)))) (true ∷ []) d k (omega (arith, old_length, dropped, before))
            ∙ get_or-drop 1 (map f (range_with_len start (end - start))) k d
            ∙ get_or-map-range_with_len f start (end - start) (1 + k) (start + 1 + k) d (omega (arith, before)) (omega arith))
        | inr at ↦
            let place : start + 1 + k ≡ end = omega (arith, at, in_window) in
            ap g place ∙ lt-ltb 0 _ (let here = joins.here in omega (arith, here))
            ∙ sym (get_or_push (drop 1 (map f (range_with_len start (end - start)))) true d k (omega (arith, old_length, dropped, at, in_window)))
      ]))

-- all are short

module _ (count : ℕ) (links : List Link) (few : count ≤ 1 → links ≡ []) (many : 1 < count → links ≡ all_linked count) where
  link_all : (k : ℕ) → k < count → link_in 0 count 0 links k ≡ record { done_from = k; next = k + 1 }
  link_all k lt = elim (cases_lt 1 count) [
    | inl more ↦
        ap (λ (all : List Link). get_or all (k - 0) (lone 0 count 0)) (many more)
        ∙ get_or-map-range_with_len (λ block. let l : Link = record { done_from = block; next = block + 1 } in l) 0 count (k - 0) k (lone 0 count 0) (omega arith) (omega arith)
    | inr one ↦
        let zero : 0 ≡ k = omega arith in
        let next : count ≡ k + 1 = omega arith in
        ap (λ (all : List Link). get_or all (k - 0) (lone 0 count 0)) (few one)
        ∙ ap (λ (x : ℕ). let l : Link = record { done_from = 0; next = x } in l) next
        ∙ ap (λ (x : ℕ). let l : Link = record { done_from = x; next = k + 1 } in l) zero
  ]

  pub new_window : IsWindow 0 count 0 count links
  new_window = record {
    few = λ one. ap (λ (l : List Link). length l) (few (omega arith));
    many = λ more. ap (λ (l : List Link). length l) (many (omega arith)) ∙ length-map-range_with_len (λ block. let l : Link = record { done_from = block; next = block + 1 } in l) 0 count ∙ omega arith;
    linked = all_are_linked count _ _ (λ k lt. ap (λ (x : Link). x.next) (link_all k lt)) (λ k lt. ap (λ (x : Link). x.done_from) (link_all k lt));
  }

  pub new_view : window_of 0 count 0 links ≡ all_short count
  new_view =
      let f : ℕ → Bool = λ k. nat_lt 0 (next_in 0 count 0 links k) in
      let all_length = length-map-range_with_len f 0 (count - 0) in
      let replicated = length-replicate count true in
      ap (λ (s : List Bool). let w : ShortsState = record { start = 0; short = s } in w)
      (same_lists (map f (range_with_len 0 (count - 0))) (replicate count true) (omega (arith, all_length, replicated))
      (λ k d below.
      let lt : k < count = omega (arith, all_length, below) in
      get_or-map-range_with_len f 0 (count - 0) k k d (omega arith) (omega arith)
      ∙ lt-ltb 0 _ (let is = ap (λ (x : Link). x.next) (link_all k lt) in omega (arith, is))
      ∙ sym (get_or-replicate count k true d lt)))
