-- Nothing is needed exactly where nothing is missing.
use Rattle.std.proofs.Common.{◌≡◌, ℕ, zero, suc, cond, ◌+◌, ◌-◌, ◌<◌, ◌≤◌, ◌⊎◌, inl, inr, List, [], ◌∷◌, ◌++◌, map, Bool, true, false, not, Option, None, Some, refl, sym, ap, subst, ◌∙◌, arith}
use Rattle.std.specs.Prelude.{filter, min, max, nat_lt, nat_le, ◌==◌, ◌&&◌, ◌||◌, is_none, is_some, ⊤}
use Rattle.std.specs.Bool.{Decides}
use Rattle.std.specs.List.{range_with_len}
use Rattle.std.proofs.lemmas.Bool.{cases_lt}
use Rattle.std.proofs.lemmas.Bool.Decides.{Decides-ltb, Decides-eqb, Decides-and, Decides-or, leb_tells}
use Rattle.norm_base.specs.Settings.{Settings}
use Rattle.fec_plan.specs.Partition.{blocks, source_symbols}
use Rattle.fec_plan.specs.Points.{Point, point, position, point_of, point_before}
use Rattle.fec_plan.specs.declared.position.Position.{Position}
use Rattle.norm_receive_rules.specs.Lazy.{Lazy, Nil, Next, followed_by, lazily}
use Rattle.norm_receive_rules.specs.Holding.{Plan}
use Rattle.norm_receive_rules.specs.ReceiverState.{ReceiverState}
use Rattle.norm_receive_rules.specs.Plans.{cut_of_plan, says_stream, plan_of, holds, lacking, is_done, has_its_info, first_block}
use Rattle.norm_receive_rules.specs.Needs.{Need, Object, ObjectInfo, Symbols, Source, Rest, farthest_index, is_covered, info_needs, blocks_before, blocks_due, counts_from, object_needs, unknown_needs}
use Rattle.norm_receive_rules.specs.StreamNeeds.{last_block, flush_in, stream_due, earlier_needs, missing_symbols, flush_symbols, end_of, end_symbols, last_symbols, symbols_flushed, is_behind, open_block, rest_needs, stream_needs}
use Rattle.norm_receive_rules.specs.AllNeeds.{planned_needs, needs_of, needs_from, last_known, needs_nothing}
use Rattle.norm_receive_rules.specs.NothingMissing.{IsBeforeFarthest, IsFlushed, BlocksAreThere, IsBeforeFlush, IsThere, StreamIsThere, IsThereByPlan, ObjectIsThere, NothingIsMissing}
use Rattle.norm_receive_rules.specs.Laws.{NeedsLaws}

clash : false ≡ true → ⊥
clash e = cc

same_as : {P Q : Type 0} (b : Bool) → Decides b P → (P → Q) → (Q → P) → Decides b Q
same_as b d to from = (λ e. to (d.0 e), λ q. d.1 (from q))

-- Lists of which nothing is there.

abbrev is_empty : {X : Type 0} → List X → Bool
is_empty xs = elim xs [ [] ↦ true | x ∷ more ↦ false ]

abbrev pub is_nil : {X : Type 0} → Lazy X → Bool
is_nil xs = elim xs [ Nil ↦ true | Next x rest ↦ false ]

both_nil : {X P Q : Type 0} (xs : Lazy X) (more : ⊤ → Lazy X) → Decides (is_nil xs) P → Decides (is_nil (more tt)) Q
    → Decides (is_nil (followed_by xs more)) (P × Q)
unfolding followed_by
both_nil Nil more d c = (λ e. (d.0 refl, c.0 e), λ both. c.1 both.1)
both_nil (Next x rest) more d c = (λ e. absurd (clash e), λ both. absurd (clash (d.1 both.0)))

nil_lazily : {X P : Type 0} (xs : List X) → Decides (is_empty xs) P → Decides (is_nil (lazily xs)) P
unfolding lazily
nil_lazily [] d = d
nil_lazily (x ∷ xs) d = d

both_empty : {X P Q : Type 0} (xs ys : List X) → Decides (is_empty xs) P → Decides (is_empty ys) Q → Decides (is_empty (xs ++ ys)) (P × Q)
both_empty [] ys d c = (λ e. (d.0 refl, c.0 e), λ both. c.1 both.1)
both_empty (x ∷ xs) ys d c = (λ e. absurd (clash e), λ both. absurd (clash (d.1 both.0)))

map_empty : {X Y P : Type 0} (f : X → Y) (xs : List X) → Decides (is_empty xs) P → Decides (is_empty (map f xs)) P
map_empty f [] d = d
map_empty f (x ∷ xs) d = d

abbrev one_where : {X : Type 0} → Bool → X → List X
one_where b x = elim b [ true ↦ x ∷ [] | false ↦ [] ]

one_empty : {X : Type 0} (b : Bool) (x : X) → Decides (is_empty (one_where b x)) (b ≡ false)
one_empty true x = (λ e. absurd (clash e), λ e. absurd (clash (sym e)))
one_empty false x = (λ e. refl, λ e. refl)

-- Counts.

counts_nil : (s : ReceiverState) (plan : Plan) (n first : ℕ)
    → Decides (is_nil (counts_from s.holding plan n first)) ((block : ℕ) → first ≤ block → block < first + n → is_done s.holding plan block ≡ true)
unfolding counts_from
counts_nil s plan zero first = (λ e block le lt. absurd (omega arith), λ all. refl)
counts_nil s plan (suc n) first = go (lacking s.holding plan first) refl (counts_nil s plan n (suc first))
  where
    counts : ℕ → Lazy Need
    counts less = elim less [
      | zero ↦ counts_from s.holding plan n (suc first)
      | suc k ↦ Next (Symbols plan.index first (suc k)) (λ u. counts_from s.holding plan n (suc first))
    ]

    Rest : Type 0
    Rest = (block : ℕ) → suc first ≤ block → block < suc first + n → is_done s.holding plan block ≡ true

    later : (block : ℕ) → first ≤ block → (block ≡ first) ⊎ (suc first ≤ block)
    later block le = elim (cases_lt first block) [ inl lt ↦ inr (omega arith) | inr ge ↦ inl (omega arith) ]

    some : (k : ℕ) → suc k ≡ 0 → ⊥
    some k is = omega arith

    go : (less : ℕ) → lacking s.holding plan first ≡ less → Decides (is_nil (counts_from s.holding plan n (suc first))) Rest
        → Decides (is_nil (counts less)) ((block : ℕ) → first ≤ block → block < first + suc n → is_done s.holding plan block ≡ true)
    go zero e d = (
      λ nil block le lt. elim (later block le) [
        | inl is ↦ ap (λ b. lacking s.holding plan b == 0) is ∙ ap (λ k. k == 0) e
        | inr more ↦ d.0 nil block more (omega arith)
      ],
      λ all. d.1 (λ block le lt. all block (omega arith) (omega arith)),
    )
    go (suc k) e d = (
      λ nil. absurd (clash nil),
      λ all. absurd (some k ((Decides-eqb (suc k) 0).0 (sym (ap (λ j. j == 0) e) ∙ all first (omega arith) (omega arith)))),
    )

-- Which blocks of data or a file the sender is past.

-- a block of an object is before a place, by the place's object and the blocks that count there
abbrev IsDue : ℕ → ℕ → ℕ → ℕ → Type 0
IsDue own index count block = (own < index) ⊎ ((own ≡ index) × (block < count))

due_of : (own index count all block : ℕ) (b c : Bool) → nat_lt own index ≡ b → (own == index) ≡ c
    → block < elim b [ true ↦ all | false ↦ elim c [ true ↦ min count all | false ↦ 0 ] ] → (block < all) × IsDue own index count block
due_of own index count all block true c e f lt = (lt, inl ((Decides-ltb own index).0 e))
due_of own index count all block false true e f lt = (omega arith, inr ((Decides-eqb own index).0 f, omega arith))
due_of own index count all block false false e f lt = absurd (omega arith)

is_due : (own index count all block : ℕ) (b c : Bool) → nat_lt own index ≡ b → (own == index) ≡ c → block < all → IsDue own index count block
    → block < elim b [ true ↦ all | false ↦ elim c [ true ↦ min count all | false ↦ 0 ] ]
is_due own index count all block true c e f lt due = lt
is_due own index count all block false c e f lt (inl less) = absurd (clash (sym e ∙ (Decides-ltb own index).1 less))
is_due own index count all block false true e f lt (inr at) = let fewer = at.1 in omega arith
is_due own index count all block false false e f lt (inr at) = absurd (clash (sym f ∙ (Decides-eqb own index).1 at.0))

pub before_point : (a b : Point) → Decides (point_before a b) (IsDue a.index b.index b.block a.block)
before_point a b =
    Decides-or _ _ (Decides-ltb a.index b.index) (Decides-and _ _ (Decides-eqb a.index b.index) (Decides-ltb a.block b.block))

false_of : (b : Bool) → (b ≡ true → ⊥) → b ≡ false
false_of true never = absurd (never refl)
false_of false never = refl

not_behind : (at : Position) (own block : ℕ) → point_before (point_of at) (point own block) ≡ false → IsDue own at.index (at.block + 1) block
not_behind at own block e = go (cases_lt own at.index) (cases_lt at.index own) (cases_lt at.block block)
  where
    never : IsDue at.index own block at.block → ⊥
    never due = clash (sym e ∙ (before_point (point_of at) (point own block)).1 due)

    go : (own < at.index) ⊎ (at.index ≤ own) → (at.index < own) ⊎ (own ≤ at.index) → (at.block < block) ⊎ (block ≤ at.block) → IsDue own at.index (at.block + 1) block
    go (inl lt) q r = inl lt
    go (inr le) (inl less) r = absurd (never (inl less))
    go (inr le) (inr ge) (inl less) = absurd (never (inr (omega arith, less)))
    go (inr le) (inr ge) (inr within) = inr (omega arith, omega arith)

behind_not : (at : Position) (own block : ℕ) → IsDue own at.index (at.block + 1) block → point_before (point_of at) (point own block) ≡ false
behind_not at own block due = false_of (point_before (point_of at) (point own block)) (λ e. go due ((before_point (point_of at) (point own block)).0 e))
  where
    go : IsDue own at.index (at.block + 1) block → IsDue at.index own block at.block → ⊥
    go (inl h) (inl k) = omega arith
    go (inl h) (inr k) = let is = k.0 in omega arith
    go (inr h) (inl k) = let is = h.0 in omega arith
    go (inr h) (inr k) = let a = h.1 in let b = k.1 in omega arith

abbrev blocks_past : Plan → Option Point → ℕ
blocks_past plan farthest = elim farthest [ Some at ↦ blocks_before plan.index (blocks (cut_of_plan plan)) at.index at.block | None ↦ 0 ]

abbrev blocks_flushed : Plan → Option Position → ℕ
blocks_flushed plan flush = elim flush [ Some at ↦ blocks_before plan.index (blocks (cut_of_plan plan)) at.index (at.block + 1) | None ↦ 0 ]

no_block : (block : ℕ) → block < 0 → ⊥
no_block block lt = omega arith

past_of : (s : ReceiverState) (plan : Plan) (block : ℕ) → block < blocks_past plan s.knows.farthest
    → (block < blocks (cut_of_plan plan)) × IsBeforeFarthest s.knows.farthest (point plan.index block)
past_of s plan block = go s.knows.farthest refl
  where
    go : (farthest : Option Point) → s.knows.farthest ≡ farthest → block < blocks_past plan farthest
        → (block < blocks (cut_of_plan plan)) × IsBeforeFarthest s.knows.farthest (point plan.index block)
    go None e lt = absurd (no_block block lt)
    go (Some at) e lt =
        let h = due_of plan.index at.index at.block (blocks (cut_of_plan plan)) block (nat_lt plan.index at.index) (plan.index == at.index) refl refl lt in
        (h.0, (at, e, (before_point (point plan.index block) at).1 h.1))

is_past : (s : ReceiverState) (plan : Plan) (block : ℕ) → block < blocks (cut_of_plan plan) → IsBeforeFarthest s.knows.farthest (point plan.index block)
    → block < blocks_past plan s.knows.farthest
is_past s plan block lt past = subst (λ (farthest : Option Point). block < blocks_past plan farthest) (sym past.1)
    (is_due plan.index past.0.index past.0.block (blocks (cut_of_plan plan)) block (nat_lt plan.index past.0.index) (plan.index == past.0.index) refl refl lt
    ((before_point (point plan.index block) past.0).0 past.2))

flushed_of : (s : ReceiverState) (plan : Plan) (block : ℕ) → block < blocks_flushed plan s.knows.flush
    → (block < blocks (cut_of_plan plan)) × IsFlushed s.knows.flush (point plan.index block)
flushed_of s plan block = go s.knows.flush refl
  where
    go : (flush : Option Position) → s.knows.flush ≡ flush → block < blocks_flushed plan flush
        → (block < blocks (cut_of_plan plan)) × IsFlushed s.knows.flush (point plan.index block)
    go None e lt = absurd (no_block block lt)
    go (Some at) e lt =
        let h = due_of plan.index at.index (at.block + 1) (blocks (cut_of_plan plan)) block (nat_lt plan.index at.index) (plan.index == at.index) refl refl lt in
        (h.0, (at, e, behind_not at plan.index block h.1))

is_flushed : (s : ReceiverState) (plan : Plan) (block : ℕ) → block < blocks (cut_of_plan plan) → IsFlushed s.knows.flush (point plan.index block)
    → block < blocks_flushed plan s.knows.flush
is_flushed s plan block lt past = subst (λ (flush : Option Position). block < blocks_flushed plan flush) (sym past.1)
    (is_due plan.index past.0.index (past.0.block + 1) (blocks (cut_of_plan plan)) block (nat_lt plan.index past.0.index) (plan.index == past.0.index) refl refl lt
    (not_behind past.0 plan.index block past.2))

in_max : (block a b : ℕ) → block < max a b → (block < a) ⊎ (block < b)
in_max block a b lt = elim (cases_lt block a) [ inl less ↦ inl less | inr ge ↦ inr (omega arith) ]

max_left : (block a b : ℕ) → block < a → block < max a b
max_left block a b lt = omega arith

max_right : (block a b : ℕ) → block < b → block < max a b
max_right block a b lt = omega arith

object_nil : (s : ReceiverState) (plan : Plan) → Decides (is_nil (object_needs s.knows.farthest s.knows.flush s.holding plan)) (BlocksAreThere s.knows.farthest s.knows.flush s.holding plan)
object_nil s plan = same_as (is_nil (object_needs s.knows.farthest s.knows.flush s.holding plan)) (counts_nil s plan ((blocks_due s.knows.farthest s.knows.flush plan.index (blocks (cut_of_plan plan)))) 0)
    (λ all block lt past. all block (omega arith) (let h = due block lt past in let k : block < 0 + (blocks_due s.knows.farthest s.knows.flush plan.index (blocks (cut_of_plan plan))) = omega arith in k))
    (λ there block le lt. go block there (in_max block (blocks_past plan s.knows.farthest) (blocks_flushed plan s.knows.flush) (let k : block < (blocks_due s.knows.farthest s.knows.flush plan.index (blocks (cut_of_plan plan))) = omega arith in k)))
  where
    due : (block : ℕ) → block < blocks (cut_of_plan plan) → IsBeforeFarthest s.knows.farthest (point plan.index block) ⊎ IsFlushed s.knows.flush (point plan.index block)
        → block < (blocks_due s.knows.farthest s.knows.flush plan.index (blocks (cut_of_plan plan)))
    due block lt (inl past) = max_left block (blocks_past plan s.knows.farthest) (blocks_flushed plan s.knows.flush) (is_past s plan block lt past)
    due block lt (inr flushed) = max_right block (blocks_past plan s.knows.farthest) (blocks_flushed plan s.knows.flush) (is_flushed s plan block lt flushed)

    go : (block : ℕ) → BlocksAreThere s.knows.farthest s.knows.flush s.holding plan → (block < blocks_past plan s.knows.farthest) ⊎ (block < blocks_flushed plan s.knows.flush) → is_done s.holding plan block ≡ true
    go block there (inl lt) = let h = past_of s plan block lt in there block h.0 (inl h.1)
    go block there (inr lt) = let h = flushed_of s plan block lt in there block h.0 (inr h.1)

-- Streams.

in_flush : (s : ReceiverState) (index : ℕ) (at : Position) → flush_in s.knows.flush index ≡ Some at → (s.knows.flush ≡ Some at) × (at.index ≡ index)
in_flush s index at e = go s.knows.flush refl e
  where
    none : None ≡ Some at → ⊥
    none h = cc

    same : (other : Position) → Some other ≡ Some at → other ≡ at
    same other h = cc

    by : (other : Position) (b : Bool) → (other.index == index) ≡ b → s.knows.flush ≡ Some other → elim b [ true ↦ Some other | false ↦ None ] ≡ Some at
        → (s.knows.flush ≡ Some at) × (at.index ≡ index)
    by other true is flush found = (flush ∙ found, ap (λ (x : Position). x.index) (sym (same other found)) ∙ (Decides-eqb other.index index).0 is)
    by other false is flush found = absurd (none found)

    go : (flush : Option Position) → s.knows.flush ≡ flush
        → elim flush [ Some other ↦ elim (other.index == index) [ true ↦ Some other | false ↦ None ] | None ↦ None ] ≡ Some at
        → (s.knows.flush ≡ Some at) × (at.index ≡ index)
    go None is found = absurd (none found)
    go (Some other) is found = by other (other.index == index) refl is found

flush_there : (s : ReceiverState) (index : ℕ) (at : Position) → s.knows.flush ≡ Some at → at.index ≡ index → flush_in s.knows.flush index ≡ Some at
flush_there s index at e is =
    ap (λ (flush : Option Position). elim flush [ Some other ↦ elim (other.index == index) [ true ↦ Some other | false ↦ None ] | None ↦ None ]) e
    ∙ ap (λ b. elim b [ true ↦ Some at | false ↦ None ]) ((Decides-eqb at.index index).1 is)

abbrev block_of_flush : Option Position → ℕ
block_of_flush flush = elim flush [ Some at ↦ at.block | None ↦ 0 ]

before_flush : (s : ReceiverState) (index block : ℕ) → block < block_of_flush (flush_in s.knows.flush index) → IsBeforeFlush s.knows.flush index block
before_flush s index block = go (flush_in s.knows.flush index) refl
  where
    go : (flush : Option Position) → flush_in s.knows.flush index ≡ flush → block < block_of_flush flush → IsBeforeFlush s.knows.flush index block
    go None e lt = absurd (no_block block lt)
    go (Some at) e lt = let h = in_flush s index at e in (at, h.0, h.1, lt)

flush_due : (s : ReceiverState) (index block : ℕ) → IsBeforeFlush s.knows.flush index block → block < block_of_flush (flush_in s.knows.flush index)
flush_due s index block h = subst (λ (flush : Option Position). block < block_of_flush flush) (sym (flush_there s index h.0 h.1 h.2)) h.3

abbrev Earlier : ReceiverState → Plan → Type 0
Earlier s plan = (block : ℕ) → first_block s.holding plan.index ≤ block
    → (block < plan.seen) ⊎ IsBeforeFlush s.knows.flush plan.index block → is_done s.holding plan block ≡ true

earlier_nil : (s : ReceiverState) (plan : Plan) → Decides (is_nil (earlier_needs s.knows.flush s.holding plan)) (Earlier s plan)
earlier_nil s plan = same_as (is_nil (earlier_needs s.knows.flush s.holding plan)) (counts_nil s plan ((stream_due plan.seen (flush_in s.knows.flush plan.index)) - first_block s.holding plan.index) (first_block s.holding plan.index))
    (λ all block le before. all block le (within (first_block s.holding plan.index) ((stream_due plan.seen (flush_in s.knows.flush plan.index))) block le (due block before)))
    (λ there block le lt. there block le (before block (in_max block (plan.seen) (block_of_flush (flush_in s.knows.flush plan.index))
    (below (first_block s.holding plan.index) ((stream_due plan.seen (flush_in s.knows.flush plan.index))) block le lt))))
  where
    due : (block : ℕ) → (block < plan.seen) ⊎ IsBeforeFlush s.knows.flush plan.index block → block < (stream_due plan.seen (flush_in s.knows.flush plan.index))
    due block (inl lt) = max_left block (plan.seen) (block_of_flush (flush_in s.knows.flush plan.index)) lt
    due block (inr h) = max_right block (plan.seen) (block_of_flush (flush_in s.knows.flush plan.index)) (flush_due s plan.index block h)

    before : (block : ℕ) → (block < plan.seen) ⊎ (block < block_of_flush (flush_in s.knows.flush plan.index))
        → (block < plan.seen) ⊎ IsBeforeFlush s.knows.flush plan.index block
    before block (inl lt) = inl lt
    before block (inr lt) = inr (before_flush s plan.index block lt)

    within : (first last block : ℕ) → first ≤ block → block < last → block < first + (last - first)
    within first last block le lt = omega arith

    below : (first last block : ℕ) → first ≤ block → block < first + (last - first) → block < last
    below first last block le lt = omega arith

-- symbols of which none is missing
range_empty : (test : Position → Bool) (f : ℕ → Position) (first n : ℕ)
    → Decides (is_empty (filter test (map f (range_with_len first n)))) ((k : ℕ) → first ≤ k → k < first + n → test (f k) ≡ false)
range_empty test f first zero = (λ e k le lt. absurd (omega arith), λ all. refl)
range_empty test f first (suc n) = go (test (f first)) refl (range_empty test f (first + 1) n)
  where
    Rest : Type 0
    Rest = (k : ℕ) → first + 1 ≤ k → k < first + 1 + n → test (f k) ≡ false

    rest : List Position
    rest = filter test (map f (range_with_len (first + 1) n))

    later : (k : ℕ) → first ≤ k → (k ≡ first) ⊎ (first + 1 ≤ k)
    later k le = elim (cases_lt first k) [ inl lt ↦ inr (omega arith) | inr ge ↦ inl (omega arith) ]

    go : (b : Bool) → test (f first) ≡ b → Decides (is_empty rest) Rest
        → Decides (is_empty (cond b (f first ∷ rest) rest)) ((k : ℕ) → first ≤ k → k < first + suc n → test (f k) ≡ false)
    go true e d = (λ none. absurd (clash none), λ all. absurd (clash (sym (all first (omega arith) (omega arith)) ∙ e)))
    go false e d = (
      λ none k le lt. elim (later k le) [
        | inl is ↦ ap (λ j. test (f j)) is ∙ e
        | inr more ↦ d.0 none k more (omega arith)
      ],
      λ all. d.1 (λ k le lt. all k (omega arith) (omega arith)),
    )

not_false : (b : Bool) → not b ≡ false → b ≡ true
not_false true e = refl
not_false false e = sym e

not_true : (b : Bool) → b ≡ true → not b ≡ false
not_true true e = refl
not_true false e = sym e

missing_empty : (s : ReceiverState) (plan : Plan) (block first behind : ℕ) → Decides (is_empty (missing_symbols s.holding plan block first behind))
    ((symbol : ℕ) → first ≤ symbol → symbol < behind → IsThere s.holding plan (position plan.index block symbol))
missing_empty s plan block first behind =
    go (is_done s.holding plan block) refl (range_empty (λ at. not (holds s.holding at)) (λ symbol. position plan.index block symbol) first (behind - first))
  where
    left : List Position
    left = filter (λ at. not (holds s.holding at)) (map (λ symbol. position plan.index block symbol) (range_with_len first (behind - first)))

    held : (symbol : ℕ) → is_done s.holding plan block ≡ false → IsThere s.holding plan (position plan.index block symbol)
        → holds s.holding (position plan.index block symbol) ≡ true
    held symbol e (inl done) = absurd (clash (sym e ∙ done))
    held symbol e (inr there) = there

    to : (symbol : ℕ) → first ≤ symbol → symbol < behind → symbol < first + (behind - first)
    to symbol le lt = omega arith

    from : (symbol : ℕ) → first ≤ symbol → symbol < first + (behind - first) → symbol < behind
    from symbol le lt = omega arith

    go : (b : Bool) → is_done s.holding plan block ≡ b
        → Decides (is_empty left) ((k : ℕ) → first ≤ k → k < first + (behind - first) → not (holds s.holding (position plan.index block k)) ≡ false)
        → Decides (is_empty (elim b [ true ↦ [] | false ↦ left ]))
        ((symbol : ℕ) → first ≤ symbol → symbol < behind → IsThere s.holding plan (position plan.index block symbol))
    go true e d = (λ none symbol le lt. inl e, λ all. refl)
    go false e d = (
      λ none symbol le lt. inr (not_false (holds s.holding (position plan.index block symbol)) (d.0 none symbol le (to symbol le lt))),
      λ all. d.1 (λ k le lt. not_true (holds s.holding (position plan.index block k)) (held k e (all k le (from k le lt)))),
    )

abbrev ToFlush : ReceiverState → Plan → Type 0
ToFlush s plan = (at : Position) → s.knows.flush ≡ Some at → at.index ≡ plan.index
    → (symbol : ℕ) → symbol ≤ at.symbol → symbol < source_symbols (cut_of_plan plan) at.block → IsThere s.holding plan (position plan.index at.block symbol)

flush_empty : (s : ReceiverState) (plan : Plan) → Decides (is_empty ((flush_symbols s.knows.flush s.holding plan))) (ToFlush s plan)
flush_empty s plan = go (flush_in s.knows.flush plan.index) refl
  where
    symbols : Option Position → List Position
    symbols flush = elim flush [
      | Some at ↦ missing_symbols s.holding plan at.block 0 (min (at.symbol + 1) (source_symbols (cut_of_plan plan) at.block))
      | None ↦ []
    ]

    none : (at : Position) → None ≡ Some at → ⊥
    none at h = cc

    same : (other at : Position) → Some other ≡ Some at → other ≡ at
    same other at h = cc

    from_zero : (symbol : ℕ) → 0 ≤ symbol
    from_zero symbol = omega arith

    in_min : (symbol to k : ℕ) → symbol ≤ to → symbol < k → symbol < min (to + 1) k
    in_min symbol to k le lt = omega arith

    of_min : (symbol to k : ℕ) → symbol < min (to + 1) k → (symbol ≤ to) × (symbol < k)
    of_min symbol to k lt = (omega arith, omega arith)

    go : (flush : Option Position) → flush_in s.knows.flush plan.index ≡ flush → Decides (is_empty (symbols flush)) (ToFlush s plan)
    go None e = (λ h at there is. absurd (none at (sym e ∙ flush_there s plan.index at there is)), λ all. refl)
    go (Some other) e =
        let k = source_symbols (cut_of_plan plan) other.block in
        let d = missing_empty s plan other.block 0 (min (other.symbol + 1) k) in (
          λ h at there is.
              subst (λ (x : Position). (symbol : ℕ) → symbol ≤ x.symbol → symbol < source_symbols (cut_of_plan plan) x.block
              → IsThere s.holding plan (position plan.index x.block symbol))
              (same other at (sym e ∙ flush_there s plan.index at there is))
              (λ symbol le lt. d.0 h symbol (from_zero symbol) (in_min symbol other.symbol k le lt)),
          λ all. d.1 (λ symbol from lt.
              let f = in_flush s plan.index other e in
              let m = of_min symbol other.symbol k lt in
              all other f.0 f.1 symbol m.0 m.1),
        )

abbrev ToEnd : ReceiverState → Plan → Option Position → Type 0
ToEnd s plan found = is_covered s.knows.farthest s.knows.flush plan.index ≡ true → (end : Position) → found ≡ Some end
    → (symbol : ℕ) → symbol < end.symbol → IsThere s.holding plan (position plan.index end.block symbol)

-- those that the flush does not name
abbrev ToEndBehind : ReceiverState → Plan → Option Position → Type 0
ToEndBehind s plan found = is_covered s.knows.farthest s.knows.flush plan.index ≡ true → (end : Position) → found ≡ Some end
    → (symbol : ℕ) → symbols_flushed plan (flush_in s.knows.flush plan.index) end.block ≤ symbol → symbol < end.symbol
    → IsThere s.holding plan (position plan.index end.block symbol)

end_empty : (s : ReceiverState) (plan : Plan) (found : Option Position)
    → Decides (is_empty (end_symbols (is_covered s.knows.farthest s.knows.flush plan.index) s.knows.flush s.holding plan found)) (ToEndBehind s plan found)
end_empty s plan found = go (is_covered s.knows.farthest s.knows.flush plan.index) refl found
  where
    named : ℕ → ℕ
    named block = symbols_flushed plan (flush_in s.knows.flush plan.index) block

    none : (at : Position) → None ≡ Some at → ⊥
    none at h = cc

    same : (other at : Position) → Some other ≡ Some at → other ≡ at
    same other at h = cc

    symbols : Option Position → List Position
    symbols end = elim end [ Some at ↦ missing_symbols s.holding plan at.block (named at.block) at.symbol | None ↦ [] ]

    go : (b : Bool) → is_covered s.knows.farthest s.knows.flush plan.index ≡ b → (end : Option Position)
        → Decides (is_empty (elim b [ true ↦ symbols end | false ↦ [] ])) (ToEndBehind s plan end)
    go false e end = (λ h covered at is. absurd (clash (sym e ∙ covered)), λ all. refl)
    go true e None = (λ h covered at is. absurd (none at is), λ all. refl)
    go true e (Some other) = let d = missing_empty s plan other.block (named other.block) other.symbol in (
      λ h covered at is.
          subst (λ (x : Position). (symbol : ℕ) → named x.block ≤ symbol → symbol < x.symbol → IsThere s.holding plan (position plan.index x.block symbol))
          (same other at is) (d.0 h),
      λ all. d.1 (all e other refl),
    )

-- a symbol of a block that the flush names is there, where all are up to the flush
named_there : (s : ReceiverState) (plan : Plan) → ToFlush s plan → (block symbol : ℕ)
    → symbol < symbols_flushed plan (flush_in s.knows.flush plan.index) block → IsThere s.holding plan (position plan.index block symbol)
named_there s plan there block symbol lt = go (flush_in s.knows.flush plan.index) refl lt
  where
    never : symbol < 0 → ⊥
    never h = omega arith

    of_min : (to k : ℕ) → symbol < min (to + 1) k → (symbol ≤ to) × (symbol < k)
    of_min to k h = (omega arith, omega arith)

    at_block : (at : Position) → flush_in s.knows.flush plan.index ≡ Some at → (b : Bool) → (at.block == block) ≡ b
        → symbol < elim b [ true ↦ min (at.symbol + 1) (source_symbols (cut_of_plan plan) block) | false ↦ 0 ]
        → IsThere s.holding plan (position plan.index block symbol)
    at_block at e true is h =
        let f = in_flush s plan.index at e in
        let m = of_min at.symbol (source_symbols (cut_of_plan plan) block) h in
        let same = (Decides-eqb at.block block).0 is in
        subst (λ (n : ℕ). symbol < source_symbols (cut_of_plan plan) n → IsThere s.holding plan (position plan.index n symbol)) same
        (there at f.0 f.1 symbol m.0) m.1
    at_block at e false is h = absurd (never h)

    go : (within : Option Position) → flush_in s.knows.flush plan.index ≡ within → symbol < symbols_flushed plan within block
        → IsThere s.holding plan (position plan.index block symbol)
    go None e h = absurd (never h)
    go (Some at) e h = at_block at e (at.block == block) refl h

-- all before the end is there, where all up to the flush is and what is left behind it
end_there : (s : ReceiverState) (plan : Plan) (found : Option Position) → ToFlush s plan → ToEndBehind s plan found → ToEnd s plan found
end_there s plan found flushed behind covered end is symbol lt =
    go (cases_lt symbol (symbols_flushed plan (flush_in s.knows.flush plan.index) end.block))
  where
    go : (symbol < symbols_flushed plan (flush_in s.knows.flush plan.index) end.block)
        ⊎ (symbols_flushed plan (flush_in s.knows.flush plan.index) end.block ≤ symbol) → IsThere s.holding plan (position plan.index end.block symbol)
    go (inl named) = named_there s plan flushed end.block symbol named
    go (inr left) = behind covered end is symbol left lt

abbrev HasEnd : ReceiverState → Plan → Option Position → Type 0
HasEnd s plan end = is_behind s.knows.farthest s.knows.flush plan.index ≡ true → open_block s.holding plan ≤ last_block → is_some end ≡ true

all_three : (a b c : Bool) → a ≡ true → b ≡ true → c ≡ true → (a && b && c) ≡ true
all_three true true c e f g = g
all_three true false c e f g = absurd (clash f)
all_three false b c e f g = absurd (clash e)

of_three : (a b c : Bool) → (a && b && c) ≡ true → (a ≡ true) × (b ≡ true) × (c ≡ true)
of_three true true c e = (refl, refl, e)
of_three true false c e = absurd (clash e)
of_three false b c e = absurd (clash e)

none_is : (end : Option Position) → is_none end ≡ true → is_some end ≡ true → ⊥
none_is None e f = clash f
none_is (Some at) e f = clash e

some_is : (end : Option Position) → (is_none end ≡ true → ⊥) → is_some end ≡ true
some_is None never = absurd (never refl)
some_is (Some at) never = refl

le_test : (a b : ℕ) → Decides (nat_le a b) (a ≤ b)
le_test a b = go (leb_tells a b)
  where
    go : ((nat_le a b ≡ true) × (a ≤ b)) ⊎ ((nat_le a b ≡ false) × (b < a)) → Decides (nat_le a b) (a ≤ b)
    go (inl tells) = (λ e. tells.1, λ le. tells.0)
    go (inr tells) = (λ e. absurd (clash (sym tells.0 ∙ e)), λ le. absurd (let h = tells.1 in omega arith))

rest_empty : (s : ReceiverState) (plan : Plan) (end : Option Position) → Decides (is_empty ((rest_needs (is_behind s.knows.farthest s.knows.flush plan.index) s.holding plan end))) (HasEnd s plan end)
rest_empty s plan end =
    let test = is_none end && is_behind s.knows.farthest s.knows.flush plan.index && nat_le (open_block s.holding plan) last_block in
    let d = le_test (open_block s.holding plan) last_block in
    same_as (is_empty ((rest_needs (is_behind s.knows.farthest s.knows.flush plan.index) s.holding plan end))) (one_empty test (Rest plan.index (open_block s.holding plan)))
    (λ no behind le. some_is end (λ none. clash (sym no ∙ all_three (is_none end) (is_behind s.knows.farthest s.knows.flush plan.index) (nat_le (open_block s.holding plan) last_block) none behind (d.1 le))))
    (λ has. false_of test (λ e. let h = of_three (is_none end) (is_behind s.knows.farthest s.knows.flush plan.index) (nat_le (open_block s.holding plan) last_block) e in
    none_is end h.0 (has h.1 (d.0 h.2))))

stream_nil : (p : Settings) (s : ReceiverState) (plan : Plan) → Decides (is_nil (stream_needs p s.knows.farthest s.knows.flush s.holding plan)) (StreamIsThere p s.knows.farthest s.knows.flush s.holding plan)
stream_nil p s plan =
    let end = end_of p s.holding plan in
    let symbols = map Source ((last_symbols (is_covered s.knows.farthest s.knows.flush plan.index) s.knows.flush s.holding plan end)) in
    let rest = (rest_needs (is_behind s.knows.farthest s.knows.flush plan.index) s.holding plan end) in
    let last = map_empty Source ((last_symbols (is_covered s.knows.farthest s.knows.flush plan.index) s.knows.flush s.holding plan end))
    (both_empty (flush_symbols s.knows.flush s.holding plan) (end_symbols (is_covered s.knows.farthest s.knows.flush plan.index) s.knows.flush s.holding plan end)
    (flush_empty s plan) (end_empty s plan end)) in
    let listed = nil_lazily (symbols ++ rest) (both_empty symbols rest last (rest_empty s plan end)) in
    same_as (is_nil (stream_needs p s.knows.farthest s.knows.flush s.holding plan)) (both_nil (earlier_needs s.knows.flush s.holding plan) (λ u. lazily (symbols ++ rest)) (earlier_nil s plan) listed)
    (λ h. record { earlier = h.0; to_flush = h.1.0.0; to_end = end_there s plan end h.1.0.0 h.1.0.1; has_end = h.1.1 })
    (λ there. (there.earlier, ((there.to_flush, λ covered end is symbol from lt. there.to_end covered end is symbol lt), there.has_end)))

-- All objects.

info_empty : (s : ReceiverState) (plan : Plan) → Decides (is_empty ((info_needs s.holding plan (is_covered s.knows.farthest s.knows.flush plan.index)))) (is_covered s.knows.farthest s.knows.flush plan.index ≡ true → has_its_info s.holding plan ≡ true)
info_empty s plan = same_as (is_empty ((info_needs s.holding plan (is_covered s.knows.farthest s.knows.flush plan.index)))) (one_empty (is_covered s.knows.farthest s.knows.flush plan.index && not (has_its_info s.holding plan)) (ObjectInfo plan.index))
    (λ no covered. has (is_covered s.knows.farthest s.knows.flush plan.index) (has_its_info s.holding plan) no covered)
    (λ has. no_need (is_covered s.knows.farthest s.knows.flush plan.index) (has_its_info s.holding plan) has)
  where
    has : (covered info : Bool) → (covered && not info) ≡ false → covered ≡ true → info ≡ true
    has true true e f = refl
    has true false e f = absurd (clash (sym e))
    has false info e f = absurd (clash f)

    no_need : (covered info : Bool) → (covered ≡ true → info ≡ true) → (covered && not info) ≡ false
    no_need true true h = refl
    no_need true false h = absurd (clash (h refl))
    no_need false info h = refl

planned_nil : (p : Settings) (s : ReceiverState) (plan : Plan) → Decides (is_nil (planned_needs p s.knows.farthest s.knows.flush s.holding plan)) (IsThereByPlan p s.knows.farthest s.knows.flush s.holding plan)
planned_nil p s plan = go (says_stream plan.flags) refl
  where
    of_kind : Bool → Lazy Need
    of_kind b = elim b [ true ↦ stream_needs p s.knows.farthest s.knows.flush s.holding plan | false ↦ object_needs s.knows.farthest s.knows.flush s.holding plan ]

    go : (b : Bool) → says_stream plan.flags ≡ b → Decides (is_nil (followed_by (lazily ((info_needs s.holding plan (is_covered s.knows.farthest s.knows.flush plan.index)))) (λ u. of_kind b))) (IsThereByPlan p s.knows.farthest s.knows.flush s.holding plan)
    go true e = same_as _ (both_nil (lazily ((info_needs s.holding plan (is_covered s.knows.farthest s.knows.flush plan.index)))) (λ u. stream_needs p s.knows.farthest s.knows.flush s.holding plan) (nil_lazily ((info_needs s.holding plan (is_covered s.knows.farthest s.knows.flush plan.index))) (info_empty s plan)) (stream_nil p s plan))
        (λ h. record { info = h.0; octets = (λ no. absurd (clash (sym no ∙ e))); stream = (λ yes. h.1) })
        (λ there. (there.info, there.stream e))
    go false e = same_as _ (both_nil (lazily ((info_needs s.holding plan (is_covered s.knows.farthest s.knows.flush plan.index)))) (λ u. object_needs s.knows.farthest s.knows.flush s.holding plan) (nil_lazily ((info_needs s.holding plan (is_covered s.knows.farthest s.knows.flush plan.index))) (info_empty s plan)) (object_nil s plan))
        (λ h. record { info = h.0; octets = (λ no. h.1); stream = (λ yes. absurd (clash (sym e ∙ yes))) })
        (λ there. (there.info, there.octets e))

pub needs_nil : (p : Settings) (s : ReceiverState) (index : ℕ) → Decides (is_nil (needs_of p s.knows.farthest s.knows.flush s.holding index)) (ObjectIsThere p s.knows.farthest s.knows.flush s.holding index (plan_of s.holding index))
needs_nil p s index = go (plan_of s.holding index)
  where
    of_plan : Option Plan → Lazy Need
    of_plan found = elim found [ Some plan ↦ planned_needs p s.knows.farthest s.knows.flush s.holding plan | None ↦ lazily ((unknown_needs index (is_covered s.knows.farthest s.knows.flush index))) ]

    go : (found : Option Plan) → Decides (is_nil (of_plan found)) (ObjectIsThere p s.knows.farthest s.knows.flush s.holding index found)
    go None = nil_lazily ((unknown_needs index (is_covered s.knows.farthest s.knows.flush index))) (one_empty (is_covered s.knows.farthest s.knows.flush index) (Object index))
    go (Some plan) = planned_nil p s plan

from_nil : (n : ℕ) (p : Settings) (s : ReceiverState) (first : ℕ)
    → Decides (is_nil (needs_from n p s.knows.farthest s.knows.flush s.holding first)) ((index : ℕ) → first ≤ index → index < first + n → ObjectIsThere p s.knows.farthest s.knows.flush s.holding index (plan_of s.holding index))
unfolding needs_from
from_nil zero p s first = (λ e index le lt. absurd (omega arith), λ all. refl)
from_nil (suc n) p s first =
    same_as _ (both_nil (needs_of p s.knows.farthest s.knows.flush s.holding first) (λ u. needs_from n p s.knows.farthest s.knows.flush s.holding (suc first)) (needs_nil p s first) (from_nil n p s (suc first)))
    (λ h index le lt. elim (cases_lt first index) [
      | inl more ↦ h.1 index (omega arith) (omega arith)
      | inr ge ↦ subst (λ (i : ℕ). ObjectIsThere p s.knows.farthest s.knows.flush s.holding i (plan_of s.holding i)) (let is : first ≡ index = omega arith in is) h.0
    ])
    (λ all. (all first (omega arith) (omega arith), λ index le lt. all index (omega arith) (omega arith)))

pub exactly : (p : Settings) (s : ReceiverState) → Decides (needs_nothing p s) (NothingIsMissing p s)
exactly p s =
    same_as (needs_nothing p s) (from_nil (last_known s.knows.farthest s.knows.flush - s.holding.point.index) p s s.holding.point.index)
    (λ all index le lt. all index le (within s.holding.point.index (last_known s.knows.farthest s.knows.flush) index le lt))
    (λ there index le lt. there index le (below s.holding.point.index (last_known s.knows.farthest s.knows.flush) index le lt))
  where
    within : (first last index : ℕ) → first ≤ index → index < last → index < first + (last - first)
    within first last index le lt = omega arith

    below : (first last index : ℕ) → first ≤ index → index < first + (last - first) → index < last
    below first last index le lt = omega arith

-- a covered object is below the farthest, or at most the flush's
covered_known : (farthest : Option Point) (flush : Option Position) (index : ℕ) → is_covered farthest flush index ≡ true → index < last_known farthest flush
covered_known farthest flush index = go flush
  where
    seen : ℕ
    seen = farthest_index farthest

    below : ℕ → Option Position → ℕ
    below far flush = max far (elim flush [ Some at ↦ at.index | None ↦ 0 ]) + 1

    either : (b c : Bool) → (b || c) ≡ true → (b ≡ true) ⊎ (c ≡ true)
    either true c e = inl refl
    either false c e = inr e

    far : (flush : Option Position) → index < seen → index < below seen flush
    far (Some at) lt = omega arith
    far None lt = omega arith

    near : (at : Position) → index ≤ at.index → index < below seen (Some at)
    near at le = omega arith

    go : (flush : Option Position) → (nat_lt index seen || elim flush [ Some at ↦ nat_le index at.index | None ↦ false ]) ≡ true → index < below seen flush
    go (Some at) e = elim (either (nat_lt index seen) (nat_le index at.index) e) [
      | inl first ↦ far (Some at) ((Decides-ltb index seen).0 first)
      | inr second ↦ near at ((le_test index at.index).0 second)
    ]
    go None e = elim (either (nat_lt index seen) false e) [
      | inl first ↦ far None ((Decides-ltb index seen).0 first)
      | inr second ↦ absurd (clash second)
    ]

pub needs_laws : NeedsLaws
needs_laws = record { exact = exactly; covered = covered_known }
