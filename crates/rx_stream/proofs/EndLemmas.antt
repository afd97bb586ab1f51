-- The end of a stream, from what is kept of its blocks.
use Rattle.std.proofs.Common.{◌≡◌, ℕ, zero, suc, ◌+◌, ◌<◌, ◌≤◌, ◌⊎◌, inl, inr, List, [], ◌∷◌, ◌++◌, length, map, get_or, cond, Option, Some, None, Bool, true, false, refl, sym, ap, ◌∙◌, subst, arith}
use Rattle.std.specs.Prelude.{◌==◌, ◌&&◌, find, filter, min, nat_le}
use Rattle.std.specs.List.{AllByRecursion, range_with_len}
use Rattle.std.proofs.lemmas.List.{get_or_default}
use Rattle.std.proofs.lemmas.Bool.{cases_order, eq-eqb, le-leb}
use Rattle.norm_base.specs.Settings.{Settings}
use Rattle.fec_plan.specs.Partition.{source_symbols}
use Rattle.fec_plan.specs.Points.{position}
use Rattle.fec_plan.specs.declared.position.Position.{Position}
use Rattle.norm_ext.specs.Numbers.{number}
use Rattle.norm_receive_rules.specs.Holding.{Holding, Plan, Held}
use Rattle.norm_receive_rules.specs.Plans.{cut_of_plan, says_stream}
use Rattle.norm_receive_rules.specs.StreamNeeds.{is_end, end_in, end_among, end_of}
use Rattle.rx_stream.specs.BlockState.{Came, BlockState, source_of, is_end_at, end_in_block}
use Rattle.rx_stream.specs.StreamSound.{AreNamed, AreOf, held_in, held_from, stream_of}
use Rattle.rx_stream.specs.StreamState.{alone}
use Rattle.rx_stream.proofs.HandingLemmas.{end_there, found_in, named_at, no_end, some_came}
use Rattle.rx_stream.proofs.StreamLemmas.{all_append, all_pass, block_at, held_as, sources_are, stream_value}

-- a source symbol at its place in the stream
abbrev pub at_block : ℕ → ℕ → Option ℕ → Option Position
at_block index block found = elim found [ Some symbol ↦ Some (position index block symbol) | None ↦ None ]

-- ---- in one block

find_same : (f g : ℕ → Bool) → ((n : ℕ) → f n ≡ g n) → (ns : List ℕ) → find f ns ≡ find g ns
find_same f g same [] = refl
find_same f g same (n ∷ ns) = ap (λ b. cond b (Some n) (find f ns)) (same n) ∙ ap (λ (o : Option ℕ). cond (g n) (Some n) o) (find_same f g same ns)

find_at : (index block : ℕ) (q : Position → Bool) (ns : List ℕ)
    → find q (map (λ symbol. position index block symbol) ns) ≡ at_block index block (find (λ symbol. q (position index block symbol)) ns)
find_at index block q [] = refl
find_at index block q (n ∷ ns) = go (q (position index block n)) (find_at index block q ns)
  where
    go : (b : Bool) → find q (map (λ symbol. position index block symbol) ns) ≡ at_block index block (find (λ symbol. q (position index block symbol)) ns)
        → cond b (Some (position index block n)) (find q (map (λ symbol. position index block symbol) ns))
        ≡ at_block index block (cond b (Some n) (find (λ symbol. q (position index block symbol)) ns))
    go true rest = refl
    go false rest = rest

abbrev empty_by : ℕ → Option (List ℕ) → Bool
empty_by e value = elim value [ Some octets ↦ min (number 2 0 octets) e == 0 | None ↦ false ]

end_here : (p : Settings) (plan : Plan) (info : Option (List ℕ)) (first symbol i : ℕ) (ring : List BlockState) (d : BlockState) → says_stream plan.flags ≡ true
    → AreOf plan.fti.b (plan.fti.e + 8) ring → p.e ≡ plan.fti.e → i < length ring
    → end_in p (alone (stream_of plan info first symbol ring)) plan (first + i) ≡ at_block plan.index (first + i) (end_in_block plan.fti.e (get_or ring i d))
end_here p plan info first symbol i ring d stream of same lt =
    find_at plan.index (first + i) (is_end p s plan) (range_with_len 0 (source_symbols (cut_of_plan plan) (first + i)))
    ∙ ap (at_block plan.index (first + i))
    (find_same (λ n. is_end p s plan (position plan.index (first + i) n)) (is_end_at plan.fti.e (get_or ring i d))
    (λ n. ap (empty_by p.e) (stream_value plan info first symbol i (first + i) n ring d stream of refl lt) ∙ ap (λ m. empty_by m (source_of (get_or ring i d) n)) same)
    (range_with_len 0 (source_symbols (cut_of_plan plan) (first + i)))
    ∙ ap (λ n. find (is_end_at plan.fti.e (get_or ring i d)) (range_with_len 0 n)) (sources_are plan (first + i) stream ∙ sym (block_at plan.fti.b (plan.fti.e + 8) i ring d of lt).0))
  where
    s : Holding
    s = alone (stream_of plan info first symbol ring)

-- ---- among the blocks

unfoldable pub first_end : ℕ → ℕ → ℕ → List BlockState → Option Position
first_end e index first [] = None
first_end e index first (b ∷ bs) = elim (end_in_block e b) [ Some symbol ↦ Some (position index first symbol) | None ↦ first_end e index (suc first) bs ]

skip_none : (p : Settings) (s : Holding) (plan : Plan) (index block : ℕ) (cs : List Came) (rest : List Held) → end_in p s plan block ≡ None
    → end_among p s plan (map (held_as index block) cs ++ rest) ≡ end_among p s plan rest
unfolding end_among
skip_none p s plan index block [] rest none = refl
skip_none p s plan index block (c ∷ cs) rest none =
    ap (λ (o : Option Position). elim o as (λ _. Option Position) [ Some at ↦ Some at | None ↦ end_among p s plan (map (held_as index block) cs ++ rest) ]) none
    ∙ skip_none p s plan index block cs rest none

take_some : (p : Settings) (s : Holding) (plan : Plan) (index block : ℕ) (cs : List Came) (rest : List Held) (at : Position) → 0 < length cs → end_in p s plan block ≡ Some at
    → end_among p s plan (map (held_as index block) cs ++ rest) ≡ Some at
unfolding end_among
take_some p s plan index block [] rest at more here = absurd (omega arith)
take_some p s plan index block (c ∷ cs) rest at more here =
    ap (λ (o : Option Position). elim o as (λ _. Option Position) [ Some x ↦ Some x | None ↦ end_among p s plan (map (held_as index block) cs ++ rest) ]) here

among : (p : Settings) (s : Holding) (plan : Plan) (e index first k size : ℕ) (bs : List BlockState) (d : BlockState) → AreOf k size bs → 1 ≤ k
    → ((i : ℕ) → i < length bs → end_in p s plan (first + i) ≡ at_block index (first + i) (end_in_block e (get_or bs i d)))
    → end_among p s plan (held_from index first bs) ≡ first_end e index first bs
unfolding first_end held_from end_among
among p s plan e index first k size [] d of some each = refl
among p s plan e index first k size (b ∷ bs) d of some each =
    go (end_in_block e b) refl
    (among p s plan e index (suc first) k size bs d of.1 some
    (λ i lt. ap (end_in p s plan) (let n : suc first + i ≡ first + suc i = omega arith in n) ∙ each (suc i) (omega (arith, lt))
    ∙ ap (λ n. at_block index n (end_in_block e (get_or bs i d))) (let n : first + suc i ≡ suc first + i = omega arith in n)))
  where
    here : (o : Option ℕ) → end_in_block e b ≡ o → end_in p s plan first ≡ at_block index first o
    here o is =
        ap (end_in p s plan) (let n : first ≡ first + 0 = omega arith in n) ∙ each 0 (omega arith)
        ∙ ap (λ n. at_block index n (end_in_block e b)) (let n : first + 0 ≡ first = omega arith in n) ∙ ap (at_block index first) is

    came : (symbol : ℕ) → end_in_block e b ≡ Some symbol → 0 < length b.came
    came symbol is = nonempty b.came refl
      where
        nonempty : (cs : List Came) → b.came ≡ cs → 0 < length cs
        nonempty [] none = absurd (cc (no_end e b none (let n = of.0.0 in omega (arith, n, some)), is))
        nonempty (c ∷ cs) none = omega arith

    go : (o : Option ℕ) → end_in_block e b ≡ o → end_among p s plan (held_from index (suc first) bs) ≡ first_end e index (suc first) bs
        → end_among p s plan (held_in index first b ++ held_from index (suc first) bs)
        ≡ elim o as (λ _. Option Position) [ Some symbol ↦ Some (position index first symbol) | None ↦ first_end e index (suc first) bs ]
    go (Some symbol) is rest = take_some p s plan index first b.came (held_from index (suc first) bs) (position index first symbol) (came symbol is) (here (Some symbol) is)
    go None is rest = skip_none p s plan index first b.came (held_from index (suc first) bs) (here None is) ∙ rest

-- ---- of the stream

own_from : (index first least : ℕ) (bs : List BlockState) → least ≤ first
    → AllByRecursion (λ (h : Held). (h.at.index == index && nat_le least h.at.block) ≡ true) (held_from index first bs)
unfolding held_from
own_from index first least [] le = tt
own_from index first least (b ∷ bs) le =
    all_append (λ (h : Held). (h.at.index == index && nat_le least h.at.block) ≡ true) (held_in index first b) (held_from index (suc first) bs) (here b.came)
    (own_from index (suc first) least bs (omega (arith, le)))
  where
    here : (cs : List Came) → AllByRecursion (λ (h : Held). (h.at.index == index && nat_le least h.at.block) ≡ true) (map (held_as index first) cs)
    here [] = tt
    here (c ∷ cs) = (ap (λ t. t && nat_le least first) (eq-eqb index index refl) ∙ le-leb least first le, here cs)

pub end_is : (p : Settings) (plan : Plan) (info : Option (List ℕ)) (first symbol : ℕ) (ring : List BlockState) (d : BlockState) → says_stream plan.flags ≡ true
    → AreOf plan.fti.b (plan.fti.e + 8) ring → 1 ≤ plan.fti.b → p.e ≡ plan.fti.e
    → end_of p (alone (stream_of plan info first symbol ring)) plan ≡ first_end plan.fti.e plan.index first ring
end_is p plan info first symbol ring d stream of some same =
    ap (λ b. end_among p s plan (filter (λ (h : Held). h.at.index == plan.index && nat_le (elim b as (λ _. ℕ) [ true ↦ first | false ↦ 0 ]) h.at.block) (held_from plan.index first ring))) (eq-eqb plan.index plan.index refl)
    ∙ ap (end_among p s plan)
    (all_pass (λ (h : Held). h.at.index == plan.index && nat_le first h.at.block) (held_from plan.index first ring) (own_from plan.index first first ring (omega arith)))
    ∙ among p s plan plan.fti.e plan.index first plan.fti.b (plan.fti.e + 8) ring d of some (λ i lt. end_here p plan info first symbol i ring d stream of same lt)
  where
    s : Holding
    s = alone (stream_of plan info first symbol ring)

pub first_at : (e index first i symbol : ℕ) (bs : List BlockState) (d : BlockState) → i < length bs → end_in_block e (get_or bs i d) ≡ Some symbol
    → ((j : ℕ) → j < i → end_in_block e (get_or bs j d) ≡ None) → first_end e index first bs ≡ Some (position index (first + i) symbol)
unfolding first_end
first_at e index first i symbol [] d lt is none = absurd (omega arith)
first_at e index first zero symbol (b ∷ bs) d lt is none =
    ap (λ (o : Option ℕ). elim o as (λ _. Option Position) [ Some n ↦ Some (position index first n) | None ↦ first_end e index (suc first) bs ]) is
    ∙ ap (λ n. Some (position index n symbol)) (let n : first ≡ first + 0 = omega arith in n)
first_at e index first (suc i) symbol (b ∷ bs) d lt is none =
    ap (λ (o : Option ℕ). elim o as (λ _. Option Position) [ Some n ↦ Some (position index first n) | None ↦ first_end e index (suc first) bs ]) (none 0 (omega arith))
    ∙ first_at e index (suc first) i symbol bs d (omega arith) is (λ j below. none (suc j) (omega (arith, below)))
    ∙ ap (λ n. Some (position index n symbol)) (let n : suc first + i ≡ first + suc i = omega arith in n)

pub first_none : (e index first : ℕ) (bs : List BlockState) (d : BlockState) → ((j : ℕ) → j < length bs → end_in_block e (get_or bs j d) ≡ None) → first_end e index first bs ≡ None
unfolding first_end
first_none e index first [] d none = refl
first_none e index first (b ∷ bs) d none =
    ap (λ (o : Option ℕ). elim o as (λ _. Option Position) [ Some n ↦ Some (position index first n) | None ↦ first_end e index (suc first) bs ]) (none 0 (omega arith))
    ∙ first_none e index (suc first) bs d (λ j below. none (suc j) (omega (arith, below)))

-- ---- by places

pub none_more : (e place : ℕ) (bs : List BlockState) (b : BlockState) → ((i : ℕ) (d : BlockState) → i < place → end_in_block e (get_or bs i d) ≡ None) → b ≡ get_or bs place b → place < length bs
    → end_in_block e b ≡ None → (i : ℕ) (d : BlockState) → i < place + 1 → end_in_block e (get_or bs i d) ≡ None
none_more e place bs b before read within none i d lt = go (cases_order i place)
  where
    go : (i ≡ place) ⊎ ((i < place) ⊎ (place < i)) → end_in_block e (get_or bs i d) ≡ None
    go (inl same) =
        ap (λ n. end_in_block e (get_or bs n d)) same ∙ ap (end_in_block e) (get_or_default bs place d b within ∙ sym read) ∙ none
    go (inr (inl below)) = before i d below
    go (inr (inr above)) = absurd (omega arith)

-- the block of an end is one that 24 bits name
pub end_named : (index first k size e place symbol : ℕ) (ring : List BlockState) (b : BlockState) → AreNamed (held_from index first ring) → AreOf k size ring → 1 ≤ k → place < length ring
    → b ≡ get_or ring place b → end_in_block e b ≡ Some symbol → first + place < 16777216
end_named index first k size e place symbol ring b named of some within read is =
    let came : 0 < length b.came =
    some_came b symbol (end_there e b symbol (found_in (is_end_at e b) 0 b.k symbol is))
    (let n = (block_at k size place ring b of within).0 in let m = ap (λ (x : BlockState). x.k) read in omega (arith, n, m, some)) in
    named_at index first place ring b named within (subst (λ (x : BlockState). 0 < length x.came) read came)
