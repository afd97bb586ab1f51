-- What the rules say of a stream by itself, from what is kept of its blocks.
use Rattle.std.proofs.Common.{◌≡◌, ◌-◌, ℕ, zero, suc, ◌+◌, ◌<◌, ◌≤◌, ◌⊎◌, inl, inr, List, [], ◌∷◌, ◌++◌, length, map, set, get_or, drop, replicate, cond, Option, Some, None, Bool, true, false, refl, sym, ap, ◌∙◌, subst, arith}
use Rattle.std.specs.Prelude.{◌==◌, ◌||◌, ◌&&◌, ◌≢◌, not, filter, find, nat_lt, nat_le}
use Rattle.std.specs.List.{AllByRecursion, list_any}
use Rattle.std.proofs.lemmas.Bool.{eq-eqb, ne_eqb, lt-ltb, le-ltb, le-leb, lt-leb, ltb-true, ltb-false}
use Rattle.std.proofs.lemmas.List.{length-append, length-map, length-replicate, length-set, append-nil}
use Rattle.std.proofs.lemmas.List.Elements.{filter-append}
use Rattle.norm_base.specs.Settings.{Settings}
use Rattle.norm_ext.specs.declared.fti.Fti.{Fti}
use Rattle.norm_order.specs.First.{first_where}
use Rattle.fec_plan.specs.Partition.{Cut, cut_of, stream_cut, blocks, source_symbols, encoding_symbols, coded_octets, sent_octets}
use Rattle.fec_plan.specs.Points.{position, position_before}
use Rattle.fec_plan.proofs.PositionLemmas.{Before, before_decides, not_both}
use Rattle.norm_order.specs.Sets.{with_member}
use Rattle.gf_field.specs.Symbol.{solved_symbol}
use Rattle.norm_receive_rules.specs.HandingUp.{next_segment}
use Rattle.norm_receive_rules.specs.BlockValue.{ids_of, octets_of_held, held_symbol, block_value}
use Rattle.norm_receive_rules.specs.Holding.{Holding, Plan, Held}
use Rattle.norm_receive_rules.specs.Plans.{cut_of_plan, says_stream, holds, lacking, is_done}
use Rattle.norm_receive_rules.specs.Putting.{held_before, is_far, is_misfit, is_segment, put_by, with_symbol}
use Rattle.norm_receive_rules.specs.declared.words.Put.{Put}
use Rattle.norm_receive_rules.specs.declared.words.Put.TheVariants as put
use Rattle.rx_stream.specs.BlockState.{Came, BlockState, came_before, came_under, empty_block, has_id, lacks, source_of}
use Rattle.rx_stream.specs.BlockMoves.{IsRow, IsSent, MayCome, with_came}
use Rattle.rx_stream.specs.StreamMoves.{fits_cut, passed, MayKeep}
use Rattle.rx_stream.specs.StreamSound.{held_in, held_from, AreOf, AreNamed, stream_of, StreamSound}
use Rattle.rx_stream.specs.StreamState.{StreamState, alone}
use Rattle.rx_stream.proofs.HandingLemmas.{all_with, begun_more}

-- ---- what is held of a block

abbrev OfBlock : ℕ → ℕ → Held → Bool
OfBlock index block h = h.at.index == index && h.at.block == block

own_block : (index block b : ℕ) → b ≡ block → (index == index && b == block) ≡ true
own_block index block b e = ap (λ t. t && b == block) (eq-eqb index index refl) ∙ eq-eqb b block e

other_block : (index block b : ℕ) → b ≢ block → (index == index && b == block) ≡ false
other_block index block b e = ap (λ t. t && b == block) (eq-eqb index index refl) ∙ ne_eqb b block e

in_own : (index block : ℕ) (cs : List Came) → filter (λ (h : Held). h.at.index == index && h.at.block == block) (map (λ (c : Came). record { at = position index block c.id; octets = c.octets }) cs)
    ≡ map (λ (c : Came). record { at = position index block c.id; octets = c.octets }) cs
in_own index block [] = refl
in_own index block (c ∷ cs) =
    ap (λ b. cond b (held c ∷ filter (OfBlock index block) (map held cs)) (filter (OfBlock index block) (map held cs))) (own_block index block block refl)
    ∙ ap (λ hs. held c ∷ hs) (in_own index block cs)
  where
    held : Came → Held
    held c = record { at = position index block c.id; octets = c.octets }

in_other : (index block b : ℕ) (cs : List Came) → b ≢ block → filter (λ (h : Held). h.at.index == index && h.at.block == block) (map (λ (c : Came). record { at = position index b c.id; octets = c.octets }) cs) ≡ []
in_other index block b [] e = refl
in_other index block b (c ∷ cs) e =
    ap (λ t. cond t (held c ∷ filter (OfBlock index block) (map held cs)) (filter (OfBlock index block) (map held cs))) (other_block index block b e)
    ∙ in_other index block b cs e
  where
    held : Came → Held
    held c = record { at = position index b c.id; octets = c.octets }

-- of no block from this one on
of_none : (index block first : ℕ) (bs : List BlockState) → block < first → filter (λ (h : Held). h.at.index == index && h.at.block == block) (held_from index first bs) ≡ []
unfolding held_from
of_none index block first [] lt = refl
of_none index block first (b ∷ bs) lt =
    filter-append (OfBlock index block) (held_in index first b) (held_from index (suc first) bs)
    ∙ ap (λ hs. hs ++ filter (OfBlock index block) (held_from index (suc first) bs)) (in_other index block first b.came (λ e. omega (arith, e, lt)))
    ∙ of_none index block (suc first) bs (omega (arith, lt))

pub of_block : (index first i block : ℕ) (bs : List BlockState) (d : BlockState) → block ≡ first + i → i < length bs
    → filter (λ (h : Held). h.at.index == index && h.at.block == block) (held_from index first bs) ≡ held_in index block (get_or bs i d)
unfolding held_from
of_block index first i block [] d at lt = absurd (omega arith)
of_block index first zero block (b ∷ bs) d at lt =
    let here : block ≡ first = omega (arith, at) in
    filter-append (OfBlock index block) (held_in index first b) (held_from index (suc first) bs)
    ∙ ap (λ hs. filter (OfBlock index block) (held_in index first b) ++ hs) (of_none index block (suc first) bs (omega (arith, at)))
    ∙ append-nil (filter (OfBlock index block) (held_in index first b))
    ∙ ap (λ n. filter (OfBlock index block) (held_in index n b)) (sym here)
    ∙ in_own index block b.came
of_block index first (suc i) block (b ∷ bs) d at lt =
    filter-append (OfBlock index block) (held_in index first b) (held_from index (suc first) bs)
    ∙ ap (λ hs. hs ++ filter (OfBlock index block) (held_from index (suc first) bs)) (in_other index block first b.came (λ e. omega (arith, e, at)))
    ∙ of_block index (suc first) i block bs d (omega (arith, at)) (omega (arith, lt))

pub of_later : (index first block : ℕ) (bs : List BlockState) → first + length bs ≤ block → filter (λ (h : Held). h.at.index == index && h.at.block == block) (held_from index first bs) ≡ []
unfolding held_from
of_later index first block [] le = refl
of_later index first block (b ∷ bs) le =
    filter-append (OfBlock index block) (held_in index first b) (held_from index (suc first) bs)
    ∙ ap (λ hs. hs ++ filter (OfBlock index block) (held_from index (suc first) bs)) (in_other index block first b.came (λ e. omega (arith, e, le)))
    ∙ of_later index (suc first) block bs (omega (arith, le))

pub any_in : (index block id : ℕ) (b : BlockState) → list_any (λ (h : Held). h.at.symbol == id) (held_in index block b) ≡ has_id b id
any_in index block id b = go b.came
  where
    go : (cs : List Came) → list_any (λ (h : Held). h.at.symbol == id) (map (λ (c : Came). record { at = position index block c.id; octets = c.octets }) cs) ≡ list_any (λ (c : Came). c.id == id) cs
    go [] = refl
    go (c ∷ cs) = ap (λ t. (c.id == id) || t) (go cs)

-- ---- one more

abbrev joined : Bool → Bool → Held → Held → List Held → List Held
joined b c x y ys = elim b [
  | true ↦ x ∷ y ∷ ys
  | false ↦ elim c [ true ↦ y ∷ with_member held_before x ys | false ↦ y ∷ ys ]
]

in_front : (x y : Held) (ys : List Held) → held_before x y ≡ true → with_member held_before x (y ∷ ys) ≡ x ∷ y ∷ ys
unfolding with_member
in_front x y ys e = ap (λ b. joined b (held_before y x) x y ys) e

behind : (x y : Held) (ys : List Held) → held_before x y ≡ false → held_before y x ≡ true → with_member held_before x (y ∷ ys) ≡ y ∷ with_member held_before x ys
unfolding with_member
behind x y ys e f = ap (λ b. joined b (held_before y x) x y ys) e ∙ ap (λ b. joined false b x y ys) f

-- x is before it
abbrev Later : Held → Held → Type 0
Later x z = Before x.at z.at

is_before : (x z : Held) → Later x z → held_before x z ≡ true
is_before x z l = (before_decides x.at z.at).1 l

not_before : (x z : Held) → Later x z → held_before z x ≡ false
not_before x z l = go (held_before z x) refl
  where
    go : (b : Bool) → held_before z x ≡ b → b ≡ false
    go true e = absurd (not_both x.at z.at (inr l) ((before_decides z.at x.at).0 e))
    go false e = refl

before_all : (x : Held) (zs : List Held) → AllByRecursion (Later x) zs → with_member held_before x zs ≡ x ∷ zs
unfolding with_member
before_all x [] all = refl
before_all x (z ∷ zs) all = in_front x z zs (is_before x z all.0)

behind_all : (x : Held) (ys zs : List Held) → AllByRecursion (λ y. Later y x) ys → with_member held_before x (ys ++ zs) ≡ ys ++ with_member held_before x zs
behind_all x [] zs all = refl
behind_all x (y ∷ ys) zs all = behind x y (ys ++ zs) (not_before y x all.0) (is_before y x all.0) ∙ ap (λ hs. y ∷ hs) (behind_all x ys zs all.1)

within_front : (x : Held) (ys zs : List Held) → AllByRecursion (Later x) zs → with_member held_before x (ys ++ zs) ≡ with_member held_before x ys ++ zs
unfolding with_member
within_front x [] zs all = before_all x zs all
within_front x (y ∷ ys) zs all = go (held_before x y) (held_before y x) (within_front x ys zs all)
  where
    go : (b c : Bool) → with_member held_before x (ys ++ zs) ≡ with_member held_before x ys ++ zs → joined b c x y (ys ++ zs) ≡ joined b c x y ys ++ zs
    go true c rest = refl
    go false true rest = ap (λ hs. y ∷ hs) rest
    go false false rest = refl

-- in one block positions are ordered by their symbols
abbrev before_by : Bool → Bool → Bool → Bool → Bool → Bool
before_by l e m f n = (l || (e && m)) || (e && f && n)

one_block : (index block x y : ℕ) → position_before (position index block x) (position index block y) ≡ nat_lt x y
one_block index block x y =
    ap (λ l. before_by l (index == index) (nat_lt block block) (block == block) (nat_lt x y)) (le-ltb index index (omega arith))
    ∙ ap (λ e. before_by false e (nat_lt block block) (block == block) (nat_lt x y)) (eq-eqb index index refl)
    ∙ ap (λ m. before_by false true m (block == block) (nat_lt x y)) (le-ltb block block (omega arith))
    ∙ ap (λ f. before_by false true false f (nat_lt x y)) (eq-eqb block block refl)

abbrev joined_came : Bool → Bool → Came → Came → List Came → List Came
joined_came b c x y ys = elim b [
  | true ↦ x ∷ y ∷ ys
  | false ↦ elim c [ true ↦ y ∷ with_member came_before x ys | false ↦ y ∷ ys ]
]

abbrev pub held_as : ℕ → ℕ → Came → Held
held_as index block c = record { at = position index block c.id; octets = c.octets }

in_block : (index block : ℕ) (x : Came) (cs : List Came) → with_member held_before (held_as index block x) (map (held_as index block) cs) ≡ map (held_as index block) (with_member came_before x cs)
unfolding with_member
in_block index block x [] = refl
in_block index block x (c ∷ cs) =
    ap (λ b. joined b (held_before (held_as index block c) (held_as index block x)) (held_as index block x) (held_as index block c) (map (held_as index block) cs)) (one_block index block x.id c.id)
    ∙ ap (λ b. joined (came_before x c) b (held_as index block x) (held_as index block c) (map (held_as index block) cs)) (one_block index block c.id x.id)
    ∙ go (came_before x c) (came_before c x) (in_block index block x cs)
  where
    go : (a b : Bool) → with_member held_before (held_as index block x) (map (held_as index block) cs) ≡ map (held_as index block) (with_member came_before x cs)
        → joined a b (held_as index block x) (held_as index block c) (map (held_as index block) cs) ≡ map (held_as index block) (joined_came a b x c cs)
    go true b rest = refl
    go false true rest = ap (λ hs. held_as index block c ∷ hs) rest
    go false false rest = refl

pub all_append : (P : Held → Type 0) (xs ys : List Held) → AllByRecursion P xs → AllByRecursion P ys → AllByRecursion P (xs ++ ys)
all_append P [] ys all more = more
all_append P (x ∷ xs) ys all more = (all.0, all_append P xs ys all.1 more)

all_later : (index block id : ℕ) (octets : List ℕ) (first : ℕ) (bs : List BlockState) → block < first → AllByRecursion (Later (record { at = position index block id; octets = octets })) (held_from index first bs)
unfolding held_from
all_later index block id octets first [] lt = tt
all_later index block id octets first (b ∷ bs) lt =
    all_append (Later (record { at = position index block id; octets = octets })) (held_in index first b) (held_from index (suc first) bs) (here b.came)
    (all_later index block id octets (suc first) bs (omega (arith, lt)))
  where
    here : (cs : List Came) → AllByRecursion (Later (record { at = position index block id; octets = octets })) (map (held_as index first) cs)
    here [] = tt
    here (c ∷ cs) = (inl (inr (refl, lt)), here cs)

all_earlier : (index block id : ℕ) (octets : List ℕ) (first : ℕ) (cs : List Came) → first < block
    → AllByRecursion (λ y. Later y (record { at = position index block id; octets = octets })) (map (held_as index first) cs)
all_earlier index block id octets first [] lt = tt
all_earlier index block id octets first (c ∷ cs) lt = (inl (inr (refl, lt)), all_earlier index block id octets first cs lt)

pub held_more : (index first i block id : ℕ) (octets : List ℕ) (bs : List BlockState) (d : BlockState) → block ≡ first + i → i < length bs
    → with_member held_before (record { at = position index block id; octets = octets }) (held_from index first bs) ≡ held_from index first (set bs i (with_came id octets (get_or bs i d)))
unfolding held_from
held_more index first i block id octets [] d at lt = absurd (omega arith)
held_more index first zero block id octets (b ∷ bs) d at lt =
    let here : block ≡ first = omega (arith, at) in
    within_front (record { at = position index block id; octets = octets }) (held_in index first b) (held_from index (suc first) bs) (all_later index block id octets (suc first) bs (omega (arith, here)))
    ∙ ap (λ n. with_member held_before (record { at = position index n id; octets = octets }) (held_in index first b) ++ held_from index (suc first) bs) here
    ∙ ap (λ hs. hs ++ held_from index (suc first) bs) (in_block index first (record { id = id; octets = octets }) b.came)
held_more index first (suc i) block id octets (b ∷ bs) d at lt =
    behind_all (record { at = position index block id; octets = octets }) (held_in index first b) (held_from index (suc first) bs) (all_earlier index block id octets first b.came (omega (arith, at)))
    ∙ ap (λ hs. held_in index first b ++ hs) (held_more index (suc first) i block id octets bs d (omega (arith, at)) (omega (arith, lt)))

-- ---- a stream by itself

abbrev cut_if : Bool → Fti → Cut
cut_if stream f = elim stream [ true ↦ stream_cut f.e f.b f.max_n | false ↦ cut_of f.l f.e f.b f.max_n ]

pub stream_plan : (plan : Plan) → says_stream plan.flags ≡ true → cut_of_plan plan ≡ stream_cut plan.fti.e plan.fti.b plan.fti.max_n
stream_plan plan stream = ap (λ b. cut_if b plan.fti) stream

pub sources_are : (plan : Plan) (block : ℕ) → says_stream plan.flags ≡ true → source_symbols (cut_of_plan plan) block ≡ plan.fti.b
sources_are plan block stream = ap (λ (c : Cut). source_symbols c block) (stream_plan plan stream)

pub block_at : (k size i : ℕ) (bs : List BlockState) (d : BlockState) → AreOf k size bs → i < length bs → ((get_or bs i d).k ≡ k) × ((get_or bs i d).size ≡ size)
block_at k size i [] d all lt = absurd (omega arith)
block_at k size zero (b ∷ bs) d all lt = all.0
block_at k size (suc i) (b ∷ bs) d all lt = block_at k size i bs d all.1 (omega arith)

pub stream_holds : (plan : Plan) (info : Option (List ℕ)) (first symbol i block id : ℕ) (ring : List BlockState) (d : BlockState) → block ≡ first + i → i < length ring
    → holds (alone (stream_of plan info first symbol ring)) (position plan.index block id) ≡ has_id (get_or ring i d) id
stream_holds plan info first symbol i block id ring d at lt =
    ap (list_any (λ (h : Held). h.at.symbol == id)) (of_block plan.index first i block ring d at lt) ∙ any_in plan.index block id (get_or ring i d)

pub holds_later : (plan : Plan) (info : Option (List ℕ)) (first symbol block id : ℕ) (ring : List BlockState) → first + length ring ≤ block
    → holds (alone (stream_of plan info first symbol ring)) (position plan.index block id) ≡ false
holds_later plan info first symbol block id ring le = ap (list_any (λ (h : Held). h.at.symbol == id)) (of_later plan.index first block ring le)

pub stream_lacking : (plan : Plan) (info : Option (List ℕ)) (first symbol i block : ℕ) (ring : List BlockState) (d : BlockState) → says_stream plan.flags ≡ true → AreOf plan.fti.b (plan.fti.e + 8) ring
    → block ≡ first + i → i < length ring → lacking (alone (stream_of plan info first symbol ring)) plan block ≡ lacks (get_or ring i d)
stream_lacking plan info first symbol i block ring d stream of at lt =
    ap (λ n. n - length (filter (OfBlock plan.index block) (held_from plan.index first ring))) (sources_are plan block stream ∙ sym (block_at plan.fti.b (plan.fti.e + 8) i ring d of lt).0)
    ∙ ap (λ (hs : List Held). (get_or ring i d).k - length hs) (of_block plan.index first i block ring d at lt)
    ∙ ap (λ n. (get_or ring i d).k - n) (length-map (get_or ring i d).came (held_as plan.index block))

pub lacking_later : (plan : Plan) (info : Option (List ℕ)) (first symbol block : ℕ) (ring : List BlockState) → says_stream plan.flags ≡ true → first + length ring ≤ block
    → lacking (alone (stream_of plan info first symbol ring)) plan block ≡ plan.fti.b
lacking_later plan info first symbol block ring stream le =
    ap (λ n. n - length (filter (OfBlock plan.index block) (held_from plan.index first ring))) (sources_are plan block stream)
    ∙ ap (λ (hs : List Held). plan.fti.b - length hs) (of_later plan.index first block ring le)
    ∙ omega arith

-- ---- the word

not_below : (m n : ℕ) → nat_le m n ≡ not (nat_lt n m)
not_below m n = go (nat_lt n m) refl
  where
    go : (b : Bool) → nat_lt n m ≡ b → nat_le m n ≡ not b
    go true e = lt-leb m n (ltb-true n m e)
    go false e = le-leb m n (ltb-false n m e)

none_of : (a b c : Bool) → (not a || not b || not c) ≡ not (a && b && c)
none_of true true c = refl
none_of true false c = refl
none_of false b c = refl

abbrev misfit_by : Settings → List ℕ → ℕ → ℕ → Bool → Cut → Bool
misfit_by p payload block symbol stream c = nat_le (blocks c) block || nat_le (encoding_symbols c block) symbol || not (elim stream [
  | true ↦ elim (nat_lt symbol (source_symbols c block)) [ true ↦ is_segment p payload | false ↦ length payload == coded_octets c ]
  | false ↦ length payload == sent_octets c block symbol
])

pub misfit_is : (p : Settings) (plan : Plan) (block symbol : ℕ) (payload : List ℕ) (cut : Cut) → says_stream plan.flags ≡ true → cut ≡ stream_cut plan.fti.e plan.fti.b plan.fti.max_n
    → is_misfit p plan (position plan.index block symbol) payload ≡ not (fits_cut p cut block symbol payload)
misfit_is p plan block symbol payload cut stream is =
    ap (λ b. misfit_by p payload block symbol b (cut_of_plan plan)) stream
    ∙ ap (misfit_by p payload block symbol true) (stream_plan plan stream ∙ sym is)
    ∙ ap (λ b. b || nat_le (encoding_symbols cut block) symbol || not by_length) (not_below (blocks cut) block)
    ∙ ap (λ b. not (nat_lt block (blocks cut)) || b || not by_length) (not_below (encoding_symbols cut block) symbol)
    ∙ none_of (nat_lt block (blocks cut)) (nat_lt symbol (encoding_symbols cut block)) by_length
  where
    by_length : Bool
    by_length = elim (nat_lt symbol (source_symbols cut block)) [ true ↦ is_segment p payload | false ↦ length payload == coded_octets cut ]

abbrev word : Bool → Bool → Bool → Put
word had far misfit = elim (first_where ((had, put.Had) ∷ (far, put.Away) ∷ (misfit, put.Unfit) ∷ [])) [ Some w ↦ w | None ↦ put.Kept ]

had_word : (a b c : Bool) → a ≡ true → put.Had ≡ word a b c
unfolding first_where
had_word true b c e = refl
had_word false b c e = absurd (cc e)

away_word : (a b c : Bool) → a ≡ false → b ≡ true → put.Away ≡ word a b c
unfolding first_where
away_word true b c e f = absurd (cc e)
away_word false true c e f = refl
away_word false false c e f = absurd (cc f)

unfit_word : (a b c : Bool) → a ≡ false → b ≡ false → c ≡ true → put.Unfit ≡ word a b c
unfolding first_where
unfit_word true b c e f g = absurd (cc e)
unfit_word false true c e f g = absurd (cc f)
unfit_word false false true e f g = refl
unfit_word false false false e f g = absurd (cc g)

kept_word : (a b c : Bool) → a ≡ false → b ≡ false → c ≡ false → put.Kept ≡ word a b c
unfolding first_where
kept_word true b c e f g = absurd (cc e)
kept_word false true c e f g = absurd (cc f)
kept_word false false true e f g = absurd (cc g)
kept_word false false false e f g = refl

either : (a b : Bool) → (a ≡ true) ⊎ (b ≡ true) → (a || b) ≡ true
either true b e = refl
either false b (inl e) = absurd (cc e)
either false b (inr e) = e

neither : (a b : Bool) → a ≡ false → b ≡ false → (a || b) ≡ false
neither true b e f = absurd (cc e)
neither false b e f = f

far_is : (p : Settings) (plan : Plan) (info : Option (List ℕ)) (first symbol block : ℕ) (ring : List BlockState) → says_stream plan.flags ≡ true
    → is_far p (alone (stream_of plan info first symbol ring)) plan block ≡ nat_le (first + p.blocks) block
far_is p plan info first symbol block ring stream =
    ap (λ b. b && nat_le (elim (plan.index == plan.index) [ true ↦ first | false ↦ 0 ] + p.blocks) block) stream
    ∙ ap (λ b. nat_le (elim b as (λ _. ℕ) [ true ↦ first | false ↦ 0 ] + p.blocks) block) (eq-eqb plan.index plan.index refl)

pub word_had : (p : Settings) (plan : Plan) (s : Holding) (block id : ℕ) (payload : List ℕ)
    → (holds s (position plan.index block id) ≡ true) ⊎ (is_done s plan block ≡ true) → put.Had ≡ put_by p s plan (position plan.index block id) payload
word_had p plan s block id payload which = had_word _ _ _ (either (holds s (position plan.index block id)) (is_done s plan block) which)

-- ---- the next segment

ids_in : (index block : ℕ) (cs : List Came) → ids_of (map (held_as index block) cs) ≡ map (λ (c : Came). c.id) cs
ids_in index block [] = refl
ids_in index block (c ∷ cs) = ap (λ xs. c.id ∷ xs) (ids_in index block cs)

octets_in : (index block : ℕ) (cs : List Came) → octets_of_held (map (held_as index block) cs) ≡ map (λ (c : Came). c.octets) cs
octets_in index block [] = refl
octets_in index block (c ∷ cs) = ap (λ xs. c.octets ∷ xs) (octets_in index block cs)

under_in : (index block id : ℕ) (cs : List Came) → held_symbol (map (held_as index block) cs) id ≡ came_under cs id
under_in index block id [] = refl
under_in index block id (c ∷ cs) = go (c.id == id) (under_in index block id cs)
  where
    octets_of : Option Held → Option (List ℕ)
    octets_of found = elim found [ Some h ↦ Some h.octets | None ↦ None ]

    came_of : Option Came → Option (List ℕ)
    came_of found = elim found [ Some d ↦ Some d.octets | None ↦ None ]

    go : (b : Bool) → held_symbol (map (held_as index block) cs) id ≡ came_under cs id
        → octets_of (cond b (Some (held_as index block c)) (find (λ (h : Held). h.at.symbol == id) (map (held_as index block) cs)))
        ≡ came_of (cond b (Some c) (find (λ (d : Came). d.id == id) cs))
    go true rest = refl
    go false rest = rest

abbrev value_by : Bool → Bool → ℕ → List Held → ℕ → Option (List ℕ)
value_by done stream size held symbol = elim done [
  | true ↦ Some (solved_symbol size (ids_of held) (octets_of_held held) symbol)
  | false ↦ elim stream [ true ↦ held_symbol held symbol | false ↦ None ]
]

abbrev source_by : Bool → ℕ → List ℕ → List (List ℕ) → Option (List ℕ) → ℕ → Option (List ℕ)
source_by done size ids octets here symbol = elim done [ true ↦ Some (solved_symbol size ids octets symbol) | false ↦ here ]

pub stream_value : (plan : Plan) (info : Option (List ℕ)) (first symbol i block id : ℕ) (ring : List BlockState) (d : BlockState) → says_stream plan.flags ≡ true
    → AreOf plan.fti.b (plan.fti.e + 8) ring → block ≡ first + i → i < length ring
    → block_value (alone (stream_of plan info first symbol ring)) plan block id ≡ source_of (get_or ring i d) id
stream_value plan info first symbol i block id ring d stream of at lt =
    ap (λ b. value_by b (says_stream plan.flags) (coded_octets (cut_of_plan plan)) held id) (ap (λ n. n == 0) (stream_lacking plan info first symbol i block ring d stream of at lt))
    ∙ ap (λ b. value_by (lacks (get_or ring i d) == 0) b (coded_octets (cut_of_plan plan)) held id) stream
    ∙ ap (λ n. value_by (lacks (get_or ring i d) == 0) true n held id) (ap coded_octets (stream_plan plan stream) ∙ sym (block_at plan.fti.b (plan.fti.e + 8) i ring d of lt).1)
    ∙ ap (λ (hs : List Held). value_by (lacks (get_or ring i d) == 0) true (get_or ring i d).size hs id) (of_block plan.index first i block ring d at lt)
    ∙ ap (λ xs. source_by (lacks (get_or ring i d) == 0) (get_or ring i d).size xs (octets_of_held (held_in plan.index block (get_or ring i d))) (held_symbol (held_in plan.index block (get_or ring i d)) id) id) (ids_in plan.index block (get_or ring i d).came)
    ∙ ap (λ (xs : List (List ℕ)). source_by (lacks (get_or ring i d) == 0) (get_or ring i d).size (map (λ (c : Came). c.id) (get_or ring i d).came) xs (held_symbol (held_in plan.index block (get_or ring i d)) id) id) (octets_in plan.index block (get_or ring i d).came)
    ∙ ap (λ (o : Option (List ℕ)). source_by (lacks (get_or ring i d) == 0) (get_or ring i d).size (map (λ (c : Came). c.id) (get_or ring i d).came) (map (λ (c : Came). c.octets) (get_or ring i d).came) o id) (under_in plan.index block id (get_or ring i d).came)
  where
    held : List Held
    held = filter (OfBlock plan.index block) (held_from plan.index first ring)

-- ---- a block is passed

pub all_pass : (q : Held → Bool) (xs : List Held) → AllByRecursion (λ (h : Held). q h ≡ true) xs → filter q xs ≡ xs
all_pass q [] all = refl
all_pass q (x ∷ xs) all = ap (λ b. cond b (x ∷ filter q xs) (filter q xs)) all.0 ∙ ap (λ hs. x ∷ hs) (all_pass q xs all.1)

none_pass : (q : Held → Bool) (xs : List Held) → AllByRecursion (λ (h : Held). q h ≡ false) xs → filter q xs ≡ []
none_pass q [] all = refl
none_pass q (x ∷ xs) all = ap (λ b. cond b (x ∷ filter q xs) (filter q xs)) all.0 ∙ none_pass q xs all.1

from_all : (index first behind : ℕ) (bs : List BlockState) → behind ≤ first → AllByRecursion (λ (h : Held). not (nat_lt h.at.block behind) ≡ true) (held_from index first bs)
unfolding held_from
from_all index first behind [] le = tt
from_all index first behind (b ∷ bs) le =
    all_append (λ (h : Held). not (nat_lt h.at.block behind) ≡ true) (held_in index first b) (held_from index (suc first) bs) (here b.came) (from_all index (suc first) behind bs (omega (arith, le)))
  where
    here : (cs : List Came) → AllByRecursion (λ (h : Held). not (nat_lt h.at.block behind) ≡ true) (map (held_as index first) cs)
    here [] = tt
    here (c ∷ cs) = (ap not (le-ltb first behind le), here cs)

first_none : (index first : ℕ) (cs : List Came) → AllByRecursion (λ (h : Held). not (nat_lt h.at.block (first + 1)) ≡ false) (map (held_as index first) cs)
first_none index first [] = tt
first_none index first (c ∷ cs) = (ap not (lt-ltb first (first + 1) (omega arith)), first_none index first cs)

held_end : (index first k size : ℕ) (bs : List BlockState) → held_from index first (bs ++ empty_block k size ∷ []) ≡ held_from index first bs
unfolding held_from
held_end index first k size [] = refl
held_end index first k size (b ∷ bs) = ap (λ hs. held_in index first b ++ hs) (held_end index (suc first) k size bs)

pub held_passed : (index first k size : ℕ) (ring : List BlockState) → 0 < length ring
    → held_from index (first + 1) (drop 1 ring ++ empty_block k size ∷ []) ≡ filter (λ (x : Held). not (nat_lt x.at.block (first + 1))) (held_from index first ring)
unfolding held_from
held_passed index first k size [] lt = absurd (omega arith)
held_passed index first k size (b ∷ bs) lt =
    held_end index (first + 1) k size bs
    ∙ ap (λ n. held_from index n bs) (let e : first + 1 ≡ suc first = omega arith in e)
    ∙ sym (all_pass (λ (x : Held). not (nat_lt x.at.block (first + 1))) (held_from index (suc first) bs) (from_all index (suc first) (first + 1) bs (omega arith)))
    ∙ sym (ap (λ hs. hs ++ filter (λ (x : Held). not (nat_lt x.at.block (first + 1))) (held_from index (suc first) bs))
    (none_pass (λ (x : Held). not (nat_lt x.at.block (first + 1))) (held_in index first b) (first_none index first b.came)))
    ∙ sym (filter-append (λ (x : Held). not (nat_lt x.at.block (first + 1))) (held_in index first b) (held_from index (suc first) bs))

pub of_end : (k size : ℕ) (bs : List BlockState) → AreOf k size bs → AreOf k size (bs ++ empty_block k size ∷ [])
of_end k size [] all = ((refl, refl), tt)
of_end k size (b ∷ bs) all = (all.0, of_end k size bs all.1)

pub of_rest : (k size : ℕ) (bs : List BlockState) → AreOf k size bs → AreOf k size (drop 1 bs)
of_rest k size [] all = tt
of_rest k size (b ∷ bs) all = all.1

pub of_empty : (k size n : ℕ) → AreOf k size (replicate n (empty_block k size))
of_empty k size zero = tt
of_empty k size (suc n) = ((refl, refl), of_empty k size n)

pub nothing_held : (index first k size n : ℕ) → held_from index first (replicate n (empty_block k size)) ≡ []
unfolding held_from
nothing_held index first k size zero = refl
nothing_held index first k size (suc n) = nothing_held index (suc first) k size n

pub of_more : (k size i id : ℕ) (octets : List ℕ) (bs : List BlockState) (d : BlockState) → AreOf k size bs → i < length bs → AreOf k size (set bs i (with_came id octets (get_or bs i d)))
of_more k size i id octets [] d all lt = absurd (omega arith)
of_more k size zero id octets (b ∷ bs) d all lt = all
of_more k size (suc i) id octets (b ∷ bs) d all lt = (all.0, of_more k size i id octets bs d all.1 (omega arith))

-- ---- words of any state

pub word_far : (p : Settings) (plan : Plan) (s : Holding) (block id : ℕ) (payload : List ℕ) → holds s (position plan.index block id) ≡ false → is_done s plan block ≡ false
    → is_far p s plan block ≡ true → put.Away ≡ put_by p s plan (position plan.index block id) payload
word_far p plan s block id payload new more far = away_word _ _ _ (neither (holds s (position plan.index block id)) (is_done s plan block) new more) far

not_true : (b : Bool) → false ≡ not b → b ≡ true
not_true true e = refl
not_true false e = absurd (cc e)

not_false : (b : Bool) → true ≡ not b → b ≡ false
not_false true e = absurd (cc e)
not_false false e = refl

pub word_unfit : (p : Settings) (plan : Plan) (s : Holding) (block id : ℕ) (payload : List ℕ) → holds s (position plan.index block id) ≡ false → is_done s plan block ≡ false
    → is_far p s plan block ≡ false → false ≡ not (is_misfit p plan (position plan.index block id) payload) → put.Unfit ≡ put_by p s plan (position plan.index block id) payload
word_unfit p plan s block id payload new more near misfit =
    unfit_word _ _ _ (neither (holds s (position plan.index block id)) (is_done s plan block) new more) near (not_true (is_misfit p plan (position plan.index block id) payload) misfit)

pub word_kept : (p : Settings) (plan : Plan) (s : Holding) (block id : ℕ) (payload : List ℕ) → holds s (position plan.index block id) ≡ false → is_done s plan block ≡ false
    → is_far p s plan block ≡ false → true ≡ not (is_misfit p plan (position plan.index block id) payload) → put.Kept ≡ put_by p s plan (position plan.index block id) payload
word_kept p plan s block id payload new more near fit =
    kept_word _ _ _ (neither (holds s (position plan.index block id)) (is_done s plan block) new more) near (not_false (is_misfit p plan (position plan.index block id) payload) fit)

decided : (r : Bool) (n m : ℕ) → (r ≡ true → n ≤ m) → (r ≡ false → m < n) → r ≡ nat_le n m
decided true n m up down = sym (le-leb n m (up refl))
decided false n m up down = sym (not_below n m ∙ ap not (lt-ltb m n (down refl)))

pub far_by : (p : Settings) (plan : Plan) (info : Option (List ℕ)) (first symbol place block : ℕ) (ring : List BlockState) (r : Bool) → says_stream plan.flags ≡ true → p.blocks ≡ length ring
    → place + first ≡ block → (r ≡ true → length ring ≤ place) → (r ≡ false → place < length ring) → r ≡ is_far p (alone (stream_of plan info first symbol ring)) plan block
far_by p plan info first symbol place block ring r stream blocks at beyond within =
    decided r (first + p.blocks) block (λ e. let le = beyond e in omega (arith, le, blocks, at)) (λ e. let lt = within e in omega (arith, lt, blocks, at))
    ∙ sym (far_is p plan info first symbol block ring stream)

not_not : (b : Bool) → not (not b) ≡ b
not_not true = refl
not_not false = refl

pub suits_is : (p : Settings) (plan : Plan) (block symbol : ℕ) (payload : List ℕ) (cut : Cut) → says_stream plan.flags ≡ true → cut ≡ stream_cut plan.fti.e plan.fti.b plan.fti.max_n
    → fits_cut p cut block symbol payload ≡ not (is_misfit p plan (position plan.index block symbol) payload)
suits_is p plan block symbol payload cut stream is = sym (ap not (misfit_is p plan block symbol payload cut stream is) ∙ not_not (fits_cut p cut block symbol payload))

-- ---- a symbol that is kept

pub may_come : (plan : Plan) (info : Option (List ℕ)) (first symbol i block id : ℕ) (ring : List BlockState) (payload : List ℕ) (d : BlockState) → says_stream plan.flags ≡ true
    → AreOf plan.fti.b (plan.fti.e + 8) ring → block ≡ first + i → i < length ring → MayKeep (stream_of plan info first symbol ring) block id payload → MayCome (get_or ring i d) id payload
may_come plan info first symbol i block id ring payload d stream of at lt m = record {
  small = m.small;
  new = sym (stream_holds plan info first symbol i block id ring d at lt) ∙ m.new;
  lacks = some (lacks (get_or ring i d)) (ap (λ n. n == 0) (sym (stream_lacking plan info first symbol i block ring d stream of at lt)) ∙ m.lacks);
  sent = subst (λ n. IsSent n (get_or ring i d).size id payload) (sym (block_at plan.fti.b (plan.fti.e + 8) i ring d of lt).0)
      (subst (λ n. IsSent plan.fti.b n id payload) (sym (block_at plan.fti.b (plan.fti.e + 8) i ring d of lt).1) m.sent);
}
  where
    some : (n : ℕ) → (n == 0) ≡ false → 0 < n
    some zero e = absurd (cc e)
    some (suc n) e = omega arith

pub kept_stream : (plan : Plan) (info : Option (List ℕ)) (first symbol i block id : ℕ) (ring after : List BlockState) (payload : List ℕ) (d : BlockState) → block ≡ first + i → i < length ring
    → after ≡ set ring i (with_came id payload (get_or ring i d))
    → stream_of plan info first symbol after
    ≡ record (stream_of plan info first symbol ring) { held = (with_symbol put.Kept (position plan.index block id) payload (alone (stream_of plan info first symbol ring))).held }
kept_stream plan info first symbol i block id ring after payload d at lt is =
    ap (λ (bs : List BlockState). stream_of plan info first symbol bs) is
    ∙ ap (λ n. record { plan = plan; room = n; info = info; point = position plan.index first symbol; held = held_from plan.index first (set ring i (with_came id payload (get_or ring i d))) })
    (length-set ring i (with_came id payload (get_or ring i d)))
    ∙ ap (λ (hs : List Held). record { plan = plan; room = length ring; info = info; point = position plan.index first symbol; held = hs })
    (sym (held_more plan.index first i block id payload ring d at lt))

pub sound_more : (plan : Plan) (cut : Cut) (first symbol i block id : ℕ) (ring after : List BlockState) (payload : List ℕ) (d : BlockState) (spares : List (List ℕ))
    → StreamSound plan cut first symbol ring spares → block ≡ first + i → block < 16777216 → i < length ring
    → after ≡ set ring i (with_came id payload (get_or ring i d)) → StreamSound plan cut first symbol after spares
sound_more plan cut first symbol i block id ring after payload d spares s at small lt is = subst (λ (bs : List BlockState). StreamSound plan cut first symbol bs spares) (sym is) (record {
  stream = s.stream;
  cut_is = s.cut_is;
  sound = s.sound;
  next = s.next;
  some = (let n = length-set ring i (with_came id payload (get_or ring i d)) in let m = s.some in omega (arith, n, m));
  blocks = of_more plan.fti.b (plan.fti.e + 8) i id payload ring d s.blocks lt;
  begun = begun_more symbol i id payload ring d s.begun lt;
  named = subst AreNamed (held_more plan.index first i block id payload ring d at lt)
      (all_with (λ (h : Held). h.at.block < 16777216) (record { at = position plan.index block id; octets = payload }) (held_from plan.index first ring) s.named small);
  spare = s.spare;
})

-- ---- the next segment, and a block that is passed

pub next_row : (plan : Plan) (info : Option (List ℕ)) (first symbol : ℕ) (ring : List BlockState) (b : BlockState) (row : Option (List ℕ)) → says_stream plan.flags ≡ true
    → AreOf plan.fti.b (plan.fti.e + 8) ring → 0 < length ring → b ≡ get_or ring 0 b → IsRow b.size (source_of b symbol) row
    → IsRow (plan.fti.e + 8) (next_segment (alone (stream_of plan info first symbol ring)) plan) row
next_row plan info first symbol ring b row stream of some read is =
    subst (λ o. IsRow (plan.fti.e + 8) o row) (sym (stream_value plan info first symbol 0 first symbol ring b stream of (omega arith) some))
    (subst (λ (x : BlockState). IsRow (plan.fti.e + 8) (source_of x symbol) row) read
    (subst (λ n. IsRow n (source_of b symbol) row) (ap (λ (x : BlockState). x.size) read ∙ (block_at plan.fti.b (plan.fti.e + 8) 0 ring b of some).1) is))

abbrev passed_by : Plan → Option (List ℕ) → ℕ → ℕ → List BlockState → Bool → StreamState
passed_by plan info first symbol ring within = elim within [
  | true ↦ record (stream_of plan info first symbol ring) { point = position plan.index first (symbol + 1) }
  | false ↦ record (stream_of plan info first symbol ring) {
    point = position plan.index (first + 1) 0;
    held = filter (λ (x : Held). not (nat_lt x.at.block (first + 1))) (held_from plan.index first ring);
  }
]

pub passed_block : (plan : Plan) (info : Option (List ℕ)) (first symbol k size : ℕ) (ring after : List BlockState) → plan.fti.b ≤ symbol + 1 → 0 < length ring
    → after ≡ drop 1 ring ++ empty_block k size ∷ [] → stream_of plan info (first + 1) 0 after ≡ passed (stream_of plan info first symbol ring)
passed_block plan info first symbol k size ring after le some is =
    ap (λ (bs : List BlockState). stream_of plan info (first + 1) 0 bs) is
    ∙ ap (λ n. record { plan = plan; room = n; info = info; point = position plan.index (first + 1) 0; held = held_from plan.index (first + 1) (drop 1 ring ++ empty_block k size ∷ []) }) (shifted ring some)
    ∙ ap (λ (hs : List Held). record { plan = plan; room = length ring; info = info; point = position plan.index (first + 1) 0; held = hs }) (held_passed plan.index first k size ring some)
    ∙ sym (ap (passed_by plan info first symbol ring) (le-ltb (symbol + 1) plan.fti.b le))
  where
    shifted : (bs : List BlockState) → 0 < length bs → length (drop 1 bs ++ empty_block k size ∷ []) ≡ length bs
    shifted [] lt = absurd (omega arith)
    shifted (b ∷ bs) lt = omega (arith, length-append bs (empty_block k size ∷ []))

-- ---- a new stream

pub new_stream : (plan : Plan) (k size room : ℕ) (ring : List BlockState) → ring ≡ replicate room (empty_block k size)
    → stream_of plan None 0 0 ring ≡ record { plan = plan; room = room; info = None; point = position plan.index 0 0; held = [] }
new_stream plan k size room ring is =
    ap (λ (bs : List BlockState). stream_of plan None 0 0 bs) is
    ∙ ap (λ n. record { plan = plan; room = n; info = None; point = position plan.index 0 0; held = held_from plan.index 0 (replicate room (empty_block k size)) }) (length-replicate room (empty_block k size))
    ∙ ap (λ (hs : List Held). record { plan = plan; room = room; info = None; point = position plan.index 0 0; held = hs }) (nothing_held plan.index 0 k size room)
