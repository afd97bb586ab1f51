-- How many segments can be handed up of what is held: fewer behind each.
use Rattle.std.proofs.Common.{◌≡◌, ℕ, suc, ◌+◌, ◌-◌, ◌<◌, ◌≤◌, List, [], ◌∷◌, ◌++◌, length, map, drop, get_or, cond, Option, Some, None, Bool, true, false, refl, sym, ap, ◌∙◌, subst, arith}
use Rattle.std.specs.Prelude.{is_some, find, ◌==◌, ◌||◌}
use Rattle.std.specs.List.{list_any}
use Rattle.std.proofs.lemmas.Bool.{eqb-true}
use Rattle.std.proofs.lemmas.List.{length-append, length-map}
use Rattle.fec_plan.specs.Partition.{Cut}
use Rattle.fec_plan.specs.Points.{position}
use Rattle.gf_field.specs.Symbol.{solved_symbol}
use Rattle.norm_receive_rules.specs.Holding.{Plan, Held}
use Rattle.norm_receive_rules.specs.HandingUp.{next_segment}
use Rattle.norm_receive_rules.proofs.PassedLemmas.{many_ids}
use Rattle.rx_stream.specs.BlockState.{BlockState, Came, came_under, empty_block, lacks, source_of}
use Rattle.rx_stream.specs.BlockMoves.{IsRow}
use Rattle.rx_stream.specs.StreamMoves.{left}
use Rattle.rx_stream.specs.StreamSound.{StreamSound, held_from, held_in, stream_of}
use Rattle.rx_stream.specs.StreamState.{StreamState, alone}
use Rattle.rx_stream.proofs.HandingLemmas.{begun_whole, row_there}
use Rattle.rx_stream.proofs.SegmentLemmas.{k_first, next_value}

-- a symbol that came is among those that are held
came_held : (index block id : ℕ) (came : List Came) → is_some (came_under came id) ≡ true
    → list_any (λ (h : Held). h.at.symbol == id) (map (λ (c : Came). record { at = position index block c.id; octets = c.octets }) came) ≡ true
came_held index block id [] e = absurd (cc e)
came_held index block id (c ∷ came) e = go (c.id == id) e (came_held index block id came)
  where
    go : (b : Bool)
        → is_some (elim (cond b (Some c) (find (λ (x : Came). x.id == id) came)) as (λ _. Option (List ℕ)) [ Some x ↦ Some x.octets | None ↦ None ]) ≡ true
        → (is_some (came_under came id) ≡ true
        → list_any (λ (h : Held). h.at.symbol == id) (map (λ (x : Came). record { at = position index block x.id; octets = x.octets }) came) ≡ true)
        → (b || list_any (λ (h : Held). h.at.symbol == id) (map (λ (x : Came). record { at = position index block x.id; octets = x.octets }) came)) ≡ true
    go true f rest = refl
    go false f rest = rest f

-- where so many source symbols of a block are there, as many symbols of it came
pub came_many : (b : BlockState) (n : ℕ) → n ≤ b.k → ((symbol : ℕ) → symbol < n → is_some (source_of b symbol) ≡ true) → n ≤ length b.came
came_many b n few each = go (lacks b == 0) refl
  where
    by_kind : Bool → ℕ → Option (List ℕ)
    by_kind done symbol = elim done as (λ _. Option (List ℕ)) [
      | true ↦ Some (solved_symbol b.size (map (λ (c : Came). c.id) b.came) (map (λ (c : Came). c.octets) b.came) symbol)
      | false ↦ came_under b.came symbol
    ]

    go : (done : Bool) → (lacks b == 0) ≡ done → n ≤ length b.came
    go true e = (let none : b.k - length b.came ≡ 0 = eqb-true (lacks b) 0 e in omega (arith, none, few))
    go false e =
        let le = many_ids n (held_in 0 0 b)
        (λ symbol lt. came_held 0 0 symbol b.came (ap (λ (o : Option (List ℕ)). is_some o) (sym (ap (λ d. by_kind d symbol) e)) ∙ each symbol lt)) in
        let same : length (held_in 0 0 b) ≡ length b.came = length-map b.came (λ (c : Came). record { at = position 0 0 c.id; octets = c.octets }) in
        omega (arith, le, same)

-- as many are held as came of the first block, and of the others together
held_first : (index first : ℕ) (ring : List BlockState) (d : BlockState) → 0 < length ring
    → length (held_from index first ring) ≡ length (get_or ring 0 d).came + length (held_from index (suc first) (drop 1 ring))
unfolding held_from
held_first index first [] d some = absurd (omega arith)
held_first index first (b ∷ ring) d some =
    length-append (held_in index first b) (held_from index (suc first) ring)
    ∙ ap (λ n. n + length (held_from index (suc first) ring)) (length-map b.came (λ (c : Came). record { at = position index first c.id; octets = c.octets }))

none_more : (index first k size : ℕ) (ring : List BlockState) → length (held_from index first (ring ++ empty_block k size ∷ [])) ≡ length (held_from index first ring)
unfolding held_from
none_more index first k size [] = refl
none_more index first k size (b ∷ ring) =
    length-append (held_in index first b) (held_from index (suc first) (ring ++ empty_block k size ∷ []))
    ∙ ap (λ n. length (held_in index first b) + n) (none_more index (suc first) k size ring)
    ∙ sym (length-append (held_in index first b) (held_from index (suc first) ring))

module _ (plan : Plan) (cut : Cut) (info : Option (List ℕ)) (first symbol : ℕ) (ring : List BlockState) (spares : List (List ℕ)) (d : BlockState)
    (s : StreamSound plan cut first symbol ring spares) (there : is_some (source_of (get_or ring 0 d) symbol) ≡ true) where
  some_block : 0 < length ring
  some_block = let n = s.some in omega (arith, n)

  came_to : symbol + 1 ≤ length (get_or ring 0 d).came
  came_to =
      came_many (get_or ring 0 d) (symbol + 1) (let k = k_first plan.fti.b (plan.fti.e + 8) ring d s.blocks some_block in let n = s.next in omega (arith, k, n))
      (begun_whole symbol ring d some_block s.begun there)

  -- where the next segment is there, one is left
  pub left_some : 0 < left (stream_of plan info first symbol ring)
  left_some = let n = held_first plan.index first ring d some_block in let le = came_to in omega (arith, n, le)

  -- and behind it fewer are, where it is not the last of its block
  pub left_next : left (stream_of plan info first (symbol + 1) ring) < left (stream_of plan info first symbol ring)
  left_next = let n = held_first plan.index first ring d some_block in let le = came_to in omega (arith, n, le)

  -- and where it is
  pub left_passed : (k size : ℕ) (after : List BlockState) → plan.fti.b ≤ symbol + 1 → after ≡ drop 1 ring ++ empty_block k size ∷ []
      → left (stream_of plan info (first + 1) 0 after) < left (stream_of plan info first symbol ring)
  left_passed k size after last is =
      let n = held_first plan.index first ring d some_block in
      let le = came_to in
      let rest : length (held_from plan.index (first + 1) after) ≡ length (held_from plan.index (suc first) (drop 1 ring)) =
      ap (λ (bs : List BlockState). length (held_from plan.index (first + 1) bs)) is ∙ none_more plan.index (first + 1) k size (drop 1 ring)
      ∙ ap (λ i. length (held_from plan.index i (drop 1 ring))) (let e : first + 1 ≡ suc first = omega arith in e) in
      omega (arith, n, le, rest)

-- the same of a stream whose next segment is lent
pub left_lent : (plan : Plan) (cut : Cut) (info : Option (List ℕ)) (first symbol : ℕ) (ring : List BlockState) (spares : List (List ℕ)) (o : StreamState) (row : List ℕ)
    → StreamSound plan cut first symbol ring spares → stream_of plan info first symbol ring ≡ o
    → IsRow (o.plan.fti.e + 8) (next_segment (alone o) o.plan) (Some row) → 0 < left o
left_lent plan cut info first symbol ring spares o row s is lent = subst (λ (x : StreamState). 0 < left x) is (go ring refl)
  where
    here : is_some (next_segment (alone (stream_of plan info first symbol ring)) plan) ≡ true
    here = row_there (plan.fti.e + 8) (next_segment (alone (stream_of plan info first symbol ring)) plan) row
        (subst (λ (x : StreamState). IsRow (x.plan.fti.e + 8) (next_segment (alone x) x.plan) (Some row)) (sym is) lent)

    go : (bs : List BlockState) → bs ≡ ring → 0 < left (stream_of plan info first symbol ring)
    go [] e = absurd (let n = s.some in let m = ap (λ (xs : List BlockState). length xs) e in omega (arith, n, m))
    go (b ∷ bs) e =
        let first_is : b ≡ get_or ring 0 b = ap (λ (xs : List BlockState). get_or xs 0 b) e in
        left_some plan cut info first symbol ring spares b s
        (ap (λ (x : BlockState). is_some (source_of x symbol)) (sym first_is)
        ∙ ap (λ (v : Option (List ℕ)). is_some v) (sym (next_value plan info first symbol ring b s.stream s.blocks (let n = s.some in omega (arith, n)) first_is)) ∙ here)
