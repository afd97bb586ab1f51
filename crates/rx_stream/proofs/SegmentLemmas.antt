-- What becomes of a stream as its next segment is handed up.
use Rattle.std.proofs.Common.{◌≡◌, ◌≢◌, ℕ, zero, suc, ◌+◌, ◌<◌, ◌≤◌, List, [], ◌∷◌, ◌++◌, length, replicate, take, drop, get_or, Option, Some, None, Bool, true, false, refl, sym, ap, ◌∙◌, subst, arith}
use Rattle.std.specs.Prelude.{min, is_some, not, nat_lt, MatchOption, IfSome}
use Rattle.std.specs.List.{AllByRecursion}
use Rattle.std.proofs.lemmas.List.{length-append, length-replicate}
use Rattle.norm_base.specs.Settings.{Settings}
use Rattle.fec_plan.specs.Partition.{Cut, IsSound, stream_cut}
use Rattle.norm_ext.specs.Numbers.{number}
use Rattle.norm_order.specs.declared.up.Up.{Up}
use Rattle.norm_order.specs.declared.up.Up.TheVariants as up
use Rattle.norm_receive_rules.specs.Holding.{Plan, Held}
use Rattle.norm_receive_rules.specs.HandingUp.{next_segment}
use Rattle.norm_receive_rules.specs.Plans.{has_its_info, says_stream}
use Rattle.rx_stream.specs.BlockState.{BlockState, empty_block, source_of}
use Rattle.rx_stream.specs.BlockMoves.{IsRow}
use Rattle.rx_stream.specs.StreamMoves.{next_up}
use Rattle.rx_stream.specs.StreamSound.{AreNamed, AreOf, StreamSound, held_from, stream_of}
use Rattle.rx_stream.specs.StreamState.{StreamState, alone}
use Rattle.rx_stream.proofs.HandingLemmas.{all_filter, begun_next, begun_none, len_coded, named_at, octets_coded, offset_coded, some_came}
use Rattle.rx_stream.proofs.StreamLemmas.{block_at, held_passed, nothing_held, of_empty, of_end, of_rest, stream_value}

pub there_by : (o : Option (List ℕ)) (P : List ℕ → Type 0) → MatchOption o ⊥ P → is_some o ≡ true
there_by (Some x) P h = refl
there_by None P h = absurd h

pub none_row : (size : ℕ) (o : Option (List ℕ)) → is_some o ≡ true → IsRow size o None → ⊥
none_row size (Some x) e h = h
none_row size None e h = absurd (cc e)

pub next_value : (plan : Plan) (info : Option (List ℕ)) (first symbol : ℕ) (ring : List BlockState) (b : BlockState) → says_stream plan.flags ≡ true
    → AreOf plan.fti.b (plan.fti.e + 8) ring → 0 < length ring → b ≡ get_or ring 0 b → next_segment (alone (stream_of plan info first symbol ring)) plan ≡ source_of b symbol
next_value plan info first symbol ring b stream of some read =
    stream_value plan info first symbol 0 first symbol ring b stream of (omega arith) some ∙ ap (λ (x : BlockState). source_of x symbol) (sym read)

pub size_first : (k size : ℕ) (ring : List BlockState) (b : BlockState) → AreOf k size ring → 0 < length ring → b ≡ get_or ring 0 b → b.size ≡ size
size_first k size ring b of some read = ap (λ (x : BlockState). x.size) read ∙ (block_at k size 0 ring b of some).1

pub k_first : (k size : ℕ) (ring : List BlockState) (d : BlockState) → AreOf k size ring → 0 < length ring → (get_or ring 0 d).k ≡ k
k_first k size ring d of some = (block_at k size 0 ring d of some).0

-- the block of a symbol that is there is one that 24 bits name
pub first_named : (index first k size symbol : ℕ) (ring : List BlockState) (b : BlockState) → AreNamed (held_from index first ring) → AreOf k size ring → 0 < length ring → 1 ≤ k
    → b ≡ get_or ring 0 b → is_some (source_of b symbol) ≡ true → first < 16777216
first_named index first k size symbol ring b named of some least read there =
    let came : 0 < length b.came = some_came b symbol there (let e = ap (λ (x : BlockState). x.k) read in let n = k_first k size ring b of some in omega (arith, e, n, least)) in
    let here : 0 < length (get_or ring 0 b).came = subst (λ (x : BlockState). 0 < length x.came) read came in
    let lt = named_at index first 0 ring b named some here in
    omega (arith, lt)

pub octets_next : (e n : ℕ) (row bytes : List ℕ) (o : Option (List ℕ)) → IsRow (e + 8) o (Some row) → MatchOption o ⊥ (λ symbol. n ≡ min (number 2 0 symbol) e)
    → bytes ≡ take n (drop 8 row) → IfSome o (λ symbol. bytes ≡ take n (drop 8 symbol))
octets_next e n row bytes (Some symbol) is len same = same ∙ octets_coded e n row symbol is len
octets_next e n row bytes None is len same = absurd is

pub sound_next : (plan : Plan) (cut : Cut) (first symbol : ℕ) (ring : List BlockState) (spares after : List (List ℕ)) (d : BlockState) → StreamSound plan cut first symbol ring spares
    → symbol + 1 < plan.fti.b → is_some (source_of (get_or ring 0 d) symbol) ≡ true → length after + 1 ≡ length spares
    → AllByRecursion (λ (row : List ℕ). length row ≡ plan.fti.e + 8) after → StreamSound plan cut first (symbol + 1) ring after
sound_next plan cut first symbol ring spares after d s lt there fewer sizes = record {
  stream = s.stream;
  cut_is = s.cut_is;
  sound = s.sound;
  next = lt;
  some = s.some;
  blocks = s.blocks;
  begun = begun_next symbol ring d s.begun there;
  named = s.named;
  spare = record { count = (let n = s.spare.count in omega (arith, n, fewer)); sizes = sizes };
}

shifted : (k size : ℕ) (ring : List BlockState) → 0 < length ring → length (drop 1 ring ++ empty_block k size ∷ []) ≡ length ring
shifted k size [] lt = absurd (omega arith)
shifted k size (b ∷ bs) lt = omega (arith, length-append bs (empty_block k size ∷ []))

pub sound_passed : (plan : Plan) (cut : Cut) (first symbol k size : ℕ) (ring after : List BlockState) (spares rows : List (List ℕ)) (d : BlockState) → StreamSound plan cut first symbol ring spares
    → k ≡ plan.fti.b → size ≡ plan.fti.e + 8 → after ≡ drop 1 ring ++ empty_block k size ∷ [] → length rows ≡ (get_or ring 0 d).k
    → AllByRecursion (λ (row : List ℕ). length row ≡ (get_or ring 0 d).size) rows → StreamSound plan cut (first + 1) 0 after rows
sound_passed plan cut first symbol k size ring after spares rows d s same_k same_size is count sizes =
    let some : 0 < length ring = (let n = s.some in omega (arith, n)) in
    subst (λ (bs : List BlockState). StreamSound plan cut (first + 1) 0 bs rows) (sym is) (record {
      stream = s.stream;
      cut_is = s.cut_is;
      sound = s.sound;
      next = (let n = s.next in omega (arith, n));
      some = (let n = shifted k size ring some in omega (arith, n, some));
      blocks = subst (λ n. AreOf plan.fti.b (plan.fti.e + 8) (drop 1 ring ++ empty_block n size ∷ [])) (sym same_k)
          (subst (λ n. AreOf plan.fti.b (plan.fti.e + 8) (drop 1 ring ++ empty_block plan.fti.b n ∷ [])) (sym same_size)
          (of_end plan.fti.b (plan.fti.e + 8) (drop 1 ring) (of_rest plan.fti.b (plan.fti.e + 8) ring s.blocks)));
      begun = begun_none (drop 1 ring ++ empty_block k size ∷ []);
      named = subst AreNamed (sym (held_passed plan.index first k size ring some))
          (all_filter (λ (h : Held). h.at.block < 16777216) (λ (x : Held). not (nat_lt x.at.block (first + 1))) (held_from plan.index first ring) s.named);
      spare = record {
        count = (let n = k_first plan.fti.b (plan.fti.e + 8) ring d s.blocks some in omega (arith, count, n));
        sizes = subst (λ n. AllByRecursion (λ (row : List ℕ). length row ≡ n) rows) (block_at plan.fti.b (plan.fti.e + 8) 0 ring d s.blocks some).1 sizes;
      };
    })

-- ---- a new stream

pub sound_new : (plan : Plan) (cut : Cut) (k size room : ℕ) (ring : List BlockState) (spares : List (List ℕ)) → says_stream plan.flags ≡ true → cut ≡ stream_cut plan.fti.e plan.fti.b plan.fti.max_n
    → IsSound cut → 1 ≤ plan.fti.b → 1 ≤ room → k ≡ plan.fti.b → size ≡ plan.fti.e + 8 → ring ≡ replicate room (empty_block k size) → length spares ≡ k
    → AllByRecursion (λ (row : List ℕ). length row ≡ size) spares → StreamSound plan cut 0 0 ring spares
sound_new plan cut k size room ring spares stream is sound least some same_k same_size made count sizes = subst (λ (bs : List BlockState). StreamSound plan cut 0 0 bs spares) (sym made) (record {
  stream = stream;
  cut_is = is;
  sound = sound;
  next = (omega (arith, least));
  some = (let n = length-replicate room (empty_block k size) in omega (arith, n, some));
  blocks = subst (λ n. AreOf plan.fti.b (plan.fti.e + 8) (replicate room (empty_block n size))) (sym same_k)
      (subst (λ n. AreOf plan.fti.b (plan.fti.e + 8) (replicate room (empty_block plan.fti.b n))) (sym same_size) (of_empty plan.fti.b (plan.fti.e + 8) room));
  begun = begun_none (replicate room (empty_block k size));
  named = subst AreNamed (sym (nothing_held plan.index 0 k size room)) tt;
  spare = record { count = (omega (arith, count, same_k)); sizes = subst (λ n. AllByRecursion (λ (row : List ℕ). length row ≡ n) spares) same_size sizes };
})

-- ---- the hand-up

abbrev up_by : ℕ → List ℕ → ℕ → Up
up_by index symbol len = elim len [ zero ↦ up.StreamEnd index | suc n ↦ up.StreamBytes index (number 4 4 symbol) (take (suc n) (drop 8 symbol)) ]

bytes_by : (index len offset : ℕ) (bytes symbol : List ℕ) → len ≢ 0 → offset ≡ number 4 4 symbol → bytes ≡ take len (drop 8 symbol) → up.StreamBytes index offset bytes ≡ up_by index symbol len
bytes_by index zero offset bytes symbol some at is = absurd (some refl)
bytes_by index (suc n) offset bytes symbol some at is =
    ap (λ m. up.StreamBytes index m bytes) at ∙ ap (λ (xs : List ℕ). up.StreamBytes index (number 4 4 symbol) xs) is

abbrev next_by : Settings → ℕ → Bool → Option (List ℕ) → Option Up
next_by p index has value = elim has [
  | true ↦ elim value [ Some symbol ↦ Some (up_by index symbol (min (number 2 0 symbol) p.e)) | None ↦ None ]
  | false ↦ None
]

up_here : (p : Settings) (e index len offset : ℕ) (row bytes : List ℕ) (value : Option (List ℕ)) → p.e ≡ e → IsRow (e + 8) value (Some row) → len ≡ min (number 2 0 row) e → len ≢ 0
    → offset ≡ number 4 4 row → IfSome value (λ symbol. bytes ≡ take len (drop 8 symbol)) → Some (up.StreamBytes index offset bytes) ≡ next_by p index true value
up_here p e index len offset row bytes None same is long some at octets = absurd is
up_here p e index len offset row bytes (Some symbol) same is long some at octets =
    ap (λ (u : Up). Some u) (bytes_by index len offset bytes symbol some (at ∙ offset_coded (e + 8) row symbol is) octets)
    ∙ ap (λ n. Some (up_by index symbol n)) (long ∙ ap (λ n. min n e) (len_coded (e + 8) row symbol is) ∙ ap (min (number 2 0 symbol)) (sym same))

pub up_bytes : (p : Settings) (o : StreamState) (index len offset : ℕ) (row bytes : List ℕ) → p.e ≡ o.plan.fti.e → index ≡ o.point.index → has_its_info (alone o) o.plan ≡ true
    → IsRow (o.plan.fti.e + 8) (next_segment (alone o) o.plan) (Some row) → len ≡ min (number 2 0 row) o.plan.fti.e → len ≢ 0 → offset ≡ number 4 4 row
    → IfSome (next_segment (alone o) o.plan) (λ symbol. bytes ≡ take len (drop 8 symbol)) → Some (up.StreamBytes index offset bytes) ≡ next_up p o
up_bytes p o index len offset row bytes same here has is long some at octets =
    up_here p o.plan.fti.e index len offset row bytes (next_segment (alone o) o.plan) same is long some at octets
    ∙ ap (λ n. next_by p n true (next_segment (alone o) o.plan)) here
    ∙ ap (λ b. next_by p o.point.index b (next_segment (alone o) o.plan)) (sym has)
