-- What is new next of an entry, from a place on and behind the drop point.
use Rattle.std.proofs.Common.{◌≡◌, ℕ, ◌+◌, ◌-◌, ◌*◌, ◌<◌, ◌≤◌, ◌⊎◌, inl, inr, Bool, true, false, refl, sym, ap, ◌∙◌, subst, arith, Option, Some, None, List, [], ◌∷◌, ◌++◌, length, map, drop}
use Rattle.std.specs.Prelude.{find, cond, nat_lt, not, ◌&&◌, ◌||◌, ◌==◌, min, option_map, flat_map, slice_get, if◌then◌else◌}
use Rattle.std.specs.Int.{div_ceil}
use Rattle.std.proofs.lemmas.Bool.{cases_lt, lt-ltb, le-ltb}
use Rattle.std.proofs.lemmas.List.{append-nil}
use Rattle.norm_base.specs.Settings.{Settings, InRange}
use Rattle.fec_plan.specs.Partition.{IsSound, stream_cut, source_symbols, encoding_symbols, blocks}
use Rattle.fec_plan.specs.Points.{Point, point_of, position, position_before}
use Rattle.fec_plan.specs.declared.position.Position.{Position}
use Rattle.fec_plan.proofs.PointLemmas.{not_before}
use Rattle.fec_plan.proofs.PositionLemmas.{Before, before_decides}
use Rattle.fec_plan.proofs.PartitionLemmas.{some_sources, sources_fit}
use Rattle.norm_order.specs.Entries.{Object, Stream, Entry}
use Rattle.norm_order.specs.Shapes.{Shape, shape_of, closed_in, closed_blocks, is_full}
use Rattle.norm_send_rules.specs.SenderState.{SenderState}
use Rattle.norm_send_rules.specs.InWindow.{stands_behind}
use Rattle.norm_send_rules.specs.Room.{first_kept}
use Rattle.norm_send_rules.specs.Wants.{want_before, want_index}
use Rattle.norm_send_rules.specs.Sending.{sent_once, new_of, new_from, next_new}
use Rattle.norm_send_rules.specs.Laws.{next_at}
use Rattle.norm_send_rules.specs.declared.want.Want.{Want}
use Rattle.norm_send_rules.specs.declared.want.Want.TheVariants.{Info, Symbol}
use Rattle.tx_object.specs.Held.{HeldObject}
use Rattle.tx_window.specs.EntryAsked.{IsNext}
use Rattle.tx_window.specs.EntryState.{EntryReads, StandsFor, IsObject}
use Rattle.tx_window.specs.declared.entry.HeldEntry.{HeldEntry}
use Rattle.tx_window.specs.declared.entry.HeldEntry.TheVariants as held
use Rattle.tx_window.specs.Next.{is_next}
use Rattle.tx_window.proofs.NextLemmas.{Splits, itself_next, block_next, object_over, none_left}
use Rattle.tx_window.specs.Asked.{later_of}
use Rattle.tx_window.proofs.KeptLemmas.{chosen, passed_over}

-- ---- a test that splits an entry

is_false : (t : Bool) → (t ≡ true → ⊥) → t ≡ false
is_false true h = absurd (h refl)
is_false false h = refl

not_first : (b c : Bool) → b ≡ true → (not b && c) ≡ false
not_first true c e = refl
not_first false c e = absurd (cc)

not_second : (b c : Bool) → c ≡ false → (not b && c) ≡ false
not_second true c e = refl
not_second false c e = e

both : (b c : Bool) → b ≡ false → c ≡ true → (not b && c) ≡ true
both true c e f = absurd (cc)
both false c e f = f

-- where the kept symbols of an entry begin: behind the drop point's entry at its first, and in it at the drop point
abbrev pub BeginsAt : Point → ℕ → ℕ → Type 0
BeginsAt d index block = ((d.index < index) × (block ≡ 0)) ⊎ ((d.index ≡ index) × (block ≡ d.block))

pub begins_at : (s : SenderState) (index : ℕ) → s.current.drop.index ≤ index → BeginsAt s.current.drop index (first_kept s index)
begins_at s index le = go (cases_lt s.current.drop.index index)
  where
    go : (s.current.drop.index < index) ⊎ (index ≤ s.current.drop.index) → BeginsAt s.current.drop index (first_kept s index)
    go (inl lt) = inl (lt, chosen (nat_lt s.current.drop.index index) 0 s.current.drop.block (lt-ltb s.current.drop.index index lt))
    go (inr ge) = inr (omega arith, passed_over (nat_lt s.current.drop.index index) 0 s.current.drop.block (le-ltb s.current.drop.index index ge))

kept_behind : (d : Point) (q : Position) (b : ℕ) → BeginsAt d q.index b → b ≤ q.block → stands_behind d (Symbol q) ≡ true
kept_behind d q b (inl before) le = ap not (not_before (point_of q) d (inl before.0))
kept_behind d q b (inr here) le = ap not (not_before (point_of q) d (inr (here.0, omega (arith, here.1, le))))

dropped_before : (d : Point) (q : Position) (b : ℕ) → BeginsAt d q.index b → q.block < b → stands_behind d (Symbol q) ≡ false
dropped_before d q b (inl before) lt = absurd (omega (arith, before.1, lt))
dropped_before d q b (inr here) lt = go (stands_behind d (Symbol q)) refl
  where
    same : (q.index == d.index) ≡ true
    same = grind (arith, here.0)

    less : nat_lt q.block d.block ≡ true
    less = lt-ltb q.block d.block (omega (arith, here.1, lt))

    by : (a b c : Bool) → b ≡ true → c ≡ true → not (a || (b && c)) ≡ false
    by true b c e f = refl
    by false true true e f = refl
    by false true false e f = absurd (cc)
    by false false c e f = absurd (cc)

    go : (t : Bool) → stands_behind d (Symbol q) ≡ t → stands_behind d (Symbol q) ≡ false
    go t e = by (nat_lt q.index d.index) (q.index == d.index) (nat_lt q.block d.block) same less

-- from a place on
pub splits_from : (d : Point) (from : Position) (b : ℕ) → BeginsAt d from.index b → Splits (is_next (Symbol from) d) (later_of from b)
splits_from d from b begins = go (cases_lt from.block b)
  where
    test : Want → Bool
    test = is_next (Symbol from) d

    early : (q : Position) → Before q from → test (Symbol q) ≡ false
    early q before = not_first (position_before q from) (stands_behind d (Symbol q)) ((before_decides q from).1 before)

    gone : (q : Position) → q.index ≡ from.index → q.block < b → test (Symbol q) ≡ false
    gone q same lt = not_second (position_before q from) (stands_behind d (Symbol q)) (dropped_before d q b (subst (λ i. BeginsAt d i b) (sym same) begins) lt)

    passes : (q : Position) → q.index ≡ from.index → (Before q from → ⊥) → b ≤ q.block → test (Symbol q) ≡ true
    passes q same apart le =
        both (position_before q from) (stands_behind d (Symbol q)) (is_false (position_before q from) (λ e. apart ((before_decides q from).0 e)))
        (kept_behind d q b (subst (λ i. BeginsAt d i b) (sym same) begins) le)

    info : test (Info from.index) ≡ false
    info = not_first (want_before (Info from.index) (Symbol from)) (stands_behind d (Info from.index)) (self from.index)
      where
        self : (n : ℕ) → Rattle.std.specs.Prelude.nat_le n n ≡ true
        self n = grind (arith)

    itself : Before from from → ⊥
    itself (inl (inl less)) = omega arith
    itself (inl (inr (same, less))) = omega arith
    itself (inr ((same, block), less)) = omega arith

    further : (block symbol : ℕ) → from.block < block → Before (position from.index block symbol) from → ⊥
    further block symbol lt (inl (inl less)) = omega arith
    further block symbol lt (inl (inr (same, less))) = omega arith
    further block symbol lt (inr ((same, equal), less)) = omega arith

    go : (from.block < b) ⊎ (b ≤ from.block) → Splits (is_next (Symbol from) d) (later_of from b)
    go (inr le) = subst (Splits (is_next (Symbol from) d)) (sym (passed_over (nat_lt from.block b) (position from.index b 0) from (le-ltb from.block b le))) (record {
      info = info;
      blocks = λ block symbol lt. early (position from.index block symbol) (inl (inr (refl, lt)));
      before = λ symbol lt. early (position from.index from.block symbol) (inr ((refl, refl), lt));
      here = passes from refl itself le;
      behind = λ block lt. passes (position from.index block 0) refl (further block 0 lt) (omega (arith, le, lt));
    })
    go (inl lt) = subst (Splits (is_next (Symbol from) d)) (sym (chosen (nat_lt from.block b) (position from.index b 0) from (lt-ltb from.block b lt))) (record {
      info = info;
      blocks = λ block symbol less. gone (position from.index block symbol) refl less;
      before = λ symbol less. absurd (omega arith);
      here = passes (position from.index b 0) refl (further b 0 lt) (omega arith);
      behind = λ block less. passes (position from.index block 0) refl (further block 0 (omega arith)) (omega (arith, less));
    })

-- from an entry's beginning on, where its info is left out
abbrev pub of_symbols : (Want → Bool) → Want → Bool
of_symbols f (Info index) = false
of_symbols f (Symbol at) = f (Symbol at)

pub splits_first : (d : Point) (index b : ℕ) → BeginsAt d index b → Splits (of_symbols (is_next (Info index) d)) (position index b 0)
splits_first d index b begins = record {
  info = refl;
  blocks = λ block symbol lt. not_second (want_before (Symbol (position index block symbol)) (Info index)) (stands_behind d (Symbol (position index block symbol)))
      (dropped_before d (position index block symbol) b begins lt);
  before = λ symbol lt. absurd (omega arith);
  here = passes b (omega arith);
  behind = λ block lt. passes block (omega (arith, lt));
}
  where
    passes : (block : ℕ) → b ≤ block → is_next (Info index) d (Symbol (position index block 0)) ≡ true
    passes block le =
        both (want_before (Symbol (position index block 0)) (Info index)) (stands_behind d (Symbol (position index block 0))) (le-ltb index index (omega arith))
        (kept_behind d (position index block 0) b begins le)

-- ---- what is found

-- each block that has a closed symbol has one that is sent once
abbrev pub HasSome : Settings → Shape → Type 0
HasSome p s = (block : ℕ) → block < closed_blocks s → 0 < sent_once p s block

alone : (p : Settings) (f : Want → Bool) (index : ℕ) (s : Shape) → find f (new_of p index s) ≡ find f (new_from p index (s ∷ []))
unfolding new_from
alone p f index s = ap (find f) (sym (append-nil (new_of p index s)))

pub searched : (p : Settings) (f : Want → Bool) (at : Position) (s : Shape) (next : Option Position) → Splits f at → HasSome p s → IsNext p s at next
    → find f (new_of p at.index s) ≡ option_map (λ q. Symbol q) next
searched p f at s None splits some (last, over) = alone p f at.index s ∙ object_over p f at s [] splits last over ∙ none_left p f (at.index + 1)
searched p f at s (Some next) splits some (inl found) =
    alone p f at.index s ∙ itself_next p f at s [] splits found.1 found.2 ∙ ap (λ (q : Position). Some (Symbol q)) (sym found.0)
searched p f at s (Some next) splits some (inr found) =
    alone p f at.index s ∙ block_next p f at s [] splits found.1 found.2 (some (at.block + 1) found.1) ∙ ap (λ (q : Position). Some (Symbol q)) (sym found.0)

symbols_alike : (f : Want → Bool) (qs : List Position) → find f (map (λ q. Symbol q) qs) ≡ find (of_symbols f) (map (λ q. Symbol q) qs)
symbols_alike f [] = refl
symbols_alike f (q ∷ qs) = ap (λ (r : Option Want). cond (f (Symbol q)) (Some (Symbol q)) r) (symbols_alike f qs)

-- an entry without info, from its first kept symbol on
pub searched_first : (p : Settings) (d : Point) (index b : ℕ) (s : Shape) (next : Option Position) → s.info ≡ false → BeginsAt d index b → HasSome p s
    → IsNext p s (position index b 0) next → find (is_next (Info index) d) (new_of p index s) ≡ option_map (λ q. Symbol q) next
searched_first p d index b s next none begins some is =
    ap (λ i. find (is_next (Info index) d) ((if i then Info index ∷ [] else []) ++ symbols)) none
    ∙ symbols_alike (is_next (Info index) d) _
    ∙ ap (λ i. find (of_symbols (is_next (Info index) d)) ((if i then Info index ∷ [] else []) ++ symbols)) (sym none)
    ∙ searched p (of_symbols (is_next (Info index) d)) (position index b 0) s next (splits_first d index b begins) some is
  where
    symbols : List Want
    symbols = map Symbol (flat_map (λ block. Rattle.norm_order.specs.Shapes.symbols_of index (sent_once p s block) block) (Rattle.std.specs.List.range_with_len 0 (closed_blocks s)))

-- an entry with info that was not dropped begins with it
pub info_first : (p : Settings) (d : Point) (index : ℕ) (s : Shape) → s.info ≡ true → d.index ≤ index → find (is_next (Info index) d) (new_of p index s) ≡ Some (Info index)
info_first p d index s is le =
    ap (λ i. find (is_next (Info index) d) ((if i then Info index ∷ [] else []) ++ symbols)) is
    ∙ taken (is_next (Info index) d (Info index)) (both (nat_lt index index) (stands_behind d (Info index)) (le-ltb index index (omega arith)) (ap not (le-ltb index d.index le)))
  where
    symbols : List Want
    symbols = map Symbol (flat_map (λ block. Rattle.norm_order.specs.Shapes.symbols_of index (sent_once p s block) block) (Rattle.std.specs.List.range_with_len 0 (closed_blocks s)))

    taken : (b : Bool) → b ≡ true → cond b (Some (Info index)) (find (is_next (Info index) d) symbols) ≡ Some (Info index)
    taken true e = refl
    taken false e = absurd (cc)

-- ---- each closed block has some

some_sent : (p : Settings) (s : Shape) (block : ℕ) → 0 < closed_in s block → source_symbols s.cut block ≤ encoding_symbols s.cut block → 0 < sent_once p s block
some_sent p s block closed fit = go (is_full s block)
  where
    least : closed_in s block ≤ source_symbols s.cut block
    least = small (source_symbols s.cut block) (s.closed - Rattle.fec_plan.specs.Partition.symbol_number s.cut block 0)
      where
        small : (a b : ℕ) → min a b ≤ a
        small a b = omega arith

    go : (b : Bool) → 0 < (elim b as (λ v. ℕ) [ true ↦ min (source_symbols s.cut block + p.auto) (encoding_symbols s.cut block) | false ↦ closed_in s block ])
    go true = omega (arith, closed, least, fit)
    go false = closed

some_object : (r : EntryReads) (h : HeldObject) → IsObject r h → HasSome r.p (shape_of r.p r.object)
some_object r h is = subst (λ (o : Object). HasSome r.p (shape_of r.p o)) (sym is.object) (λ block lt.
    let l = length (Rattle.std.specs.Prelude.take (Rattle.tx_object.specs.Held.octets_of h.cut) (Rattle.tx_object.specs.Held.octets_in r.ring h)) in
    let sound : IsSound (Rattle.fec_plan.specs.Partition.cut_of l r.p.e r.p.b r.p.max_n) = subst IsSound is.placed.holds.cut is.placed.sound in
    let closed = Rattle.tx_window.proofs.SourceLemmas.closed_here r.p l block sound lt in
    some_sent r.p (shape_of r.p (Rattle.tx_object.specs.Placed.object_in r.ring h)) block
    (omega (arith, closed, some_sources (Rattle.fec_plan.specs.Partition.cut_of l r.p.e r.p.b r.p.max_n) block sound))
    (sources_fit (Rattle.fec_plan.specs.Partition.cut_of l r.p.e r.p.b r.p.max_n) block sound))

pub sound_stream : (p : Settings) → InRange p → IsSound (stream_cut p.e p.b p.max_n)
sound_stream p range = record {
  some = omega (arith, range.b.0);
  least_e = range.e.0;
  most_e = range.e.1;
  least_b = range.b.0;
  most_b = range.b.1;
  max_n = range.longest;
  few = omega arith;
}

some_stream : (p : Settings) (parts : List Rattle.norm_order.specs.Entries.Part) → InRange p → HasSome p (shape_of p (Stream parts))
some_stream p parts range block lt =
    some_sent p (shape_of p (Stream parts)) block (least (shape_of p (Stream parts)).closed p.b range.b.0 lt) (sources_fit (stream_cut p.e p.b p.max_n) block (sound_stream p range))
  where
    least : (n b : ℕ) → 1 ≤ b → block < div_ceil n b → 0 < min b (n - (block * b + 0))
    least n b some few =
        let bounds = Rattle.std.proofs.lemmas.Grind.div_ceil_times n b some in
        let times : (block + 1) * b ≤ div_ceil n b * b = Rattle.std.proofs.Math.Nat.mul-le-mul_right b (let le : block + 1 ≤ div_ceil n b = omega (arith, few) in le) in
        let whole : (block + 1) * b ≡ block * b + b = omega arith in
        let less : block * b < n = omega (arith, bounds, times, whole) in
        omega (arith, less, some)

pub some_of : (r : EntryReads) (e : HeldEntry) → InRange r.p → StandsFor r e → HasSome r.p (shape_of r.p r.object)
some_of r (held.Object h) range is = some_object r h is
some_of r (held.Stream stream) range is = subst (λ (o : Object). HasSome r.p (shape_of r.p o)) (sym is.object) (some_stream r.p is.parts range)

-- ---- by the rules' law

pub next_laws : Rattle.norm_send_rules.specs.Laws.NextLaws
next_laws = Rattle.norm_send_rules.proofs.NextLemmas.next_laws

-- the entry at hand has something, or what comes behind it is next
pub at_hand : (p : Settings) (s : SenderState) (index : ℕ) (entry : Entry) (next : Option Want) → want_index s.next ≡ index → slice_get s.current.order index ≡ Some entry
    → find (is_next s.next s.current.drop) (new_of p index (shape_of p entry.object)) ≡ next
    → next_new p s ≡ (elim next as (λ v. Option Want) [ Some w ↦ Some w | None ↦ next_new p (next_at (index + 1) s) ])
at_hand p s index entry next here there is =
    next_laws.at_hand p s entry (ap (slice_get s.current.order) here ∙ there)
    ∙ ap (λ i. elim (find (is_next s.next s.current.drop) (new_of p i (shape_of p entry.object))) as (λ v. Option Want) [ Some w ↦ Some w | None ↦ next_new p (next_at (i + 1) s) ]) here
    ∙ ap (λ (r : Option Want). elim r as (λ v. Option Want) [ Some w ↦ Some w | None ↦ next_new p (next_at (index + 1) s) ]) is

pub same_next : (p : Settings) (s : SenderState) (index : ℕ) → s.next ≡ Info index → next_new p (next_at index s) ≡ next_new p s
same_next p s index is =
    ap (λ (v : Want). find (λ w. not (want_before w v) && stands_behind s.current.drop w) (new_from p (want_index v) (Rattle.norm_order.specs.Shapes.shapes_of p (drop (want_index v) s.current.order)))) (sym is)

pub info_is : (e : HeldEntry) → (Rattle.tx_window.specs.Asked.shape_kept e).info ≡ Rattle.std.specs.Prelude.is_some (Rattle.tx_window.specs.EntryPlaces.held_info e)
info_is (held.Object h) = refl
info_is (held.Stream stream) = refl

-- the entry at hand, from a symbol on
pub at_hand_symbol : (p : Settings) (s : SenderState) (from : Position) (b : ℕ) (entry : Entry) (next : Option Position) → s.next ≡ Symbol from → slice_get s.current.order from.index ≡ Some entry
    → BeginsAt s.current.drop from.index b → HasSome p (shape_of p entry.object) → IsNext p (shape_of p entry.object) (later_of from b) next
    → next_new p s ≡ (elim (option_map (λ (q : Position). Symbol q) next) as (λ v. Option Want) [ Some w ↦ Some w | None ↦ next_new p (next_at (from.index + 1) s) ])
at_hand_symbol p s from b entry next is there begins some found =
    at_hand p s from.index entry (option_map (λ (q : Position). Symbol q) next) (ap want_index is) there
    (ap (λ (v : Want). find (is_next v s.current.drop) (new_of p from.index (shape_of p entry.object))) is
    ∙ ap (λ i. find (is_next (Symbol from) s.current.drop) (new_of p i (shape_of p entry.object))) (sym (index_of from b))
    ∙ searched p (is_next (Symbol from) s.current.drop) (later_of from b) (shape_of p entry.object) next (splits_from s.current.drop from b begins) some found)
  where
    index_of : (q : Position) (n : ℕ) → (later_of q n).index ≡ q.index
    index_of q n = go (nat_lt q.block n)
      where
        go : (t : Bool) → (elim t as (λ v. Position) [ true ↦ position q.index n 0 | false ↦ q ]).index ≡ q.index
        go true = refl
        go false = refl
