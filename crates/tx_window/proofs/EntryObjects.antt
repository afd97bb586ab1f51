-- An object of the window, in the words of the rules.
use Rattle.std.proofs.Common.{◌≡◌, ℕ, ◌+◌, ◌-◌, ◌<◌, ◌≤◌, ◌⊎◌, inl, inr, Bool, true, false, refl, sym, ap, ◌∙◌, subst, arith, Option, Some, None, List, length, take, map}
use Rattle.std.specs.Prelude.{min, nat_lt, is_none, is_some, not, slice_set, ◌&&◌, ◌||◌, ◌==◌}
use Rattle.std.specs.List.{list_all}
use Rattle.std.proofs.lemmas.Bool.{cases_lt, lt-ltb, le-ltb}
use Rattle.std.proofs.lemmas.List.Folds.{list_all-map}
use Rattle.norm_base.specs.Settings.{Settings}
use Rattle.norm_base.specs.declared.kinds.Kind.{Kind}
use Rattle.fec_plan.specs.Partition.{Cut, IsSound, cut_of, blocks, source_symbols, all_symbols, symbol_number}
use Rattle.fec_plan.specs.Points.{Position, position, position_before}
use Rattle.fec_plan.proofs.PartitionLemmas.{sources_within}
use Rattle.norm_order.specs.Entries.{Object, Whole}
use Rattle.norm_order.specs.Sets.{is_member, with_member}
use Rattle.norm_order.specs.Shapes.{shape_of, sources_in, closed_in, closed_blocks, is_full}
use Rattle.norm_order.proofs.SetLemmas.{self_in, others_in, positions, numbers}
use Rattle.norm_send_rules.specs.SenderState.{SenderState}
use Rattle.norm_send_rules.specs.Room.{all_sent}
use Rattle.norm_send_rules.specs.Sending.{sent_once}
use Rattle.tx_object.specs.Held.{HeldObject, octets_of, octets_in, with_sent}
use Rattle.tx_object.specs.Placed.{object_in}
use Rattle.tx_object.specs.NextIn.{once, IsNextIn}
use Rattle.tx_object.proofs.HeldLemmas.{taken, refused}
use Rattle.tx_object.proofs.SourcesLemmas.{source_at, source_found}
use Rattle.tx_object.proofs.MarkedLemmas.{map_same, map_one, same_cut, same_start, same_info, placed_as}
use Rattle.tx_window.specs.EntryState.{EntryReads, IsObject, reads_of}
use Rattle.tx_window.specs.EntryAsked.{is_sent, IsNext}

-- ---- what was sent

swapped : (a b : Bool) → (a && b) ≡ (b && a)
swapped true true = refl
swapped true false = refl
swapped false true = refl
swapped false false = refl

none_is : (info : Option (List ℕ)) → is_none info ≡ not (is_some info)
none_is None = refl
none_is (Some octets) = refl

pub object_sent : (ring : List ℕ) (p : Settings) (index : ℕ) (object : Object) (s : SenderState) (h : HeldObject) → IsObject (reads_of ring p index object s) h
    → ((is_none h.info || h.info_sent) && list_all (λ b. b) h.sent) ≡ is_sent s index (shape_of p object)
object_sent ring p index object s h is =
    swapped (is_none h.info || h.info_sent) (list_all (λ b. b) h.sent)
    ∙ ap (λ (bs : List Bool). list_all (λ b. b) bs && (is_none h.info || h.info_sent)) is.symbols
    ∙ ap (λ b. b && (is_none h.info || h.info_sent)) (list_all-map (λ b. b) (λ at. is_member position_before at s.sent) (sources_in index (shape_of p object)))
    ∙ ap (λ b. all_sent s (sources_in index (shape_of p object)) && (b || h.info_sent)) (none_is h.info)
    ∙ ap (λ b. all_sent s (sources_in index (shape_of p object)) && (not (is_some h.info) || b)) is.info
    ∙ ap (λ (o : Object). all_sent s (sources_in index (shape_of p object)) && (not (shape_of p o).info || is_member nat_lt index s.sent_infos)) (sym is.object)

-- where it may not go yet
pub held_back : (sent released asked : Bool) → asked ≡ released → asked ≡ false → false ≡ (sent && released)
held_back true released asked same is = sym (sym same ∙ is)
held_back false released asked same is = refl

pub lets_go : (answer sent released asked : Bool) → answer ≡ sent → asked ≡ released → asked ≡ true → answer ≡ (sent && released)
lets_go answer true released asked e same is = e ∙ sym (sym same ∙ is)
lets_go answer false released asked e same is = e

-- ---- what is new next

pub closed_here : (p : Settings) (kind : Kind) (info : Option (List ℕ)) (octets : List ℕ) (block : ℕ) → IsSound (cut_of (length octets) p.e p.b p.max_n)
    → block < blocks (cut_of (length octets) p.e p.b p.max_n)
    → closed_in (shape_of p (Whole kind info octets)) block ≡ source_symbols (cut_of (length octets) p.e p.b p.max_n) block
closed_here p kind info octets block sound there =
    let c : Cut = cut_of (length octets) p.e p.b p.max_n in
    full (source_symbols c block) (all_symbols c) (symbol_number c block 0) (sources_within c block sound refl there)
  where
    full : (size all first : ℕ) → first + size ≤ all → min size (all - first) ≡ size
    full size all first le = omega arith

pub same_eqb : (n m : ℕ) → n ≡ m → (n == m) ≡ true
same_eqb n m e = grind (arith, e)

once_is : (r : EntryReads) (h : HeldObject) (block : ℕ) → IsObject r h → block < blocks h.cut → sent_once r.p (shape_of r.p r.object) block ≡ once r.p.auto h.cut block
once_is r h block is lt =
    ap (λ (o : Object). sent_once r.p (shape_of r.p o) block) is.object
    ∙ taken (is_full (shape_of r.p (object_in r.ring h)) block) _ _ (same_eqb (closed_in (shape_of r.p (object_in r.ring h)) block) (source_symbols (shape_of r.p (object_in r.ring h)).cut block)
    (closed_here r.p h.kind h.info (take (octets_of h.cut) (octets_in r.ring h)) block (subst IsSound is.placed.holds.cut is.placed.sound)
    (subst (λ (c : Cut). block < blocks c) is.placed.holds.cut lt)))
    ∙ ap (λ (c : Cut). once r.p.auto c block) (sym is.placed.holds.cut)

blocks_are : (r : EntryReads) (h : HeldObject) → IsObject r h → closed_blocks (shape_of r.p r.object) ≡ blocks h.cut
blocks_are r h is = ap (λ (o : Object). closed_blocks (shape_of r.p o)) is.object ∙ ap blocks (sym is.placed.holds.cut)

pub object_next : (r : EntryReads) (h : HeldObject) (at : Position) (next : Option Position) → IsObject r h → IsNextIn r.p.auto h.cut at next → IsNext r.p (shape_of r.p r.object) at next
object_next r h at None is found = (omega (arith, found.0, blocks_are r h is), go found.1 (cases_lt at.block (blocks h.cut)))
  where
    go : (blocks h.cut ≤ at.block) ⊎ (once r.p.auto h.cut at.block ≤ at.symbol) → (at.block < blocks h.cut) ⊎ (blocks h.cut ≤ at.block)
        → (closed_blocks (shape_of r.p r.object) ≤ at.block) ⊎ (sent_once r.p (shape_of r.p r.object) at.block ≤ at.symbol)
    go (inl le) any = inl (omega (arith, le, blocks_are r h is))
    go (inr past) (inl lt) = inr (omega (arith, past, once_is r h at.block is lt))
    go (inr past) (inr le) = inl (omega (arith, le, blocks_are r h is))
object_next r h at (Some next) is (inl found) = inl (found.0, omega (arith, found.1, blocks_are r h is), omega (arith, found.2, once_is r h at.block is found.1))
object_next r h at (Some next) is (inr found) =
    inr (found.0, omega (arith, found.1, blocks_are r h is), omega (arith, found.2, once_is r h at.block is (omega (arith, found.1))))

-- ---- as it is sent

pub object_noted : (r : EntryReads) (h : HeldObject) (block symbol : ℕ) → IsObject r h → block < blocks h.cut
    → IsObject (record r { sent = with_member position_before (position r.index block symbol) r.sent }) (with_sent h block symbol)
object_noted r h block symbol is there = record {
  placed = placed_as r.ring r.p h (with_sent h block symbol) (same_cut h block symbol) (same_start h block symbol) (same_info h block symbol) is.placed;
  object = is.object ∙ same_object (nat_lt symbol (source_symbols h.cut block));
  symbols = go (cases_lt symbol (source_symbols h.cut block));
  info = is_info (nat_lt symbol (source_symbols h.cut block));
}
  where
    at : Position
    at = position r.index block symbol

    marked : HeldObject
    marked = record h { sent = slice_set h.sent (symbol_number h.cut block symbol) true }

    l : ℕ
    l = length (take (octets_of h.cut) (octets_in r.ring h))

    cut : h.cut ≡ cut_of l r.p.e r.p.b r.p.max_n
    cut = is.placed.holds.cut

    sound : IsSound (cut_of l r.p.e r.p.b r.p.max_n)
    sound = subst IsSound cut is.placed.sound

    before : Position → Bool
    before q = is_member position_before q r.sent

    after : Position → Bool
    after q = is_member position_before q (with_member position_before at r.sent)

    same_object : (b : Bool) → object_in r.ring h ≡ object_in r.ring (elim b as (λ v. HeldObject) [ true ↦ marked | false ↦ h ])
    same_object true = refl
    same_object false = refl

    is_info : (b : Bool) → (elim b as (λ v. HeldObject) [ true ↦ marked | false ↦ h ]).info_sent ≡ is_member nat_lt r.index r.infos
    is_info true = is.info
    is_info false = is.info

    known : h.sent ≡ map before (sources_in r.index (shape_of r.p (object_in r.ring h)))
    known = is.symbols ∙ ap (λ (o : Object). map before (sources_in r.index (shape_of r.p o))) is.object

    source : symbol < source_symbols h.cut block → marked.sent ≡ map after (sources_in r.index (shape_of r.p (object_in r.ring h)))
    source lt =
        ap (λ (k : Cut). slice_set h.sent (symbol_number k block symbol) true) cut
        ∙ ap (λ bs. slice_set bs (symbol_number (cut_of l r.p.e r.p.b r.p.max_n) block symbol) true) known
        ∙ sym (map_one before after (sources_in r.index (shape_of r.p (object_in r.ring h))) (symbol_number (cut_of l r.p.e r.p.b r.p.max_n) block symbol) at
        (source_found r.index l r.p.e r.p.b r.p.max_n (is_some h.info) block symbol sound
        (subst (λ (k : Cut). block < blocks k) cut there) (subst (λ (k : Cut). symbol < source_symbols k block) cut lt))
        (self_in position_before at r.sent positions)
        (λ k q e apart. others_in position_before q at r.sent positions (λ same. apart (sym (source_at r.index l r.p.e r.p.b r.p.max_n (is_some h.info) k q sound e).0.1
        ∙ ap (λ (y : Position). symbol_number (cut_of l r.p.e r.p.b r.p.max_n) y.block y.symbol) same))))

    parity : source_symbols h.cut block ≤ symbol → h.sent ≡ map after (sources_in r.index (shape_of r.p (object_in r.ring h)))
    parity le = known ∙ sym (map_same before after (sources_in r.index (shape_of r.p (object_in r.ring h)))
        (λ k q e. others_in position_before q at r.sent positions (λ same. far q same (source_at r.index l r.p.e r.p.b r.p.max_n (is_some h.info) k q sound e).1 (ap (λ (c : Cut). source_symbols c block) cut) le)))
      where
        far : (q : Position) → q ≡ at → q.symbol < source_symbols (cut_of l r.p.e r.p.b r.p.max_n) q.block
            → source_symbols h.cut block ≡ source_symbols (cut_of l r.p.e r.p.b r.p.max_n) block → source_symbols h.cut block ≤ symbol → ⊥
        far q same less is ge =
            let here : symbol < source_symbols (cut_of l r.p.e r.p.b r.p.max_n) block = subst (λ (y : Position). y.symbol < source_symbols (cut_of l r.p.e r.p.b r.p.max_n) y.block) same less in
            omega (arith, here, is, ge)

    now : (k : HeldObject) → k.sent ≡ map after (sources_in r.index (shape_of r.p (object_in r.ring h))) → k.sent ≡ map after (sources_in r.index (shape_of r.p r.object))
    now k e = e ∙ ap (λ (o : Object). map after (sources_in r.index (shape_of r.p o))) (sym is.object)

    go : (symbol < source_symbols h.cut block) ⊎ (source_symbols h.cut block ≤ symbol) → (with_sent h block symbol).sent ≡ map after (sources_in r.index (shape_of r.p r.object))
    go (inl lt) = ap (λ (k : HeldObject). k.sent) (taken (nat_lt symbol (source_symbols h.cut block)) marked h (lt-ltb symbol (source_symbols h.cut block) lt)) ∙ now marked (source lt)
    go (inr le) = ap (λ (k : HeldObject). k.sent) (refused (nat_lt symbol (source_symbols h.cut block)) marked h (le-ltb symbol (source_symbols h.cut block) le)) ∙ now h (parity le)

pub info_noted : (r : EntryReads) (h k : HeldObject) → IsObject r h → k ≡ record h { info_sent = true } → IsObject (record r { infos = with_member nat_lt r.index r.infos }) k
info_noted r h k is same = subst (IsObject (record r { infos = with_member nat_lt r.index r.infos })) (sym same) (record {
  placed = placed_as r.ring r.p h (record h { info_sent = true }) refl refl refl is.placed;
  object = is.object;
  symbols = is.symbols;
  info = sym (self_in nat_lt r.index r.infos numbers);
})
