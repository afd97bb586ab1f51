-- What the calls do to the streams for which a buffer stands.
use Rattle.std.proofs.Common.{◌≡◌, ℕ, zero, suc, ◌+◌, ◌-◌, ◌*◌, ◌/◌, ◌%◌, ◌<◌, ◌≤◌, List, [], ◌∷◌, ◌++◌, length, drop, map, Bool, true, false, refl, sym, ap, subst, ◌∙◌, arith, append-nil, length-append, length-drop}
use Rattle.std.specs.Prelude.{min}
use Rattle.std.specs.Int.{div_ceil}
use Rattle.std.proofs.lemmas.List.{drop-append-le, drop-drop, drop-map, map-append, length-map}
use Rattle.std.proofs.Math.Nat.{mod-add-mod, zero-mod}
use Rattle.norm_base.specs.Settings.{Settings}
use Rattle.norm_base.specs.declared.node.Origin.{Origin}
use Rattle.fec_plan.specs.Partition.{Cut}
use Rattle.norm_order.specs.Entries.{Part, Write, Cut as CutHere, End, Stream}
use Rattle.norm_order.specs.Segments.{Segment, segments, closed_from, full_pieces, all_pieces, placed, written, since_cut, unclosed, has_end}
use Rattle.norm_order.specs.Shapes.{shape_of}
use Rattle.norm_order.proofs.StreamLemmas.{length-placed}
use Rattle.norm_send_rules.specs.Streaming.{used_segments}
use Rattle.stream_buffer.specs.StreamState.{StreamState, StandsFor, coded, closed_segments, behind_full, open_octets, with_cut}
use Rattle.stream_buffer.specs.StreamMoves.{with_octets, cut_here, ended_here, from_block}
use Rattle.stream_buffer.proofs.MovesLemmas.{cut_none}
use Rattle.stream_buffer.proofs.CuttingLemmas.{length-behind, length-pieces, short_all, none_behind, behind-more, since-more, written-more, end-more, segments_more, closed-write, closed-cut, closed-end, since-write, since-cut, since-end, written-write, written-cut, written-end, end-write, end-cut, end-end}

-- what joins the rows of an open stream
joined_rows : (p : Settings) (parts more : List Part) (s : StreamState) (closed : List (List ℕ)) → StandsFor p parts s → 0 < p.e → has_end parts ≡ false
    → closed_from p.e s.filling more ≡ closed
    → s.rows ++ map (coded s.cut.e) (placed (s.octets - length s.filling) closed) ≡ map (coded p.e) (drop (s.first * p.b) (segments p.e (parts ++ more)))
joined_rows p parts more s closed st some unended is =
    ap (λ rows. rows ++ map (coded s.cut.e) (placed (s.octets - length s.filling) closed)) st.rows
    ∙ ap (λ (c : Cut). old ++ map (coded c.e) (placed (s.octets - length s.filling) closed)) st.cut
    ∙ ap (λ n. old ++ map (coded p.e) (placed (n - length s.filling) closed)) st.octets
    ∙ ap (λ (xs : List ℕ). old ++ map (coded p.e) (placed (length (written parts) - length xs) closed)) st.filling
    ∙ ap (λ lists. old ++ map (coded p.e) (placed (length (written parts) - length (open_octets p.e parts)) lists))
    (sym is ∙ ap (λ (xs : List ℕ). closed_from p.e xs more) st.filling)
    ∙ sym (map-append (coded p.e) (drop (s.first * p.b) (segments p.e parts)) new)
    ∙ ap (map (coded p.e)) (sym (drop-append-le (s.first * p.b) (segments p.e parts) new st.within))
    ∙ ap (λ (all : List Segment). map (coded p.e) (drop (s.first * p.b) all)) (sym (segments_more p.e parts more some unended))
  where
    old : List (List ℕ)
    old = map (coded p.e) (drop (s.first * p.b) (segments p.e parts))

    new : List Segment
    new = placed (length (written parts) - length (open_octets p.e parts)) (closed_from p.e (open_octets p.e parts) more)

more_segments : (p : Settings) (parts more : List Part) → 0 < p.e → has_end parts ≡ false → length (segments p.e parts) ≤ length (segments p.e (parts ++ more))
more_segments p parts more some unended =
    omega (
      arith,
      ap length (segments_more p.e parts more some unended),
      length-append (segments p.e parts) (placed (length (written parts) - length (open_octets p.e parts)) (closed_from p.e (open_octets p.e parts) more)),
    )

-- octets that are written
pub wrote_stands : (p : Settings) (parts : List Part) (by : Origin) (octets : List ℕ) (s : StreamState) → StandsFor p parts s → 0 < p.e → has_end parts ≡ false
    → StandsFor p (parts ++ Write by octets ∷ []) (with_octets octets s)
wrote_stands p parts by octets s st some unended = record {
  cut = st.cut;
  blocks = st.blocks;
  within = omega (arith, st.within, more_segments p parts more some unended);
  rows = ap (λ e. s.rows ++ map (coded s.cut.e) (placed (s.octets - length s.filling) (full_pieces e (s.filling ++ octets)))) e-is
      ∙ joined_rows p parts more s (full_pieces p.e (s.filling ++ octets)) st some unended (closed-write p.e s.filling by octets);
  filling =
      ap (λ e. behind_full e (s.filling ++ octets)) e-is
      ∙ ap (λ (xs : List ℕ). behind_full p.e (xs ++ octets)) st.filling
      ∙ sym (behind-more p.e (since_cut [] parts) octets some)
      ∙ ap (behind_full p.e) (sym (since-more [] parts more ∙ since-write (since_cut [] parts) by octets));
  octets =
      ap (λ n. n + length octets) st.octets
      ∙ sym (ap length (written-more parts more ∙ ap (λ xs. written parts ++ xs) (written-write by octets)) ∙ length-append (written parts) octets);
  ended = st.ended ∙ unended ∙ sym (end-more parts more unended ∙ end-write by octets);
}
  where
    more : List Part
    more = Write by octets ∷ []

    e-is : s.cut.e ≡ p.e
    e-is = ap (λ (c : Cut). c.e) st.cut

-- the stream is cut
pub cut_stands : (p : Settings) (parts : List Part) (s : StreamState) → StandsFor p parts s → 0 < p.e → has_end parts ≡ false
    → StandsFor p (parts ++ CutHere ∷ []) (cut_here s)
cut_stands p parts s st some unended = record {
  cut = st.cut;
  blocks = st.blocks;
  within = omega (arith, st.within, more_segments p parts (CutHere ∷ []) some unended);
  rows = ap (λ e. s.rows ++ map (coded s.cut.e) (placed (s.octets - length s.filling) (all_pieces e s.filling))) e-is
      ∙ joined_rows p parts (CutHere ∷ []) s (all_pieces p.e s.filling) st some unended (closed-cut p.e s.filling some);
  filling = sym (ap (behind_full p.e) (since-more [] parts (CutHere ∷ []) ∙ since-cut (since_cut [] parts)) ∙ none_behind p.e);
  octets = st.octets ∙ sym (ap length (written-more parts (CutHere ∷ []) ∙ ap (λ xs. written parts ++ xs) written-cut ∙ append-nil (written parts)));
  ended = st.ended ∙ unended ∙ sym (end-more parts (CutHere ∷ []) unended ∙ end-cut);
}
  where
    e-is : s.cut.e ≡ p.e
    e-is = ap (λ (c : Cut). c.e) st.cut

-- the stream ends
pub ended_stands : (p : Settings) (parts : List Part) (s : StreamState) → StandsFor p parts s → 0 < p.e → has_end parts ≡ false
    → StandsFor p (parts ++ End ∷ []) (ended_here s)
ended_stands p parts s st some unended = record {
  cut = st.cut;
  blocks = st.blocks;
  within = omega (arith, st.within, more_segments p parts (End ∷ []) some unended);
  rows = ap (λ e. s.rows ++ map (coded s.cut.e) (placed (s.octets - length s.filling) (all_pieces e s.filling ++ [] ∷ []))) e-is
      ∙ joined_rows p parts (End ∷ []) s (all_pieces p.e s.filling ++ [] ∷ []) st some unended (closed-end p.e s.filling);
  filling = sym (ap (behind_full p.e) (since-more [] parts (End ∷ []) ∙ since-end (since_cut [] parts)) ∙ none_behind p.e);
  octets = st.octets ∙ sym (ap length (written-more parts (End ∷ []) ∙ ap (λ xs. written parts ++ xs) written-end ∙ append-nil (written parts)));
  ended = sym (end-more parts (End ∷ []) unended ∙ end-end);
}
  where
    e-is : s.cut.e ≡ p.e
    e-is = ap (λ (c : Cut). c.e) st.cut

-- how many segments are closed
pub closed_is : (p : Settings) (parts : List Part) (s : StreamState) → StandsFor p parts s → closed_segments s ≡ length (segments p.e parts)
closed_is p parts s st =
    let b-is : s.cut.b ≡ p.b = ap (λ (c : Cut). c.b) st.cut in
    let from : s.first * s.cut.b ≡ s.first * p.b = ap (λ b. s.first * b) b-is in
    omega (
      arith,
      from,
      st.within,
      ap length st.rows,
      length-map (drop (s.first * p.b) (segments p.e parts)) (coded p.e),
      length-drop (s.first * p.b) (segments p.e parts),
    )

-- blocks are given up
pub given_up_stands : (p : Settings) (parts : List Part) (s : StreamState) (first : ℕ) → StandsFor p parts s → s.first * s.cut.b ≤ first * s.cut.b
    → first * s.cut.b ≤ closed_segments s → StandsFor p parts (from_block first s)
given_up_stands p parts s first st le to = record {
  cut = st.cut;
  blocks = st.blocks;
  within = within;
  rows =
      ap (λ (c : Cut). drop (first * c.b - s.first * c.b) s.rows) st.cut
      ∙ ap (drop (first * p.b - s.first * p.b)) st.rows
      ∙ drop-map (coded p.e) (first * p.b - s.first * p.b) (drop (s.first * p.b) (segments p.e parts))
      ∙ ap (map (coded p.e)) (drop-drop (first * p.b - s.first * p.b) (s.first * p.b) (segments p.e parts))
      ∙ ap (λ n. map (coded p.e) (drop n (segments p.e parts))) (let same : s.first * p.b + (first * p.b - s.first * p.b) ≡ first * p.b = omega (arith, from, to_first, le) in same);
  filling = st.filling;
  octets = st.octets;
  ended = st.ended;
}
  where
    b-is : s.cut.b ≡ p.b
    b-is = ap (λ (c : Cut). c.b) st.cut

    from : s.first * s.cut.b ≡ s.first * p.b
    from = ap (λ b. s.first * b) b-is

    to_first : first * s.cut.b ≡ first * p.b
    to_first = ap (λ b. first * b) b-is

    within : first * p.b ≤ length (segments p.e parts)
    within = omega (arith, to_first, to, closed_is p parts s st)

-- ---- how many segments need room

length-segments : (e : ℕ) (parts : List Part) → length (segments e parts) ≡ length (closed_from e [] parts)
length-segments e parts = length-placed 0 (closed_from e [] parts)

used_more : (p : Settings) (parts more : List Part) (s : StreamState) (closed : List (List ℕ)) → StandsFor p parts s → 0 < p.e → has_end parts ≡ false
    → closed_from p.e s.filling more ≡ closed
    → length (closed_from p.e [] (parts ++ more)) ≡ closed_segments s + length closed
used_more p parts more s closed st some unended is =
    sym (length-segments p.e (parts ++ more))
    ∙ ap length (segments_more p.e parts more some unended)
    ∙ length-append (segments p.e parts) (placed (length (written parts) - length (open_octets p.e parts)) (closed_from p.e (open_octets p.e parts) more))
    ∙ ap (λ n. length (segments p.e parts) + n) (length-placed (length (written parts) - length (open_octets p.e parts)) (closed_from p.e (open_octets p.e parts) more))
    ∙ ap (λ n. n + length (closed_from p.e (open_octets p.e parts) more)) (sym (closed_is p parts s st))
    ∙ ap (λ (xs : List ℕ). closed_segments s + length (closed_from p.e xs more)) (sym st.filling)
    ∙ ap (λ (lists : List (List ℕ)). closed_segments s + length lists) is

pub used_written : (p : Settings) (parts : List Part) (by : Origin) (octets : List ℕ) (s : StreamState) → StandsFor p parts s → 0 < p.e → has_end parts ≡ false
    → used_segments p (parts ++ Write by octets ∷ []) ≡ closed_segments s + div_ceil (length s.filling + length octets) s.cut.e
used_written p parts by octets s st some unended =
    ap (λ n. n + min 1 (unclosed p.e (parts ++ Write by octets ∷ []))) (used_more p parts (Write by octets ∷ []) s (full_pieces p.e (s.filling ++ octets)) st some unended (closed-write p.e s.filling by octets))
    ∙ ap (λ n. closed_segments s + n + min 1 (unclosed p.e (parts ++ Write by octets ∷ []))) (length-pieces p.e (length (s.filling ++ octets) / p.e) (s.filling ++ octets) ∙ ap (λ n. n / p.e) (length-append s.filling octets))
    ∙ ap (λ n. closed_segments s + (length s.filling + length octets) / p.e + min 1 n) left
    ∙ (let same : closed_segments s + (length s.filling + length octets) / p.e + min 1 ((length s.filling + length octets) % p.e) ≡ closed_segments s + div_ceil (length s.filling + length octets) p.e = omega arith in same)
    ∙ ap (λ e. closed_segments s + div_ceil (length s.filling + length octets) e) (sym (ap (λ (c : Cut). c.e) st.cut))
  where
    left : unclosed p.e (parts ++ Write by octets ∷ []) ≡ (length s.filling + length octets) % p.e
    left =
        ap (λ (xs : List ℕ). length xs % p.e) (since-more [] parts (Write by octets ∷ []) ∙ since-write (since_cut [] parts) by octets)
        ∙ ap (λ n. n % p.e) (length-append (since_cut [] parts) octets)
        ∙ sym (mod-add-mod (length (since_cut [] parts)) p.e (length octets))
        ∙ ap (λ n. (n + length octets) % p.e) (sym (ap length st.filling ∙ length-behind p.e (since_cut [] parts)))

pub used_ended : (p : Settings) (parts : List Part) (s : StreamState) → StandsFor p parts s → 0 < p.e → has_end parts ≡ false → length s.filling < p.e
    → used_segments p (parts ++ End ∷ []) ≡ closed_segments s + min 1 (length s.filling) + 1
used_ended p parts s st some unended short =
    ap (λ n. n + min 1 (unclosed p.e (parts ++ End ∷ []))) (used_more p parts (End ∷ []) s (all_pieces p.e s.filling ++ [] ∷ []) st some unended (closed-end p.e s.filling))
    ∙ ap (λ n. closed_segments s + length (all_pieces p.e s.filling ++ [] ∷ []) + min 1 n) left
    ∙ (let same : closed_segments s + length (all_pieces p.e s.filling ++ [] ∷ []) + min 1 0 ≡ closed_segments s + min 1 (length s.filling) + 1 =
    omega (
      arith,
      length-append (all_pieces p.e s.filling) ([] ∷ []),
      length-pieces p.e (div_ceil (length s.filling) p.e) s.filling,
      short_all p.e s.filling short,
    ) in same)
  where
    left : unclosed p.e (parts ++ End ∷ []) ≡ 0
    left =
        ap (λ (xs : List ℕ). length xs % p.e) (since-more [] parts (End ∷ []) ∙ since-end (since_cut [] parts))
        ∙ zero-mod p.e

-- the stream is cut where its open segment holds octets
pub cut_with : (p : Settings) (parts : List Part) (s : StreamState) → StandsFor p parts s → 0 < p.e → 0 < s.cut.e → (s.ended ≡ true → s.filling ≡ [])
    → StandsFor p (with_cut p.e parts) (cut_here s)
cut_with p parts s st some some_e closed = go (unclosed p.e parts) refl
  where
    long : length s.filling ≡ unclosed p.e parts
    long = ap length st.filling ∙ length-behind p.e (since_cut [] parts)

    go : (n : ℕ) → unclosed p.e parts ≡ n → StandsFor p (elim n as (λ m. List Part) [ zero ↦ parts | suc m ↦ parts ++ CutHere ∷ [] ]) (cut_here s)
    go zero is = subst (StandsFor p parts) (cut_none s some_e (long ∙ is)) st
    go (suc n) is = cut_stands p parts s st some (unended (has_end parts) refl)
      where
        unended : (b : Bool) → has_end parts ≡ b → b ≡ false
        unended false e = refl
        unended true e = absurd (let none = ap length (closed (st.ended ∙ e)) in omega (arith, none, long, is))

-- how many segments are closed of it then
pub closed_cut : (p : Settings) (parts : List Part) (s : StreamState) → StandsFor p parts s → 0 < p.e → length s.filling < p.e → (s.ended ≡ true → s.filling ≡ [])
    → closed_segments s + min 1 (length s.filling) ≡ (shape_of p (Stream (with_cut p.e parts))).closed
closed_cut p parts s st some short closed =
    (let same : closed_segments s + min 1 (length s.filling) ≡ closed_segments (cut_here s) = omega (
      arith,
      length-append s.rows (map (coded s.cut.e) new),
      length-map new (coded s.cut.e),
      length-placed (s.octets - length s.filling) (all_pieces s.cut.e s.filling),
      length-pieces s.cut.e (div_ceil (length s.filling) s.cut.e) s.filling,
      short_all s.cut.e s.filling (omega (arith, e-is, short)),
    ) in same)
    ∙ closed_is p (with_cut p.e parts) (cut_here s) (cut_with p parts s st some (omega (arith, e-is, some)) closed)
    ∙ length-placed 0 (closed_from p.e [] (with_cut p.e parts))
  where
    e-is : s.cut.e ≡ p.e
    e-is = ap (λ (k : Cut). k.e) st.cut

    new : List Segment
    new = placed (s.octets - length s.filling) (all_pieces s.cut.e s.filling)
