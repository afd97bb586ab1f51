-- A stream that is cut keeps its size: the segment that the cut closes was counted already, and it writes nothing.
use Rattle.std.proofs.Common.{◌≡◌, ℕ, zero, suc, ◌+◌, ◌*◌, ◌/◌, ◌%◌, ◌≤◌, List, [], ◌∷◌, ◌++◌, length, drop, Bool, true, false, refl, sym, ap, ◌∙◌, arith}
use Rattle.std.specs.Prelude.{min, nat_lt, ◌||◌}
use Rattle.std.specs.Int.{div_ceil}
use Rattle.std.specs.List.{AllByRecursion}
use Rattle.std.proofs.Math.Nat.{zero-mod, zero-div}
use Rattle.std.proofs.lemmas.List.{append-nil, length-append}
use Rattle.norm_base.specs.Settings.{Settings}
use Rattle.norm_order.specs.Entries.{Part, Write, Cut, End, Stream, Entry}
use Rattle.norm_order.specs.Segments.{pieces, full_pieces, all_pieces, closed_from, since_cut, written, has_end}
use Rattle.norm_send_rules.specs.Streaming.{used_segments, is_spent}
use Rattle.norm_safety.proofs.EntryLemmas.{clash}
use Rattle.norm_safety.proofs.SizedOrders.{IsOfOctets, IsSized, AreSized, not_less}
use Rattle.norm_safety.proofs.WrittenLemmas.{written_append}

pieces_many : (e n : ℕ) (octets : List ℕ) → length (pieces e n octets) ≡ n
unfolding pieces
pieces_many e zero octets = refl
pieces_many e (suc n) octets = ap suc (pieces_many e n (drop e octets))

-- the segments that a stream takes room for, from octets since its last cut on
abbrev used_from : ℕ → List ℕ → List Part → ℕ
used_from e since parts = length (closed_from e since parts) + min 1 (length (since_cut since parts) % e)

cut_used : (e : ℕ) (since : List ℕ) (parts : List Part) → has_end parts ≡ false → used_from e since (parts ++ Cut ∷ []) ≤ used_from e since parts
unfolding closed_from since_cut has_end
cut_used e since [] unended =
    let all = pieces_many e (div_ceil (length since) e) since in
    let full = pieces_many e (length since / e) since in
    let none = pieces_many e (0 / e) [] in
    let no_blocks : 0 / e ≡ 0 = zero-div e in
    let nothing : 0 % e ≡ 0 = zero-mod e in
    let more = length-append (all_pieces e since) (full_pieces e []) in
    omega (arith, all, full, none, no_blocks, nothing, more)
cut_used e since (Write by octets ∷ parts) unended = cut_used e (since ++ octets) parts unended
cut_used e since (Cut ∷ parts) unended =
    let h = cut_used e [] parts unended in
    let before = length-append (all_pieces e since) (closed_from e [] parts) in
    let after = length-append (all_pieces e since) (closed_from e [] (parts ++ Cut ∷ [])) in
    omega (arith, h, before, after)
cut_used e since (End ∷ parts) unended = absurd (clash (sym unended))

parts_more : (parts : List Part) (part : Part) → IsOfOctets part → AllByRecursion IsOfOctets parts → AllByRecursion IsOfOctets (parts ++ part ∷ [])
parts_more [] part h all = (h, tt)
parts_more (x ∷ parts) part h all = (all.0, parts_more parts part h all.1)

-- a stream that is cut
pub cut_sized : (p : Settings) (parts : List Part) → has_end parts ≡ false → IsSized p (Stream parts) → IsSized p (Stream (parts ++ Cut ∷ []))
unfolding written
cut_sized p parts unended sized =
    let fewer = cut_used p.e [] parts unended in
    let most = sized.0 in
    let same = ap (λ (xs : List ℕ). length xs) (written_append parts (Cut ∷ []) ∙ append-nil (written parts)) in
    let long = sized.1 in
    (omega (arith, fewer, most), omega (arith, same, long), parts_more parts Cut tt sized.2)

-- a stream that is not spent
pub unspent_sized : (p : Settings) (parts : List Part) (part : Part) → IsOfOctets part → is_spent p (parts ++ part ∷ []) ≡ false → IsSized p (Stream parts)
    → IsSized p (Stream (parts ++ part ∷ []))
unspent_sized p parts part octets e sized =
    let both = neither (nat_lt 4294967295 (length (written (parts ++ part ∷ [])))) (nat_lt (16777216 * p.b) (used_segments p (parts ++ part ∷ []))) e in (
      not_less (16777216 * p.b) (used_segments p (parts ++ part ∷ [])) both.1,
      not_less 4294967295 (length (written (parts ++ part ∷ []))) both.0,
      parts_more parts part octets sized.2,
    )
  where
    neither : (a b : Bool) → (a || b) ≡ false → (a ≡ false) × (b ≡ false)
    neither true b e = absurd (clash (sym e))
    neither false b e = (refl, e)

-- the last entry's size, and another one in its place
pub last_sized : (p : Settings) (front : List Entry) (last : Entry) → AreSized p (front ++ last ∷ []) → IsSized p last.object
last_sized p [] last all = all.0
last_sized p (x ∷ front) last all = last_sized p front last all.1

pub with_last_sized : (p : Settings) (front : List Entry) (last now : Entry) → IsSized p now.object → AreSized p (front ++ last ∷ []) → AreSized p (front ++ now ∷ [])
with_last_sized p [] last now h all = (h, tt)
with_last_sized p (x ∷ front) last now h all = (all.0, with_last_sized p front last now h all.1)
