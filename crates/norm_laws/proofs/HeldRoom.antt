-- What a sender keeps in its window is within its profile: so many objects, so many octets, and of each stream so many blocks.
use Rattle.std.proofs.Common.{◌≡◌, ℕ, zero, suc, ◌+◌, ◌-◌, ◌*◌, ◌/◌, ◌%◌, ◌<◌, ◌≤◌, List, [], ◌∷◌, ◌++◌, length, drop, map, Bool, true, false, Option, None, Some, refl, sym, ap, ◌∙◌, subst, arith, ◌⊎◌, inl, inr}
use Rattle.std.specs.Prelude.{slice_get, sum, fold, min, nat_lt, nat_le, is_none, is_some, unwrap_or, ◌&&◌}
use Rattle.std.specs.Int.{div_ceil}
use Rattle.std.proofs.Math.Nat.{mul-le-mul_right, zero-mod, zero-div}
use Rattle.std.proofs.lemmas.Bool.Decides.{Decides-ltb, leb_tells}
use Rattle.std.proofs.lemmas.Grind.{div_ceil_times}
use Rattle.std.proofs.lemmas.List.{length-append, length-drop, drop-append-le}
use Rattle.norm_base.specs.Settings.{Settings, InRange}
use Rattle.norm_base.specs.declared.node.Origin.{Origin}
use Rattle.fec_plan.specs.Points.{Point, point}
use Rattle.norm_order.specs.Entries.{Part, Write, Cut, End, Object, Stream, Entry}
use Rattle.norm_order.specs.Segments.{pieces, full_pieces, all_pieces, closed_from, since_cut, unclosed, has_end}
use Rattle.norm_order.proofs.UptoLemmas.{nothing_there, found_front}
use Rattle.norm_order.proofs.GoingOnLemmas.{before_or_last}
use Rattle.norm_send_rules.specs.SenderState.{SenderState, Instance, sender_opening}
use Rattle.norm_send_rules.specs.InWindow.{last_index}
use Rattle.norm_send_rules.specs.Room.{size_of, window, has_room, has_to_go, drop_after, first_kept, least_kept}
use Rattle.norm_send_rules.specs.Enqueuing.{open_stream, joined}
use Rattle.norm_send_rules.specs.Streaming.{parts_now, used_segments, with_last, with_parts, grown, cut}
use Rattle.norm_send_rules.specs.DropLaws.{DropHolds}
use Rattle.norm_send_rules.proofs.RoomLemmas.{room_laws}
use Rattle.norm_send_rules.proofs.WantLemmas.{with_last_is}
use Rattle.norm_safety.proofs.CommandSteps.{no_parts}
use Rattle.norm_safety.proofs.SenderHolds.{goes_within, stream_entry, open_ends}

clash : false ≡ true → ⊥
clash e = cc

-- ---- sums

-- the sum of what a list's members count
abbrev pub total : {X : Type 0} → (X → ℕ) → List X → ℕ
total f [] = 0
total f (x ∷ xs) = f x + total f xs

pub sum_is_total : {X : Type 0} (f : X → ℕ) (xs : List X) → sum (map f xs) ≡ total f xs
sum_is_total {X} f xs = from 0 xs ∙ (let z : 0 + total f xs ≡ total f xs = omega arith in z)
  where
    from : (a : ℕ) (ys : List X) → fold (λ (n m : ℕ). n + m) a (map f ys) ≡ a + total f ys
    from a [] = omega arith
    from a (y ∷ ys) = (let more = from (a + f y) ys in omega (arith, more))

-- how many octets of the window objects take
abbrev pub sizes : Settings → List Entry → ℕ
sizes p entries = total (λ (x : Entry). size_of p x.object) entries

sizes_append : (p : Settings) (xs ys : List Entry) → sizes p (xs ++ ys) ≡ sizes p xs + sizes p ys
sizes_append p [] ys = (let z : sizes p ys ≡ 0 + sizes p ys = omega arith in z)
sizes_append p (x ∷ xs) ys = (let more = sizes_append p xs ys in omega (arith, more))

-- fewer take no more
sizes_fewer : (p : Settings) (n m : ℕ) (xs : List Entry) → n ≤ m → sizes p (drop m xs) ≤ sizes p (drop n xs)
sizes_fewer p zero zero xs le = omega arith
sizes_fewer p zero (suc m) [] le = omega arith
sizes_fewer p zero (suc m) (x ∷ xs) le = (let more = sizes_fewer p zero m xs (omega arith) in omega (arith, more))
sizes_fewer p (suc n) zero xs le = absurd (omega arith)
sizes_fewer p (suc n) (suc m) [] le = omega arith
sizes_fewer p (suc n) (suc m) (x ∷ xs) le = sizes_fewer p n m xs (omega arith)

-- a stream takes the same, whatever its parts
sizes_same : (p : Settings) (n : ℕ) (front : List Entry) (own : Origin) (parts later : List Part)
    → sizes p (drop n (front ++ stream_entry own later ∷ [])) ≡ sizes p (drop n (front ++ stream_entry own parts ∷ []))
sizes_same p zero [] own parts later = refl
sizes_same p (suc n) [] own parts later = (let a = nothing n in let b = nothing n in omega (arith, a, b))
  where
    nothing : (n : ℕ) → sizes p (drop n []) ≡ 0
    nothing zero = refl
    nothing (suc n) = refl
sizes_same p zero (x ∷ front) own parts later = (let more = sizes_same p zero front own parts later in omega (arith, more))
sizes_same p (suc n) (x ∷ front) own parts later = sizes_same p n front own parts later

-- ---- what fits

-- the first block that a drop point keeps of the object with an index
abbrev pub kept_from : Point → ℕ → ℕ
kept_from d index = elim (nat_lt d.index index) [ true ↦ 0 | false ↦ d.block ]

-- From a drop point on an order has no more objects than the profile's window, no more octets, and of each stream no more segments than its
-- blocks hold.
pub record Fits (p : Settings) (order : List Entry) (d : Point) : Type 0 where
  pub within : d.index ≤ length order
  pub few : length order ≤ d.index + p.window
  pub room : sizes p (drop d.index order) ≤ p.octets
  pub blocks : (index : ℕ) (x : Entry) (parts : List Part) → slice_get order index ≡ Some x → x.object ≡ Stream parts → d.index ≤ index
      → used_segments p parts ≤ (kept_from d index + p.blocks) * p.b

-- so does a sender's window
abbrev pub FitsNow : Settings → SenderState → Type 0
FitsNow p s = Fits p s.current.order s.current.drop

pub fits_nothing : (p : Settings) → Fits p [] (point 0 0)
fits_nothing p = record {
  within = omega arith;
  few = omega arith;
  room = omega arith;
  blocks = λ index x parts found is le. absurd (nothing_there x found);
}

pub fits_opening : (p : Settings) (instance : ℕ) → FitsNow p (sender_opening p instance)
fits_opening p instance = fits_nothing p

pub fits_same : (p : Settings) (s t : SenderState) → t.current ≡ s.current → FitsNow p s → FitsNow p t
fits_same p s t same h = let F : Instance → Type 0 = λ i. Fits p i.order i.drop in subst F (sym same) h

-- ---- an object joins

no_pieces : (e n : ℕ) → n ≡ 0 → length (pieces e n []) ≡ 0
unfolding pieces
no_pieces e zero is = refl
no_pieces e (suc n) is = absurd (omega arith)

-- a stream that opens has no segment
pub nothing_used : (p : Settings) → used_segments p [] ≡ 0
unfolding closed_from since_cut
nothing_used p =
    let no_blocks : 0 / p.e ≡ 0 = zero-div p.e in
    let nothing : 0 % p.e ≡ 0 = zero-mod p.e in
    let none = no_pieces p.e (0 / p.e) no_blocks in omega (arith, none, nothing)

both_true : (a b : Bool) → (a && b) ≡ true → (a ≡ true) × (b ≡ true)
both_true true b e = (refl, e)
both_true false b e = absurd (clash e)

le_true : (a b : ℕ) → nat_le a b ≡ true → a ≤ b
le_true a b e = go (leb_tells a b)
  where
    go : ((nat_le a b ≡ true) × (a ≤ b)) ⊎ ((nat_le a b ≡ false) × (b < a)) → a ≤ b
    go (inl tells) = tells.1
    go (inr tells) = absurd (clash (sym tells.0 ∙ e))

true_le : (a b : ℕ) → a ≤ b → nat_le a b ≡ true
true_le a b le = go (leb_tells a b)
  where
    go : ((nat_le a b ≡ true) × (a ≤ b)) ⊎ ((nat_le a b ≡ false) × (b < a)) → nat_le a b ≡ true
    go (inl tells) = tells.0
    go (inr tells) = absurd (let lt = tells.1 in omega (arith, lt, le))

-- where no object is in the window, one that the profile lets be has room
empty_room : (p : Settings) → InRange p → (size : ℕ) → size ≤ p.octets → has_room p size [] ≡ true
empty_room p range size le =
    let some : 0 < p.window = omega (arith, range.window.0) in
    ap (λ (b : Bool). b && nat_le (0 + size) p.octets) ((Decides-ltb 0 p.window).1 some) ∙ true_le (0 + size) p.octets (omega (arith, le))

-- where the drop point comes to
after_index : (d : Point) (n : ℕ) → (drop_after d n).index ≡ d.index + n
after_index d zero = omega arith
after_index d (suc n) = refl

pub fits_joined : (p : Settings) → InRange p → (by : Origin) (object : Object) (s : SenderState) → size_of p object ≤ p.octets
    → ((parts : List Part) → object ≡ Stream parts → used_segments p parts ≡ 0) → FitsNow p s → FitsNow p (joined p by object s)
fits_joined p range by object s size none h = go n refl
  where
    n : ℕ
    n = has_to_go p (size_of p object) (window s)

    d : Point
    d = s.current.drop

    order : List Entry
    order = s.current.order

    entry : Entry
    entry = record { by = by; object = object }

    go : (k : ℕ) → n ≡ k → Fits p (order ++ entry ∷ []) (drop_after d n)
    go k is =
        let to : Point = drop_after d n in
        let at : to.index ≡ d.index + n = after_index d n in
        let most : n ≤ length (window s) = goes_within p (size_of p object) (window s) in
        let long : length (window s) ≡ length order - d.index = length-drop d.index order in
        let in_order = h.within in
        let reach : to.index ≤ length order = omega (arith, at, most, long, in_order) in
        let left : drop to.index order ≡ drop n (window s) = room_laws.left s n in
        let room = both_true (nat_lt (length (drop n (window s))) p.window)
        (nat_le (sum (map (λ (x : Entry). size_of p x.object) (drop n (window s))) + size_of p object) p.octets)
        (room_laws.enough p (size_of p object) (window s) (empty_room p range (size_of p object) size)) in
        let few : length (drop n (window s)) < p.window = (Decides-ltb (length (drop n (window s))) p.window).0 room.0 in
        let octets = le_true _ _ room.1 in
        let is_total = sum_is_total (λ (x : Entry). size_of p x.object) (drop n (window s)) in
        let here : length (drop to.index order) ≡ length order - to.index = length-drop to.index order in
        let same_long : length (drop to.index order) ≡ length (drop n (window s)) = ap (λ (xs : List Entry). length xs) left in
        let more : length (order ++ entry ∷ []) ≡ length order + 1 = length-append order (entry ∷ []) in
        let split : drop to.index (order ++ entry ∷ []) ≡ drop to.index order ++ entry ∷ [] = drop-append-le to.index order (entry ∷ []) reach in
        let sum_split : sizes p (drop to.index (order ++ entry ∷ [])) ≡ sizes p (drop to.index order) + (size_of p object + 0) =
        ap (sizes p) split ∙ sizes_append p (drop to.index order) (entry ∷ []) in
        let same_sizes : sizes p (drop to.index order) ≡ sizes p (drop n (window s)) = ap (sizes p) left in
        record {
          within = omega (arith, reach, more);
          few = omega (arith, few, here, same_long, more, reach);
          room = omega (arith, octets, is_total, sum_split, same_sizes);
          blocks = λ index x parts found stream le. by_place n index x parts (before_or_last order entry index x found) stream at le;
        }
      where
        by_place : (m index : ℕ) (x : Entry) (parts : List Part) → (slice_get order index ≡ Some x) ⊎ ((index ≡ length order) × (entry ≡ x)) → x.object ≡ Stream parts
            → (drop_after d m).index ≡ d.index + m → (drop_after d m).index ≤ index → used_segments p parts ≤ (kept_from (drop_after d m) index + p.blocks) * p.b
        by_place zero index x parts (inl found) stream at le = h.blocks index x parts found stream le
        by_place (suc m) index x parts (inl found) stream at le =
            let lt : d.index < index = omega (arith, at, le) in
            let was = h.blocks index x parts found stream (omega (arith, lt)) in
            let none_kept : kept_from d index ≡ 0 = ap (λ (b : Bool). elim b as (λ _. ℕ) [ true ↦ 0 | false ↦ d.block ]) ((Decides-ltb d.index index).1 lt) in
            let fewer : (kept_from d index + p.blocks) * p.b ≤ (kept_from (drop_after d (suc m)) index + p.blocks) * p.b =
            mul-le-mul_right p.b (let z : kept_from d index + p.blocks ≤ kept_from (drop_after d (suc m)) index + p.blocks = omega (arith, none_kept) in z) in
            omega (arith, was, fewer)
        by_place m index x parts (inr (last, same)) stream at le =
            let used = none parts (ap (λ (y : Entry). y.object) same ∙ stream) in omega (arith, used)

-- ---- the open stream goes on

-- the last entry, a stream, has other parts, and the drop point is where it was or within it
record GoesOn (p : Settings) (front : List Entry) (own : Origin) (parts later : List Part) (d to : Point) : Type 0 where
  before : d.index ≤ to.index
  within : to.index ≤ length front
  few : length front + 1 ≤ to.index + p.window
  kept : (index : ℕ) → index < length front → to.index ≤ index → kept_from d index ≤ kept_from to index
  used : used_segments p later ≤ (kept_from to (length front) + p.blocks) * p.b

fits_longer : (p : Settings) (front : List Entry) (own : Origin) (parts later : List Part) (d to : Point) → GoesOn p front own parts later d to
    → Fits p (front ++ stream_entry own parts ∷ []) d → Fits p (front ++ stream_entry own later ∷ []) to
fits_longer p front own parts later d to goes h = record {
  within = (let w = goes.within in omega (arith, w, now));
  few = (let f = goes.few in omega (arith, f, now));
  room = (
      let same = sizes_same p to.index front own parts later in
      let fewer = sizes_fewer p d.index to.index (front ++ stream_entry own parts ∷ []) goes.before in
      let room = h.room in omega (arith, same, fewer, room)
      );
  blocks = λ index x more found is le. by_place index x more (before_or_last front (stream_entry own later) index x found) is le;
}
  where
    now : length (front ++ stream_entry own later ∷ []) ≡ length front + 1
    now = length-append front (stream_entry own later ∷ [])

    stream_parts : (a b : List Part) → Stream a ≡ Stream b → a ≡ b
    stream_parts a b e = cc

    by_place : (index : ℕ) (x : Entry) (more : List Part) → (slice_get front index ≡ Some x) ⊎ ((index ≡ length front) × (stream_entry own later ≡ x)) → x.object ≡ Stream more
        → to.index ≤ index → used_segments p more ≤ (kept_from to index + p.blocks) * p.b
    by_place index x more (inl found) is le =
        let lt = within_front front index x found in
        let first = goes.before in
        let was = h.blocks index x more (found_front front (stream_entry own parts ∷ []) index x found) is (omega (arith, first, le)) in
        let kept = goes.kept index lt le in
        let fewer : (kept_from d index + p.blocks) * p.b ≤ (kept_from to index + p.blocks) * p.b =
        mul-le-mul_right p.b (let z : kept_from d index + p.blocks ≤ kept_from to index + p.blocks = omega (arith, kept) in z) in
        omega (arith, was, fewer)
      where
        within_front : (xs : List Entry) (i : ℕ) (y : Entry) → slice_get xs i ≡ Some y → i < length xs
        within_front [] i y e = absurd (nothing_there y e)
        within_front (z ∷ xs) zero y e = omega arith
        within_front (z ∷ xs) (suc i) y e = (let less = within_front xs i y e in omega (arith, less))
    by_place index x more (inr (last, same)) is le =
        let own_parts : later ≡ more = stream_parts later more (ap (λ (y : Entry). y.object) same ∙ is) in
        let U : List Part → Type 0 = λ ps. used_segments p ps ≤ (kept_from to index + p.blocks) * p.b in
        let V : ℕ → Type 0 = λ i. used_segments p later ≤ (kept_from to i + p.blocks) * p.b in
        subst U own_parts (subst V (sym last) goes.used)

-- segments of so many blocks
few_blocks : (p : Settings) → 0 < p.b → (segments kept : ℕ) → div_ceil segments p.b - p.blocks ≤ kept → segments ≤ (kept + p.blocks) * p.b
few_blocks p some segments kept le =
    let times = (div_ceil_times segments p.b some).0 in
    let most : div_ceil segments p.b * p.b ≤ (kept + p.blocks) * p.b =
    mul-le-mul_right p.b (let z : div_ceil segments p.b ≤ kept + p.blocks = omega (arith, le) in z) in omega (arith, times, most)

pub fits_grown : (p : Settings) → InRange p → (s : SenderState) (part : Part) → is_none (open_stream s) ≡ false → DropHolds s → FitsNow p s
    → FitsNow p (grown p s (parts_now s ++ part ∷ []))
fits_grown p range s part there drops h =
    let ends = open_ends s there in
    let front : List Entry = ends.front in
    let own : Origin = ends.own in
    let x : Entry = stream_entry own (parts_now s) in
    let y : Entry = stream_entry own later in
    let order : with_last (Stream later) s.current.order ≡ front ++ y ∷ [] =
    ap (λ (xs : List Entry). with_last (Stream later) xs) ends.is ∙ with_last_is (Stream later) front x in
    let long = ap (λ (xs : List Entry). length xs) ends.is ∙ length-append front (x ∷ []) in
    let last : last_index s ≡ length front = omega (arith, long) in
    let inside : d.index ≤ length front = (let lt = drops.stream (is_there (open_stream s) there) in omega (arith, lt, long)) in
    let F : List Entry → Type 0 = λ xs. Fits p xs d in
    let G : List Entry → Type 0 = λ xs. Fits p xs (moved (nat_le least (first_kept s (last_index s)))) in
    subst G (sym order) (go front own last inside (subst F ends.is h) (nat_le least (first_kept s (last_index s))) refl)
  where
    later : List Part
    later = parts_now s ++ part ∷ []

    segments : ℕ
    segments = used_segments p later

    least : ℕ
    least = least_kept p segments

    d : Point
    d = s.current.drop

    some : 0 < p.b
    some = omega (arith, range.b.0)

    some_window : 0 < p.window
    some_window = omega (arith, range.window.0)

    moved : Bool → Point
    moved b = elim b [ true ↦ d | false ↦ point (last_index s) least ]

    is_there : (found : Option (List Part)) → is_none found ≡ false → is_some found ≡ true
    is_there None e = absurd (clash (sym e))
    is_there (Some parts) e = refl

    go : (front : List Entry) (own : Origin) → last_index s ≡ length front → d.index ≤ length front → Fits p (front ++ stream_entry own (parts_now s) ∷ []) d
        → (b : Bool) → nat_le least (first_kept s (last_index s)) ≡ b → Fits p (front ++ stream_entry own later ∷ []) (moved b)
    go front own last inside was true e =
        let long = length-append front (stream_entry own (parts_now s) ∷ []) in
        let few = was.few in
        let le : least ≤ first_kept s (last_index s) = le_true least (first_kept s (last_index s)) e in
        let K : ℕ → Type 0 = λ i. segments ≤ (kept_from d i + p.blocks) * p.b in
        fits_longer p front own (parts_now s) later d d (record {
          before = omega arith;
          within = inside;
          few = omega (arith, few, long);
          kept = λ index lt le. (let z : kept_from d index ≤ kept_from d index = omega arith in z);
          used = subst K last (few_blocks p some segments (kept_from d (last_index s)) le);
        }) was
    go front own last inside was false e =
        let itself : kept_from (point (last_index s) least) (length front) ≡ least =
        ap (λ (n : ℕ). kept_from (point n least) (length front)) last
        ∙ ap (λ (b : Bool). elim b as (λ _. ℕ) [ true ↦ 0 | false ↦ least ]) (not_itself (length front)) in
        let K : ℕ → Type 0 = λ k. segments ≤ (k + p.blocks) * p.b in
        fits_longer p front own (parts_now s) later d (point (last_index s) least) (record {
          before = omega (arith, inside, last);
          within = omega (arith, last);
          few = omega (arith, last, some_window);
          kept = λ index lt le. absurd (omega (arith, last, lt, le));
          used = subst K (sym itself) (few_blocks p some segments least (let z : least ≤ least = omega arith in z));
        }) was
      where
        not_itself : (n : ℕ) → nat_lt n n ≡ false
        not_itself n = by (nat_lt n n) refl
          where
            by : (b : Bool) → nat_lt n n ≡ b → nat_lt n n ≡ false
            by true is = absurd (let lt = (Decides-ltb n n).0 is in omega (arith, lt))
            by false is = is

-- ---- the open stream is cut

pieces_many : (e n : ℕ) (octets : List ℕ) → length (pieces e n octets) ≡ n
unfolding pieces
pieces_many e zero octets = refl
pieces_many e (suc n) octets = ap suc (pieces_many e n (drop e octets))

-- the segments that a stream takes room for, from octets since its last cut on
abbrev used_from : ℕ → List ℕ → List Part → ℕ
used_from e since parts = length (closed_from e since parts) + min 1 (length (since_cut since parts) % e)

cut_used : (e : ℕ) (since : List ℕ) (parts : List Part) → has_end parts ≡ false → used_from e since (parts ++ Cut ∷ []) ≤ used_from e since parts
unfolding closed_from since_cut has_end
cut_used e since [] unended =
    let all = pieces_many e (div_ceil (length since) e) since in
    let full = pieces_many e (length since / e) since in
    let none = pieces_many e (0 / e) [] in
    let no_blocks : 0 / e ≡ 0 = zero-div e in
    let nothing : 0 % e ≡ 0 = zero-mod e in
    let more = length-append (all_pieces e since) (full_pieces e []) in
    omega (arith, all, full, none, no_blocks, nothing, more)
cut_used e since (Write by octets ∷ parts) unended = cut_used e (since ++ octets) parts unended
cut_used e since (Cut ∷ parts) unended =
    let h = cut_used e [] parts unended in
    let before = length-append (all_pieces e since) (closed_from e [] parts) in
    let after = length-append (all_pieces e since) (closed_from e [] (parts ++ Cut ∷ [])) in
    omega (arith, h, before, after)
cut_used e since (End ∷ parts) unended = absurd (clash (sym unended))

pub fits_cut : (p : Settings) (s : SenderState) → DropHolds s → FitsNow p s → FitsNow p (cut p s)
fits_cut p s drops h = by_parts (is_none (open_stream s)) refl
  where
    cut_where : ℕ → SenderState
    cut_where n = elim n [ zero ↦ s | suc k ↦ with_parts (parts_now s ++ Cut ∷ []) s ]

    is_there : (found : Option (List Part)) → is_none found ≡ false → is_some found ≡ true
    is_there None e = absurd (clash (sym e))
    is_there (Some parts) e = refl

    cuts : is_none (open_stream s) ≡ false → FitsNow p (with_parts (parts_now s ++ Cut ∷ []) s)
    cuts there =
        let later : List Part = parts_now s ++ Cut ∷ [] in
        let d : Point = s.current.drop in
        let ends = open_ends s there in
        let front : List Entry = ends.front in
        let own : Origin = ends.own in
        let x : Entry = stream_entry own (parts_now s) in
        let y : Entry = stream_entry own later in
        let order : with_last (Stream later) s.current.order ≡ front ++ y ∷ [] =
        ap (λ (xs : List Entry). with_last (Stream later) xs) ends.is ∙ with_last_is (Stream later) front x in
        let long = ap (λ (xs : List Entry). length xs) ends.is ∙ length-append front (x ∷ []) in
        let inside : d.index ≤ length front = (let lt = drops.stream (is_there (open_stream s) there) in omega (arith, lt, long)) in
        let F : List Entry → Type 0 = λ xs. Fits p xs d in
        let was : Fits p (front ++ x ∷ []) d = subst F ends.is h in
        let few = was.few in
        let fewer = cut_used p.e [] (parts_now s) ends.unended in
        let used = was.blocks (length front) x (parts_now s) (last_found front x) refl inside in
        let two = length-append front (x ∷ []) in
        subst F (sym order) (fits_longer p front own (parts_now s) later d d (record {
          before = omega arith;
          within = inside;
          few = omega (arith, few, two);
          kept = λ index lt le. (let z : kept_from d index ≤ kept_from d index = omega arith in z);
          used = omega (arith, fewer, used);
        }) was)
      where
        last_found : (xs : List Entry) (z : Entry) → slice_get (xs ++ z ∷ []) (length xs) ≡ Some z
        last_found [] z = refl
        last_found (w ∷ xs) z = last_found xs z

    by_number : is_none (open_stream s) ≡ false → (n : ℕ) → FitsNow p (cut_where n)
    by_number there zero = h
    by_number there (suc n) = cuts there

    none_is : (found : Option (List Part)) → is_none found ≡ true → found ≡ None
    none_is None e = refl
    none_is (Some parts) e = absurd (clash e)

    by_parts : (none : Bool) → is_none (open_stream s) ≡ none → FitsNow p (cut_where (unclosed p.e (parts_now s)))
    by_parts false there = by_number there (unclosed p.e (parts_now s))
    by_parts true nothing =
        let empty : parts_now s ≡ [] = ap (λ (o : Option (List Part)). unwrap_or o []) (none_is (open_stream s) nothing) in
        let zero_is : unclosed p.e (parts_now s) ≡ 0 = ap (unclosed p.e) empty ∙ no_parts p.e in
        let C : ℕ → Type 0 = λ n. FitsNow p (cut_where n) in subst C (sym zero_is) h
