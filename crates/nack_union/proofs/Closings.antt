-- Objects whose round closes.
use Rattle.std.proofs.Common.{◌≡◌, ℕ, zero, suc, ◌+◌, ◌<◌, List, [], ◌∷◌, ◌++◌, map, length, set, get_or, take, drop, replicate, Bool, true, false, ◌-◌, refl, sym, ap, subst, ◌∙◌, arith}
use Rattle.std.specs.Prelude.{nat_lt, nat_le, min}
use Rattle.std.specs.List.{AllByRecursion, range_with_len}
use Rattle.std.proofs.lemmas.Bool.{le-leb}
use Rattle.std.proofs.lemmas.List.Edits.{map_over_more}
use Rattle.std.proofs.lemmas.List.{append-nil, map-append, length-replicate}
use Rattle.norm_order.specs.Sets.{with_member, with_members}
use Rattle.norm_send_rules.specs.Wants.{want_before}
use Rattle.norm_send_rules.specs.declared.want.Want.{Want}
use Rattle.fec_plan.specs.Partition.{source_symbols}
use Rattle.norm_order.specs.Shapes.{Shape, closed_in}
use Rattle.nack_union.specs.Slots.{want_at, symbol_slot}
use Rattle.nack_union.specs.Repairs.{counted_slots, repair_slots, fresh_parities}
use Rattle.nack_union.specs.Kept.{Marked, listed, closed_marks, IsCounted, symbols_of_marked}
use Rattle.nack_union.specs.Rounds.{new_wants}
use Rattle.nack_union.proofs.Orders.{put_here, put_behind, put_before}
use Rattle.nack_union.proofs.Unions.{put_collected, put_swap, alone}
use Rattle.nack_union.proofs.Freshness.{put_both}

-- the slots that an object's round asks for
abbrev pub asked_slots : Marked → List ℕ
asked_slots m = m.asked ++ counted_slots (symbols_of_marked m) m.sent 0 m.counts

-- members of an object go to their places in the object's set
pub puts_here : (index : ℕ) (slots xs : List ℕ) (rest : List Want)
    → ((a : ℕ) → with_member want_before (want_at index a) rest ≡ want_at index a ∷ rest)
    → with_members want_before (map (want_at index) slots) (map (want_at index) xs ++ rest) ≡ map (want_at index) (with_members nat_lt slots xs) ++ rest
puts_here index [] xs rest front = refl
puts_here index (a ∷ slots) xs rest front =
    ap (with_members want_before (map (want_at index) slots)) (put_here index a xs rest (front a))
    ∙ puts_here index slots (with_member nat_lt a xs) rest front

-- and pass the sets of earlier objects
puts_behind : (i j : ℕ) (slots xs : List ℕ) (rest : List Want) → i < j
    → with_members want_before (map (want_at j) slots) (map (want_at i) xs ++ rest) ≡ map (want_at i) xs ++ with_members want_before (map (want_at j) slots) rest
puts_behind i j [] xs rest lt = refl
puts_behind i j (a ∷ slots) xs rest lt =
    ap (with_members want_before (map (want_at j) slots)) (put_behind i j a xs rest lt)
    ∙ puts_behind i j slots xs (with_member want_before (want_at j a) rest) lt

-- what is listed of later objects passes the sets of earlier ones
lists_behind : (slots : Marked → List ℕ) (i j : ℕ) (ms : List Marked) (xs : List ℕ) (rest : List Want) → i < j
    → with_members want_before (listed slots j ms) (map (want_at i) xs ++ rest) ≡ map (want_at i) xs ++ with_members want_before (listed slots j ms) rest
lists_behind slots i j [] xs rest lt = refl
lists_behind slots i j (m ∷ ms) xs rest lt =
    put_both want_before (map (want_at j) (slots m)) (listed slots (suc j) ms) (map (want_at i) xs ++ rest)
    ∙ ap (with_members want_before (listed slots (suc j) ms)) (puts_behind i j (slots m) xs rest lt)
    ∙ lists_behind slots i (suc j) ms xs (with_members want_before (map (want_at j) (slots m)) rest) (omega arith)
    ∙ ap (λ ws. map (want_at i) xs ++ ws) (sym (put_both want_before (map (want_at j) (slots m)) (listed slots (suc j) ms) rest))

-- a set that is collected by slots
collected_here : (index : ℕ) (more asked : List ℕ) (ws : List Want)
    → with_members want_before (map (want_at index) (with_members nat_lt more asked)) ws
    ≡ with_members want_before (map (want_at index) more) (with_members want_before (map (want_at index) asked) ws)
collected_here index more asked ws =
    ap (λ set. with_members want_before set ws)
    (sym (append-nil (map (want_at index) (with_members nat_lt more asked)))
    ∙ sym (puts_here index more asked [] (λ a. alone (want_at index a)))
    ∙ ap (with_members want_before (map (want_at index) more)) (append-nil (map (want_at index) asked)))
    ∙ put_collected (map (want_at index) more) (map (want_at index) asked) ws

-- the wants of objects whose round closes are joined by what it asked for
pub all_closed : (index : ℕ) (ms : List Marked)
    → listed (λ m. m.wants) index (map closed_marks ms) ≡ with_members want_before (listed asked_slots index ms) (listed (λ m. m.wants) index ms)
all_closed index [] = refl
all_closed index (m ∷ ms) =
    sym (puts_here index set m.wants rest (λ a. put_before (λ m. m.wants) index (suc index) a (map closed_marks ms) (omega arith)))
    ∙ collected_here index counted m.asked (map (want_at index) m.wants ++ rest)
    ∙ ap (λ ws. with_members want_before (map (want_at index) counted) (with_members want_before (map (want_at index) m.asked) (map (want_at index) m.wants ++ ws))) (all_closed (suc index) ms)
    ∙ sym (put_both want_before (map (want_at index) m.asked) (map (want_at index) counted) _)
    ∙ ap (λ xs. with_members want_before xs (map (want_at index) m.wants ++ with_members want_before later old)) (sym (map-append (want_at index) m.asked counted))
    ∙ ap (with_members want_before (map (want_at index) (asked_slots m))) (sym (lists_behind asked_slots index (suc index) ms m.wants old (omega arith)))
    ∙ put_swap (map (want_at index) (asked_slots m)) later (map (want_at index) m.wants ++ old)
    ∙ sym (put_both want_before (map (want_at index) (asked_slots m)) later (map (want_at index) m.wants ++ old))
  where
    counted : List ℕ
    counted = counted_slots (symbols_of_marked m) m.sent 0 m.counts

    set : List ℕ
    set = with_members nat_lt counted m.asked

    rest : List Want
    rest = listed (λ m. m.wants) (suc index) (map closed_marks ms)

    later : List Want
    later = listed asked_slots (suc index) ms

    old : List Want
    old = listed (λ m. m.wants) (suc index) ms

-- A loop over objects, with those that are closed in front.

-- the object that is next
at_place : {X : Type 0} (f : X → X) (xs : List X) (i : ℕ) (d : X) → i < length xs → get_or (map f (take i xs) ++ drop i xs) i d ≡ get_or xs i d
at_place f [] i d lt = absurd (omega arith)
at_place f (x ∷ xs) zero d lt = refl
at_place f (x ∷ xs) (suc i) d lt = at_place f xs i d (omega arith)

take_each : {X : Type 0} (P : X → Type 0) (xs : List X) (i : ℕ) (d : X) → i < length xs → AllByRecursion P (take i xs) → P (get_or xs i d) → AllByRecursion P (take (suc i) xs)
take_each P [] i d lt all this = absurd (omega arith)
take_each P (x ∷ xs) zero d lt all this = (this, tt)
take_each P (x ∷ xs) (suc i) d lt all this = (all.0, take_each P xs i d (omega arith) all.1 this)

drop_first : {X : Type 0} (xs : List X) (i : ℕ) (d : X) → i < length xs → drop i xs ≡ get_or xs i d ∷ drop (suc i) xs
drop_first [] i d lt = absurd (omega arith)
drop_first (x ∷ xs) zero d lt = refl
drop_first (x ∷ xs) (suc i) d lt = drop_first xs i d (omega arith)

-- the object that was read is the one that was there at first
pub first_read : (xs ys : List Marked) (i : ℕ) (x : Marked) → i < length xs → ys ≡ map closed_marks (take i xs) ++ drop i xs → x ≡ get_or ys i x → x ≡ get_or xs i x
first_read xs ys i x lt done at = at ∙ ap (λ zs. get_or zs i x) done ∙ at_place closed_marks xs i x lt

pub closed_more : (xs ys : List Marked) (i : ℕ) (x new : Marked) → i < length xs → new ≡ closed_marks x → ys ≡ map closed_marks (take i xs) ++ drop i xs → x ≡ get_or ys i x
    → set ys i new ≡ map closed_marks (take (i + 1) xs) ++ drop (i + 1) xs
closed_more xs ys i x new lt is done at = ap (set ys i) is ∙ map_over_more closed_marks xs ys i x lt done at

pub counted_more : (xs : List Marked) (i : ℕ) (x : Marked) → i < length xs → x ≡ get_or xs i x → AllByRecursion IsCounted (take i xs) → IsCounted x
    → AllByRecursion IsCounted (take (i + 1) xs)
counted_more xs i x lt at all this =
    subst (λ n. AllByRecursion IsCounted (take n xs)) (let e : suc i ≡ i + 1 = omega arith in e)
    (take_each IsCounted xs i x lt all (subst IsCounted at this))

-- one object's new wants are counted
pub queued_more : (xs : List Marked) (i : ℕ) (x new : Marked) (queued more sum total : ℕ) → i < length xs → x ≡ get_or xs i x → new ≡ closed_marks x
    → length new.wants ≡ length x.wants + more → sum ≡ min (queued + more) 18446744073709551615
    → min (queued + new_wants (drop i xs)) 4294967295 ≡ total
    → min (sum + new_wants (drop (i + 1) xs)) 4294967295 ≡ total
queued_more xs i x new queued more sum total lt at is many added so_far =
    let first : new_wants (drop i xs) ≡ (length (closed_marks x).wants - length x.wants) + new_wants (drop (i + 1) xs) =
    ap new_wants (drop_first xs i x lt) ∙ ap (λ z. (length (closed_marks z).wants - length z.wants) + new_wants (drop (suc i) xs)) (sym at)
    ∙ ap (λ n. (length (closed_marks x).wants - length x.wants) + new_wants (drop n xs)) (let e : suc i ≡ i + 1 = omega arith in e) in
    let here : length (closed_marks x).wants ≡ length x.wants + more = ap (λ (m : Marked). length m.wants) (sym is) ∙ many in
    by (length (closed_marks x).wants) (length x.wants) (new_wants (drop i xs)) (new_wants (drop (i + 1) xs)) here first so_far
  where
    by : (c w a b : ℕ) → c ≡ w + more → a ≡ (c - w) + b → min (queued + a) 4294967295 ≡ total → min (sum + b) 4294967295 ≡ total
    by c w a b here first before = omega (arith, here, first, added, before)

-- where nothing is counted, no slot is asked for
zero_slots : (cut : Shape) (sent : List ℕ) (block n : ℕ) → counted_slots cut sent block (replicate n 0) ≡ []
zero_slots cut sent block zero = refl
zero_slots cut sent block (suc n) =
    ap (λ c. repair_slots cut sent block c ++ counted_slots cut sent (suc block) (replicate n 0)) (let e : min 0 (source_symbols cut.cut block) ≡ 0 = omega arith in e)
    ∙ ap (λ xs. xs ++ counted_slots cut sent (suc block) (replicate n 0)) (here (nat_le 0 (length (fresh_parities cut sent block))) (le-leb 0 (length (fresh_parities cut sent block)) (omega arith)))
    ∙ zero_slots cut sent (suc block) n
  where
    here : (b : Bool) → b ≡ true → map (symbol_slot block) (elim b [ true ↦ [] | false ↦ range_with_len 0 (closed_in cut block) ]) ≡ []
    here true f = refl
    here false f = absurd (cc)

-- an object that asks for nothing stays as its round closes
pub idle_stays : (m : Marked) (n : ℕ) → m.asked ≡ [] → m.counts ≡ replicate n 0 → m ≡ closed_marks m
idle_stays m n unasked uncounted =
    sym (ap (λ xs. record m { wants = with_members nat_lt (with_members nat_lt (counted_slots (symbols_of_marked m) m.sent 0 xs) m.asked) m.wants; asked = []; counts = replicate (length xs) 0 }) uncounted
    ∙ ap (λ xs. record m { wants = with_members nat_lt (with_members nat_lt xs m.asked) m.wants; asked = []; counts = replicate (length {A = ℕ} (replicate n 0)) 0 }) (zero_slots (symbols_of_marked m) m.sent 0 n)
    ∙ ap (λ xs. record m { wants = with_members nat_lt xs m.wants; asked = []; counts = replicate (length {A = ℕ} (replicate n 0)) 0 }) unasked
    ∙ ap (λ k. record m { asked = []; counts = replicate k 0 }) (length-replicate n 0)
    ∙ ap (λ xs. record m { asked = xs; counts = replicate n 0 }) (sym unasked)
    ∙ ap (λ xs. record m { counts = xs }) (sym uncounted))
