-- What a union stands for as its round closes.
use Rattle.std.proofs.Common.{◌≡◌, ℕ, suc, ◌+◌, ◌-◌, ◌≤◌, List, [], ◌∷◌, ◌++◌, map, length, Bool, true, false, refl, sym, ap, subst, ◌∙◌, arith}
use Rattle.std.specs.Prelude.{nat_lt}
use Rattle.std.specs.List.{AllByRecursion}
use Rattle.std.proofs.lemmas.List.{length-append, length-map}
use Rattle.norm_base.specs.Settings.{Settings}
use Rattle.fec_plan.specs.Partition.{stream_cut}
use Rattle.norm_order.specs.Sets.{is_member, with_member, with_members}
use Rattle.norm_send_rules.specs.SenderState.{SenderState}
use Rattle.norm_send_rules.specs.Wants.{want_before}
use Rattle.nack_union.specs.Slots.{want_at}
use Rattle.nack_union.specs.Repairs.{counted_slots}
use Rattle.nack_union.specs.Kept.{Marked, Kept, Holds, listed, symbols_of_marked, closed_marks, closed_union, admitted, shape_of_marked, IsCounted, FrontsAre}
use Rattle.nack_union.specs.Rounds.{asked_of, wants_closed, new_wants}
use Rattle.nack_union.proofs.Rooms.{rooms_closed}
use Rattle.nack_union.proofs.Closings.{all_closed}
use Rattle.nack_union.proofs.Counted.{asked_are}
use Rattle.symbol_mask.proofs.Counting.{length-with_member, more}
use Rattle.nack_union.proofs.Members.{sent_is}

same_shapes : (ms : List Marked) → map shape_of_marked (map closed_marks ms) ≡ map shape_of_marked ms
same_shapes [] = refl
same_shapes (m ∷ ms) = ap (λ xs. shape_of_marked m ∷ xs) (same_shapes ms)

same_fronts : (ms : List Marked) → map (λ m. m.first) (map closed_marks ms) ≡ map (λ m. m.first) ms
same_fronts [] = refl
same_fronts (m ∷ ms) = ap (λ xs. m.first ∷ xs) (same_fronts ms)

same_sent : (index : ℕ) (ms : List Marked) → listed (λ m. m.sent) index (map closed_marks ms) ≡ listed (λ m. m.sent) index ms
same_sent index [] = refl
same_sent index (m ∷ ms) = ap (λ ws. map (want_at index) m.sent ++ ws) (same_sent (suc index) ms)

-- the wants of a union whose round closes
pub closed_wants : (p : Settings) (s : SenderState) (u : Kept) → AllByRecursion IsCounted u.objects → Holds p u s
    → listed (λ m. m.wants) u.first (map closed_marks u.objects) ≡ wants_closed u s
closed_wants p s u counted st =
    all_closed u.first u.objects
    ∙ ap (λ ws. with_members want_before ws (listed (λ m. m.wants) u.first u.objects))
    (asked_are s u.first u.objects (admitted (stream_cut 0 0 0) false) (λ k lt block symbol from few. sent_is p s u k block symbol (admitted (stream_cut 0 0 0) false) lt from few st) counted)
    ∙ ap (with_members want_before (asked_of s u)) st.wants

pub stands_closed : (p : Settings) (s : SenderState) (u : Kept) → AllByRecursion IsCounted u.objects → Holds p u s
    → Holds p (closed_union u) (record s { wants = wants_closed u s })
stands_closed p s u counted st = record {
  first = st.first;
  fronts = subst (FrontsAre s.current.drop.block) (sym (same_fronts u.objects)) st.fronts;
  next = ap (λ n. u.first + n) (length-map u.objects closed_marks) ∙ st.next;
  shapes = same_shapes u.objects ∙ st.shapes;
  wants = closed_wants p s u counted st;
  rise = st.rise;
  sent = same_sent u.first u.objects ∙ st.sent;
  rooms = rooms_closed p u.objects st.rooms;
}

-- a set that is joined is no smaller
no_fewer : (more xs : List ℕ) → length xs ≤ length (with_members nat_lt more xs)
no_fewer [] xs = omega arith
no_fewer (x ∷ rest) xs =
    let here = length-with_member x xs in
    let onward = no_fewer rest (with_member nat_lt x xs) in
    go (is_member nat_lt x xs) here onward
  where
    go : (b : Bool) → length (with_member nat_lt x xs) ≡ more b (length xs) → length (with_member nat_lt x xs) ≤ length (with_members nat_lt (x ∷ rest) xs)
        → length xs ≤ length (with_members nat_lt (x ∷ rest) xs)
    go true here onward = omega (arith, here, onward)
    go false here onward = omega (arith, here, onward)

-- how many wants are new
grown : (index : ℕ) (ms : List Marked)
    → length (listed (λ m. m.wants) index (map closed_marks ms)) ≡ length (listed (λ m. m.wants) index ms) + new_wants ms
grown index [] = refl
grown index (m ∷ ms) =
    let new = length-append (map (want_at index) (closed_marks m).wants) (listed (λ m. m.wants) (suc index) (map closed_marks ms)) in
    let old = length-append (map (want_at index) m.wants) (listed (λ m. m.wants) (suc index) ms) in
    let new_here = length-map (closed_marks m).wants (want_at index) in
    let old_here = length-map m.wants (want_at index) in
    let rest = grown (suc index) ms in
    let here = no_fewer (with_members nat_lt (counted_slots (symbols_of_marked m) m.sent 0 m.counts) m.asked) m.wants in
    omega (arith, new, old, new_here, old_here, rest, here)

pub all_queued : (p : Settings) (s : SenderState) (u : Kept) → AllByRecursion IsCounted u.objects → Holds p u s
    → new_wants u.objects ≡ length (wants_closed u s) - length s.wants
all_queued p s u counted st =
    let grown_by = grown u.first u.objects in
    let new = ap length (closed_wants p s u counted st) in
    let old = ap length st.wants in
    omega (arith, grown_by, new, old)
