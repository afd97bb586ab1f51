-- The room that streams have stays as objects enter and leave the window, and as their marks change.
use Rattle.std.proofs.Common.{◌≡◌, ℕ, zero, suc, ◌+◌, ◌-◌, ◌<◌, ◌≤◌, List, [], ◌∷◌, ◌++◌, map, length, set, get_or, drop, Option, None, Some, Bool, refl, sym, ap, ◌∙◌, arith}
use Rattle.std.specs.Prelude.{slice_index}
use Rattle.std.specs.List.{AllByRecursion, range_with_len}
use Rattle.std.proofs.lemmas.List.{length-replicate, length-map}
use Rattle.std.proofs.lemmas.List.FromFn.{length-range_with_len}
use Rattle.norm_base.specs.Settings.{Settings}
use Rattle.fec_plan.specs.Partition.{Cut, blocks, most_blocks}
use Rattle.nack_union.specs.Kept.{Marked, HasRoom, admitted, admitted_stream, closed_marks, moved_on, moved_front, from_block}

-- marks of the same cut, with as many counts
pub room_kept : (p : Settings) (old new : Marked) → new.cut ≡ old.cut → new.first ≡ old.first → length new.counts ≡ length old.counts → HasRoom p old → HasRoom p new
room_kept p old new cut first many room stream = let fits = room (ap (λ (c : Cut). c.l) (sym cut) ∙ stream) in omega (arith, fits, first, many)

-- and one that is kept from a later block on
room_moved : (p : Settings) (block : ℕ) (m : Marked) → m.first ≤ block → HasRoom p m → HasRoom p (moved_on block m)
room_moved p block m onward room stream =
    let fits = room stream in
    let many : length (moved_on block m).counts ≡ length m.counts + (block - m.first) =
    length-map (range_with_len 0 (length m.counts + (block - m.first))) (λ at. from_block block at (slice_index m.counts at)) ∙ length-range_with_len 0 (length m.counts + (block - m.first)) in
    omega (arith, fits, many, onward)

pub rooms_moved : (p : Settings) (block : ℕ) (ms : List Marked) → ((m : Marked) (rest : List Marked) → ms ≡ m ∷ rest → m.first ≤ block) → AllByRecursion (HasRoom p) ms
    → AllByRecursion (HasRoom p) (moved_front block ms)
rooms_moved p zero ms onward rooms = rooms
rooms_moved p (suc block) [] onward rooms = tt
rooms_moved p (suc block) (m ∷ ms) onward rooms = (room_moved p (suc block) m (onward m ms refl) rooms.0, rooms.1)

-- an object or a stream as it is admitted
pub room_object : (p : Settings) (cut : Cut) (info : Bool) → HasRoom p (admitted cut info)
room_object p cut info none =
    let many = length-replicate {A = ℕ} (blocks cut) 0 in
    let all : blocks cut ≡ most_blocks = go cut.l none in
    omega (arith, many, all)
  where
    go : (l : Option ℕ) → l ≡ None → blocks (record cut { l = l }) ≡ most_blocks
    go (Some n) e = absurd (cc)
    go None e = refl

pub room_stream : (p : Settings) (cut : Cut) → HasRoom p (admitted_stream cut p.blocks)
room_stream p cut none = let many = length-replicate {A = ℕ} p.blocks 0 in omega (arith, many)

pub rooms_set : (p : Settings) (ms : List Marked) (i : ℕ) (new d : Marked) → new.cut ≡ (get_or ms i d).cut → new.first ≡ (get_or ms i d).first
    → length new.counts ≡ length (get_or ms i d).counts → AllByRecursion (HasRoom p) ms → AllByRecursion (HasRoom p) (set ms i new)
rooms_set p [] i new d cut first many rooms = tt
rooms_set p (m ∷ ms) zero new d cut first many rooms = (room_kept p m new cut first many rooms.0, rooms.1)
rooms_set p (m ∷ ms) (suc i) new d cut first many rooms = (rooms.0, rooms_set p ms i new d cut first many rooms.1)

pub rooms_by : (p : Settings) (new old : List Marked) (d : Marked) → length new ≡ length old
    → ((k : ℕ) → k < length old → ((get_or new k d).cut ≡ (get_or old k d).cut) × ((get_or new k d).first ≡ (get_or old k d).first)
    × (length (get_or new k d).counts ≡ length (get_or old k d).counts))
    → AllByRecursion (HasRoom p) old → AllByRecursion (HasRoom p) new
rooms_by p [] [] d many same rooms = tt
rooms_by p [] (o ∷ old) d many same rooms = absurd (omega (arith, many))
rooms_by p (n ∷ new) [] d many same rooms = absurd (omega (arith, many))
rooms_by p (n ∷ new) (o ∷ old) d many same rooms =
    let here = same 0 (omega arith) in
    (room_kept p o n here.0 here.1 here.2 rooms.0, rooms_by p new old d (omega (arith, many)) (λ k lt. same (suc k) (omega arith)) rooms.1)

pub rooms_joined : (p : Settings) (ms : List Marked) (m : Marked) → AllByRecursion (HasRoom p) ms → HasRoom p m → AllByRecursion (HasRoom p) (ms ++ m ∷ [])
rooms_joined p [] m rooms room = (room, tt)
rooms_joined p (x ∷ ms) m rooms room = (rooms.0, rooms_joined p ms m rooms.1 room)

pub rooms_dropped : (p : Settings) (n : ℕ) (ms : List Marked) → AllByRecursion (HasRoom p) ms → AllByRecursion (HasRoom p) (drop n ms)
rooms_dropped p zero ms rooms = rooms
rooms_dropped p (suc n) [] rooms = tt
rooms_dropped p (suc n) (m ∷ ms) rooms = rooms_dropped p n ms rooms.1

pub rooms_closed : (p : Settings) (ms : List Marked) → AllByRecursion (HasRoom p) ms → AllByRecursion (HasRoom p) (map closed_marks ms)
rooms_closed p [] rooms = tt
rooms_closed p (m ∷ ms) rooms = (room_kept p m (closed_marks m) refl refl (length-replicate (length m.counts) 0) rooms.0, rooms_closed p ms rooms.1)

pub room_at : (p : Settings) (ms : List Marked) (i : ℕ) (d : Marked) → i < length ms → AllByRecursion (HasRoom p) ms → HasRoom p (get_or ms i d)
room_at p [] i d lt rooms = absurd (omega arith)
room_at p (m ∷ ms) zero d lt rooms = rooms.0
room_at p (m ∷ ms) (suc i) d lt rooms = room_at p ms i d (omega arith) rooms.1
