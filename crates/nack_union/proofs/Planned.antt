-- What holds of each object of a window holds as one of them becomes another, as objects join and leave, and as their round closes.
use Rattle.std.proofs.Common.{◌≡◌, ℕ, zero, suc, List, [], ◌∷◌, ◌++◌, map, length, take, drop, set, Some, subst, arith}
use Rattle.std.specs.List.{AllByRecursion}
use Rattle.std.proofs.lemmas.List.{length-replicate}
use Rattle.std.specs.Prelude.{slice_get}
use Rattle.std.proofs.lemmas.Option.{slice_get_within, get_or_from_slice_get}
use Rattle.fec_plan.specs.Partition.{IsSound}
use Rattle.norm_order.specs.Sets.{is_member, Rises}
use Rattle.nack_union.specs.Kept.{Marked, closed_marks}
use Rattle.nack_union.specs.Adding.{IsPlanned}
use Rattle.nack_union.proofs.Came.{all_at}

pub planned_set : (ms : List Marked) (i : ℕ) (new : Marked) → AllByRecursion IsPlanned ms → IsPlanned new → AllByRecursion IsPlanned (set ms i new)
planned_set [] i new all one = tt
planned_set (m ∷ ms) zero new all one = (one, all.1)
planned_set (m ∷ ms) (suc i) new all one = (all.0, planned_set ms i new all.1 one)

pub planned_pushed : (ms : List Marked) (m : Marked) → AllByRecursion IsPlanned ms → IsPlanned m → AllByRecursion IsPlanned (ms ++ m ∷ [])
planned_pushed [] m all one = (one, tt)
planned_pushed (x ∷ ms) m all one = (all.0, planned_pushed ms m all.1 one)

pub planned_drop : (n : ℕ) (ms : List Marked) → AllByRecursion IsPlanned ms → AllByRecursion IsPlanned (drop n ms)
planned_drop zero ms all = all
planned_drop (suc n) [] all = tt
planned_drop (suc n) (m ∷ ms) all = planned_drop n ms all.1

pub planned_take : (n : ℕ) (ms : List Marked) → AllByRecursion IsPlanned ms → AllByRecursion IsPlanned (take n ms)
planned_take zero ms all = tt
planned_take (suc n) [] all = tt
planned_take (suc n) (m ∷ ms) all = (all.0, planned_take n ms all.1)

-- other wants, and other symbols that were sent
pub planned_wants : (m : Marked) (wants : List ℕ) → IsPlanned m → IsPlanned (record m { wants = wants })
planned_wants m wants plan = record { sound = plan.sound; closed = plan.closed; whole = plan.whole; few = plan.few; counts = plan.counts; kept = plan.kept; rises = plan.rises }

pub planned_sent : (m : Marked) (sent : List ℕ) → IsPlanned m → IsPlanned (record m { sent = sent })
planned_sent m sent plan = record { sound = plan.sound; closed = plan.closed; whole = plan.whole; few = plan.few; counts = plan.counts; kept = plan.kept; rises = plan.rises }

-- an object of which the round is closed
planned_closed : (m : Marked) → IsPlanned m → IsPlanned (closed_marks m)
unfolding is_member
planned_closed m plan = record {
  sound = plan.sound;
  closed = plan.closed;
  whole = plan.whole;
  few = plan.few;
  counts = λ block le. plan.counts block (let many = length-replicate {A = ℕ} (length m.counts) 0 in omega (arith, le, many));
  kept = λ slot here. absurd (cc);
  rises = tt;
}

pub all_closed : (ms : List Marked) → AllByRecursion IsPlanned ms → AllByRecursion IsPlanned (map closed_marks ms)
all_closed [] all = tt
all_closed (m ∷ ms) all = (planned_closed m all.0, all_closed ms all.1)

-- what is asked for of each rises
pub all_rise : (ms : List Marked) → AllByRecursion IsPlanned ms → AllByRecursion (λ m. Rises m.asked) ms
all_rise [] all = tt
all_rise (m ∷ ms) all = (all.0.rises, all_rise ms all.1)

-- the cut of an object that is there
pub sound_at : (ms : List Marked) (k : ℕ) (m : Marked) → AllByRecursion IsPlanned ms → slice_get ms k ≡ Some m → IsSound m.cut
sound_at ms k m all there = subst (λ (x : Marked). IsSound x.cut) (get_or_from_slice_get ms k m m there) (all_at ms k m all (slice_get_within ms k m there)).sound
