-- Taking up the plan of an object (RFC 5740 section 4.1 on EXT_FTI).
use Rattle.std.specs.Prelude.{ℕ, ◌+◌, ◌*◌, ◌==◌, ◌&&◌, ◌||◌, not, [], ◌∷◌, map, filter, sum, Bool, true, false, nat_lt, nat_le, None, Some, is_some, is_none}
use Rattle.std.specs.Bool.{beq}
use Rattle.norm_base.specs.Settings.{Settings}
use Rattle.fec_plan.specs.Partition.{first_fault}
use Rattle.norm_ext.specs.declared.fti.Fti.{Fti}
use Rattle.norm_order.specs.First.{first_where}
use Rattle.norm_order.specs.Sets.{with_member}
use Rattle.norm_receive_rules.specs.Holding.{Holding, Plan, new_plan}
use Rattle.norm_receive_rules.specs.Plans.{says_stream, cut_by, plan_of, is_over}
use Rattle.norm_receive_rules.specs.declared.words.Fit.{Fit}
use Rattle.norm_receive_rules.specs.declared.words.Fit.TheVariants as fit

-- a receiver takes up so many objects from the hand-up point on
abbrev pub most_ahead : ℕ
most_ahead = 256

-- how many octets an object takes: its length, and of a stream its buffer
abbrev pub room_of : Settings → Fti → ℕ → ℕ
room_of p f flags = elim (says_stream flags) [ true ↦ p.blocks * p.b * p.e | false ↦ f.l ]

-- the octets of all objects with a plan from the hand-up point on
abbrev pub room_taken : Settings → Holding → ℕ
room_taken p s = sum (map (λ (plan : Plan). room_of p plan.fti plan.flags) (filter (λ (plan : Plan). not (is_over s plan.index)) s.plans))

-- transmission information and flags say the same plan; of a stream the length says nothing
abbrev pub same_plan : Fti → ℕ → Plan → Bool
same_plan f flags plan =
    f.e == plan.fti.e && f.b == plan.fti.b && f.max_n == plan.fti.max_n && beq (says_stream flags) (says_stream plan.flags)
    && (says_stream flags || f.l == plan.fti.l)

-- it is the plan that is known of the object
abbrev pub is_known_plan : Holding → ℕ → Fti → ℕ → Bool
is_known_plan s index f flags = elim (plan_of s index) [ Some plan ↦ same_plan f flags plan | None ↦ false ]

-- the object is too far ahead, or is new and there is no room for it
abbrev pub is_away : Settings → Holding → ℕ → Fti → ℕ → Bool
is_away p s index f flags =
    nat_le (s.point.index + most_ahead) index
    || (is_none (plan_of s index) && nat_lt p.octets (room_taken p s + room_of p f flags))

-- the plan is refused, another one is known, or it is not of the profile
abbrev pub is_unfit : Settings → Holding → ℕ → Fti → ℕ → Bool
is_unfit p s index f flags =
    is_some (first_fault (cut_by f flags)) || is_some (plan_of s index)
    || not (f.e == p.e && f.b == p.b && f.max_n == p.max_n)

-- how transmission information fits: the first word that applies
abbrev pub fit_of : Settings → Holding → ℕ → Fti → ℕ → Fit
fit_of p s index f flags = elim (first_where (
    (is_over s index || is_known_plan s index f flags, fit.Known)
    ∷ (is_away p s index f flags, fit.Away)
    ∷ (is_unfit p s index f flags, fit.Unfit)
    ∷ []
    )) [ Some word ↦ word | None ↦ fit.Taken ]

-- plans are ordered by index
abbrev pub plan_before : Plan → Plan → Bool
plan_before a b = nat_lt a.index b.index

-- the plan that is taken up
abbrev pub with_plan : ℕ → Fti → ℕ → Holding → Holding
with_plan index f flags s = record s { plans = with_member plan_before (new_plan index f flags) s.plans }

-- after transmission information came: a plan that is taken up is known
abbrev pub fitted : Fit → ℕ → Fti → ℕ → Holding → Holding
fitted fit.Taken index f flags s = with_plan index f flags s
fitted _ index f flags s = s

-- a symbol with this transmission information may be kept
abbrev pub lets_put : Fit → Bool
lets_put fit.Known = true
lets_put fit.Away = false
lets_put fit.Unfit = false
lets_put fit.Taken = true
