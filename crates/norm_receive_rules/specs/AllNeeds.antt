-- What a receiver needs (RFC 5740 section 5.3): object by object from the hand-up point on.
use Rattle.std.specs.Prelude.{ℕ, zero, suc, ◌+◌, ◌-◌, max, Bool, true, false, Option, None, Some}
use Rattle.norm_base.specs.Settings.{Settings}
use Rattle.fec_plan.specs.Points.{Point}
use Rattle.fec_plan.specs.declared.position.Position.{Position}
use Rattle.norm_receive_rules.specs.Holding.{Holding, Plan}
use Rattle.norm_receive_rules.specs.Lazy.{Lazy, Nil, Next, followed_by, lazily}
use Rattle.norm_receive_rules.specs.Plans.{says_stream, plan_of}
use Rattle.norm_receive_rules.specs.Needs.{Need, farthest_index, is_covered, info_needs, object_needs, unknown_needs}
use Rattle.norm_receive_rules.specs.ReceiverState.{ReceiverState}
use Rattle.norm_receive_rules.specs.StreamNeeds.{stream_needs}

-- what is needed of an object with a plan: its info, and its symbols
abbrev pub planned_needs : Settings → Option Point → Option Position → Holding → Plan → Lazy Need
planned_needs p farthest flush s plan = followed_by (lazily (info_needs s plan (is_covered farthest flush plan.index))) (λ u.
    elim (says_stream plan.flags) [ true ↦ stream_needs p farthest flush s plan | false ↦ object_needs farthest flush s plan ])

-- what is needed of the object with this index
abbrev pub needs_of : Settings → Option Point → Option Position → Holding → ℕ → Lazy Need
needs_of p farthest flush s index = elim (plan_of s index) [
  | Some plan ↦ planned_needs p farthest flush s plan
  | None ↦ lazily (unknown_needs index (is_covered farthest flush index))
]

-- what is needed of n objects from this index on
unfoldable pub needs_from : ℕ → Settings → Option Point → Option Position → Holding → ℕ → Lazy Need
needs_from zero p farthest flush s index = Nil
needs_from (suc n) p farthest flush s index =
    followed_by (needs_of p farthest flush s index) (λ u. needs_from n p farthest flush s (suc index))

-- one more than the last index that was seen or flushed
abbrev pub last_known : Option Point → Option Position → ℕ
last_known farthest flush = max (farthest_index farthest) (elim flush [ Some at ↦ at.index | None ↦ 0 ]) + 1

-- All that is needed of what is held, by the farthest point and the flush, as it is asked for. Of objects behind both
-- nothing is.
abbrev pub needs_by : Settings → Option Point → Option Position → Holding → Lazy Need
needs_by p farthest flush s = needs_from (last_known farthest flush - s.point.index) p farthest flush s s.point.index

-- all that is needed
abbrev pub needs : Settings → ReceiverState → Lazy Need
needs p s = needs_by p s.knows.farthest s.knows.flush s.holding

-- nothing is needed
abbrev pub needs_nothing : Settings → ReceiverState → Bool
needs_nothing p s = elim (needs p s) [ Nil ↦ true | Next need rest ↦ false ]
