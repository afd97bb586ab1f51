-- What is held of one object, and what the rules say of it by itself (RFC 5740 section 5.2).
use Rattle.std.specs.Prelude.{ℕ, List, [], ◌∷◌, filter, not, Option, Some, None}
use Rattle.std.specs.List.{range_with_len}
use Rattle.fec_plan.specs.Partition.{blocks}
use Rattle.norm_order.specs.Sets.{with_member}
use Rattle.norm_receive_rules.specs.Holding.{Holding, Plan, Held, HeldInfo, holding_nothing}
use Rattle.norm_receive_rules.specs.Plans.{cut_of_plan, is_done}
use Rattle.norm_receive_rules.specs.Putting.{held_before}
use Rattle.norm_receive_rules.specs.declared.words.Put.{Put}
use Rattle.norm_receive_rules.specs.declared.words.Put.TheVariants as put
use Rattle.rx_object.specs.BlockState.{held_at}

-- an object: its plan, its info where that is held, and the symbols that are held, in order
pub record ObjectState : Type 0 where
  pub plan : Plan
  pub info : Option (List ℕ)
  pub held : List Held

-- an object of which nothing is held
abbrev pub empty_object : Plan → ObjectState
empty_object plan = record { plan = plan; info = None; held = [] }

-- an object's info, as a state holds it
abbrev pub infos_of : ObjectState → List HeldInfo
infos_of o = elim o.info [ Some info ↦ record { index = o.plan.index; info = info } ∷ [] | None ↦ [] ]

-- the state of a receiver that knows of this object alone
abbrev pub alone : ObjectState → Holding
alone o = record holding_nothing { plans = o.plan ∷ []; held = o.held; infos = infos_of o }

-- an object after a symbol came that got this word
abbrev pub offered_to : Put → ℕ → ℕ → List ℕ → ObjectState → ObjectState
offered_to put.Kept block symbol payload o =
    record o { held = with_member held_before (held_at o.plan.index block symbol payload) o.held }
offered_to _ block symbol payload o = o

-- the blocks of an object that are not done
abbrev pub short_blocks : ObjectState → List ℕ
short_blocks o = filter (λ block. not (is_done (alone o) o.plan block)) (range_with_len 0 (blocks (cut_of_plan o.plan)))
