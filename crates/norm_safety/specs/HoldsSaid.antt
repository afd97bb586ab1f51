-- Tied, part 3: what a receiver holds was said, and what it handed up, with what was not taken yet, goes in order.
use Rattle.std.specs.Prelude.{ℕ, ◌≡◌, ◌/◌, ◌==◌, ◌&&◌, ◌||◌, List, [], ◌∷◌, ◌++◌, Bool, true, nat_eq, None, Some, IsTrue, IfSome}
use Rattle.std.specs.List.{list_all, list_any, AllByRecursion}
use Rattle.std.specs.Cmp.Lexicographic.{pointwise}
use Rattle.std.specs.Option.{option_eq}
use Rattle.norm_base.specs.Settings.{Settings}
use Rattle.fec_plan.specs.Points.{same_position}
use Rattle.norm_ext.specs.Extensions.{Extension, fti_of}
use Rattle.norm_ext.specs.Message.{InfoMessage, DataMessage}
use Rattle.norm_ext.specs.declared.head.ObjHead.{ObjHead}
use Rattle.norm_order.specs.declared.up.Up.{Up}
use Rattle.norm_order.specs.declared.up.Up.TheVariants as up
use Rattle.norm_receive_rules.specs.ReceiverState.{ReceiverState}
use Rattle.norm_receive_rules.specs.Holding.{Plan, Held, HeldInfo}
use Rattle.norm_safety.specs.Hands.{hands}
use Rattle.norm_safety.specs.History.{History}
use Rattle.norm_safety.specs.InOrder.{GoesThrough, goes_through, drop_of}
use Rattle.norm_safety.specs.OnceEach.{order_of}
use Rattle.norm_safety.specs.Said.{About, said_infos, said_data, place_of}
use Rattle.norm_safety.specs.SaysSymbols.{same_fti}
use Rattle.norm_safety.specs.World.{World}

-- a message of an instance says a plan
abbrev pub says_plan : ℕ → Plan → ℕ → ObjHead → List Extension → Bool
says_plan id plan index head extensions =
    head.instance == id && index == plan.index && head.flags / 4 == plan.flags / 4
    && option_eq same_fti (fti_of extensions) (Some plan.fti)

-- a plan was said in an instance
abbrev pub plan_said : World → ℕ → Plan → Bool
plan_said w id plan =
    list_any (λ (x : About DataMessage). says_plan id plan x.index x.message.head x.message.extensions) (said_data w)
    || list_any (λ (x : About InfoMessage). says_plan id plan x.index x.message.head x.message.extensions) (said_infos w)

-- a symbol that is held was said in an instance
abbrev pub symbol_said : World → ℕ → Held → Bool
symbol_said w id held = list_any
    (λ (x : About DataMessage). x.message.head.instance == id && same_position (place_of x) held.at && pointwise nat_eq x.message.payload held.octets)
    (said_data w)

-- an info that is held was said in an instance
abbrev pub info_said_of : World → ℕ → HeldInfo → Bool
info_said_of w id held = list_any
    (λ (x : About InfoMessage). x.message.head.instance == id && x.index == held.index && pointwise nat_eq x.message.info held.info)
    (said_infos w)

-- what a node handed up in an instance, with what it handed up and was not taken yet
abbrev pub handed_by : History → ReceiverState → ℕ → List Up
handed_by h r id = hands h.happened r.node id ++ r.holding.ups

-- the objects that hand-ups report lost
abbrev pub losses_in : List Up → List ℕ
losses_in [] = []
losses_in (up.Lost index ∷ ups) = index ∷ losses_in ups
losses_in (_ ∷ ups) = losses_in ups

-- a receiver in an instance: its plans, symbols and infos were said there; its hand-ups go through the order, and what
-- it counts as lost is what they report
pub record HoldsIn (p : Settings) (h : History) (r : ReceiverState) (id : ℕ) : Type 0 where
  pub plans : AllByRecursion (λ plan. IsTrue (plan_said h.now id plan)) r.holding.plans
  pub symbols : AllByRecursion (λ held. IsTrue (symbol_said h.now id held)) r.holding.held
  pub infos : AllByRecursion (λ held. IsTrue (info_said_of h.now id held)) r.holding.infos
  pub order : GoesThrough p (drop_of h.now.sender id) 0 (order_of h.now.sender id) (handed_by h r id)
  pub lost : r.holding.lost ≡ losses_in (handed_by h r id)

-- of each receiver that is in an instance
pub record HoldsSaid (p : Settings) (h : History) : Type 0 where
  pub each : AllByRecursion (λ (r : ReceiverState). IfSome r.instance (HoldsIn p h r)) h.now.receivers

-- The same as a test.
abbrev pub holds_in : Settings → History → ReceiverState → ℕ → Bool
holds_in p h r id =
    list_all (plan_said h.now id) r.holding.plans && list_all (symbol_said h.now id) r.holding.held && list_all (info_said_of h.now id) r.holding.infos
    && goes_through p (drop_of h.now.sender id) 0 (order_of h.now.sender id) (handed_by h r id)
    && pointwise nat_eq r.holding.lost (losses_in (handed_by h r id))

-- of each receiver that is in an instance
abbrev pub holds_said : Settings → History → Bool
holds_said p h = list_all (λ (r : ReceiverState). elim r.instance [ Some id ↦ holds_in p h r id | None ↦ true ]) h.now.receivers
