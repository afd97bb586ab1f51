-- What is promised of the rule and its judge.
use Rattle.std.specs.Prelude.{◌≡◌, ◌≢◌, ◌⊎◌, ◌↔◌, ℕ, ◌==◌, List, [], ◌++◌, Contains, Bool, true, false, Option, None, Some, Ok, option_and_then}
use Rattle.std.specs.List.{list_any}
use Rattle.std.specs.Option.{option_map}
use Rattle.fec_plan.specs.Points.{reaches}
use Rattle.fec_plan.specs.declared.position.Position.{Position}
use Rattle.norm_script.specs.Commands.{Commands}
use Rattle.norm_send_rules.specs.Commanding.{commanded}
use Rattle.norm_send_rules.specs.Telling.{listing_of}
use Rattle.norm_send_rules.specs.Ticking.{is_idle}
use Rattle.norm_send_rules.specs.Watermarks.{open_watermarks, has_member}
use Rattle.norm_send_rules.specs.declared.job.Job.{Job}
use Rattle.norm_send_rules.specs.declared.job.Job.TheVariants as job
use Rattle.norm_send_rules.specs.declared.job.Receipt.{Receipt}
use Rattle.norm_journal.specs.declared.event.Event.{Event}
use Rattle.norm_journal.specs.declared.event.Event.TheVariants as event
use Rattle.norm_safety.specs.WorldStep.{run_from}
use Rattle.norm_journal.specs.Accepting.{accepts}
use Rattle.norm_journal.specs.Jobs.{Told}
use Rattle.norm_persist.specs.declared.account.Account.{Account}
use Rattle.norm_persist.specs.Accepting.{accepts_persisting, persisted_from}
use Rattle.norm_persist.specs.Accounts.{is_silent, last_position}
use Rattle.norm_persist.specs.Persisted.{Persisted, led_to, own_due, own_name, lacks_now, may_own}
use Rattle.norm_persist.specs.InWorld.{world_events_persisting}
use Rattle.norm_persist.specs.PersistRun.{persisted, Ending, Whole, GivenUp, ending_of, is_lacking, status_of}

-- Each front of a run is one, and what comes after it goes on from the state that it leaves.
abbrev pub RunsByFronts : Type 0
RunsByFronts = (x : Persisted) (front rest : List Event)
    → persisted_from x (front ++ rest) ≡ option_and_then (λ next. persisted_from next rest) (persisted_from x front)

-- the beginning of a turn, and the summary
abbrev pub is_bound : Event → Bool
is_bound (event.Turn turn now) = true
is_bound event.End = true
is_bound _ = false

-- Where no own command is due, each event but these two is judged as it is in a run that does not persist.
abbrev pub OthersAsEver : Type 0
OthersAsEver = (x : Persisted) (e : Event) → own_due x ≡ None → is_bound e ≡ false → accepts_persisting x e ≡ option_map (led_to x e) (accepts x.judged e)

-- a member's account
pub record OfMember (x : Persisted) (a : Account) : Type 0 where
  pub kept : Contains x.accounts a
  pub member : has_member a.node x.judged.world.sender ≡ true

-- a member that is silent, and one that is not
pub record IsSilent (x : Persisted) (a : Account) : Type 0 where
  pub member : OfMember x a
  pub silent : is_silent x.give_up a ≡ true

pub record IsHeard (x : Persisted) (a : Account) : Type 0 where
  pub member : OfMember x a
  pub heard : is_silent x.give_up a ≡ false

-- a member that lacks something
pub record IsLacking (x : Persisted) (a : Account) : Type 0 where
  pub member : OfMember x a
  pub lacks : lacks_now x a ≡ true

-- A mark is called for: the sender is idle, no watermark is open, a member lacks something, and the script has stopped.
pub record MarkCalledFor (x : Persisted) : Type 0 where
  pub idle : is_idle x.judged.profile x.judged.world.sender ≡ true
  pub none_open : open_watermarks x.judged.world.sender ≡ []
  pub lacking : (a : Account) × IsLacking x a
  pub stopped : (x.judged.waiting ≢ None) ⊎ (x.judged.left ≡ [])

-- What an own command says: a mark has no quorum, and is made only if one is called for and nobody is silent; a member is struck only if it is
-- silent and another is not.
abbrev pub IsDueBy : Persisted → Job → Type 0
IsDueBy x (job.Mark None) = MarkCalledFor x × ((a : Account) → IsSilent x a → ⊥)
IsDueBy x (job.Strike node) = ((a : Account) × IsSilent x a × (a.node ≡ node)) × ((a : Account) × IsHeard x a)
IsDueBy x _ = ⊥

-- An own command is due only in a turn that had none, before the sender's tick, and for its reason.
abbrev pub OwnHaveReasons : Type 0
OwnHaveReasons = (x : Persisted) (job : Job) → own_due x ≡ Some job → (may_own x ≡ true) × IsDueBy x job

-- Wherever there is that reason one is due: a silent member while another is heard, or else a mark that is called for.
pub record OwnComeInTime : Type 0 where
  pub strikes : (x : Persisted) (a b : Account) → may_own x ≡ true → IsSilent x a → IsHeard x b → (node : ℕ) × (own_due x ≡ Some (job.Strike node))
  pub marks : (x : Persisted) → may_own x ≡ true → MarkCalledFor x → ((a : Account) → IsSilent x a → ⊥) → own_due x ≡ Some (job.Mark None)

-- the receiver confirmed everything that was enqueued in the current instance
abbrev pub HasConfirmedAll : Persisted → Account → Type 0
HasConfirmedAll x a = (last : Position) → last_position x.judged.profile x.judged.world.sender ≡ Some last
    → (at : Position) × (a.confirmed ≡ Some at) × (reaches at last ≡ true)

-- every receiver, but for those that the script struck
abbrev pub AllConfirmed : Persisted → Type 0
AllConfirmed x = (a : Account) → Contains x.accounts a → a.excused ≡ false → HasConfirmedAll x a

-- A run that ended whole or given up has status 0 exactly if every receiver, but for those that the script struck, confirmed everything that
-- was accepted in the last instance; and else 15.
pub record StatusSays (x : Persisted) (ending : Ending) : Type 0 where
  pub zero : (status_of ending (is_lacking x) ≡ 0) ↔ AllConfirmed x
  pub other : (status_of ending (is_lacking x) ≡ 0) ⊎ (status_of ending (is_lacking x) ≡ 15)

abbrev pub StatusesSay : Type 0
StatusesSay = (x : Persisted) (ending : Ending) → ending_of x ≡ Some ending → (ending ≡ Whole) ⊎ (ending ≡ GivenUp) → StatusSays x ending

-- No own command of a run is refused.
abbrev pub OwnAreAccepted : Type 0
OwnAreAccepted = (script : Commands) (files : Told) (nodes : List ℕ) (give_up : Option ℕ) (events : List Event) (x : Persisted) (own : Job)
    → persisted script files nodes give_up events ≡ Some x → own_due x ≡ Some own
    → (receipt : Receipt) × ((commanded x.judged.profile x.judged.world.sender (own_name x) own).1 ≡ Ok receipt)

-- A journal moves the nodes as its events do in the world, own commands too.
abbrev pub PersistingMovesTheWorld : Type 0
PersistingMovesTheWorld = (x last : Persisted) (events : List Event) → persisted_from x events ≡ Some last
    → run_from x.judged.profile x.judged.world (world_events_persisting x events) ≡ last.judged.world

-- In each state of a run what a member confirmed is what it is listed past, unless a rise of it is still to be told.
abbrev pub ConfirmedIsListed : Type 0
ConfirmedIsListed = (script : Commands) (files : Told) (nodes : List ℕ) (give_up : Option ℕ) (events : List Event) (x : Persisted) (a : Account)
    → persisted script files nodes give_up events ≡ Some x → OfMember x a → list_any (λ node. node == a.node) x.judged.world.sender.untold_nodes ≡ false
    → a.confirmed ≡ listing_of x.judged.world.sender a.node
