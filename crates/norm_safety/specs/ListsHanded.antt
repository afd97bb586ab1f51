-- Tied, part 5: listings and outcomes are right, ids of instances rise, and each receiver goes on to ids above its own.
use Rattle.std.specs.Prelude.{ℕ, ◌==◌, ◌&&◌, List, [], ◌∷◌, Bool, true, nat_lt, None, IsTrue}
use Rattle.std.specs.List.{list_all, list_any, AllByRecursion}
use Rattle.norm_base.specs.Settings.{Settings}
use Rattle.norm_ext.specs.InstanceIds.{rise}
use Rattle.norm_receive_rules.specs.ReceiverState.{ReceiverState}
use Rattle.norm_send_rules.specs.Restarting.{first_id}
use Rattle.norm_safety.specs.History.{History}
use Rattle.norm_safety.specs.InOrder.{came_to}
use Rattle.norm_safety.specs.ListedAfter.{ListedAfter, is_listed_after}
use Rattle.norm_safety.specs.OnceEach.{instance_ids}
use Rattle.norm_safety.specs.SatisfiedExactly.{SatisfiedExactly, is_satisfied_exactly}

-- each id lies higher above the first instance's than the one before it
unfoldable pub go_up : ℕ → List ℕ → Bool
go_up first [] = true
go_up first (id ∷ ids) = list_all (λ other. nat_lt (rise first id) (rise first other)) ids && go_up first ids

-- the instances that a receiver came to are the sender's, in their order
abbrev pub follows : History → ReceiverState → Bool
follows h r =
    let ids = came_to r.node None h.happened in
    list_all (λ id. list_any (λ other. other == id) (instance_ids h.now.sender)) ids && go_up (first_id h.now.sender) ids

-- listings, outcomes, the ids of instances, and those that each receiver was in
pub record ListsHanded (p : Settings) (h : History) : Type 0 where
  pub listed : ListedAfter p h
  pub satisfied : SatisfiedExactly h
  pub ids : IsTrue (go_up (first_id h.now.sender) (instance_ids h.now.sender))
  pub came : AllByRecursion (λ r. IsTrue (follows h r)) h.now.receivers

-- The same as a test.
abbrev pub lists_handed : Settings → History → Bool
lists_handed p h =
    is_listed_after p h && is_satisfied_exactly h && go_up (first_id h.now.sender) (instance_ids h.now.sender)
    && list_all (follows h) h.now.receivers
