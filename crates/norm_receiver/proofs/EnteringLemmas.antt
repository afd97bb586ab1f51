-- A message of an instance that begins, by the index that it names.
use Rattle.std.proofs.Common.{◌≡◌, ℕ, Option, Some, None, ap, subst}
use Rattle.std.specs.Prelude.{unwrap_or}
use Rattle.norm_base.specs.Settings.{Settings}
use Rattle.norm_ext.specs.ObjectIds.{index_named}
use Rattle.norm_receive_rules.specs.ReceiverState.{ReceiverState}
use Rattle.norm_receive_rules.specs.BackingOff.{may_need}
use Rattle.norm_receive_rules.specs.Receiving.{learns, takes_in}
use Rattle.norm_receiver.specs.Receiving.{said_received}
use Rattle.norm_receiver.specs.ReceiverKept.{ReceiverKept, Stands}
use Rattle.norm_receiver.specs.declared.receiving.Said.{Said}

-- what becomes of a state as an index was named or not
abbrev taken : Settings → ℕ → ℕ → (ℕ → ReceiverState → ReceiverState) → ReceiverState → ReceiverState → Option ℕ → ReceiverState
taken p now draw received t s found = unwrap_or (elim found as (λ _. Option ReceiverState) [
  | Some index ↦ Some (may_need p now draw (received index (record t { knows = learns index t.knows })))
  | None ↦ None
]) s

pub named_in : (k : ReceiverKept) (q p : Settings) (now draw object index : ℕ) (said : Said) (t s : ReceiverState) → q ≡ p
    → Some index ≡ index_named p t.knows.known object
    → Stands k (may_need q now draw (said_received q said index (record t { knows = learns index t.knows })))
    → Stands k (unwrap_or (takes_in p now draw object (said_received p said) t) s)
named_in k q p now draw object index said t s same e stands =
    subst (λ (u : ReceiverState). Stands k u) (ap (taken p now draw (said_received p said) t s) e)
    (subst (λ (r : Settings). Stands k (may_need r now draw (said_received r said index (record t { knows = learns index t.knows })))) same stands)
