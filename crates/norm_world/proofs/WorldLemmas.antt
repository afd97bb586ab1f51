-- A call of a world by its steps, and what an offer leaves.
use Rattle.std.proofs.Common.{◌≡◌, ℕ, List, [], ◌∷◌, ◌++◌, Option, None, Some, Bool, true, false, refl, sym, ap, ◌∙◌, subst}
use Rattle.std.specs.Prelude.{find, IfNone, OnErr, Result, Ok, Err, IsTrue, ◌↔◌}
use Rattle.std.proofs.lemmas.List.Sums.{fold-append}
use Rattle.norm_base.specs.Settings.{Settings}
use Rattle.norm_ext.specs.Written.{Written}
use Rattle.norm_receiver.specs.ReceiverKept.{ReceiverKept}
use Rattle.norm_sender.specs.SenderKept.{SenderKept}
use Rattle.norm_safety.specs.Events.{Event, Answer, Offered, Silent}
use Rattle.norm_safety.specs.World.{World, is_of, offers}
use Rattle.norm_safety.specs.WorldStep.{world_step, run}
use Rattle.norm_safety.specs.World.{world_opening}
use Rattle.norm_world.specs.WorldKept.{WorldKept, StandsFor}
use Rattle.norm_world.specs.WorldMoves.{IsEvent}

abbrev pub kept : Settings → SenderKept → List ReceiverKept → WorldKept
kept p sender receivers = record { p = p; sender = sender; receivers = receivers }

-- the world after one event more
pub run_more : (p : Settings) (events : List Event) (event : Event) → run p (events ++ event ∷ []) ≡ (world_step p (run p events) event).0
run_more p events event = fold-append (λ w e. (world_step p w e).0) (world_opening p) events (event ∷ [])

-- an event by its steps, under one profile
pub is_event : (old new : WorldKept) (event : Event) (Fits : Answer → Type 0) → new.p ≡ old.p
    → ((w : World) → StandsFor old w → StandsFor new (world_step old.p w event).0 × Fits (world_step old.p w event).1)
    → IsEvent old new event Fits
is_event old new event Fits same steps = record {
  steps = steps;
  runs = λ events h.
      let after = steps (run old.p events) h in
      (subst (λ (v : World). StandsFor new v) (sym (run_more old.p events event) ∙ ap (λ (q : Settings). run q (events ++ event ∷ [])) (sym same)) after.0, after.1);
}

-- an offer leaves the nodes
pub an_offer : (k : WorldKept) (node : ℕ) (octets : List ℕ) → IsEvent k k (Offered node octets) (λ answer. answer ≡ Silent)
an_offer k node octets = is_event k k (Offered node octets) (λ answer. answer ≡ Silent) refl (λ w st. (go w (find (is_of node octets) w.given) st, refl))
  where
    go : (w : World) (found : Option (ℕ × Written)) → StandsFor k w → StandsFor k (offers found node w)
    go w None st = st
    go w (Some datagram) st = record { profile = st.profile; sender = st.sender; receivers = st.receivers }

-- what holds of a world by its parts holds of its value
pub turned : (k v new : WorldKept) (event : Settings → Event) (Fits : Answer → Type 0) → k ≡ v → IsEvent k new (event k.p) Fits
    → IsEvent v new (event v.p) Fits
turned k v new event Fits same h = subst (λ (u : WorldKept). IsEvent u new (event u.p) Fits) same h

-- a clause on None, by what it says
pub where_none : {X P Q : Type 0} (result : Option X) → IfNone result P → (P → Q) → IfNone result Q
where_none None h f = f h
where_none (Some x) h f = h

-- a clause on Err, by what it says
pub on_err : {T E P : Type 0} (result : Result T E) → P → OnErr result P
on_err (Ok t) h = tt
on_err (Err e) h = h
