-- A fault that `?` hands on: what was said of it, and its cause, from what each call of the outside says of its count.
use Rattle.std.proofs.Common.{◌≡◌, ℕ, sym, ap, ◌∙◌, subst}
use Rattle.std.specs.Prelude.{Result, Ok, Err, IfErr, OnOk}
use Rattle.norm_base.specs.Faults.{Counts, network_failed}
use Rattle.norm_base.specs.declared.fault.FabricFault.{FabricFault}
use Rattle.norm_base.specs.declared.fault.FabricFault.TheVariants as network_fault
use Rattle.norm_turns.specs.Causes.{Counted, counted, counts_after, session_fault, HasCause, NetworkCause}
use Rattle.norm_turns.specs.declared.fault.SessionFault.{SessionFault}

-- what a call leaves where it answered a fault
pub at_fault : {T : Type 0} (P : SessionFault → Type 0) (r : Result T SessionFault) (y fault : SessionFault) → r ≡ Err y → y ≡ fault → P fault → IfErr r P
at_fault P r y fault is same h = subst (λ s. IfErr s P) (sym is) (subst P (sym same) h)

-- ---- what a call's clause says of another one's result

pub on_ok : {T : Type 0} {P Q : Type 0} (result : Result T SessionFault) → (P → Q) → OnOk result P → OnOk result Q
on_ok (Ok x) f h = f h
on_ok (Err e) f h = h

pub on_err : {T : Type 0} (P Q : SessionFault → Type 0) (result : Result T SessionFault) → ((failed : SessionFault) → P failed → Q failed) → IfErr result P → IfErr result Q
on_err P Q (Ok x) f h = h
on_err P Q (Err e) f h = f e h

-- ---- causes

of_network : (T X : Type 0) (failed : FabricFault) (before now : ℕ) → Counts before now (network_failed {T = X} (Err failed))
    → NetworkCause {T = T} (Err (session_fault failed)) before now
of_network T X network_fault.Failed before now counts output files = ap (λ n. counted output n files) counts.exact
of_network T X network_fault.Memory before now counts output files = ap (λ n. counted output n files) counts.exact

-- a failed call of the network
pub network_cause : (T X : Type 0) (result : Result T SessionFault) (fault : SessionFault) (failed : FabricFault) (before now : ℕ) → result ≡ Err fault
    → fault ≡ session_fault failed → Counts before now (network_failed {T = X} (Err failed)) → NetworkCause result before now
network_cause T X result fault failed before now is same counts =
    subst (λ r. NetworkCause {T = T} r before now) (sym (is ∙ ap Err same)) (of_network T X failed before now counts)

-- parts went well, and then a fault came
pub cause_exit : (T : Type 0) (result : Result T SessionFault) (fault failed : SessionFault) (before between now : Counted) → result ≡ Err fault → fault ≡ failed
    → between ≡ before → now ≡ counts_after failed between → HasCause result before now
cause_exit T result fault failed before between now is same well after =
    subst (λ r. HasCause {T = T} r before now) (sym (is ∙ ap Err same)) (after ∙ ap (counts_after failed) well)
