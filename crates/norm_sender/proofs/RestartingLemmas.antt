-- Restarts, over what a sender keeps.
use Rattle.std.proofs.Common.{◌≡◌, ◌∙◌, ℕ, Bool, true, false, Result, Ok, Err, sym, ap}
use Rattle.norm_send_rules.specs.SenderState.{SenderState}
use Rattle.norm_send_rules.specs.Restarting.{begun_anew, is_used, restarted}
use Rattle.norm_send_rules.specs.declared.fault.SendFault.{SendFault}
use Rattle.norm_send_rules.specs.declared.fault.SendFault.TheVariants.{IdUsed}
use Rattle.norm_send_rules.specs.declared.job.Receipt.{Receipt}
use Rattle.norm_send_rules.specs.declared.job.Receipt.TheVariants.{Restarted}

-- a restart by whether its id is used
abbrev restarted_if : SenderState → ℕ → Bool → SenderState × Result Receipt SendFault
restarted_if s id used = elim used [ true ↦ (s, Err (IdUsed id)) | false ↦ (begun_anew id s, Ok (Restarted id)) ]

pub not_restarted : (s : SenderState) (id : ℕ) (used : Bool) → used ≡ is_used s id → used ≡ true → restarted s id ≡ (s, Err (IdUsed id))
not_restarted s id used is e = ap (restarted_if s id) (sym is ∙ e)

pub is_restarted : (s : SenderState) (id : ℕ) (used : Bool) → used ≡ is_used s id → used ≡ false → restarted s id ≡ (begun_anew id s, Ok (Restarted id))
is_restarted s id used is e = ap (restarted_if s id) (sym is ∙ e)
