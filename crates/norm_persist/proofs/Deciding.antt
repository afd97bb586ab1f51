-- What is due, by who is silent first, whether all are, and whether a mark is called for.
use Rattle.std.proofs.Common.{◌≡◌, ℕ, Bool, true, false, Option, None, Some, refl, sym, ap}
use Rattle.std.specs.Prelude.{◌&&◌}
use Rattle.std.specs.Option.{option_map}
use Rattle.std.proofs.lemmas.Option.{none-some, same_Some}
use Rattle.norm_send_rules.specs.declared.job.Job.{Job}
use Rattle.norm_persist.specs.declared.account.Account.{Account}
use Rattle.norm_persist.specs.Persisting.{struck_unless, marked_if}
use Rattle.norm_persist.proofs.Tests.{clash}

-- what is due, by who is silent first
abbrev due_by : Option Account → Bool → Bool → Option Job
due_by first all called = elim first as (λ _. Option Job) [ Some a ↦ struck_unless all a.node | None ↦ marked_if called ]

pub with_first : (first : Option Account) (all called : Bool) (node : ℕ) → Some node ≡ option_map (λ (a : Account). a.node) first → struck_unless all node ≡ due_by first all called
with_first None all called node e = absurd (none-some node (sym e))
with_first (Some a) all called node e = ap (struck_unless all) (same_Some node a.node e)

pub without_first : (first : Option Account) (all called : Bool) → None ≡ option_map (λ (a : Account). a.node) first → marked_if called ≡ due_by first all called
without_first None all called e = refl
without_first (Some a) all called e = absurd (none-some a.node e)

pub not_stopped : (stopped rest : Bool) → stopped ≡ false → false ≡ (stopped && rest)
not_stopped true rest e = absurd (clash (sym e))
not_stopped false rest e = refl

pub not_idle : (stopped idle none lacks : Bool) → idle ≡ false → false ≡ (stopped && (idle && none && lacks))
not_idle true true none lacks e = absurd (clash (sym e))
not_idle true false none lacks e = refl
not_idle false idle none lacks e = refl
