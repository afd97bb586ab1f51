-- Commands, over what a sender keeps.
use Rattle.std.proofs.Common.{◌≡◌, ◌≢◌, ◌∙◌, ◌⊎◌, inl, inr, [], Option, Some, None, Result, Ok, Err, refl, sym, ap, subst}
use Rattle.norm_base.specs.Settings.{Settings}
use Rattle.norm_base.specs.declared.node.Origin.{Origin}
use Rattle.norm_order.specs.Entries as stream
use Rattle.norm_send_rules.specs.SenderState.{SenderState}
use Rattle.norm_send_rules.specs.Commanding.{commanded, answered, refused_as}
use Rattle.norm_send_rules.specs.Enqueuing.{joined}
use Rattle.norm_send_rules.specs.InWindow.{next_index}
use Rattle.norm_send_rules.specs.Streaming.{open_fault, opened}
use Rattle.norm_send_rules.specs.declared.job.Job.{Job}
use Rattle.norm_send_rules.specs.declared.job.Job.TheVariants.{Open}
use Rattle.norm_send_rules.specs.declared.job.Receipt.{Receipt}
use Rattle.norm_send_rules.specs.declared.job.Receipt.TheVariants.{Opened}
use Rattle.norm_send_rules.specs.declared.fault.SendFault.{SendFault}
use Rattle.norm_send_rules.specs.declared.fault.SendFault.TheVariants.{Enqueue, Mark, Strike, IdUsed, Memory}
use Rattle.norm_send_rules.specs.declared.fault.EnqueueFault.{EnqueueFault}
use Rattle.norm_send_rules.specs.declared.fault.EnqueueFault.TheVariants.{Memory as NoRoom}
use Rattle.tx_window.specs.Taking.{IsUnopened}
use Rattle.norm_sender.specs.Commands.{Obeys, open_refusal}
use Rattle.norm_sender.specs.SenderKept.{SenderKept, Agrees}

-- How a command is answered.

same_fault : (f g : SendFault) → ◌≡◌ {A = Result Receipt SendFault} (Err f) (Err g) → f ≡ g
same_fault f g e = cc

pub refused : (old new : SenderKept) (job : Job) (back : Option Job) (fault : SendFault) → fault ≢ Memory → back ≡ Some job
    → ((s : SenderState) (by : Origin) → Agrees old s → Agrees new (commanded old.p s by job).0 × (Err fault ≡ (commanded old.p s by job).1))
    → Obeys old new job (Err (back, fault))
refused old new job back fault some is h = record {
  stands = λ s by a other. h s by a;
  back = inr (some, is);
  memory = λ e. absurd (some (same_fault fault Memory e));
}

pub lacking_or_not : (r : Result Receipt SendFault) → (r ≡ Err Memory) ⊎ (r ≢ Err Memory)
lacking_or_not (Ok receipt) = inr (λ e. cc)
lacking_or_not (Err (Enqueue fault)) = inr (λ e. cc)
lacking_or_not (Err (Mark fault)) = inr (λ e. cc)
lacking_or_not (Err (Strike fault)) = inr (λ e. cc)
lacking_or_not (Err (IdUsed id)) = inr (λ e. cc)
lacking_or_not (Err Memory) = inl refl

-- a part's receipt as the sender's
pub as_sender : (new : SenderKept) (receipt : Receipt) (step : SenderState × Result Receipt EnqueueFault) → Agrees new step.0 × (Ok receipt ≡ step.1)
    → Agrees new (answered Enqueue step).0 × (Ok receipt ≡ (answered Enqueue step).1)
as_sender new receipt step h = (h.0, ap (refused_as Enqueue) h.1)

-- a part that answers what its rule says, as a command
pub part_obeys : (old new : SenderKept) (job : Job) (step : SenderState → Origin → SenderState × Result Receipt EnqueueFault) (receipt : Receipt)
    (answer : Result Receipt EnqueueFault) → ((s : SenderState) (by : Origin) → commanded old.p s by job ≡ answered Enqueue (step s by)) → answer ≡ Ok receipt
    → ((s : SenderState) (by : Origin) → Agrees old s → Agrees new (step s by).0 × (answer ≡ (step s by).1)) → Obeys old new job (Ok receipt)
part_obeys old new job step receipt answer rule is h = record {
  stands = λ s by a some.
      subst (λ (y : SenderState × Result Receipt SendFault). Agrees new y.0 × (Ok receipt ≡ y.1)) (sym (rule s by))
      ((h s by a).0, ap (refused_as Enqueue) (sym is ∙ (h s by a).1));
  back = tt;
  memory = λ e. absurd (never e);
}
  where
    never : ◌≡◌ {A = Result Receipt SendFault} (Ok receipt) (Err Memory) → ⊥
    never e = cc

pub part_refuses : (old new : SenderKept) (job : Job) (step : SenderState → Origin → SenderState × Result Receipt EnqueueFault) (fault : EnqueueFault)
    (answer : Result Receipt EnqueueFault) → ((s : SenderState) (by : Origin) → commanded old.p s by job ≡ answered Enqueue (step s by)) → answer ≡ Err fault
    → ((s : SenderState) (by : Origin) → Agrees old s → Agrees new (step s by).0 × (answer ≡ (step s by).1)) → Obeys old new job (Err (Some job, Enqueue fault))
part_refuses old new job step fault answer rule is h =
    refused old new job (Some job) (Enqueue fault) (λ e. never e) refl (λ s by a.
    subst (λ (y : SenderState × Result Receipt SendFault). Agrees new y.0 × (Err (Enqueue fault) ≡ y.1)) (sym (rule s by))
    ((h s by a).0, ap (refused_as Enqueue) (sym is ∙ (h s by a).1)))
  where
    never : Enqueue fault ≡ Memory → ⊥
    never e = cc

-- a receipt of a part, as a command's
pub got : (old new : SenderKept) (job : Job) (step : SenderState → Origin → SenderState × Result Receipt EnqueueFault) (receipt : Receipt)
    → ((s : SenderState) (by : Origin) → commanded old.p s by job ≡ answered Enqueue (step s by))
    → ((s : SenderState) (by : Origin) → Agrees old s → Agrees new (step s by).0 × (Ok receipt ≡ (step s by).1)) → Obeys old new job (Ok receipt)
got old new job step receipt rule h = part_obeys old new job step receipt (Ok receipt) rule refl h

-- why a stream was not opened, as a command is answered
not_opened : (p : Settings) (s : SenderState) (by : Origin) (fault : EnqueueFault) → open_fault p s ≡ Some fault → opened p s by ≡ (s, Err fault)
not_opened p s by fault is =
    ap (λ (r : Option EnqueueFault). elim r as (λ v. SenderState × Result Receipt EnqueueFault) [
      | Some f ↦ (s, Err f)
      | None ↦ (joined p by (stream.Stream []) s, Ok (Opened (next_index s)))
    ]) is

pub open_refuses : (old new : SenderKept) (fault : EnqueueFault) → new ≡ old → ((s : SenderState) → Agrees old s → IsUnopened old.p s fault)
    → Obeys old new Open (Err (open_refusal fault))
open_refuses old new fault same why = go fault refl
  where
    known : (f : EnqueueFault) → fault ≡ f → (f ≡ NoRoom → ⊥) → Obeys old new Open (Err (Some Open, Enqueue f))
    known f is some =
        refused old new Open (Some Open) (Enqueue f) (λ e. never f e) refl (λ s by a.
        let step : opened old.p s by ≡ (s, Err f) = by_rule s by a (why s a) in (
          subst (λ (y : SenderState × Result Receipt EnqueueFault). Agrees new y.0) (sym step) (subst (λ (k : SenderKept). Agrees k s) (sym same) a),
          sym (ap (λ (y : SenderState × Result Receipt EnqueueFault). refused_as Enqueue y.1) step),
        ))
      where
        never : (g : EnqueueFault) → Enqueue g ≡ Memory → ⊥
        never g e = cc

        by_rule : (s : SenderState) (by : Origin) → Agrees old s → IsUnopened old.p s fault → opened old.p s by ≡ (s, Err f)
        by_rule s by a (inl lacking) = absurd (some (sym is ∙ lacking))
        by_rule s by a (inr found) = not_opened old.p s by f (found ∙ ap Some is)

    go : (f : EnqueueFault) → fault ≡ f → Obeys old new Open (Err (open_refusal f))
    go NoRoom is = record { stands = λ s by a some. absurd (some refl); back = inl (refl, refl); memory = λ e. same }
    go f is = known f is (λ e. cc)
