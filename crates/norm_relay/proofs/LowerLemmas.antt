-- Jobs for the session below.
use Rattle.std.proofs.Common.{◌≡◌, ℕ, ◌+◌, ◌⊎◌, inl, inr, Bool, true, false, Option, None, Some, Result, Ok, Err, refl, sym, ap, ◌∙◌, subst}
use Rattle.std.specs.Prelude.{◌≢◌, IsSome, IfOk, is_ok, if◌then◌else◌}
use Rattle.norm_base.specs.Settings.{Settings}
use Rattle.norm_base.specs.declared.fault.Memory.{Memory as NoMemory}
use Rattle.norm_order.specs.declared.up.Up.{Up}
use Rattle.norm_send_rules.specs.Commanding.{commanded}
use Rattle.norm_send_rules.specs.SenderState.{SenderState}
use Rattle.norm_send_rules.specs.declared.fault.SendFault.{SendFault}
use Rattle.norm_send_rules.specs.declared.fault.SendFault.TheVariants.{Memory}
use Rattle.norm_send_rules.specs.declared.job.Job.{Job}
use Rattle.norm_send_rules.specs.declared.job.Job.TheVariants as job
use Rattle.norm_send_rules.specs.declared.job.Receipt.{Receipt}
use Rattle.norm_sender.specs.Commands.{answer_of, GivesBack}
use Rattle.norm_sender.specs.SenderKept.{SenderKept, Stands}
use Rattle.norm_relay.specs.Flat.{leaves_open}
use Rattle.norm_relay.specs.Offering.{answers, offers_job, offers, IsOffered, IsBack, IsRefused}
use Rattle.norm_relay.specs.Pumping.{commands, counts, passes}
use Rattle.norm_relay.specs.RelayKept.{RelayKept, Agrees, below}
use Rattle.norm_relay.specs.RelayState.{Relaying}
use Rattle.norm_relay.specs.Waiting.{waiting_of, job_at, job_opens}
use Rattle.norm_relay.specs.declared.pumping.Lower.{Lower}
use Rattle.norm_relay.specs.declared.pumping.Offer.{Offer}
use Rattle.norm_relay.specs.declared.pumping.Offer.TheVariants as offer
use Rattle.norm_relay.specs.declared.waiting.Waiting.{Waiting}
use Rattle.norm_relay.specs.declared.waiting.Waiting.TheVariants.{Given, Lost}
use Rattle.norm_relay.proofs.WaitingLemmas.{job_by, opens_by}

-- ---- a job is given

abbrev pub lower_of : SenderKept → Bool → ℕ → Lower
lower_of sender opened jobs = record { sender = sender; opened = opened; jobs = jobs }

-- a relay agrees after a job as it did before, if the answer is not want of memory
abbrev pub Gives : Lower → Lower → ℕ → Job → Result Receipt SendFault → Type 0
Gives old new now given result = (k : RelayKept) (x : Relaying) → Agrees (below old k) x → result ≢ Err Memory
    → Agrees (below new k) (commands now given x).0 × (result ≡ (commands now given x).1)

abbrev pub Commands : Lower → Lower → ℕ → Job → Result Receipt SendFault → Type 0
Commands old new now given answer = (k : RelayKept) (x : Relaying) → Agrees (below old k) x
    → Agrees (below new k) (commands now given x).0 × (answer ≡ (commands now given x).1)

abbrev counted_as : Bool → ℕ → ℕ → ℕ
counted_as accepted number before = if accepted then number else before

counting : (result : Result Receipt (Option Job × SendFault)) (n : ℕ) → counted_as (is_ok result) (n + 1) n ≡ counts (answer_of result) n
counting (Ok receipt) n = refl
counting (Err refusal) n = refl

pub gives : (l : Lower) (sender : SenderKept) (jobs number now : ℕ) (accepted : Bool) (given : Job) (result : Result Receipt (Option Job × SendFault))
    → sender.p ≡ l.sender.p → number ≡ l.jobs + 1 → accepted ≡ is_ok result → jobs ≡ (if accepted then number else l.jobs)
    → ((s : SenderState) → Stands l.sender s → answer_of result ≢ Err Memory
    → Stands sender (commanded l.sender.p s (record { producer = 1; number = number }) given).0
    × (answer_of result ≡ (commanded l.sender.p s (record { producer = 1; number = number }) given).1))
    → Gives l (lower_of sender l.opened jobs) now given (answer_of result)
gives l sender jobs number now accepted given result same next ok count h k x a other =
    let s : SenderState = x.lower.world.sender in
    let P : Settings → ℕ → Type 0 = λ q n. Stands sender (commanded q s (record { producer = 1; number = n }) given).0
    × (answer_of result ≡ (commanded q s (record { producer = 1; number = n }) given).1) in
    let after : P x.lower.p (x.jobs + 1) =
    subst (λ (q : Settings). P q (x.jobs + 1)) a.lower.profile
    (subst (λ n. P l.sender.p n) (next ∙ ap (λ n. n + 1) a.lower.jobs) (h s a.lower.sender other)) in (
      record {
        upper = record { profile = a.upper.profile; member = a.upper.member; receiver = a.upper.receiver };
        lower = record {
          profile = same ∙ a.lower.profile;
          sender = after.0;
          opened = a.lower.opened;
          jobs =
              count ∙ ap (λ b. counted_as b number l.jobs) ok ∙ ap (λ n. counted_as (is_ok result) n l.jobs) next ∙ counting result l.jobs
              ∙ ap (counts (answer_of result)) a.lower.jobs ∙ ap (λ (r : Result Receipt SendFault). counts r x.jobs) after.1;
        };
        held = a.held;
      },
      after.1,
    )

ok_other : (r : Result Receipt SendFault) (receipt : Receipt) → r ≡ Ok receipt → r ≢ Err Memory
ok_other r receipt is e = no (sym is ∙ e)
  where
    no : Ok receipt ≡ Err Memory → ⊥
    no e = cc

same_fault : (a b : SendFault) (r : Result Receipt SendFault) → r ≡ Err a → r ≡ Err b → a ≡ b
same_fault a b r e f = cc

err_other : (r : Result Receipt SendFault) (fault : SendFault) → r ≡ Err fault → fault ≢ Memory → r ≢ Err Memory
err_other r fault is other e = other (same_fault fault Memory r is e)

-- a job that came back was not refused for want of memory
not_memory : (given : Job) (refusal : Option Job × SendFault) → GivesBack given refusal → IsSome refusal.0 → refusal.1 ≢ Memory
not_memory given refusal (inl lacked) some = absurd (no refusal.0 lacked.1 some)
  where
    no : (o : Option Job) → o ≡ None → IsSome o → ⊥
    no None is some = cc
    no (Some given) is some = cc
not_memory given refusal (inr other) some = other.0

-- a job that was accepted, and one that was refused
pub command_ok : (old new : Lower) (now : ℕ) (given : Job) (result : Result Receipt (Option Job × SendFault)) (receipt : Receipt)
    → Gives old new now given (answer_of result) → result ≡ Ok receipt → Commands old new now given (Ok receipt)
command_ok old new now given result receipt h is k x a =
    let answer : answer_of result ≡ Ok receipt = ap answer_of is in
    let step = h k x a (ok_other (answer_of result) receipt answer) in (step.0, sym answer ∙ step.1)

pub command_err : (old new : Lower) (now : ℕ) (given : Job) (result : Result Receipt (Option Job × SendFault)) (refusal : Option Job × SendFault) (fault : SendFault)
    → Gives old new now given (answer_of result) → result ≡ Err refusal → GivesBack given refusal → fault ≡ refusal.1 → IsSome refusal.0
    → Commands old new now given (Err fault)
command_err old new now given result refusal fault h is back same some k x a =
    let answer : answer_of result ≡ Err fault = ap answer_of is ∙ ap Err (sym same) in
    let other : fault ≢ Memory = λ e. not_memory given refusal back some (sym same ∙ e) in
    let step = h k x a (err_other (answer_of result) fault answer other) in (step.0, sym answer ∙ step.1)

-- ---- the first that waits is offered

-- a hand-up is done with, and leaves a stream open or none
pub passes_agrees : (u : Up) (l : Lower) (opened : Bool) (k : RelayKept) (x : Relaying) → Agrees (below l k) x → opened ≡ leaves_open u
    → Agrees (below (lower_of l.sender opened l.jobs) k) (passes u x)
passes_agrees u l opened k x a is = record {
  upper = record { profile = a.upper.profile; member = a.upper.member; receiver = a.upper.receiver };
  lower = record { profile = a.lower.profile; sender = a.lower.sender; opened = is; jobs = a.lower.jobs };
  held = a.held;
}

-- a job of what waits was accepted
accepted : (old new : Lower) (now : ℕ) (given : Job) (opened : Bool) (w : Waiting) (receipt : Receipt) (k : RelayKept) (x : Relaying) (u : Up)
    → Commands old new now given (Ok receipt) → Agrees (below old k) x → w ≡ waiting_of u → job_at x.opened w ≡ Some given → opened ≡ leaves_open u
    → IsOffered k (lower_of new.sender opened new.jobs) w (offer.Done 1) (offers now u x)
accepted old new now given opened w receipt k x u h a is job leaves =
    let step = h k x a in
    subst (IsOffered k (lower_of new.sender opened new.jobs) w (offer.Done 1))
    (sym (ap (offers_job now u x) (job_by x.opened w u is ∙ job) ∙ ap (answers u (commands now given x).0) (sym step.1)))
    (refl, passes_agrees u new opened k (commands now given x).0 step.0 leaves)

refused_job : (old new : Lower) (now : ℕ) (given : Job) (w : Waiting) (fault : SendFault) (k : RelayKept) (x : Relaying) (u : Up)
    → Commands old new now given (Err fault) → Agrees (below old k) x → w ≡ waiting_of u → job_at x.opened w ≡ Some given
    → IsOffered k new w (offer.Refused w fault) (offers now u x)
refused_job old new now given w fault k x u h a is job =
    let step = h k x a in
    subst (IsOffered k new w (offer.Refused w fault))
    (sym (ap (offers_job now u x) (job_by x.opened w u is ∙ job) ∙ ap (answers u (commands now given x).0) (sym step.1)))
    (refl, step.0)

pub job_accepted : (old new : Lower) (now : ℕ) (given : Job) (opened : Bool) (result : Result Receipt (Option Job × SendFault)) (receipt : Receipt)
    → Gives old new now given (answer_of result) → result ≡ Ok receipt → opened ≡ job_opens given
    → (k : RelayKept) (x : Relaying) (u : Up) → Agrees (below old k) x → Given given ≡ waiting_of u
    → IsOffered k (lower_of new.sender opened new.jobs) (Given given) (offer.Done 1) (offers now u x)
job_accepted old new now given opened result receipt h ok leaves k x u a is =
    accepted old new now given opened (Given given) receipt k x u (command_ok old new now given result receipt h ok) a is refl
    (leaves ∙ opens_by (Given given) u is)

back_is : (given : Job) (refusal : Option Job × SendFault) (said : Offer) → GivesBack given refusal → IsRefused refusal said
    → (said ≡ offer.Refused (Given given) refusal.1) × IsSome refusal.0
back_is given refusal said back refused = go refusal.0 (back_of back) refused
  where
    back_of : GivesBack given refusal → (refusal.0 ≡ None) ⊎ (refusal.0 ≡ Some given)
    back_of (inl lacked) = inl lacked.1
    back_of (inr other) = inr other.1

    go : (o : Option Job) → (o ≡ None) ⊎ (o ≡ Some given) → IsBack o refusal.1 said → (said ≡ offer.Refused (Given given) refusal.1) × IsSome o
    go None which refused = absurd refused
    go (Some other) (inl none) refused = absurd (cc)
    go (Some other) (inr same) refused = (refused ∙ ap (λ (j : Job). offer.Refused (Given j) refusal.1) (inside other given same), refl)
      where
        inside : (a b : Job) → Some a ≡ Some b → a ≡ b
        inside a b e = cc

pub job_refused : (old new : Lower) (now : ℕ) (given : Job) (result : Result Receipt (Option Job × SendFault)) (refusal : Option Job × SendFault) (said : Offer)
    → Gives old new now given (answer_of result) → result ≡ Err refusal → GivesBack given refusal → IsRefused refusal said
    → (k : RelayKept) (x : Relaying) (u : Up) → Agrees (below old k) x → Given given ≡ waiting_of u
    → IsOffered k new (Given given) said (offers now u x)
job_refused old new now given result refusal said h err back refused k x u a is =
    let b = back_is given refusal said back refused in
    subst (λ (o : Offer). IsOffered k new (Given given) o (offers now u x)) (sym b.0)
    (refused_job old new now given (Given given) refusal.1 k x u
    (command_err old new now given result refusal refusal.1 h err back refl b.1) a is refl)

-- a loss closes a stream that is open, and is nothing else
pub loss_accepted : (index : ℕ) (old new : Lower) (now : ℕ) (receipt : Receipt) → Commands old new now job.Close (Ok receipt) → old.opened ≡ true
    → (k : RelayKept) (x : Relaying) (u : Up) → Agrees (below old k) x → Lost index ≡ waiting_of u
    → IsOffered k (lower_of new.sender false new.jobs) (Lost index) (offer.Done 1) (offers now u x)
loss_accepted index old new now receipt h opened k x u a is =
    accepted old new now job.Close false (Lost index) receipt k x u h a is (ap (λ b. job_at b (Lost index)) (sym a.lower.opened ∙ opened)) (opens_by (Lost index) u is)

pub loss_refused : (index : ℕ) (old new : Lower) (now : ℕ) (fault : SendFault) → Commands old new now job.Close (Err fault) → old.opened ≡ true
    → (k : RelayKept) (x : Relaying) (u : Up) → Agrees (below old k) x → Lost index ≡ waiting_of u
    → IsOffered k new (Lost index) (offer.Refused (Lost index) fault) (offers now u x)
loss_refused index old new now fault h opened k x u a is =
    refused_job old new now job.Close (Lost index) fault k x u h a is (ap (λ b. job_at b (Lost index)) (sym a.lower.opened ∙ opened))

pub loss_passed : (index : ℕ) (l : Lower) (now : ℕ) → l.opened ≡ false → (k : RelayKept) (x : Relaying) (u : Up) → Agrees (below l k) x → Lost index ≡ waiting_of u
    → IsOffered k l (Lost index) (offer.Done 0) (offers now u x)
loss_passed index l now closed k x u a is =
    subst (IsOffered k l (Lost index) (offer.Done 0))
    (sym (ap (offers_job now u x) (job_by x.opened (Lost index) u is ∙ ap (λ b. job_at b (Lost index)) (sym a.lower.opened ∙ closed))))
    (refl, passes_agrees u l l.opened k x a (closed ∙ opens_by (Lost index) u is))

-- the same, if the refusal was not want of memory
pub if_refused : (old new : Lower) (now : ℕ) (given : Job) (result : Result Receipt (Option Job × SendFault)) (refusal : Option Job × SendFault)
    (said : Result Offer NoMemory) → Gives old new now given (answer_of result) → result ≡ Err refusal → GivesBack given refusal
    → IfOk said (λ o. IsRefused refusal o)
    → IfOk said (λ o. (k : RelayKept) (x : Relaying) (u : Up) → Agrees (below old k) x → Given given ≡ waiting_of u
    → IsOffered k new (Given given) o (offers now u x))
if_refused old new now given result refusal (Ok said) h err back refused = job_refused old new now given result refusal said h err back refused
if_refused old new now given result refusal (Err memory) h err back refused = refused

-- an answer by what it is
pub commands_as : (old new : Lower) (now : ℕ) (given : Job) (answer r : Result Receipt SendFault) → Commands old new now given answer → answer ≡ r
    → Commands old new now given r
commands_as old new now given answer r h is = subst (λ (a : Result Receipt SendFault). Commands old new now given a) is h
