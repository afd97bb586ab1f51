-- A sender refuses a file by its name and its length.
use Rattle.std.proofs.Common.{◌≡◌, ℕ, List, [], ◌∷◌, length, Option, None, Some, Result, Ok, Err, refl, sym, ap, ◌∙◌}
use Rattle.std.specs.Prelude.{◌==◌, not, nat_lt, replicate, is_some}
use lib.ListN.{length-replicate}
use Rattle.norm_base.specs.Settings.{Settings}
use Rattle.norm_base.specs.declared.node.Origin.{Origin}
use Rattle.norm_order.specs.First.{first_where}
use Rattle.norm_send_rules.specs.Commanding.{commanded, refused_as}
use Rattle.norm_send_rules.specs.Enqueuing.{object_fault, info_length, open_stream, ids_spent}
use Rattle.norm_send_rules.specs.InWindow.{next_index, last_index}
use Rattle.norm_send_rules.specs.Room.{can_make_room}
use Rattle.norm_send_rules.specs.SenderState.{SenderState}
use Rattle.norm_send_rules.specs.declared.fault.EnqueueFault.{EnqueueFault}
use Rattle.norm_send_rules.specs.declared.fault.EnqueueFault.TheVariants as enqueue
use Rattle.norm_send_rules.specs.declared.fault.SendFault.TheVariants as send
use Rattle.norm_send_rules.specs.declared.job.Job.TheVariants as job
use Rattle.norm_send_rules.specs.declared.job.Receipt.{Receipt}
use Rattle.norm_send_rules.specs.declared.job.Receipt.TheVariants as receipt
use Rattle.norm_journal.specs.Laws.{FilesGoByLength}

-- what an object of a length gives
abbrev gives_by : ℕ → ℕ → Option EnqueueFault → Result Receipt EnqueueFault
gives_by index len fault = elim fault [ Some why ↦ Err why | None ↦ Ok (receipt.Object index len) ]

abbrev with_state : {S : Type 0} → S → S → ℕ → ℕ → Option EnqueueFault → S × Result Receipt EnqueueFault
with_state s next index len fault = elim fault [ Some why ↦ (s, Err why) | None ↦ (next, Ok (receipt.Object index len)) ]

answer_is : {S : Type 0} (s next : S) (index len : ℕ) (fault : Option EnqueueFault) → (with_state s next index len fault).1 ≡ gives_by index len fault
answer_is s next index len None = refl
answer_is s next index len (Some why) = refl

-- why an object of a length is refused
abbrev fault_by : Settings → SenderState → List ℕ → ℕ → Option EnqueueFault
fault_by p s name len = first_where (
    (len == 0, enqueue.Empty)
    ∷ (nat_lt p.octets len, enqueue.TooBig len)
    ∷ (nat_lt p.e (info_length (Some name)), enqueue.InfoTooBig (info_length (Some name)))
    ∷ (is_some (open_stream s), enqueue.StreamOpen (last_index s))
    ∷ (ids_spent s, enqueue.IdsSpent)
    ∷ (not (can_make_room p s len), enqueue.WindowFull s.current.drop.index)
    ∷ []
    )

file_gives : (p : Settings) (s : SenderState) (by : Origin) (name octets : List ℕ)
    → (commanded p s by (job.File name octets)).1 ≡ refused_as send.Enqueue (gives_by (next_index s) (length octets) (fault_by p s name (length octets)))
file_gives p s by name octets =
    ap (refused_as send.Enqueue) (answer_is s _ (next_index s) (length octets) (object_fault p s (Some name) octets))

pub files_by_length : FilesGoByLength
files_by_length p s by name octets =
    file_gives p s by name octets
    ∙ ap (λ n. refused_as send.Enqueue (gives_by (next_index s) n (fault_by p s name n))) (sym (length-replicate {A = ℕ} (length octets) 0))
    ∙ sym (file_gives p s by name (replicate (length octets) 0))
