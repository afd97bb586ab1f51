-- Marks, over what a sender keeps.
use Rattle.std.proofs.Common.{◌≡◌, ◌≢◌, ◌∙◌, ℕ, ◌+◌, [], ◌∷◌, ◌++◌, length, ◌⊎◌, inl, inr, Option, Some, None, Result, Ok, Err, Bool, true, false, refl, sym, ap, subst}
use Rattle.std.specs.Prelude.{nat_le}
use Rattle.norm_base.specs.Settings.{Settings}
use Rattle.norm_base.specs.declared.node.Origin.{Origin}
use Rattle.fec_plan.specs.declared.position.Position.{Position}
use Rattle.norm_order.specs.Segments as segments
use Rattle.norm_order.specs.Shapes.{last_source}
use Rattle.norm_send_rules.specs.SenderState.{SenderState, Watermark}
use Rattle.norm_send_rules.specs.InWindow.{current_shapes}
use Rattle.norm_send_rules.specs.Watermarks.{settled, open_watermarks}
use Rattle.norm_send_rules.specs.Streaming.{cut}
use Rattle.norm_send_rules.specs.Marking.{marked, with_watermark, watermark_at, is_no_quorum, most_open}
use Rattle.norm_send_rules.specs.declared.fault.MarkFault.{MarkFault}
use Rattle.norm_send_rules.specs.declared.fault.MarkFault.TheVariants.{Quorum, NothingEnqueued, TooMany, Memory}
use Rattle.norm_send_rules.specs.declared.job.Receipt.{Receipt}
use Rattle.norm_send_rules.specs.declared.job.Receipt.TheVariants.{Mark}
use Rattle.mark_book.specs.Answers.{asked_for, numbered, quorum_refused}
use Rattle.norm_sender.specs.SenderKept.{SenderKept, Agrees}

-- a mark by the state behind the cut and the last source symbol
abbrev marked_by : Settings → SenderState → Origin → Option ℕ → SenderState × Result Receipt MarkFault → SenderState × Result Receipt MarkFault
marked_by p s by quorum step = elim (quorum_refused p quorum) [ Some fault ↦ (s, Err fault) | None ↦ step ]

marked_where : (p : Settings) (s : SenderState) (by : Origin) (quorum : Option ℕ)
    → marked p s by quorum ≡ marked_by p s by quorum (watermark_at (cut p s) by quorum (last_source (current_shapes p (cut p s))))
marked_where p s by None = refl
marked_where p s by (Some q) = go (is_no_quorum p q)
  where
    go : (no : Bool) → (elim no as (λ _. SenderState × Result Receipt MarkFault) [
      | true ↦ (s, Err (Quorum q))
      | false ↦ watermark_at (cut p s) by (Some q) (last_source (current_shapes p (cut p s)))
    ])
        ≡ (elim (elim no as (λ _. Option MarkFault) [ true ↦ Some (Quorum q) | false ↦ None ]) as (λ _. SenderState × Result Receipt MarkFault) [
          | Some fault ↦ (s, Err fault)
          | None ↦ watermark_at (cut p s) by (Some q) (last_source (current_shapes p (cut p s)))
        ])
    go true = refl
    go false = refl

pub marked_refused : (p : Settings) (s : SenderState) (by : Origin) (quorum : Option ℕ) (fault : MarkFault) → quorum_refused p quorum ≡ Some fault
    → marked p s by quorum ≡ (s, Err fault)
marked_refused p s by quorum fault is =
    marked_where p s by quorum
    ∙ ap (λ (o : Option MarkFault). elim o as (λ v. SenderState × Result Receipt MarkFault) [
      | Some f ↦ (s, Err f)
      | None ↦ watermark_at (cut p s) by quorum (last_source (current_shapes p (cut p s)))
    ]) is

pub marked_is : (p : Settings) (s : SenderState) (by : Origin) (quorum : Option ℕ) (end : Option Position) → quorum_refused p quorum ≡ None
    → end ≡ last_source (current_shapes p (cut p s)) → marked p s by quorum ≡ asked_for p (cut p s) by quorum end
marked_is p s by quorum end some is =
    marked_where p s by quorum
    ∙ ap (λ (o : Option MarkFault). elim o as (λ v. SenderState × Result Receipt MarkFault) [
      | Some f ↦ (s, Err f)
      | None ↦ watermark_at (cut p s) by quorum (last_source (current_shapes p (cut p s)))
    ]) some
    ∙ ap (λ (at : Option Position). watermark_at (cut p s) by quorum at) (sym is)
    ∙ sym (ap (λ (o : Option MarkFault). elim o as (λ v. SenderState × Result Receipt MarkFault) [
      | Some f ↦ (cut p s, Err f)
      | None ↦ watermark_at (cut p s) by quorum end
    ]) some)

-- a mark, by what is asked of the book once the open stream is cut
pub marks_by : (k new : SenderKept) (s : SenderState) (by : Origin) (quorum : Option ℕ) (end : Option Position) (answer : Result Receipt MarkFault)
    → Agrees k s → quorum_refused k.p quorum ≡ None → end ≡ last_source (current_shapes k.window.p (cut k.window.p s))
    → Agrees new (asked_for k.p (cut k.p s) by quorum end).0 × (answer ≡ (asked_for k.p (cut k.p s) by quorum end).1)
    → Agrees new (marked k.p s by quorum).0 × (answer ≡ (marked k.p s by quorum).1)
marks_by k new s by quorum end answer h some is after =
    let there : end ≡ last_source (current_shapes k.p (cut k.p s)) = subst (λ (q : Settings). end ≡ last_source (current_shapes q (cut q s))) h.window_profile is in
    subst (λ (step : SenderState × Result Receipt MarkFault). Agrees new step.0 × (answer ≡ step.1)) (sym (marked_is k.p s by quorum end some there)) after

-- a quorum that can be none is refused before that
pub refuses_quorum : (k : SenderKept) (s : SenderState) (by : Origin) (quorum : Option ℕ) (fault : MarkFault) → Agrees k s → quorum_refused k.p quorum ≡ Some fault
    → Agrees k (marked k.p s by quorum).0 × (Err fault ≡ (marked k.p s by quorum).1)
refuses_quorum k s by quorum fault h is =
    subst (λ (step : SenderState × Result Receipt MarkFault). Agrees k step.0 × (Err fault ≡ step.1)) (sym (marked_refused k.p s by quorum fault is)) (h, refl)

-- where nothing was enqueued nothing is asked for
pub asked_nothing : (p : Settings) (s : SenderState) (by : Origin) (quorum : Option ℕ) → quorum_refused p quorum ≡ None
    → asked_for p s by quorum None ≡ (s, Err NothingEnqueued)
asked_nothing p s by quorum none =
    ap (λ (o : Option MarkFault). elim o as (λ _. SenderState × Result Receipt MarkFault) [ Some f ↦ (s, Err f) | None ↦ watermark_at s by quorum None ]) none

-- What the book answered.

abbrev many_open : SenderState → Origin → Option ℕ → Position → Bool → SenderState × Result Receipt MarkFault
many_open s by quorum at many = elim many [
  | true ↦ (s, Err (TooMany (length (open_watermarks s))))
  | false ↦ (with_watermark s by quorum at, Ok (Mark (length s.watermarks + 1) at))
]

abbrev asked_where : SenderState → Origin → Option ℕ → Position → Option MarkFault → Bool → SenderState × Result Receipt MarkFault
asked_where s by quorum at found many = elim found [ Some fault ↦ (s, Err fault) | None ↦ many_open s by quorum at many ]

refused_where : (s : SenderState) (by : Origin) (quorum : Option ℕ) (at : Position) (fault : MarkFault) (found : Option MarkFault) (many : Bool)
    → Err fault ≡ numbered (asked_where s by quorum at found many).1 → asked_where s by quorum at found many ≡ (s, Err fault)
refused_where s by quorum at fault (Some f) many e = let same : fault ≡ f = cc in ap (λ g. (s, Err g)) (sym same)
refused_where s by quorum at fault None true e = let same : fault ≡ TooMany (length (open_watermarks s)) = cc in ap (λ g. (s, Err g)) (sym same)
refused_where s by quorum at fault None false e = absurd (cc)

pub asked_refused : (p : Settings) (s : SenderState) (by : Origin) (quorum : Option ℕ) (at : Position) (fault : MarkFault)
    → Err fault ≡ numbered (asked_for p s by quorum (Some at)).1 → asked_for p s by quorum (Some at) ≡ (s, Err fault)
asked_refused p s by quorum at fault e =
    refused_where s by quorum at fault (quorum_refused p quorum) (nat_le most_open (length (open_watermarks s))) e

given_where : (s : SenderState) (by : Origin) (quorum : Option ℕ) (at : Position) (mark : ℕ) (found : Option MarkFault) (many : Bool)
    → Ok mark ≡ numbered (asked_where s by quorum at found many).1
    → asked_where s by quorum at found many ≡ (with_watermark s by quorum at, Ok (Mark mark at))
given_where s by quorum at mark (Some f) many e = absurd (cc)
given_where s by quorum at mark None true e = absurd (cc)
given_where s by quorum at mark None false e =
    let same : mark ≡ length s.watermarks + 1 = cc in ap (λ (n : ℕ). (with_watermark s by quorum at, Ok (Mark n at))) (sym same)

pub asked_given : (p : Settings) (s : SenderState) (by : Origin) (quorum : Option ℕ) (at : Position) (mark : ℕ)
    → Ok mark ≡ numbered (asked_for p s by quorum (Some at)).1
    → asked_for p s by quorum (Some at) ≡ (with_watermark s by quorum at, Ok (Mark mark at))
asked_given p s by quorum at mark e =
    given_where s by quorum at mark (quorum_refused p quorum) (nat_le most_open (length (open_watermarks s))) e

-- the state with one more watermark, before the count of flushes is looked at
abbrev pub joined_by : Origin → Option ℕ → Position → SenderState → SenderState
joined_by by quorum at s =
    let w : Watermark = record { mark = length s.watermarks + 1; by = by; at = at; quorum = quorum; ended = None } in
    settled (record s { watermarks = s.watermarks ++ w ∷ [] })

-- a refusal is of one fault, whatever would have been answered
pub as_numbered : (f g : MarkFault) → ◌≡◌ {A = Result Receipt MarkFault} (Err f) (Err g) → ◌≡◌ {A = Result ℕ MarkFault} (Err f) (Err g)
as_numbered f g e = let same : f ≡ g = cc in ap (λ (h : MarkFault). Err h) same

pub as_receipt : (f g : MarkFault) → ◌≡◌ {A = Result ℕ MarkFault} (Err f) (Err g) → ◌≡◌ {A = Result Receipt MarkFault} (Err f) (Err g)
as_receipt f g e = let same : f ≡ g = cc in ap (λ (h : MarkFault). Err h) same

pub memory_or_not : (r : Result Receipt MarkFault) → (r ≡ Err Memory) ⊎ (r ≢ Err Memory)
memory_or_not (Ok receipt) = inr (λ e. cc)
memory_or_not (Err (Quorum q)) = inr (λ e. cc)
memory_or_not (Err NothingEnqueued) = inr (λ e. cc)
memory_or_not (Err (TooMany count)) = inr (λ e. cc)
memory_or_not (Err Memory) = inl refl

pub memory_fault : (f : MarkFault) → (f ≡ Memory) ⊎ (f ≢ Memory)
memory_fault (Quorum q) = inr (λ e. cc)
memory_fault NothingEnqueued = inr (λ e. cc)
memory_fault (TooMany count) = inr (λ e. cc)
memory_fault Memory = inl refl
