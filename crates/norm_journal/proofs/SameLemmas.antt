-- Answers that are equal by the test are equal.
use Rattle.std.proofs.Common.{◌≡◌, ℕ, Bool, true, false, Option, None, Some, Result, Ok, Err, refl, ap, ◌∙◌}
use Rattle.std.specs.Prelude.{◌==◌, ◌&&◌, ⊤}
use Rattle.std.specs.Option.{option_eq}
use Rattle.std.proofs.lemmas.Bool.{eqb-true, eq-eqb}
use Rattle.fec_plan.specs.Points.{same_position}
use Rattle.fec_plan.proofs.PositionLemmas.{positions_same, position_itself}
use Rattle.norm_send_rules.specs.declared.job.Receipt.{Receipt}
use Rattle.norm_send_rules.specs.declared.job.Receipt.TheVariants as receipt
use Rattle.norm_send_rules.specs.declared.fault.EnqueueFault.{EnqueueFault}
use Rattle.norm_send_rules.specs.declared.fault.EnqueueFault.TheVariants as enqueue
use Rattle.norm_send_rules.specs.declared.fault.MarkFault.{MarkFault}
use Rattle.norm_send_rules.specs.declared.fault.MarkFault.TheVariants as mark
use Rattle.norm_send_rules.specs.declared.fault.StreamFault.{StreamFault}
use Rattle.norm_send_rules.specs.declared.fault.StreamFault.TheVariants as stream
use Rattle.norm_send_rules.specs.declared.fault.StrikeFault.{StrikeFault}
use Rattle.norm_send_rules.specs.declared.fault.StrikeFault.TheVariants as strike
use Rattle.norm_send_rules.specs.declared.fault.SendFault.{SendFault}
use Rattle.norm_send_rules.specs.declared.fault.SendFault.TheVariants as send
use Rattle.norm_send_rules.specs.declared.news.News.{News}
use Rattle.norm_send_rules.specs.declared.news.News.TheVariants as news
use Rattle.norm_send_rules.specs.declared.news.Outcome.{Outcome}
use Rattle.norm_send_rules.specs.declared.news.Outcome.TheVariants as outcome
use Rattle.norm_safety.specs.Events.{Answer, Gave, Sent, Took, Told, Silent}
use Rattle.norm_safety.specs.Fronts.{same_up}
use Rattle.norm_safety.specs.SatisfiedExactly.{same_outcome}
use Rattle.norm_safety.proofs.FrontLemmas.{ups_same, up_itself}
use Rattle.norm_safety.proofs.SatisfiedRun.{outcome_itself}
use Rattle.norm_journal.specs.Same.{same_receipt, same_stream, same_enqueue, same_mark, same_strike, same_fault, same_gave, same_news, same_answer}
use Rattle.norm_journal.proofs.NameLemmas.{both, both_true}

clash : false ≡ true → ⊥
clash e = cc

one : (a b : ℕ) → (a == b) ≡ true → a ≡ b
one a b e = eqb-true a b e

itself : (a : ℕ) → (a == a) ≡ true
itself a = eq-eqb a a refl

receipts_same : (a b : Receipt) → same_receipt a b ≡ true → a ≡ b
receipts_same (receipt.Object i len) (receipt.Object j octets) e =
    let two = both (i == j) (len == octets) e in ap (λ x. receipt.Object x len) (one i j two.0) ∙ ap (λ x. receipt.Object j x) (one len octets two.1)
receipts_same (receipt.Opened i) (receipt.Opened j) e = ap receipt.Opened (one i j e)
receipts_same (receipt.Wrote i offset len) (receipt.Wrote j other octets) e =
    let three = both (i == j && offset == other) (len == octets) e in
    let two = both (i == j) (offset == other) three.0 in
    ap (λ x. receipt.Wrote x offset len) (one i j two.0)
    ∙ ap (λ x. receipt.Wrote j x len) (one offset other two.1)
    ∙ ap (λ x. receipt.Wrote j other x) (one len octets three.1)
receipts_same (receipt.Closed i) (receipt.Closed j) e = ap receipt.Closed (one i j e)
receipts_same (receipt.Mark m at) (receipt.Mark n there) e =
    let two = both (m == n) (same_position at there) e in
    ap (λ x. receipt.Mark x at) (one m n two.0) ∙ ap (λ x. receipt.Mark n x) (positions_same at there two.1)
receipts_same (receipt.Restarted i) (receipt.Restarted j) e = ap receipt.Restarted (one i j e)
receipts_same (receipt.Struck a) (receipt.Struck b) e = ap receipt.Struck (one a b e)
receipts_same _ _ e = absurd (clash e)

receipt_itself : (a : Receipt) → same_receipt a a ≡ true
receipt_itself (receipt.Object i len) = both_true (i == i) (len == len) (itself i) (itself len)
receipt_itself (receipt.Opened i) = itself i
receipt_itself (receipt.Wrote i offset len) =
    both_true (i == i && offset == offset) (len == len) (both_true (i == i) (offset == offset) (itself i) (itself offset)) (itself len)
receipt_itself (receipt.Closed i) = itself i
receipt_itself (receipt.Mark m at) = both_true (m == m) (same_position at at) (itself m) (position_itself at)
receipt_itself (receipt.Restarted i) = itself i
receipt_itself (receipt.Struck a) = itself a

streams_same : (a b : StreamFault) → same_stream a b ≡ true → a ≡ b
streams_same stream.Closed stream.Closed e = refl
streams_same (stream.Spent a) (stream.Spent b) e = ap stream.Spent (one a b e)
streams_same (stream.Full a) (stream.Full b) e = ap stream.Full (one a b e)
streams_same _ _ e = absurd (clash e)

stream_itself : (a : StreamFault) → same_stream a a ≡ true
stream_itself stream.Closed = refl
stream_itself (stream.Spent a) = itself a
stream_itself (stream.Full a) = itself a

enqueues_same : (a b : EnqueueFault) → same_enqueue a b ≡ true → a ≡ b
enqueues_same enqueue.Empty enqueue.Empty e = refl
enqueues_same (enqueue.TooBig a) (enqueue.TooBig b) e = ap enqueue.TooBig (one a b e)
enqueues_same (enqueue.InfoTooBig a) (enqueue.InfoTooBig b) e = ap enqueue.InfoTooBig (one a b e)
enqueues_same (enqueue.StreamOpen a) (enqueue.StreamOpen b) e = ap enqueue.StreamOpen (one a b e)
enqueues_same enqueue.NoStream enqueue.NoStream e = refl
enqueues_same enqueue.IdsSpent enqueue.IdsSpent e = refl
enqueues_same (enqueue.Stream a) (enqueue.Stream b) e = ap enqueue.Stream (streams_same a b e)
enqueues_same (enqueue.WindowFull a) (enqueue.WindowFull b) e = ap enqueue.WindowFull (one a b e)
enqueues_same enqueue.Memory enqueue.Memory e = refl
enqueues_same _ _ e = absurd (clash e)

enqueue_itself : (a : EnqueueFault) → same_enqueue a a ≡ true
enqueue_itself enqueue.Empty = refl
enqueue_itself (enqueue.TooBig a) = itself a
enqueue_itself (enqueue.InfoTooBig a) = itself a
enqueue_itself (enqueue.StreamOpen a) = itself a
enqueue_itself enqueue.NoStream = refl
enqueue_itself enqueue.IdsSpent = refl
enqueue_itself (enqueue.Stream a) = stream_itself a
enqueue_itself (enqueue.WindowFull a) = itself a
enqueue_itself enqueue.Memory = refl

marks_same : (a b : MarkFault) → same_mark a b ≡ true → a ≡ b
marks_same (mark.Quorum a) (mark.Quorum b) e = ap mark.Quorum (one a b e)
marks_same mark.NothingEnqueued mark.NothingEnqueued e = refl
marks_same (mark.TooMany a) (mark.TooMany b) e = ap mark.TooMany (one a b e)
marks_same mark.Memory mark.Memory e = refl
marks_same _ _ e = absurd (clash e)

mark_itself : (a : MarkFault) → same_mark a a ≡ true
mark_itself (mark.Quorum a) = itself a
mark_itself mark.NothingEnqueued = refl
mark_itself (mark.TooMany a) = itself a
mark_itself mark.Memory = refl

strikes_same : (a b : StrikeFault) → same_strike a b ≡ true → a ≡ b
strikes_same (strike.NotMember a) (strike.NotMember b) e = ap strike.NotMember (one a b e)
strikes_same (strike.LastMember a) (strike.LastMember b) e = ap strike.LastMember (one a b e)
strikes_same _ _ e = absurd (clash e)

strike_itself : (a : StrikeFault) → same_strike a a ≡ true
strike_itself (strike.NotMember a) = itself a
strike_itself (strike.LastMember a) = itself a

faults_same : (a b : SendFault) → same_fault a b ≡ true → a ≡ b
faults_same (send.Enqueue a) (send.Enqueue b) e = ap send.Enqueue (enqueues_same a b e)
faults_same (send.Mark a) (send.Mark b) e = ap send.Mark (marks_same a b e)
faults_same (send.Strike a) (send.Strike b) e = ap send.Strike (strikes_same a b e)
faults_same (send.IdUsed a) (send.IdUsed b) e = ap send.IdUsed (one a b e)
faults_same send.Memory send.Memory e = refl
faults_same _ _ e = absurd (clash e)

fault_itself : (a : SendFault) → same_fault a a ≡ true
fault_itself (send.Enqueue a) = enqueue_itself a
fault_itself (send.Mark a) = mark_itself a
fault_itself (send.Strike a) = strike_itself a
fault_itself (send.IdUsed a) = itself a
fault_itself send.Memory = refl

gave_same : (a b : Result Receipt SendFault) → same_gave a b ≡ true → a ≡ b
gave_same (Ok a) (Ok b) e = ap Ok (receipts_same a b e)
gave_same (Err a) (Err b) e = ap Err (faults_same a b e)
gave_same _ _ e = absurd (clash e)

gave_itself : (a : Result Receipt SendFault) → same_gave a a ≡ true
gave_itself (Ok a) = receipt_itself a
gave_itself (Err a) = fault_itself a

outcomes_same : (a b : Outcome) → same_outcome a b ≡ true → a ≡ b
outcomes_same (outcome.Open a) (outcome.Open b) e = ap outcome.Open (one a b e)
outcomes_same outcome.Satisfied outcome.Satisfied e = refl
outcomes_same (outcome.Expired a) (outcome.Expired b) e = ap outcome.Expired (one a b e)
outcomes_same outcome.Cut outcome.Cut e = refl
outcomes_same _ _ e = absurd (clash e)

news_same : (a b : News) → same_news a b ≡ true → a ≡ b
news_same (news.Past a at) (news.Past b there) e =
    let two = both (a == b) (same_position at there) e in
    ap (λ x. news.Past x at) (one a b two.0) ∙ ap (λ x. news.Past b x) (positions_same at there two.1)
news_same (news.Done a o) (news.Done b p) e =
    let two = both (a == b) (same_outcome o p) e in ap (λ x. news.Done x o) (one a b two.0) ∙ ap (λ x. news.Done b x) (outcomes_same o p two.1)
news_same _ _ e = absurd (clash e)

news_itself : (a : News) → same_news a a ≡ true
news_itself (news.Past a at) = both_true (a == a) (same_position at at) (itself a) (position_itself at)
news_itself (news.Done a o) = both_true (a == a) (same_outcome o o) (itself a) (outcome_itself o)

pub maybe_same : {X : Type 0} (eq : X → X → Bool) → ((x y : X) → eq x y ≡ true → x ≡ y) → (a b : Option X) → option_eq eq a b ≡ true → a ≡ b
maybe_same eq each None None e = refl
maybe_same eq each None (Some y) e = absurd (clash e)
maybe_same eq each (Some x) None e = absurd (clash e)
maybe_same eq each (Some x) (Some y) e = ap Some (each x y e)

pub maybe_itself : {X : Type 0} (eq : X → X → Bool) → ((x : X) → eq x x ≡ true) → (a : Option X) → option_eq eq a a ≡ true
maybe_itself eq each None = refl
maybe_itself eq each (Some x) = each x

-- two answers that are equal by the test
pub answers_same : (a b : Answer) → same_answer a b ≡ true → a ≡ b
answers_same (Gave a) (Gave b) e = ap Gave (gave_same a b e)
answers_same (Took a) (Took b) e = ap Took (maybe_same same_up ups_same a b e)
answers_same (Told a) (Told b) e = ap Told (maybe_same same_news news_same a b e)
answers_same Silent Silent e = refl
answers_same _ _ e = absurd (clash e)

-- an answer that the test compares: any but a tick's
abbrev pub IsCompared : Answer → Type 0
IsCompared (Sent datagram) = ⊥
IsCompared _ = ⊤

-- such an answer is equal to itself by the test
pub answer_itself : (a : Answer) → IsCompared a → same_answer a a ≡ true
answer_itself (Gave a) compared = gave_itself a
answer_itself (Sent a) compared = absurd compared
answer_itself (Took a) compared = maybe_itself same_up up_itself a
answer_itself (Told a) compared = maybe_itself same_news news_itself a
answer_itself Silent compared = refl
