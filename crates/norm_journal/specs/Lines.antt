-- The line of an event.
use Rattle.std.specs.Prelude.{ℕ, Bool, true, false, List, [], ◌∷◌, ◌++◌, length, codes, Option, None, Some, Result, Ok, Err}
use Rattle.std.specs.Option.{option_map}
use Rattle.std.specs.Fmt.{decimal}
use Rattle.hex.specs.Hex.{encode_lower}
use Rattle.norm_base.specs.declared.kinds.Kind.{Kind}
use Rattle.norm_base.specs.declared.kinds.Kind.TheVariants as kind
use Rattle.norm_base.specs.declared.node.Origin.{Origin}
use Rattle.norm_order.specs.declared.up.Up.{Up}
use Rattle.norm_order.specs.declared.up.Up.TheVariants as up
use Rattle.norm_script.specs.declared.script.Verb.{Verb}
use Rattle.norm_script.specs.declared.script.Verb.TheVariants as verb
use Rattle.norm_send_rules.specs.declared.job.Receipt.{Receipt}
use Rattle.norm_send_rules.specs.declared.job.Receipt.TheVariants as receipt
use Rattle.norm_send_rules.specs.declared.fault.SendFault.{SendFault}
use Rattle.norm_send_rules.specs.declared.fault.SendFault.TheVariants as send
use Rattle.norm_send_rules.specs.declared.fault.EnqueueFault.{EnqueueFault}
use Rattle.norm_send_rules.specs.declared.fault.EnqueueFault.TheVariants as enqueue
use Rattle.norm_send_rules.specs.declared.fault.StreamFault.TheVariants as stream
use Rattle.norm_send_rules.specs.declared.fault.MarkFault.TheVariants as mark
use Rattle.norm_send_rules.specs.declared.fault.StrikeFault.TheVariants as strike
use Rattle.norm_send_rules.specs.declared.news.News.{News}
use Rattle.norm_send_rules.specs.declared.news.News.TheVariants as news
use Rattle.norm_send_rules.specs.declared.news.Outcome.{Outcome}
use Rattle.norm_send_rules.specs.declared.news.Outcome.TheVariants as outcome
use Rattle.norm_journal.specs.declared.totals.Totals.{Totals}
use Rattle.norm_text.specs.Words.{line, kind_word, info_word}
use Rattle.norm_journal.specs.Words.{origin_words, position_words, node_words}

-- a text that is a line, if it is one
abbrev pub line_if : Bool → List ℕ → Option (List ℕ)
line_if true text = Some text
line_if false text = None

-- an accepted command, in the sender's instance
abbrev pub enq_line : Origin → ℕ → ℕ → List (List ℕ) → List ℕ
enq_line by instance index words = line (codes "enq") (origin_words by ++ decimal instance ∷ decimal index ∷ words)

-- what an object's command enqueues
abbrev pub kind_of : Verb → Kind
kind_of (verb.File name) = kind.File
kind_of _ = kind.Data

-- the quorum that a command gives, if it gives one
abbrev pub quorum_of : Verb → Option ℕ
quorum_of (verb.Mark quorum) = quorum
quorum_of _ = None

-- a number that may be there
abbrev pub number_words : Option ℕ → List (List ℕ)
number_words None = []
number_words (Some n) = decimal n ∷ []

-- what a command did, in the instance in which it came
abbrev pub receipt_line : Origin → ℕ → Verb → Receipt → List ℕ
receipt_line by instance v (receipt.Object index len) = enq_line by instance index (kind_word (kind_of v) ∷ decimal len ∷ [])
receipt_line by instance v (receipt.Opened index) = enq_line by instance index (codes "open" ∷ [])
receipt_line by instance v (receipt.Wrote index offset len) =
    enq_line by instance index (codes "write" ∷ decimal len ∷ decimal offset ∷ [])
receipt_line by instance v (receipt.Closed index) = enq_line by instance index (codes "close" ∷ [])
receipt_line by instance v (receipt.Mark number at) =
    line (codes "mark") (origin_words by ++ decimal instance ∷ decimal number ∷ position_words at ++ number_words (quorum_of v))
receipt_line by instance v (receipt.Restarted next) = line (codes "restart") (origin_words by ++ decimal next ∷ [])
receipt_line by instance v (receipt.Struck node) = line (codes "strike") (origin_words by ++ decimal node ∷ [])

-- a reason: its word, and the number that it tells
abbrev pub Reason : Type 0
Reason = List ℕ × Option ℕ

-- why nothing was enqueued; a command that waits has no reason
abbrev pub enqueue_reason : EnqueueFault → Option Reason
enqueue_reason enqueue.Empty = Some (codes "empty", None)
enqueue_reason (enqueue.TooBig len) = Some (codes "too-big", Some len)
enqueue_reason (enqueue.InfoTooBig len) = Some (codes "info-too-big", Some len)
enqueue_reason (enqueue.StreamOpen index) = Some (codes "stream-open", Some index)
enqueue_reason enqueue.NoStream = Some (codes "no-stream", None)
enqueue_reason enqueue.IdsSpent = Some (codes "ids-spent", None)
enqueue_reason (enqueue.Stream (stream.Spent octets)) = Some (codes "spent", Some octets)
enqueue_reason _ = None

-- why a command was refused for good
abbrev pub reason_of : SendFault → Option Reason
reason_of (send.Enqueue fault) = enqueue_reason fault
reason_of (send.Mark (mark.Quorum q)) = Some (codes "quorum", Some q)
reason_of (send.Mark mark.NothingEnqueued) = Some (codes "nothing-enqueued", None)
reason_of (send.Strike (strike.NotMember node)) = Some (codes "not-member", Some node)
reason_of (send.Strike (strike.LastMember node)) = Some (codes "last-member", Some node)
reason_of (send.IdUsed instance) = Some (codes "id-used", Some instance)
reason_of _ = None

-- the line of a command that was refused for good
abbrev pub no_line : Origin → Reason → List ℕ
no_line by reason = line (codes "no") (origin_words by ++ reason.0 ∷ number_words reason.1)

-- the line of what a command gave
abbrev pub gave_line : Origin → ℕ → Verb → Result Receipt SendFault → Option (List ℕ)
gave_line by instance v (Ok receipt) = Some (receipt_line by instance v receipt)
gave_line by instance v (Err fault) = option_map (no_line by) (reason_of fault)

-- the words of a hand-up: the node, the instance that it is in, the index of the object, and what is told of that
abbrev pub part_words : ℕ → ℕ → ℕ → List (List ℕ) → List (List ℕ)
part_words node instance index words = decimal node ∷ decimal instance ∷ decimal index ∷ words

-- what is told
abbrev pub up_words : ℕ → ℕ → Up → List (List ℕ)
up_words node instance (up.Object index what info octets) =
    part_words node instance index (kind_word what ∷ decimal (length octets) ∷ info_word info ∷ encode_lower octets ∷ [])
up_words node instance (up.StreamOpen index) = part_words node instance index (codes "open" ∷ [])
up_words node instance (up.StreamBytes index offset octets) =
    part_words node instance index (codes "bytes" ∷ decimal offset ∷ decimal (length octets) ∷ encode_lower octets ∷ [])
up_words node instance (up.StreamEnd index) = part_words node instance index (codes "end" ∷ [])
up_words node instance (up.Lost index) = part_words node instance index (codes "lost" ∷ [])

-- a hand-up
abbrev pub up_line : ℕ → ℕ → Up → List ℕ
up_line node instance handed = line (codes "up") (up_words node instance handed)

-- a hand-up of what a sender sent, where there are several senders
abbrev pub of_line : ℕ → ℕ → ℕ → Up → List ℕ
of_line sender node instance handed = line (codes "of") (decimal sender ∷ codes "up" ∷ up_words node instance handed)

-- a watermark's outcome, with the nodes that are left; an open one has no line
abbrev pub done_line : ℕ → List ℕ → Outcome → Option (List ℕ)
done_line number left (outcome.Open many) = None
done_line number left outcome.Satisfied = Some (line (codes "done") (decimal number ∷ codes "satisfied" ∷ []))
done_line number left (outcome.Expired many) = Some (line (codes "done") (decimal number ∷ codes "expired" ∷ node_words left))
done_line number left outcome.Cut = Some (line (codes "done") (decimal number ∷ codes "cut" ∷ []))

-- a change that was told, in the sender's instance
abbrev pub news_line : ℕ → List ℕ → News → Option (List ℕ)
news_line instance left (news.Past node at) =
    Some (line (codes "past") (decimal node ∷ decimal instance ∷ position_words at))
news_line instance left (news.Done number outcome) = done_line number left outcome

-- the summary
abbrev pub end_line : Totals → List ℕ
end_line t = line (codes "end") (
    codes "objects" ∷ decimal t.objects ∷ codes "octets" ∷ decimal t.octets
    ∷ codes "handed" ∷ decimal t.handed ∷ codes "lost" ∷ decimal t.lost
    ∷ codes "satisfied" ∷ decimal t.satisfied ∷ codes "expired" ∷ decimal t.expired ∷ codes "cut" ∷ decimal t.cut ∷ []
    )
