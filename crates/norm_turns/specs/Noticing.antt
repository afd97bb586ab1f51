-- What the line of an event says to whoever counts. A stream is an object that begins without octets.
use Rattle.std.specs.Prelude.{ℕ, length, true, false, Result, Ok, Err}
use Rattle.norm_base.specs.declared.notice.Notice.{Notice}
use Rattle.norm_base.specs.declared.notice.Notice.TheVariants as notice
use Rattle.norm_order.specs.declared.up.Up.{Up}
use Rattle.norm_order.specs.declared.up.Up.TheVariants as up
use Rattle.norm_send_rules.specs.declared.fault.SendFault.{SendFault}
use Rattle.norm_send_rules.specs.declared.job.Receipt.{Receipt}
use Rattle.norm_send_rules.specs.declared.job.Receipt.TheVariants as receipt
use Rattle.norm_send_rules.specs.declared.news.News.{News}
use Rattle.norm_send_rules.specs.declared.news.News.TheVariants as news
use Rattle.norm_send_rules.specs.declared.news.Outcome.{Outcome}
use Rattle.norm_send_rules.specs.declared.news.Outcome.TheVariants as outcome

-- an accepted command
abbrev pub receipt_notice : Receipt → Notice
receipt_notice (receipt.Object index len) = notice.Object len
receipt_notice (receipt.Opened index) = notice.Object 0
receipt_notice (receipt.Wrote index offset len) = notice.Octets len
receipt_notice (receipt.Closed index) = notice.Other
receipt_notice (receipt.Mark number at) = notice.Mark number at.index at.block at.symbol
receipt_notice (receipt.Restarted next) = notice.Restarted next
receipt_notice (receipt.Struck node) = notice.Struck node

-- what a command gave: a refusal says nothing
abbrev pub gave_notice : Result Receipt SendFault → Notice
gave_notice (Ok receipt) = receipt_notice receipt
gave_notice (Err fault) = notice.Other

-- a hand-up
abbrev pub up_notice : Up → Notice
up_notice (up.Object index what info octets) = notice.Object (length octets)
up_notice (up.StreamOpen index) = notice.Object 0
up_notice (up.StreamBytes index offset octets) = notice.Octets (length octets)
up_notice (up.StreamEnd index) = notice.Other
up_notice (up.Lost index) = notice.Other

-- a watermark's outcome: an open one has no line
abbrev pub done_notice : ℕ → Outcome → Notice
done_notice number (outcome.Open many) = notice.Other
done_notice number outcome.Satisfied = notice.Done number false
done_notice number (outcome.Expired many) = notice.Done number true
done_notice number outcome.Cut = notice.Done number false

-- a change that was told
abbrev pub news_notice : News → Notice
news_notice (news.Past node at) = notice.Past node at.index at.block at.symbol
news_notice (news.Done number outcome) = done_notice number outcome
