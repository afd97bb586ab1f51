-- Which members are left of a watermark, by the sender's book.
use Rattle.std.specs.Prelude.{ℕ, List, [], None, Some}
use Rattle.norm_send_rules.specs.SenderState.{SenderState}
use Rattle.norm_send_rules.specs.Watermarks.{pending, watermark_of}
use Rattle.norm_send_rules.specs.declared.news.News.{News}
use Rattle.norm_send_rules.specs.declared.news.News.TheVariants as news

-- the members that are not listed past a watermark, in order
abbrev pub left_past : SenderState → ℕ → List ℕ
left_past s mark = elim (watermark_of s mark) [ Some w ↦ pending s w.at | None ↦ [] ]

-- the members that a change speaks of as left
abbrev pub left_by : SenderState → News → List ℕ
left_by s (news.Done mark outcome) = left_past s mark
left_by s (news.Past node at) = []
