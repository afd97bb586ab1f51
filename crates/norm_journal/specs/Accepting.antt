-- The judge: the state after an event that may come with that answer, and None for any other.
use Rattle.std.specs.Prelude.{List, [], ◌∷◌, Option, None, Some, option_and_then}
use Rattle.std.specs.Option.{option_map}
use Rattle.norm_send_rules.specs.declared.news.News.{News}
use Rattle.norm_safety.specs.Events.{NewsAsked, Told}
use Rattle.norm_journal.specs.declared.event.Event.{Event}
use Rattle.norm_journal.specs.declared.event.Event.TheVariants as event
use Rattle.norm_journal.specs.Commands.{pulls_at, jobs_at, lengths_at}
use Rattle.norm_journal.specs.InWorld.{comes}
use Rattle.norm_journal.specs.Judged.{Judged, news_due}
use Rattle.norm_journal.specs.Takes.{takes_at, finds_none_at}
use Rattle.norm_journal.specs.Ticks.{ticks_at, offers_at, ups_at}
use Rattle.norm_journal.specs.Totals.{with_news}
use Rattle.norm_journal.specs.Turns.{starts_at, turns_at, ends_at}

-- what was told is counted
abbrev pub told_of : News → Judged → Judged
told_of news j = record j { totals = with_news news j.totals }

-- while changes are to be told, nothing else comes
abbrev pub accepts_news : Judged → Event → Option Judged
accepts_news j (event.News news) = option_map (told_of news) (comes NewsAsked (Told (Some news)) j)
accepts_news j _ = None

-- what may come where no change is to be told
abbrev pub accepts_next : Judged → Event → Option Judged
accepts_next j event.Start = starts_at j.place j
accepts_next j (event.Turn turn now) = turns_at j.place j turn now
accepts_next j (event.Pull by) = pulls_at j.place j by
accepts_next j (event.Job by job gave) = jobs_at j.place j by job gave
accepts_next j (event.Length by name len fault) = lengths_at j.place j by name len fault
accepts_next j (event.Tick node sent) = ticks_at j.place j node sent
accepts_next j (event.Offer from octets) = offers_at j.place j from octets
accepts_next j (event.Took to octets) = takes_at j.place j to octets
accepts_next j event.Empty = finds_none_at j.place j
accepts_next j (event.Up node instance up) = ups_at j.place j node instance up
accepts_next j (event.News news) = None
accepts_next j event.End = ends_at j.place j

-- Changes that an event made are told directly after it.
abbrev pub accepts : Judged → Event → Option Judged
accepts j e = elim (news_due j) [ Some news ↦ accepts_news j e | None ↦ accepts_next j e ]

-- the state after these events, each of which may come
unfoldable pub judged_from : Judged → List Event → Option Judged
judged_from j [] = Some j
judged_from j (e ∷ events) = option_and_then (λ next. judged_from next events) (accepts j e)
