-- What a sender tells of its members: listings in order of node, and then outcomes in order of watermark.
use Rattle.std.specs.Prelude.{ℕ, ◌==◌, [], ◌∷◌, find, Option, None, Some}
use Rattle.fec_plan.specs.declared.position.Position.{Position}
use Rattle.norm_send_rules.specs.SenderState.{SenderState, Listing, Watermark}
use Rattle.norm_send_rules.specs.Watermarks.{watermark_of, outcome_of}
use Rattle.norm_send_rules.specs.declared.news.News.{News}
use Rattle.norm_send_rules.specs.declared.news.News.TheVariants.{Past, Done}

-- what a node is listed past
abbrev pub listing_of : SenderState → ℕ → Option Position
listing_of s node = elim (find (λ (l : Listing). l.node == node) s.listings) [ Some l ↦ l.past | None ↦ None ]

-- a node's listing, where it has one
abbrev pub past_news : ℕ → Option Position → Option News
past_news node None = None
past_news node (Some at) = Some (Past node at)

-- the outcome of a watermark
abbrev pub done_news : SenderState → ℕ → Option Watermark → Option News
done_news s mark None = None
done_news s mark (Some w) = Some (Done mark (outcome_of s w))

-- Each change is told once, and a listing with its latest position.
abbrev pub told : SenderState → SenderState × Option News
told s = elim s.untold_nodes [
  | node ∷ nodes ↦ (record s { untold_nodes = nodes }, past_news node (listing_of s node))
  | [] ↦ elim s.untold_marks [
    | mark ∷ marks ↦ (record s { untold_marks = marks }, done_news s mark (watermark_of s mark))
    | [] ↦ (s, None)
  ]
]
