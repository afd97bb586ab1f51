-- The fourth part of safety: a watermark is satisfied exactly when so many members as its quorum says, and all where there
-- are no more, are listed past its position.
use Rattle.std.specs.Prelude.{ℕ, ◌≡◌, ◌==◌, ◌&&◌, List, Bool, true, false, None, Some, IsTrue}
use Rattle.std.specs.List.{list_all, list_any, AllByRecursion}
use Rattle.std.specs.Bool.{beq}
use Rattle.norm_send_rules.specs.SenderState.{SenderState, Watermark}
use Rattle.norm_send_rules.specs.Watermarks.{is_open, is_met, watermark_of}
use Rattle.norm_send_rules.specs.declared.news.Outcome.{Outcome}
use Rattle.norm_send_rules.specs.declared.news.Outcome.TheVariants as outcome
use Rattle.norm_safety.specs.History.{Happening, History}

-- a watermark had not ended: it was open, or was not made yet
abbrev pub had_not_ended : SenderState → ℕ → Bool
had_not_ended s mark = elim (watermark_of s mark) [ Some w ↦ is_open w | None ↦ true ]

-- a watermark was there, and enough members were listed past it
abbrev pub stood_past : SenderState → ℕ → Bool
stood_past s mark = elim (watermark_of s mark) [ Some w ↦ is_met s w | None ↦ false ]

-- at its making, or later while it was open, enough members were listed past a watermark
abbrev pub was_past : List Happening → ℕ → Bool
was_past happened mark = list_any (λ (h : Happening). had_not_ended h.before.sender mark && stood_past h.after.sender mark) happened

-- a watermark ended as satisfied
abbrev pub is_satisfied : Watermark → Bool
is_satisfied w = elim w.ended [
  | Some o ↦ elim o [ outcome.Open left ↦ false | outcome.Satisfied ↦ true | outcome.Expired left ↦ false | outcome.Cut ↦ false ]
  | None ↦ false
]

-- two outcomes are equal
abbrev pub same_outcome : Outcome → Outcome → Bool
same_outcome (outcome.Open a) (outcome.Open b) = a == b
same_outcome outcome.Satisfied outcome.Satisfied = true
same_outcome (outcome.Expired a) (outcome.Expired b) = a == b
same_outcome outcome.Cut outcome.Cut = true
same_outcome _ _ = false

-- a watermark that had ended has the same outcome afterwards
abbrev pub keeps_outcome : SenderState → Watermark → Bool
keeps_outcome after w = elim w.ended [
  | Some o ↦ elim (watermark_of after w.mark) [ Some v ↦ elim v.ended [ Some q ↦ same_outcome o q | None ↦ false ] | None ↦ false ]
  | None ↦ true
]

-- no event changes an outcome
abbrev pub keeps_outcomes : Happening → Bool
keeps_outcomes h = list_all (keeps_outcome h.after.sender) h.before.sender.watermarks

-- Each watermark is satisfied exactly where, while it had not ended, enough members were listed past it; and an outcome
-- stays.
pub record SatisfiedExactly (h : History) : Type 0 where
  pub exactly : AllByRecursion (λ (w : Watermark). is_satisfied w ≡ was_past h.happened w.mark) h.now.sender.watermarks
  pub stays : AllByRecursion (λ (x : Happening). IsTrue (keeps_outcomes x)) h.happened

-- The same as a test.
abbrev pub is_satisfied_exactly : History → Bool
is_satisfied_exactly h =
    list_all (λ (w : Watermark). beq (is_satisfied w) (was_past h.happened w.mark)) h.now.sender.watermarks
    && list_all keeps_outcomes h.happened
