-- What a tail hands up and tells, and the words that it draws.
use Rattle.std.specs.Prelude.{ℕ, List, [], ◌∷◌, ◌++◌, Some}
use Rattle.std.specs.Fn.{iterate}
use Rattle.rand_pcg.specs.Lcg.{Lcg}
use Rattle.norm_journal.specs.Draws.{next_draw, draws_after}
use Rattle.norm_safety.specs.Events.{Event, UpTaken, NewsAsked, Answer, Took, Told}
use Rattle.norm_safety.specs.History.{Happening}
use Rattle.norm_tail.specs.declared.step.TailStep.{TailStep}
use Rattle.norm_tail.specs.declared.step.TailStep.TheVariants as step

-- what an event hands up or tells, by its answer
abbrev pub step_of : Event → Answer → List TailStep
step_of (UpTaken node) (Took (Some up)) = step.Up node up ∷ []
step_of NewsAsked (Told (Some news)) = step.News news ∷ []
step_of _ _ = []

-- the hand-ups and news of what happened, in order
abbrev pub steps_of : List Happening → List TailStep
steps_of [] = []
steps_of (h ∷ happened) = step_of h.event h.answer ++ steps_of happened

-- a generator after so many words
abbrev pub generator_after : Lcg → ℕ → Lcg
generator_after g n = iterate draws_after n g

-- the words of a generator, numbered from 0
abbrev pub words_of : Lcg → ℕ → ℕ
words_of g n = next_draw (generator_after g n)
