-- What a tail leaves, and what it leaves without memory.
use Rattle.std.specs.Prelude.{◌≡◌, ℕ, List}
use Rattle.rand_pcg.specs.Lcg.{Lcg}
use Rattle.norm_base.specs.Settings.{Settings}
use Rattle.norm_safety.specs.Recovery.{IsOldest}
use Rattle.norm_safety.specs.Tail.{Tail, tail_bound, tail_of}
use Rattle.norm_safety.specs.World.{World}
use Rattle.norm_tail.specs.SoFar.{Context, At, Stopped}
use Rattle.norm_tail.specs.Steps.{steps_of, generator_after, words_of}
use Rattle.norm_tail.specs.declared.step.TailStep.{TailStep}
use Rattle.norm_world.specs.WorldKept.{WorldKept, StandsFor}

-- a tail from a world, with the words of a generator as draws
abbrev pub tail_in : Settings → Lcg → ℕ → World → ℕ → Tail
tail_in p g last w mark = tail_of p (words_of g) last w mark

-- It was made: so many turns within the bound, these steps, the nodes, and the generator are those of the tail.
pub record IsTail (p : Settings) (g h : Lcg) (last : ℕ) (w : World) (mark : ℕ) (k : WorldKept) (many most : ℕ) (told : List TailStep) : Type 0 where
  pub turns : many ≡ (tail_in p g last w mark).turns
  pub bound : most ≡ tail_bound p w.sender
  pub steps : told ≡ steps_of (tail_in p g last w mark).course.happened
  pub world : StandsFor k (tail_in p g last w mark).course.world
  pub draws : h ≡ generator_after g (tail_in p g last w mark).course.used

-- from each world that was stood for, whose oldest watermark has this number
abbrev pub MakesTail : Settings → (g h : Lcg) → ℕ → (old new : WorldKept) → (turns bound : ℕ) → List TailStep → Type 0
MakesTail p g h last old new turns bound steps =
    (w : World) (mark : ℕ) → StandsFor old w → IsOldest w.sender mark → IsTail p g h last w mark new turns bound steps

-- Without memory the nodes stand for the world after the first of the tail's events.
abbrev pub BreaksOff : Settings → Lcg → ℕ → (old new : WorldKept) → Type 0
BreaksOff p g last old new = (w : World) (mark : ℕ) → StandsFor old w → IsOldest w.sender mark
    → Stopped (record { p = p; world = w; draws = g }) (tail_in p g last w mark).course new

-- a tail that came to an end after so many turns
pub record Ends (x : Context) (t : Tail) (turns : ℕ) (k : WorldKept) (steps : List TailStep) (g : Lcg) : Type 0 where
  pub here : At x t.course k steps g
  pub count : turns ≡ t.turns
