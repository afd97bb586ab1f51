-- After a first tail no later one is refused.
use Rattle.std.specs.Prelude.{◌≡◌, ℕ, List, [], ◌∷◌, false, None, ⊤}
use Rattle.norm_base.specs.Settings.{Settings, InRange}
use Rattle.norm_safety.specs.Events.{Event}
use Rattle.norm_safety.specs.Recovery.{IsOldest}
use Rattle.norm_safety.specs.Tail.{is_open_mark, tail_of, tail_fault}
use Rattle.norm_safety.specs.World.{World}
use Rattle.norm_safety.specs.WorldStep.{run}

-- a tail as it begins: its draws, the moment that its turns come after, and the number of its watermark
pub record Begun : Type 0 where
  pub draws : ℕ → ℕ
  pub last : ℕ
  pub mark : ℕ

-- the world after a tail
abbrev pub after_tail : Settings → World → Begun → World
after_tail p w t = (tail_of p t.draws t.last w t.mark).course.world

-- the world after several tails, one after the other
abbrev pub after_tails : Settings → World → List Begun → World
after_tails p w [] = w
after_tails p w (t ∷ ts) = after_tails p (after_tail p w t) ts

-- A tail is of the oldest open watermark, and that one is no longer open after it.
pub record EndsItsMark (p : Settings) (w : World) (t : Begun) : Type 0 where
  pub oldest : IsOldest w.sender t.mark
  pub ended : is_open_mark (after_tail p w t) t.mark ≡ false

-- each of several tails does, in the world that those before it left
abbrev pub EachEnds : Settings → World → List Begun → Type 0
EachEnds p w [] = ⊤
EachEnds p w (t ∷ ts) = EndsItsMark p w t × EachEnds p (after_tail p w t) ts

-- After any run: if `tail_fault` finds no reason to refuse a first tail, and each of these tails ends its watermark, then it finds none to
-- refuse the next one, if a watermark is still open.
abbrev pub LaterTailsAccepted : Type 0
LaterTailsAccepted = (p : Settings) → InRange p → (events : List Event) (ts : List Begun) (next : ℕ)
    → tail_fault p (run p events).sender ≡ None → EachEnds p (run p events) ts
    → let s = (after_tails p (run p events) ts).sender in
    IsOldest s next → tail_fault p s ≡ None
