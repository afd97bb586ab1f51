-- What is promised of the comparisons of points and positions.
use Rattle.std.specs.Prelude.{◌≡◌, true, false, ◌⊎◌}
use Rattle.fec_plan.specs.Points.{Position, position_before, same_position}

-- Positions are in one order: none is before itself, what is before a second is before all that are behind that, and of two
-- that differ one is before the other.
pub record PositionsAreOrdered : Type 0 where
  pub same : (a b : Position) → same_position a b ≡ true → a ≡ b
  pub never_itself : (a : Position) → position_before a a ≡ false
  pub transitive : (a b c : Position) → position_before a b ≡ true → position_before b c ≡ true → position_before a c ≡ true
  pub one_way : (a b : Position) → position_before a b ≡ true → position_before b a ≡ false
  pub total : (a b : Position) → (a ≡ b) ⊎ ((position_before a b ≡ true) ⊎ (position_before b a ≡ true))
