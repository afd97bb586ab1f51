-- Of a stream's parts none comes before its open (RFC 5740 section 5.2).
use Rattle.std.specs.Prelude.{◌≡◌, ◌==◌, ◌&&◌, ℕ, Bool, true, false, List, [], ◌∷◌, fold, Option, None, Some}
use Rattle.norm_base.specs.Settings.{Settings}
use Rattle.fec_plan.specs.Points.{Point}
use Rattle.fec_plan.specs.declared.position.Position.{Position}
use Rattle.norm_ext.specs.Extensions.{Extension}
use Rattle.norm_order.specs.declared.up.Up.{Up}
use Rattle.norm_order.specs.declared.up.Up.TheVariants as up
use Rattle.norm_receive_rules.specs.Holding.{Holding, holding_nothing}
use Rattle.norm_receive_rules.specs.Losing.{squelched}
use Rattle.norm_receive_rules.specs.Putting.{put_symbol, put_info}
use Rattle.norm_receive_rules.specs.Receiving.{object_held}
use Rattle.norm_receive_rules.specs.Taking.{up_taken}

-- the stream whose open came last, with one hand-up more
abbrev pub opened : Option ℕ → Up → Option ℕ
opened last (up.StreamOpen index) = Some index
opened last _ = last

-- and with these
abbrev pub last_opened : Option ℕ → List Up → Option ℕ
last_opened last ups = fold opened last ups

-- it is the stream whose open came last
abbrev pub is_open : Option ℕ → ℕ → Bool
is_open last index = elim last [ Some of ↦ of == index | None ↦ false ]

-- a hand-up that is a part of a stream is of the one whose open came last
abbrev pub may_come : Option ℕ → Up → Bool
may_come last (up.StreamBytes index offset bytes) = is_open last index
may_come last (up.StreamEnd index) = is_open last index
may_come last _ = true

-- and each of these, one after the other
unfoldable pub each_may_come : Option ℕ → List Up → Bool
each_may_come last [] = true
each_may_come last (u ∷ ups) = may_come last u && each_may_come (opened last u) ups

-- Behind hand-ups of which the last open was this one, those that wait come in order; and where the hand-up point stands
-- within an object, that one's open came last.
pub record IsOpened (last : Option ℕ) (s : Holding) : Type 0 where
  pub ups : each_may_come last s.ups ≡ true
  pub begun : (s.point.block == 0 && s.point.symbol == 0) ≡ false → last_opened last s.ups ≡ Some s.point.index

-- In an instance no part of a stream comes before its open, nor behind the open of another: so it is as nothing is held, and
-- whatever comes, is lost and is taken keeps it. These are all changes of what is held.
pub record OpenLaws : Type 0 where
  pub nothing : IsOpened None holding_nothing
  pub symbol : (p : Settings) (last : Option ℕ) (at : Position) (extensions : List Extension) (flags : ℕ) (payload : List ℕ) (s : Holding)
      → IsOpened last s → IsOpened last (object_held p at extensions flags (put_symbol p at payload) s)
  pub info : (p : Settings) (last : Option ℕ) (at : Position) (extensions : List Extension) (flags index : ℕ) (info : List ℕ) (s : Holding)
      → IsOpened last s → IsOpened last (object_held p at extensions flags (put_info p index info) s)
  pub squelch : (p : Settings) (last : Option ℕ) (first : Point) (s : Holding) → IsOpened last s → IsOpened last (squelched p first s)
  pub take : (last : Option ℕ) (s : Holding) (u : Up) → (up_taken s).1 ≡ Some u → IsOpened last s
      → (may_come last u ≡ true) × IsOpened (opened last u) (up_taken s).0
