-- What is promised of runs, and of the tests of safety.
use Rattle.std.specs.Prelude.{List, ◌++◌, IsTrue}
use Rattle.std.specs.List.{AllByRecursion}
use Rattle.std.specs.Bool.{Decides}
use Rattle.norm_base.specs.Settings.{Settings, InRange}
use Rattle.norm_send_rules.specs.Laws.{WantsHold}
use Rattle.norm_safety.specs.Acknowledges.{OwesWhatItHanded, OwingLaws}
use Rattle.norm_safety.specs.AcknowledgesHanded.{AcknowledgesHanded}
use Rattle.norm_safety.specs.CreditsMembers.{CreditsMembers}
use Rattle.norm_safety.specs.Events.{Event}
use Rattle.norm_safety.specs.History.{History, history}
use Rattle.norm_safety.specs.OnceEach.{OnceEach, is_once_each}
use Rattle.norm_safety.specs.InOrder.{InOrder, is_in_order}
use Rattle.norm_safety.specs.ListedAfter.{ListedAfter, is_listed_after}
use Rattle.norm_safety.specs.SatisfiedExactly.{SatisfiedExactly, is_satisfied_exactly}
use Rattle.norm_safety.specs.InTime.{Honest}
use Rattle.norm_safety.specs.Lawful.{Lawful, is_lawful}
use Rattle.norm_safety.specs.Jobs.{AreEvents}
use Rattle.norm_safety.specs.Safe.{IsSafe, Safe, is_safe}
use Rattle.norm_safety.specs.Said.{said_data, said_infos, said_flushes, said_squelches}
use Rattle.norm_safety.specs.SaysPositions.{flushes_source, squelches_dropped}
use Rattle.norm_safety.specs.SaysSymbols.{SaysSymbol, SaysInfo}
use Rattle.norm_safety.specs.WorldStep.{run}

-- A test gives true exactly where its part of safety holds. That of the second part looks only at the receivers and the
-- instances that they came to, and so it tells of runs, where nothing is handed up to others.
pub record TestLaws : Type 0 where
  pub once : (h : History) → Decides (is_once_each h) (OnceEach h)
  pub order : (p : Settings) (events : List Event) → Decides (is_in_order p (history p events)) (InOrder p (history p events))
  pub listed : (p : Settings) (h : History) → Decides (is_listed_after p h) (ListedAfter p h)
  pub satisfied : (h : History) → Decides (is_satisfied_exactly h) (SatisfiedExactly h)
  -- and all of them together
  pub safe : (p : Settings) (events : List Event) → Decides (is_safe p (history p events)) (Safe p events)
  -- and the test of the premises exactly where a run is lawful
  pub lawful : (p : Settings) (events : List Event) → Decides (is_lawful p events) (Lawful p events)

-- in each run what the sender wants to send again is of its order and in its window, the lowest first
abbrev pub WantsHoldInRuns : Type 0
WantsHoldInRuns = (p : Settings) (events : List Event) → InRange p → WantsHold p (run p events).sender

-- What was said, or waits to be, is true of the orders: each DATA carries an encoded symbol of its entry, each INFO the info of
-- its entry, with the entry's transmission information and flags; each flush names a closed source symbol of the order; and a
-- squelch names a point that its instance's drop point is not before.
pub record SaidOfOrders (p : Settings) (h : History) : Type 0 where
  pub symbols : AllByRecursion (SaysSymbol p h.now.sender) (said_data h.now)
  pub infos : AllByRecursion (SaysInfo p h.now.sender) (said_infos h.now)
  pub flushes : AllByRecursion (λ m. IsTrue (flushes_source p h.now.sender m)) (said_flushes h.now)
  pub squelches : AllByRecursion (λ m. IsTrue (squelches_dropped h.now.sender m)) (said_squelches h.now)

-- a promise of each lawful run under a profile, whatever the network loses, repeats, reorders or delays, and however often the
-- sender restarts
abbrev pub OfLawfulRuns : (Settings → History → Type 0) → Type 0
OfLawfulRuns Promise = (p : Settings) → InRange p → (events : List Event) → Lawful p events → AreEvents events → Promise p (history p events)

-- in each run what a member acknowledges is credited
abbrev pub CreditRun : Type 0
CreditRun = (p : Settings) (events : List Event) → CreditsMembers p (history p events)

-- in each run under a profile a watermark is satisfied exactly where, while it had not ended, enough members were listed past it,
-- and its outcome stays
abbrev pub SatisfiedRun : Type 0
SatisfiedRun = (p : Settings) → InRange p → (events : List Event) → SatisfiedExactly (history p events)

-- Safety. Every lawful run is safe: accepted objects, and what is written to streams, enter the transport order once each; each receiver
-- hands up that order, with a loss only where the sender dropped data; a receiver is listed past a watermark only after it handed up
-- everything before; and a watermark is satisfied exactly where its quorum is listed. The first part holds of every honest run, however
-- late a datagram comes.
pub record SafeRun : Type 0 where
  pub safe : OfLawfulRuns IsSafe
  pub once : (p : Settings) (events : List Event) → Honest p events → OnceEach (history p events)
  pub order : OfLawfulRuns InOrder
  pub listed : OfLawfulRuns ListedAfter

-- A lawful run is safe at each moment: a front of it is lawful, of events that a program can make where the whole is, and so it is safe.
-- Then what a listing rests on was handed up before it, whatever became of that listing later.
pub record FrontLaws : Type 0 where
  pub lawful : (p : Settings) (front rest : List Event) → Lawful p (front ++ rest) → Lawful p front
  pub events : (front rest : List Event) → AreEvents (front ++ rest) → AreEvents front
  pub safe : (p : Settings) → InRange p → (front rest : List Event) → Lawful p (front ++ rest) → AreEvents (front ++ rest) → Safe p front

-- In lawful runs a receiver acknowledges only what it handed up, everything before included. A flush makes it owe what
-- it handed up; that stays so in its instance until its next tick, which says it.
pub record AcknowledgeRun : Type 0 where
  pub handed : OfLawfulRuns AcknowledgesHanded
  pub owed : OfLawfulRuns OwesWhatItHanded
  pub stays : OwingLaws
