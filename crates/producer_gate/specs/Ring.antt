-- The rule of the ring: what was pulled and what the ring holds is, of each producer, what it submitted, in its order.
use Rattle.std.specs.Prelude.{◌≡◌, ◌≢◌, ◌⊎◌, ℕ, zero, suc, ◌+◌, ◌<◌, ◌≤◌, List, [], ◌++◌, length}
use mathlib.Core.Option.{some}
use lib.ListN.{get_elem?}
use Rattle.producer_gate.specs.declared.command.Submitted.{Submitted}
use Rattle.producer_gate.specs.declared.knows.Knows.{Knows}
use Rattle.producer_gate.specs.declared.knows.Knows.TheVariants.{Pulls, Submits, Spent}
use Rattle.producer_gate.specs.Commands.{of_producer, numbered}

-- All that went through a gate: how many seats were made, which pass is the pull seat's and which one each producer's, what
-- was pulled, which items each producer submitted, and whose seat was taken in last (0: none was).
pub record Ledger : Type 0 where
  pub given : ℕ
  pub puller : ℕ
  pub seat : ℕ → ℕ
  pub pulled : List Submitted
  pub items : ℕ → List ℕ
  pub ended : ℕ

-- how many commands the first n producers submitted
abbrev pub total : (ℕ → List ℕ) → ℕ → ℕ
total items zero = 0
total items (suc n) = total items n + length (items (suc n))

-- what a pass knows is so
abbrev pub Fits : Ledger → ℕ → Knows → Type 0
Fits l pass (Pulls given pulled ended last) =
    (pass ≡ l.puller) × (given ≡ l.given) × (pulled ≡ l.pulled) × (ended ≡ l.ended) × (last ≡ l.items ended)
Fits l pass (Submits producer items) =
    (pass ≡ l.seat producer) × (0 < producer) × (producer ≤ l.given) × (items ≡ l.items producer) × (producer ≢ l.ended)
Fits l pass Spent = Unit {0}

-- the ledger of a ring that holds these commands
pub record IsLedger (l : Ledger) (ring : List Submitted) : Type 0 where
  -- of each producer, what was pulled and then what the ring holds is what it submitted, numbered 1, 2, ..
  pub order : (p : ℕ) → of_producer p (l.pulled ++ ring) ≡ numbered p 1 (l.items p)
  -- only those whose seats were made submitted anything
  pub none : (p : ℕ) → (p ≡ 0) ⊎ (l.given < p) → l.items p ≡ []
  pub short : (p : ℕ) → length (l.items p) ≤ 4096
  pub count : length (l.pulled ++ ring) ≡ total l.items l.given

-- the rule, of what the ring holds and of what each pass knows: there is a ledger that all of them fit
abbrev pub Balances : List Submitted → List Knows → Type 0
Balances ring views =
    (l : Ledger) × IsLedger l ring × ((pass : ℕ) (v : Knows) → get_elem? views pass ≡ some v → Fits l pass v)

-- at one moment the ring held these commands, and a pass knew just this
abbrev pub WasSo : Knows → List Submitted → Type 0
WasSo v ring = (views : List Knows) × (pass : ℕ) × Balances ring views × (get_elem? views pass ≡ some v)
