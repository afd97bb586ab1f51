-- An object of the window: what it is, where it lies in the ring, and what of it was sent.
use Rattle.std.specs.Prelude.{ℕ, ◌≡◌, ◌*◌, ◌<◌, ◌≤◌, ◌%◌, ◌++◌, List, length, Option, None, MatchOption, IsSome, Bool, true, false, nat_lt, replicate, slice_set, unwrap_or}
use Rattle.norm_base.specs.Settings.{Settings}
use Rattle.norm_base.specs.declared.kinds.Kind.{Kind}
use Rattle.fec_plan.specs.Partition.{Cut, all_symbols, source_symbols, symbol_number}
use Rattle.norm_order.specs.Entries.{Object, Whole, Stream}
use Rattle.norm_order.specs.Shapes.{shape_of, encoded_in}
use Rattle.norm_order.specs.Symbols.{symbol_octets}
use Rattle.tx_object.specs.Round.{round}

-- how an object is cut, its kind and info, its first octet's place in the ring, which source symbols were sent, and
-- whether the info was
pub record HeldObject : Type 0 where
  pub cut : Cut
  pub kind : Kind
  pub info : Option (List ℕ)
  pub start : ℕ
  pub sent : List Bool
  pub info_sent : Bool

-- an object's info
abbrev pub info_of : Object → Option (List ℕ)
info_of (Whole kind info octets) = info
info_of (Stream parts) = None

-- how many octets an object has
abbrev pub octets_of : Cut → ℕ
octets_of c = unwrap_or c.l 0

-- an object of which nothing was sent
abbrev pub begun_at : Cut → Kind → Option (List ℕ) → ℕ → HeldObject
begun_at cut kind info start = record {
  cut = cut;
  kind = kind;
  info = info;
  start = start;
  sent = replicate (all_symbols cut) false;
  info_sent = false;
}

-- a symbol of it was sent: a source symbol is marked, and no other one
abbrev pub with_sent : HeldObject → ℕ → ℕ → HeldObject
with_sent h block symbol = elim (nat_lt symbol (source_symbols h.cut block)) [
  | true ↦ record h { sent = slice_set h.sent (symbol_number h.cut block symbol) true }
  | false ↦ h
]

-- the octets of the ring that the object lies in, in whole symbols
abbrev pub octets_in : List ℕ → HeldObject → List ℕ
octets_in ring h = round ring h.start (all_symbols h.cut * h.cut.e)

-- an object lies in a ring of whole symbols, from a symbol's place on
pub record LiesIn (ring : List ℕ) (h : HeldObject) : Type 0 where
  pub object : IsSome h.cut.l
  pub start : h.start < length ring
  pub room : all_symbols h.cut * h.cut.e ≤ length ring
  pub ring_whole : length ring % h.cut.e ≡ 0
  pub start_whole : h.start % h.cut.e ≡ 0

-- The answer to a request for a symbol of an object: the octets appended, or None exactly where the object has no such
-- encoded symbol, and nothing is appended.
abbrev pub AnswersSymbol : Settings → Object → ℕ → ℕ → List ℕ → List ℕ → Option ℕ → Type 0
AnswersSymbol p object block symbol old new answer = MatchOption answer
    ((nat_lt symbol (encoded_in (shape_of p object) block) ≡ false) × (new ≡ old))
    (λ n. (nat_lt symbol (encoded_in (shape_of p object) block) ≡ true)
    × (new ≡ old ++ symbol_octets p object block symbol) × (n ≡ length (symbol_octets p object block symbol)))
