-- Tied, part 1: what the sender says of an object is that object's, and an order only grows.
use Rattle.std.specs.Prelude.{ℕ, ◌≡◌, ◌*◌, ◌/◌, ◌==◌, ◌&&◌, List, ◌++◌, Bool, false, nat_eq, nat_lt, slice_get, Option, None, Some, IsTrue, IsSomeAnd, IfSome}
use Rattle.std.specs.List.{list_all, AllByRecursion}
use Rattle.std.specs.Cmp.Lexicographic.{pointwise}
use Rattle.std.specs.Option.{option_eq}
use Rattle.norm_base.specs.Settings.{Settings}
use Rattle.norm_ext.specs.Extensions.{Extension, fti_of}
use Rattle.norm_ext.specs.Message.{InfoMessage, DataMessage}
use Rattle.norm_ext.specs.declared.fti.Fti.{Fti}
use Rattle.norm_order.specs.Entries.{Part, Object, Whole, Stream, Entry}
use Rattle.norm_order.specs.Segments.{segments}
use Rattle.norm_order.specs.Shapes.{shape_of, encoded_in}
use Rattle.norm_order.specs.Symbols.{symbol_octets}
use Rattle.norm_send_rules.specs.Messages.{fti_of_object, object_flags}
use Rattle.norm_send_rules.specs.SenderState.{SenderState, Instance}
use Rattle.norm_send_rules.specs.Restarting.{instances}
use Rattle.norm_safety.specs.Fronts.{IsFront}
use Rattle.norm_safety.specs.History.{Happening, History}
use Rattle.norm_safety.specs.OnceEach.{order_of}
use Rattle.norm_safety.specs.Said.{About, said_infos, said_data, entry_at}

-- the info of an object that has one
abbrev pub info_of_object : Object → Option (List ℕ)
info_of_object (Whole kind info octets) = info
info_of_object (Stream parts) = None

-- transmission information and flags, but for those of a repair, are an object's
abbrev pub SaysObject : Settings → Object → List Extension → ℕ → Type 0
SaysObject p object extensions flags =
    (fti_of extensions ≡ Some (fti_of_object p object)) × (4 * (flags / 4) ≡ object_flags object)

-- a DATA carries an encoded symbol of its entry
abbrev pub SaysSymbol : Settings → SenderState → About DataMessage → Type 0
SaysSymbol p s x = let m = x.message in IsSomeAnd (entry_at s m.head.instance x.index) (λ entry.
    IsTrue (nat_lt m.id.symbol (encoded_in (shape_of p entry.object) m.id.block))
    × (m.payload ≡ symbol_octets p entry.object m.id.block m.id.symbol)
    × SaysObject p entry.object m.extensions m.head.flags)

-- an INFO carries the info of its entry
abbrev pub SaysInfo : Settings → SenderState → About InfoMessage → Type 0
SaysInfo p s x = let m = x.message in IsSomeAnd (entry_at s m.head.instance x.index) (λ entry.
    (info_of_object entry.object ≡ Some m.info) × SaysObject p entry.object m.extensions m.head.flags)

-- an object stays, or is a stream with more parts, of which the closed segments stay
abbrev pub ObjectGrows : Settings → Object → Object → Type 0
ObjectGrows p (Whole kind info octets) later = later ≡ Whole kind info octets
ObjectGrows p (Stream parts) later =
    (more : List Part) × (later ≡ Stream (parts ++ more)) × IsFront (segments p.e parts) (segments p.e (parts ++ more))

-- each entry of an order is in a later one, by the same command, and grew at most
abbrev pub OrderGrows : Settings → List Entry → List Entry → Type 0
OrderGrows p order later = (index : ℕ) → IfSome (slice_get order index) (λ entry.
    IsSomeAnd (slice_get later index) (λ after. (after.by ≡ entry.by) × ObjectGrows p entry.object after.object))

-- each instance's order grew at most
abbrev pub OrdersGrow : Settings → Happening → Type 0
OrdersGrow p h = AllByRecursion (λ (i : Instance). OrderGrows p i.order (order_of h.after.sender i.id)) (instances h.before.sender)

-- of each DATA and INFO that was said; and orders only grow
pub record SaysSymbols (p : Settings) (h : History) : Type 0 where
  pub symbols : AllByRecursion (SaysSymbol p h.now.sender) (said_data h.now)
  pub infos : AllByRecursion (SaysInfo p h.now.sender) (said_infos h.now)
  pub grow : AllByRecursion (OrdersGrow p) h.happened

-- What is said of objects, as a test.

-- two of transmission information are equal
abbrev pub same_fti : Fti → Fti → Bool
same_fti f g = f.l == g.l && f.e == g.e && f.b == g.b && f.max_n == g.max_n

-- transmission information and flags are an object's
abbrev pub says_object : Settings → Object → List Extension → ℕ → Bool
says_object p object extensions flags =
    option_eq same_fti (fti_of extensions) (Some (fti_of_object p object)) && 4 * (flags / 4) == object_flags object

-- a DATA carries an encoded symbol of its entry
abbrev pub says_symbol : Settings → SenderState → About DataMessage → Bool
says_symbol p s x = let m = x.message in elim (entry_at s m.head.instance x.index) [
  | Some entry ↦
      nat_lt m.id.symbol (encoded_in (shape_of p entry.object) m.id.block)
      && pointwise nat_eq m.payload (symbol_octets p entry.object m.id.block m.id.symbol)
      && says_object p entry.object m.extensions m.head.flags
  | None ↦ false
]

-- an INFO carries the info of its entry
abbrev pub says_info : Settings → SenderState → About InfoMessage → Bool
says_info p s x = let m = x.message in elim (entry_at s m.head.instance x.index) [
  | Some entry ↦
      option_eq (pointwise nat_eq) (info_of_object entry.object) (Some m.info) && says_object p entry.object m.extensions m.head.flags
  | None ↦ false
]

-- of each DATA and INFO that was said
abbrev pub says_symbols : Settings → History → Bool
says_symbols p h = list_all (says_symbol p h.now.sender) (said_data h.now) && list_all (says_info p h.now.sender) (said_infos h.now)
