-- What a buffer of an object is seen as, and what it keeps.
use Rattle.std.specs.Prelude.{ℕ, ◌≡◌, ◌≤◌, ◌*◌, List, Option, length, take}
use Rattle.norm_base.specs.declared.kinds.Kind.{Kind}
use Rattle.fec_plan.specs.Partition.{Cut, cut_of, symbols_in}
use Rattle.norm_ext.specs.declared.fti.Fti.{Fti}
use Rattle.norm_order.specs.Entries.{Object, Whole}
use Rattle.obj_buffer.specs.Pieces.{whole_symbols}
use Rattle.obj_buffer.specs.declared.buffer.ObjectBuf.TheInside.{Inside}

-- an object's kind, info and octets, and how it is cut
pub record BufferState : Type 0 where
  pub cut : Cut
  pub kind : Kind
  pub info : Option (List ℕ)
  pub octets : List ℕ

-- the object of a transport order
abbrev pub object_of : BufferState → Object
object_of b = Whole b.kind b.info b.octets

-- the object's transmission information (RFC 5510 section 5.2.4): its length, and how it is cut
abbrev pub fti_of : BufferState → Fti
fti_of b = record { l = length b.octets; e = b.cut.e; b = b.cut.b; max_n = b.cut.max_n }

abbrev pub buffer_view : Inside → BufferState
buffer_view b = record { cut = b.plan; kind = b.kind; info = b.info; octets = take b.fti.l b.symbols.items }

-- the kept octets are the object's, padded, and the plan and the codes are those of the transmission information
pub record BufferSound (b : Inside) : Type 0 where
  pub enough : b.fti.l ≤ length b.symbols.items
  pub whole : length b.symbols.items ≡ symbols_in b.fti.l b.fti.e * b.fti.e
  pub padded : b.symbols.items ≡ whole_symbols b.fti.e (take b.fti.l b.symbols.items)
  pub plan : b.plan ≡ cut_of b.fti.l b.fti.e b.fti.b b.fti.max_n
  pub codes : b.codes ≡ b.plan
