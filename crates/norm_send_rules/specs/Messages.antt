-- The messages that a sender writes (RFC 5740 section 4.2).
use Rattle.std.specs.Prelude.{ℕ, ◌+◌, ◌*◌, List, [], ◌∷◌, length, is_some, if◌then◌else◌}
use Rattle.norm_base.specs.Settings.{Settings}
use Rattle.norm_base.specs.declared.kinds.Kind.{Kind}
use Rattle.norm_base.specs.declared.kinds.Kind.TheVariants as kind
use Rattle.fec_plan.specs.declared.position.Position.{Position}
use Rattle.norm_ext.specs.Extensions.{fti_extension}
use Rattle.norm_ext.specs.Message.{Message, Info, Data, Flush, Squelch}
use Rattle.norm_ext.specs.ObjectIds.{object_id}
use Rattle.norm_ext.specs.declared.head.ObjHead.{ObjHead}
use Rattle.norm_ext.specs.declared.head.CmdHead.{CmdHead}
use Rattle.norm_ext.specs.declared.fti.Fti.{Fti}
use Rattle.fec_plan.specs.Points.{Point}
use Rattle.norm_order.specs.Entries.{Object, Whole, Stream}
use Rattle.norm_order.specs.Symbols.{symbol_octets}
use Rattle.norm_send_rules.specs.SenderState.{SenderState}

-- the length that an object's transmission information says: its own, and of a stream that of its buffer
abbrev pub told_length : Settings → Object → ℕ
told_length p (Whole kind info octets) = length octets
told_length p (Stream parts) = p.blocks * p.b * p.e

-- an object's transmission information
abbrev pub fti_of_object : Settings → Object → Fti
fti_of_object p object = record { l = told_length p object; e = p.e; b = p.b; max_n = p.max_n }

-- what the kind adds to the flags: FILE of a file (RFC 5740 section 4.2.1)
abbrev pub file_flag : Kind → ℕ
file_flag kind.Data = 0
file_flag kind.File = 16

-- an object's flags: INFO where it has info, FILE, STREAM
abbrev pub object_flags : Object → ℕ
object_flags (Whole kind info octets) = file_flag kind + (if is_some info then 4 else 0)
object_flags (Stream parts) = 32

-- the flag of a repaired parity symbol: REPAIR
abbrev pub parity_repair : ℕ
parity_repair = 1

-- the flags of a repaired source symbol or info: REPAIR and EXPLICIT
abbrev pub explicit_repair : ℕ
explicit_repair = 3

-- what INFO and DATA of an object begin with
abbrev pub object_head : Settings → SenderState → ℕ → Object → ℕ → ObjHead
object_head p s index object repair = record {
  source = p.sender;
  sequence = s.sequence;
  instance = s.current.id;
  grtt = p.grtt_code;
  backoff = p.k;
  gsize = p.gsize_code;
  flags = object_flags object + repair;
  object = object_id p index;
}

-- what a command begins with
abbrev pub command_head : Settings → SenderState → CmdHead
command_head p s = record {
  source = p.sender;
  sequence = s.sequence;
  instance = s.current.id;
  grtt = p.grtt_code;
  backoff = p.k;
  gsize = p.gsize_code;
}

-- an object's info
abbrev pub info_message : Settings → SenderState → ℕ → Object → List ℕ → ℕ → Message
info_message p s index object info repair = Info (record {
  head = object_head p s index object repair;
  extensions = fti_extension (fti_of_object p object) ∷ [];
  info = info;
})

-- an encoded symbol of an object
abbrev pub data_message : Settings → SenderState → Position → Object → ℕ → Message
data_message p s at object repair = Data (record {
  head = object_head p s at.index object repair;
  id = record { block = at.block; symbol = at.symbol };
  extensions = fti_extension (fti_of_object p object) ∷ [];
  payload = symbol_octets p object at.block at.symbol;
})

-- a flush up to a position, which asks these nodes to acknowledge
abbrev pub flush_message : Settings → SenderState → Position → List ℕ → Message
flush_message p s at nodes = Flush (record {
  head = command_head p s;
  object = object_id p at.index;
  id = record { block = at.block; symbol = at.symbol };
  extensions = [];
  nodes = nodes;
})

-- a squelch: the window begins at this point. Its list of objects is left empty.
abbrev pub squelch_message : Settings → SenderState → Point → Message
squelch_message p s first = Squelch (record {
  head = command_head p s;
  object = object_id p first.index;
  id = record { block = first.block; symbol = 0 };
  extensions = [];
  invalid = [];
})
