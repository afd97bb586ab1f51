-- What a sender's messages begin with, by its numbers.
use Rattle.std.specs.Prelude.{ℕ}
use Rattle.norm_base.specs.Settings.{Settings}
use Rattle.norm_ext.specs.ObjectIds.{object_id}
use Rattle.norm_ext.specs.declared.head.ObjHead.{ObjHead}
use Rattle.norm_ext.specs.declared.head.CmdHead.{CmdHead}
use Rattle.norm_sender.specs.declared.pace.Pace.{Pace}

-- of INFO and DATA of an object
abbrev pub object_front : Settings → Pace → ℕ → ℕ → ObjHead
object_front p pace index flags = record {
  source = p.sender;
  sequence = pace.sequence;
  instance = pace.instance;
  grtt = p.grtt_code;
  backoff = p.k;
  gsize = p.gsize_code;
  flags = flags;
  object = object_id p index;
}

-- of a command
abbrev pub command_front : Settings → Pace → CmdHead
command_front p pace = record {
  source = p.sender;
  sequence = pace.sequence;
  instance = pace.instance;
  grtt = p.grtt_code;
  backoff = p.k;
  gsize = p.gsize_code;
}
