-- Which refusals only say that there is no room yet.
use Rattle.std.specs.Prelude.{Bool, true, false}
use Rattle.norm_send_rules.specs.declared.fault.SendFault.{SendFault}
use Rattle.norm_send_rules.specs.declared.fault.SendFault.TheVariants.{Enqueue, Mark}
use Rattle.norm_send_rules.specs.declared.fault.EnqueueFault.TheVariants.{WindowFull, Stream}
use Rattle.norm_send_rules.specs.declared.fault.StreamFault.TheVariants.{Full}
use Rattle.norm_send_rules.specs.declared.fault.MarkFault.TheVariants.{TooMany}

-- there is no room yet: in the window, in the stream's buffer, or for one more watermark
abbrev pub may_wait : SendFault → Bool
may_wait (Enqueue (WindowFull first)) = true
may_wait (Enqueue (Stream (Full first))) = true
may_wait (Mark (TooMany count)) = true
may_wait _ = false
