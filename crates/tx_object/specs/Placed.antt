-- What is kept of an object that lies in a ring, and the object that it is.
use Rattle.std.specs.Prelude.{ℕ, ◌*◌, ◌≤◌, List, take}
use Rattle.norm_base.specs.Settings.{Settings}
use Rattle.fec_plan.specs.Partition.{IsSound, all_symbols}
use Rattle.norm_order.specs.Entries.{Object, Whole}
use Rattle.norm_send_rules.specs.Enqueuing.{info_length}
use Rattle.obj_buffer.specs.Pieces.{HoldsObject}
use Rattle.tx_object.specs.Held.{HeldObject, octets_of, octets_in, LiesIn}

-- how many octets of the ring an object takes: whole symbols
abbrev pub taken_by : HeldObject → ℕ
taken_by h = all_symbols h.cut * h.cut.e

-- the object that lies in a ring
abbrev pub object_in : List ℕ → HeldObject → Object
object_in ring h = Whole h.kind h.info (take (octets_of h.cut) (octets_in ring h))

-- an object's octets, at most 16,777,216, lie in the ring, padded; it is cut by the profile, and its info is no longer than a symbol
pub record IsPlaced (ring : List ℕ) (p : Settings) (h : HeldObject) : Type 0 where
  pub lies : LiesIn ring h
  pub sound : IsSound h.cut
  pub holds : HoldsObject h.cut (octets_in ring h) p (take (octets_of h.cut) (octets_in ring h))
  pub most : octets_of h.cut ≤ 16777216
  pub short : info_length h.info ≤ p.e
