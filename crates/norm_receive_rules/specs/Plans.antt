-- Plans of objects (RFC 5740 section 4.1 on EXT_FTI), and what is held of their blocks.
use Rattle.std.specs.Prelude.{ℕ, ◌-◌, ◌==◌, ◌&&◌, List, length, filter, find, Bool, true, false, nat_lt, Option, None, Some, is_some}
use Rattle.std.specs.List.{list_any}
use Rattle.fec_plan.specs.Partition.{Cut, cut_of, stream_cut, source_symbols}
use Rattle.fec_plan.specs.declared.position.Position.{Position}
use Rattle.norm_ext.specs.Asking.{has_flag}
use Rattle.norm_ext.specs.declared.fti.Fti.{Fti}
use Rattle.norm_receive_rules.specs.Holding.{Holding, Plan, Held, HeldInfo}

-- the flags of INFO and DATA (RFC 5740 section 4.2.1) have INFO: the object has an info
abbrev pub says_info : ℕ → Bool
says_info flags = has_flag flags 4

-- the flags have FILE: the object is a file, where it is no stream
abbrev pub says_file : ℕ → Bool
says_file flags = has_flag flags 16

-- the flags have STREAM, which comes before FILE where both are set
abbrev pub says_stream : ℕ → Bool
says_stream flags = has_flag flags 32

-- the partition that transmission information and flags give
abbrev pub cut_by : Fti → ℕ → Cut
cut_by f flags = elim (says_stream flags) [ true ↦ stream_cut f.e f.b f.max_n | false ↦ cut_of f.l f.e f.b f.max_n ]

-- a plan's partition
abbrev pub cut_of_plan : Plan → Cut
cut_of_plan plan = cut_by plan.fti plan.flags

-- the plan of an object
abbrev pub plan_of : Holding → ℕ → Option Plan
plan_of s index = find (λ (plan : Plan). plan.index == index) s.plans

-- the object was handed up or lost
abbrev pub is_over : Holding → ℕ → Bool
is_over s index = nat_lt index s.point.index

-- the symbols that are held of a block
abbrev pub held_of : Holding → ℕ → ℕ → List Held
held_of s index block = filter (λ (h : Held). h.at.index == index && h.at.block == block) s.held

-- a symbol is held
abbrev pub holds : Holding → Position → Bool
holds s at = list_any (λ (h : Held). h.at.symbol == at.symbol) (held_of s at.index at.block)

-- how many symbols a block lacks to as many as it has source symbols
abbrev pub lacking : Holding → Plan → ℕ → ℕ
lacking s plan block = source_symbols (cut_of_plan plan) block - length (held_of s plan.index block)

-- a block has as many symbols as it has source symbols
abbrev pub is_done : Holding → Plan → ℕ → Bool
is_done s plan block = lacking s plan block == 0

-- the info of an object that is held
abbrev pub info_of : Holding → ℕ → Option (List ℕ)
info_of s index = elim (find (λ (h : HeldInfo). h.index == index) s.infos) [ Some h ↦ Some h.info | None ↦ None ]

-- the object has no info, or it is held
abbrev pub has_its_info : Holding → Plan → Bool
has_its_info s plan = elim (says_info plan.flags) [ true ↦ is_some (info_of s plan.index) | false ↦ true ]

-- the first block of an object that was not handed up whole
abbrev pub first_block : Holding → ℕ → ℕ
first_block s index = elim (s.point.index == index) [ true ↦ s.point.block | false ↦ 0 ]
