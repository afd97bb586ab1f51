-- What is written of commands is how they are spelled.
use Rattle.std.proofs.Common.{◌≡◌, ℕ, ◌+◌, ◌/◌, ◌%◌, List, ◌∷◌, [], ◌++◌, length, sym, ap}
use Rattle.fec_plan.specs.Payload.{Name}
use Rattle.norm_ext.specs.Extensions.{Extension}
use Rattle.norm_ext.specs.Lists.{nodes_of, objects_of}
use Rattle.norm_ext.specs.Message.{Flush, Squelch, AckReq}
use Rattle.norm_ext.specs.Octets.{front_octets, command_octets, octets_of, extensions_octets}
use Rattle.norm_ext.specs.declared.head.CmdHead.{CmdHead}
use Rattle.norm_base.specs.Octets.{AreOctets}
use Rattle.norm_ext.proofs.NumberLemmas.{nodes_together, objects_together}
use Rattle.norm_cmdmsg.specs.SymbolOctets.{symbol_octets}

-- the head of a command whose extensions have these octets
abbrev head_of : CmdHead → ℕ → ℕ → List ℕ → List ℕ
head_of h words sub_type exts = front_octets 3 (words + length exts / 4) h.sequence h.source ++ command_octets h sub_type

pub flush_written : (h : CmdHead) (object : ℕ) (id : Name) (extensions : List Extension) (nodes : List ℕ) → AreOctets nodes → length nodes % 4 ≡ 0
    → head_of h 5 1 (extensions_octets extensions) ++ symbol_octets object id ++ extensions_octets extensions ++ nodes
    ≡ octets_of (Flush (record { head = h; object = object; id = id; extensions = extensions; nodes = nodes_of nodes }))
flush_written h object id extensions nodes fits whole =
    let spelled : List ℕ = extensions_octets extensions in
    sym (ap (λ (t : List ℕ). head_of h 5 1 spelled ++ symbol_octets object id ++ spelled ++ t) (nodes_together nodes fits whole))

pub squelch_written : (h : CmdHead) (object : ℕ) (id : Name) (extensions : List Extension) (invalid : List ℕ) → AreOctets invalid → length invalid % 2 ≡ 0
    → head_of h 5 3 (extensions_octets extensions) ++ symbol_octets object id ++ extensions_octets extensions ++ invalid
    ≡ octets_of (Squelch (record { head = h; object = object; id = id; extensions = extensions; invalid = objects_of invalid }))
squelch_written h object id extensions invalid fits whole =
    let spelled : List ℕ = extensions_octets extensions in
    sym (ap (λ (t : List ℕ). head_of h 5 3 spelled ++ symbol_octets object id ++ spelled ++ t) (objects_together invalid fits whole))

pub ack_req_written : (h : CmdHead) (ack_type ack_id : ℕ) (extensions : List Extension) (nodes : List ℕ) → AreOctets nodes → length nodes % 4 ≡ 0
    → head_of h 4 6 (extensions_octets extensions) ++ (0 ∷ ack_type ∷ ack_id ∷ []) ++ extensions_octets extensions ++ nodes
    ≡ octets_of (AckReq (record { head = h; ack_type = ack_type; ack_id = ack_id; extensions = extensions; nodes = nodes_of nodes }))
ack_req_written h ack_type ack_id extensions nodes fits whole =
    let spelled : List ℕ = extensions_octets extensions in
    sym (ap (λ (t : List ℕ). head_of h 4 6 spelled ++ (0 ∷ ack_type ∷ ack_id ∷ []) ++ spelled ++ t) (nodes_together nodes fits whole))
