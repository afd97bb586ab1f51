-- A run over all lines, from its opening on.
use Rattle.std.proofs.Common.{ℕ, List, Option, Result, Ok, Err}
use Rattle.std.specs.Prelude.{IfOk, IfErr}
use Rattle.norm_base.specs.Settings.{Settings}
use Rattle.norm_base.specs.Told.{Pieces}
use Rattle.norm_script.specs.Text.{text_lines}
use Rattle.norm_show.specs.declared.fault.NoDatagram.{NoDatagram}
use Rattle.norm_turns.specs.declared.fault.SessionFault.{SessionFault}
use Rattle.relay_words.specs.declared.ends.RelayEnd.{RelayEnd}
use Rattle.driven_nodes.specs.Chaining.{Halts, Breaks}
use Rattle.driven_nodes.specs.Chaining as chain
use Rattle.driven_nodes.specs.Gathered.{gather_lines, gathered}
use Rattle.driven_nodes.specs.Gathered as gather
use Rattle.driven_nodes.specs.Hearing.{IsReady}
use Rattle.driven_nodes.specs.Hearing as hearing
use Rattle.driven_nodes.specs.Relayed.{ended, relayed}
use Rattle.driven_nodes.specs.Relayed as relay
use Rattle.driven_nodes.specs.Writing.{TookLines, Ends, LeavesLines}
use Rattle.driven_nodes.specs.declared.chain.Chain.{Chain}
use Rattle.driven_nodes.specs.declared.gathering.Gathering.{Gathering}
use Rattle.driven_nodes.proofs.ChainLemmas.{all_lines}

-- ---- of a relay

pub relay_goes : (result : Result RelayEnd SessionFault) (k : Chain) (p : Settings) (node : ℕ) (q : Settings) (text : List ℕ) (u w : Pieces)
    → chain.StandsFor k (relay.opening p node q) → IfOk result (λ how. Halts (all_lines text) how k u w)
    → IfOk result (λ how. Ends (relayed p node q text) how u w)
relay_goes (Ok how) k p node q text u w stands goes = goes (relay.opening p node q) ended stands
relay_goes (Err f) k p node q text u w stands goes = goes

pub relay_stops : (result : Result RelayEnd SessionFault) (k : Chain) (p : Settings) (node : ℕ) (q : Settings) (text : List ℕ) (u w : Pieces)
    → chain.StandsFor k (relay.opening p node q) → IfErr result (λ f. Breaks (all_lines text) f k u w)
    → IfErr result (λ f. LeavesLines f u w (relayed p node q text).lines)
relay_stops (Ok how) k p node q text u w stands stops = stops
relay_stops (Err f) k p node q text u w stands stops = stops (relay.opening p node q) ended stands

-- ---- of a gathering

abbrev Stop : Type 0
Stop = Option (ℕ × NoDatagram)

pub gather_ready : (list : List (Settings × ℕ)) (k : Gathering) → hearing.StandsFor list k (gather.opening list) → IsReady list k
gather_ready list k stands = record { state = gather.opening list; stands = stands }

pub gather_goes : (result : Result Stop SessionFault) (list : List (Settings × ℕ)) (k : Gathering) (text : List ℕ) (u w : Pieces)
    → hearing.StandsFor list k (gather.opening list)
    → IfOk result (λ stop. (g : gather.SoFar) → hearing.StandsFor list k g → TookLines (gather_lines 1 (text_lines text) g) u w stop)
    → IfOk result (λ stop. TookLines (gathered list text) u w stop)
gather_goes (Ok stop) list k text u w stands goes = goes (gather.opening list) stands
gather_goes (Err f) list k text u w stands goes = goes

pub gather_stops : (result : Result Stop SessionFault) (list : List (Settings × ℕ)) (k : Gathering) (text : List ℕ) (u w : Pieces)
    → hearing.StandsFor list k (gather.opening list)
    → IfErr result (λ f. (g : gather.SoFar) → hearing.StandsFor list k g → LeavesLines f u w (gather_lines 1 (text_lines text) g).lines)
    → IfErr result (λ f. LeavesLines f u w (gathered list text).lines)
gather_stops (Ok stop) list k text u w stands stops = stops
gather_stops (Err f) list k text u w stands stops = stops (gather.opening list) stands
