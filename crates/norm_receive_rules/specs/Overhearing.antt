-- What a receiver hears others ask for while it backs off (RFC 5401 section 3.2.2, RFC 5740 section 5.3). A message is heard as a
-- whole or not at all, so that what is kept of all of them has a bound.
use Rattle.std.specs.Prelude.{ℕ, ◌+◌, ◌==◌, ◌&&◌, not, List, ◌++◌, map, fold, length, Bool, true, false, nat_le, None, Some}
use Rattle.norm_base.specs.Settings.{Settings}
use Rattle.norm_ext.specs.Asking.{Named, named, asked_spans, asked_counts}
use Rattle.norm_ext.specs.Message.{NackMessage, RepairAdvCommand}
use Rattle.norm_ext.specs.Requests.{Request}
use Rattle.norm_receive_rules.specs.Heard.{Heard, heard_nothing, asked_infos, with_proper, with_count}
use Rattle.norm_receive_rules.specs.Leaving.{is_in}
use Rattle.norm_receive_rules.specs.ReceiverState.{ReceiverState, Knowledge}

-- What a request names, behind what those before it name: here nothing is merged. An item of several flags stands once for each
-- of them that asks for symbols.
abbrev pub asked_also : Heard → Named → Heard
asked_also asked r = record {
  symbols = asked.symbols ++ asked_spans r;
  infos = asked.infos ++ asked_infos r;
  counts = asked.counts ++ asked_counts r;
}

-- all that the requests of a message name, one after another
abbrev pub asked_all : List Named → Heard
asked_all requests = fold asked_also heard_nothing requests

-- what was heard, and all that is asked for more
abbrev pub noted : Heard → Heard → Heard
noted heard asked = record {
  symbols = fold with_proper heard.symbols asked.symbols;
  infos = fold with_proper heard.infos asked.infos;
  counts = fold (λ counts c. with_count c counts) heard.counts asked.counts;
}

-- the most spans of symbols, the most spans of infos and the most counts that are kept of what was heard: our own choice
abbrev pub most_heard : ℕ
most_heard = 4096

-- What was heard and what a message names are together no more than that, of each kind by itself. All that the message names
-- counts, also what was heard before.
abbrev pub can_hear : Heard → Heard → Bool
can_hear heard asked =
    nat_le (length heard.symbols + length asked.symbols) most_heard
    && nat_le (length heard.infos + length asked.infos) most_heard
    && nat_le (length heard.counts + length asked.counts) most_heard

-- what was heard after a message: all that it names joins it, or nothing
abbrev pub heard_whole : Heard → Heard → Heard
heard_whole heard asked = elim (can_hear heard asked) [ true ↦ noted heard asked | false ↦ heard ]

-- the requests of a message that comes while a back-off runs, by what they name now
abbrev pub overhears : Settings → List Request → Knowledge → Knowledge
overhears p requests k = elim k.backoff [
  | Some ends ↦ record k { heard = heard_whole k.heard (asked_all (map (named p k.known) requests)) }
  | None ↦ k
]

-- the state after that
abbrev pub overheard : Settings → List Request → ReceiverState → ReceiverState
overheard p requests s = record s { knows = overhears p requests s.knows }

-- a NACK of another node to this sender and instance
abbrev pub nack_counts : Settings → NackMessage → ReceiverState → Bool
nack_counts p m s = not (m.source == s.node) && m.sender == p.sender && is_in s m.instance

-- it is heard, and no other
abbrev pub nack_overheard : Settings → NackMessage → ReceiverState → ReceiverState
nack_overheard p m s = elim (nack_counts p m s) [
  | true ↦ overheard p m.requests s
  | false ↦ s
]

-- the sender's own word of what it was asked for in this instance
abbrev pub adv_overheard : Settings → RepairAdvCommand → ReceiverState → ReceiverState
adv_overheard p m s = elim (is_in s m.head.instance) [ true ↦ overheard p m.requests s | false ↦ s ]
