use Rattle.std.proofs.Common.{sym, subst, ap, ◌∙◌, []}
use Rattle.norm_base.specs.ProfileView.{settings_of}
use Rattle.stream_buffer.specs.RowsState.{RowsState}
use Rattle.stream_buffer.specs.StreamState.{StandsFor, empty_stream}
use Rattle.stream_buffer.proofs.MovesLemmas.{state_of}
use Rattle.stream_buffer.proofs.FaultLemmas.{empty_stands}
use Rattle.stream_buffer.proofs.stream.StreamBuf.new.Goals as goal

pub returns-clause-stands : goal.returns-clause-stands
returns-clause-stands c =
    subst (StandsFor c.args.profile.now [])
    (sym (ap (λ (r : RowsState). state_of (empty_stream (settings_of c.profile.inside)) r.rows r.filling 0) c.in_ok-rows.ensures ∙ ap empty_stream c.profile.view_is))
    (empty_stands c.args.profile.now)
