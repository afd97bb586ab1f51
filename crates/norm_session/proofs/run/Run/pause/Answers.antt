use Rattle.std.proofs.Common.{◌∙◌, ap, subst, sym}
use Rattle.std.specs.Prelude.{◌==◌, ◌&&◌, not, length, is_none, slice_get, option_and_then}
use Rattle.norm_script.specs.Commands.{Commands}
use Rattle.norm_session.specs.Left.{lines_at}
use Rattle.norm_world.specs.WorldKept.{IsReady}
use Rattle.norm_session.proofs.run.Run.pause.Goals as goal

pub returns : goal.returns
returns c =
    let parts = c.into_parts-journal.ensures in
    let k = c.args.self in
    record {
      journal = sym parts.journal ∙ c.unwrap.ensures;
      draws = parts.draws;
      whole = c.is_whole-whole.ensures;
      waiting = λ x w place same.
          c.has_commands-waiting.ensures
          ∙ ap (λ (s : Commands). not (length (lines_at s.lines k.left) == 0 && is_none (option_and_then (slice_get s.lines) k.waiting))) (sym same);
      turn = parts.turn;
      last = parts.now;
      counts = parts.totals;
      world = parts.world;
      ready = subst IsReady parts.world parts.ready;
    }
