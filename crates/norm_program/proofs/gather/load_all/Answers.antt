use Rattle.std.proofs.Common.{◌∙◌, rules}
use Rattle.std.proofs.lemmas.Result.{err_from_is_err_and}
use Rattle.norm_endings.specs.declared.status.Ending.TheVariants.{Memory}
use Rattle.norm_program.proofs.GatherEndLemmas.{pair_fails, pair_lacks, pairs_more, pairs_all, at_ending}
use Rattle.norm_program.proofs.gather.load_all.Goals as goal

-- no memory for a path
pub returns-in_err-path-clause-ending : goal.returns-in_err-path-clause-ending
returns-in_err-path-clause-ending g c =
    let exit = err_from_is_err_and c.from_residual.result c.from_residual.ensures.1 in
    let l = c.loop-pair in
    at_ending _ c.from_residual.result exit.0 Memory exit.1 exit.2
    (pair_lacks c.args.pairs.now l.members.items l.pair-index c.pair-item.result (g.D.Files.contents c.args.files.now) (g.K.Sink.pieces c.args.output.now)
    (g.K.Sink.pieces l.output) (g.K.Sink.fault_count c.args.output.now) (g.K.Sink.fault_count l.output) (g.D.Files.fault_count c.args.files.now)
    (g.D.Files.fault_count l.files) (search rules) c.pair-item.is l.invariant.loaded l.invariant.written l.invariant.writes l.invariant.faults)

-- no profile
pub returns-in_err-profile-clause-ending : goal.returns-in_err-profile-clause-ending
returns-in_err-profile-clause-ending g c =
    let exit = err_from_is_err_and c.from_residual-in_err-profile.result c.from_residual-in_err-profile.ensures.1 in
    let l = c.loop-pair in
    at_ending _ c.from_residual-in_err-profile.result exit.0 c.in_err-profile.field-0.0 exit.1 exit.2
    (pair_fails c.args.pairs.now l.members.items l.pair-index c.pair-item.result c.in_ok-path.path c.in_err-profile.field-0.0 (g.D.Files.contents c.args.files.now)
    (g.D.Files.contents l.files) (g.K.Sink.pieces c.args.output.now) (g.K.Sink.pieces l.output) (g.K.Sink.pieces c.load.new.output)
    (g.K.Sink.fault_count c.args.output.now) (g.K.Sink.fault_count l.output) (g.K.Sink.fault_count c.load.new.output) (g.D.Files.fault_count c.args.files.now)
    (g.D.Files.fault_count l.files) (g.D.Files.fault_count c.load.new.files) (search rules) c.pair-item.is l.invariant.loaded l.invariant.same l.invariant.written
    l.invariant.writes l.invariant.faults c.in_ok-path.ensures c.in_err-profile.ensures.ending)

-- no memory for one more
pub returns-in_err-push-clause-ending : goal.returns-in_err-push-clause-ending
returns-in_err-push-clause-ending g c =
    let exit = err_from_is_err_and c.from_residual-in_err-push.result c.from_residual-in_err-push.ensures.1 in
    let l = c.loop-pair in
    at_ending _ c.from_residual-in_err-push.result exit.0 Memory exit.1 exit.2
    (pair_lacks c.args.pairs.now l.members.items l.pair-index c.pair-item.result (g.D.Files.contents c.args.files.now) (g.K.Sink.pieces c.args.output.now)
    (g.K.Sink.pieces c.load.new.output) (g.K.Sink.fault_count c.args.output.now) (g.K.Sink.fault_count c.load.new.output) (g.D.Files.fault_count c.args.files.now)
    (g.D.Files.fault_count c.load.new.files) (search rules) c.pair-item.is l.invariant.loaded (c.in_ok-profile.ensures.unwritten ∙ l.invariant.written)
    (c.in_ok-profile.ensures.quiet.0 ∙ l.invariant.writes) (c.in_ok-profile.ensures.quiet.1 ∙ l.invariant.faults))

pub loop-pair-preserved : goal.loop-pair-preserved
loop-pair-preserved g c =
    let l = c.loop-pair in record {
      loaded = pairs_more c.args.pairs.now l.members.items c.push.new.self.items l.pair-index c.pair-item.result c.in_ok-path.path c.in_ok-profile.profile
          (g.D.Files.contents c.args.files.now) (g.D.Files.contents l.files) (search rules) c.pair-item.is l.invariant.loaded l.invariant.same c.in_ok-path.ensures
          c.in_ok-profile.ensures.profile c.in_ok-push.ensures.items;
      same = c.in_ok-profile.ensures.same ∙ l.invariant.same;
      written = c.in_ok-profile.ensures.unwritten ∙ l.invariant.written;
      writes = c.in_ok-profile.ensures.quiet.0 ∙ l.invariant.writes;
      faults = c.in_ok-profile.ensures.quiet.1 ∙ l.invariant.faults;
    }

pub returns-clause-loaded : goal.returns-clause-loaded
returns-clause-loaded g c =
    pairs_all c.args.pairs.now c.loop-pair.members.items c.loop-pair.pair-index (g.D.Files.contents c.args.files.now) (search rules) c.loop-pair.invariant.loaded
