use Rattle.std.proofs.Common.{◌∙◌, rules}
use Rattle.std.proofs.lemmas.Result.{err_from_is_err_and}
use Rattle.norm_turns.specs.declared.fault.SessionFault.TheVariants as fault
use Rattle.norm_folder.specs.Entries.{IsUnready}
use Rattle.norm_folder.specs.declared.entries.Unready.TheVariants.{Unread}
use Rattle.norm_folder.proofs.EntryLemmas.{at_error, at_cause, cause_on, names_more, names_all, names_stop, memory_cause}
use Rattle.norm_folder.proofs.entries.measure_all.Goals as goal

-- a file that stops it
pub returns-in_err-file-clause-stops : goal.returns-in_err-file-clause-stops
returns-in_err-file-clause-stops g c =
    let exit = err_from_is_err_and c.from_residual.result c.from_residual.ensures.1 in
    let l = c.loop-name in
    at_error (IsUnready (g.D.Files.contents c.args.files.now) c.args.names.now) c.from_residual.result exit.0 c.in_err-file.field-0.0 exit.1 exit.2
    (names_stop (g.D.Files.contents c.args.files.now) (g.D.Files.contents l.files) c.args.names.now l.measured.items l.name-index c.name-item.result
    c.in_err-file.field-0.0 (search rules) c.name-item.is l.invariant.measured l.invariant.same c.in_err-file.ensures.stops)

pub returns-in_err-file-clause-cause : goal.returns-in_err-file-clause-cause
returns-in_err-file-clause-cause g c =
    let exit = err_from_is_err_and c.from_residual.result c.from_residual.ensures.1 in
    at_cause c.from_residual.result exit.0 c.in_err-file.field-0.0 _ _ exit.1 exit.2
    (cause_on c.in_err-file.field-0.0 _ _ _ c.loop-name.invariant.faults c.in_err-file.ensures.cause)

pub returns-in_err-file-clause-same : goal.returns-in_err-file-clause-same
returns-in_err-file-clause-same g c = c.measure.ensures.same ∙ c.loop-name.invariant.same

-- no memory for one more
pub returns-in_err-push-clause-stops : goal.returns-in_err-push-clause-stops
returns-in_err-push-clause-stops g c =
    let exit = err_from_is_err_and c.from_residual-in_err-push.result c.from_residual-in_err-push.ensures.1 in
    at_error (IsUnready (g.D.Files.contents c.args.files.now) c.args.names.now) c.from_residual-in_err-push.result exit.0 (Unread fault.Memory) exit.1 exit.2 tt

pub returns-in_err-push-clause-cause : goal.returns-in_err-push-clause-cause
returns-in_err-push-clause-cause g c =
    let exit = err_from_is_err_and c.from_residual-in_err-push.result c.from_residual-in_err-push.ensures.1 in
    at_cause c.from_residual-in_err-push.result exit.0 (Unread fault.Memory) _ _ exit.1 exit.2
    (memory_cause _ _ (c.in_ok-file.ensures.cause ∙ c.loop-name.invariant.faults))

pub loop-name-preserved : goal.loop-name-preserved
loop-name-preserved g c =
    let l = c.loop-name in record {
      measured = names_more (g.D.Files.contents c.args.files.now) (g.D.Files.contents l.files) c.args.names.now l.measured.items c.push.new.self.items l.name-index
          c.name-item.result c.in_ok-file.file (search rules) c.name-item.is l.invariant.measured l.invariant.same c.in_ok-file.ensures.measured c.in_ok-push.ensures.items;
      same = c.in_ok-file.ensures.same ∙ l.invariant.same;
      faults = c.in_ok-file.ensures.cause ∙ l.invariant.faults;
    }

pub returns-clause-measured : goal.returns-clause-measured
returns-clause-measured g c =
    names_all (g.D.Files.contents c.args.files.now) c.args.names.now c.loop-name.measured.items c.loop-name.name-index (search rules) c.loop-name.invariant.measured
