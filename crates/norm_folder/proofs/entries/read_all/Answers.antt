use Rattle.std.proofs.Common.{◌∙◌, rules, sym, subst, ap, arith}
use Rattle.std.proofs.lemmas.Result.{err_from_is_err_and}
use Rattle.norm_journal.specs.Follows.{IsLength}
use Rattle.norm_turns.specs.Causes.{Counted}
use Rattle.norm_turns.specs.declared.fault.SessionFault.TheVariants as fault
use Rattle.norm_folder.specs.Entries.{IsFirstUnread}
use Rattle.norm_folder.proofs.EntryLemmas.{at_error, at_files, files_cause, files_lack, files_more, files_all, files_stop, found}
use Rattle.norm_folder.proofs.entries.read_all.Goals as goal

pub read_entry-requires-clause-told : goal.read_entry-requires-clause-told
read_entry-requires-clause-told g c =
    let l = c.loop-file in
    let f = found (g.D.Files.contents c.args.files.now) c.args.names.now c.args.measured.now l.file-index c.file-item.result (search rules) c.file-item.is c.requires.measured in
    subst (λ n. IsLength n c.file-item.result.name c.file-item.result.len) (sym l.invariant.same) f.len

-- a file that is not read
pub returns-in_err-entry-clause-stops : goal.returns-in_err-entry-clause-stops
returns-in_err-entry-clause-stops g c =
    let exit = err_from_is_err_and c.from_residual.result c.from_residual.ensures.1 in
    let l = c.loop-file in
    let f = found (g.D.Files.contents c.args.files.now) c.args.names.now c.args.measured.now l.file-index c.file-item.result (search rules) c.file-item.is c.requires.measured in
    at_error (IsFirstUnread (g.D.Files.contents c.args.files.now) c.args.names.now) c.from_residual.result exit.0 c.in_err-entry.field-0.0 exit.1 exit.2
    (files_stop (g.D.Files.contents c.args.files.now) (g.D.Files.contents l.files) c.args.names.now c.file-item.result c.in_err-entry.field-0.0 f l.invariant.same
    c.in_err-entry.ensures.stops)

pub returns-in_err-entry-clause-cause : goal.returns-in_err-entry-clause-cause
returns-in_err-entry-clause-cause g c =
    let exit = err_from_is_err_and c.from_residual.result c.from_residual.ensures.1 in
    at_files c.from_residual.result exit.0 c.in_err-entry.field-0.0 _ _ exit.1 exit.2
    (files_cause c.in_err-entry.field-0.0 _ _ _ c.loop-file.invariant.faults c.in_err-entry.ensures.cause)

-- no memory for one more
pub returns-in_err-push-clause-stops : goal.returns-in_err-push-clause-stops
returns-in_err-push-clause-stops g c =
    let exit = err_from_is_err_and c.from_residual-in_err-push.result c.from_residual-in_err-push.ensures.1 in
    at_error (IsFirstUnread (g.D.Files.contents c.args.files.now) c.args.names.now) c.from_residual-in_err-push.result exit.0 fault.Memory exit.1 exit.2 tt

pub returns-in_err-push-clause-cause : goal.returns-in_err-push-clause-cause
returns-in_err-push-clause-cause g c =
    let exit = err_from_is_err_and c.from_residual-in_err-push.result c.from_residual-in_err-push.ensures.1 in
    at_files c.from_residual-in_err-push.result exit.0 fault.Memory _ _ exit.1 exit.2
    (files_lack _ _ (ap (λ (k : Counted). k.files) (c.in_ok-entry.ensures.cause 0 0) ∙ c.loop-file.invariant.faults))

pub loop-file-preserved : goal.loop-file-preserved
loop-file-preserved g c =
    let l = c.loop-file in
    let room = l.invariant.room in
    let same_len = c.read_entry.auto.buf in record {
      read = files_more (g.D.Files.contents c.args.files.now) (g.D.Files.contents l.files) c.args.measured.now l.entries.items c.push.new.self.items l.file-index
          c.file-item.result c.in_ok-entry.entry (search rules) c.file-item.is l.invariant.read l.invariant.same c.in_ok-entry.ensures.entry c.in_ok-push.ensures.items;
      same = c.in_ok-entry.ensures.same ∙ l.invariant.same;
      faults = ap (λ (k : Counted). k.files) (c.in_ok-entry.ensures.cause 0 0) ∙ l.invariant.faults;
      room = omega (arith, room, same_len);
    }

pub returns-clause-entries : goal.returns-clause-entries
returns-clause-entries g c =
    files_all (g.D.Files.contents c.args.files.now) c.args.measured.now c.loop-file.entries.items c.loop-file.file-index (search rules) c.loop-file.invariant.read
