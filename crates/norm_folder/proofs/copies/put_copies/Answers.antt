use Rattle.std.proofs.Common.{ℕ, List, ap, rules, subst, ◌∙◌}
use Rattle.std.proofs.lemmas.Result.{err_from_is_err_and}
use Rattle.norm_base.specs.Members.{receivers_of}
use Rattle.norm_order.specs.declared.up.Up.{Up}
use Rattle.norm_record.specs.HandedUp.{handed_up}
use Rattle.norm_turns.specs.Causes.{Counted}
use Rattle.norm_turns.specs.declared.fault.SessionFault.{SessionFault}
use Rattle.norm_folder.specs.Copies.{ArePut, StopsPuts, copies, copies_by}
use Rattle.norm_folder.proofs.CopyLemmas.{receiver_put, receiver_stops}
use Rattle.norm_folder.proofs.EntryLemmas.{at_error}
use Rattle.norm_folder.proofs.copies.put_copies.Goals as goal

pub returns-in_err-put_all-clause-stops : goal.returns-in_err-put_all-clause-stops
returns-in_err-put_all-clause-stops g c =
    let exit = err_from_is_err_and c.from_residual.result c.from_residual.ensures.1 in
    let all = handed_up c.args.journal.now in
    let p = c.args.profile.now in
    let node = c.receiver.result in
    let a = g.D.Files.contents c.args.files.now in
    let b = g.D.Files.contents c.loop-i.files in
    let e = g.D.Files.contents c.put_all.new.files in
    let why = c.in_err-put_all.field-0.0 in
    let stop = subst (λ (l : List (ℕ × Up)). StopsPuts why (copies_by l node) b e) c.kept_ups.ensures.are c.in_err-put_all.ensures.stops in
    at_error (λ (f : SessionFault). StopsPuts f (copies all (receivers_of p p.receivers)) a e) c.from_residual.result exit.0 why exit.1 exit.2
    (receiver_stops why all p c.loop-i.i p.receivers node a b e (search rules) c.receiver.ensures c.loop-i.invariant.put stop)

pub loop-i-preserved : goal.loop-i-preserved
loop-i-preserved g c =
    let all = handed_up c.args.journal.now in
    let node = c.receiver.result in
    let a = g.D.Files.contents c.args.files.now in
    let b = g.D.Files.contents c.loop-i.files in
    let e = g.D.Files.contents c.put_all.new.files in
    let one = subst (λ (l : List (ℕ × Up)). ArePut (copies_by l node) b e) c.kept_ups.ensures.are c.in_ok-put_all.ensures.put in
    record {
      put = receiver_put all c.args.profile.now c.loop-i.i node a b e c.receiver.ensures c.loop-i.invariant.put one;
      faults = ap (λ (k : Counted). k.files) (c.in_ok-put_all.ensures.cause 0 0) ∙ c.loop-i.invariant.faults;
    }
