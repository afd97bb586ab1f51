use Rattle.std.proofs.Common.{◌≡◌, ◌∙◌, ◌<◌, length, true, false, ap, arith, rules, subst, sym}
use Rattle.std.specs.Prelude.{◌==◌, map}
use Rattle.std.proofs.lemmas.Grind.{common_steps}
use Rattle.std.proofs.lemmas.Result.{err_from_is_err_and}
use Rattle.norm_order.specs.declared.up.Up.{Up}
use Rattle.norm_record.specs.HandedUp.{hand_of}
use Rattle.norm_turns.specs.Causes.{Counted}
use Rattle.norm_turns.specs.declared.fault.SessionFault.{SessionFault}
use Rattle.norm_folder.specs.Copies.{ArePut, StopsPuts, copies_by, copy_of}
use Rattle.norm_folder.proofs.CopyLemmas.{other_put, own_put, own_stops, same_up}
use Rattle.norm_folder.proofs.EntryLemmas.{at_error}
use Rattle.norm_folder.proofs.copies.put_all.Goals as goal
use Rattle.norm_folder.proofs.copies.put_all.Goals.{then-eq+in_ok-put_up, else-eq}

pub returns-in_err-put_up-clause-stops : goal.returns-in_err-put_up-clause-stops
returns-in_err-put_up-clause-stops g c =
    let exit = err_from_is_err_and c.from_residual.result c.from_residual.ensures.1 in
    let h = c.hand-item.result in
    let a = g.D.Files.contents c.args.files.now in
    let b = g.D.Files.contents c.loop-hand.files in
    let e = g.D.Files.contents c.put_up.new.files in
    let within : c.hand-item.result.at < length c.args.ups.now = grind (arith, common_steps) in
    let own : c.hand-item.result.node == c.args.node ≡ true = sym c.eq.ensures ∙ c.if-eq.true in
    let stop = subst (λ (u : Up). StopsPuts c.in_err-put_up.field-0.0 (copy_of c.args.node u) b e) (sym (same_up c.args.ups.now h c.index-ups-hand.result within))
    c.in_err-put_up.ensures.stops in
    at_error (λ (f : SessionFault). StopsPuts f (copies_by (map (hand_of c.args.ups.now) c.args.hands.now) c.args.node) a e) c.from_residual.result exit.0
    c.in_err-put_up.field-0.0 exit.1 exit.2
    (own_stops c.in_err-put_up.field-0.0 c.args.node c.args.ups.now c.args.hands.now c.loop-hand.hand-index h a b e (search rules) c.hand-item.is own
    c.loop-hand.invariant.put stop)

pub loop-hand-preserved : goal.loop-hand-preserved
loop-hand-preserved g c =
    let h = c.hand-item.result in
    let a = g.D.Files.contents c.args.files.now in
    let b = g.D.Files.contents c.loop-hand.files in
    elim c.if-eq.branch [
      | then-eq+in_ok-put_up w ↦
          let within : c.hand-item.result.at < length c.args.ups.now = grind (arith, common_steps) in
          let own : c.hand-item.result.node == c.args.node ≡ true = sym c.eq.ensures ∙ w.if-eq.true in
          let one = subst (λ (u : Up). ArePut (copy_of c.args.node u) b (g.D.Files.contents w.put_up.new.files))
          (sym (same_up c.args.ups.now h w.index-ups-hand.result within)) w.in_ok-put_up.ensures.put in
          rw (w.files-is) (record {
            put = own_put c.args.node c.args.ups.now c.args.hands.now c.loop-hand.hand-index h a b (g.D.Files.contents w.put_up.new.files) (search rules) c.hand-item.is own
                c.loop-hand.invariant.put one;
            faults = ap (λ (k : Counted). k.files) (w.in_ok-put_up.ensures.cause 0 0) ∙ c.loop-hand.invariant.faults;
          })
      | else-eq w ↦
          let other : c.hand-item.result.node == c.args.node ≡ false = sym c.eq.ensures ∙ w.if-eq.false in
          rw (w.files-is) (record {
            put = other_put c.args.node c.args.ups.now c.args.hands.now c.loop-hand.hand-index h a b (search rules) c.hand-item.is other c.loop-hand.invariant.put;
            faults = c.loop-hand.invariant.faults;
          })
    ]
