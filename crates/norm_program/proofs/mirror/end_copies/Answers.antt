use Rattle.std.proofs.Common.{ap, subst, inl}
use Rattle.norm_base.specs.Members.{receivers_of}
use Rattle.norm_base.specs.Settings.{Settings}
use Rattle.norm_record.specs.HandedUp.{handed_up}
use Rattle.norm_turns.specs.Causes.{Counted}
use Rattle.norm_folder.specs.Copies.{ArePut, copies}
use Rattle.norm_program.specs.declared.mirror.Sending.{Sending}
use Rattle.norm_program.proofs.mirror.end_copies.Goals as goal

-- all were put
pub returns-in-Ok : goal.returns-in-Ok
returns-in-Ok g c = inl (record {
  put = subst (λ (p : Settings). ArePut (copies (handed_up c.args.journal.now) (receivers_of p p.receivers)) (g.D.Files.contents c.args.files.now)
      (g.D.Files.contents c.put_copies.new.files)) (ap (λ (s : Sending). s.script.profile) c.sending.view_is) c.in-Ok.ensures.put;
  faults = ap (λ (z : Counted). z.files) (c.in-Ok.ensures.cause 0 0);
  last = c.end_mirrored.ensures;
})
