use Rattle.std.proofs.Common.{◌∙◌}
use Rattle.norm_sender.specs.Inside.{kept_of}
use Rattle.norm_sender.proofs.parts.Parts.begin_anew.Goals as goal

pub returns-clause-stands : goal.returns-clause-stands
returns-clause-stands c s h =
    let k = kept_of c.args.self.now in
    record {
      window_profile = c.clear.ensures.profile ∙ h.window_profile;
      filling = c.clear.ensures.finished;
      union_profile = c.clear-2.ensures.profile ∙ h.union_profile;
      window = c.clear.ensures.begun c.args.instance s h.window;
      union = c.clear-2.ensures.begun c.args.instance s h.union;
      book = c.cut_all.ensures k.p s c.args.instance h.book;
      pace = c.begun_anew-self.ensures s h.pace;
    }
