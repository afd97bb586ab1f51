use Rattle.std.proofs.Common.{Ok}
use Rattle.norm_profile.proofs.LoadLemmas.{gives_profile}
use Rattle.norm_profile.proofs.loading.load_profile.Goals as goal

pub returns-in-Ok-clause-profile : goal.returns-in-Ok-clause-profile
returns-in-Ok-clause-profile g c =
    gives_profile (g.D.Files.contents c.args.files.now) c.args.name.now (Ok c.in-Ok.document) c.in-Ok.ensures.document
