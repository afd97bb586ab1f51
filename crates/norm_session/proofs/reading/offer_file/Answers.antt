use Rattle.std.proofs.Common.{◌∙◌}
use Rattle.norm_session.proofs.ReadingLemmas.{taken_ok}
use Rattle.norm_session.proofs.reading.offer_file.Goals as goal

pub returns-in-Ok-clause-gave : goal.returns-in-Ok-clause-gave
returns-in-Ok-clause-gave g c =
    taken_ok c.args.world.now c.begin_file.new.self c.accept_file.new.world (g.D.Files.contents c.args.files.now) c.args.by c.args.name.now c.of-copy.result
    c.args.len c.args.now c.args.keeps c.accept_file.result (c.of-copy.ensures ∙ c.in_ok-from_slice.ensures.items ∙ c.as_bytes.ensures.value) c.begin_file.ensures.profile
    c.in-Ok.ensures.begun c.accept_file.ensures.profile c.accept_file.ensures.gave
