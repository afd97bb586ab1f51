use Rattle.norm_memory.specs.Filing.{named}
use Rattle.norm_memory.proofs.FilingLemmas.{content_of-put_in, content_of-put_in_other}
use Rattle.norm_memory.proofs.mem_files.MemFilesFiles.put.Goals as goal

pub returns-in-Ok-clause-ok : goal.returns-in-Ok-clause-ok
returns-in-Ok-clause-ok c =
    rw c.in-Ok.ensures.ok (content_of-put_in (named c.self.inside.files.items) c.args.name.now c.args.bytes.now)

pub returns-in-Ok-clause-others : goal.returns-in-Ok-clause-others
returns-in-Ok-clause-others c =
    rw (c.in-Ok.ensures.ok, ← c.self.view_is) (content_of-put_in_other (named c.self.inside.files.items) c.args.name.now c.args.bytes.now)
