use Rattle.std.proofs.Common.{◌∙◌, sym, subst}
use Rattle.norm_journal.specs.Follows.{IsLength}
use Rattle.norm_folder.proofs.entries.read_entry.Goals as goal

pub digest_of-requires-clause-told : goal.digest_of-requires-clause-told
digest_of-requires-clause-told g c =
    subst (λ n. IsLength (g.D.Files.contents c.args.files.now) n c.args.file.now.len) (sym (c.deref.ensures ∙ c.in_ok-name.ensures)) c.requires.told
