use Rattle.std.proofs.Common.{◌∙◌, ap}
use Rattle.norm_turns.specs.Causes.{Counted}
use Rattle.norm_script.specs.Folder.{Folder}
use Rattle.norm_folder.specs.Entries.{ordered}
use Rattle.norm_folder.proofs.EntryLemmas.{entries_are}
use Rattle.norm_folder.proofs.entries.ready.Goals as goal

pub returns-clause-entries : goal.returns-clause-entries
returns-clause-entries g c =
    entries_are (g.D.Files.contents c.args.files.now) (g.D.Files.contents c.measure_all.new.files) c.args.folder.now c.in_ok-names.names.items
    c.in_ok-measured.measured.items c.in_ok-entries.entries.items c.requires
    ((rw (c.deref.ensures.value) at c.in_ok-names.ensures) ∙ ap (λ (f : Folder). ordered f) c.folder.view_is) c.in_ok-measured.ensures.same
    (rw (c.deref-2.ensures.value) at c.in_ok-measured.ensures.measured) (rw (c.deref-3.ensures.value) at c.in_ok-entries.ensures.entries)

pub returns-clause-cause : goal.returns-clause-cause
returns-clause-cause g c = ap (λ (k : Counted). k.files) (c.in_ok-entries.ensures.cause 0 0) ∙ c.in_ok-measured.ensures.cause
