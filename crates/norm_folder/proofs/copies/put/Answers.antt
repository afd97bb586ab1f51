use Rattle.std.proofs.Common.{◌∙◌, ℕ, List, ap, subst}
use Rattle.norm_base.specs.Contents.{ChangesOnly}
use Rattle.norm_folder.specs.Copies.{copy_name}
use Rattle.norm_folder.proofs.CopyLemmas.{fails_one}
use Rattle.norm_folder.proofs.copies.put.Goals as goal

-- the put failed
pub returns-then-is_err-clause-stops : goal.returns-then-is_err-clause-stops
returns-then-is_err-clause-stops g c =
    let name = c.deref-2.ensures ∙ c.in_ok-copy.ensures ∙ ap (λ (n : ℕ). copy_name n c.deref.result.now) c.number.ensures.value
    ∙ ap (copy_name c.args.node) (c.deref.ensures ∙ c.into_inner-name.ensures) in
    fails_one (copy_name c.args.node c.args.name, c.args.bytes.now) (g.D.Files.contents c.args.files.now) (g.D.Files.contents c.put.new.self)
    (subst (λ (n : List ℕ). ChangesOnly (g.D.Files.contents c.args.files.now) (g.D.Files.contents c.put.new.self) n) name c.put.ensures.others)
