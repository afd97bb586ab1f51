use Rattle.std.proofs.Common.{◌≡◌, ◌∙◌, sym, true, false, string_bytes, arith}
use Rattle.std.proofs.lemmas.Grind.{common_steps}
use Rattle.std.proofs.lemmas.List.Folds.{list_any_at}
use Rattle.std.specs.Prelude.{◌==◌}
use Rattle.std.specs.Cmp.Lexicographic.{pointwise}
use Rattle.std.specs.List.{list_any}
use Rattle.norm_host.proofs.FolderLemmas.{any_shown}
use Rattle.norm_host.proofs.folder.is_one_of.Goals as goal

-- the path at hand is the name
pub returns-then-eq : goal.returns-then-eq
returns-then-eq c =
    let found : list_any (λ path. pointwise ◌==◌ (string_bytes path) c.args.name.now) c.args.paths.now ≡ true = grind (arith, common_steps, list_any_at) in
    sym found ∙ any_shown (λ path. pointwise ◌==◌ path c.args.name.now) string_bytes c.args.paths.now

-- none of them is
pub returns : goal.returns
returns c =
    let none : list_any (λ path. pointwise ◌==◌ (string_bytes path) c.args.name.now) c.args.paths.now ≡ false = grind (arith, common_steps) in
    sym none ∙ any_shown (λ path. pointwise ◌==◌ path c.args.name.now) string_bytes c.args.paths.now
