use Rattle.std.proofs.Common.{◌≡◌, arith, ap, sym, ◌∙◌, ℕ, length, take}
use Rattle.std.specs.Prelude.{replicate}
use Rattle.std.proofs.lemmas.List.{length-replicate}
use Rattle.tx_object.specs.Round.{round}
use Rattle.std.proofs.lemmas.List.{take-replicate}
use Rattle.tx_object.proofs.ring.Ring.clear.Goals as goal

piece : (c : goal.After-write) → c.split_at.result.0.now ≡ replicate {A = ℕ} c.args.len 0
piece c = c.split_at.ensures.front ∙ ap (take c.args.len) c.as_slice.ensures ∙ take-replicate c.args.len 1408 0 (omega (arith, c.requires.most))

pub returns-clause-cleared : goal.returns-clause-cleared
returns-clause-cleared c =
    ap (round c.write.new.self c.args.start) (sym (ap length (piece c) ∙ length-replicate {A = ℕ} c.args.len 0)) ∙ c.write.ensures.written ∙ piece c
