use Rattle.std.proofs.Common.{◌∙◌, ap, arith, take, drop, ◌≡◌, ◌*◌, ◌+◌, ◌-◌}
use Rattle.gf_field.specs.Power.{power, powers}
use Rattle.rs_block.specs.Code.{CodeState}
use Rattle.rs_block.specs.Row.{coefficients}
use Rattle.rs_block.proofs.Rows.{row_read}
use Rattle.rs_block.proofs.encode.Code.row.Goals as goal

pub returns-clause-entries : goal.returns-clause-entries
returns-clause-entries c =
    let k_is : c.self.inside.k ≡ c.args.self.now.k = ap (λ (s : CodeState). s.k) c.self.view_is in
    let n_is : c.self.inside.n ≡ c.args.self.now.n = ap (λ (s : CodeState). s.n) c.self.view_is in
    ap (λ w. take (c.from.result * w + w - c.from.result * w) (drop (c.from.result * w) c.deref.result.now)) c.from-width.ensures
    ∙ ap (λ rows. take (c.from.result * c.self.inside.k + c.self.inside.k - c.from.result * c.self.inside.k) (drop (c.from.result * c.self.inside.k) rows)) c.deref.ensures.value
    ∙ row_read c.self.inside.k c.self.inside.n c.args.j (c.from.result * c.self.inside.k) c.self.inside.rows.items c.self.invariant
    (omega arith) (omega arith) (ap (λ n. n * c.self.inside.k) c.from.ensures)
    ∙ ap (λ k. coefficients (powers k) (power c.args.j)) k_is
