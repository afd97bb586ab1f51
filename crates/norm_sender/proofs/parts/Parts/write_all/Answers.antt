use Rattle.std.proofs.Common.{◌≡◌, List, ℕ, refl, subst}
use Rattle.norm_send_rules.specs.Streaming.{wrote}
use Rattle.norm_send_rules.specs.declared.job.Job.TheVariants.{Write}
use Rattle.norm_sender.specs.Inside.{kept_of}
use Rattle.norm_sender.specs.SenderKept.{Agrees}
use Rattle.norm_sender.proofs.CommandingLemmas.{part_obeys, part_refuses}
use Rattle.norm_sender.proofs.parts.Parts.write_all.Goals as goal

pub returns-in-Ok-clause-obeys : goal.returns-in-Ok-clause-obeys
returns-in-Ok-clause-obeys c =
    let k = kept_of c.args.self.now in
    let new = kept_of c.write.new.self in
    part_obeys k new (Write c.args.bytes) (λ s by. wrote k.p s by c.args.bytes) c.in-Ok.receipt c.write.result (λ s by. refl) c.in-Ok.is (λ s by h.
    subst (λ (xs : List ℕ). Agrees new (wrote k.p s by xs).0 × (c.write.result ≡ (wrote k.p s by xs).1)) c.bytes-2.ensures (c.write.ensures.wrote s by h))

pub returns-in-Err-clause-obeys : goal.returns-in-Err-clause-obeys
returns-in-Err-clause-obeys c =
    let k = kept_of c.args.self.now in
    let new = kept_of c.write.new.self in
    part_refuses k new (Write c.args.bytes) (λ s by. wrote k.p s by c.args.bytes) c.in-Err.fault c.write.result (λ s by. refl) c.in-Err.is (λ s by h.
    subst (λ (xs : List ℕ). Agrees new (wrote k.p s by xs).0 × (c.write.result ≡ (wrote k.p s by xs).1)) c.bytes-2.ensures (c.write.ensures.wrote s by h))
