use Rattle.std.proofs.Common.{◌≡◌, ◌∙◌, sym, ap, refl, ℕ, zero, suc, ◌<◌, List, [], ◌∷◌, ◌++◌, length, replicate, Option, Some, None, arith, length-append}
use Rattle.std.specs.List.{AllByRecursion}
use Rattle.std.proofs.lemmas.List.{get_or_append_left}
use Rattle.std.proofs.Math.Seq.{get_or-append_seam}
use Rattle.norm_memory.specs.declared.fate.Fate.{Fate}
use Rattle.norm_memory.specs.declared.copy.WaitingCopy.{WaitingCopy}
use Rattle.norm_memory.specs.Fates.{AreForOthers, copies_of}
use Rattle.norm_memory.specs.Offers.{offer_at}
use Rattle.norm_memory.specs.Waiting.{put_copies}
use Rattle.norm_memory.specs.Kept.{answer_in, answers_in, IsCopyOf, AnswersFrom, IsOfOffers}
use Rattle.norm_memory.proofs.Turns.{put_copies-all}

all_append : {X : Type 0} (P : X → Type 0) (xs ys : List X) → AllByRecursion P xs → AllByRecursion P ys → AllByRecursion P (xs ++ ys)
all_append P [] ys all rest = rest
all_append P (x ∷ xs) ys all rest = (all.0, all_append P xs ys all.1 rest)

all_replicate : {X : Type 0} (P : X → Type 0) (n : ℕ) (x : X) → P x → AllByRecursion P (replicate n x)
all_replicate P zero x h = tt
all_replicate P (suc n) x h = (h, all_replicate P n x h)

-- an offer stays in its place as another comes
pub offer_at-before : (offered : List (ℕ × List ℕ)) (o : ℕ × List ℕ) (place : ℕ) → place < length offered → offer_at (offered ++ o ∷ []) place ≡ offer_at offered place
offer_at-before offered o place inside = get_or_append_left offered (o ∷ []) (0, []) place inside

pub offer_at-last : (offered : List (ℕ × List ℕ)) (o : ℕ × List ℕ) → offer_at (offered ++ o ∷ []) (length offered) ≡ o
offer_at-last offered o = get_or-append_seam offered o [] (0, [])

copy-more : (offered : List (ℕ × List ℕ)) (o : ℕ × List ℕ) (c : WaitingCopy) → IsCopyOf offered c → IsCopyOf (offered ++ o ∷ []) c
copy-more offered o c h = record {
  inside = simp length-append (omega (arith, h.inside));
  other = rw (offer_at-before offered o c.offer h.inside) h.other;
}

copies-more : (offered : List (ℕ × List ℕ)) (o : ℕ × List ℕ) (cs : List WaitingCopy) → AllByRecursion (IsCopyOf offered) cs → AllByRecursion (IsCopyOf (offered ++ o ∷ [])) cs
copies-more offered o [] all = tt
copies-more offered o (c ∷ cs) all = (copy-more offered o c all.0, copies-more offered o cs all.1)

-- the copies of the offer that came last
copies-new : (offered : List (ℕ × List ℕ)) (from : ℕ) (bytes : List ℕ) (plan : List (ℕ × Fate)) → AreForOthers from plan → AllByRecursion (IsCopyOf (offered ++ (from, bytes) ∷ [])) (copies_of (length offered) plan)
copies-new offered from bytes [] others = tt
copies-new offered from bytes (p ∷ plan) others =
    all_append (IsCopyOf (offered ++ (from, bytes) ∷ [])) _ (copies_of (length offered) plan)
    (all_replicate (IsCopyOf (offered ++ (from, bytes) ∷ [])) p.1.copies _ (record {
      inside = simp length-append (omega arith);
      other = rw (offer_at-last offered (from, bytes)) (λ e. others.0 (sym e));
    }))
    (copies-new offered from bytes plan others.1)

answers-kept : (offered : List (ℕ × List ℕ)) (o : ℕ × List ℕ) (answers : List (Option (ℕ × ℕ))) → AllByRecursion (AnswersFrom offered) answers → AllByRecursion (AnswersFrom (offered ++ o ∷ [])) answers
answers-kept offered o [] all = tt
answers-kept offered o (None ∷ answers) all = (tt, answers-kept offered o answers all.1)
answers-kept offered o (Some a ∷ answers) all = (simp length-append (omega (arith, all.0)), answers-kept offered o answers all.1)

-- an offer joins the others
pub of_offers-offered : (offered : List (ℕ × List ℕ)) (from : ℕ) (bytes : List ℕ) (plan : List (ℕ × Fate)) (waits : List WaitingCopy) (answers : List (Option (ℕ × ℕ))) → AreForOthers from plan → IsOfOffers offered waits answers
    → IsOfOffers (offered ++ (from, bytes) ∷ []) (put_copies (copies_of (length offered) plan) waits) answers
of_offers-offered offered from bytes plan waits answers others h = record {
  copies = put_copies-all (IsCopyOf (offered ++ (from, bytes) ∷ [])) (copies_of (length offered) plan) waits (copies-new offered from bytes plan others) (copies-more offered (from, bytes) waits h.copies);
  answers = answers-kept offered (from, bytes) answers h.answers;
}

pub answers_in-offered : (offered : List (ℕ × List ℕ)) (o : ℕ × List ℕ) (answers : List (Option (ℕ × ℕ))) → AllByRecursion (AnswersFrom offered) answers → answers_in (offered ++ o ∷ []) answers ≡ answers_in offered answers
answers_in-offered offered o [] all = refl
answers_in-offered offered o (None ∷ answers) all = ap (λ rest. None ∷ rest) (answers_in-offered offered o answers all.1)
answers_in-offered offered o (Some a ∷ answers) all =
    ap (λ (x : ℕ × List ℕ). Some (a.0, x.1) ∷ answers_in (offered ++ o ∷ []) answers) (offer_at-before offered o a.1 all.0)
    ∙ ap (λ rest. answer_in offered (Some a) ∷ rest) (answers_in-offered offered o answers all.1)
