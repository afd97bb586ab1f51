-- What was written to a stream stands there from its offset on, and stays there as more is written; a stream that was closed stays so.
use Rattle.std.proofs.Common.{◌≡◌, ℕ, zero, suc, List, [], ◌∷◌, ◌++◌, length, Bool, true, false, refl, sym, ap, ◌∙◌, append_assoc}
use Rattle.std.specs.Prelude.{◌&&◌, ◌||◌, take, drop, nat_eq}
use Rattle.std.specs.List.{list_any}
use Rattle.std.specs.Cmp.Lexicographic.{pointwise}
use Rattle.std.proofs.lemmas.List.{append-nil}
use Rattle.norm_base.specs.declared.node.Origin.{Origin}
use Rattle.norm_order.specs.Entries.{Part, Write, Cut, End, Stream}
use Rattle.norm_order.specs.Segments.{written, has_end}
use Rattle.norm_send_rules.specs.declared.job.Job.{Job}
use Rattle.norm_send_rules.specs.declared.job.Job.TheVariants as job
use Rattle.norm_safety.specs.OnceEach.{is_write_by, has_written, is_closed}
use Rattle.norm_safety.proofs.EntryLemmas.{clash, Stays}
use Rattle.norm_safety.proofs.FrontLemmas.{both, of_both, same_list, list_itself}
use Rattle.norm_safety.proofs.OnceLemmas.{same_self}

pub written_append : (parts more : List Part) → written (parts ++ more) ≡ written parts ++ written more
unfolding written
written_append [] more = refl
written_append (Write by octets ∷ parts) more =
    ap (λ (xs : List ℕ). octets ++ xs) (written_append parts more) ∙ sym (append_assoc octets (written parts) (written more))
written_append (Cut ∷ parts) more = written_append parts more
written_append (End ∷ parts) more = written_append parts more

none_long : (n : ℕ) → 0 ≡ suc n → ⊥
none_long n e = cc

one_less : (m n : ℕ) → suc m ≡ suc n → m ≡ n
one_less m n e = cc

-- octets that are all there are the same ones as more come behind
long_stays : (n : ℕ) (xs ys : List ℕ) → length (take n xs) ≡ n → take n (xs ++ ys) ≡ take n xs
long_stays zero xs ys e = refl
long_stays (suc n) [] ys e = absurd (none_long n e)
long_stays (suc n) (x ∷ xs) ys e = ap (λ (zs : List ℕ). x ∷ zs) (long_stays n xs ys (one_less (length (take n xs)) n e))

there_stays : (offset n : ℕ) (xs ys : List ℕ) → length (take n (drop offset xs)) ≡ n → take n (drop offset (xs ++ ys)) ≡ take n (drop offset xs)
there_stays zero n xs ys e = long_stays n xs ys e
there_stays (suc offset) zero [] ys e = refl
there_stays (suc offset) (suc n) [] ys e = absurd (none_long n e)
there_stays (suc offset) n (x ∷ xs) ys e = there_stays offset n xs ys e

all_taken : (xs : List ℕ) → take (length xs) xs ≡ xs
all_taken [] = refl
all_taken (x ∷ xs) = ap (λ (ys : List ℕ). x ∷ ys) (all_taken xs)

-- what comes behind octets is there from their number on
own_octets : (front octets : List ℕ) → take (length octets) (drop (length front) (front ++ octets)) ≡ octets
own_octets [] octets = all_taken octets
own_octets (x ∷ front) octets = own_octets front octets

either_more : (b c d : Bool) → (c ≡ true → d ≡ true) → (b || c) ≡ true → (b || d) ≡ true
either_more true c d h e = refl
either_more false c d h e = h e

either_last : (b d : Bool) → d ≡ true → (b || d) ≡ true
either_last true d h = refl
either_last false d h = h

any_stays : (test : Part → Bool) (parts more : List Part) → list_any test parts ≡ true → list_any test (parts ++ more) ≡ true
any_stays test [] more e = absurd (clash e)
any_stays test (part ∷ parts) more e =
    either_more (test part) (list_any test parts) (list_any test (parts ++ more)) (any_stays test parts more) e

any_last : (test : Part → Bool) (parts : List Part) (part : Part) → test part ≡ true → list_any test (parts ++ part ∷ []) ≡ true
any_last test [] part e = ap (λ (b : Bool). b || false) e
any_last test (x ∷ parts) part e = either_last (test x) (list_any test (parts ++ part ∷ [])) (any_last test parts part e)

pub written_stays : (by : Origin) (job : Job) (offset : ℕ) → Stays (λ entry. has_written by job offset entry.object)
written_stays by (job.Write bytes) offset own parts more h =
    let n = length bytes in
    let two = both (pointwise nat_eq bytes (take n (drop offset (written parts)))) (list_any (is_write_by by bytes) parts) h in
    let same : bytes ≡ take n (drop offset (written parts)) = same_list bytes (take n (drop offset (written parts))) two.0 in
    let there = there_stays offset n (written parts) (written more) (sym (ap length same)) in
    let after : take n (drop offset (written (parts ++ more))) ≡ bytes =
    ap (λ (xs : List ℕ). take n (drop offset xs)) (written_append parts more) ∙ there ∙ sym same in
    of_both (pointwise nat_eq bytes (take n (drop offset (written (parts ++ more))))) (list_any (is_write_by by bytes) (parts ++ more))
    (ap (λ (xs : List ℕ). pointwise nat_eq bytes xs) after ∙ list_itself bytes)
    (any_stays (is_write_by by bytes) parts more two.1)
written_stays by (job.Data info bytes) offset own parts more h = absurd (clash h)
written_stays by (job.File name bytes) offset own parts more h = absurd (clash h)
written_stays by job.Open offset own parts more h = absurd (clash h)
written_stays by job.Close offset own parts more h = absurd (clash h)
written_stays by (job.Mark quorum) offset own parts more h = absurd (clash h)
written_stays by (job.Restart instance) offset own parts more h = absurd (clash h)
written_stays by (job.Strike node) offset own parts more h = absurd (clash h)

-- a stream has what its last write wrote, behind all that was written before
pub has_last : (by : Origin) (bytes : List ℕ) (parts : List Part)
    → has_written by (job.Write bytes) (length (written parts)) (Stream (parts ++ Write by bytes ∷ [])) ≡ true
unfolding written
has_last by bytes parts =
    let n = length bytes in
    let offset = length (written parts) in
    let all : written (parts ++ Write by bytes ∷ []) ≡ written parts ++ bytes =
    written_append parts (Write by bytes ∷ []) ∙ ap (λ (xs : List ℕ). written parts ++ xs) (append-nil bytes) in
    let there : take n (drop offset (written (parts ++ Write by bytes ∷ []))) ≡ bytes =
    ap (λ (xs : List ℕ). take n (drop offset xs)) all ∙ own_octets (written parts) bytes in
    of_both (pointwise nat_eq bytes (take n (drop offset (written (parts ++ Write by bytes ∷ []))))) (list_any (is_write_by by bytes) (parts ++ Write by bytes ∷ []))
    (ap (λ (xs : List ℕ). pointwise nat_eq bytes xs) there ∙ list_itself bytes)
    (any_last (is_write_by by bytes) parts (Write by bytes) (ap (λ (b : Bool). b && pointwise nat_eq bytes bytes) (same_self by) ∙ list_itself bytes))

end_stays : (parts more : List Part) → has_end parts ≡ true → has_end (parts ++ more) ≡ true
unfolding has_end
end_stays [] more e = absurd (clash e)
end_stays (End ∷ parts) more e = refl
end_stays (Write by octets ∷ parts) more e = end_stays parts more e
end_stays (Cut ∷ parts) more e = end_stays parts more e

pub closed_stays : Stays (λ entry. is_closed entry.object)
closed_stays own parts more h = end_stays parts more h

pub ends_last : (parts : List Part) → has_end (parts ++ End ∷ []) ≡ true
unfolding has_end
ends_last [] = refl
ends_last (End ∷ parts) = refl
ends_last (Write by octets ∷ parts) = ends_last parts
ends_last (Cut ∷ parts) = ends_last parts
