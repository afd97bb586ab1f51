-- A NACK asks for the longest beginning of what is needed that fits, and a need was heard where all of it was asked for.
use Rattle.std.proofs.Common.{◌≡◌, ℕ, ◌+◌, ◌-◌, ◌<◌, ◌≤◌, ◌⊎◌, inl, inr, List, [], ◌∷◌, ◌++◌, map, length, Bool, true, false, Option, None, Some, refl, sym, ap, subst, ◌∙◌, arith, append_assoc, append-nil}
use Rattle.std.specs.Prelude.{nat_le, fold, ◌&&◌, ◌||◌}
use Rattle.std.specs.Bool.{Decides}
use Rattle.std.specs.List.{last_or}
use Rattle.std.proofs.lemmas.Bool.Decides.{leb_tells}
use Rattle.norm_base.specs.Settings.{Settings}
use Rattle.fec_plan.specs.Points.{point, position, reaches}
use Rattle.fec_plan.proofs.PositionLemmas.{Before, before_decides}
use Rattle.std.proofs.lemmas.Bool.Decides.{Decides-not}
use Rattle.std.proofs.lemmas.List.Sums.{fold-append}
use Rattle.norm_ext.specs.Asked.{Asked, asked_octets, octets_behind}
use Rattle.norm_ext.specs.Asking.{Named, Span, Count, asked_spans, asked_counts}
use Rattle.norm_ext.proofs.AskedSize.{one_more_takes_law}
use Rattle.norm_receive_rules.specs.Heard.{Heard, with_proper, with_count, asked_infos, heard_also, heard_all, heard_nothing}
use Rattle.norm_receive_rules.specs.HeardNeeds.{width_of, asks_as_many, blocks_heard, info_heard, is_heard}
use Rattle.norm_receive_rules.specs.Holding.{Holding}
use Rattle.norm_receive_rules.specs.Lazy.{Lazy, Nil, Next, all_of}
use Rattle.norm_receive_rules.specs.Nack.{asked_of, fitting}
use Rattle.norm_receive_rules.specs.NackLaws.{octets_asked, IsLongest, BlocksAreAsked, InfoIsAsked, width_at, IsAskedFor, NamesBlocks, requests_heard, NackLaws}
use Rattle.norm_receive_rules.specs.Needs.{Need, Object, ObjectInfo, Symbols, Source, Rest}
use Rattle.norm_receive_rules.specs.Overhearing.{asked_also, asked_all, noted, can_hear, heard_whole}
use Rattle.norm_receive_rules.specs.StreamNeeds.{last_block}
use Rattle.norm_receive_rules.proofs.HeardLemmas.{heard_laws}

clash : false ≡ true → ⊥
clash e = cc

-- ---- the longest beginning

last_joined : (d : Option Asked) (xs : List Asked) (x : Asked) → last_or d (xs ++ x ∷ []) ≡ Some x
last_joined d [] x = refl
last_joined d (y ∷ xs) x = last_joined (Some y) xs x

asked_joined : (p : Settings) (xs : List Need) (x : Need) → map (asked_of p) (xs ++ x ∷ []) ≡ map (asked_of p) xs ++ asked_of p x ∷ []
asked_joined p [] x = refl
asked_joined p (y ∷ xs) x = ap (λ (l : List Asked). asked_of p y ∷ l) (asked_joined p xs x)

-- one need more takes so many octets
one_more : (p : Settings) (done : List Need) (x : Need)
    → octets_asked p (done ++ x ∷ []) ≡ octets_asked p done + octets_behind (last_or None (map (asked_of p) done)) (asked_of p x)
one_more p done x =
    ap (λ (l : List Asked). length (asked_octets l)) (asked_joined p done x) ∙ one_more_takes_law (map (asked_of p) done) (asked_of p x)

-- behind those that are asked for already
record IsLongestBehind (p : Settings) (room : ℕ) (done needed wanted : List Need) : Type 0 where
  rest : List Need
  begins : needed ≡ wanted ++ rest
  fits : octets_asked p (done ++ wanted) ≤ room
  longest : (next : Need) (behind : List Need) → rest ≡ next ∷ behind → room < octets_asked p ((done ++ wanted) ++ next ∷ [])

none_more : (next : Need) (behind : List Need) → [] ≡ next ∷ behind → ⊥
none_more next behind e = cc

same_first : (x y : Need) (xs ys : List Need) → x ∷ xs ≡ y ∷ ys → x ≡ y
same_first x y xs ys e = cc

longest_behind : (p : Settings) (room : ℕ) (done : List Need) (needs : Lazy Need) (left : ℕ) → octets_asked p done + left ≡ room
    → IsLongestBehind p room done (all_of needs) (fitting p needs (last_or None (map (asked_of p) done)) left)
unfolding all_of fitting
longest_behind p room done Nil left e = record {
  rest = [];
  begins = refl;
  fits = subst (λ (xs : List Need). octets_asked p xs ≤ room) (sym (append-nil done)) (omega arith);
  longest = λ next behind f. absurd (none_more next behind f);
}
longest_behind p room done (Next need rest) left e =
    go (nat_le (octets_behind last (asked_of p need)) left) (leb_tells (octets_behind last (asked_of p need)) left)
    (λ f. longest_behind p room (done ++ need ∷ []) (rest tt) (left - octets_behind last (asked_of p need)) f)
  where
    last : Option Asked
    last = last_or None (map (asked_of p) done)

    more : List Need
    more = fitting p (rest tt) (Some (asked_of p need)) (left - octets_behind last (asked_of p need))

    size : octets_asked p (done ++ need ∷ []) ≡ octets_asked p done + octets_behind last (asked_of p need)
    size = one_more p done need

    before : last_or None (map (asked_of p) (done ++ need ∷ [])) ≡ Some (asked_of p need)
    before = ap (λ (l : List Asked). last_or None l) (asked_joined p done need) ∙ last_joined None (map (asked_of p) done) (asked_of p need)

    taken : IsLongestBehind p room (done ++ need ∷ []) (all_of (rest tt)) more → IsLongestBehind p room done (need ∷ all_of (rest tt)) (need ∷ more)
    taken h = record {
      rest = h.rest;
      begins = ap (λ (l : List Need). need ∷ l) h.begins;
      fits = subst (λ (l : List Need). octets_asked p l ≤ room) (append_assoc done (need ∷ []) more) h.fits;
      longest = λ next behind f.
          subst (λ (l : List Need). room < octets_asked p (l ++ next ∷ [])) (append_assoc done (need ∷ []) more) (h.longest next behind f);
    }

    go : (b : Bool) → ((b ≡ true) × (octets_behind last (asked_of p need) ≤ left)) ⊎ ((b ≡ false) × (left < octets_behind last (asked_of p need)))
        → (octets_asked p (done ++ need ∷ []) + (left - octets_behind last (asked_of p need)) ≡ room
        → IsLongestBehind p room (done ++ need ∷ []) (all_of (rest tt))
        (fitting p (rest tt) (last_or None (map (asked_of p) (done ++ need ∷ []))) (left - octets_behind last (asked_of p need))))
        → IsLongestBehind p room done (need ∷ all_of (rest tt)) (elim b as (λ _. List Need) [ true ↦ need ∷ more | false ↦ [] ])
    go true (inl tells) further =
        let F : Option Asked → Type 0 = λ o. IsLongestBehind p room (done ++ need ∷ []) (all_of (rest tt))
        (fitting p (rest tt) o (left - octets_behind last (asked_of p need))) in
        taken (subst F before (further (let le = tells.1 in omega (arith, size))))
    go true (inr tells) further = absurd (clash (sym tells.0))
    go false (inl tells) further = absurd (clash tells.0)
    go false (inr tells) further = record {
      rest = need ∷ all_of (rest tt);
      begins = refl;
      fits = subst (λ (xs : List Need). octets_asked p xs ≤ room) (sym (append-nil done)) (omega arith);
      longest = λ next behind f. (
          let same = same_first need next (all_of (rest tt)) behind f in
          let over : room < octets_asked p (done ++ need ∷ []) = let lt = tells.1 in omega (arith, size) in
          subst (λ (x : Need). room < octets_asked p ((done ++ []) ++ x ∷ [])) same
          (subst (λ (xs : List Need). room < octets_asked p (xs ++ need ∷ [])) (sym (append-nil done)) over)
          );
    }

no_octets : (p : Settings) → octets_asked p [] ≡ 0
no_octets p = refl

longest : (p : Settings) (needs : Lazy Need) (room : ℕ) → IsLongest p room (all_of needs) (fitting p needs None room)
longest p needs room =
    let h : IsLongestBehind p room [] (all_of needs) (fitting p needs None room) = longest_behind p room [] needs room (let z = no_octets p in omega arith) in
    record { rest = h.rest; begins = h.begins; fits = h.fits; longest = h.longest }

-- ---- what was heard

also : {P Q R : Type 0} (b c : Bool) → Decides b P → Decides c Q → (P × Q → R) → (R → P × Q) → Decides (b && c) R
also true c d k to from = (λ e. to (d.0 refl, k.0 e), λ r. k.1 (from r).1)
also false c d k to from = (λ e. absurd (clash e), λ r. absurd (clash (d.1 (from r).0)))

either : {P Q : Type 0} (b c : Bool) → Decides b P → Decides c Q → Decides (b || c) (P ⊎ Q)
either true c d k = (λ e. inl (d.0 refl), λ r. refl)
either false c d k = (
  λ e. inr (k.0 e),
  λ r. elim r [ inl x ↦ absurd (clash (d.1 x)) | inr y ↦ k.1 y ],
)

itself : (b : Bool) → Decides b (b ≡ true)
itself b = (λ e. e, λ e. e)

same_test : (b c : Bool) → b ≡ c → Decides b (c ≡ true)
same_test b c e = (λ f. sym e ∙ f, λ f. e ∙ f)

in_order : (index first last width : ℕ) → first ≤ last → reaches (position index last (width - 1)) (position index first 0) ≡ true
in_order index first last width le =
    (Decides-not _ (before_decides (position index last (width - 1)) (position index first 0))).1 (λ h. never h)
  where
    never : Before (position index last (width - 1)) (position index first 0) → ⊥
    never (inl (inl less)) = omega arith
    never (inl (inr (same, less))) = omega arith
    never (inr ((same, also), less)) = omega arith

blocks_decide : (requests : List Named) (width index first last : ℕ) → 0 < width → first ≤ last
    → Decides (blocks_heard (heard_all requests) width index first last) (BlocksAreAsked requests width index first last)
blocks_decide requests width index first last some le =
    heard_laws.covered requests width (position index first 0) (position index last (width - 1)) refl some (omega arith)
    (in_order index first last width le)

info_decides : (requests : List Named) (index : ℕ) → Decides (info_heard (heard_all requests) index) (InfoIsAsked requests index)
info_decides requests index = same_test _ _ (heard_laws.infos requests index)

heard : (requests : List Named) (s : Holding) (need : Need) → 0 < width_at s need → NamesBlocks need
    → Decides (is_heard (heard_all requests) s need) (IsAskedFor requests s need)
heard requests s (Object index) some names =
    also (blocks_heard (heard_all requests) (width_of s (point index 0)) index 0 last_block) (info_heard (heard_all requests) index)
    (blocks_decide requests (width_of s (point index 0)) index 0 last_block some (omega arith)) (info_decides requests index) (λ both. both) (λ both. both)
heard requests s (ObjectInfo index) some names = info_decides requests index
heard requests s (Symbols index block wanted) some names =
    either (asks_as_many (heard_all requests).counts (point index block) wanted)
    (blocks_heard (heard_all requests) (width_of s (point index block)) index block block)
    (same_test _ _ (heard_laws.counts requests (point index block) wanted))
    (blocks_decide requests (width_of s (point index block)) index block block some (omega arith))
heard requests s (Source at) some names = same_test _ _ (heard_laws.symbols requests at)
heard requests s (Rest index block) some names = blocks_decide requests (width_of s (point index block)) index block last_block some names

-- ---- a further message

folded : (heard : Heard) (requests more : List Named) → fold heard_also (fold heard_also heard requests) more ≡ fold heard_also heard (requests ++ more)
folded heard [] more = refl
folded heard (r ∷ requests) more = folded (heard_also heard r) requests more

-- a request that was read is heard as one that is heard by itself
noted_more : (heard asked : Heard) (r : Named) → noted heard (asked_also asked r) ≡ heard_also (noted heard asked) r
noted_more heard asked r =
    ap (λ (spans : List Span). record { symbols = spans; infos = fold with_proper heard.infos (asked.infos ++ asked_infos r); counts = fold with_more heard.counts (asked.counts ++ asked_counts r) })
    (fold-append with_proper heard.symbols asked.symbols (asked_spans r))
    ∙ ap (λ (spans : List Span). record { symbols = fold with_proper (fold with_proper heard.symbols asked.symbols) (asked_spans r); infos = spans; counts = fold with_more heard.counts (asked.counts ++ asked_counts r) })
    (fold-append with_proper heard.infos asked.infos (asked_infos r))
    ∙ ap (λ (counts : List Count). record { symbols = fold with_proper (fold with_proper heard.symbols asked.symbols) (asked_spans r); infos = fold with_proper (fold with_proper heard.infos asked.infos) (asked_infos r); counts = counts })
    (fold-append with_more heard.counts asked.counts (asked_counts r))
  where
    with_more : List Count → Count → List Count
    with_more counts c = with_count c counts

noted_on : (heard asked : Heard) (rs : List Named) → noted heard (fold asked_also asked rs) ≡ fold heard_also (noted heard asked) rs
noted_on heard asked [] = refl
noted_on heard asked (r ∷ rs) = noted_on heard (asked_also asked r) rs ∙ ap (λ (h : Heard). fold heard_also h rs) (noted_more heard asked r)

-- a message that is heard adds all of its requests, and any other none
more : (requests message : List Named) → heard_whole (heard_all requests) (asked_all message) ≡ heard_all (requests_heard requests message)
more requests message = go (can_hear (heard_all requests) (asked_all message))
  where
    go : (b : Bool) → (elim b as (λ _. Heard) [ true ↦ noted (heard_all requests) (asked_all message) | false ↦ heard_all requests ])
        ≡ heard_all (elim b as (λ _. List Named) [ true ↦ requests ++ message | false ↦ requests ])
    go true = noted_on (heard_all requests) heard_nothing message ∙ folded heard_nothing requests message
    go false = refl

pub nack_laws : NackLaws
nack_laws = record { longest = longest; heard = heard; more = more }
