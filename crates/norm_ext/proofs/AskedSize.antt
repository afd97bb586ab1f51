-- How many octets one more takes that is asked for.
use Rattle.std.proofs.Common.{◌≡◌, ℕ, ◌+◌, ◌*◌, cond, Bool, true, false, List, [], ◌∷◌, ◌++◌, length, Option, Some, None, refl, sym, ap, ◌∙◌, arith, length-append}
use Rattle.std.specs.List.{last_or}
use Rattle.norm_ext.specs.Requests.{Request}
use Rattle.norm_ext.specs.Octets.{requests_octets}
use Rattle.norm_ext.specs.declared.kinds.Form.{Form}
use Rattle.norm_ext.specs.Asked.{Asked, asked_items, request_alone, requests_asked, asked_octets, octets_behind}
use Rattle.norm_ext.specs.Laws.{OneMoreTakes}
use Rattle.norm_ext.proofs.AskedLemmas.{request, alike, alike_is, alike_so, not_alike, joined, asked_joined, Snoc, snoc_of, joined_alike, joined_apart, size_split}

-- the last of these requests has the form and the flags of what is asked for last
record EndsLike (rs : List Request) (a : Asked) : Type 0 where
  front : List Request
  back : Request
  is : rs ≡ front ++ back ∷ []
  form : back.form ≡ a.form
  flags : back.flags ≡ a.flags

joined_ends : (rs : List Request) (a : Asked) → EndsLike (joined rs a) a
joined_ends [] a = record { front = []; back = request_alone a; is = refl; form = refl; flags = refl }
joined_ends (r ∷ rs) a = go (alike s.back.form s.back.flags a.form a.flags) refl
  where
    s : Snoc (r ∷ rs)
    s = snoc_of r rs

    go : (t : Bool) → alike s.back.form s.back.flags a.form a.flags ≡ t → EndsLike (joined (r ∷ rs) a) a
    go true e =
        let same = alike_is s.back.form s.back.flags a.form a.flags e in
        record {
          front = s.front;
          back = request s.back.form s.back.flags (s.back.items ++ asked_items a);
          is = ap (λ (x : List Request). joined x a) s.is ∙ joined_alike s.front s.back a e;
          form = same.0;
          flags = same.1;
        }
    go false e =
        record {
          front = s.front ++ s.back ∷ [];
          back = request_alone a;
          is = ap (λ (x : List Request). joined x a) s.is ∙ joined_apart s.front s.back a e;
          form = refl;
          flags = refl;
        }

abbrev size_of : List Request → ℕ
size_of rs = length (requests_octets rs)

-- whether they have the same form and flags, the other way round
turned : (f : Form) (m : ℕ) (g : Form) (n : ℕ) (t : Bool) → alike f m g n ≡ t → alike g n f m ≡ t
turned f m g n true e = let same = alike_is f m g n e in alike_so g n f m (sym same.0) (sym same.1)
turned f m g n false e = not_alike g n f m (alike g n f m) refl (λ same. differ (alike f m g n) e (alike_so f m g n (sym same.0) (sym same.1)))
  where
    differ : (t : Bool) → t ≡ false → t ≡ true → ⊥
    differ t a b = cc

-- behind a request of this form and these flags
joined_size : (front : List Request) (back : Request) (b : Asked) (t : Bool) → alike back.form back.flags b.form b.flags ≡ t
    → size_of (joined (front ++ back ∷ []) b) ≡ size_of (front ++ back ∷ []) + (8 * length (asked_items b) + cond t 0 4)
joined_size front back b true e =
    let more : Request = request back.form back.flags (back.items ++ asked_items b) in
    let is = ap size_of (joined_alike front back b e) in
    omega (arith, is, size_split front more, size_split front back, length-append back.items (asked_items b))
joined_size front back b false e =
    let is = ap size_of (joined_apart front back b e) in
    omega (arith, is, size_split (front ++ back ∷ []) (request_alone b))

behind_another : (asked : List Asked) (a b : Asked)
    → length (asked_octets ((asked ++ a ∷ []) ++ b ∷ [])) ≡ length (asked_octets (asked ++ a ∷ [])) + octets_behind (Some a) b
behind_another asked a b =
    ap size_of (asked_joined (asked ++ a ∷ []) b)
    ∙ ap (λ (rs : List Request). size_of (joined rs b)) is
    ∙ joined_size e.front e.back b (alike b.form b.flags a.form a.flags)
    (ap (λ (f : Form). alike f e.back.flags b.form b.flags) e.form ∙ ap (λ (n : ℕ). alike a.form n b.form b.flags) e.flags
    ∙ sym (turned a.form a.flags b.form b.flags (alike a.form a.flags b.form b.flags) refl))
    ∙ ap (λ (rs : List Request). size_of rs + octets_behind (Some a) b) (sym is)
  where
    e : EndsLike (joined (requests_asked asked) a) a
    e = joined_ends (requests_asked asked) a

    is : requests_asked (asked ++ a ∷ []) ≡ e.front ++ e.back ∷ []
    is = asked_joined asked a ∙ e.is

-- a list that is not empty, by its last element
record EndsWith (xs : List Asked) : Type 0 where
  front : List Asked
  back : Asked
  is : xs ≡ front ++ back ∷ []
  last : last_or None xs ≡ Some back

last_of : (x : Asked) (xs : List Asked) → EndsWith (x ∷ xs)
last_of x [] = record { front = []; back = x; is = refl; last = refl }
last_of x (y ∷ xs) =
    let t = last_of y xs in
    record { front = x ∷ t.front; back = t.back; is = ap (λ (l : List Asked). x ∷ l) t.is; last = t.last }

pub one_more_takes_law : OneMoreTakes
one_more_takes_law [] a = let e = size_split [] (request_alone a) in omega (arith, e)
one_more_takes_law (x ∷ xs) a =
    let t = last_of x xs in
    ap (λ (l : List Asked). length (asked_octets (l ++ a ∷ []))) t.is
    ∙ behind_another t.front t.back a
    ∙ ap (λ (l : List Asked). length (asked_octets l) + octets_behind (Some t.back) a) (sym t.is)
    ∙ ap (λ (o : Option Asked). length (asked_octets (x ∷ xs)) + octets_behind o a) (sym t.last)
