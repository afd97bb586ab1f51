-- What is asked for, one item after the other, as requests in a datagram.
use Rattle.std.proofs.Common.{◌≡◌, ℕ, ◌+◌, ◌-◌, ◌*◌, ◌≤◌, cond, eqb, ◌&&◌, Bool, true, false, List, [], ◌∷◌, ◌++◌, length, take, drop, Option, Some, None, refl, sym, ap, ◌∙◌, arith, eq-eqb, length-append, append_assoc, append-nil}
use Rattle.std.specs.List.{flat_map, last_or}
use Rattle.std.specs.Option.{option_map}
use Rattle.std.proofs.lemmas.Grind.{flat_map-append}
use Rattle.std.proofs.lemmas.Bool.{eqb-true}
use Rattle.std.proofs.lemmas.List.{take_at, drop_at}
use Rattle.byteorder.specs.Endian.{big_bytes}
use Rattle.norm_ext.specs.Numbers.{form_number}
use Rattle.norm_ext.specs.Requests.{Request, RequestItem, item_octets, request_octets}
use Rattle.norm_ext.specs.Octets.{requests_octets}
use Rattle.norm_ext.specs.declared.kinds.Form.{Form}
use Rattle.norm_ext.specs.declared.kinds.Form.TheVariants as forms
use Rattle.norm_ext.proofs.RequestLemmas.{items_size}
use Rattle.norm_ext.specs.declared.head.Item.{Item}
use Rattle.norm_ext.specs.Asked.{ends_of, written_item, Asked, asked_items, request_alone, asked_before, requests_asked, asked_octets, Writing, last_flags, last_len, writing, HasWritten}

abbrev pub request : Form → ℕ → List RequestItem → Request
request form flags items = record { form = form; flags = flags; items = items }

same_form : (f g : Form) → eqb (form_number f) (form_number g) ≡ true → f ≡ g
same_form forms.Items forms.Items e = refl
same_form forms.Ranges forms.Ranges e = refl
same_form forms.Erasures forms.Erasures e = refl
same_form forms.Items forms.Ranges e = absurd cc
same_form forms.Items forms.Erasures e = absurd cc
same_form forms.Ranges forms.Items e = absurd cc
same_form forms.Ranges forms.Erasures e = absurd cc
same_form forms.Erasures forms.Items e = absurd cc
same_form forms.Erasures forms.Ranges e = absurd cc

both : (a b : Bool) → (a && b) ≡ true → (a ≡ true) × (b ≡ true)
both true b e = (refl, e)
both false b e = absurd cc

-- a form and flags are those of others
abbrev pub alike : Form → ℕ → Form → ℕ → Bool
alike f m g n = eqb (form_number f) (form_number g) && eqb m n

pub alike_is : (f : Form) (m : ℕ) (g : Form) (n : ℕ) → alike f m g n ≡ true → (f ≡ g) × (m ≡ n)
alike_is f m g n e =
    let t = both (eqb (form_number f) (form_number g)) (eqb m n) e in
    (same_form f g t.0, eqb-true m n t.1)

pub alike_so : (f : Form) (m : ℕ) (g : Form) (n : ℕ) → f ≡ g → m ≡ n → alike f m g n ≡ true
alike_so f m g n e h =
    let a : eqb (form_number f) (form_number g) ≡ true = eq-eqb (form_number f) (form_number g) (ap form_number e) in
    let b : eqb m n ≡ true = eq-eqb m n h in
    rw (a, b) refl

-- ---- the last request

-- behind these requests: it joins the last of them where that is like it
abbrev pub joined : List Request → Asked → List Request
joined [] b = request_alone b ∷ []
joined (r ∷ []) b = cond (alike r.form r.flags b.form b.flags) (request r.form r.flags (r.items ++ asked_items b) ∷ []) (r ∷ request_alone b ∷ [])
joined (r ∷ s ∷ more) b = r ∷ joined (s ∷ more) b

alone_pair : (t : Bool) (a b : Asked) → alike a.form a.flags b.form b.flags ≡ t
    → cond t (request b.form b.flags (asked_items a ++ asked_items b) ∷ []) (request_alone a ∷ request_alone b ∷ [])
    ≡ cond t (request a.form a.flags (asked_items a ++ asked_items b) ∷ []) (request_alone a ∷ request_alone b ∷ [])
alone_pair false a b e = refl
alone_pair true a b e =
    let s = alike_is a.form a.flags b.form b.flags e in
    ap (λ (f : Form). request f b.flags (asked_items a ++ asked_items b) ∷ []) (sym s.0)
    ∙ ap (λ (n : ℕ). request a.form n (asked_items a ++ asked_items b) ∷ []) (sym s.1)

-- joining before and behind, by what is like what
three : (t u : Bool) (a : Asked) (r : Request) (b : Asked) → alike a.form a.flags r.form r.flags ≡ t → alike r.form r.flags b.form b.flags ≡ u
    → asked_before a (cond u (request r.form r.flags (r.items ++ asked_items b) ∷ []) (r ∷ request_alone b ∷ []))
    ≡ joined (cond t (request r.form r.flags (asked_items a ++ r.items) ∷ []) (request_alone a ∷ r ∷ [])) b
three true true a r b e f =
    rw (e, f) (ap (λ (items : List RequestItem). request r.form r.flags items ∷ []) (sym (append_assoc (asked_items a) r.items (asked_items b))))
three true false a r b e f = rw (e, f) refl
three false true a r b e f = rw (e, f) refl
three false false a r b e f = rw (e, f) refl

before_joined : (a : Asked) (rs : List Request) (b : Asked) → asked_before a (joined rs b) ≡ joined (asked_before a rs) b
before_joined a [] b = alone_pair (alike a.form a.flags b.form b.flags) a b refl
before_joined a (r ∷ []) b = three (alike a.form a.flags r.form r.flags) (alike r.form r.flags b.form b.flags) a r b refl refl
before_joined a (r ∷ s ∷ more) b = in_front (alike a.form a.flags r.form r.flags) a r s more b refl
  where
    in_front : (t : Bool) (a : Asked) (r s : Request) (more : List Request) (b : Asked) → alike a.form a.flags r.form r.flags ≡ t
        → cond t (request r.form r.flags (asked_items a ++ r.items) ∷ joined (s ∷ more) b) (request_alone a ∷ r ∷ joined (s ∷ more) b)
        ≡ joined (cond t (request r.form r.flags (asked_items a ++ r.items) ∷ s ∷ more) (request_alone a ∷ r ∷ s ∷ more)) b
    in_front true a r s more b e = refl
    in_front false a r s more b e = refl

pub asked_joined : (asked : List Asked) (b : Asked) → requests_asked (asked ++ b ∷ []) ≡ joined (requests_asked asked) b
asked_joined [] b = refl
asked_joined (a ∷ asked) b = ap (asked_before a) (asked_joined asked b) ∙ before_joined a (requests_asked asked) b

-- a list has a last element, or none
pub record Snoc (rs : List Request) : Type 0 where
  pub front : List Request
  pub back : Request
  pub is : rs ≡ front ++ back ∷ []

pub snoc_of : (r : Request) (rs : List Request) → Snoc (r ∷ rs)
snoc_of r [] = record { front = []; back = r; is = refl }
snoc_of r (s ∷ rs) =
    let t = snoc_of s rs in
    record { front = r ∷ t.front; back = t.back; is = ap (λ (x : List Request). r ∷ x) t.is }

pub last_snoc : (o : Option Request) (rs : List Request) (r : Request) → last_or o (rs ++ r ∷ []) ≡ Some r
last_snoc o [] r = refl
last_snoc o (x ∷ rs) r = last_snoc (Some x) rs r

pub joined_alike : (rs : List Request) (r : Request) (b : Asked) → alike r.form r.flags b.form b.flags ≡ true
    → joined (rs ++ r ∷ []) b ≡ rs ++ request r.form r.flags (r.items ++ asked_items b) ∷ []
joined_alike [] r b e = rw e refl
joined_alike (x ∷ []) r b e = ap (λ (t : List Request). x ∷ t) (joined_alike [] r b e)
joined_alike (x ∷ y ∷ rs) r b e = ap (λ (t : List Request). x ∷ t) (joined_alike (y ∷ rs) r b e)

pub joined_apart : (rs : List Request) (r : Request) (b : Asked) → alike r.form r.flags b.form b.flags ≡ false
    → joined (rs ++ r ∷ []) b ≡ (rs ++ r ∷ []) ++ request_alone b ∷ []
joined_apart [] r b e = rw e refl
joined_apart (x ∷ []) r b e = ap (λ (t : List Request). x ∷ t) (joined_apart [] r b e)
joined_apart (x ∷ y ∷ rs) r b e = ap (λ (t : List Request). x ∷ t) (joined_apart (y ∷ rs) r b e)

-- ---- what the writer knows of the last request

-- it has the form and the flags
abbrev pub JoinsLast : Writing → Asked → Type 0
JoinsLast w b = (w.form ≡ Some b.form) × (w.flags ≡ b.flags)

-- a writer of so many octets whose last request is this
abbrev written_as : ℕ → ℕ → Option Request → Writing
written_as limit used o = record { limit = limit; used = used; form = option_map (λ r. r.form) o; flags = last_flags o; len = last_len o }

same_writing : (limit used used' : ℕ) (form form' : Option Form) (flags flags' len len' : ℕ) → used ≡ used' → form ≡ form' → flags ≡ flags' → len ≡ len'
    → (let x : Writing = record { limit = limit; used = used; form = form; flags = flags; len = len } in x)
    ≡ (let x : Writing = record { limit = limit; used = used'; form = form'; flags = flags'; len = len' } in x)
same_writing limit used used' form form' flags flags' len len' a b c d = rw (a, b, c, d) refl

record LastIs (rs : List Request) (w : Writing) (b : Asked) : Type 0 where
  front : List Request
  back : Request
  is : rs ≡ front ++ back ∷ []
  len : w.len ≡ 8 * length back.items
  test : alike back.form back.flags b.form b.flags ≡ true

some_same : (f g : Form) → let x : Option Form = Some f in let y : Option Form = Some g in x ≡ y → f ≡ g
some_same f g e = cc

abbrev last_form : Option Request → Option Form
last_form o = option_map (λ r. r.form) o

last_is : (rs : List Request) (w : Writing) (b : Asked) → w ≡ writing w.limit rs → JoinsLast w b → LastIs rs w b
last_is [] w b is joins = absurd (let e : None ≡ Some b.form = sym (ap (λ (x : Writing). x.form) is) ∙ joins.0 in cc)
last_is (r ∷ rs) w b is joins =
    let s = snoc_of r rs in
    let last : last_or None (r ∷ rs) ≡ Some s.back = ap (last_or None) s.is ∙ last_snoc None s.front s.back in
    let form : last_form (Some s.back) ≡ Some b.form = sym (ap last_form last) ∙ sym (ap (λ (x : Writing). x.form) is) ∙ joins.0 in
    let flags : s.back.flags ≡ b.flags = sym (ap last_flags last) ∙ sym (ap (λ (x : Writing). x.flags) is) ∙ joins.1 in
    record {
      front = s.front;
      back = s.back;
      is = s.is;
      len = ap (λ (x : Writing). x.len) is ∙ ap last_len last;
      test = alike_so s.back.form s.back.flags b.form b.flags (some_same s.back.form b.form form) flags;
    }

pub not_alike : (f : Form) (m : ℕ) (g : Form) (n : ℕ) (t : Bool) → alike f m g n ≡ t → ((f ≡ g) × (m ≡ n) → ⊥) → t ≡ false
not_alike f m g n true e apart = absurd (apart (alike_is f m g n e))
not_alike f m g n false e apart = refl

apart_is : (rs : List Request) (w : Writing) (b : Asked) → w ≡ writing w.limit rs → (JoinsLast w b → ⊥) → joined rs b ≡ rs ++ request_alone b ∷ []
apart_is [] w b is apart = refl
apart_is (r ∷ rs) w b is apart =
    let s = snoc_of r rs in
    let last : last_or None (r ∷ rs) ≡ Some s.back = ap (last_or None) s.is ∙ last_snoc None s.front s.back in
    let test : alike s.back.form s.back.flags b.form b.flags ≡ false =
    not_alike s.back.form s.back.flags b.form b.flags (alike s.back.form s.back.flags b.form b.flags) refl
    (λ same. apart (
      ap (λ (x : Writing). x.form) is ∙ ap last_form last ∙ ap (λ (f : Form). Some f) same.0,
      ap (λ (x : Writing). x.flags) is ∙ ap last_flags last ∙ same.1,
    )) in
    ap (λ (x : List Request). joined x b) s.is ∙ joined_apart s.front s.back b test ∙ ap (λ (x : List Request). x ++ request_alone b ∷ []) (sym s.is)

-- ---- octets

abbrev head_octets : Request → List ℕ
head_octets r = form_number r.form ∷ r.flags ∷ []

-- the octets of requests of which the last is this
octets_split : (front : List Request) (r : Request) → requests_octets (front ++ r ∷ []) ≡ requests_octets front ++ request_octets r
octets_split front r = flat_map-append request_octets front (r ∷ []) ∙ ap (λ (t : List ℕ). requests_octets front ++ t) (append-nil (request_octets r))

-- the datagram, split where the last request's length stands
abbrev before_len : List ℕ → List Request → Request → List ℕ
before_len start front r = start ++ (requests_octets front ++ head_octets r)

split_out : (start : List ℕ) (front : List Request) (r : Request)
    → start ++ requests_octets (front ++ r ∷ []) ≡ before_len start front r ++ (big_bytes 2 (8 * length r.items) ++ flat_map item_octets r.items)
split_out start front r =
    ap (λ (t : List ℕ). start ++ t) (octets_split front r)
    ∙ ap (λ (t : List ℕ). start ++ t) (sym (append_assoc (requests_octets front) (head_octets r) (big_bytes 2 (8 * length r.items) ++ flat_map item_octets r.items)))
    ∙ sym (append_assoc start (requests_octets front ++ head_octets r) (big_bytes 2 (8 * length r.items) ++ flat_map item_octets r.items))

-- an item more in the last request
longer_out : (start : List ℕ) (front : List Request) (r : Request) (items : List RequestItem)
    → (before_len start front r ++ big_bytes 2 (8 * length r.items + 8 * length items) ++ flat_map item_octets r.items) ++ flat_map item_octets items
    ≡ start ++ requests_octets (front ++ request r.form r.flags (r.items ++ items) ∷ [])
longer_out start front r items =
    let many : 8 * length r.items + 8 * length items ≡ 8 * length (r.items ++ items) = omega (arith, length-append r.items items) in
    let p : List ℕ = before_len start front r in
    let q : List ℕ = big_bytes 2 (8 * length r.items + 8 * length items) in
    append_assoc (p ++ q) (flat_map item_octets r.items) (flat_map item_octets items)
    ∙ append_assoc p q (flat_map item_octets r.items ++ flat_map item_octets items)
    ∙ ap (λ (t : List ℕ). p ++ (q ++ t)) (sym (flat_map-append item_octets r.items items))
    ∙ ap (λ (n : ℕ). p ++ (big_bytes 2 n ++ flat_map item_octets (r.items ++ items))) many
    ∙ sym (split_out start front (request r.form r.flags (r.items ++ items)))

cut_out : (p q rest : List ℕ) (n at : ℕ) → at ≡ length p → length q ≡ n → (take at (p ++ (q ++ rest)) ≡ p) × (drop (at + n) (p ++ (q ++ rest)) ≡ rest)
cut_out p q rest n at is size =
    let more : at + n ≡ length (p ++ q) = omega (arith, is, size, length-append p q) in (
      take_at p (q ++ rest) at (sym is),
      ap (λ (t : List ℕ). drop (at + n) t) (sym (append_assoc p q rest)) ∙ drop_at (p ++ q) rest (at + n) (sym more),
    )

size_of_request : (r : Request) → length (request_octets r) ≡ 4 + 8 * length r.items
size_of_request r = let e = items_size r.items in omega (arith, e)

pub size_split : (front : List Request) (r : Request) → length (requests_octets (front ++ r ∷ [])) ≡ length (requests_octets front) + (4 + 8 * length r.items)
size_split front r =
    let e = size_of_request r in
    let s = ap length (octets_split front r) in
    omega (arith, e, s, length-append (requests_octets front) (request_octets r))

-- ---- one item more

-- it joins the last request
pub record Longer (w : Writing) (out start : List ℕ) (asked : List Asked) (b : Asked) : Type 0 where
  pub size : length (asked_octets (asked ++ b ∷ [])) ≡ w.used + 8 * length (asked_items b)
  pub written : (take (length out - (2 + w.len)) out ++ big_bytes 2 (w.len + 8 * length (asked_items b)) ++ drop (length out - (2 + w.len) + 2) out) ++ flat_map item_octets (asked_items b)
      ≡ start ++ asked_octets (asked ++ b ∷ [])
  pub stands : record w { used = w.used + 8 * length (asked_items b); len = w.len + 8 * length (asked_items b) } ≡ writing w.limit (requests_asked (asked ++ b ∷ []))

pub longer : (w : Writing) (out start : List ℕ) (asked : List Asked) (b : Asked) → HasWritten w out start asked → JoinsLast w b → Longer w out start asked b
longer w out start asked b has joins =
    let l = last_is (requests_asked asked) w b has.stands joins in
    let r : Request = l.back in
    let items : List RequestItem = asked_items b in
    let more : Request = request r.form r.flags (r.items ++ items) in
    let next : requests_asked (asked ++ b ∷ []) ≡ l.front ++ more ∷ [] = asked_joined asked b ∙ ap (λ (x : List Request). joined x b) l.is ∙ joined_alike l.front r b l.test in
    let p : List ℕ = before_len start l.front r in
    let rest : List ℕ = flat_map item_octets r.items in
    let split : out ≡ p ++ (big_bytes 2 (8 * length r.items) ++ rest) = has.written ∙ ap (λ (x : List Request). start ++ requests_octets x) l.is ∙ split_out start l.front r in
    let rest-size : length rest ≡ 8 * length r.items = items_size r.items in
    let at-is : length out - (2 + w.len) ≡ length p = omega (arith, ap length split, rest-size, l.len, length-append p (big_bytes 2 (8 * length r.items) ++ rest)) in
    let cut = cut_out p (big_bytes 2 (8 * length r.items)) rest 2 (length out - (2 + w.len)) at-is refl in
    let front-is : take (length out - (2 + w.len)) out ≡ p = ap (take (length out - (2 + w.len))) split ∙ cut.0 in
    let back-is : drop (length out - (2 + w.len) + 2) out ≡ rest = ap (drop (length out - (2 + w.len) + 2)) split ∙ cut.1 in
    let used : w.used ≡ length (requests_octets (l.front ++ r ∷ [])) = ap (λ (x : Writing). x.used) has.stands ∙ ap (λ (x : List Request). length (requests_octets x)) l.is in
    let many : length (r.items ++ items) ≡ length r.items + length items = length-append r.items items in
    let size : length (requests_octets (l.front ++ more ∷ [])) ≡ w.used + 8 * length items = omega (arith, size_split l.front more, size_split l.front r, used, many) in
    let last : last_or None (l.front ++ more ∷ []) ≡ Some more = last_snoc None l.front more in
    let same = alike_is r.form r.flags b.form b.flags l.test in
    record {
      size = ap (λ (x : List Request). length (requests_octets x)) next ∙ size;
      written =
          ap (λ (x : List ℕ). (x ++ big_bytes 2 (w.len + 8 * length items) ++ drop (length out - (2 + w.len) + 2) out) ++ flat_map item_octets items) front-is
          ∙ ap (λ (x : List ℕ). (p ++ big_bytes 2 (w.len + 8 * length items) ++ x) ++ flat_map item_octets items) back-is
          ∙ ap (λ (n : ℕ). (p ++ big_bytes 2 (n + 8 * length items) ++ rest) ++ flat_map item_octets items) l.len
          ∙ longer_out start l.front r items
          ∙ ap (λ (x : List Request). start ++ requests_octets x) (sym next);
      stands =
          same_writing w.limit (w.used + 8 * length items) (length (requests_octets (l.front ++ more ∷ []))) w.form (last_form (Some more)) w.flags more.flags (w.len + 8 * length items) (8 * length more.items)
          (sym size) (joins.0 ∙ ap (λ (f : Form). Some f) (sym same.0)) (joins.1 ∙ sym same.1) (omega (arith, l.len, many))
          ∙ ap (λ (o : Option Request). written_as w.limit (length (requests_octets (l.front ++ more ∷ []))) o) (sym last)
          ∙ ap (writing w.limit) (sym next);
    }

-- it begins a request
pub record Begun (w : Writing) (out start : List ℕ) (asked : List Asked) (b : Asked) : Type 0 where
  pub size : length (asked_octets (asked ++ b ∷ [])) ≡ w.used + (4 + 8 * length (asked_items b))
  pub written : (out ++ form_number b.form ∷ b.flags ∷ big_bytes 2 (8 * length (asked_items b))) ++ flat_map item_octets (asked_items b) ≡ start ++ asked_octets (asked ++ b ∷ [])
  pub stands : record w { used = w.used + (4 + 8 * length (asked_items b)); form = Some b.form; flags = b.flags; len = 8 * length (asked_items b) } ≡ writing w.limit (requests_asked (asked ++ b ∷ []))

pub begun : (w : Writing) (out start : List ℕ) (asked : List Asked) (b : Asked) → HasWritten w out start asked → (JoinsLast w b → ⊥) → Begun w out start asked b
begun w out start asked b has apart =
    let rs : List Request = requests_asked asked in
    let r : Request = request_alone b in
    let items : List RequestItem = asked_items b in
    let next : requests_asked (asked ++ b ∷ []) ≡ rs ++ r ∷ [] = asked_joined asked b ∙ apart_is rs w b has.stands apart in
    let used : w.used ≡ length (requests_octets rs) = ap (λ (x : Writing). x.used) has.stands in
    let size : length (requests_octets (rs ++ r ∷ [])) ≡ w.used + (4 + 8 * length items) = omega (arith, size_split rs r, used) in
    let last : last_or None (rs ++ r ∷ []) ≡ Some r = last_snoc None rs r in
    let head : List ℕ = form_number b.form ∷ b.flags ∷ big_bytes 2 (8 * length items) in
    record {
      size = ap (λ (x : List Request). length (requests_octets x)) next ∙ size;
      written =
          ap (λ (x : List ℕ). (x ++ head) ++ flat_map item_octets items) has.written
          ∙ append_assoc (start ++ requests_octets rs) head (flat_map item_octets items)
          ∙ append_assoc start (requests_octets rs) (request_octets r)
          ∙ ap (λ (t : List ℕ). start ++ t) (sym (octets_split rs r))
          ∙ ap (λ (x : List Request). start ++ requests_octets x) (sym next);
      stands =
          same_writing w.limit (w.used + (4 + 8 * length items)) (length (requests_octets (rs ++ r ∷ []))) (Some b.form) (Some b.form) b.flags b.flags (8 * length items) (8 * length items)
          (sym size) refl refl refl
          ∙ ap (λ (o : Option Request). written_as w.limit (length (requests_octets (rs ++ r ∷ []))) o) (sym last)
          ∙ ap (writing w.limit) (sym next);
    }

-- two items, one behind the other
pub two_ends : (out one two : List ℕ) (first item : Item) (last : Option Item) → last ≡ Some item → one ≡ out ++ item_octets (written_item first) → two ≡ one ++ item_octets (written_item item)
    → two ≡ out ++ flat_map item_octets (ends_of first last)
two_ends out one two first item last is a b =
    b ∙ ap (λ (t : List ℕ). t ++ item_octets (written_item item)) a
    ∙ append_assoc out (item_octets (written_item first)) (item_octets (written_item item))
    ∙ ap (λ (o : Option Item). out ++ flat_map item_octets (ends_of first o)) (sym is)

-- what a call has done

pub added_longer : (w now : Writing) (out mid new start : List ℕ) (asked : List Asked) (b : Asked) (n : ℕ) → HasWritten w out start asked → JoinsLast w b → n ≡ 8 * length (asked_items b) → w.used + n ≤ w.limit
    → mid ≡ take (length out - (2 + w.len)) out ++ big_bytes 2 (w.len + n) ++ drop (length out - (2 + w.len) + 2) out
    → now ≡ record w { used = w.used + n; len = w.len + n } → new ≡ mid ++ flat_map item_octets (asked_items b)
    → HasWritten now new start (asked ++ b ∷ [])
added_longer w now out mid new start asked b n has joins size fits middle writer ends =
    let l = longer w out start asked b has joins in
    let limit : now.limit ≡ w.limit = ap (λ (x : Writing). x.limit) writer in
    let used : now.used ≡ w.used + n = ap (λ (x : Writing). x.used) writer in
    record {
      stands = writer ∙ ap (λ (k : ℕ). record w { used = w.used + k; len = w.len + k }) size ∙ l.stands ∙ ap (λ (k : ℕ). writing k (requests_asked (asked ++ b ∷ []))) (sym limit);
      written =
          ends ∙ ap (λ (t : List ℕ). t ++ flat_map item_octets (asked_items b)) middle
          ∙ ap (λ (k : ℕ). (take (length out - (2 + w.len)) out ++ big_bytes 2 (w.len + k) ++ drop (length out - (2 + w.len) + 2) out) ++ flat_map item_octets (asked_items b)) size
          ∙ l.written;
      within = omega (arith, limit, used, fits);
    }

pub added_begun : (w now : Writing) (out mid new start : List ℕ) (asked : List Asked) (b : Asked) (n : ℕ) → HasWritten w out start asked → (JoinsLast w b → ⊥) → n ≡ 8 * length (asked_items b) → w.used + (4 + n) ≤ w.limit
    → mid ≡ out ++ form_number b.form ∷ b.flags ∷ big_bytes 2 n
    → now ≡ record w { used = w.used + (4 + n); form = Some b.form; flags = b.flags; len = n } → new ≡ mid ++ flat_map item_octets (asked_items b)
    → HasWritten now new start (asked ++ b ∷ [])
added_begun w now out mid new start asked b n has apart size fits middle writer ends =
    let l = begun w out start asked b has apart in
    let limit : now.limit ≡ w.limit = ap (λ (x : Writing). x.limit) writer in
    let used : now.used ≡ w.used + (4 + n) = ap (λ (x : Writing). x.used) writer in
    record {
      stands =
          writer ∙ ap (λ (k : ℕ). record w { used = w.used + (4 + k); form = Some b.form; flags = b.flags; len = k }) size ∙ l.stands
          ∙ ap (λ (k : ℕ). writing k (requests_asked (asked ++ b ∷ []))) (sym limit);
      written =
          ends ∙ ap (λ (t : List ℕ). t ++ flat_map item_octets (asked_items b)) middle
          ∙ ap (λ (k : ℕ). (out ++ form_number b.form ∷ b.flags ∷ big_bytes 2 k) ++ flat_map item_octets (asked_items b)) size
          ∙ l.written;
      within = omega (arith, limit, used, fits);
    }
