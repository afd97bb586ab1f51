-- What is asked for is read again.
use Rattle.std.proofs.Common.{◌≡◌, ℕ, ◌+◌, ◌*◌, ◌%◌, ◌<◌, cond, Bool, true, false, List, [], ◌∷◌, ◌++◌, length, Option, Some, None, refl, sym, ap, ◌∙◌, arith, length-append}
use Rattle.std.specs.List.{AllByRecursion}
use Rattle.norm_ext.specs.Requests.{Request, RequestItem, IsRequestItem, IsItem, IsRequest, item_size, request_octets, first_request, request_length, request_checked}
use Rattle.norm_ext.specs.Octets.{requests_octets}
use Rattle.norm_ext.specs.declared.kinds.Form.{Form}
use Rattle.norm_ext.specs.declared.kinds.Form.TheVariants as forms
use Rattle.norm_ext.specs.declared.head.Item.{Item}
use Rattle.norm_ext.specs.Laws.{AskedIsRead}
use Rattle.norm_ext.specs.Asked.{Asked, IsAsked, LastFits, ends_of, asked_items, written_item, request_alone, asked_before, requests_asked}
use Rattle.norm_ext.proofs.PieceLemmas.{pieces_again, checked_again}
use Rattle.norm_ext.proofs.RequestLemmas.{request_kind, items_size}
use Rattle.norm_ext.proofs.AskedLemmas.{alike, alike_is}

-- a request that can be spelled but for its length
record Fits (r : Request) : Type 0 where
  flags : r.flags < 256
  items : AllByRecursion IsRequestItem r.items
  pairs : 8 * length r.items % item_size r.form ≡ 0

all_append : (xs ys : List RequestItem) → AllByRecursion IsRequestItem xs → AllByRecursion IsRequestItem ys → AllByRecursion IsRequestItem (xs ++ ys)
all_append [] ys a b = b
all_append (x ∷ xs) ys a b = (a.0, all_append xs ys a.1 b)

item_fits : (item : Item) → IsItem item → IsRequestItem (written_item item)
item_fits item is = record { reserved = omega arith; item = is }

ends_fit : (form : Form) (first : Item) (last : Option Item) → IsItem first → LastFits form last → AllByRecursion IsRequestItem (ends_of first last)
ends_fit form first None is fits = (item_fits first is, tt)
ends_fit form first (Some item) is fits = (item_fits first is, (item_fits item fits.1, tt))

ends_pair : (form : Form) (first : Item) (last : Option Item) → LastFits form last → 8 * length (ends_of first last) % item_size form ≡ 0
ends_pair forms.Items first None fits = refl
ends_pair forms.Erasures first None fits = refl
ends_pair forms.Ranges first None fits = absurd (fits refl)
ends_pair form first (Some item) fits = ap (λ (f : Form). 16 % item_size f) fits.0

both_pair : (form : Form) (m n : ℕ) → 8 * m % item_size form ≡ 0 → 8 * n % item_size form ≡ 0 → 8 * (m + n) % item_size form ≡ 0
both_pair forms.Items m n a b = omega (arith, a, b)
both_pair forms.Ranges m n a b = omega (arith, a, b)
both_pair forms.Erasures m n a b = omega (arith, a, b)

alone_fits : (a : Asked) → IsAsked a → Fits (request_alone a)
alone_fits a is = record {
  flags = is.flags;
  items = ends_fit a.form a.first a.last is.first is.last;
  pairs = ends_pair a.form a.first a.last is.last;
}

joins_fits : (a : Asked) (r : Request) → IsAsked a → a.form ≡ r.form → Fits r → Fits (record r { items = asked_items a ++ r.items })
joins_fits a r is same fits =
    let own : 8 * length (asked_items a) % item_size r.form ≡ 0 = ap (λ (f : Form). 8 * length (asked_items a) % item_size f) (sym same) ∙ ends_pair a.form a.first a.last is.last in
    record {
      flags = fits.flags;
      items = all_append (asked_items a) r.items (ends_fit a.form a.first a.last is.first is.last) fits.items;
      pairs = ap (λ (n : ℕ). 8 * n % item_size r.form) (length-append (asked_items a) r.items) ∙ both_pair r.form (length (asked_items a)) (length r.items) own fits.pairs;
    }

by_like : (t : Bool) (a : Asked) (r : Request) (rs : List Request) → alike a.form a.flags r.form r.flags ≡ t → IsAsked a → AllByRecursion Fits (r ∷ rs)
    → AllByRecursion Fits (cond t (record r { items = asked_items a ++ r.items } ∷ rs) (request_alone a ∷ r ∷ rs))
by_like true a r rs e is all = (joins_fits a r is (alike_is a.form a.flags r.form r.flags e).0 all.0, all.1)
by_like false a r rs e is all = (alone_fits a is, all)

before_fits : (a : Asked) (rs : List Request) → IsAsked a → AllByRecursion Fits rs → AllByRecursion Fits (asked_before a rs)
before_fits a [] is all = (alone_fits a is, tt)
before_fits a (r ∷ rs) is all = by_like (alike a.form a.flags r.form r.flags) a r rs refl is all

all_fit : (asked : List Asked) → AllByRecursion IsAsked asked → AllByRecursion Fits (requests_asked asked)
all_fit [] all = tt
all_fit (a ∷ asked) all = before_fits a (requests_asked asked) all.0 (all_fit asked all.1)

are_requests : (rs : List Request) → AllByRecursion Fits rs → length (requests_octets rs) < 65536 → AllByRecursion IsRequest rs
are_requests [] all few = tt
are_requests (r ∷ rs) all few =
    let size = items_size r.items in
    let whole = length-append (request_octets r) (requests_octets rs) in (
      record { flags = all.0.flags; items = all.0.items; pairs = all.0.pairs; most = omega (arith, few, size, whole) },
      are_requests rs all.1 (omega (arith, few, whole)),
    )

pub asked_is_read_law : AskedIsRead
asked_is_read_law asked all few =
    let are = are_requests (requests_asked asked) (all_fit asked all) few in (
      record { checked = checked_again request_octets IsRequest first_request request_length request_checked request_kind 0 (requests_asked asked) are },
      pieces_again request_octets IsRequest first_request request_length request_checked request_kind (requests_asked asked) are,
    )
