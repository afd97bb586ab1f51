-- How many entries have to go, by how many octets each takes.
use Rattle.std.proofs.Common.{◌≡◌, ℕ, zero, suc, ◌+◌, ◌<◌, ◌≤◌, ◌⊎◌, inl, inr, Bool, true, false, refl, sym, ap, ◌∙◌, subst, arith, Some, List, [], ◌∷◌, length, map, take, drop}
use Rattle.std.specs.Prelude.{slice_get, sum, nat_lt, nat_le, ◌&&◌, None}
use Rattle.std.proofs.lemmas.Bool.{lt-ltb, le-ltb}
use Rattle.std.proofs.lemmas.List.{length-map}
use Rattle.std.proofs.lemmas.List.Sums.{sum_by-cons}
use Rattle.norm_base.specs.Settings.{Settings}
use Rattle.norm_order.specs.Entries.{Whole, Stream, Entry}
use Rattle.norm_order.specs.Shapes.{shape_of}
use Rattle.norm_send_rules.specs.SenderState.{SenderState}
use Rattle.norm_send_rules.specs.Room.{size_of, has_room, has_to_go, may_go, may_all_go}
use Rattle.tx_window.specs.EntryPlaces.{held_size}
use Rattle.tx_window.specs.EntryState.{EntryReads, StandsFor}
use Rattle.tx_window.specs.EntryFront.{AreEntries}
use Rattle.tx_window.specs.declared.entry.HeldEntry.{HeldEntry}
use Rattle.tx_window.specs.declared.entry.HeldEntry.TheVariants as held
use Rattle.tx_object.specs.Held.{octets_of}
use Rattle.tx_window.proofs.ListLemmas.{drop_one, get_some, map_drop, le-leb, lt-leb}
use Rattle.tx_window.specs.WindowSound.{all_sizes}

-- the sizes of entries
abbrev pub AreSizes : Settings → List Entry → List ℕ → Type 0
AreSizes p entries ns = map (λ (x : Entry). size_of p x.object) entries ≡ ns

room_is : (p : Settings) (len : ℕ) (entries : List Entry) (ns : List ℕ) → AreSizes p entries ns
    → has_room p len entries ≡ (nat_lt (length ns) p.window && nat_le (sum ns + len) p.octets)
room_is p len entries ns are =
    ap (λ n. nat_lt n p.window && nat_le (sum (map (λ (x : Entry). size_of p x.object) entries) + len) p.octets)
    (sym (length-map entries (λ (x : Entry). size_of p x.object)) ∙ ap length are)
    ∙ ap (λ (ms : List ℕ). nat_lt (length ns) p.window && nat_le (sum ms + len) p.octets) are

pub nothing : (p : Settings) (len : ℕ) → has_to_go p len [] ≡ 0
unfolding has_to_go
nothing p len = refl

-- none has to go where there is room
pub stops : (p : Settings) (len : ℕ) (entries : List Entry) (ns : List ℕ) → AreSizes p entries ns
    → length ns < p.window → sum ns + len ≤ p.octets → has_to_go p len entries ≡ 0
unfolding has_to_go
stops p len [] ns are few fit = refl
stops p len (entry ∷ entries) ns are few fit =
    ap (λ b. elim b as (λ v. ℕ) [ true ↦ 0 | false ↦ suc (has_to_go p len entries) ])
    (room_is p len (entry ∷ entries) ns are ∙ ap (λ b. b && nat_le (sum ns + len) p.octets) (lt-ltb (length ns) p.window few) ∙ ap (λ b. true && b) (le-leb (sum ns + len) p.octets fit))

-- and where there is none the first has to
pub goes : (p : Settings) (len : ℕ) (entry : Entry) (entries : List Entry) (ns : List ℕ) → AreSizes p (entry ∷ entries) ns
    → (p.window ≤ length ns) ⊎ (p.octets < sum ns + len) → has_to_go p len (entry ∷ entries) ≡ suc (has_to_go p len entries)
unfolding has_to_go
goes p len entry entries ns are full =
    ap (λ b. elim b as (λ v. ℕ) [ true ↦ 0 | false ↦ suc (has_to_go p len entries) ]) (room_is p len (entry ∷ entries) ns are ∙ none full)
  where
    none : (p.window ≤ length ns) ⊎ (p.octets < sum ns + len) → (nat_lt (length ns) p.window && nat_le (sum ns + len) p.octets) ≡ false
    none (inl many) = ap (λ b. b && nat_le (sum ns + len) p.octets) (le-ltb (length ns) p.window many)
    none (inr much) = by (nat_lt (length ns) p.window)
      where
        by : (b : Bool) → (b && nat_le (sum ns + len) p.octets) ≡ false
        by true = lt-leb (sum ns + len) p.octets much
        by false = refl

-- ---- behind some

pub sizes_long : (p : Settings) (entries : List Entry) (ns : List ℕ) → AreSizes p entries ns → length entries ≡ length ns
sizes_long p entries ns are = sym (length-map entries (λ (x : Entry). size_of p x.object)) ∙ ap length are

pub sizes_behind : (p : Settings) (n : ℕ) (entries : List Entry) (es : List HeldEntry) → AreSizes p entries (map (held_size p) es) → AreSizes p (drop n entries) (map (held_size p) (drop n es))
sizes_behind p n entries es are = map_drop (λ (x : Entry). size_of p x.object) n entries ∙ ap (drop n) are ∙ sym (map_drop (held_size p) n es)

-- one more has to go
pub goes_on : (p : Settings) (len n : ℕ) (entries : List Entry) (es : List HeldEntry) → AreSizes p entries (map (held_size p) es) → n < length es
    → (p.window ≤ length (drop n es)) ⊎ (p.octets < all_sizes p (drop n es) + len)
    → has_to_go p len (drop n entries) ≡ suc (has_to_go p len (drop (suc n) entries))
goes_on p len n entries es are lt full =
    go (get_some n entries (omega (arith, sizes_long p entries (map (held_size p) es) are, length-map es (held_size p), lt)))
  where
    more : (p.window ≤ length (drop n es)) ⊎ (p.octets < all_sizes p (drop n es) + len) → (p.window ≤ length (map (held_size p) (drop n es))) ⊎ (p.octets < all_sizes p (drop n es) + len)
    more (inl many) = inl (omega (arith, many, length-map (drop n es) (held_size p)))
    more (inr much) = inr much

    go : (x : Entry) × (slice_get entries n ≡ Some x) → has_to_go p len (drop n entries) ≡ suc (has_to_go p len (drop (suc n) entries))
    go (x, found) =
        ap (has_to_go p len) (drop_one n entries x found)
        ∙ goes p len x (drop (suc n) entries) (map (held_size p) (drop n es))
        (subst (λ (xs : List Entry). AreSizes p xs (map (held_size p) (drop n es))) (drop_one n entries x found) (sizes_behind p n entries es are)) (more full)

pub sizes_cons : (p : Settings) (e : HeldEntry) (es : List HeldEntry) → all_sizes p (e ∷ es) ≡ held_size p e + all_sizes p es
sizes_cons p e es = sum_by-cons (λ x. x) (held_size p e) (map (held_size p) es)

pub left_behind : (p : Settings) (n : ℕ) (es : List HeldEntry) (e : HeldEntry) → slice_get es n ≡ Some e → all_sizes p (drop n es) ≡ held_size p e + all_sizes p (drop (suc n) es)
left_behind p n es e found = ap (all_sizes p) (drop_one n es e found) ∙ sizes_cons p e (drop (suc n) es)

-- ---- the sizes of the window's entries

size_is : (r : EntryReads) (e : HeldEntry) → StandsFor r e → size_of r.p r.object ≡ held_size r.p e
size_is r (held.Object h) is = ap (size_of r.p) is.object ∙ sym (ap octets_of is.placed.holds.cut)
size_is r (held.Stream stream) is = ap (size_of r.p) is.object

pub sizes_are : (ring : List ℕ) (p : Settings) (first : ℕ) (entries : List Entry) (s : SenderState) (es : List HeldEntry) → AreEntries ring p first entries s es → AreSizes p entries (map (held_size p) es)
sizes_are ring p first [] s [] are = refl
sizes_are ring p first [] s (e ∷ es) are = absurd (let long = are.long in omega (arith, long))
sizes_are ring p first (x ∷ xs) s [] are = absurd (let long = are.long in omega (arith, long))
sizes_are ring p first (x ∷ xs) s (e ∷ es) are =
    ap (λ n. n ∷ map (λ (y : Entry). size_of p y.object) xs) (size_is _ e (are.each 0 x e refl refl))
    ∙ ap (λ ns. held_size p e ∷ ns) (sizes_are ring p (first + 1) xs s es (record {
      long = let long = are.long in omega (arith, long);
      each = λ n entry k there here.
          subst (λ i. StandsFor (Rattle.tx_window.specs.EntryState.reads_of ring p i entry.object s) k) (let same : first + suc n ≡ first + 1 + n = omega arith in same) (are.each (suc n) entry k there here);
    }))

-- ---- whether some may go

-- where the first may not go and there is no room, none can be made
pub front_stays : (p : Settings) (s : SenderState) (index len : ℕ) (entries : List Entry) (ns : List ℕ) → AreSizes p entries ns → (p.window ≤ length ns) ⊎ (p.octets < sum ns + len)
    → 0 < length entries → may_all_go p s index (take 1 entries) ≡ false → may_all_go p s index (take (has_to_go p len entries) entries) ≡ false
unfolding may_all_go
front_stays p s index len [] ns are full some stays = absurd (omega (arith, some))
front_stays p s index len (entry ∷ entries) ns are full some stays =
    ap (λ n. may_all_go p s index (take n (entry ∷ entries))) (goes p len entry entries ns are full) ∙ go (may_go p s index (shape_of p entry.object)) stays
  where
    go : (b : Bool) → (b && true) ≡ false → (b && may_all_go p s (suc index) (take (has_to_go p len entries) entries)) ≡ false
    go true e = absurd (cc)
    go false e = refl

pub may_none : (p : Settings) (s : SenderState) (index : ℕ) → may_all_go p s index [] ≡ true
unfolding may_all_go
may_none p s index = refl

-- where the first may not go there is one
pub some_entries : (p : Settings) (s : SenderState) (index : ℕ) (entries : List Entry) → may_all_go p s index (take 1 entries) ≡ false → 0 < length entries
unfolding may_all_go
some_entries p s index [] e = absurd (cc)
some_entries p s index (x ∷ xs) e = omega arith

-- where nothing is being filled the octets are those of what is held
pub octets_held : (ring : List ℕ) (filled : ℕ) (p : Settings) (items : List HeldEntry) (b : Rattle.std.specs.Prelude.Option Rattle.tx_object.specs.Held.HeldObject) (octets : ℕ)
    → octets ≡ all_sizes p items + Rattle.tx_window.specs.Rows.all_octets (Rattle.std.specs.Prelude.option_to_list b)
    → Rattle.std.specs.Prelude.option_map (Rattle.tx_window.specs.Rows.filling_in ring filled) b ≡ Rattle.std.specs.Prelude.None → octets ≡ all_sizes p items
octets_held ring filled p items None octets is e = omega (arith, is)
octets_held ring filled p items (Some h) octets is e = absurd (cc)

-- ---- how many are streams

pub kind_is : (r : EntryReads) (entry : Entry) (e : HeldEntry) → r.object ≡ entry.object → StandsFor r e → Rattle.norm_send_rules.specs.Repairable.is_stream entry ≡ Rattle.tx_window.specs.WindowSound.is_stream_held e
kind_is r entry (held.Object h) same is = ap kind (sym same ∙ is.object)
  where
    kind : Rattle.norm_order.specs.Entries.Object → Bool
    kind o = elim o as (λ v. Bool) [ Whole sort info octets ↦ false | Stream parts ↦ true ]
kind_is r entry (held.Stream stream) same is = ap kind (sym same ∙ is.object)
  where
    kind : Rattle.norm_order.specs.Entries.Object → Bool
    kind o = elim o as (λ v. Bool) [ Whole sort info octets ↦ false | Stream parts ↦ true ]

-- the streams from a place on, by the entry there
pub streams_from : (entries : List Entry) (n : ℕ) (entry : Entry) (b : Bool) → slice_get entries n ≡ Some entry → Rattle.norm_send_rules.specs.Repairable.is_stream entry ≡ b
    → length (Rattle.std.specs.Prelude.filter Rattle.norm_send_rules.specs.Repairable.is_stream (drop n entries))
    ≡ (elim b as (λ v. ℕ) [ true ↦ 1 | false ↦ 0 ]) + length (Rattle.std.specs.Prelude.filter Rattle.norm_send_rules.specs.Repairable.is_stream (drop (suc n) entries))
streams_from entries n entry b there is =
    ap (λ (xs : List Entry). length (Rattle.std.specs.Prelude.filter Rattle.norm_send_rules.specs.Repairable.is_stream xs)) (drop_one n entries entry there) ∙ go (Rattle.norm_send_rules.specs.Repairable.is_stream entry) b is
  where
    rest : List Entry
    rest = Rattle.std.specs.Prelude.filter Rattle.norm_send_rules.specs.Repairable.is_stream (drop (suc n) entries)

    go : (t u : Bool) → t ≡ u → length (Rattle.std.specs.Prelude.cond t (entry ∷ rest) rest) ≡ (elim u as (λ v. ℕ) [ true ↦ 1 | false ↦ 0 ]) + length rest
    go true true e = omega arith
    go false false e = omega arith
    go true false e = absurd (cc)
    go false true e = absurd (cc)

pub sizes_fewer : (p : Settings) (n : ℕ) (es : List HeldEntry) → all_sizes p (drop n es) ≤ all_sizes p es
sizes_fewer p zero es = omega arith
sizes_fewer p (suc n) [] = omega arith
sizes_fewer p (suc n) (e ∷ es) = omega (arith, sizes_cons p e es, sizes_fewer p n es)
