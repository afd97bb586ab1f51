-- How the open stream goes on, in the rules' words.
use Rattle.std.proofs.Common.{◌≡◌, ℕ, zero, suc, ◌+◌, ◌-◌, ◌*◌, ◌<◌, ◌≤◌, ◌⊎◌, inl, inr, Bool, true, false, refl, sym, ap, ◌∙◌, subst, arith, Option, Some, None, List, [], ◌∷◌, ◌++◌, length, drop, take}
use Rattle.std.specs.Prelude.{slice_get, slice_set, nat_lt, nat_le, max, min, is_none, is_some, unwrap_or, option_map, ◌==◌, MatchOption, Result, Ok, Err, MatchResult}
use Rattle.std.proofs.lemmas.Bool.{cases_lt, lt-ltb, le-ltb}
use Rattle.std.proofs.lemmas.List.{length-set, length-map}
use Rattle.norm_base.specs.Settings.{Settings}
use Rattle.norm_base.specs.declared.node.Origin.{Origin}
use Rattle.std.proofs.lemmas.Bool.Decides.{Decides-eqb}
use Rattle.fec_plan.specs.Points.{point, position, position_before}
use Rattle.fec_plan.specs.declared.position.Position.{Position}
use Rattle.norm_order.specs.First.{first_where}
use Rattle.norm_order.specs.Entries.{Part, Write, Cut, End, Object, Whole, Stream, Entry}
use Rattle.norm_order.specs.Segments.{has_end, written, unclosed, closed_from, pieces, since_cut}
use Rattle.norm_order.specs.Shapes.{Shape, shape_of, shapes_of, last_in, last_from, closed_blocks, closed_in}
use Rattle.norm_order.proofs.StreamLemmas.{closed_grow}
use Rattle.norm_send_rules.specs.SenderState.{SenderState}
use Rattle.norm_send_rules.specs.InWindow.{last_index, next_index}
use Rattle.norm_send_rules.specs.Room.{window, may_all_go, first_kept, least_kept, stream_drop}
use Rattle.norm_send_rules.specs.Enqueuing.{open_stream, open_parts}
use Rattle.norm_send_rules.specs.Streaming.{used_segments, parts_now, with_last, with_parts, is_spent, is_crowded, write_fault, grown, wrote, closed, cut}
use Rattle.norm_send_rules.specs.declared.fault.EnqueueFault.{EnqueueFault}
use Rattle.norm_send_rules.specs.declared.fault.EnqueueFault.TheVariants.{Empty, TooBig, NoStream, Stream as OfStream}
use Rattle.norm_send_rules.specs.declared.fault.StreamFault.{StreamFault}
use Rattle.norm_send_rules.specs.declared.fault.StreamFault.TheVariants.{Spent, Full}
use Rattle.norm_send_rules.specs.declared.job.Receipt.{Receipt}
use Rattle.norm_send_rules.specs.declared.job.Receipt.TheVariants.{Wrote, Closed}
use Rattle.stream_buffer.specs.Growing.{growing_fault}
use Rattle.stream_buffer.proofs.LawLemmas.{as_ruled}
use Rattle.stream_buffer.proofs.GoingLemmas.{none_last}
use Rattle.tx_window.specs.EntryState.{EntryReads, first_of, StandsFor as StandsForEntry, reads_of}
use Rattle.tx_window.specs.EntryGrowing.{EntryGoesOn, KeepsObject}
use Rattle.tx_window.specs.EntryFront.{LastGoesOn, LastIsCut}
use Rattle.std.proofs.Math.Nat.{zero-div}
use Rattle.norm_order.specs.Sets.{is_member}
use Rattle.stream_buffer.specs.HeldState.{HeldState, Knows}
use Rattle.tx_window.specs.declared.entry.HeldEntry.{HeldEntry}
use Rattle.tx_window.specs.declared.entry.HeldEntry.TheVariants as held
use Rattle.tx_window.specs.WindowState.{without_info, reads, WindowState, Stands, first_block, drop_of, entry_reads}
use Rattle.tx_window.specs.Extents.{shape_of_extent}
use Rattle.tx_window.specs.declared.extent.Extent.TheVariants as extent
use Rattle.tx_window.specs.Streams.{last_or, followed, given_up, write_size_fault, IsWritten, IsClosed}
use Rattle.stream_buffer.specs.StreamState.{with_cut}
use Rattle.std.proofs.lemmas.Option.{slice_get_within}
use Rattle.tx_window.proofs.ListLemmas.{slice_get-drop, le-leb, lt-leb, get_some}
use Rattle.tx_window.proofs.KeptLemmas.{chosen, passed_over, dropped_is}
use Rattle.tx_window.proofs.FaultLemmas.{Last, last_found, none_open}
use Rattle.tx_window.proofs.GrownLemmas.{gone_on, gone_window, stands_gone, last_alone, last_set, last_now}

-- ---- where the window begins

first_one : (es : List HeldEntry) (n : ℕ) (e now : HeldEntry) → slice_get es n ≡ Some e → first_of now ≡ first_of e → first_block (slice_set es n now) ≡ first_block es
first_one [] n e now is same = absurd (cc)
first_one (x ∷ es) zero e now is same = same ∙ ap first_of (let z : e ≡ x = cc in z)
first_one (x ∷ es) (suc n) e now is same = refl

-- an entry of which a front is gone is the only one
only_one : (w : WindowState) (s : SenderState) (e : HeldEntry) → Stands w s → slice_get w.entries (length w.entries - 1) ≡ Some e → 0 < first_of e → length w.entries - 1 ≡ 0
only_one w s e stands there some = go (length w.entries - 1) there
  where
    go : (n : ℕ) → slice_get w.entries n ≡ Some e → n ≡ 0
    go zero is = refl
    go (suc n) is = absurd (omega (arith, some, stands.whole n e is))

first_only : (es : List HeldEntry) (n : ℕ) (now : HeldEntry) → n + 1 ≡ length es → n ≡ 0 → first_block (slice_set es n now) ≡ first_of now
first_only [] n now long one = absurd (omega (arith, long))
first_only (x ∷ es) zero now long one = refl
first_only (x ∷ es) (suc n) now long one = absurd (omega (arith, one))

last_only : (es : List HeldEntry) (n : ℕ) (now : HeldEntry) → n + 1 ≡ length es → first_block (drop n (slice_set es n now)) ≡ first_of now
last_only es n now long = ap first_block (last_alone es n now long)

last_of : (es : List HeldEntry) → 0 < length es → length es - 1 + 1 ≡ length es
last_of es some = omega (arith, some)

-- the window as its last entry is set
abbrev set_window : WindowState → HeldEntry → WindowState
set_window w now = record w { entries = slice_set w.entries (length w.entries - 1) now }

given_is : (w : WindowState) (now : HeldEntry) → 0 < length w.entries → 0 < first_of now → drop_of (given_up now (set_window w now)) ≡ point (w.dropped + (length w.entries - 1)) (first_of now)
given_is w now some lt =
    ap drop_of (chosen (nat_lt 0 (first_of now)) _ (set_window w now) (lt-ltb 0 (first_of now) lt))
    ∙ ap (λ n. point (w.dropped + (n - 1)) (first_block (drop (n - 1) (slice_set w.entries (length w.entries - 1) now)))) (length-set w.entries (length w.entries - 1) now)
    ∙ ap (point (w.dropped + (length w.entries - 1))) (last_only w.entries (length w.entries - 1) now (last_of w.entries some))

kept_is : (w : WindowState) (now : HeldEntry) → first_of now ≡ 0 → drop_of (given_up now (set_window w now)) ≡ point w.dropped (first_block (slice_set w.entries (length w.entries - 1) now))
kept_is w now none = ap drop_of (passed_over (nat_lt 0 (first_of now)) _ (set_window w now) (le-ltb 0 (first_of now) (omega (arith, none))))

-- where no block went the window begins where it did
pub same_drop : (w : WindowState) (s : SenderState) (e now : HeldEntry) → Stands w s → 0 < length w.entries → slice_get w.entries (length w.entries - 1) ≡ Some e → first_of now ≡ first_of e
    → s.current.drop ≡ drop_of (given_up now (set_window w now))
same_drop w s e now stands some there same = go (cases_lt 0 (first_of now))
  where
    go : (0 < first_of now) ⊎ (first_of now ≤ 0) → s.current.drop ≡ drop_of (given_up now (set_window w now))
    go (inl lt) =
        let one = only_one w s e stands there (omega (arith, lt, same)) in
        stands.dropped
        ∙ ap (point w.dropped) (sym (first_one w.entries (length w.entries - 1) e now there same) ∙ first_only w.entries (length w.entries - 1) now (last_of w.entries some) one)
        ∙ ap (λ n. point n (first_of now)) (let z : w.dropped ≡ w.dropped + (length w.entries - 1) = omega (arith, one) in z)
        ∙ sym (given_is w now some lt)
    go (inr none) = stands.dropped ∙ ap (point w.dropped) (sym (first_one w.entries (length w.entries - 1) e now there same)) ∙ sym (kept_is w now (omega (arith, none)))

pub grown_drop : (w : WindowState) (s : SenderState) (e now : HeldEntry) (used : ℕ) → Stands w s → 0 < length w.entries → slice_get w.entries (length w.entries - 1) ≡ Some e
    → w.dropped + (length w.entries - 1) ≡ last_index s → first_of e ≡ first_kept s (last_index s) → first_of now ≡ max (first_of e) (least_kept w.p used)
    → stream_drop w.p s (last_index s) used ≡ drop_of (given_up now (set_window w now))
grown_drop w s e now used stands some there index first now-is = go (cases_lt (first_kept s (last_index s)) (least_kept w.p used))
  where
    go : (first_kept s (last_index s) < least_kept w.p used) ⊎ (least_kept w.p used ≤ first_kept s (last_index s)) → stream_drop w.p s (last_index s) used ≡ drop_of (given_up now (set_window w now))
    go (inr le) =
        chosen (nat_le (least_kept w.p used) (first_kept s (last_index s))) s.current.drop (point (last_index s) (least_kept w.p used)) (le-leb (least_kept w.p used) (first_kept s (last_index s)) le)
        ∙ same_drop w s e now stands some there (higher (first_of now) (first_of e) (least_kept w.p used) now-is (omega (arith, le, first)))
      where
        higher : (a b c : ℕ) → a ≡ max b c → c ≤ b → a ≡ b
        higher a b c is le = omega (arith, is, le)
    go (inl lt) =
        let is : first_of now ≡ least_kept w.p used = lower (first_of now) (first_of e) (least_kept w.p used) now-is (omega (arith, lt, first)) in
        passed_over (nat_le (least_kept w.p used) (first_kept s (last_index s))) s.current.drop (point (last_index s) (least_kept w.p used)) (lt-leb (least_kept w.p used) (first_kept s (last_index s)) lt)
        ∙ ap (λ i. point i (least_kept w.p used)) (sym index)
        ∙ ap (point (w.dropped + (length w.entries - 1))) (sym is)
        ∙ sym (given_is w now some (omega (arith, is, lt)))
      where
        lower : (a b c : ℕ) → a ≡ max b c → b < c → a ≡ c
        lower a b c is lt = omega (arith, is, lt)

-- ---- the stream's parts

-- an entry that is open is a stream of these parts
pub stream_is : (object : Object) (parts : List Part) → open_parts object ≡ Some parts → (object ≡ Stream parts) × (has_end parts ≡ false)
stream_is (Whole kind info octets) parts is = absurd (cc)
stream_is (Stream ps) parts is = go (has_end ps) refl is
  where
    go : (b : Bool) → has_end ps ≡ b → (elim b as (λ v. Option (List Part)) [ true ↦ None | false ↦ Some ps ]) ≡ Some parts → (Stream ps ≡ Stream parts) × (has_end parts ≡ false)
    go true e f = absurd (cc)
    go false e f = let same : ps ≡ parts = cc in (ap (λ (xs : List Part). Stream xs) same, ap has_end (sym same) ∙ e)

-- nothing is closed where there is no last position
none_zero : (s : Shape) (index : ℕ) → last_in index s ≡ None → s.closed ≡ 0
none_zero s index none = go (s.closed == 0) refl none
  where
    never : (at : Position) → ◌≡◌ {A = Option Position} (Some at) None → ⊥
    never at e = cc

    go : (b : Bool) → (s.closed == 0) ≡ b
        → (elim b as (λ v. Option Position) [ true ↦ None | false ↦ Some (position index (closed_blocks s - 1) (closed_in s (closed_blocks s - 1) - 1)) ]) ≡ None → s.closed ≡ 0
    go true e f = (Decides-eqb s.closed 0).0 e
    go false e f = absurd (never (position index (closed_blocks s - 1) (closed_in s (closed_blocks s - 1) - 1)) f)

-- nothing closed before where nothing is closed after
pub none_before : (p : Settings) (index : ℕ) (parts more : List Part) → 1 ≤ p.e → has_end parts ≡ false
    → last_in index (shape_of p (Stream (parts ++ more))) ≡ None → last_in index (shape_of p (Stream parts)) ≡ None
none_before p index parts more some open_ none =
    none_last p index parts (omega (arith, closed_grow p.e parts more (omega (arith, some)) open_, none_zero (shape_of p (Stream (parts ++ more))) index none))

-- the last shape of the order
pub last_shape : (w : WindowState) (s : SenderState) (e : HeldEntry) (last : Last w s e) → slice_get (shapes_of w.p s.current.order) (length s.current.order - 1) ≡ Some (shape_of w.p last.found.entry.object)
last_shape w s e last =
    Rattle.std.proofs.lemmas.Option.slice_get-map (λ (x : Entry). shape_of w.p x.object) s.current.order (length s.current.order - 1)
    ∙ ap (option_map (λ (x : Entry). shape_of w.p x.object)) (ap (slice_get s.current.order) (sym last.index) ∙ last.found.there)

-- ---- as it went on

-- the stream has these parts more, and the window stands for the state with them
pub went_on : (w : WindowState) (s : SenderState) (e now : HeldEntry) (parts more : List Part) → Stands w s → 0 < length w.entries → slice_get w.entries (length w.entries - 1) ≡ Some e → 1 ≤ w.p.e
    → (last : Last w s e) → open_parts last.found.entry.object ≡ Some parts
    → StandsForEntry (reads_of w.ring w.p (w.dropped + (length w.entries - 1)) (Stream (parts ++ more)) s) now
    → first_of now ≡ max (first_of e) (least_kept w.p (used_segments w.p (parts ++ more)))
    → Stands (gone_window w now (parts ++ more)) (grown w.p s (parts ++ more))
went_on w s e now parts more stands some there least last open_ is first =
    let stream = stream_is last.found.entry.object parts open_ in
    stands_gone w s e now (Stream parts) (parts ++ more) (stream_drop w.p s (last_index s) (used_segments w.p (parts ++ more))) (record {
      stands = stands;
      some = some;
      found = there;
      here = last_shape w s e last ∙ ap (λ (o : Object). Some (shape_of w.p o)) stream.0;
      is = is;
      more = none_before w.p (last_index s) parts more least stream.1;
      drop = grown_drop w s e now (used_segments w.p (parts ++ more)) stands some there last.index (last.found.first ∙ ap (first_kept s) last.index) first;
    })

-- ---- the faults

-- why the open stream does not go on is what the rules say
pub ruled : (w : WindowState) (s : SenderState) (e : HeldEntry) (parts more : List Part) → Stands w s → (last : Last w s e) → open_stream s ≡ Some parts
    → growing_fault w.p s (w.dropped + (length w.entries - 1)) parts more (first_of e) (may_all_go w.p s w.dropped (take (length w.entries - 1) (window s)))
    ≡ first_where ((is_spent w.p (parts ++ more), Spent (length (written parts))) ∷ (is_crowded w.p s (parts ++ more), Full (first_kept s (last_index s))) ∷ [])
ruled w s e parts more stands last open_ =
    ap (λ i. growing_fault w.p s i parts more (first_of e) (may_all_go w.p s w.dropped (take (length w.entries - 1) (window s)))) last.index
    ∙ ap (λ n. growing_fault w.p s (last_index s) parts more n (may_all_go w.p s w.dropped (take (length w.entries - 1) (window s)))) (last.found.first ∙ ap (first_kept s) last.index)
    ∙ ap (λ d. growing_fault w.p s (last_index s) parts more (first_kept s (last_index s)) (may_all_go w.p s d (take (length w.entries - 1) (window s)))) (sym low)
    ∙ ap (λ n. growing_fault w.p s (last_index s) parts more (first_kept s (last_index s)) (may_all_go w.p s s.current.drop.index (take n (window s)))) (let z : length w.entries - 1 ≡ last_index s - s.current.drop.index = omega (arith, low, last.index) in z)
    ∙ as_ruled w.p s parts more open_
  where
    low : s.current.drop.index ≡ w.dropped
    low = Rattle.tx_window.proofs.KeptLemmas.dropped_is w s stands

two : (a b : Bool) (x y : StreamFault) → first_where ((a, OfStream x) ∷ (b, OfStream y) ∷ []) ≡ option_map OfStream (first_where ((a, x) ∷ (b, y) ∷ []))
unfolding first_where
two true b x y = refl
two false true x y = refl
two false false x y = refl

-- the faults behind those of sizes
abbrev pub stream_fault : Settings → SenderState → List Part → Option EnqueueFault
stream_fault p s parts = first_where (
    (is_none (open_stream s), NoStream)
    ∷ (is_spent p parts, OfStream (Spent (length (written (parts_now s)))))
    ∷ (is_crowded p s parts, OfStream (Full (first_kept s (last_index s))))
    ∷ []
    )

pub no_stream : (p : Settings) (s : SenderState) (parts : List Part) → open_stream s ≡ None → stream_fault p s parts ≡ Some NoStream
unfolding first_where
no_stream p s parts none = ap (λ (r : Option (List Part)). first_where ((is_none r, NoStream) ∷ (is_spent p parts, OfStream (Spent (length (written (parts_now s))))) ∷ (is_crowded p s parts, OfStream (Full (first_kept s (last_index s)))) ∷ [])) none

pub of_stream : (p : Settings) (s : SenderState) (parts more : List Part) → open_stream s ≡ Some parts → stream_fault p s (parts_now s ++ more)
    ≡ option_map OfStream (first_where ((is_spent p (parts ++ more), Spent (length (written parts))) ∷ (is_crowded p s (parts ++ more), Full (first_kept s (last_index s))) ∷ []))
unfolding first_where
of_stream p s parts more open_ =
    ap (λ (r : Option (List Part)). first_where ((is_none r, NoStream) ∷ (is_spent p (parts_now s ++ more), OfStream (Spent (length (written (parts_now s))))) ∷ (is_crowded p s (parts_now s ++ more), OfStream (Full (first_kept s (last_index s)))) ∷ [])) open_
    ∙ ap (λ (r : Option (List Part)). first_where ((is_spent p (unwrap_or r [] ++ more), OfStream (Spent (length (written (unwrap_or r []))))) ∷ (is_crowded p s (unwrap_or r [] ++ more), OfStream (Full (first_kept s (last_index s)))) ∷ [])) open_
    ∙ two (is_spent p (parts ++ more)) (is_crowded p s (parts ++ more)) (Spent (length (written parts))) (Full (first_kept s (last_index s)))

sizes_first : (a b : Bool) (x y : EnqueueFault) (rest : List (Bool × EnqueueFault)) → first_where ((a, x) ∷ (b, y) ∷ rest)
    ≡ (elim (first_where ((a, x) ∷ (b, y) ∷ [])) as (λ v. Option EnqueueFault) [ Some fault ↦ Some fault | None ↦ first_where rest ])
unfolding first_where
sizes_first true b x y rest = refl
sizes_first false true x y rest = refl
sizes_first false false x y rest = refl

pub write_by : (p : Settings) (s : SenderState) (octets : List ℕ) (parts : List Part) (sizes : Option EnqueueFault) → sizes ≡ write_size_fault p (length octets)
    → write_fault p s octets parts ≡ (elim sizes as (λ v. Option EnqueueFault) [ Some fault ↦ Some fault | None ↦ stream_fault p s parts ])
write_by p s octets parts sizes is =
    sizes_first (length octets == 0) (nat_lt ((p.blocks - 1) * p.b * p.e) (length octets)) Empty (TooBig (length octets)) _
    ∙ ap (λ (r : Option EnqueueFault). elim r as (λ v. Option EnqueueFault) [ Some fault ↦ Some fault | None ↦ stream_fault p s parts ]) (sym is)

-- ---- what a call answers

-- the last entry went on with these parts more, and the window stands for the state with them once it follows
pub record WentOn {X : Type 0} (w : WindowState) (s : SenderState) (new : List HeldEntry) (more : List Part) (value : List Part → X) (x : X) : Type 0 where
  pub now : HeldEntry
  pub parts : List Part
  pub some : 0 < length w.entries
  pub entries : new ≡ slice_set w.entries (length w.entries - 1) now
  pub opened : open_stream s ≡ Some parts
  pub free : stream_fault w.p s (parts_now s ++ more) ≡ None
  pub is : x ≡ value parts
  pub entry : StandsForEntry (reads_of w.ring w.p (w.dropped + (length w.entries - 1)) (Stream (parts ++ more)) s) now
  pub stands : Stands (gone_window w now (parts ++ more)) (grown w.p s (parts ++ more))

-- it was refused by this fault, or went on
abbrev pub Outcome : {X : Type 0} → WindowState → SenderState → List HeldEntry → List Part → (List Part → X) → Result X EnqueueFault → Type 0
Outcome w s new more value answer = MatchResult answer (λ x. WentOn w s new more value x) (λ fault. stream_fault w.p s (parts_now s ++ more) ≡ Some fault)

entry_outcome : {X : Type 0} (w : WindowState) (s : SenderState) (e now : HeldEntry) (new : List HeldEntry) (more : List Part) (value : List Part → X) (answer : Result X EnqueueFault) → Stands w s
    → 0 < length w.entries → slice_get w.entries (length w.entries - 1) ≡ Some e → 1 ≤ w.p.e → (last : Last w s e) → new ≡ slice_set w.entries (length w.entries - 1) now
    → EntryGoesOn w.ring w.p (w.dropped + (length w.entries - 1)) last.found.entry.object s more (may_all_go w.p s w.dropped (take (length w.entries - 1) (window s))) value e now answer
    → Outcome w s new more value answer
entry_outcome {X = X} w s e now new more value answer stands some there least last new-is goes = go (open_parts last.found.entry.object) refl goes
  where
    before : Bool
    before = may_all_go w.p s w.dropped (take (length w.entries - 1) (window s))

    Inner : List Part → Option StreamFault → Type 0
    Inner parts r = MatchOption r
        ((answer ≡ Ok (value parts)) × StandsForEntry (reads_of w.ring w.p (w.dropped + (length w.entries - 1)) (Stream (parts ++ more)) s) now
        × (first_of now ≡ max (first_of e) (least_kept w.p (used_segments w.p (parts ++ more)))))
        (λ fault. (answer ≡ Err (OfStream fault)) × (now ≡ e))

    refuse : (fault : EnqueueFault) → answer ≡ Err fault → stream_fault w.p s (parts_now s ++ more) ≡ Some fault → Outcome w s new more value answer
    refuse fault is found = subst (λ (a : Result X EnqueueFault). Outcome w s new more value a) (sym is) found

    inner : (parts : List Part) → open_parts last.found.entry.object ≡ Some parts → (r : Option StreamFault)
        → growing_fault w.p s (w.dropped + (length w.entries - 1)) parts more (first_of e) before ≡ r → Inner parts r → Outcome w s new more value answer
    inner parts open_ None fault-is is =
        let opened = last.opened ∙ open_ in
        subst (λ (a : Result X EnqueueFault). Outcome w s new more value a) (sym is.0) (record {
          now = now;
          parts = parts;
          some = some;
          entries = new-is;
          opened = opened;
          free = of_stream w.p s parts more opened ∙ ap (option_map OfStream) (sym (ruled w s e parts more stands last opened) ∙ fault-is);
          is = refl;
          entry = is.1;
          stands = went_on w s e now parts more stands some there least last open_ is.1 is.2;
        })
    inner parts open_ (Some fault) fault-is is =
        let opened = last.opened ∙ open_ in
        refuse (OfStream fault) is.0 (of_stream w.p s parts more opened ∙ ap (option_map OfStream) (sym (ruled w s e parts more stands last opened) ∙ fault-is))

    go : (r : Option (List Part)) → open_parts last.found.entry.object ≡ r
        → MatchOption r ((answer ≡ Err NoStream) × (now ≡ e)) (λ parts. Inner parts (growing_fault w.p s (w.dropped + (length w.entries - 1)) parts more (first_of e) before))
        → Outcome w s new more value answer
    go None open_ is = refuse NoStream is.0 (no_stream w.p s (parts_now s ++ more) (last.opened ∙ open_))
    go (Some parts) open_ is = inner parts open_ (growing_fault w.p s (w.dropped + (length w.entries - 1)) parts more (first_of e) before) refl is

pub outcome : {X : Type 0} (w : WindowState) (s : SenderState) (new : List HeldEntry) (more : List Part) (value : List Part → X) (answer : Result X EnqueueFault) → Stands w s → 1 ≤ w.p.e
    → LastGoesOn w.ring w.p w.dropped (window s) s more value w.entries new answer → Outcome w s new more value answer
outcome {X = X} w s new more value answer stands least goes = go (slice_get w.entries (length w.entries - 1)) refl goes
  where
    Goes : Option HeldEntry → Type 0
    Goes r = MatchOption r ((answer ≡ Err NoStream) × (new ≡ w.entries))
        (λ e. (entry : Entry) → slice_get (window s) (length w.entries - 1) ≡ Some entry → (now : HeldEntry) × (new ≡ slice_set w.entries (length w.entries - 1) now)
        × EntryGoesOn w.ring w.p (w.dropped + (length w.entries - 1)) entry.object s more (may_all_go w.p s w.dropped (take (length w.entries - 1) (window s))) value e now answer)

    go : (r : Option HeldEntry) → slice_get w.entries (length w.entries - 1) ≡ r → Goes r → Outcome w s new more value answer
    go None there is =
        subst (λ (a : Result X EnqueueFault). Outcome w s new more value a) (sym is.0)
        (no_stream w.p s (parts_now s ++ more) (none_open w s stands (empty w.entries there)))
      where
        empty : (es : List HeldEntry) → slice_get es (length es - 1) ≡ None → length es ≡ 0
        empty [] e = refl
        empty (x ∷ es) e = let there = get_some (length (x ∷ es) - 1) (x ∷ es) (omega arith) in absurd (never there.0 (sym e ∙ there.1))
          where
            never : (y : HeldEntry) → ◌≡◌ {A = Option HeldEntry} None (Some y) → ⊥
            never y f = cc
    go (Some e) there is =
        let some : 0 < length w.entries = omega (arith, slice_get_within w.entries (length w.entries - 1) e there) in
        let last = last_found w s e stands some there in
        let low = dropped_is w s stands in
        let at : slice_get (window s) (length w.entries - 1) ≡ Some last.found.entry =
        slice_get-drop s.current.drop.index s.current.order (length w.entries - 1) ∙ ap (λ d. slice_get s.current.order (d + (length w.entries - 1))) low ∙ last.found.there in
        let step = is last.found.entry at in
        entry_outcome w s e step.0 new more value answer stands some there least last step.1 step.2

-- ---- the calls

wrote_by : (p : Settings) (s : SenderState) (by : Origin) (octets : List ℕ) (r : Option EnqueueFault) → write_fault p s octets (parts_now s ++ Write by octets ∷ []) ≡ r
    → wrote p s by octets ≡ (elim r as (λ v. SenderState × Result Receipt EnqueueFault) [
      | Some fault ↦ (s, Err fault)
      | None ↦ (grown p s (parts_now s ++ Write by octets ∷ []), Ok (Wrote (last_index s) (length (written (parts_now s))) (length octets)))
    ])
wrote_by p s by octets r is = ap (λ (x : Option EnqueueFault). elim x as (λ v. SenderState × Result Receipt EnqueueFault) [
  | Some fault ↦ (s, Err fault)
  | None ↦ (grown p s (parts_now s ++ Write by octets ∷ []), Ok (Wrote (last_index s) (length (written (parts_now s))) (length octets)))
]) is

pub write_refused : (w : WindowState) (s : SenderState) (by : Origin) (octets : List ℕ) (fault : EnqueueFault) → Stands w s
    → write_fault w.p s octets (parts_now s ++ Write by octets ∷ []) ≡ Some fault → IsWritten w.p s by octets (Err fault) w
write_refused w s by octets fault stands is =
    let step = wrote_by w.p s by octets (Some fault) is in
    record {
      answers = ap (λ (x : SenderState × Result Receipt EnqueueFault). x.1) step;
      stands = subst (λ (x : SenderState × Result Receipt EnqueueFault). Stands w x.0) (sym step) stands;
    }

parts_are : (s : SenderState) (parts : List Part) → open_stream s ≡ Some parts → parts_now s ≡ parts
parts_are s parts is = ap (λ (r : Option (List Part)). unwrap_or r []) is

pub write_done : (w new : WindowState) (s : SenderState) (by : Origin) (octets : List ℕ) (es : List HeldEntry) (index offset : ℕ) (on : WentOn w s es (Write by octets ∷ []) (λ parts. length (written parts)) offset)
    → None ≡ write_size_fault w.p (length octets) → index ≡ last_index s → new ≡ gone_window w on.now (on.parts ++ Write by octets ∷ []) → IsWritten w.p s by octets (Ok (index, offset)) new
write_done w new s by octets es index offset on sizes index-is new-is =
    let step = wrote_by w.p s by octets None (write_by w.p s octets (parts_now s ++ Write by octets ∷ []) None sizes ∙ on.free) in
    let parts = parts_are s on.parts on.opened in
    record {
      answers =
          ap (λ (x : SenderState × Result Receipt EnqueueFault). x.1) step
          ∙ ap (λ (ps : List Part). Ok (Wrote (last_index s) (length (written ps)) (length octets))) parts
          ∙ ap (λ n. Ok (Wrote (last_index s) n (length octets))) (sym on.is)
          ∙ ap (λ n. Ok (Wrote n offset (length octets))) (sym index-is);
      stands = subst (λ (x : SenderState × Result Receipt EnqueueFault). Stands new x.0) (sym step)
          (subst (λ (ps : List Part). Stands new (grown w.p s (ps ++ Write by octets ∷ []))) (sym parts) (subst (λ (v : WindowState). Stands v (grown w.p s (on.parts ++ Write by octets ∷ []))) (sym new-is) on.stands));
    }

closed_by : (p : Settings) (s : SenderState) (r : Option EnqueueFault) → stream_fault p s (parts_now s ++ End ∷ []) ≡ r
    → closed p s ≡ (elim r as (λ v. SenderState × Result Receipt EnqueueFault) [ Some fault ↦ (s, Err fault) | None ↦ (grown p s (parts_now s ++ End ∷ []), Ok (Closed (last_index s))) ])
closed_by p s r is = ap (λ (x : Option EnqueueFault). elim x as (λ v. SenderState × Result Receipt EnqueueFault) [ Some fault ↦ (s, Err fault) | None ↦ (grown p s (parts_now s ++ End ∷ []), Ok (Closed (last_index s))) ]) is

pub close_refused : (w : WindowState) (s : SenderState) (fault : EnqueueFault) → Stands w s → stream_fault w.p s (parts_now s ++ End ∷ []) ≡ Some fault → IsClosed w.p s (Err fault) w
close_refused w s fault stands is =
    let step = closed_by w.p s (Some fault) is in
    record {
      answers = ap (λ (x : SenderState × Result Receipt EnqueueFault). x.1) step;
      stands = subst (λ (x : SenderState × Result Receipt EnqueueFault). Stands w x.0) (sym step) stands;
    }

pub close_done : {X : Type 0} (w new : WindowState) (s : SenderState) (es : List HeldEntry) (index : ℕ) (value : List Part → X) (x : X) (on : WentOn w s es (End ∷ []) value x)
    → index ≡ last_index s → new ≡ gone_window w on.now (on.parts ++ End ∷ []) → IsClosed w.p s (Ok index) new
close_done w new s es index value x on index-is new-is =
    let step = closed_by w.p s None on.free in
    let parts = parts_are s on.parts on.opened in
    record {
      answers = ap (λ (y : SenderState × Result Receipt EnqueueFault). y.1) step ∙ ap (λ n. Ok (Closed n)) (sym index-is);
      stands = subst (λ (y : SenderState × Result Receipt EnqueueFault). Stands new y.0) (sym step)
          (subst (λ (ps : List Part). Stands new (grown w.p s (ps ++ End ∷ []))) (sym parts) (subst (λ (v : WindowState). Stands v (grown w.p s (on.parts ++ End ∷ []))) (sym new-is) on.stands));
    }

-- ---- a stream that is opened

-- no segment is closed of a stream to which nothing was written
pub none_closed : (e : ℕ) → length (closed_from e [] []) ≡ 0
unfolding closed_from pieces
none_closed e = ap (λ n. length (pieces e n [])) (zero-div e)

first_none : (p : Settings) (index : ℕ) (sent : List Position) (stream : HeldState) → 1 ≤ p.b → Knows p index [] sent stream → stream.buffer.first ≡ 0
first_none p index sent stream some knows = zero_of stream.buffer.first p.b some (omega (
  arith,
  knows.buffer.within,
  Rattle.norm_order.proofs.StreamLemmas.length-placed 0 (closed_from p.e [] []),
  none_closed p.e,
))
  where
    zero_of : (a b : ℕ) → 1 ≤ b → a * b ≤ 0 → a ≡ 0
    zero_of zero b some le = refl
    zero_of (suc a) b some le = absurd (let more : suc a * b ≡ b + a * b = omega arith in omega (arith, more, some, le))

pub opened_shape : (p : Settings) → without_info (shape_of p (Stream [])) ≡ shape_of_extent p (extent.Stream 0)
opened_shape p = ap (λ n. (let s : Shape = record { cut = Rattle.fec_plan.specs.Partition.stream_cut p.e p.b p.max_n; closed = n; info = false } in s)) (none_closed p.e)

pub opened_last : (p : Settings) (index : ℕ) (found : Option Position) → found ≡ last_or (last_in index (shape_of p (Stream []))) found
opened_last p index found = sym (ap (λ (r : Option Position). last_or r found) (none_last p index [] (none_closed p.e)))

pub new_stream : (w : WindowState) (s : SenderState) (stream : HeldState) → Stands w s
    → ((index : ℕ) (sent : List Position) → ((at : Position) → is_member position_before at sent ≡ true → at.index ≡ index → ⊥) → Knows w.p index [] sent stream)
    → StandsForEntry (entry_reads w (reads s) (next_index s) (Stream [])) (held.Stream stream)
new_stream w s stream stands new = record {
  parts = [];
  object = refl;
  knows = new (next_index s) s.sent (λ at there same. absurd (omega (arith, same, stands.sent_before at there)));
}

pub first_new : (w : WindowState) (s : SenderState) (stream : HeldState) → Stands w s
    → ((index : ℕ) (sent : List Position) → ((at : Position) → is_member position_before at sent ≡ true → at.index ≡ index → ⊥) → Knows w.p index [] sent stream)
    → 1 ≤ w.p.b → stream.buffer.first ≡ 0
first_new w s stream stands new some =
    first_none w.p (next_index s) s.sent stream some (new (next_index s) s.sent (λ at there same. absurd (omega (arith, same, stands.sent_before at there))))

-- a stream without a fault is opened
pub opened_by : (p : Settings) (s : SenderState) (by : Origin) → Rattle.norm_send_rules.specs.Streaming.open_fault p s ≡ None
    → Rattle.norm_send_rules.specs.Streaming.opened p s by ≡ (Rattle.norm_send_rules.specs.Enqueuing.joined p by (Stream []) s, Ok (Rattle.norm_send_rules.specs.declared.job.Receipt.TheVariants.Opened (next_index s)))
opened_by p s by free =
    ap (λ (r : Option EnqueueFault). elim r as (λ v. SenderState × Result Receipt EnqueueFault) [
      | Some fault ↦ (s, Err fault)
      | None ↦ (Rattle.norm_send_rules.specs.Enqueuing.joined p by (Stream []) s, Ok (Rattle.norm_send_rules.specs.declared.job.Receipt.TheVariants.Opened (next_index s)))
    ]) free

-- ---- the calls that follow

pub last_there : (es : List HeldEntry) (n : ℕ) (now : HeldEntry) → n + 1 ≡ length es → slice_get (slice_set es n now) (length (slice_set es n now) - 1) ≡ Some now
last_there es n now long =
    ap (λ m. slice_get (slice_set es n now) m) (let z : length (slice_set es n now) - 1 ≡ n = omega (arith, long, length-set es n now) in z) ∙ at es n long
  where
    at : (xs : List HeldEntry) (m : ℕ) → m + 1 ≡ length xs → slice_get (slice_set xs m now) m ≡ Some now
    at [] m is = absurd (omega (arith, is))
    at (x ∷ xs) zero is = refl
    at (x ∷ xs) (suc m) is = at xs m (omega (arith, is))

-- where no stream is open nothing is cut
pub cut_none : (p : Settings) (s : SenderState) → open_stream s ≡ None → cut p s ≡ s
unfolding since_cut
cut_none p s none =
    ap (λ (ps : List Part). elim (unclosed p.e ps) as (λ v. SenderState) [ zero ↦ s | suc n ↦ with_parts (ps ++ Cut ∷ []) s ]) (ap (λ (r : Option (List Part)). unwrap_or r []) none)
    ∙ ap (λ n. elim n as (λ v. SenderState) [ zero ↦ s | suc m ↦ with_parts ([] ++ Cut ∷ []) s ]) (Rattle.std.proofs.Math.Nat.zero-mod p.e)

-- an order whose last entry is this object already
pub with_same : (order : List Entry) (n : ℕ) (entry : Entry) (object : Object) → n + 1 ≡ length order → slice_get order n ≡ Some entry → entry.object ≡ object → with_last object order ≡ order
with_same [] n entry object long is same = absurd (omega (arith, long))
with_same (x ∷ []) zero entry object long is same = ap (λ (o : Object). record x { object = o } ∷ []) (sym same ∙ ap (λ (e : Entry). e.object) (let z : entry ≡ x = cc in z))
with_same (x ∷ []) (suc n) entry object long is same = absurd (omega (arith, long))
with_same (x ∷ y ∷ order) zero entry object long is same = absurd (omega (arith, long))
with_same (x ∷ y ∷ order) (suc n) entry object long is same = ap (λ es. x ∷ es) (with_same (y ∷ order) n entry object (omega (arith, long)) is same)

-- the last entry was cut, and the window stands for the state after that
pub cut_on : (w : WindowState) (s : SenderState) (e now : HeldEntry) (parts : List Part) → Stands w s → 0 < length w.entries → slice_get w.entries (length w.entries - 1) ≡ Some e → 1 ≤ w.p.e
    → (last : Last w s e) → open_parts last.found.entry.object ≡ Some parts
    → StandsForEntry (reads_of w.ring w.p (w.dropped + (length w.entries - 1)) (Stream (with_cut w.p.e parts)) s) now → first_of now ≡ first_of e
    → Stands (gone_window w now (with_cut w.p.e parts)) (cut w.p s)
cut_on w s e now parts stands some there least last open_ is first =
    subst (λ (ps : List Part). Stands (gone_window w now (with_cut w.p.e parts)) (elim (unclosed w.p.e ps) as (λ v. SenderState) [ zero ↦ s | suc n ↦ with_parts (ps ++ Cut ∷ []) s ])) (sym now_is)
    (go (unclosed w.p.e parts) refl)
  where
    stream : (last.found.entry.object ≡ Stream parts) × (has_end parts ≡ false)
    stream = stream_is last.found.entry.object parts open_

    now_is : parts_now s ≡ parts
    now_is = parts_are s parts (last.opened ∙ open_)

    cut_by : ℕ → List Part
    cut_by n = elim n as (λ v. List Part) [ zero ↦ parts | suc m ↦ parts ++ Cut ∷ [] ]

    by : (ps : List Part) → with_cut w.p.e parts ≡ ps → (last_in (last_index s) (shape_of w.p (Stream ps)) ≡ None → last_in (last_index s) (shape_of w.p (Stream parts)) ≡ None)
        → Stands (gone_window w now (with_cut w.p.e parts)) (gone_on ps s.current.drop s)
    by ps same more = subst (λ (qs : List Part). Stands (gone_window w now (with_cut w.p.e parts)) (gone_on qs s.current.drop s)) same
        (stands_gone w s e now (Stream parts) (with_cut w.p.e parts) s.current.drop (record {
          stands = stands;
          some = some;
          found = there;
          here = last_shape w s e last ∙ ap (λ (o : Object). Some (shape_of w.p o)) stream.0;
          is = is;
          more = subst (λ (qs : List Part). last_in (last_index s) (shape_of w.p (Stream qs)) ≡ None → last_in (last_index s) (shape_of w.p (Stream parts)) ≡ None) (sym same) more;
          drop = same_drop w s e now stands some there first;
        }))

    go : (n : ℕ) → unclosed w.p.e parts ≡ n → Stands (gone_window w now (with_cut w.p.e parts)) (elim n as (λ v. SenderState) [ zero ↦ s | suc m ↦ with_parts (parts ++ Cut ∷ []) s ])
    go zero none =
        subst (λ (order : List Entry). Rattle.tx_window.specs.WindowState.StandsFor (gone_window w now (with_cut w.p.e parts)) (record (reads s) { order = order }))
        (with_same s.current.order (last_index s) last.found.entry (Stream parts) (omega (arith, stands.next, some)) (ap (slice_get s.current.order) (sym last.index) ∙ last.found.there) stream.0)
        (by parts (ap cut_by none) (λ e. e))
    go (suc n) more = by (parts ++ Cut ∷ []) (ap cut_by more) (none_before w.p (last_index s) parts (Cut ∷ []) least stream.1)

-- the last closed source symbol once the open stream is cut
pub last_if_cut : (w : WindowState) (s : SenderState) (e : HeldEntry) (parts : List Part) → Stands w s → 0 < length w.entries → 1 ≤ w.p.e
    → (last : Last w s e) → open_parts last.found.entry.object ≡ Some parts
    → last_from 0 None (shapes_of w.p (cut w.p s).current.order) ≡ last_or (last_in (last_index s) (shape_of w.p (Stream (with_cut w.p.e parts)))) w.last
last_if_cut w s e parts stands some least last open_ =
    subst (λ (ps : List Part). last_from 0 None (shapes_of w.p (elim (unclosed w.p.e ps) as (λ v. SenderState) [ zero ↦ s | suc n ↦ with_parts (ps ++ Cut ∷ []) s ]).current.order)
    ≡ last_or (last_in (last_index s) (shape_of w.p (Stream (with_cut w.p.e parts)))) w.last) (sym (parts_are s parts (last.opened ∙ open_)))
    (go (unclosed w.p.e parts) refl)
  where
    stream : (last.found.entry.object ≡ Stream parts) × (has_end parts ≡ false)
    stream = stream_is last.found.entry.object parts open_

    long : length s.current.order - 1 + 1 ≡ length s.current.order
    long = omega (arith, stands.next, some)

    at : 0 + (length s.current.order - 1) ≡ last_index s
    at = omega arith

    cut_by : ℕ → List Part
    cut_by n = elim n as (λ v. List Part) [ zero ↦ parts | suc m ↦ parts ++ Cut ∷ [] ]

    by : (ps : List Part) → (last_in (last_index s) (shape_of w.p (Stream ps)) ≡ None → last_in (last_index s) (shape_of w.p (Stream parts)) ≡ None)
        → last_from 0 None (shapes_of w.p (with_parts ps s).current.order) ≡ last_or (last_in (last_index s) (shape_of w.p (Stream ps))) w.last
    by ps more =
        ap (last_from 0 None) (last_set w.p (Stream ps) s.current.order)
        ∙ last_now 0 None (shapes_of w.p s.current.order) (length s.current.order - 1) (shape_of w.p (Stream parts)) (shape_of w.p (Stream ps))
        (omega (arith, long, length-map s.current.order (λ (x : Entry). shape_of w.p x.object)))
        (last_shape w s e last ∙ ap (λ (o : Object). Some (shape_of w.p o)) stream.0)
        (λ none. ap (λ i. last_in i (shape_of w.p (Stream parts))) at ∙ more (ap (λ i. last_in i (shape_of w.p (Stream ps))) (sym at) ∙ none))
        ∙ ap (λ i. last_or (last_in i (shape_of w.p (Stream ps))) (last_from 0 None (shapes_of w.p s.current.order))) at
        ∙ ap (last_or (last_in (last_index s) (shape_of w.p (Stream ps)))) stands.last

    go : (n : ℕ) → unclosed w.p.e parts ≡ n → last_from 0 None (shapes_of w.p (elim n as (λ v. SenderState) [ zero ↦ s | suc m ↦ with_parts (parts ++ Cut ∷ []) s ]).current.order)
        ≡ last_or (last_in (last_index s) (shape_of w.p (Stream (with_cut w.p.e parts)))) w.last
    go zero none =
        sym (ap (λ (order : List Entry). last_from 0 None (shapes_of w.p order))
        (with_same s.current.order (last_index s) last.found.entry (Stream parts) (omega (arith, stands.next, some)) (ap (slice_get s.current.order) (sym last.index) ∙ last.found.there) stream.0))
        ∙ by parts (λ e. e)
        ∙ ap (λ (ps : List Part). last_or (last_in (last_index s) (shape_of w.p (Stream ps))) w.last) (sym (ap cut_by none))
    go (suc n) more =
        by (parts ++ Cut ∷ []) (none_before w.p (last_index s) parts (Cut ∷ []) least stream.1)
        ∙ ap (λ (ps : List Part). last_or (last_in (last_index s) (shape_of w.p (Stream ps))) w.last) (sym (ap cut_by more))

-- so many segments have room either way
pub in_room : (n a b k : ℕ) → n ≤ a * k → n ≤ b * k → n ≤ min a b * k
in_room n a b k first second = go (cases_lt a b)
  where
    go : (a < b) ⊎ (b ≤ a) → n ≤ min a b * k
    go (inl lt) = subst (λ m. n ≤ m * k) (sym (let z : min a b ≡ a = omega (arith, lt) in z)) first
    go (inr le) = subst (λ m. n ≤ m * k) (sym (let z : min a b ≡ b = omega (arith, le) in z)) second

-- the parts of a stream that is open
pub open_is : (r : Option (List Part)) → is_some r ≡ true → (parts : List Part) × (r ≡ Some parts)
open_is None is = absurd (cc)
open_is (Some parts) is = (parts, refl)

-- ---- what follows

pub followed_kept : (w : WindowState) (e : HeldEntry) (shape : Shape) (xs : List Shape) (last : Option Position) → first_of e ≡ 0 → xs ≡ slice_set w.shapes (length w.shapes - 1) (without_info shape)
    → last ≡ last_or (last_in (w.dropped + (length w.entries - 1)) shape) w.last → (let v : WindowState = record w { shapes = xs; last = last } in v) ≡ followed e shape w
followed_kept w e shape xs last none xs-is last-is =
    ap (λ (ys : List Shape). (let v : WindowState = record w { shapes = ys; last = last } in v)) xs-is
    ∙ ap (λ (at : Option Position). (let v : WindowState = record w { shapes = slice_set w.shapes (length w.shapes - 1) (without_info shape); last = at } in v)) last-is
    ∙ sym (passed_over (nat_lt 0 (first_of e)) _ _ (le-ltb 0 (first_of e) (omega (arith, none))))

pub followed_gone : (w : WindowState) (e : HeldEntry) (shape : Shape) (es : List HeldEntry) (xs : List Shape) (last : Option Position) → 0 < first_of e → es ≡ drop (length w.entries - 1) w.entries
    → xs ≡ slice_set w.shapes (length w.shapes - 1) (without_info shape) → last ≡ last_or (last_in (w.dropped + (length w.entries - 1)) shape) w.last
    → (let v : WindowState = record w { dropped = w.dropped + (length w.entries - 1); entries = es; shapes = xs; last = last } in v) ≡ followed e shape w
followed_gone w e shape es xs last some es-is xs-is last-is =
    ap (λ (fs : List HeldEntry). (let v : WindowState = record w { dropped = w.dropped + (length w.entries - 1); entries = fs; shapes = xs; last = last } in v)) es-is
    ∙ ap (λ (ys : List Shape). (let v : WindowState = record w { dropped = w.dropped + (length w.entries - 1); entries = drop (length w.entries - 1) w.entries; shapes = ys; last = last } in v)) xs-is
    ∙ ap (λ (at : Option Position). (let v : WindowState = record w { dropped = w.dropped + (length w.entries - 1); entries = drop (length w.entries - 1) w.entries; shapes = slice_set w.shapes (length w.shapes - 1) (without_info shape); last = at } in v)) last-is
    ∙ sym (chosen (nat_lt 0 (first_of e)) _ _ (lt-ltb 0 (first_of e) some))

-- the shape of a stream, by how many of its segments are closed
pub stream_shape : (p q : Settings) (object : Object) (parts : List Part) (segments : ℕ) → q ≡ p → object ≡ Stream parts → segments ≡ (shape_of q object).closed
    → shape_of_extent p (extent.Stream segments) ≡ without_info (shape_of q object)
stream_shape p q object parts segments same is n =
    ap (λ m. shape_of_extent p (extent.Stream m)) (n ∙ ap (λ (o : Object). (shape_of q o).closed) is)
    ∙ ap (λ (x : Settings). (let s : Shape = record { cut = Rattle.fec_plan.specs.Partition.stream_cut x.e x.b x.max_n; closed = length (closed_from q.e [] parts); info = false } in s)) (sym same)
    ∙ ap (λ (o : Object). without_info (shape_of q o)) (sym is)

pub last_followed : (w : WindowState) (new : List HeldEntry) (now : HeldEntry) → 0 < length w.entries → new ≡ slice_set w.entries (length w.entries - 1) now → slice_get new (length new - 1) ≡ Some now
last_followed w new now some is =
    subst (λ (es : List HeldEntry). slice_get es (length es - 1) ≡ Some now) (sym is) (last_there w.entries (length w.entries - 1) now (let z : length w.entries - 1 + 1 ≡ length w.entries = omega (arith, some) in z))

-- the open stream was cut, and the window stands for the state after that once it follows
pub record WasCut (w : WindowState) (s : SenderState) (new : List HeldEntry) : Type 0 where
  pub now : HeldEntry
  pub parts : List Part
  pub some : 0 < length w.entries
  pub entries : new ≡ slice_set w.entries (length w.entries - 1) now
  pub entry : StandsForEntry (reads_of w.ring w.p (w.dropped + (length w.entries - 1)) (Stream (with_cut w.p.e parts)) s) now
  pub stands : Stands (gone_window w now (with_cut w.p.e parts)) (cut w.p s)

pub cut_outcome : (w : WindowState) (s : SenderState) (new : List HeldEntry) → Stands w s → 1 ≤ w.p.e → is_some (open_stream s) ≡ true → LastIsCut w.entries new → WasCut w s new
cut_outcome w s new stands least opened cuts = go (slice_get w.entries (length w.entries - 1)) refl cuts
  where
    Cuts : Option HeldEntry → Type 0
    Cuts r = MatchOption r (new ≡ w.entries)
        (λ e. (now : HeldEntry) × (new ≡ slice_set w.entries (length w.entries - 1) now) × KeepsObject e now × (first_of now ≡ first_of e)
        × ((r : EntryReads) (parts : List Part) → StandsForEntry r e → r.object ≡ Stream parts → StandsForEntry (record r { object = Stream (with_cut r.p.e parts) }) now))

    never : (e : HeldEntry) → ◌≡◌ {A = Option HeldEntry} None (Some e) → ⊥
    never e f = cc

    inner : (e : HeldEntry) → slice_get w.entries (length w.entries - 1) ≡ Some e → Cuts (Some e) → (some : 0 < length w.entries) → (last : Last w s e) → (r : Option (List Part))
        → open_parts last.found.entry.object ≡ r → is_some r ≡ true → WasCut w s new
    inner e there is some last None open_ e-some = absurd (cc)
    inner e there is some last (Some parts) open_ e-some =
        let stream = stream_is last.found.entry.object parts open_ in
        let entry = is.4 (entry_reads w (reads s) (w.dropped + (length w.entries - 1)) last.found.entry.object) parts last.found.stands stream.0 in
        record {
          now = is.0;
          parts = parts;
          some = some;
          entries = is.1;
          entry = entry;
          stands = cut_on w s e is.0 parts stands some there least last open_ entry is.3;
        }

    go : (r : Option HeldEntry) → slice_get w.entries (length w.entries - 1) ≡ r → Cuts r → WasCut w s new
    go None there is = absurd (clash (open_stream s) (none_open w s stands (empty w.entries there)) opened)
      where
        clash : (o : Option (List Part)) → o ≡ None → is_some o ≡ true → ⊥
        clash None e f = cc
        clash (Some ps) e f = cc

        empty : (es : List HeldEntry) → slice_get es (length es - 1) ≡ None → length es ≡ 0
        empty [] e = refl
        empty (x ∷ es) e = let there = get_some (length (x ∷ es) - 1) (x ∷ es) (omega arith) in absurd (never there.0 (sym e ∙ there.1))
    go (Some e) there is =
        let some : 0 < length w.entries = omega (arith, slice_get_within w.entries (length w.entries - 1) e there) in
        let last = last_found w s e stands some there in
        inner e there is some last (open_parts last.found.entry.object) refl (ap is_some (sym last.opened) ∙ opened)
