-- What is shown of a text that comes in pieces.
use Rattle.std.proofs.Common.{◌≡◌, ℕ, ◌+◌, ◌<◌, ◌||◌, Bool, true, false, cond, List, [], ◌∷◌, ◌++◌, length, Option, Some, None, refl, sym, ap, subst, ◌∙◌, arith, append_assoc, append-nil, length-append}
use Rattle.std.proofs.lemmas.Bool.{lt-leb}
use Rattle.std.specs.Prelude.{is_err, IfSome}
use Rattle.std.specs.Result.{result_ok}
use Rattle.hex.specs.Hex.{decode_of}
use Rattle.norm_base.specs.Told.{Pieces, gained, GainsFront, before_taking}
use Rattle.norm_ext.specs.Reading.{decoded}
use Rattle.norm_script.specs.Text.{text_lines, split_at_first}
use Rattle.norm_script.proofs.LineLemmas.{text_whole}
use Rattle.norm_show.specs.Line.{line_of}
use Rattle.norm_show.specs.Showing.{Showing, beside, datagram_in, why_short, why_none, shown_or_stops, line_shown, lines_shown, nothing_shown}
use Rattle.norm_show.specs.Progress.{Progress, progress_opening, shown_from, Shows, ShowsLine, ShowsEnd, Leaves, ShowsAll, ShowsUpTo, ShowsLess}
use Rattle.norm_show.specs.declared.fault.NoDatagram.TheVariants.{Long}
use Rattle.norm_show.specs.declared.fault.ShowFault.{ShowFault}
use Rattle.norm_show.specs.declared.fault.ShowFault.TheVariants as fault
use Rattle.norm_show.proofs.SplitLemmas.{line_ends, goes_on_with, none-append}

pub gained-nil : (u : Pieces) → u ≡ gained u []
gained-nil None = refl
gained-nil (Some xs) = ap (λ (t : List (List ℕ)). Some t) (sym (append-nil xs))

pub gained-gained : (u : Pieces) (a b : List (List ℕ)) → gained (gained u a) b ≡ gained u (a ++ b)
gained-gained None a b = refl
gained-gained (Some xs) a b = ap (λ (t : List (List ℕ)). Some t) (append_assoc xs a b)

or-assoc : (a b c : Bool) → (a || (b || c)) ≡ ((a || b) || c)
or-assoc true b c = refl
or-assoc false b c = refl

or-nil : (a : Bool) → (a || false) ≡ a
or-nil true = refl
or-nil false = refl

-- ---- one line

-- a datagram's line was written
pub shows-datagram : (n x : ℕ) (xs octets : List ℕ) (refused : Bool) (u w : Pieces) → Some octets ≡ datagram_in (x ∷ xs) → refused ≡ is_err (decoded octets)
    → w ≡ gained u (line_of (decoded octets) ∷ []) → ShowsLine n (x ∷ xs) refused u w
shows-datagram n x xs octets refused u w spelled is written =
    record {
      lines = line_of (decoded octets) ∷ [];
      is = λ s. ap (λ o. shown_or_stops n (why_none (x ∷ xs)) o s) (sym spelled) ∙ ap (λ b. beside (line_of (decoded octets) ∷ []) b s) (sym is);
      output = written;
    }

-- a datagram's line was not written whole
pub leaves-datagram : (n : ℕ) (line octets : List ℕ) (u w : Pieces) → 0 < length line → Some octets ≡ datagram_in line
    → GainsFront u w (line_of (decoded octets)) → (s : Showing) → Leaves fault.Write u w (line_shown n line s)
leaves-datagram n [] octets u w some spelled front s = absurd (omega (arith, some))
leaves-datagram n (x ∷ xs) octets u w some spelled front s =
    let it : GainsFront (gained u []) w (line_of (decoded octets)) = rw (← gained-nil u) front in
    let why = why_none (x ∷ xs) in
    let same : shown_or_stops n why (Some octets) s ≡ shown_or_stops n why (datagram_in (x ∷ xs)) s = ap (λ o. shown_or_stops n why o s) spelled in
    ([], line_of (decoded octets), s.lines, ap (λ (t : Showing). t.lines) (sym same), it)

-- a line that is too long spells no datagram
pub stops-line : (n x : ℕ) (xs : List ℕ) (s : Showing) → 3000 < length (x ∷ xs) → line_shown n (x ∷ xs) s ≡ record { lines = []; refused = false; stop = Some (n, Long) }
stops-line n x xs s long =
    ap (λ (b : Bool). shown_or_stops n (cond b (why_short (x ∷ xs)) Long) (cond b (result_ok (decode_of (x ∷ xs))) None) s) (lt-leb (length (x ∷ xs)) 3000 long)

-- ---- faults

pub leaves-kept : (why : ShowFault) (refused : Bool) (u w : Pieces) (s : Showing) → Leaves why u w s → Leaves why u w (beside [] refused s)
leaves-kept (fault.Line n why) refused u w s h = h
leaves-kept fault.Write refused u w s h = h
leaves-kept fault.Memory refused u w s h = h
leaves-kept fault.Read refused u w s h = h

-- what is left behind lines that were written
pub leaves-later : (why : ShowFault) (lines : List (List ℕ)) (refused : Bool) (u v w : Pieces) (s : Showing) → v ≡ gained u lines → Leaves why v w s
    → Leaves why u w (beside lines refused s)
leaves-later (fault.Line n why) lines refused u v w s written h =
    (h.0, h.1 ∙ ap (λ (p : Pieces). gained p s.lines) written ∙ gained-gained u lines s.lines)
leaves-later fault.Write lines refused u v w s written h =
    let place : gained v h.0 ≡ gained u (lines ++ h.0) = ap (λ (p : Pieces). gained p h.0) written ∙ gained-gained u lines h.0 in
    let P : Pieces → Type 0 = λ p. GainsFront p w h.1 in (
      lines ++ h.0,
      h.1,
      h.2,
      ap (λ (t : List (List ℕ)). lines ++ t) h.3 ∙ sym (append_assoc lines h.0 (h.1 ∷ h.2)),
      subst P place h.4,
    )
leaves-later fault.Memory lines refused u v w s written h = (
  lines ++ h.0,
  h.1,
  ap (λ (t : List (List ℕ)). lines ++ t) h.2 ∙ sym (append_assoc lines h.0 h.1),
  h.3 ∙ ap (λ (p : Pieces). gained p h.0) written ∙ gained-gained u lines h.0,
)
leaves-later fault.Read lines refused u v w s written h = h

-- a fault behind a part that was shown
pub leaves-behind : (why : ShowFault) (old : Progress) (whole : List ℕ) (new : Progress) (left : List ℕ) (u v w : Pieces) → Shows old whole new left u v
    → ((more : List ℕ) → Leaves why v w (shown_from new (left ++ more))) → (more : List ℕ) → Leaves why u w (shown_from old (whole ++ more))
leaves-behind why old whole new left u v w shows leaves more =
    let P : Showing → Type 0 = λ s. Leaves why u w s in
    subst P (sym (shows.goes_on more)) (leaves-later why shows.lines false u v w (shown_from new (left ++ more)) shows.output (leaves more))

-- a piece with a front cut off, seen from it
pub leaves-cut : (why : ShowFault) (p : Progress) (left front behind : List ℕ) (u w : Pieces) → left ≡ front ++ behind
    → ((more : List ℕ) → Leaves why u w (shown_from p (front ++ more))) → (more : List ℕ) → Leaves why u w (shown_from p (left ++ more))
leaves-cut why p left front behind u w parts leaves more =
    let P : List ℕ → Type 0 = λ t. Leaves why u w (shown_from p t) in
    subst P (sym (ap (λ (t : List ℕ). t ++ more) parts ∙ append_assoc front behind more)) (leaves (behind ++ more))

-- ---- pieces

pub shows-start : (p : Progress) (piece : List ℕ) (u : Pieces) → Shows p piece p piece u u
shows-start p piece u = record { lines = []; goes_on = λ more. refl; output = gained-nil u }

-- what is left of a piece was shown up to a place
pub shows-on : (old : Progress) (whole : List ℕ) (now : Progress) (left front behind : List ℕ) (new : Progress) (u v w : Pieces) → Shows old whole now left u v
    → left ≡ front ++ behind → Shows now front new [] v w → Shows old whole new behind u w
shows-on old whole now left front behind new u v w a parts b =
    record {
      lines = a.lines ++ b.lines;
      goes_on = λ more.
          a.goes_on more
          ∙ ap (λ (t : List ℕ). beside a.lines false (shown_from now t)) (ap (λ (t : List ℕ). t ++ more) parts ∙ append_assoc front behind more)
          ∙ ap (beside a.lines false) (b.goes_on (behind ++ more))
          ∙ ap (λ (t : List (List ℕ)). record { lines = t; refused = (shown_from new (behind ++ more)).refused; stop = (shown_from new (behind ++ more)).stop })
          (sym (append_assoc a.lines b.lines (shown_from new (behind ++ more)).lines));
      output = b.output ∙ ap (λ (p : Pieces). gained p b.lines) a.output ∙ gained-gained u a.lines b.lines;
    }

-- ---- the end of a line

ended-from : (p : Progress) (more : List ℕ) → split_at_first 10 p.rest ≡ None
    → shown_from p (10 ∷ more) ≡ beside [] p.refused (line_shown p.number p.rest (lines_shown (p.number + 1) (text_lines more)))
ended-from p more none = ap (λ (t : List (List ℕ)). beside [] p.refused (lines_shown p.number t)) (line_ends p.rest more none)

pub shows-ended : (p : Progress) (line rest : List ℕ) (refused after : Bool) (u w : Pieces) → line ≡ p.rest → split_at_first 10 p.rest ≡ None → rest ≡ []
    → after ≡ (p.refused || refused) → ShowsLine p.number line refused u w → Shows p (10 ∷ []) (record { rest = rest; number = p.number + 1; refused = after }) [] u w
shows-ended p line rest refused after u w same none empty both shows =
    record {
      lines = shows.lines;
      goes_on = λ more.
          let others : Showing = lines_shown (p.number + 1) (text_lines more) in
          let next : Progress = record { rest = rest; number = p.number + 1; refused = after } in
          ended-from p more none
          ∙ ap (λ (t : List ℕ). beside [] p.refused (line_shown p.number t others)) (sym same)
          ∙ ap (beside [] p.refused) (shows.is others)
          ∙ ap (λ (b : Bool). record { lines = shows.lines ++ others.lines; refused = b; stop = others.stop }) (or-assoc p.refused refused others.refused)
          ∙ ap (λ (b : Bool). record { lines = shows.lines ++ others.lines; refused = b || others.refused; stop = others.stop }) (sym both)
          ∙ ap (λ (t : List ℕ). beside shows.lines false (beside [] after (lines_shown (p.number + 1) (text_lines (t ++ more))))) (sym empty);
      output = shows.output;
    }

pub leaves-ended : (why : ShowFault) (p : Progress) (line : List ℕ) (u w : Pieces) → line ≡ p.rest → split_at_first 10 p.rest ≡ None
    → ((s : Showing) → Leaves why u w (line_shown p.number line s)) → (more : List ℕ) → Leaves why u w (shown_from p (10 ∷ more))
leaves-ended why p line u w same none leaves more =
    let others : Showing = lines_shown (p.number + 1) (text_lines more) in
    let P : Showing → Type 0 = λ s. Leaves why u w s in
    subst P (sym (ended-from p more none ∙ ap (λ (t : List ℕ). beside [] p.refused (line_shown p.number t others)) (sym same)))
    (leaves-kept why p.refused u w (line_shown p.number line others) (leaves others))

-- ---- a line that is too long, whatever follows

too-long : (n : ℕ) (xs more : List ℕ) → split_at_first 10 xs ≡ None → 3000 < length xs
    → lines_shown n (text_lines (xs ++ more)) ≡ record { lines = []; refused = false; stop = Some (n, Long) }
too-long n [] more none long = absurd (omega (arith, long))
too-long n (x ∷ xs) more none long =
    let g = goes_on_with x xs more none in
    ap (lines_shown n) g.is ∙ stops-line n x (xs ++ g.tail) (lines_shown (n + 1) g.others) (omega (arith, long, length-append xs g.tail))

pub leaves-long : (p : Progress) (front : List ℕ) → split_at_first 10 p.rest ≡ None → split_at_first 10 front ≡ None → 3000 < length p.rest + length front
    → (u : Pieces) (more : List ℕ) → Leaves (fault.Line p.number Long) u u (shown_from p (front ++ more))
leaves-long p front none front-none long u more =
    let xs : List ℕ = p.rest ++ front in
    let is = too-long p.number xs more (none-append p.rest front none front-none) (omega (arith, long, length-append p.rest front)) in
    let P : Showing → Type 0 = λ s. Leaves (fault.Line p.number Long) u u (beside [] p.refused s) in
    subst P (sym (ap (λ (t : List ℕ). lines_shown p.number (text_lines t)) (sym (append_assoc p.rest front more)) ∙ is)) (refl, gained-nil u)

-- ---- the last line

last-line : (n : ℕ) (xs : List ℕ) → split_at_first 10 xs ≡ None → lines_shown n (text_lines (xs ++ [])) ≡ line_shown n xs nothing_shown
last-line n [] none = refl
last-line n (x ∷ xs) none =
    ap (λ (t : List ℕ). lines_shown n (text_lines t)) (append-nil (x ∷ xs)) ∙ ap (lines_shown n) (text_whole (x ∷ xs) (omega arith) none)

last-from : (p : Progress) (line : List ℕ) → line ≡ p.rest → split_at_first 10 p.rest ≡ None
    → shown_from p [] ≡ beside [] p.refused (line_shown p.number line nothing_shown)
last-from p line same none =
    ap (beside [] p.refused) (last-line p.number p.rest none) ∙ ap (λ (t : List ℕ). beside [] p.refused (line_shown p.number t nothing_shown)) (sym same)

pub shows-end : (p : Progress) (line : List ℕ) (refused after : Bool) (u w : Pieces) → line ≡ p.rest → split_at_first 10 p.rest ≡ None
    → after ≡ (p.refused || refused) → ShowsLine p.number line refused u w → ShowsEnd p after u w
shows-end p line refused after u w same none both shows =
    let is : shown_from p [] ≡ beside [] p.refused (beside shows.lines refused nothing_shown) =
    last-from p line same none ∙ ap (beside [] p.refused) (shows.is nothing_shown) in
    record {
      whole = ap (λ (s : Showing). s.stop) is;
      is_refused = both ∙ ap (λ (b : Bool). p.refused || b) (sym (or-nil refused)) ∙ sym (ap (λ (s : Showing). s.refused) is);
      output = shows.output ∙ ap (gained u) (sym (append-nil shows.lines)) ∙ sym (ap (λ (s : Showing). gained u s.lines) is);
    }

pub leaves-end : (why : ShowFault) (p : Progress) (line : List ℕ) (u w : Pieces) → line ≡ p.rest → split_at_first 10 p.rest ≡ None
    → ((s : Showing) → Leaves why u w (line_shown p.number line s)) → Leaves why u w (shown_from p [])
leaves-end why p line u w same none leaves =
    let P : Showing → Type 0 = λ s. Leaves why u w s in
    subst P (sym (last-from p line same none)) (leaves-kept why p.refused u w (line_shown p.number line nothing_shown) (leaves nothing_shown))

-- ---- the input

-- what was read so far was shown, but for the beginning of the next line
pub record ReadSoFar (before after : Option (List ℕ)) (p : Progress) (u w : Pieces) : Type 0 where
  pub read : List ℕ
  pub taken : before ≡ before_taking read after
  pub shows : Shows progress_opening read p [] u w

taking-append : (a b : List ℕ) (rest : Option (List ℕ)) → before_taking a (before_taking b rest) ≡ before_taking (a ++ b) rest
taking-append a b None = refl
taking-append a b (Some rest) = ap (λ (t : List ℕ). Some t) (sym (append_assoc a b rest))

pub nothing-read : (left : Option (List ℕ)) (u : Pieces) → ReadSoFar left left progress_opening u u
nothing-read None u = record { read = []; taken = refl; shows = shows-start progress_opening [] u }
nothing-read (Some octets) u = record { read = []; taken = refl; shows = shows-start progress_opening [] u }

-- one more piece was read
more-taken : (before middle after : Option (List ℕ)) (read piece : List ℕ) → before ≡ before_taking read middle → middle ≡ before_taking piece after
    → before ≡ before_taking (read ++ piece) after
more-taken before middle after read piece first second = first ∙ ap (before_taking read) second ∙ taking-append read piece after

-- with a piece behind it that is not shown yet
longer : (p q : Progress) (read piece : List ℕ) (u w : Pieces) → Shows p read q [] u w → Shows p (read ++ piece) q piece u w
longer p q read piece u w shows =
    record {
      lines = shows.lines;
      goes_on = λ more. ap (shown_from p) (append_assoc read piece more) ∙ shows.goes_on (piece ++ more);
      output = shows.output;
    }

pub piece-read : (before middle after : Option (List ℕ)) (p q : Progress) (piece : List ℕ) (u v w : Pieces) → ReadSoFar before middle p u v
    → middle ≡ before_taking piece after → Shows p piece q [] v w → ReadSoFar before after q u w
piece-read before middle after p q piece u v w s taken shows =
    record {
      read = s.read ++ piece;
      taken = more-taken before middle after s.read piece s.taken taken;
      shows = shows-on progress_opening (s.read ++ piece) p piece piece [] q u v w (longer progress_opening p s.read piece u v s.shows) (sym (append-nil piece)) shows;
    }

-- what is left, where it is told
abbrev rest_of : Option (List ℕ) → List ℕ
rest_of None = []
rest_of (Some rest) = rest

rest_follows : (after : Option (List ℕ)) → IfSome after (λ rest. rest ≡ rest_of after)
rest_follows None = tt
rest_follows (Some rest) = refl

-- a fault within a piece that was read
pub piece-left : (why : ShowFault) (before middle after : Option (List ℕ)) (p : Progress) (piece : List ℕ) (u v w : Pieces) → ReadSoFar before middle p u v
    → middle ≡ before_taking piece after → ((more : List ℕ) → Leaves why v w (shown_from p (piece ++ more))) → ShowsUpTo why before after u w
piece-left why before middle after p piece u v w s taken leaves =
    record {
      read = s.read ++ piece;
      taken = more-taken before middle after s.read piece s.taken taken;
      more = rest_of after;
      follows = rest_follows after;
      leaves = leaves-behind why progress_opening (s.read ++ piece) p piece u v w (longer progress_opening p s.read piece u v s.shows) leaves (rest_of after);
    }

-- nothing follows what was read
end-reached : (p q : Progress) (read : List ℕ) (u v : Pieces) (s : Shows p read q [] u v) → shown_from p read ≡ beside s.lines false (shown_from q [])
end-reached p q read u v s = ap (shown_from p) (sym (append-nil read)) ∙ s.goes_on []

pub all-read : (refused : Bool) (before middle after : Option (List ℕ)) (p : Progress) (none : List ℕ) (u v w : Pieces) → ReadSoFar before middle p u v
    → middle ≡ before_taking none after → none ≡ [] → IfSome after (λ rest. rest ≡ []) → ShowsEnd p refused v w → ShowsAll refused before after u w
all-read refused before middle after p none u v w s taken empty ended shows =
    let is = end-reached progress_opening p s.read u v s.shows in
    let same : s.read ++ none ≡ s.read = ap (λ (t : List ℕ). s.read ++ t) empty ∙ append-nil s.read in
    record {
      read = s.read;
      taken = more-taken before middle after s.read none s.taken taken ∙ ap (λ (t : List ℕ). before_taking t after) same;
      ended = ended;
      whole = ap (λ (t : Showing). t.stop) is ∙ shows.whole;
      is_refused = shows.is_refused ∙ sym (ap (λ (t : Showing). t.refused) is);
      output = shows.output ∙ ap (λ (q : Pieces). gained q (shown_from p []).lines) s.shows.output ∙ gained-gained u s.shows.lines (shown_from p []).lines
          ∙ sym (ap (λ (t : Showing). gained u t.lines) is);
    }

-- a fault in the last line
pub all-left : (why : ShowFault) (before middle after : Option (List ℕ)) (p : Progress) (none : List ℕ) (u v w : Pieces) → ReadSoFar before middle p u v
    → middle ≡ before_taking none after → none ≡ [] → IfSome after (λ rest. rest ≡ []) → Leaves why v w (shown_from p []) → ShowsUpTo why before after u w
all-left why before middle after p none u v w s taken empty ended leaves =
    let same : s.read ++ none ≡ s.read = ap (λ (t : List ℕ). s.read ++ t) empty ∙ append-nil s.read in
    let P : Showing → Type 0 = λ t. Leaves why u w t in
    record {
      read = s.read;
      taken = more-taken before middle after s.read none s.taken taken ∙ ap (λ (t : List ℕ). before_taking t after) same;
      more = [];
      follows = ended;
      leaves = subst P (sym (s.shows.goes_on [])) (leaves-later why s.shows.lines false u v w (shown_from p []) s.shows.output leaves);
    }

-- each fault of these is none of reading
pub less : (why : ShowFault) (before after : Option (List ℕ)) (u w : Pieces) → ShowsUpTo why before after u w → ShowsLess why before after u w
less (fault.Line n why) before after u w shows = shows
less fault.Write before after u w shows = shows
less fault.Memory before after u w shows = shows
less fault.Read before after u w shows = absurd shows.leaves
