-- The tails of a session: their lines, one tail, all tails, and what they leave.
use Rattle.std.proofs.Common.{◌≡◌, ◌∙◌, sym, ap, subst, refl, arith, ℕ, zero, suc, ◌+◌, ◌*◌, ◌-◌, ◌<◌, ◌≤◌, ◌≢◌, List, [], ◌∷◌, ◌++◌, length, take, drop, get_or, fold, Bool, true, false, Option, None, Some, append_assoc, is_some}
use Rattle.std.specs.Option.{option_map, option_to_list}
use Rattle.std.proofs.lemmas.List.{append-nil, take_more, take-append-drop, take_all}
use Rattle.std.proofs.lemmas.List.Concat.{flat_map-append}
use Rattle.std.proofs.lemmas.Option.{none-some}
use Rattle.rand_pcg.specs.Lcg.{Lcg}
use Rattle.mark_book.specs.Answers.{open_watermark}
use Rattle.norm_base.specs.Settings.{Settings}
use Rattle.norm_base.specs.Told.{Pieces, gained}
use Rattle.norm_journal.specs.Judged.{Judged}
use Rattle.norm_journal.specs.Lines.{end_line}
use Rattle.norm_safety.specs.Recovery.{IsOldest}
use Rattle.norm_safety.specs.Tail.{TailRefusal, tail_fault}
use Rattle.norm_safety.specs.World.{World}
use Rattle.norm_safety.proofs.TailLemmas.{tail_laws}
use Rattle.norm_send_rules.specs.SenderState.{SenderState, Watermark}
use Rattle.norm_send_rules.specs.Watermarks.{oldest, open_watermarks}
use Rattle.norm_sender.specs.SenderKept.{Stands}
use Rattle.norm_session.specs.Pausing.{IsReadOff, has_commands}
use Rattle.norm_session.specs.declared.pausing.Paused.{Paused}
use Rattle.norm_tail.specs.Beginning.{refusal_of}
use Rattle.norm_tail.specs.Ending.{IsTail, MakesTail, tail_in}
use Rattle.norm_tail.specs.Steps.{steps_of}
use Rattle.norm_tail.specs.declared.fault.TailFault.{TailFault}
use Rattle.norm_tail.specs.declared.fault.TailFault.TheVariants as unmade
use Rattle.norm_tail.specs.declared.step.TailStep.{TailStep}
use Rattle.norm_turns.specs.Printing.{IsUnwritten}
use Rattle.norm_turns.specs.declared.fault.SessionFault.{SessionFault}
use Rattle.norm_turns.specs.declared.fault.SessionFault.TheVariants as fault
use Rattle.norm_session.proofs.SoFarLemmas.{gained-nil, gained-gained}
use Rattle.norm_world.specs.WorldKept.{WorldKept, IsReady, StandsFor}
use Rattle.driven_nodes.specs.Writing.{LeavesLines}
use Rattle.norm_endings.specs.declared.status.Ending.TheVariants.{Done}
use Rattle.norm_endings.specs.declared.status.NoTail.{NoTail}
use Rattle.norm_program.specs.TailEnds.{TailsSoFar, Made, step_line, lines_of, with_step, with_tail, with_tail_of, tail_unless, tail_once, has_open, tails_from, tails_of, no_tail, no_tails, refused_after, going_on_if, going_on, last_line, ending_of, lines_with, ending_if, ending_after, lines_if, lines_after}
use Rattle.norm_program.specs.Tailing.{MayGoOn, AreMade, IsTurned}
use Rattle.norm_program.specs.declared.tail.Tails.{Tails}
use Rattle.norm_program.specs.declared.tail.Turned.{Turned}
use Rattle.driven_nodes.proofs.WritingLemmas.{leaves_more, leaves_after, leaves_same, leaves_one, wants_memory}

abbrev Lines : Type 0
Lines = List (List ℕ)

-- ---- the lines of a tail

lines_more : (s : SenderState) (steps : List TailStep) (i : ℕ) (x : TailStep) → i < length steps → x ≡ get_or steps i x
    → lines_of s (take (i + 1) steps) ≡ lines_of s (take i steps) ++ option_to_list (step_line s x)
lines_more s steps i x lt is =
    ap (lines_of s) (take_more steps i x lt ∙ ap (λ y. take i steps ++ y ∷ []) (sym is))
    ∙ flat_map-append (λ told. option_to_list (step_line s told)) (take i steps) (x ∷ [])
    ∙ ap (λ ls. lines_of s (take i steps) ++ ls) (append-nil (option_to_list (step_line s x)))

pub steps_on : (s : SenderState) (steps : List TailStep) (i : ℕ) (x : TailStep) (u v w : Pieces) → i < length steps → x ≡ get_or steps i x
    → v ≡ gained u (lines_of s (take i steps)) → w ≡ gained v (option_to_list (step_line s x)) → w ≡ gained u (lines_of s (take (i + 1) steps))
steps_on s steps i x u v w lt is so_far one =
    one ∙ ap (λ y. gained y (option_to_list (step_line s x))) so_far ∙ gained-gained u (lines_of s (take i steps)) (option_to_list (step_line s x))
    ∙ ap (gained u) (sym (lines_more s steps i x lt is))

pub steps_stop : (f : SessionFault) (s : SenderState) (steps : List TailStep) (i : ℕ) (x : TailStep) (u v w : Pieces) → i < length steps
    → x ≡ get_or steps i x → v ≡ gained u (lines_of s (take i steps)) → IsUnwritten f v w (step_line s x) → LeavesLines f u w (lines_of s steps)
steps_stop f s steps i x u v w lt is so_far un =
    let one = leaves_after f u v w (lines_of s (take i steps)) (option_to_list (step_line s x)) so_far (leaves_one f v w (step_line s x) un) in
    let so = leaves_same f u w _ (lines_of s (take (i + 1) steps)) (sym (lines_more s steps i x lt is)) one in
    leaves_same f u w _ (lines_of s steps)
    (sym (flat_map-append (λ told. option_to_list (step_line s told)) (take (i + 1) steps) (drop (i + 1) steps))
    ∙ ap (lines_of s) (take-append-drop (i + 1) steps))
    (leaves_more f u w (lines_of s (take (i + 1) steps)) (lines_of s (drop (i + 1) steps)) so)

pub steps_all : (s : SenderState) (steps : List TailStep) (i : ℕ) (u w : Pieces) → length steps ≤ i → w ≡ gained u (lines_of s (take i steps))
    → w ≡ gained u (lines_of s steps)
steps_all s steps i u w past so_far = so_far ∙ ap (λ ys. gained u (lines_of s ys)) (take_all i steps past)

-- ---- one tail

-- whether a watermark is open, as the code asks it
pub asked_some : (o : Option Watermark) → is_some (option_map open_watermark o) ≡ is_some o
asked_some None = refl
asked_some (Some w) = refl

-- the oldest watermark, if no fault applies
oldest_is : (p : Settings) (s : SenderState) → tail_fault p s ≡ None → (w : Watermark) × (oldest s ≡ Some w)
oldest_is p s none = go (oldest s) refl
  where
    go : (o : Option Watermark) → oldest s ≡ o → (w : Watermark) × (oldest s ≡ Some w)
    go (Some w) is = (w, is)
    go None is =
        let accepted = (tail_laws.accepted p s).0 none in
        absurd (none-some accepted.mark (sym (ap (option_map (λ (v : Watermark). v.mark)) is) ∙ accepted.oldest))

is_oldest : (s : SenderState) (w : Watermark) → oldest s ≡ Some w → IsOldest s w.mark
is_oldest s w is = ap (option_map (λ (v : Watermark). v.mark)) is

abbrev only : Settings → TailsSoFar → Option Watermark → TailsSoFar × Option TailRefusal
only p t o = (with_tail_of p t o, None)

once_made : (p : Settings) (t : TailsSoFar) (w : Watermark) → tail_fault p t.world.sender ≡ None → oldest t.world.sender ≡ Some w
    → tail_once p t ≡ (with_tail p (tail_in p t.draws t.last t.world w.mark) t, None)
once_made p t w none is = ap (tail_unless p t) none ∙ ap (only p t) is

once_refused : (p : Settings) (t : TailsSoFar) (why : TailRefusal) → tail_fault p t.world.sender ≡ Some why → tail_once p t ≡ (t, Some why)
once_refused p t why is = ap (tail_unless p t) is

-- a tail was made: the sums, the counts and the lines are those of one tail more
pub makes_one : (p : Settings) (turn : ℕ) (old new : Tails) (t : TailsSoFar) (u v w : Pieces) (turns bound : ℕ) (steps : List TailStep) → AreMade old t u v
    → MakesTail p old.draws new.draws old.last old.world new.world turns bound steps → None ≡ tail_fault p t.world.sender
    → new.last ≡ old.last + turns * p.step → new.turns ≡ old.turns + turns → new.bound ≡ old.bound + bound → new.counts ≡ fold with_step old.counts steps
    → ((s : SenderState) → Stands new.world.sender s → w ≡ gained v (lines_of s steps))
    → AreMade new (refused_after p turn (tail_once p t)).0 u w × (None ≡ (refused_after p turn (tail_once p t)).1)
makes_one p turn old new t u v w turns bound steps here makes none last turned bounded counted wrote =
    let o = oldest_is p t.world.sender (sym none) in
    let tail = tail_in p t.draws t.last t.world o.0.mark in
    let first = subst (λ g. MakesTail p g new.draws old.last old.world new.world turns bound steps) here.draws makes in
    let second = subst (λ n. MakesTail p t.draws new.draws n old.world new.world turns bound steps) here.last first in
    let is : IsTail p t.draws new.draws t.last t.world o.0.mark new.world turns bound steps = second t.world o.0.mark here.stands (is_oldest t.world.sender o.0 o.1) in
    let made = once_made p t o.0 (sym none) o.1 in
    subst (λ m. AreMade new (refused_after p turn m).0 u w × (None ≡ (refused_after p turn m).1)) (sym made) (
      record {
        stands = is.world;
        last = last ∙ ap (λ n. n + turns * p.step) here.last ∙ ap (λ n. t.last + n * p.step) is.turns;
        draws = is.draws;
        turns = turned ∙ ap (λ n. n + turns) here.turns ∙ ap (λ n. t.turns + n) is.turns;
        bound = bounded ∙ ap (λ n. n + bound) here.bound ∙ ap (λ n. t.bound + n) is.bound;
        totals = counted ∙ ap (λ c. fold with_step c steps) here.totals ∙ ap (λ ss. fold with_step t.totals ss) is.steps;
        output = wrote tail.course.world.sender is.world.sender ∙ ap (λ ss. gained v (lines_of tail.course.world.sender ss)) is.steps
            ∙ ap (λ x. gained x (lines_of tail.course.world.sender (steps_of tail.course.happened))) here.output
            ∙ gained-gained u t.lines (lines_of tail.course.world.sender (steps_of tail.course.happened));
      },
      refl,
    )

-- its lines come after those of the tails before it
once_extends : (p : Settings) (t : TailsSoFar) → (more : Lines) × ((tail_once p t).0.lines ≡ t.lines ++ more)
once_extends p t = go (tail_fault p t.world.sender)
  where
    made : (o : Option Watermark) → (more : Lines) × ((with_tail_of p t o).lines ≡ t.lines ++ more)
    made None = ([], sym (append-nil t.lines))
    made (Some w) = (lines_of (tail_in p t.draws t.last t.world w.mark).course.world.sender (steps_of (tail_in p t.draws t.last t.world w.mark).course.happened), refl)

    go : (f : Option TailRefusal) → (more : Lines) × ((tail_unless p t f).0.lines ≡ t.lines ++ more)
    go None = made (oldest t.world.sender)
    go (Some why) = ([], sym (append-nil t.lines))

-- no memory, and nothing was written in this tail
pub one_wants_memory : (p : Settings) (turn : ℕ) (old : Tails) (t : TailsSoFar) (u v : Pieces) → AreMade old t u v
    → LeavesLines fault.Memory u v (refused_after p turn (tail_once p t)).0.lines
one_wants_memory p turn old t u v here =
    let more = once_extends p t in
    leaves_same fault.Memory u v (t.lines ++ more.0) _ (sym more.1) (wants_memory u v t.lines more.0 here.output)

-- a fault broke off its lines
pub one_breaks : (f : SessionFault) (p : Settings) (turn : ℕ) (old : Tails) (new : WorldKept) (h : Lcg) (t : TailsSoFar) (u v w : Pieces) (turns bound : ℕ) (steps : List TailStep)
    → AreMade old t u v → MakesTail p old.draws h old.last old.world new turns bound steps → None ≡ tail_fault p t.world.sender
    → ((s : SenderState) → Stands new.sender s → LeavesLines f v w (lines_of s steps)) → LeavesLines f u w (refused_after p turn (tail_once p t)).0.lines
one_breaks f p turn old new h t u v w turns bound steps here makes none breaks =
    let o = oldest_is p t.world.sender (sym none) in
    let tail = tail_in p t.draws t.last t.world o.0.mark in
    let first = subst (λ g. MakesTail p g h old.last old.world new turns bound steps) here.draws makes in
    let second = subst (λ n. MakesTail p t.draws h n old.world new turns bound steps) here.last first in
    let is : IsTail p t.draws h t.last t.world o.0.mark new turns bound steps = second t.world o.0.mark here.stands (is_oldest t.world.sender o.0 o.1) in
    subst (λ m. LeavesLines f u w (refused_after p turn m).0.lines) (sym (once_made p t o.0 (sym none) o.1))
    (leaves_after f u v w t.lines (lines_of tail.course.world.sender (steps_of tail.course.happened)) here.output
    (leaves_same f v w (lines_of tail.course.world.sender steps) _ (ap (λ ss. lines_of tail.course.world.sender ss) is.steps) (breaks tail.course.world.sender is.world.sender)))

-- what was said of a refusal
none_mapped : (p : Settings) (turn : ℕ) (o : Option TailRefusal) → None ≡ option_map (no_tail p turn) o → o ≡ None
none_mapped p turn None e = refl
none_mapped p turn (Some why) e = absurd (none-some (no_tail p turn why) e)

some_mapped : (p : Settings) (turn : ℕ) (o : Option TailRefusal) (said : NoTail) → Some said ≡ option_map (no_tail p turn) o → (why : TailRefusal) × (o ≡ Some why)
some_mapped p turn None said e = absurd (none-some said (sym e))
some_mapped p turn (Some why) said e = (why, refl)

not_memory : (f : TailFault) (why : TailRefusal) → refusal_of f ≡ Some why → f ≢ unmade.Memory
not_memory f why e is = none-some why (sym (ap refusal_of is) ∙ e)

-- a tail was refused
pub is_refused : (p : Settings) (turn : ℕ) (f : TailFault) (said : NoTail) → Some said ≡ option_map (no_tail p turn) (refusal_of f) → f ≢ unmade.Memory
is_refused p turn f said word =
    let why = some_mapped p turn (refusal_of f) said word in
    not_memory f why.0 why.1

pub refuses_one : (p : Settings) (turn : ℕ) (old new : Tails) (t : TailsSoFar) (u v : Pieces) (f : Option TailRefusal) (said : NoTail) → AreMade old t u v → new ≡ old
    → f ≡ tail_fault p t.world.sender → Some said ≡ option_map (no_tail p turn) f
    → AreMade new (refused_after p turn (tail_once p t)).0 u v × (Some said ≡ (refused_after p turn (tail_once p t)).1)
refuses_one p turn old new t u v f said here same is word =
    let why = some_mapped p turn f said word in
    subst (λ m. AreMade new (refused_after p turn m).0 u v × (Some said ≡ (refused_after p turn m).1)) (sym (once_refused p t why.0 (sym is ∙ why.1)))
    (subst (λ k. AreMade k t u v) (sym same) here, word ∙ ap (option_map (no_tail p turn)) why.1)

-- some world is stood for after a tail
pub may_go_on : (p : Settings) (g h : Lcg) (last : ℕ) (old new : WorldKept) (turns bound : ℕ) (steps : List TailStep) → MayGoOn p old → new.p ≡ old.p → IsReady new
    → MakesTail p g h last old new turns bound steps → ((w : World) → StandsFor old w → None ≡ tail_fault p w.sender) → MayGoOn p new
may_go_on p g h last old new turns bound steps may same ready makes none =
    let o = oldest_is p may.world.sender (sym (none may.world may.stands)) in
    let is = makes may.world o.0.mark may.stands (is_oldest may.world.sender o.0 o.1) in
    record { profile = same ∙ may.profile; ready = ready; world = _; stands = is.world }

-- ---- all tails

abbrev next_by : ℕ → Settings → TailsSoFar → Bool → Option TailRefusal → TailsSoFar × Option TailRefusal
next_by n p t opens f = elim opens [
  | true ↦ elim f [ Some why ↦ (t, Some why) | None ↦ tails_from n p (tail_once p t).0 ]
  | false ↦ (t, None)
]

from_closed : (n : ℕ) (p : Settings) (t : TailsSoFar) → has_open t.world ≡ false → tails_from n p t ≡ (t, None)
unfolding tails_from
from_closed zero p t closed = refl
from_closed (suc n) p t closed = ap (λ b. next_by n p t b (tail_once p t).1) closed

from_refused : (n : ℕ) (p : Settings) (t : TailsSoFar) (why : TailRefusal) → has_open t.world ≡ true → (tail_once p t).1 ≡ Some why
    → tails_from (suc n) p t ≡ (t, Some why)
unfolding tails_from
from_refused n p t why opens is = ap (λ b. next_by n p t b (tail_once p t).1) opens ∙ ap (next_by n p t true) is

from_made : (n : ℕ) (p : Settings) (t : TailsSoFar) → has_open t.world ≡ true → (tail_once p t).1 ≡ None
    → tails_from (suc n) p t ≡ tails_from n p (tail_once p t).0
unfolding tails_from
from_made n p t opens is = ap (λ b. next_by n p t b (tail_once p t).1) opens ∙ ap (next_by n p t true) is

from_none : (p : Settings) (t : TailsSoFar) → tails_from 0 p t ≡ (t, None)
unfolding tails_from
from_none p t = refl

-- their lines come after those of the tails before them
abbrev Extends : TailsSoFar → TailsSoFar × Option TailRefusal → Type 0
Extends t made = (more : Lines) × (made.0.lines ≡ t.lines ++ more)

abbrev lines_in : TailsSoFar × Option TailRefusal → Lines
lines_in made = made.0.lines

extends_none : (t : TailsSoFar) (f : Option TailRefusal) (made : TailsSoFar × Option TailRefusal) → made ≡ (t, f) → Extends t made
extends_none t f made is = ([], ap lines_in is ∙ sym (append-nil t.lines))

extends_next : (n : ℕ) (p : Settings) (t : TailsSoFar) (opens : Bool) (f : Option TailRefusal) → has_open t.world ≡ opens → (tail_once p t).1 ≡ f
    → Extends (tail_once p t).0 (tails_from n p (tail_once p t).0) → Extends t (tails_from (suc n) p t)
extends_next n p t false f closed is rest = extends_none t None (tails_from (suc n) p t) (from_closed (suc n) p t closed)
extends_next n p t true (Some why) opens is rest = extends_none t (Some why) (tails_from (suc n) p t) (from_refused n p t why opens is)
extends_next n p t true None opens is rest =
    let one = once_extends p t in
    (one.0 ++ rest.0, ap lines_in (from_made n p t opens is) ∙ rest.1 ∙ ap (λ ls. ls ++ rest.0) one.1 ∙ append_assoc t.lines one.0 rest.0)

from_extends : (n : ℕ) (p : Settings) (t : TailsSoFar) → Extends t (tails_from n p t)
from_extends zero p t = extends_none t None (tails_from 0 p t) (from_none p t)
from_extends (suc n) p t = extends_next n p t (has_open t.world) (tail_once p t).1 refl refl (from_extends n p (tail_once p t).0)

-- The tails so far, of which the rest makes the whole.
pub record Going (p : Settings) (left : ℕ) (whole : TailsSoFar × Option TailRefusal) (k : Tails) (u w : Pieces) : Type 0 where
  pub made : TailsSoFar
  pub here : AreMade k made u w
  pub whole_is : tails_from left p made ≡ whole

one_left : (most i : ℕ) → i < most → most - i ≡ suc (most - (i + 1))
one_left most i lt = omega (arith, lt)

none_left : (most i : ℕ) → most ≤ i → most - i ≡ 0
none_left most i past = omega (arith, past)

-- no watermark is open any more, or as many tails were made as there were
pub going_ends : (p : Settings) (turn left : ℕ) (whole : TailsSoFar × Option TailRefusal) (k : Tails) (u w : Pieces)
    → ((v : World) → StandsFor k.world v → false ≡ has_open v) → Going p left whole k u w
    → AreMade k (refused_after p turn whole).0 u w × (None ≡ (refused_after p turn whole).1)
going_ends p turn left whole k u w closed g =
    let is = from_closed left p g.made (sym (closed g.made.world g.here.stands)) in
    subst (λ m. AreMade k (refused_after p turn m).0 u w × (None ≡ (refused_after p turn m).1)) (sym is ∙ g.whole_is) (g.here, refl)

pub going_past : (p : Settings) (turn most i : ℕ) (whole : TailsSoFar × Option TailRefusal) (k : Tails) (u w : Pieces) → most ≤ i → Going p (most - i) whole k u w
    → AreMade k (refused_after p turn whole).0 u w × (None ≡ (refused_after p turn whole).1)
going_past p turn most i whole k u w past g =
    let is : tails_from (most - i) p g.made ≡ (g.made, None) = ap (λ n. tails_from n p g.made) (none_left most i past) ∙ from_none p g.made in
    subst (λ m. AreMade k (refused_after p turn m).0 u w × (None ≡ (refused_after p turn m).1)) (sym is ∙ g.whole_is) (g.here, refl)

-- one tail was refused
-- a tail that is refused leaves what was made before it
refused_is : (p : Settings) (t : TailsSoFar) (why : TailRefusal) → (tail_once p t).1 ≡ Some why → tail_once p t ≡ (t, Some why)
refused_is p t why = go (tail_fault p t.world.sender)
  where
    go : (f : Option TailRefusal) → (tail_unless p t f).1 ≡ Some why → tail_unless p t f ≡ (t, Some why)
    go None e = absurd (none-some why e)
    go (Some other) e = ap (λ o. (t, o)) e

pub going_refused : (p : Settings) (turn most i : ℕ) (whole : TailsSoFar × Option TailRefusal) (k n : Tails) (u v w : Pieces) (said : NoTail) → i < most
    → ((x : World) → StandsFor k.world x → true ≡ has_open x)
    → ((t : TailsSoFar) (x : Pieces) → AreMade k t x v → AreMade n (refused_after p turn (tail_once p t)).0 x w × (Some said ≡ (refused_after p turn (tail_once p t)).1))
    → Going p (most - i) whole k u v → AreMade n (refused_after p turn whole).0 u w × (Some said ≡ (refused_after p turn whole).1)
going_refused p turn most i whole k n u v w said lt opens goes g =
    let next = goes g.made u g.here in
    let f = some_mapped p turn (tail_once p g.made).1 said next.1 in
    let once = refused_is p g.made f.0 f.1 in
    let is : tails_from (most - i) p g.made ≡ tail_once p g.made = ap (λ n. tails_from n p g.made) (one_left most i lt)
    ∙ from_refused (most - (i + 1)) p g.made f.0 (sym (opens g.made.world g.here.stands)) f.1 ∙ sym once in
    subst (λ m. AreMade n (refused_after p turn m).0 u w × (Some said ≡ (refused_after p turn m).1)) (sym is ∙ g.whole_is) next

-- one tail more was made
pub going_on_more : (p : Settings) (turn most i : ℕ) (whole : TailsSoFar × Option TailRefusal) (k n : Tails) (u v w : Pieces) → i < most
    → ((x : World) → StandsFor k.world x → true ≡ has_open x)
    → ((t : TailsSoFar) (x : Pieces) → AreMade k t x v → AreMade n (refused_after p turn (tail_once p t)).0 x w × (None ≡ (refused_after p turn (tail_once p t)).1))
    → Going p (most - i) whole k u v → Going p (most - (i + 1)) whole n u w
going_on_more p turn most i whole k n u v w lt opens goes g =
    let next = goes g.made u g.here in
    let f = none_mapped p turn (tail_once p g.made).1 next.1 in
    record {
      made = (tail_once p g.made).0;
      here = next.0;
      whole_is = sym (from_made (most - (i + 1)) p g.made (sym (opens g.made.world g.here.stands)) f) ∙ ap (λ m. tails_from m p g.made) (sym (one_left most i lt)) ∙ g.whole_is;
    }

-- a fault broke off one tail
pub going_breaks : (f : SessionFault) (p : Settings) (turn most i : ℕ) (whole : TailsSoFar × Option TailRefusal) (k : Tails) (u v w : Pieces) → i < most
    → ((x : World) → StandsFor k.world x → true ≡ has_open x)
    → ((t : TailsSoFar) (x : Pieces) → AreMade k t x v → LeavesLines f x w (refused_after p turn (tail_once p t)).0.lines)
    → Going p (most - i) whole k u v → LeavesLines f u w (refused_after p turn whole).0.lines
going_breaks f p turn most i whole k u v w lt opens breaks g =
    let b = breaks g.made u g.here in
    let opened = sym (opens g.made.world g.here.stands) in
    let at : tails_from (most - i) p g.made ≡ tails_from (suc (most - (i + 1))) p g.made = ap (λ n. tails_from n p g.made) (one_left most i lt) in
    go (tail_once p g.made).1 refl b opened at
  where
    go : (o : Option TailRefusal) → (tail_once p g.made).1 ≡ o → LeavesLines f u w (tail_once p g.made).0.lines → has_open g.made.world ≡ true
        → tails_from (most - i) p g.made ≡ tails_from (suc (most - (i + 1))) p g.made → LeavesLines f u w whole.0.lines
    go (Some why) is b opened at =
        leaves_same f u w (tail_once p g.made).0.lines whole.0.lines
        (ap lines_in
        (refused_is p g.made why is ∙ sym (from_refused (most - (i + 1)) p g.made why opened is) ∙ sym at ∙ g.whole_is)) b
    go None is b opened at =
        let more = from_extends (most - (i + 1)) p (tail_once p g.made).0 in
        leaves_same f u w ((tail_once p g.made).0.lines ++ more.0) whole.0.lines
        (sym more.1 ∙ ap lines_in (sym (from_made (most - (i + 1)) p g.made opened is) ∙ sym at ∙ g.whole_is))
        (leaves_more f u w (tail_once p g.made).0.lines more.0 b)

-- as the first tail begins
pub going_begins : (p : Settings) (most : ℕ) (k : Tails) (t : TailsSoFar) (u w : Pieces) → most ≡ length (open_watermarks t.world.sender) → AreMade k t u w
    → Going p (most - 0) (tails_of p t) k u w
going_begins p most k t u w all here =
    let is : most - 0 ≡ most = omega arith in
    record { made = t; here = here; whole_is = ap (λ n. tails_from n p t) (is ∙ all) }

-- ---- after the turns

-- no tails, of a session that stopped
pub none_made : (j : Judged) (p : Paused) (k : Tails) (u : Pieces) → k ≡ record { turns = 0; bound = 0; last = p.last; draws = p.draws; counts = p.counts; world = p.world }
    → IsReadOff j p → StandsFor p.world j.world → AreMade k (no_tails j) u u
none_made j p k u same is stands = subst (λ x. AreMade x (no_tails j) u u) (sym same) (record {
  stands = stands;
  last = is.last;
  draws = is.draws;
  turns = refl;
  bound = refl;
  totals = is.counts;
  output = sym (gained-nil u);
})

-- what the code asks, in place of what the judge's state says
pub going_is : (p : Settings) (j : Judged) (turned : Turned) (waits opens : Bool) → IsTurned turned j → turned.waiting ≡ waits → has_open j.world ≡ opens
    → going_on_if waits opens p turned.turn (no_tails j) ≡ going_on p j
going_is p j turned waits opens is waiting opened =
    ap (λ n. going_on_if waits opens p n (no_tails j)) is.turn
    ∙ ap (λ b. going_on_if b opens p j.turn (no_tails j)) (sym waiting ∙ is.waiting)
    ∙ ap (λ b. going_on_if (has_commands j) b p j.turn (no_tails j)) (sym opened)

lines_are : (p : Settings) (j : Judged) (turned : Turned) (whole : Bool) → IsTurned turned j → turned.whole ≡ whole
    → lines_if whole j.totals (going_on p j) ≡ lines_after p j
lines_are p j turned whole is same = ap (λ b. lines_if b j.totals (going_on p j)) (sym same ∙ is.whole)

ending_is : (p : Settings) (j : Judged) (turned : Turned) (whole : Bool) → IsTurned turned j → turned.whole ≡ whole
    → ending_if whole (going_on p j) ≡ ending_after p j
ending_is p j turned whole is same = ap (λ b. ending_if b (going_on p j)) (sym same ∙ is.whole)

-- a session that is whole
pub whole_breaks : (f : SessionFault) (p : Settings) (j : Judged) (turned : Turned) (k : Tails) (u w : Pieces) → IsTurned turned j → turned.whole ≡ true
    → AreMade k (no_tails j) u u → IsUnwritten f u w (Some (end_line k.counts)) → LeavesLines f u w (lines_after p j)
whole_breaks f p j turned k u w is whole here un =
    leaves_same f u w (end_line k.counts ∷ []) _ (ap (λ c. end_line c ∷ []) here.totals ∙ lines_are p j turned true is whole) (leaves_one f u w (Some (end_line k.counts)) un)

pub whole_ends : (p : Settings) (j : Judged) (turned : Turned) (k : Tails) (u w : Pieces) → IsTurned turned j → turned.whole ≡ true → AreMade k (no_tails j) u u
    → w ≡ gained u (end_line k.counts ∷ []) → (Done ≡ ending_after p j) × (w ≡ gained u (lines_after p j))
whole_ends p j turned k u w is whole here out =
    (ending_is p j turned true is whole, out ∙ ap (gained u) (ap (λ c. end_line c ∷ []) here.totals ∙ lines_are p j turned true is whole))

-- one that is not: a fault in a tail, in the summary, in the last line, or none
pub tail_breaks : (f : SessionFault) (p : Settings) (j : Judged) (turned : Turned) (u w : Pieces) → IsTurned turned j → turned.whole ≡ false
    → LeavesLines f u w (going_on p j).0.lines → LeavesLines f u w (lines_after p j)
tail_breaks f p j turned u w is whole h =
    let g = going_on p j in
    leaves_same f u w (lines_with g) _ (lines_are p j turned false is whole)
    (leaves_more f u w g.0.lines (end_line g.0.totals ∷ last_line g.0.turns g.0.bound g.1 ∷ []) h)

pub end_breaks : (f : SessionFault) (p : Settings) (j : Judged) (turned : Turned) (n : Tails) (u v w : Pieces) → IsTurned turned j → turned.whole ≡ false
    → AreMade n (going_on p j).0 u v → IsUnwritten f v w (Some (end_line n.counts)) → LeavesLines f u w (lines_after p j)
end_breaks f p j turned n u v w is whole here un =
    let g = going_on p j in
    let one = leaves_same f v w (end_line n.counts ∷ []) (end_line g.0.totals ∷ []) (ap (λ c. end_line c ∷ []) here.totals) (leaves_one f v w (Some (end_line n.counts)) un) in
    leaves_same f u w (lines_with g) _ (lines_are p j turned false is whole)
    (leaves_after f u v w g.0.lines (end_line g.0.totals ∷ last_line g.0.turns g.0.bound g.1 ∷ []) here.output
    (leaves_more f v w (end_line g.0.totals ∷ []) (last_line g.0.turns g.0.bound g.1 ∷ []) one))

last_is : (g : Made) (n : Tails) (u v : Pieces) (why : Option NoTail) → AreMade n g.0 u v → why ≡ g.1 → last_line n.turns n.bound why ≡ last_line g.0.turns g.0.bound g.1
last_is g n u v why here same =
    ap (λ x. last_line x n.bound why) here.turns ∙ ap (λ x. last_line g.0.turns x why) here.bound ∙ ap (last_line g.0.turns g.0.bound) same

pub last_breaks : (f : SessionFault) (p : Settings) (j : Judged) (turned : Turned) (n : Tails) (why : Option NoTail) (u v x w : Pieces) → IsTurned turned j
    → turned.whole ≡ false → AreMade n (going_on p j).0 u v → why ≡ (going_on p j).1 → x ≡ gained v (end_line n.counts ∷ [])
    → IsUnwritten f x w (Some (last_line n.turns n.bound why)) → LeavesLines f u w (lines_after p j)
last_breaks f p j turned n why u v x w is whole here same out un =
    let g = going_on p j in
    let last = last_line g.0.turns g.0.bound g.1 in
    let one = leaves_same f x w (last_line n.turns n.bound why ∷ []) (last ∷ []) (ap (λ l. l ∷ []) (last_is g n u v why here same))
    (leaves_one f x w (Some (last_line n.turns n.bound why)) un) in
    leaves_same f u w (lines_with g) _ (lines_are p j turned false is whole)
    (leaves_after f u v w g.0.lines (end_line g.0.totals ∷ last ∷ []) here.output
    (leaves_after f v x w (end_line g.0.totals ∷ []) (last ∷ []) (out ∙ ap (λ c. gained v (end_line c ∷ [])) here.totals) one))

pub tail_ends : (p : Settings) (j : Judged) (turned : Turned) (n : Tails) (why : Option NoTail) (u v x w : Pieces) → IsTurned turned j
    → turned.whole ≡ false → AreMade n (going_on p j).0 u v → why ≡ (going_on p j).1 → x ≡ gained v (end_line n.counts ∷ [])
    → w ≡ gained x (last_line n.turns n.bound why ∷ []) → (ending_of n.turns n.bound why ≡ ending_after p j) × (w ≡ gained u (lines_after p j))
tail_ends p j turned n why u v x w is whole here same out last =
    let g = going_on p j in (
      ap (λ m. ending_of m n.bound why) here.turns ∙ ap (λ m. ending_of g.0.turns m why) here.bound ∙ ap (ending_of g.0.turns g.0.bound) same
          ∙ ending_is p j turned false is whole,
      last ∙ ap (λ l. gained x (l ∷ [])) (last_is g n u v why here same)
          ∙ ap (λ y. gained y (last_line g.0.turns g.0.bound g.1 ∷ [])) (out ∙ ap (λ c. gained v (end_line c ∷ [])) here.totals)
          ∙ gained-gained v (end_line g.0.totals ∷ []) (last_line g.0.turns g.0.bound g.1 ∷ [])
          ∙ ap (λ y. gained y (end_line g.0.totals ∷ last_line g.0.turns g.0.bound g.1 ∷ [])) here.output
          ∙ gained-gained u g.0.lines (end_line g.0.totals ∷ last_line g.0.turns g.0.bound g.1 ∷ [])
          ∙ ap (gained u) (lines_are p j turned false is whole),
    )
