-- The turns of a tail.
use Rattle.std.proofs.Common.{◌≡◌, ℕ, zero, suc, ◌+◌, ◌-◌, ◌*◌, ◌<◌, ◌≤◌, List, Bool, true, false, refl, sym, ap, ◌∙◌, subst, arith}
use Rattle.rand_pcg.specs.Lcg.{Lcg}
use Rattle.norm_base.specs.Settings.{Settings}
use Rattle.norm_tail.specs.Ending.{Ends}
use Rattle.norm_tail.specs.SoFar.{Context, At, Stopped}
use Rattle.norm_tail.specs.Steps.{words_of}
use Rattle.norm_safety.specs.Tail.{Course, sender_ticks, goes_round, is_open_mark, cut_turn, Tail, turn_more, tail_until}
use Rattle.norm_tail.specs.declared.step.TailStep.{TailStep}
use Rattle.norm_tail.proofs.ExtendLemmas.{stopped_later, until_extends}
use Rattle.norm_world.specs.WorldKept.{WorldKept}

-- ---- a turn, whole or cut

pub cut_by : (p : Settings) (draws : ℕ → ℕ) (mark now : ℕ) (c : Course) → is_open_mark (sender_ticks p now c).world mark ≡ false
    → sender_ticks p now c ≡ cut_turn p draws mark now c
cut_by p draws mark now c is =
    sym (ap (λ (b : Bool). elim b as (λ _. Course) [ true ↦ goes_round p draws now (sender_ticks p now c) | false ↦ sender_ticks p now c ]) is)

pub whole_by : (p : Settings) (draws : ℕ → ℕ) (mark now : ℕ) (c : Course) → is_open_mark (sender_ticks p now c).world mark ≡ true
    → goes_round p draws now (sender_ticks p now c) ≡ cut_turn p draws mark now c
whole_by p draws mark now c is =
    sym (ap (λ (b : Bool). elim b as (λ _. Course) [ true ↦ goes_round p draws now (sender_ticks p now c) | false ↦ sender_ticks p now c ]) is)

-- ---- turns so far

-- a tail on its way to another, by so many turns more at most
pub record Turning (x : Context) (mark left : ℕ) (whole : Tail) (turns now : ℕ) (k : WorldKept) (steps : List TailStep) (g : Lcg) : Type 0 where
  pub tail : Tail
  pub here : At x tail.course k steps g
  pub last : tail.last ≡ now
  pub whole_is : tail_until left x.p (words_of x.draws) mark tail ≡ whole

-- that counts its turns
pub record Counting (x : Context) (mark left : ℕ) (whole : Tail) (turns now : ℕ) (k : WorldKept) (steps : List TailStep) (g : Lcg) : Type 0 where
  pub turning : Turning x mark left whole turns now k steps g
  pub count : turning.tail.turns ≡ turns

until_more : (left : ℕ) (p : Settings) (draws : ℕ → ℕ) (mark : ℕ) (t : Tail) → is_open_mark t.course.world mark ≡ true
    → tail_until left p draws mark (turn_more p draws mark t) ≡ tail_until (suc left) p draws mark t
unfolding tail_until
until_more left p draws mark t is =
    sym (ap (λ (b : Bool). elim b as (λ _. Tail) [ true ↦ tail_until left p draws mark (turn_more p draws mark t) | false ↦ t ]) is)

until_done : (left : ℕ) (p : Settings) (draws : ℕ → ℕ) (mark : ℕ) (t : Tail) → is_open_mark t.course.world mark ≡ false
    → t ≡ tail_until left p draws mark t
unfolding tail_until
until_done zero p draws mark t is = refl
until_done (suc left) p draws mark t is =
    sym (ap (λ (b : Bool). elim b as (λ _. Tail) [ true ↦ tail_until left p draws mark (turn_more p draws mark t) | false ↦ t ]) is)

until_over : (p : Settings) (draws : ℕ → ℕ) (mark : ℕ) (t : Tail) → t ≡ tail_until 0 p draws mark t
unfolding tail_until
until_over p draws mark t = refl

one_less : (end counter : ℕ) → counter < end → end - counter ≡ suc (end - (counter + 1))
one_less end counter lt = omega (arith, lt)

more_is : (x : Context) (mark end counter : ℕ) (whole t : Tail) → counter < end → is_open_mark t.course.world mark ≡ true
    → tail_until (end - counter) x.p (words_of x.draws) mark t ≡ whole
    → tail_until (end - (counter + 1)) x.p (words_of x.draws) mark (turn_more x.p (words_of x.draws) mark t) ≡ whole
more_is x mark end counter whole t lt is goes =
    until_more (end - (counter + 1)) x.p (words_of x.draws) mark t is
    ∙ ap (λ n. tail_until n x.p (words_of x.draws) mark t) (sym (one_less end counter lt)) ∙ goes

pub turned_on : (x : Context) (mark end counter now next : ℕ) (whole : Tail) (old new : WorldKept) (before after : List TailStep) (g h : Lcg) → counter < end
    → next ≡ now + old.p.step → ((c : Course) → At x c old before g → is_open_mark c.world mark ≡ true)
    → ((c : Course) → At x c old before g → At x (cut_turn x.p (words_of x.draws) mark next c) new after h)
    → Counting x mark (end - counter) whole counter now old before g → Counting x mark (end - (counter + 1)) whole (counter + 1) next new after h
turned_on x mark end counter now next whole old new before after g h lt is opens step t =
    let u = t.turning in
    let moment : next ≡ u.tail.last + x.p.step = is ∙ ap (λ (q : Settings). now + q.step) u.here.profile ∙ ap (λ n. n + x.p.step) (sym u.last) in
    record {
      turning = record {
        tail = turn_more x.p (words_of x.draws) mark u.tail;
        here = subst (λ n. At x (cut_turn x.p (words_of x.draws) mark n u.tail.course) new after h) moment (step u.tail.course u.here);
        last = sym moment;
        whole_is = more_is x mark end counter whole u.tail lt (opens u.tail.course u.here) u.whole_is;
      };
      count = ap (λ n. n + 1) t.count;
    }

pub turn_stops : (x : Context) (mark end counter now next : ℕ) (whole : Tail) (old new : WorldKept) (before : List TailStep) (g : Lcg) → counter < end
    → next ≡ now + old.p.step → ((c : Course) → At x c old before g → is_open_mark c.world mark ≡ true)
    → ((c : Course) → At x c old before g → Stopped x (cut_turn x.p (words_of x.draws) mark next c) new)
    → Counting x mark (end - counter) whole counter now old before g → Stopped x whole.course new
turn_stops x mark end counter now next whole old new before g lt is opens stops t =
    let u = t.turning in
    let moment : next ≡ u.tail.last + x.p.step = is ∙ ap (λ (q : Settings). now + q.step) u.here.profile ∙ ap (λ n. n + x.p.step) (sym u.last) in
    let more : Tail = turn_more x.p (words_of x.draws) mark u.tail in
    let left = end - (counter + 1) in
    subst (λ (v : Tail). Stopped x v.course new) (more_is x mark end counter whole u.tail lt (opens u.tail.course u.here) u.whole_is)
    (stopped_later x more.course (tail_until left x.p (words_of x.draws) mark more).course new
    (subst (λ n. Stopped x (cut_turn x.p (words_of x.draws) mark n u.tail.course) new) moment (stops u.tail.course u.here))
    (until_extends x.p (words_of x.draws) left mark more))

pub turned_done : (x : Context) (mark left turns now : ℕ) (whole : Tail) (k : WorldKept) (steps : List TailStep) (g : Lcg)
    → ((c : Course) → At x c k steps g → is_open_mark c.world mark ≡ false) → Counting x mark left whole turns now k steps g → Ends x whole turns k steps g
turned_done x mark left turns now whole k steps g done t =
    let u = t.turning in
    subst (λ (v : Tail). Ends x v turns k steps g)
    (until_done left x.p (words_of x.draws) mark u.tail (done u.tail.course u.here) ∙ u.whole_is) (record { here = u.here; count = sym t.count })

pub turned_all : (x : Context) (mark end counter now : ℕ) (whole : Tail) (k : WorldKept) (steps : List TailStep) (g : Lcg) → end ≤ counter → counter ≤ end
    → Counting x mark (end - counter) whole counter now k steps g → Ends x whole end k steps g
turned_all x mark end counter now whole k steps g past within t =
    let u = t.turning in
    let none : 0 ≡ end - counter = omega (arith, past) in
    let all : end ≡ counter = omega (arith, past, within) in
    subst (λ (v : Tail). Ends x v end k steps g)
    (until_over x.p (words_of x.draws) mark u.tail ∙ ap (λ n. tail_until n x.p (words_of x.draws) mark u.tail) none ∙ u.whole_is)
    (record { here = u.here; count = all ∙ sym t.count })

-- ---- moments

-- the next one has 64 bits, and so have those that follow
pub next_fits : (now step end counter most : ℕ) → counter < end → now + (end - counter) * step < most → (now + step) + (end - (counter + 1)) * step < most
next_fits now step end counter most lt fits = subst (λ n. n < most) (same (end - (counter + 1)) ∙ refl) (subst (λ n. now + n * step < most) (one_less end counter lt) fits)
  where
    same : (n : ℕ) → now + suc n * step ≡ (now + step) + n * step
    same n = grind arith

pub this_fits : (now step end counter most : ℕ) → counter < end → now + (end - counter) * step < most → now + step < most
this_fits now step end counter most lt fits = let next = next_fits now step end counter most lt fits in omega (arith, next)
