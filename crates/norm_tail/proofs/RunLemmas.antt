-- A whole tail.
use Rattle.std.proofs.Common.{◌≡◌, ℕ, ◌+◌, ◌*◌, List, [], ◌∷◌, Bool, true, false, Some, Result, Err, refl, sym, ap, ◌∙◌, subst}
use Rattle.std.specs.Prelude.{IfErr, is_none, option_map}
use Rattle.std.specs.Int.{div_ceil}
use Rattle.rand_pcg.specs.Lcg.{Lcg}
use Rattle.norm_base.specs.Settings.{Settings}
use Rattle.norm_order.specs.First.{first_where}
use Rattle.norm_safety.specs.World.{World}
use Rattle.norm_send_rules.specs.Repairable.{repairable}
use Rattle.norm_send_rules.specs.SenderState.{SenderState, Watermark}
use Rattle.norm_send_rules.specs.Watermarks.{oldest}
use Rattle.norm_tail.specs.Ending.{tail_in, IsTail, Ends}
use Rattle.norm_safety.specs.Recovery.{IsOldest}
use Rattle.norm_tail.specs.SoFar.{Context, At, Stopped}
use Rattle.norm_tail.specs.Steps.{words_of}
use Rattle.norm_safety.specs.Tail.{course_from, Tail, NoRequest, tail_until, tail_bound, tail_fault}
use Rattle.norm_tail.specs.declared.fault.TailFault.{TailFault}
use Rattle.norm_tail.specs.declared.fault.TailFault.TheVariants as fault
use Rattle.norm_tail.specs.declared.step.TailStep.{TailStep}
use Rattle.norm_world.specs.WorldKept.{WorldKept, StandsFor}

-- ---- want of memory

pub at_memory : {T : Type 0} (P : TailFault → Type 0) (r : Result T TailFault) (why : TailFault) → r ≡ Err why → why ≡ fault.Memory → P fault.Memory → IfErr r P
at_memory P r why is same h = subst (λ s. IfErr s P) (sym is) (subst P (sym same) h)

-- ---- a tail begins

abbrev pub over : Settings → Lcg → World → Context
over p g w = record { p = p; world = w; draws = g }

abbrev pub first_tail : ℕ → World → Tail
first_tail last w = record { turns = 0; last = last; course = course_from w }

pub begins : (p : Settings) (g : Lcg) (w : World) (k : WorldKept) → k.p ≡ p → StandsFor k w → At (over p g w) (course_from w) k [] g
begins p g w k same stands = record { profile = same; led = refl; stands = stands; answered = refl; drawn = refl }

some_same : {X : Type 0} (x y : X) → Some x ≡ Some y → x ≡ y
some_same x y e = cc

pub mark_is : (s : SenderState) (m mark : ℕ) → Some m ≡ option_map (λ (w : Watermark). w.mark) (oldest s) → IsOldest s mark → m ≡ mark
mark_is s m mark is oldest = some_same m mark (is ∙ oldest)

pub bound_is : (p q : Settings) (w : World) (many bound : ℕ) → q ≡ p → many ≡ repairable q w.sender
    → bound ≡ div_ceil ((many + 1) * (4 * p.k + 10) * p.grtt) p.step → bound ≡ tail_bound p w.sender
bound_is p q w many bound same counts is =
    is ∙ ap (λ n. div_ceil ((n + 1) * (4 * p.k + 10) * p.grtt) p.step) (counts ∙ ap (λ (r : Settings). repairable r w.sender) same)

first_here : {X : Type 0} (b : Bool) (x : X) (rows : List (Bool × X)) → b ≡ true → Some x ≡ first_where ((b, x) ∷ rows)
unfolding first_where
first_here true x rows e = refl
first_here false x rows e = absurd (cc)

-- no watermark is open
pub closed_refuses : (p : Settings) (s : SenderState) → is_none (oldest s) ≡ true → Some NoRequest ≡ tail_fault p s
closed_refuses p s is = first_here (is_none (oldest s)) NoRequest _ is

-- ---- it ends

pub made : (p : Settings) (g h : Lcg) (last : ℕ) (w : World) (mark m bound turns : ℕ) (old new : WorldKept) (steps : List TailStep) → old.p ≡ p → StandsFor old w
    → m ≡ mark → bound ≡ tail_bound p w.sender
    → ((x : Context) (t : Tail) → t.turns ≡ 0 → t.last ≡ last → At x t.course old [] g → Ends x (tail_until bound x.p (words_of x.draws) m t) turns new steps h)
    → IsTail p g h last w mark new turns bound steps
made p g h last w mark m bound turns old new steps same stands mark_is bound_is goes =
    let x = over p g w in
    let t = first_tail last w in
    let e = goes x t refl refl (begins p g w old same stands) in
    let f = subst (λ n. Ends x (tail_until n p (words_of g) mark t) turns new steps h) bound_is
    (subst (λ n. Ends x (tail_until bound p (words_of g) n t) turns new steps h) mark_is e) in
    record { turns = f.count; bound = bound_is; steps = f.here.answered; world = f.here.stands; draws = f.here.drawn }

pub broken : (p : Settings) (g : Lcg) (last : ℕ) (w : World) (mark m bound : ℕ) (old new : WorldKept) → old.p ≡ p → StandsFor old w → m ≡ mark
    → bound ≡ tail_bound p w.sender
    → ((x : Context) (t : Tail) → t.turns ≡ 0 → t.last ≡ last → At x t.course old [] g → Stopped x (tail_until bound x.p (words_of x.draws) m t).course new)
    → Stopped (over p g w) (tail_in p g last w mark).course new
broken p g last w mark m bound old new same stands mark_is bound_is stops =
    let x = over p g w in
    let t = first_tail last w in
    subst (λ n. Stopped x (tail_until n p (words_of g) mark t).course new) bound_is
    (subst (λ n. Stopped x (tail_until bound p (words_of g) n t).course new) mark_is (stops x t refl refl (begins p g w old same stands)))
